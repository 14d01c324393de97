use Rattle.std.proofs.Common.{◌++◌, ap, ◌∙◌, position, arith}
use Rattle.std.specs.Option.{option_to_list}
use Rattle.std.specs.Str.{bytes_eq}
use Rattle.descriptors.proofs.Steps.{filter_map_step}
use Rattle.descriptors.proofs.columns.places_of.Goals as goal

pub loop-name-preserved : goal.loop-name-preserved
loop-name-preserved c =
    let here = c.place_of_column.ensures ∙ ap (λ n. position (λ x. bytes_eq n x.0) c.args.columns.now) (c.as_slice.ensures ∙ c.name-item.is) in
    c.in_ok-push_some.ensures ∙ ap (λ o. c.loop-name.places ++ option_to_list o) here
    ∙ filter_map_step (λ n. position (λ x. bytes_eq n x.0) c.args.columns.now) c.args.names.now c.loop-name.name-index c.name-item.result c.loop-name.places (omega arith) c.loop-name.invariant
