use Rattle.std.proofs.Common.{ℕ, List, Vec, Global, Option, ap, ◌∙◌}
use Rattle.std.specs.Prelude.{option_map}
use Rattle.serde_json.specs.View.{view}
use Rattle.zone_compile.specs.Json.{config_data}
use Rattle.zone_compile.proofs.JsonLemmas.{all_in_order, float_free, text_of_same}
use Rattle.zone_compile.proofs.json_form.json.Goals as goal

pub returns : goal.returns
returns c =
    let partition : Option (List ℕ) = option_map (λ region. region.now) c.args.partition in
    c.from_vec.ensures ∙ ap (λ (x : Vec ℕ Global). x.items) c.into_bytes.ensures.value
    ∙ text_of_same (view c.in_ok-value.value) (config_data c.args.c.now c.args.range.0 c.args.table.now partition) _
    (c.in_ok-value.ensures ∙ all_in_order c.args.c.now c.args.range.0 c.args.table.now partition)
    (float_free c.args.c.now c.args.range.0 c.args.table.now partition) c.in_ok-text.ensures.text
