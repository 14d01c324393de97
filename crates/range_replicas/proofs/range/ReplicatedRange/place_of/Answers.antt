use Rattle.std.proofs.Common.{◌∙◌, position, sym, ap, subst}
use Rattle.range_replicas.proofs.PlaceLemmas.{place_found}
use Rattle.range_replicas.specs.RangeValue.{is_at}
use Rattle.range_replicas.specs.Sound.{IsSound}
use Rattle.range_replicas.proofs.range.ReplicatedRange.place_of.Goals as goal

pub returns : goal.returns
returns c = rw (← c.self.view_is) (place_found _ (subst IsSound (sym c.self.view_is) c.requires) c.args.node c.place_in.result
    (c.place_in.ensures ∙ ap (position (is_at c.args.node)) c.as_slice.ensures.value))
