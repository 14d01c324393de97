use Rattle.std.proofs.Common.{ap, sym, ◌∙◌}
use Rattle.scenario.specs.declared.seen.Seen.{Seen}
use Rattle.scenario.specs.NamePlaces.{place_of}
use Rattle.scenario.proofs.PlaceLemmas.{found_place, no_place}
use Rattle.scenario.proofs.reader.Scenario.txn.Goals as goal

pub returns-clause-found : goal.returns-clause-found
returns-clause-found c =
    found_place c.args.self.now.names c.args.name.now c.in_ok-place.place (ap (λ (s : Seen). place_of s.names c.args.name.now) (sym c.self.view_is) ∙ sym c.place.ensures ∙ c.in_ok-place.was)

pub returns-in_err-place-clause-none : goal.returns-in_err-place-clause-none
returns-in_err-place-clause-none c =
    rw c.from_residual.ensures
    (no_place c.args.self.now.names c.args.name.now (ap (λ (s : Seen). place_of s.names c.args.name.now) (sym c.self.view_is) ∙ sym c.place.ensures ∙ c.in_err-place.was))
