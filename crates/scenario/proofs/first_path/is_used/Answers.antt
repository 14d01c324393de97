use Rattle.std.proofs.Common.{refl, sym, ◌∙◌}
use Rattle.scenario.proofs.PlaceLemmas.{is_there, no_place}
use Rattle.scenario.proofs.first_path.is_used.Goals as goal

pub returns-in-Some-clause-used : goal.returns-in-Some-clause-used
returns-in-Some-clause-used c = (λ h. is_there c.args.names.now c.args.name.now c.in-Some.field-0 (sym c.place.ensures ∙ c.in-Some.is), λ h. refl)

pub returns-in-None-clause-used : goal.returns-in-None-clause-used
returns-in-None-clause-used c = (λ h. absurd (cc), λ h. absurd (no_place c.args.names.now c.args.name.now (sym c.place.ensures ∙ c.in-None.is) h))
