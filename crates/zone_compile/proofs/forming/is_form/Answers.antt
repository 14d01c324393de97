use Rattle.std.proofs.Common.{◌∙◌, sym, true≢false, inl, inr}
use Rattle.zone_compile.proofs.Formed.{form_with}
use Rattle.zone_compile.proofs.forming.is_form.Goals as goal

pub returns-clause-recognised : goal.returns-clause-recognised
returns-clause-recognised c = λ form. elim (form_with c.args.c.now c.in-Some.home c.in-Some-goal.goal c.in-Some.is c.in-Some-goal.is form) [
  | inl kept ↦ absurd (true≢false (sym (c.is_kept_at.ensures.1 kept) ∙ c.if-is_kept_at.false))
  | inr spread ↦ c.is_spread_over.ensures.1 spread
]
