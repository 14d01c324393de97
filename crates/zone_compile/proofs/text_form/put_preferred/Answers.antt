use Rattle.std.proofs.Common.{◌≡◌, ℕ, List, ◌++◌, codes, append_assoc, ap, ◌∙◌}
use Rattle.std.proofs.lemmas.Result.{on_ok_weaker}
use Rattle.zone_compile.proofs.text_form.put_preferred.Goals as goal

-- three pieces put one after the other
three_put : (a b c d x y y' z : List ℕ) → b ≡ a ++ x → c ≡ b ++ y' → y' ≡ y → d ≡ c ++ z → d ≡ a ++ (x ++ y ++ z)
three_put a b c d x y y' z e f same g = g ∙ ap (λ s. s ++ z) (f ∙ ap (λ s. b ++ s) same ∙ ap (λ s. s ++ y) e) ∙ simp append_assoc

pub returns : goal.returns
returns c =
    on_ok_weaker c.put-3.result
    (λ last. three_put c.args.out.now.items c.put.new.out.items c.put-2.new.out.items c.put-3.new.out.items (codes "'[[+region=") c.args.home.now c.as_slice.result.now (codes "]]'") c.in_ok-put.ensures c.in_ok-put-2.ensures c.as_slice.ensures last)
    c.put-3.ensures
