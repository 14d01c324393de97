use Rattle.std.proofs.Common.{◌≡◌, ℕ, List, [], ◌∷◌, ◌++◌, refl, arith, sym, subst, ◌∙◌}
use Rattle.std.specs.Prelude.{◌↔◌, Bool, false, IsTrue, Contains, codes}
use Rattle.std.proofs.lemmas.Bool.{false≢true}
use Rattle.std.proofs.lemmas.List.Elements.{All-contains, Contains-append_right}
use Rattle.scenario.specs.FirstPath.{IsNameByte, IsTxnName, IsTxnLine}

blank_is_no_name_byte : (b : ℕ) → b ≡ 32 → IsNameByte b → ⊥
blank_is_no_name_byte b e h = grind arith

pub no_blank : (name : List ℕ) → IsTxnName name → ¬ Contains name 32
no_blank name is has = blank_is_no_name_byte 32 refl (All-contains IsNameByte name 32 is.plain has)

at_head : (c : ℕ) (b : List ℕ) → c ≡ 32 → Contains (c ∷ b) 32
at_head c b e = (0, omega arith, e)

-- a text splits at its first blank in one way
pub first_blank : (a b x y : List ℕ) → ¬ Contains a 32 → ¬ Contains b 32 → a ++ 32 ∷ x ≡ b ++ 32 ∷ y → (a ≡ b) × (x ≡ y)
first_blank [] [] x y na nb e = (refl, cc)
first_blank [] (c ∷ b) x y na nb e = absurd (nb (at_head c b cc))
first_blank (c ∷ a) [] x y na nb e = absurd (na (at_head c a cc))
first_blank (c ∷ a) (d ∷ b) x y na nb e =
    let rest : a ++ 32 ∷ x ≡ b ++ 32 ∷ y = cc in
    let r : (a ≡ b) × (x ≡ y) = first_blank a b x y (λ h. na (Contains-append_right (c ∷ []) a 32 h)) (λ h. nb (Contains-append_right (d ∷ []) b 32 h)) rest in
    (cc, r.1)

cancel : (p a b : List ℕ) → p ++ a ≡ p ++ b → a ≡ b
cancel [] a b e = e
cancel (c ∷ p) a b e = cancel p a b cc

-- the line of a transaction has one name and one list
pub one_txn_line : (line n1 l1 n2 l2 : List ℕ) → IsTxnLine line n1 l1 → IsTxnLine line n2 l2 → (n1 ≡ n2) × (l1 ≡ l2)
one_txn_line line n1 l1 n2 l2 h k =
    let e : n1 ++ 32 ∷ (codes "n1 now " ++ l1) ≡ n2 ++ 32 ∷ (codes "n1 now " ++ l2) = cancel (codes "txn ") _ _ (sym h.0 ∙ k.0) in
    let r = first_blank n1 n2 (codes "n1 now " ++ l1) (codes "n1 now " ++ l2) (no_blank n1 h.1) (no_blank n2 k.1) e in
    (r.0, cancel (codes "n1 now ") l1 l2 r.1)

rest_of : (line rest name list : List ℕ) → line ≡ codes "txn " ++ rest → IsTxnLine line name list → rest ≡ name ++ 32 ∷ (codes "n1 now " ++ list)
rest_of line rest name list e h = cancel (codes "txn ") _ _ (sym e ∙ h.0)

-- three ways in which a text that follows `txn ` makes no line of a transaction
pub without_blank : (line rest : List ℕ) → line ≡ codes "txn " ++ rest → ¬ Contains rest 32 → (name list : List ℕ) → ¬ IsTxnLine line name list
without_blank line rest e none name list h =
    none (subst (λ r. Contains r 32) (sym (rest_of line rest name list e h)) (Contains-append_right name (32 ∷ (codes "n1 now " ++ list)) 32 (at_head 32 (codes "n1 now " ++ list) refl)))

pub with_another_tail : (line rest front tail : List ℕ) → line ≡ codes "txn " ++ rest → rest ≡ front ++ 32 ∷ tail → ¬ Contains front 32 → ((list : List ℕ) → ¬ (tail ≡ codes "n1 now " ++ list)) → (name list : List ℕ) → ¬ IsTxnLine line name list
with_another_tail line rest front tail e split blank other name list h =
    other list (first_blank front name tail (codes "n1 now " ++ list) blank (no_blank name h.1) (sym split ∙ rest_of line rest name list e h)).1

pub without_name : (line rest front tail : List ℕ) → line ≡ codes "txn " ++ rest → rest ≡ front ++ 32 ∷ tail → ¬ Contains front 32 → ¬ IsTxnName front → (name list : List ℕ) → ¬ IsTxnLine line name list
without_name line rest front tail e split blank other name list h =
    other (subst IsTxnName (sym (first_blank front name tail (codes "n1 now " ++ list) blank (no_blank name h.1) (sym split ∙ rest_of line rest name list e h)).0) h.1)

-- what a test that came out false tests doesn't hold
pub refuted : (b : Bool) (P : Type 0) → (IsTrue b ↔ P) → b ≡ false → ¬ P
refuted b P iff e p = false≢true (sym e ∙ iff.1 p)
