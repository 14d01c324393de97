-- A node of the set of a list of nodes is one of the list.
use Rattle.std.proofs.Common.{◌≡◌, ◌≢◌, ◌⊎◌, ◌+◌, ◌-◌, ◌^◌, ◌∙◌, ◌<◌, ℕ, suc, List, [], ◌∷◌, All, Contains, bit_and, bit_or, fold, get_or, length, max, refl, sym, ap, inl, inr, arith}
use Rattle.std.proofs.lemmas.Bool.{cases_eq}
use Rattle.std.proofs.lemmas.List.Elements.{All-head, All-tail}
use Rattle.std.proofs.lemmas.Nat.{bit_set_by_shift}
use Rattle.std.proofs.lemmas.Nat.Bits.{bit_at-pow_other, bit_at-zero, bit_at_or, shr_and_one}
use Rattle.std.specs.Int.{bit_at}
use Rattle.mr_base.specs.Nodes.{IsMember, IsNode}
use Rattle.mr_base.specs.declared.ids.NodeId.{NodeId}
use Rattle.mr_base.specs.declared.nodes.NodeSet.{NodeSet}
use Rattle.range_replicas.specs.Voters.{set_of, with_node}

abbrev number : ℕ → NodeId
number k = record { 0 = k }

from_fold : (ns : List NodeId) (set : NodeSet) (n : NodeId) → All IsNode ns → IsNode n → bit_at (fold with_node set ns).0 (n.0 - 1) ≡ 1
    → (bit_at set.0 (n.0 - 1) ≡ 1) ⊎ Contains ns n
from_fold [] set n nodes one e = inl e
from_fold (m ∷ ns) set n nodes one e =
    let there : (bit_at (with_node set m).0 (n.0 - 1) ≡ 1) ⊎ Contains ns n = from_fold ns (with_node set m) n (All-tail IsNode m ns nodes) one e in
    let first = All-head IsNode m ns nodes in
    elim there as (λ _. (bit_at set.0 (n.0 - 1) ≡ 1) ⊎ Contains (m ∷ ns) n) [
      | inl b ↦ elim (cases_eq (n.0 - 1) (m.0 - 1)) as (λ _. (bit_at set.0 (n.0 - 1) ≡ 1) ⊎ Contains (m ∷ ns) n) [
        | inl same ↦
            let numbers : m.0 ≡ n.0 = omega (arith, same, first.0, one.0) in
            let within : 0 < length (m ∷ ns) = omega arith in
            inr (0, within, ap number numbers)
        | inr other ↦
            let or_is = bit_at_or set.0 (2 ^ (m.0 - 1)) (n.0 - 1) in
            let none = bit_at-pow_other (m.0 - 1) (n.0 - 1) other in
            inl (let is : bit_at set.0 (n.0 - 1) ≡ 1 = omega (arith, b, or_is, none) in is)
      ]
      | inr c ↦ inr (suc c.0, omega (arith, c.1), c.2)
    ]

pub member_of : (ns : List NodeId) (n : NodeId) → All IsNode ns → IsNode n → IsMember (set_of ns) n → Contains ns n
member_of ns n nodes one h =
    let set = (set_of ns).0 in
    let bit : bit_at set (n.0 - 1) ≡ 1 = sym (shr_and_one set (n.0 - 1)) ∙ (bit_set_by_shift set (n.0 - 1)).1 h in
    elim (from_fold ns (record { 0 = 0 }) n nodes one bit) as (λ _. Contains ns n) [
      | inl b ↦ absurd (let no : ⊥ = omega (arith, b, bit_at-zero (n.0 - 1)) in no)
      | inr c ↦ c
    ]
