-- How many nodes are in the set of a list of nodes that all differ, and how many of them run.
use Rattle.std.proofs.Common.{◌≡◌, ◌≢◌, ◌⊎◌, ◌↔◌, ◌<◌, ◌≤◌, ◌+◌, ◌-◌, ◌*◌, ◌/◌, ◌%◌, ◌^◌, ◌∙◌, ℕ, zero, suc, min, max, Bool, true, false, IsTrue, List, [], ◌∷◌, All, AllPairs, bit_and, bit_or, count_ones, cond, filter, fold, get_or, length, refl, sym, ap, inl, inr, arith}
use Rattle.std.proofs.lemmas.Bool.Decides.{nat_tests}
use Rattle.std.proofs.lemmas.List.Elements.{All-head, All-tail}
use Rattle.std.proofs.lemmas.Nat.{and_comm, and_le_l, bit_set_by_shift, ones_le_self, or_disjoint}
use Rattle.std.proofs.lemmas.Nat.Bits.{and_pow, bit_at-lt, bit_at-pow_other, bit_at-suc, bit_at-zero, bit_at_and, bit_at_lowest, bit_at_or, same_from_bits, shr_and_one}
use Rattle.std.specs.Int.{bit_at}
use native.Mathlib.Nat.{pow-suc}
use lib.Count.{ones_step}
use Rattle.mr_base.specs.Nodes.{IsMember, IsNode}
use Rattle.mr_base.specs.declared.ids.NodeId.{NodeId}
use Rattle.mr_base.specs.declared.nodes.NodeSet.{NodeSet}
use Rattle.range_replicas.specs.Voters.{MajorityIsMoreThanHalf, set_of, with_node}

nothing : (n : ℕ) → 0 * n ≡ 0
nothing n = omega arith

-- a number and a bit that it doesn't have
add_bit : (k n : ℕ) → bit_at n k ≡ 0 → count_ones (n + 2 ^ k) ≡ count_ones n + 1
add_bit zero n e =
    let even : n % 2 ≡ 0 = sym (bit_at_lowest n) ∙ e in
    let half : (n + 1) / 2 ≡ n / 2 = omega (arith, even) in
    let odd : (n + 1) % 2 ≡ 1 = omega (arith, even) in
    let more : count_ones (n + 1) ≡ (n + 1) % 2 + count_ones ((n + 1) / 2) = ones_step (n + 1) in
    let same : count_ones ((n + 1) / 2) ≡ count_ones (n / 2) = ap count_ones half in
    let old : count_ones n ≡ n % 2 + count_ones (n / 2) = ones_step n in
    omega (arith, more, same, old, even, odd)
add_bit (suc k) n e =
    let power : 2 ^ suc k ≡ 2 * 2 ^ k = omega (arith, pow-suc 2 k) in
    let half : (n + 2 ^ suc k) / 2 ≡ n / 2 + 2 ^ k = omega (arith, power) in
    let rest : (n + 2 ^ suc k) % 2 ≡ n % 2 = omega (arith, power) in
    let more : count_ones (n + 2 ^ suc k) ≡ (n + 2 ^ suc k) % 2 + count_ones ((n + 2 ^ suc k) / 2) = ones_step (n + 2 ^ suc k) in
    let same : count_ones ((n + 2 ^ suc k) / 2) ≡ count_ones (n / 2 + 2 ^ k) = ap count_ones half in
    let old : count_ones n ≡ n % 2 + count_ones (n / 2) = ones_step n in
    let below : count_ones (n / 2 + 2 ^ k) ≡ count_ones (n / 2) + 1 = add_bit k (n / 2) (sym (bit_at-suc n k) ∙ e) in
    omega (arith, more, same, old, rest, below)

or_bit : (k n : ℕ) → bit_at n k ≡ 0 → count_ones (bit_or n (2 ^ k)) ≡ count_ones n + 1
or_bit k n e =
    let apart : bit_and n (2 ^ k) ≡ 0 = and_pow n k ∙ ap (λ (x : ℕ). x * 2 ^ k) e ∙ nothing (2 ^ k) in
    ap count_ones (or_disjoint n (2 ^ k) apart) ∙ add_bit k n e

and_or : (a b m : ℕ) → bit_and (bit_or a b) m ≡ bit_or (bit_and a m) (bit_and b m)
and_or a b m = same_from_bits _ _ (λ i.
    let x = bit_at a i in
    let y = bit_at b i in
    let z = bit_at m i in
    let left : bit_at (bit_and (bit_or a b) m) i ≡ min (max x y) z
    = bit_at_and (bit_or a b) m i ∙ ap (λ (n : ℕ). min n z) (bit_at_or a b i) in
    let right : bit_at (bit_or (bit_and a m) (bit_and b m)) i ≡ max (min x z) (min y z)
    = bit_at_or (bit_and a m) (bit_and b m) i ∙ ap (λ (n : ℕ). max n (bit_at (bit_and b m) i)) (bit_at_and a m i)
    ∙ ap (λ (n : ℕ). max (min x z) n) (bit_at_and b m i) in
    let same : min (max x y) z ≡ max (min x z) (min y z) = omega arith in
    left ∙ same ∙ sym right)

bit_cases : (n i : ℕ) → (bit_at n i ≡ 0) ⊎ (bit_at n i ≡ 1)
bit_cases n i = by (bit_at n i) (bit_at-lt n i)
  where
    by : (b : ℕ) → b < 2 → (b ≡ 0) ⊎ (b ≡ 1)
    by zero h = inl refl
    by (suc zero) h = inr refl
    by (suc (suc b)) h = absurd (let no : ⊥ = omega (arith, h) in no)

-- the bits that are also those of another number
or_bit_and : (k n m : ℕ) → bit_at n k ≡ 0 → count_ones (bit_and (bit_or n (2 ^ k)) m) ≡ count_ones (bit_and n m) + bit_at m k
or_bit_and k n m e =
    let kept : bit_and (2 ^ k) m ≡ bit_at m k * 2 ^ k = and_comm (2 ^ k) m ∙ and_pow m k in
    let parts : bit_and (bit_or n (2 ^ k)) m ≡ bit_or (bit_and n m) (bit_at m k * 2 ^ k) = and_or n (2 ^ k) m ∙ ap (λ (x : ℕ). bit_or (bit_and n m) x) kept in
    elim (bit_cases m k) as (λ _. count_ones (bit_and (bit_or n (2 ^ k)) m) ≡ count_ones (bit_and n m) + bit_at m k) [
      | inl z ↦
          let none : bit_at m k * 2 ^ k ≡ 0 = ap (λ (x : ℕ). x * 2 ^ k) z ∙ nothing (2 ^ k) in
          let apart : bit_and (bit_and n m) 0 ≡ 0 = and_comm (bit_and n m) 0 in
          let same : bit_or (bit_and n m) 0 ≡ bit_and n m + 0 = or_disjoint (bit_and n m) 0 apart in
          let all : bit_and (bit_or n (2 ^ k)) m ≡ bit_and n m
          = parts ∙ ap (λ (x : ℕ). bit_or (bit_and n m) x) none ∙ same ∙ omega arith in
          omega (arith, ap count_ones all, z)
      | inr o ↦
          let one : bit_at m k * 2 ^ k ≡ 2 ^ k = ap (λ (x : ℕ). x * 2 ^ k) o ∙ omega arith in
          let free : bit_at (bit_and n m) k ≡ 0 = bit_at_and n m k ∙ (let least : min (bit_at n k) (bit_at m k) ≡ 0 = omega (arith, e) in least) in
          let all : count_ones (bit_and (bit_or n (2 ^ k)) m) ≡ count_ones (bit_or (bit_and n m) (2 ^ k))
          = ap count_ones (parts ∙ ap (λ (x : ℕ). bit_or (bit_and n m) x) one) in
          omega (arith, all, or_bit k (bit_and n m) free, o)
    ]

-- a bit as a test
bit_is : (n k : ℕ) (b : Bool) → IsTrue b ↔ (bit_and n (2 ^ k) ≢ 0) → bit_at n k ≡ cond b 1 0
bit_is n k true h = sym (shr_and_one n k) ∙ (bit_set_by_shift n k).1 (h.0 refl)
bit_is n k false h =
    elim (bit_cases n k) as (λ _. bit_at n k ≡ 0) [
      | inl z ↦ z
      | inr o ↦ absurd (let set = (bit_set_by_shift n k).0 (shr_and_one n k ∙ o) in let no : false ≡ true = h.1 set in let never : ⊥ = cc in never)
    ]

pairs_tail : {X : Type 0} (R : X → X → Type 0) (x : X) (xs : List X) → AllPairs R (x ∷ xs) → AllPairs R xs
pairs_tail R x xs h = λ i j d before within. h (suc i) (suc j) d (omega (arith, before)) (omega (arith, within))

pairs_head : {X : Type 0} (R : X → X → Type 0) (x : X) (xs : List X) → AllPairs R (x ∷ xs) → All (R x) xs
pairs_head R x xs h = λ k d within. h 0 (suc k) d (omega arith) (omega (arith, within))

module _ (runs : NodeId → Bool) (running : NodeSet) where
  abbrev Runs : NodeId → Type 0
  Runs n = IsTrue (runs n) ↔ IsMember running n

  abbrev IsFree : NodeSet → NodeId → Type 0
  IsFree set n = bit_at set.0 (n.0 - 1) ≡ 0

  count_filter : (n : NodeId) (ns : List NodeId) → length (filter runs (n ∷ ns)) ≡ cond (runs n) 1 0 + length (filter runs ns)
  count_filter n ns = by (runs n)
    where
      by : (b : Bool) → length (cond b (n ∷ filter runs ns) (filter runs ns)) ≡ cond b 1 0 + length (filter runs ns)
      by true = omega arith
      by false = omega arith

  -- what is left to add stays free
  still_free : (set : NodeSet) (n : NodeId) (ns : List NodeId) → IsNode n → All IsNode ns → All (λ m. n ≢ m) ns → All (IsFree set) ns
      → All (IsFree (with_node set n)) ns
  still_free set n ns one nodes apart free = λ k d h.
      let m = get_or ns k d in
      let numbers : m.0 - 1 ≢ n.0 - 1
      = (λ same. apart k d h (let e : n.0 ≡ m.0 = omega (arith, same, one.0, (nodes k d h).0) in ap (λ (x : ℕ). record { 0 = x }) e)) in
      bit_at_or set.0 (2 ^ (n.0 - 1)) (m.0 - 1)
      ∙ (let a : bit_at set.0 (m.0 - 1) ≡ 0 = free k d h in
      let b : bit_at (2 ^ (n.0 - 1)) (m.0 - 1) ≡ 0 = bit_at-pow_other (n.0 - 1) (m.0 - 1) numbers in
      let none : max (bit_at set.0 (m.0 - 1)) (bit_at (2 ^ (n.0 - 1)) (m.0 - 1)) ≡ 0 = omega (arith, a, b) in
      none)

  record AreCounted (voters : List NodeId) (set : NodeSet) : Type 0 where
    all : count_ones (fold with_node set voters).0 ≡ count_ones set.0 + length voters
    up : count_ones (bit_and (fold with_node set voters).0 running.0) ≡ count_ones (bit_and set.0 running.0) + length (filter runs voters)

  counted : (voters : List NodeId) (set : NodeSet) → All IsNode voters → AllPairs ◌≢◌ voters → All (IsFree set) voters → All Runs voters → AreCounted voters set
  counted [] set nodes apart free run = record { all = omega arith; up = omega arith }
  counted (n ∷ ns) set nodes apart free run =
      let one = All-head IsNode n ns nodes in
      let others = All-tail IsNode n ns nodes in
      let here : bit_at set.0 (n.0 - 1) ≡ 0 = All-head (IsFree set) n ns free in
      let rest = counted ns (with_node set n) others (pairs_tail ◌≢◌ n ns apart)
      (still_free set n ns one others (pairs_head ◌≢◌ n ns apart) (All-tail (IsFree set) n ns free)) (All-tail Runs n ns run) in
      let more = or_bit (n.0 - 1) set.0 here in
      let more_up = or_bit_and (n.0 - 1) set.0 running.0 here in
      let is = bit_is running.0 (n.0 - 1) (runs n) (All-head Runs n ns run) in
      record {
        all = omega (arith, rest.all, more);
        up = omega (arith, rest.up, more_up, is, count_filter n ns);
      }

pub majority : MajorityIsMoreThanHalf
majority voters runs running nodes apart run =
    let h = counted runs running voters (record { 0 = 0 }) nodes apart (λ k d w. bit_at-zero ((get_or voters k d).0 - 1)) run in
    let none : count_ones 0 ≤ 0 = ones_le_self 0 in
    let none_up : count_ones (bit_and 0 running.0) ≤ 0 = omega (arith, ones_le_self (bit_and 0 running.0), and_le_l 0 running.0) in
    let all : count_ones (set_of voters).0 ≡ length voters = omega (arith, h.all, none) in
    let up : count_ones (bit_and (set_of voters).0 running.0) ≡ length (filter runs voters) = omega (arith, h.up, none_up) in
    ((λ yes. grind (arith, nat_tests)), (λ below. grind (arith, nat_tests)))
