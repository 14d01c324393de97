-- A message less.
use Rattle.std.proofs.Common.{◌≡◌, ◌≢◌, ℕ, zero, suc, ◌<◌, ◌≤◌, ◌+◌, Bool, true, false, cond, not, eqb, List, [], ◌∷◌, ◌++◌, length, Option, Some, None, AllPairs, All, filter, set, arith, refl, subst, sym, ap, ◌∙◌}
use Rattle.std.proofs.lemmas.Bool.Decides.{nat_tests}
use Rattle.std.proofs.lemmas.List.{length-append, length-set, get_or_past, get_or-set_same}
use Rattle.std.proofs.lemmas.List.Elements.{All-from_recursion}
use Rattle.std.proofs.lemmas.Map.Keys.{sorted_head, sorted_tail}
use Rattle.std.specs.BTreeMap.{is_at}
use Rattle.std.specs.List.{AllByRecursion}
use Rattle.std.specs.List.Sorted.{IsStrictlySortedBy}
use Rattle.std.specs.Map.{keys_of, lookup, remove_entry}
use Rattle.std.specs.Ordering.{nat_cmp, is_eq}
use Rattle.std.specs.declared.cmp.Ordering.TheVariants.{Less}
use Rattle.mr_base.specs.declared.ids.MsgId.{MsgId}
use Rattle.mr_base.specs.declared.messages.Message.{Message}
use Rattle.msg_flight.proofs.FiledLemmas.{filed_message, messages_of-cons, same_test}
use Rattle.msg_flight.proofs.FreeLemmas.{AreFree-push}
use Rattle.msg_flight.proofs.SentLemmas.{filed_kept, messages_of-kept, place_set}
use Rattle.msg_flight.specs.Messages.{Precedes, has_number}
use Rattle.msg_flight.specs.Places.{IsFiled, IsSound, message_at, messages_of}

below_less : (k q : ℕ) → nat_cmp k q ≡ Less → k < q
below_less k q h = grind (arith, nat_tests)

-- keys that rise are above the first
later_keys : (k : ℕ) (es : List (ℕ × ℕ)) → AllByRecursion (λ q. nat_cmp k q ≡ Less) (keys_of es) → AllByRecursion (λ e. k < e.0) es
later_keys k [] h = tt
later_keys k (e ∷ es) h = (below_less k e.0 h.0, later_keys k es h.1)

other_keys : (k : ℕ) (es : List (ℕ × ℕ)) → AllByRecursion (λ e. k < e.0) es → AllByRecursion (λ e. e.0 ≢ k) es
other_keys k [] h = tt
other_keys k (e ∷ es) h = ((λ is. absurd (omega (arith, h.0, is))), other_keys k es h.1)

is_same : (k q : ℕ) → eqb q k ≡ true → q ≡ k
is_same k q h = grind (arith, nat_tests)

is_other : (k q : ℕ) → eqb q k ≡ false → q ≢ k
is_other k q h = grind (arith, nat_tests)

not_same : (k q : ℕ) → q ≢ k → eqb q k ≡ false
not_same k q h = grind (arith, nat_tests)

-- after its removal no entry has the number
pub removed_keys : (k : ℕ) (es : List (ℕ × ℕ)) → IsStrictlySortedBy nat_cmp (keys_of es) → AllByRecursion (λ e. e.0 ≢ k) (remove_entry (is_at (nat_cmp k)) es)
removed_keys k [] s = tt
removed_keys k (e ∷ es) s =
    rw (same_test k e.0)
    (elim (eqb e.0 k) as (λ b. eqb e.0 k ≡ b → AllByRecursion (λ d. d.0 ≢ k) (cond b es (e ∷ remove_entry (is_at (nat_cmp k)) es))) [
      | true ↦ λ is. other_keys k es (subst (λ (n : ℕ). AllByRecursion (λ (d : ℕ × ℕ). n < d.0) es) (is_same k e.0 is) (later_keys e.0 es (sorted_head nat_cmp e.0 (keys_of es) s)))
      | false ↦ λ is. (is_other k e.0 is, removed_keys k es (sorted_tail nat_cmp e.0 (keys_of es) s))
    ] refl)

pub remove_entry-kept : (P : ℕ × ℕ → Type 0) (test : ℕ → Bool) (es : List (ℕ × ℕ)) → AllByRecursion P es → AllByRecursion P (remove_entry test es)
remove_entry-kept P test [] h = tt
remove_entry-kept P test (e ∷ es) h = elim (test e.0) as (λ b. AllByRecursion P (cond b es (e ∷ remove_entry test es))) [ true ↦ h.1 | false ↦ (h.0, remove_entry-kept P test es h.1) ]

-- where no entry has the number of a place's message, none has the place
pub others_apart : (k p : ℕ) (x : Message) (places : List (Option Message)) (es : List (ℕ × ℕ)) → message_at places p ≡ Some x → x.id.0 ≡ k → AllByRecursion (IsFiled places) es →
    AllByRecursion (λ e. e.0 ≢ k) es → AllByRecursion (λ e. e.1 ≢ p) es
others_apart k p x places [] is number h a = tt
others_apart k p x places (e ∷ es) is number h a =
    let f = filed_message places e h.0 in (
      (λ same. let here : message_at places p ≡ Some f.0 = subst (λ (q : ℕ). message_at places q ≡ Some f.0) same f.1 in
          let one : f.0 ≡ x = cc in
          let equal : e.0 ≡ k = sym f.2 ∙ (ap (λ (y : Message). y.id.0) one ∙ number) in
          a.0 equal),
      others_apart k p x places es is number h.1 a.1,
    )

-- the message at the place of a number has it
pub looked_up : (k p : ℕ) (places : List (Option Message)) (es : List (ℕ × ℕ)) → AllByRecursion (IsFiled places) es → lookup (is_at (nat_cmp k)) es ≡ Some p → (x : Message) × (message_at places p ≡ Some x) × (x.id.0 ≡ k)
looked_up k p places [] h l = cc
looked_up k p places (e ∷ es) h l =
    let f = filed_message places e h.0 in
    elim (eqb e.0 k) as (λ b. eqb e.0 k ≡ b → cond b (Some e.1) (lookup (is_at (nat_cmp k)) es) ≡ Some p → (x : Message) × (message_at places p ≡ Some x) × (x.id.0 ≡ k)) [
      | true ↦ λ is here. let same : e.1 ≡ p = cc in (f.0, subst (λ (q : ℕ). message_at places q ≡ Some f.0) same f.1, f.2 ∙ is_same k e.0 is)
      | false ↦ λ is there. looked_up k p places es h.1 there
    ] refl (rw (same_test k e.0) at l)

within : (p : ℕ) (places : List (Option Message)) (x : Message) → message_at places p ≡ Some x → p < length places
within p places x h = grind (arith, get_or_past)

all_others : (m : MsgId) (places : List (Option Message)) (es : List (ℕ × ℕ)) → AllByRecursion (IsFiled places) es → AllByRecursion (λ e. e.0 ≢ m.0) es →
    filter (λ x. not (has_number m x)) (messages_of places es) ≡ messages_of places es
all_others m places [] h a = refl
all_others m places (e ∷ es) h a =
    let f = filed_message places e h.0 in
    rw (messages_of-cons places e es f.0 f.1, f.2, not_same m.0 e.0 a.0) (ap (λ rest. f.0 ∷ rest) (all_others m places es h.1 a.1))

-- without the entry of a number the messages are the others
pub messages_of-remove_entry : (m : MsgId) (places : List (Option Message)) (es : List (ℕ × ℕ)) → AllByRecursion (IsFiled places) es → IsStrictlySortedBy nat_cmp (keys_of es) →
    messages_of places (remove_entry (is_at (nat_cmp m.0)) es) ≡ filter (λ x. not (has_number m x)) (messages_of places es)
messages_of-remove_entry m places [] h s = refl
messages_of-remove_entry m places (e ∷ es) h s =
    let f = filed_message places e h.0 in
    let rest = messages_of-remove_entry m places es h.1 (sorted_tail nat_cmp e.0 (keys_of es) s) in
    rw (messages_of-cons places e es f.0 f.1, f.2, same_test m.0 e.0)
    (elim (eqb e.0 m.0) as (λ b. eqb e.0 m.0 ≡ b → messages_of places (cond b es (e ∷ remove_entry (is_at (nat_cmp m.0)) es)) ≡ cond (not b) (f.0 ∷ filter (λ x. not (has_number m x)) (messages_of places es)) (filter (λ x. not (has_number m x)) (messages_of places es))) [
      | true ↦ λ is. sym (all_others m places es h.1 (other_keys m.0 es (subst (λ (n : ℕ). AllByRecursion (λ (d : ℕ × ℕ). n < d.0) es) (is_same m.0 e.0 is) (later_keys e.0 es (sorted_head nat_cmp e.0 (keys_of es) s)))))
      | false ↦ λ is. messages_of-cons places e (remove_entry (is_at (nat_cmp m.0)) es) f.0 f.1 ∙ ap (λ more. f.0 ∷ more) rest
    ] refl)

pairs_cons : {X : Type 0} (R : X → X → Type 0) (x : X) (xs : List X) → All (R x) xs → AllPairs R xs → AllPairs R (x ∷ xs)
pairs_cons R x xs h t zero zero d lt l = absurd (omega (arith, lt))
pairs_cons R x xs h t zero (suc j) d lt l = h j d (omega (arith, l))
pairs_cons R x xs h t (suc i) zero d lt l = absurd (omega (arith, lt))
pairs_cons R x xs h t (suc i) (suc j) d lt l = t i j d (omega (arith, lt)) (omega (arith, l))

later_messages : (x : Message) (places : List (Option Message)) (es : List (ℕ × ℕ)) → AllByRecursion (IsFiled places) es → AllByRecursion (λ e. x.id.0 < e.0) es → AllByRecursion (Precedes x) (messages_of places es)
later_messages x places [] h a = tt
later_messages x places (e ∷ es) h a =
    let f = filed_message places e h.0 in
    rw (messages_of-cons places e es f.0 f.1) (subst (λ (n : ℕ). x.id.0 < n) (sym f.2) a.0, later_messages x places es h.1 a.1)

-- the messages stand by their numbers
pub in_order : (places : List (Option Message)) (es : List (ℕ × ℕ)) → AllByRecursion (IsFiled places) es → IsStrictlySortedBy nat_cmp (keys_of es) → AllPairs Precedes (messages_of places es)
in_order places [] h s = λ i j d lt l. absurd (omega (arith, l))
in_order places (e ∷ es) h s =
    let f = filed_message places e h.0 in
    let above = later_keys e.0 es (sorted_head nat_cmp e.0 (keys_of es) s) in
    rw (messages_of-cons places e es f.0 f.1)
    (pairs_cons Precedes f.0 (messages_of places es)
    (All-from_recursion (Precedes f.0) (messages_of places es) (later_messages f.0 places es h.1 (subst (λ (n : ℕ). AllByRecursion (λ (d : ℕ × ℕ). n < d.0) es) (sym f.2) above)))
    (in_order places es h.1 (sorted_tail nat_cmp e.0 (keys_of es) s)))

-- the places, the free ones and the table after the message of a number was taken
pub record IsTaken (m : MsgId) (p : ℕ) (places : List (Option Message)) (free : List ℕ) (room : ℕ) (es : List (ℕ × ℕ)) : Type 0 where
  pub sound : IsSound (set places p None) (free ++ p ∷ []) room (remove_entry (is_at (nat_cmp m.0)) es)
  pub messages : messages_of (set places p None) (remove_entry (is_at (nat_cmp m.0)) es) ≡ filter (λ x. not (has_number m x)) (messages_of places es)

pub place_of : (k p : ℕ) (places : List (Option Message)) (free : List ℕ) (room : ℕ) (es : List (ℕ × ℕ)) → IsSound places free room es → lookup (is_at (nat_cmp k)) es ≡ Some p → p < length places
place_of k p places free room es s l =
    let there = looked_up k p places es s.filed l in
    within p places there.0 there.1

pub taken : (m : MsgId) (p : ℕ) (places : List (Option Message)) (free : List ℕ) (room : ℕ) (es : List (ℕ × ℕ)) → IsSound places free room es → IsStrictlySortedBy nat_cmp (keys_of (remove_entry (is_at (nat_cmp m.0)) es)) →
    lookup (is_at (nat_cmp m.0)) es ≡ Some p → length (remove_entry (is_at (nat_cmp m.0)) es) + 1 ≡ length es → IsTaken m p places free room es
taken m p places free room es s sorted l count =
    let there = looked_up m.0 p places es s.filed l in
    let fits = within p places there.0 there.1 in
    let left = remove_entry-kept (IsFiled places) (is_at (nat_cmp m.0)) es s.filed in
    let apart = others_apart m.0 p there.0 places (remove_entry (is_at (nat_cmp m.0)) es) there.1 there.2 left (removed_keys m.0 es s.sorted) in
    let but = place_set None p places in
    let size : length (set places p None) ≡ length places = length-set places p None in
    record {
      sound = record {
        sorted = sorted;
        filed = filed_kept p places (set places p None) (remove_entry (is_at (nat_cmp m.0)) es) but apart left;
        free_places = AreFree-push p there.0 places (set places p None) free but there.1 (get_or-set_same places p None None fits) (omega (arith, size, fits)) s.free_places;
        counted = omega (arith, size, s.counted, count, length-append free (p ∷ []));
        noted = omega (arith, size, s.noted);
      };
      messages = messages_of-kept p places (set places p None) (remove_entry (is_at (nat_cmp m.0)) es) but apart ∙ messages_of-remove_entry m places es s.filed s.sorted;
    }
