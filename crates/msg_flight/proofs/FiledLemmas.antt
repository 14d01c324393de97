-- The messages of a table, and what is asked of it.
use Rattle.std.proofs.Common.{◌≡◌, ◌≢◌, ℕ, ◌<◌, ◌≤◌, ◌+◌, Bool, true, false, cond, not, ◌||◌, eqb, ltb, List, [], ◌∷◌, ◌++◌, length, Option, Some, None, is_some, find, filter, map, slice_get, arith, refl, subst, sym, ap, ap₂, ◌∙◌}
use Rattle.std.specs.List.{AllByRecursion, list_any, filter_map}
use Rattle.std.specs.Map.{lookup}
use Rattle.std.specs.Option.{option_map, option_and_then}
use Rattle.std.specs.Ordering.{nat_cmp, is_eq}
use Rattle.std.specs.declared.cmp.Ordering.{Ordering}
use Rattle.std.specs.declared.cmp.Ordering.TheVariants.{Less, Equal, Greater}
use Rattle.std.specs.BTreeMap.{is_at}
use Rattle.std.specs.BTreeMap.Range.{range_contains, entries_between}
use Rattle.std.specs.declared.ops.Bound.TheVariants.{Excluded, Unbounded}
use Rattle.std.proofs.lemmas.Bool.Decides.{nat_tests}
use Rattle.mr_base.specs.declared.ids.MsgId.{MsgId}
use Rattle.mr_base.specs.declared.messages.Message.{Message}
use Rattle.msg_flight.specs.Messages.{first_number, follows, has_number}
use Rattle.msg_flight.specs.Places.{IsFiled, message_at, messages_of, numbers_of}

of_some : (o : Option Message) (k : ℕ) → option_map (λ m. m.id.0) o ≡ Some k → (m : Message) × (o ≡ Some m) × (m.id.0 ≡ k)
of_some None k h = cc
of_some (Some m) k h = (m, refl, cc)

-- the message that is filed there
pub filed_message : (places : List (Option Message)) (e : ℕ × ℕ) → IsFiled places e → (m : Message) × (message_at places e.1 ≡ Some m) × (m.id.0 ≡ e.0)
filed_message places e h = of_some (message_at places e.1) e.0 h

-- a filed entry is a message more
pub messages_of-cons : (places : List (Option Message)) (e : ℕ × ℕ) (es : List (ℕ × ℕ)) (m : Message) → message_at places e.1 ≡ Some m → messages_of places (e ∷ es) ≡ m ∷ messages_of places es
messages_of-cons places e es m h = rw h refl

pub length-messages_of : (places : List (Option Message)) (es : List (ℕ × ℕ)) → AllByRecursion (IsFiled places) es → length (messages_of places es) ≡ length es
length-messages_of places [] h = refl
length-messages_of places (e ∷ es) h =
    let f = filed_message places e h.0 in
    rw (messages_of-cons places e es f.0 f.1) (omega (arith, length-messages_of places es h.1))

-- a number is found by its comparison as by its equality
pub same_test : (k q : ℕ) → is_eq (nat_cmp k q) ≡ eqb q k
same_test k q = grind (arith, nat_tests)

pub is_among : (m : MsgId) (places : List (Option Message)) (es : List (ℕ × ℕ)) → AllByRecursion (IsFiled places) es →
    list_any (has_number m) (messages_of places es) ≡ is_some (lookup (is_at (nat_cmp m.0)) es)
is_among m places [] h = refl
is_among m places (e ∷ es) h =
    let f = filed_message places e h.0 in
    rw (messages_of-cons places e es f.0 f.1, f.2, same_test m.0 e.0, is_among m places es h.1)
    (elim (eqb e.0 m.0) as (λ b. (b || is_some (lookup (is_at (nat_cmp m.0)) es)) ≡ is_some (cond b (Some e.1) (lookup (is_at (nat_cmp m.0)) es))) [ true ↦ refl | false ↦ refl ])

pub first_is : (places : List (Option Message)) (es : List (ℕ × ℕ)) (e : ℕ × ℕ) → AllByRecursion (IsFiled places) es → slice_get es 0 ≡ Some e → first_number (messages_of places es) ≡ Some (record { 0 = e.0 })
first_is places [] e h s = cc
first_is places (d ∷ es) e h s =
    let f = filed_message places d h.0 in
    rw (messages_of-cons places d es f.0 f.1) (let here : d ≡ e = cc in let number : f.0.id.0 ≡ e.0 = f.2 ∙ ap (λ p. p.0) here in ap Some (ap (λ n. record { 0 = n }) number))

none_first : {X : Type 0} (xs : List X) → length xs ≡ 0 → xs ≡ []
none_first [] h = refl
none_first (x ∷ xs) h = absurd (omega (arith, h))

pub none_is_first : (places : List (Option Message)) (es : List (ℕ × ℕ)) → length es ≡ 0 → first_number (messages_of places es) ≡ None
none_is_first places es h = rw (none_first es h) refl

found_next : (b : Bool) (p : ℕ) (rest : Option ℕ) (m : Message) (places : List (Option Message)) → message_at places p ≡ Some m →
    cond b (Some m) (option_and_then (message_at places) rest) ≡ option_and_then (message_at places) (cond b (Some p) rest)
found_next true p rest m places h = sym h
found_next false p rest m places h = refl

pub find_is : (m : MsgId) (places : List (Option Message)) (es : List (ℕ × ℕ)) → AllByRecursion (IsFiled places) es →
    find (has_number m) (messages_of places es) ≡ option_and_then (message_at places) (lookup (is_at (nat_cmp m.0)) es)
find_is m places [] h = refl
find_is m places (e ∷ es) h =
    let f = filed_message places e h.0 in
    rw (messages_of-cons places e es f.0 f.1, f.2, same_test m.0 e.0, find_is m places es h.1)
    (found_next (eqb e.0 m.0) e.1 (lookup (is_at (nat_cmp m.0)) es) f.0 places f.1)

-- the entries above a number are the messages that follow it
follows_filed : (b : Bool) (m : MsgId) (places : List (Option Message)) (e : ℕ × ℕ) (es : List (ℕ × ℕ)) (x : Message) → message_at places e.1 ≡ Some x →
    messages_of places (cond b (e ∷ es) es) ≡ cond b (x ∷ messages_of places es) (messages_of places es)
follows_filed true m places e es x h = messages_of-cons places e es x h
follows_filed false m places e es x h = refl

above_test : (k q : ℕ) → range_contains nat_cmp (Excluded k) Unbounded q ≡ ltb k q
above_test k q = grind (arith, nat_tests)

pub messages_of-above : (m : MsgId) (places : List (Option Message)) (es : List (ℕ × ℕ)) → AllByRecursion (IsFiled places) es →
    messages_of places (entries_between nat_cmp (Excluded m.0) Unbounded es) ≡ filter (follows m) (messages_of places es)
messages_of-above m places [] h = refl
messages_of-above m places (e ∷ es) h =
    let f = filed_message places e h.0 in
    rw (messages_of-cons places e es f.0 f.1, f.2, above_test m.0 e.0, ← messages_of-above m places es h.1)
    (follows_filed (ltb m.0 e.0) m places e (entries_between nat_cmp (Excluded m.0) Unbounded es) f.0 f.1)

filter_kept : {X : Type 0} (P : X → Type 0) (test : X → Bool) (xs : List X) → AllByRecursion P xs → AllByRecursion P (filter test xs)
filter_kept P test [] h = tt
filter_kept P test (x ∷ xs) h = elim (test x) as (λ b. AllByRecursion P (cond b (x ∷ filter test xs) (filter test xs))) [ true ↦ (h.0, filter_kept P test xs h.1) | false ↦ filter_kept P test xs h.1 ]

pub filed_above : (k : ℕ) (places : List (Option Message)) (es : List (ℕ × ℕ)) → AllByRecursion (IsFiled places) es → AllByRecursion (IsFiled places) (entries_between nat_cmp (Excluded k) Unbounded es)
filed_above k places es h = filter_kept (IsFiled places) (λ e. range_contains nat_cmp (Excluded k) Unbounded e.0) es h

-- the numbers of the table are those of the messages
pub numbers_are : (places : List (Option Message)) (es : List (ℕ × ℕ)) → AllByRecursion (IsFiled places) es → numbers_of es ≡ map (λ m. m.id) (messages_of places es)
numbers_are places [] all = refl
numbers_are places (e ∷ es) all =
    let m = filed_message places e all.0 in
    let rest = numbers_are places es all.1 in
    rw (messages_of-cons places e es m.0 m.1) (ap (λ (n : ℕ). named n ∷ numbers_of es) (sym m.2) ∙ ap (λ (ids : List MsgId). m.0.id ∷ ids) rest)
  where
    named : ℕ → MsgId
    named n = record { 0 = n }
