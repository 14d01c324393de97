-- A message more, behind all others.
use Rattle.std.proofs.Common.{◌≡◌, ◌≢◌, ℕ, ◌<◌, ◌≤◌, ◌+◌, List, [], ◌∷◌, ◌++◌, length, max, Option, Some, None, All, get_or, set, arith, refl, subst, sym, ap, ◌∙◌}
use Rattle.std.proofs.lemmas.Bool.Decides.{nat_tests}
use Rattle.std.proofs.lemmas.List.{length-append, length-set, get_or-set_same, get_or-set_other, get_or_append_left, get_or_past, get_or_push}
use Rattle.std.proofs.lemmas.List.Elements.{recursion_from_All}
use Rattle.std.specs.BTreeMap.{insert_entry}
use Rattle.std.specs.List.{AllByRecursion}
use Rattle.std.specs.List.Sorted.{IsStrictlySortedBy}
use Rattle.std.specs.Map.{keys_of}
use Rattle.std.specs.Ordering.{nat_cmp, match_ordering}
use Rattle.std.specs.declared.cmp.Ordering.TheVariants.{Greater}
use Rattle.mr_base.specs.declared.ids.MsgId.{MsgId}
use Rattle.mr_base.specs.declared.messages.Message.{Message}
use Rattle.msg_flight.proofs.FiledLemmas.{filed_message, length-messages_of, messages_of-cons}
use Rattle.msg_flight.proofs.FreeLemmas.{AreFree-pop, SameBut, free_last}
use Rattle.msg_flight.specs.Messages.{HasNumberBelow}
use Rattle.msg_flight.specs.Places.{AreFree, IsFiled, IsSound, message_at, messages_of}

-- what is filed elsewhere stays filed
pub filed_kept : (p : ℕ) (old new : List (Option Message)) (es : List (ℕ × ℕ)) → SameBut p old new → AllByRecursion (λ e. e.1 ≢ p) es → AllByRecursion (IsFiled old) es → AllByRecursion (IsFiled new) es
filed_kept p old new [] s a h = tt
filed_kept p old new (e ∷ es) s a h = (rw (s.same e.1 a.0) h.0, filed_kept p old new es s a.1 h.1)

pub messages_of-kept : (p : ℕ) (old new : List (Option Message)) (es : List (ℕ × ℕ)) → SameBut p old new → AllByRecursion (λ e. e.1 ≢ p) es → messages_of new es ≡ messages_of old es
messages_of-kept p old new [] s a = refl
messages_of-kept p old new (e ∷ es) s a = rw (s.same e.1 a.0, messages_of-kept p old new es s a.1) refl

-- nothing is filed at a place without a message
pub none_filed : (p : ℕ) (places : List (Option Message)) (es : List (ℕ × ℕ)) → message_at places p ≡ None → AllByRecursion (IsFiled places) es → AllByRecursion (λ e. e.1 ≢ p) es
none_filed p places [] n h = tt
none_filed p places (e ∷ es) n h =
    let f = filed_message places e h.0 in
    ((λ is. let here : message_at places p ≡ Some f.0 = subst (λ (q : ℕ). message_at places q ≡ Some f.0) is f.1 in cc), none_filed p places es n h.1)

keys_below : (k : ℕ) (places : List (Option Message)) (es : List (ℕ × ℕ)) → AllByRecursion (IsFiled places) es → AllByRecursion (HasNumberBelow (record { 0 = k })) (messages_of places es) → AllByRecursion (λ e. e.0 < k) es
keys_below k places [] h b = tt
keys_below k places (e ∷ es) h b =
    let f = filed_message places e h.0 in
    let both = rw (messages_of-cons places e es f.0 f.1) at b in
    (subst (λ (n : ℕ). n < k) f.2 both.0, keys_below k places es h.1 both.1)

above_all : (k q : ℕ) → q < k → nat_cmp k q ≡ Greater
above_all k q h = grind (arith, nat_tests)

pub insert_entry-last : (es : List (ℕ × ℕ)) (k p : ℕ) → AllByRecursion (λ e. e.0 < k) es → insert_entry nat_cmp es k p ≡ es ++ (k, p) ∷ []
insert_entry-last [] k p h = refl
insert_entry-last (e ∷ es) k p h = rw (above_all k e.0 h.0) (ap (λ rest. e ∷ rest) (insert_entry-last es k p h.1))

last_too : {X : Type 0} (P : X → Type 0) (xs : List X) (x : X) → AllByRecursion P xs → P x → AllByRecursion P (xs ++ x ∷ [])
last_too P [] x h p = (p, tt)
last_too P (y ∷ ys) x h p = (h.0, last_too P ys x h.1 p)

messages_of-last : (places : List (Option Message)) (es : List (ℕ × ℕ)) (e : ℕ × ℕ) (m : Message) → AllByRecursion (IsFiled places) es → message_at places e.1 ≡ Some m → messages_of places (es ++ e ∷ []) ≡ messages_of places es ++ m ∷ []
messages_of-last places [] e m h is = messages_of-cons places e [] m is
messages_of-last places (d ∷ es) e m h is =
    let f = filed_message places d h.0 in
    rw (messages_of-cons places d (es ++ e ∷ []) f.0 f.1, messages_of-cons places d es f.0 f.1) (ap (λ rest. f.0 ∷ rest) (messages_of-last places es e m h.1 is))

-- the table and the places after a message was sent
pub record IsSent (m : Message) (p : ℕ) (old new : List (Option Message)) (es : List (ℕ × ℕ)) : Type 0 where
  pub filed : AllByRecursion (IsFiled new) (insert_entry nat_cmp es m.id.0 p)
  pub messages : messages_of new (insert_entry nat_cmp es m.id.0 p) ≡ messages_of old es ++ m ∷ []
  pub count : length (insert_entry nat_cmp es m.id.0 p) ≡ length es + 1

pub sent : (m : Message) (p : ℕ) (old new : List (Option Message)) (es : List (ℕ × ℕ)) → SameBut p old new → message_at old p ≡ None → message_at new p ≡ Some m → AllByRecursion (IsFiled old) es →
    All (HasNumberBelow m.id) (messages_of old es) → IsSent m p old new es
sent m p old new es s was is h b =
    let apart = none_filed p old es was h in
    let kept = filed_kept p old new es s apart h in
    let last = insert_entry-last es m.id.0 p (keys_below m.id.0 old es h (recursion_from_All (HasNumberBelow m.id) (messages_of old es) b)) in
    record {
      filed = rw last (last_too (IsFiled new) es (m.id.0, p) kept (rw is refl));
      messages = rw (last, messages_of-last new es (m.id.0, p) m kept is, messages_of-kept p old new es s apart) refl;
      count = rw last (length-append es ((m.id.0, p) ∷ []));
    }

-- a place more
pub more_places : (m : Message) (places : List (Option Message)) → SameBut (length places) places (places ++ Some m ∷ [])
more_places m places = record {
  same = λ q apart. grind (arith, get_or_append_left, get_or_past, length-append);
  fits = omega (arith, length-append places (Some m ∷ []));
}

pub place_set : (x : Option Message) (p : ℕ) (places : List (Option Message)) → SameBut p places (set places p x)
place_set x p places = record {
  same = λ q apart. get_or-set_other places p q x None apart;
  fits = omega (arith, length-set places p x);
}

-- a message at a new place
pub sent_on : (m : Message) (places : List (Option Message)) (es : List (ℕ × ℕ)) → AllByRecursion (IsFiled places) es → All (HasNumberBelow m.id) (messages_of places es) →
    IsSent m (length places) places (places ++ Some m ∷ []) es
sent_on m places es h b =
    sent m (length places) places (places ++ Some m ∷ []) es (more_places m places) (get_or_past places (length places) None (omega arith)) (get_or_push places (Some m) None (length places) refl) h b

-- a message at a place that was free
pub sent_again : (m : Message) (p : ℕ) (places : List (Option Message)) (rest : List ℕ) (es : List (ℕ × ℕ)) → AreFree places (rest ++ p ∷ []) → AllByRecursion (IsFiled places) es →
    All (HasNumberBelow m.id) (messages_of places es) → IsSent m p places (set places p (Some m)) es
sent_again m p places rest es free h b =
    let there = free_last p places rest free in
    sent m p places (set places p (Some m)) es (place_set (Some m) p places) there.1 (get_or-set_same places p (Some m) None there.0) h b

pub sent_on_sound : (m : Message) (places : List (Option Message)) (room more : ℕ) (es : List (ℕ × ℕ)) → IsSound places [] room es → length places + 1 ≤ more → All (HasNumberBelow m.id) (messages_of places es) →
    IsStrictlySortedBy nat_cmp (keys_of (insert_entry nat_cmp es m.id.0 (length places))) → IsSound (places ++ Some m ∷ []) [] more (insert_entry nat_cmp es m.id.0 (length places))
sent_on_sound m places room more es s fits b sorted =
    let done = sent_on m places es s.filed b in
    let size : length (places ++ Some m ∷ []) ≡ length places + 1 = length-append places (Some m ∷ []) in
    record { sorted = sorted; filed = done.filed; free_places = tt; counted = omega (arith, size, done.count, s.counted); noted = omega (arith, size, fits) }

pub sent_again_sound : (m : Message) (p : ℕ) (places : List (Option Message)) (rest : List ℕ) (room : ℕ) (es : List (ℕ × ℕ)) → IsSound places (rest ++ p ∷ []) room es → All (HasNumberBelow m.id) (messages_of places es) →
    IsStrictlySortedBy nat_cmp (keys_of (insert_entry nat_cmp es m.id.0 p)) → IsSound (set places p (Some m)) rest room (insert_entry nat_cmp es m.id.0 p)
sent_again_sound m p places rest room es s b sorted =
    let done = sent_again m p places rest es s.free_places s.filed b in
    let size : length (set places p (Some m)) ≡ length places = length-set places p (Some m) in
    record {
      sorted = sorted;
      filed = done.filed;
      free_places = AreFree-pop p places (set places p (Some m)) rest (place_set (Some m) p places) s.free_places;
      counted = omega (arith, size, done.count, s.counted, length-append rest (p ∷ []));
      noted = omega (arith, size, s.noted);
    }

-- the whole of what sending a message does
pub record IsSentTo (m : Message) (places new : List (Option Message)) (free : List ℕ) (room : ℕ) (es : List (ℕ × ℕ)) (later : List (ℕ × ℕ)) : Type 0 where
  pub sound : IsSound new free room later
  pub messages : messages_of new later ≡ messages_of places es ++ m ∷ []
  pub size : length new ≡ max (length places) (length (messages_of new later))

pub to_a_new_place : (m : Message) (places new : List (Option Message)) (free none : List ℕ) (room more p : ℕ) (es later : List (ℕ × ℕ)) → IsSound places free room es → All (HasNumberBelow m.id) (messages_of places es) →
    free ≡ [] → none ≡ [] → p ≡ length places → new ≡ places ++ Some m ∷ [] → later ≡ insert_entry nat_cmp es m.id.0 p → length places + 1 ≤ more → IsStrictlySortedBy nat_cmp (keys_of later) →
    IsSentTo m places new none more es later
to_a_new_place m places new free none room more p es later s b empty still at_end is entries fits sorted =
    let whole : IsSound places [] room es = subst (λ (f : List ℕ). IsSound places f room es) empty s in
    let entry : later ≡ insert_entry nat_cmp es m.id.0 (length places) = entries ∙ ap (insert_entry nat_cmp es m.id.0) at_end in
    let done = sent_on m places es s.filed b in
    let sound = sent_on_sound m places room more es whole fits b (rw entry at sorted) in
    rw (still, is, entry)
    (record {
      sound = sound;
      messages = done.messages;
      size = omega (arith, length-append places (Some m ∷ []), length-messages_of (places ++ Some m ∷ []) (insert_entry nat_cmp es m.id.0 (length places)) sound.filed, sound.counted);
    })

pub to_a_free_place : (m : Message) (places new : List (Option Message)) (free rest : List ℕ) (room same p : ℕ) (es later : List (ℕ × ℕ)) → IsSound places free room es → All (HasNumberBelow m.id) (messages_of places es) →
    free ≡ rest ++ p ∷ [] → new ≡ set places p (Some m) → later ≡ insert_entry nat_cmp es m.id.0 p → same ≡ room → IsStrictlySortedBy nat_cmp (keys_of later) → IsSentTo m places new rest same es later
to_a_free_place m places new free rest room same p es later s b stack is entries kept sorted =
    let whole : IsSound places (rest ++ p ∷ []) room es = subst (λ (f : List ℕ). IsSound places f room es) stack s in
    let done = sent_again m p places rest es whole.free_places s.filed b in
    let sound = sent_again_sound m p places rest room es whole b (rw entries at sorted) in
    rw (is, entries, kept)
    (record {
      sound = sound;
      messages = done.messages;
      size = omega (arith, length-set places p (Some m), length-messages_of (set places p (Some m)) (insert_entry nat_cmp es m.id.0 p) sound.filed, sound.counted);
    })
