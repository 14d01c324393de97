-- The messages in flight, as they were sent.
use Rattle.std.proofs.Common.{◌≡◌, ℕ, suc, ◌+◌, ◌≤◌, Bool, true, false, List, [], ◌∷◌, ◌++◌, refl, sym, ap, ◌∙◌, subst, cond, map, arith, Some}
use Rattle.std.specs.Prelude.{◌==◌, if◌then◌else◌, not, Option, slice_index_or}
use Rattle.std.specs.List.{All, Contains, filter, find}
use Rattle.std.proofs.lemmas.Bool.{eqb-true}
use Rattle.std.proofs.lemmas.List.Elements.{All-filter, All-head, All-push, All-tail}
use Rattle.mr_base.specs.declared.ids.MsgId.{MsgId}
use Rattle.mr_base.specs.declared.messages.Message.{Message}
use Rattle.journal.specs.declared.entries.JournalEntry.TheVariants as entry
use Rattle.msg_flight.specs.Messages.{HasNumberBelow, first_number, has_number}
use Rattle.node_states.specs.Ties.{AreMailsTied, IsMailTied, mail_of, shown_of}
use Rattle.run_words.specs.History.{History, Made}
use Rattle.run_words.specs.Messages.{Mail, answers_with, flight, is_other, mail, mail_after, messages}
use Rattle.run_words.specs.Setup.{Setup}

-- a message that was sent before has another number than the next
other_number : (a b sent : ℕ) → a ≡ sent + 1 → b ≤ sent → (a == b) ≡ false
other_number a b sent e l = grind arith

same_number : (k : ℕ) → (k == k) ≡ true
same_number k = grind arith

turned : (a b : ℕ) → (a == b) ≡ (b == a)
turned a b = grind arith

abbrev mails_with : Message → Option MsgId → (MsgId → Option Mail) → MsgId → Option Mail
mails_with m answers mails k = mail_after (Made (entry.Sent m.id m.from m.to m.clock (shown_of m.body))) answers k (mails k)

stays_tied : (t : Bool) (new : Mail) (x : Message) (old : Option Mail) → t ≡ false → (answers : Option MsgId) × (old ≡ Some (mail_of x answers))
    → (answers : Option MsgId) × ((if t then Some new else old) ≡ Some (mail_of x answers))
stays_tied true new x old e h = absurd (cc)
stays_tied false new x old e h = h

is_tied : (t : Bool) (new : Mail) (x : Message) (answers : Option MsgId) (old : Option Mail) → t ≡ true → new ≡ mail_of x answers
    → (answers : Option MsgId) × ((if t then Some new else old) ≡ Some (mail_of x answers))
is_tied true new x answers old e h = (answers, ap (λ (y : Mail). Some y) h)
is_tied false new x answers old e h = absurd (cc)

map_push : (ms : List Message) (m : Message) → map (λ (x : Message). x.id) (ms ++ m ∷ []) ≡ map (λ (x : Message). x.id) ms ++ m.id ∷ []
map_push [] m = refl
map_push (x ∷ ms) m = ap (λ (ks : List MsgId). x.id ∷ ks) (map_push ms m)

-- a message that is sent is in flight, behind all others
pub sent_mails : (mails : MsgId → Option Mail) (fl : List MsgId) (sent : ℕ) (ms : List Message) (m : Message) (answers : Option MsgId)
    → AreMailsTied mails fl sent ms → m.id.0 ≡ sent + 1
    → AreMailsTied (mails_with m answers mails) (fl ++ m.id ∷ []) (sent + 1) (ms ++ m ∷ [])
sent_mails mails fl sent ms m answers t e =
    let new : Mail = mail_of m (answers_with (shown_of m.body) answers) in
    record {
      each = All-push (IsMailTied (mails_with m answers mails)) ms m
          (λ k d l. let x : Message = slice_index_or ms k d in
          stays_tied (m.id.0 == x.id.0) new x (mails x.id) (other_number m.id.0 x.id.0 sent e (t.given k d l)) (t.each k d l))
          (is_tied (m.id.0 == m.id.0) new m (answers_with (shown_of m.body) answers) (mails m.id) (same_number m.id.0) refl);
      numbers = map_push ms m ∙ ap (λ (ks : List MsgId). ks ++ m.id ∷ []) t.numbers;
      given = All-push (λ (x : Message). x.id.0 ≤ sent + 1) ms m (λ k d l. let g : (slice_index_or ms k d).id.0 ≤ sent = t.given k d l in omega (arith, g)) (omega (arith, e));
    }

-- the number of a message that is sent is above all others
pub sent_above : (mails : MsgId → Option Mail) (fl : List MsgId) (sent : ℕ) (ms : List Message) (m : MsgId) → AreMailsTied mails fl sent ms → m.0 ≡ sent + 1
    → All (HasNumberBelow m) ms
sent_above mails fl sent ms m t e = λ k d l. let g : (slice_index_or ms k d).id.0 ≤ sent = t.given k d l in omega (arith, g, e)

abbrev without : MsgId → List Message → List Message
without m ms = filter (λ (x : Message). not (has_number m x)) ms

kept_number : (s t : Bool) (x : Message) (ms : List Message) (ks : List MsgId) → s ≡ t → map (λ (y : Message). y.id) ms ≡ ks
    → map (λ (y : Message). y.id) (cond (not s) (x ∷ ms) ms) ≡ cond (not t) (x.id ∷ ks) ks
kept_number true true x ms ks e h = h
kept_number true false x ms ks e h = absurd (cc)
kept_number false true x ms ks e h = absurd (cc)
kept_number false false x ms ks e h = ap (λ (l : List MsgId). x.id ∷ l) h

numbers_without : (m : MsgId) (ms : List Message) → map (λ (y : Message). y.id) (without m ms) ≡ filter (is_other m) (map (λ (y : Message). y.id) ms)
numbers_without m [] = refl
numbers_without m (x ∷ ms) = kept_number (x.id.0 == m.0) (m.0 == x.id.0) x (without m ms) (filter (is_other m) (map (λ (y : Message). y.id) ms)) (turned x.id.0 m.0) (numbers_without m ms)

-- a message that is taken, bounced or dropped is no longer in flight
pub gone_mails : (mails : MsgId → Option Mail) (fl : List MsgId) (sent : ℕ) (ms : List Message) (m : MsgId)
    → AreMailsTied mails fl sent ms → AreMailsTied mails (filter (is_other m) fl) sent (without m ms)
gone_mails mails fl sent ms m t =
    record {
      each = All-filter (λ (x : Message). not (has_number m x)) (IsMailTied mails) ms t.each;
      numbers = numbers_without m ms ∙ ap (filter (is_other m)) t.numbers;
      given = All-filter (λ (x : Message). not (has_number m x)) (λ (x : Message). x.id.0 ≤ sent) ms t.given;
    }

-- a message that is found has its number, and what holds of all
abbrev number : ℕ → MsgId
number k = record { 0 = k }

abbrev FoundIn : (Message → Type 0) → MsgId → List Message → Message → Type 0
FoundIn P m ms y = P y × (y.id ≡ m) × Contains (map (λ (x : Message). x.id) ms) m

found_step : (P : Message → Type 0) (t : Bool) (m : MsgId) (x y : Message) (ms : List Message) (rest : Option Message) → t ≡ (x.id.0 == m.0) → P x
    → (rest ≡ Some y → FoundIn P m ms y) → cond t (Some x) rest ≡ Some y → FoundIn P m (x ∷ ms) y
found_step P true m x y ms rest e p f h =
    let same : x ≡ y = cc in
    let at : x.id ≡ m = ap number (eqb-true x.id.0 m.0 (sym e)) in
    (subst P same p, subst (λ (z : Message). z.id ≡ m) same at, (0, omega arith, at))
found_step P false m x y ms rest e p f h =
    let r : FoundIn P m ms y = f h in
    (r.0, r.1, (suc r.2.0, omega (arith, r.2.1), r.2.2))

pub found : (P : Message → Type 0) (m : MsgId) (ms : List Message) (y : Message) → All P ms → find (has_number m) ms ≡ Some y
    → P y × (y.id ≡ m) × Contains (map (λ (x : Message). x.id) ms) m
found P m [] y a h = absurd (cc)
found P m (x ∷ ms) y a h =
    found_step P (x.id.0 == m.0) m x y ms (find (has_number m) ms) refl (All-head P x ms a) (λ q. found P m ms y (All-tail P x ms a) q) h

-- what is found among the messages was sent so, and is in flight
pub found_mail : (setup : Setup) (h : History) (ms : List Message) (m : MsgId) (y : Message) → AreMailsTied (mail h) (flight h) (messages setup h) ms
    → find (has_number m) ms ≡ Some y
    → (y.id ≡ m) × ((answers : Option MsgId) × (mail h m ≡ Some (mail_of y answers))) × Contains (flight h) m
found_mail setup h ms m y t e =
    let f : FoundIn (IsMailTied (mail h)) m ms y = found (IsMailTied (mail h)) m ms y t.each e in
    (f.1, (f.0.0, ap (mail h) (sym f.1) ∙ f.0.1), subst (λ (ks : List MsgId). Contains ks m) t.numbers f.2)

-- the first message is the first in flight
first_numbers : (m : MsgId) (ms : List Message) → first_number ms ≡ Some m → (more : List MsgId) × (map (λ (x : Message). x.id) ms ≡ m ∷ more)
first_numbers m [] e = absurd (cc)
first_numbers m (x ∷ ms) e = (map (λ (x : Message). x.id) ms, ap (λ (k : MsgId). k ∷ map (λ (x : Message). x.id) ms) (cc))

pub first_mail : (mails : MsgId → Option Mail) (fl : List MsgId) (sent : ℕ) (ms : List Message) (m : MsgId) → AreMailsTied mails fl sent ms
    → first_number ms ≡ Some m → (more : List MsgId) × (fl ≡ m ∷ more)
first_mail mails fl sent ms m t e =
    let f : (more : List MsgId) × (map (λ (x : Message). x.id) ms ≡ m ∷ more) = first_numbers m ms e in
    (f.0, sym t.numbers ∙ f.1)
