use Rattle.std.proofs.Common.{◌≡◌, ℕ, Bool, true, false, Option, Some, None, [], ◌∷◌, inl, inr, refl, sym, ap, ◌∙◌, subst, arith}
use Rattle.std.specs.Prelude.{◌+◌, ◌≤◌, ◌==◌, if◌then◌else◌}
use Rattle.std.proofs.lemmas.Bool.{eqb-true}
use Rattle.mr_base.specs.declared.ids.AttemptId.{AttemptId}
use Rattle.mr_base.specs.declared.ids.NodeId.{NodeId}
use Rattle.mr_base.specs.declared.ids.TxnId.{TxnId}
use Rattle.mr_base.specs.declared.timestamps.Ts.{Ts}
use Rattle.journal.specs.declared.entries.JournalEntry.TheVariants as entry
use Rattle.journal.specs.declared.events.Event.{Event}
use Rattle.journal.specs.declared.events.Event.TheVariants as events
use Rattle.run_laws.specs.Lawful.{IsLawful}
use Rattle.run_words.specs.Attempts.{Attempt, attempt_of}
use Rattle.run_words.specs.Happened.{IsPlace}
use Rattle.run_words.specs.History.{Item, Made, History}
use Rattle.run_words.specs.Setup.{Setup}
use Rattle.run_words.specs.Transactions.{Beginning, attempts, beginning, beginning_after}

none_begun : (x : Attempt) → None ≡ Some x → ⊥
none_begun x e = cc

not_begun : (b : Beginning) → None ≡ Some b → ⊥
not_begun b e = cc

-- an attempt's number where one more is begun
number_here : (t : Bool) (b a n : ℕ) (new old : Option Attempt) (x : Attempt) → t ≡ (b == a) → b ≡ n + 1
    → (old ≡ Some x → a ≤ n) → (if t then new else old) ≡ Some x → a ≤ n + 1
number_here true b a n new old x e f g s = let same : b ≡ a = eqb-true b a (sym e) in omega (arith, same, f)
number_here false b a n new old x e f g s = let below : a ≤ n = g s in omega (arith, below)

-- an attempt that was begun has one of the numbers so far
pub number_of : (setup : Setup) (h : History) (a : AttemptId) (x : Attempt) → IsLawful setup h → attempt_of h a ≡ Some x
    → a.0 ≤ attempts setup h
number_of setup [] a x l e = absurd (none_begun x e)
number_of setup (Made (entry.Begin txn b gateway start limit) ∷ h) a x l e =
    number_here (b.0 == a.0) b.0 a.0 (attempts setup h) _ (attempt_of h a) x refl l.0.begun.attempt (number_of setup h a x l.1) e
number_of setup (Made (entry.Retry txn b cause) ∷ h) a x l e =
    number_here (b.0 == a.0) b.0 a.0 (attempts setup h) _ (attempt_of h a) x refl l.0.begun (number_of setup h a x l.1) e
number_of setup (y ∷ h) a x l e = number_of setup h a x l.1 e

attempt_here : (t : Bool) (b a n : ℕ) (new old : Option Attempt) (x : Attempt) → t ≡ (b == a) → b ≡ n + 1 → a ≤ n
    → old ≡ Some x → (if t then new else old) ≡ Some x
attempt_here true b a n new old x e f g s = let same : b ≡ a = eqb-true b a (sym e) in absurd (omega (arith, same, f, g))
attempt_here false b a n new old x e f g s = s

-- an attempt stays over one more item
attempt_over : (setup : Setup) (y : Item) (h : History) (a : AttemptId) (x : Attempt) → IsLawful setup (y ∷ h) → attempt_of h a ≡ Some x
    → attempt_of (y ∷ h) a ≡ Some x
attempt_over setup (Made (entry.Begin txn b gateway start limit)) h a x l e =
    attempt_here (b.0 == a.0) b.0 a.0 (attempts setup h) _ (attempt_of h a) x refl l.0.begun.attempt (number_of setup h a x l.1 e) e
attempt_over setup (Made (entry.Retry txn b cause)) h a x l e =
    attempt_here (b.0 == a.0) b.0 a.0 (attempts setup h) _ (attempt_of h a) x refl l.0.begun (number_of setup h a x l.1 e) e
attempt_over setup y h a x l e = e

abbrev IsAttempt : AttemptId → Attempt → History → Type 0
IsAttempt a x h = attempt_of h a ≡ Some x

-- an attempt stays
pub attempt_stays : (setup : Setup) (h older : History) (a : AttemptId) (x : Attempt) → IsLawful setup h → IsPlace older h
    → attempt_of older a ≡ Some x → attempt_of h a ≡ Some x
attempt_stays setup [] older a x l p e = subst (IsAttempt a x) p e
attempt_stays setup (y ∷ h) older a x l (inl p) e = subst (IsAttempt a x) p e
attempt_stays setup (y ∷ h) older a x l (inr p) e = attempt_over setup y h a x l (attempt_stays setup h older a x l.1 p e)

same_txn : (u t : TxnId) → (u.0 == t.0) ≡ true → u ≡ t
same_txn u t e = ap (λ (k : ℕ). let c : TxnId = record { 0 = k } in c) (eqb-true u.0 t.0 e)

beginning_here : (t : Bool) (new old : Option Beginning) (b : Beginning) → (t ≡ true → old ≡ None) → old ≡ Some b
    → (if t then new else old) ≡ Some b
beginning_here true new old b f e = absurd (not_begun b (sym (f refl) ∙ e))
beginning_here false new old b f e = e

beginning_at : (event : Option Event) (u : TxnId) (a : AttemptId) (gateway : NodeId) (start : Ts) (limit : Option ℕ) (t : TxnId)
    (old : Option Beginning) (b : Beginning) → ((u.0 == t.0) ≡ true → old ≡ None) → old ≡ Some b
    → beginning_after (Made (entry.Begin u a gateway start limit)) event t old ≡ Some b
beginning_at (Some (events.Txn v n kind list)) u a gateway start limit t old b f e = beginning_here (u.0 == t.0) _ old b f e
beginning_at _ u a gateway start limit t old b f e = e

-- a transaction stays over one more item
beginning_over : (setup : Setup) (y : Item) (h : History) (t : TxnId) (b : Beginning) → IsLawful setup (y ∷ h) → beginning h t ≡ Some b
    → beginning (y ∷ h) t ≡ Some b
beginning_over setup (Made (entry.Begin u a gateway start limit)) h t b l e =
    beginning_at _ u a gateway start limit t (beginning h t) b
    (λ s. subst (λ (v : TxnId). beginning h v ≡ None) (same_txn u t s) l.0.order.once) e
beginning_over setup y h t b l e = e

abbrev IsBeginning : TxnId → Beginning → History → Type 0
IsBeginning t b h = beginning h t ≡ Some b

-- a transaction stays
pub beginning_stays : (setup : Setup) (h older : History) (t : TxnId) (b : Beginning) → IsLawful setup h → IsPlace older h
    → beginning older t ≡ Some b → beginning h t ≡ Some b
beginning_stays setup [] older t b l p e = subst (IsBeginning t b) p e
beginning_stays setup (y ∷ h) older t b l (inl p) e = subst (IsBeginning t b) p e
beginning_stays setup (y ∷ h) older t b l (inr p) e = beginning_over setup y h t b l (beginning_stays setup h older t b l.1 p e)
