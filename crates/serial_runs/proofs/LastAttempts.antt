use Rattle.std.proofs.Common.{◌≡◌, ℕ, ◌≤◌, ◌<◌, ◌+◌, cond, [], ◌∷◌, ⊎_elim, sym, ap, ◌∙◌, arith, option_map, option_and_then}
use Rattle.std.specs.Prelude.{◌==◌, Option, Some, None}
use Rattle.journal.specs.declared.entries.JournalEntry.TheVariants as entry
use Rattle.mr_base.specs.declared.ids.AttemptId.{AttemptId}
use Rattle.mr_base.specs.declared.ids.TxnId.{TxnId}
use Rattle.mr_base.specs.declared.timestamps.Ts.{Ts}
use Rattle.range_log.specs.declared.entries.RetryCause.{RetryCause}
use Rattle.run_laws.specs.Lawful.{IsLawful}
use Rattle.run_words.specs.Attempts.{Attempt, attempt_of, first_read, greatest_put, retried}
use Rattle.run_words.specs.History.{History, Made}
use Rattle.run_words.specs.Setup.{Setup}
use Rattle.run_words.specs.Steps.{event_of}
use Rattle.run_words.specs.Transactions.{attempts, last_attempt}
use Rattle.serial_runs.proofs.Numbers.{cond_cases, cond_false, cond_true, not_none, same_tests, some_same, told_apart, txns_same}

-- the last attempt of a transaction is of it, and has one of the numbers so far
pub record IsLastOf (count : ℕ) (read : Option Attempt) (t : TxnId) (a : AttemptId) : Type 0 where
  pub number : a.0 ≤ count
  pub of_it : (x : Attempt) → read ≡ Some x → x.txn ≡ t

begun_txn : (r : Option Ts) (u : TxnId) (x : Attempt) → option_map (λ ts. record { txn = u; read_at = ts }) r ≡ Some x → x.txn ≡ u
begun_txn None u x e = absurd (not_none e)
begun_txn (Some ts) u x e = sym (ap (λ (y : Attempt). y.txn) (some_same e))

retried_txn : (u : TxnId) (cause : RetryCause) (b : AttemptId) (greatest : AttemptId → Ts → Ts) (former : AttemptId) (r : Option Attempt) (x : Attempt)
    → retried u cause b greatest former r ≡ Some x → x.txn ≡ u
retried_txn u cause b greatest former None x e = absurd (not_none e)
retried_txn u cause b greatest former (Some y) x e = sym (ap (λ (z : Attempt). z.txn) (some_same e))

after_txn : (u : TxnId) (cause : RetryCause) (b : AttemptId) (greatest : AttemptId → Ts → Ts) (before : AttemptId → Option Attempt) (last : Option AttemptId) (x : Attempt)
    → option_and_then (λ former. retried u cause b greatest former (before former)) last ≡ Some x → x.txn ≡ u
after_txn u cause b greatest before None x e = absurd (not_none e)
after_txn u cause b greatest before (Some former) x e = retried_txn u cause b greatest former (before former) x e

new_last : (count : ℕ) (b a : AttemptId) (u t : TxnId) (new old : Option Attempt) → b.0 ≡ count + 1 → u ≡ t → b ≡ a → ((x : Attempt) → new ≡ Some x → x.txn ≡ u)
    → IsLastOf (count + 1) (cond (b.0 == a.0) new old) t a
new_last count b a u t new old n e f g =
    let q : b.0 ≡ a.0 = ap (λ (y : AttemptId). y.0) f in
    record { number = omega (arith, n, q); of_it = λ x w. g x (sym (cond_true (b.0 == a.0) new old (same_tests b.0 a.0 q)) ∙ w) ∙ e }

old_last : (count : ℕ) (b a : AttemptId) (t : TxnId) (new old : Option Attempt) → b.0 ≡ count + 1 → IsLastOf count old t a → IsLastOf (count + 1) (cond (b.0 == a.0) new old) t a
old_last count b a t new old n i =
    let l : a.0 ≤ count = i.number in
    let f : a.0 < b.0 = omega (arith, n, l) in
    record { number = omega (arith, l); of_it = λ x w. i.of_it x (sym (cond_false (b.0 == a.0) new old (told_apart b.0 a.0 f)) ∙ w) }

pub last_of : (setup : Setup) (h : History) → IsLawful setup h → (t : TxnId) (a : AttemptId) → last_attempt h t ≡ Some a → IsLastOf (attempts setup h) (attempt_of h a) t a
last_of setup [] l t a e = absurd (not_none e)
last_of setup (Made (entry.Begin u b gateway start limit) ∷ h) l t a e =
    ⊎_elim
    (λ (q : ((u.0 == t.0) ≡ _) × _). new_last (attempts setup h) b a u t _ (attempt_of h a) l.0.begun.attempt (txns_same u t q.0) (some_same q.1) (begun_txn (first_read (event_of h) start b) u))
    (λ (q : ((u.0 == t.0) ≡ _) × _). old_last (attempts setup h) b a t _ (attempt_of h a) l.0.begun.attempt (last_of setup h l.1 t a q.1))
    (cond_cases (u.0 == t.0) _ _ (Some a) e)
last_of setup (Made (entry.Retry u b cause) ∷ h) l t a e =
    ⊎_elim
    (λ (q : ((u.0 == t.0) ≡ _) × _). new_last (attempts setup h) b a u t _ (attempt_of h a) l.0.begun (txns_same u t q.0) (some_same q.1) (after_txn u cause b (greatest_put h) (attempt_of h) (last_attempt h u)))
    (λ (q : ((u.0 == t.0) ≡ _) × _). old_last (attempts setup h) b a t _ (attempt_of h a) l.0.begun (last_of setup h l.1 t a q.1))
    (cond_cases (u.0 == t.0) _ _ (Some a) e)
last_of setup (y ∷ h) l t a e = last_of setup h l.1 t a e
