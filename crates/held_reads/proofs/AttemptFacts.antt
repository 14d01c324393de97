use Rattle.std.proofs.Common.{◌≡◌, ℕ, false, ◌≤◌, ◌+◌, ◌∷◌, [], ⊎_elim, refl, sym, ap, ◌∙◌, subst, arith, option_map, option_and_then}
use Rattle.std.specs.Prelude.{◌==◌, Option, Some, None}
use Rattle.journal.specs.declared.entries.JournalEntry.TheVariants as entry
use Rattle.journal.specs.declared.events.Event.{Event}
use Rattle.journal.specs.declared.events.Event.TheVariants as events
use Rattle.mr_base.specs.declared.ids.AttemptId.{AttemptId}
use Rattle.mr_base.specs.declared.ids.TxnId.{TxnId}
use Rattle.mr_base.specs.declared.settings.Kind.TheVariants as kinds
use Rattle.mr_base.specs.declared.timestamps.Ts.{Ts}
use Rattle.range_log.specs.declared.entries.RetryCause.{RetryCause}
use Rattle.range_log.specs.declared.entries.RetryCause.TheVariants as causes
use Rattle.held_reads.proofs.Basics.{cond_cases, cond_false, attempts_same, not_none, some_same, told_apart}
use Rattle.held_reads.specs.KeepsReads.{IsKeptForReads, KeepsReads}
use Rattle.run_words.specs.Attempts.{Attempt, attempt_of, first_read, greatest_put, next_read, retried}
use Rattle.run_words.specs.History.{History, Item, Made}
use Rattle.run_words.specs.Setup.{Setup}
use Rattle.run_words.specs.Steps.{event_of}
use Rattle.run_words.specs.Transactions.{attempts, last_attempt}

-- an attempt has one of the numbers that were given, and owns the timestamp at which it reads
pub record IsNumbered (count : ℕ) (a : AttemptId) (att : Attempt) : Type 0 where
  pub positive : 1 ≤ a.0
  pub given : a.0 ≤ count
  pub owned : att.read_at.owner ≡ a.0

first_owner : (event : Option Event) (start : Ts) (b : AttemptId) (ts : Ts) → start.owner ≡ b.0 → first_read event start b ≡ Some ts → ts.owner ≡ b.0
first_owner (Some (events.Txn t gateway kinds.Now list)) start b ts o e = sym (ap (λ (x : Ts). x.owner) (some_same e)) ∙ o
first_owner (Some (events.Txn t gateway (kinds.Ago ms) list)) start b ts o e = sym (ap (λ (x : Ts). x.owner) (some_same e))
first_owner _ start b ts o e = absurd (not_none e)

begun_owner : (r : Option Ts) (b : AttemptId) (t : TxnId) (att : Attempt) → ((ts : Ts) → r ≡ Some ts → ts.owner ≡ b.0)
    → option_map (λ ts. record { txn = t; read_at = ts }) r ≡ Some att → att.read_at.owner ≡ b.0
begun_owner None b t att f e = absurd (not_none e)
begun_owner (Some ts) b t att f e = sym (ap (λ (x : Attempt). x.read_at.owner) (some_same e)) ∙ f ts refl

next_owner : (cause : RetryCause) (r g : Ts) (b : AttemptId) → (next_read cause r g b).owner ≡ b.0
next_owner (causes.Uncertain key ts) r g b = refl
next_owner (causes.NewerWrite ts) r g b = refl
next_owner (causes.Pushed ts) r g b = refl

retried_owner : (t : TxnId) (cause : RetryCause) (b : AttemptId) (greatest : AttemptId → Ts → Ts) (former : AttemptId) (r : Option Attempt) (att : Attempt)
    → retried t cause b greatest former r ≡ Some att → att.read_at.owner ≡ b.0
retried_owner t cause b greatest former None att e = absurd (not_none e)
retried_owner t cause b greatest former (Some x) att e =
    sym (ap (λ (y : Attempt). y.read_at.owner) (some_same e)) ∙ next_owner cause x.read_at (greatest former x.read_at) b

after_owner : (t : TxnId) (cause : RetryCause) (b : AttemptId) (greatest : AttemptId → Ts → Ts) (before : AttemptId → Option Attempt) (last : Option AttemptId) (att : Attempt)
    → option_and_then (λ former. retried t cause b greatest former (before former)) last ≡ Some att → att.read_at.owner ≡ b.0
after_owner t cause b greatest before None att e = absurd (not_none e)
after_owner t cause b greatest before (Some former) att e = retried_owner t cause b greatest former (before former) att e

new_number : (count : ℕ) (b a : AttemptId) (att : Attempt) → b.0 ≡ count + 1 → b ≡ a → att.read_at.owner ≡ b.0 → IsNumbered (count + 1) a att
new_number count b a att n e o =
    subst (λ (x : AttemptId). IsNumbered (count + 1) x att) e (record { positive = omega arith; given = omega arith; owned = o })

old_number : (count : ℕ) (a : AttemptId) (att : Attempt) → IsNumbered count a att → IsNumbered (count + 1) a att
old_number count a att n = record { positive = n.positive; given = let g : a.0 ≤ count = n.given in omega arith; owned = n.owned }

pub is_numbered : (setup : Setup) (h : History) → KeepsReads setup h → (a : AttemptId) (att : Attempt) → attempt_of h a ≡ Some att → IsNumbered (attempts setup h) a att
is_numbered setup [] k a att e = absurd (not_none e)
is_numbered setup (Made (entry.Begin t b gateway start limit) ∷ h) k a att e =
    ⊎_elim
    (λ (q : ((b.0 == a.0) ≡ _) × _). new_number (attempts setup h) b a att k.0.begun.attempt (attempts_same b a q.0)
    (begun_owner (first_read (event_of h) start b) b t att (λ ts f. first_owner (event_of h) start b ts (ap (λ (x : Ts). x.owner) k.0.begun.start_is) f) q.1))
    (λ (q : ((b.0 == a.0) ≡ _) × _). old_number (attempts setup h) a att (is_numbered setup h k.1 a att q.1))
    (cond_cases (b.0 == a.0) _ _ (Some att) e)
is_numbered setup (Made (entry.Retry t b cause) ∷ h) k a att e =
    ⊎_elim
    (λ (q : ((b.0 == a.0) ≡ _) × _). new_number (attempts setup h) b a att k.0.begun (attempts_same b a q.0)
    (after_owner t cause b (greatest_put h) (attempt_of h) (last_attempt h t) att q.1))
    (λ (q : ((b.0 == a.0) ≡ _) × _). old_number (attempts setup h) a att (is_numbered setup h k.1 a att q.1))
    (cond_cases (b.0 == a.0) _ _ (Some att) e)
is_numbered setup (x ∷ h) k a att e = is_numbered setup h k.1 a att e

apart_from_next : (count : ℕ) (b a : AttemptId) (att : Attempt) → b.0 ≡ count + 1 → IsNumbered count a att → (b.0 == a.0) ≡ false
apart_from_next count b a att e n = told_apart b.0 a.0 (let g : a.0 ≤ count = n.given in omega arith)

-- what is begun stays as it is
pub attempt_stays : (setup : Setup) (x : Item) (h : History) → IsKeptForReads setup h x → KeepsReads setup h → (a : AttemptId) (att : Attempt) → attempt_of h a ≡ Some att → attempt_of (x ∷ h) a ≡ Some att
attempt_stays setup (Made (entry.Begin t b gateway start limit)) h p k a att e =
    cond_false (b.0 == a.0) _ _ (apart_from_next (attempts setup h) b a att p.begun.attempt (is_numbered setup h k a att e)) ∙ e
attempt_stays setup (Made (entry.Retry t b cause)) h p k a att e =
    cond_false (b.0 == a.0) _ _ (apart_from_next (attempts setup h) b a att p.begun (is_numbered setup h k a att e)) ∙ e
attempt_stays setup x h p k a att e = e
