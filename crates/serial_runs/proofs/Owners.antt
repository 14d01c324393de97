use Rattle.std.proofs.Common.{◌≡◌, ℕ, ◌≤◌, ◌+◌, List, [], ◌∷◌, inl, inr, ⊎_elim, refl, sym, ap, ◌∙◌, subst, arith, option_map, option_and_then}
use Rattle.std.specs.Prelude.{◌⊎◌, ◌==◌, Option, Some, None}
use Rattle.std.specs.List.{Contains}
use Rattle.journal.specs.declared.entries.JournalEntry.TheVariants as entry
use Rattle.journal.specs.declared.events.Event.{Event}
use Rattle.journal.specs.declared.events.Event.TheVariants as events
use Rattle.mr_base.specs.Timestamps.{IsBelow}
use Rattle.mr_base.specs.declared.ids.AttemptId.{AttemptId}
use Rattle.mr_base.specs.declared.ids.RangeId.{RangeId}
use Rattle.mr_base.specs.declared.ids.TxnId.{TxnId}
use Rattle.mr_base.specs.declared.settings.Kind.TheVariants as kinds
use Rattle.mr_base.specs.declared.timestamps.Ts.{Ts}
use Rattle.range_log.specs.declared.entries.Entry.TheVariants as log
use Rattle.range_log.specs.declared.entries.RetryCause.{RetryCause}
use Rattle.range_log.specs.declared.entries.RetryCause.TheVariants as causes
use Rattle.range_log.specs.declared.entries.TxnState.TheVariants as states
use Rattle.range_rules.specs.Puts.{just_above}
use Rattle.run_laws.specs.Determined.{IsAckAt}
use Rattle.run_laws.specs.Laid.{IsPutLaid}
use Rattle.run_laws.specs.Lawful.{IsLawful}
use Rattle.run_words.proofs.MemberLemmas.{contains_first, contains_later, contains_none, picked_cases}
use Rattle.run_words.specs.Attempts.{Attempt, attempt_of, first_read, greatest_put, next_read, retried}
use Rattle.run_words.specs.History.{History, Made}
use Rattle.run_words.specs.Puts.{CommitMade, PutMade, commit, greatest_with, puts}
use Rattle.run_words.specs.Setup.{Setup}
use Rattle.run_words.specs.Steps.{event_of}
use Rattle.run_words.specs.Transactions.{attempts, last_attempt}
use Rattle.serial_runs.proofs.Numbers.{attempts_same, cond_cases, not_none, some_same}
use Rattle.serial_runs.proofs.TsOrder.{later_owner}

-- an attempt owns the timestamp at which it reads, and has a number above none
pub record IsOwned (a : AttemptId) (x : Attempt) : Type 0 where
  pub positive : 1 ≤ a.0
  pub owned : x.read_at.owner ≡ a.0

first_owner : (event : Option Event) (start : Ts) (b : AttemptId) (ts : Ts) → start.owner ≡ b.0 → first_read event start b ≡ Some ts → ts.owner ≡ b.0
first_owner (Some (events.Txn t gateway kinds.Now list)) start b ts o e = sym (ap (λ (x : Ts). x.owner) (some_same e)) ∙ o
first_owner (Some (events.Txn t gateway (kinds.Ago ms) list)) start b ts o e = sym (ap (λ (x : Ts). x.owner) (some_same e))
first_owner _ start b ts o e = absurd (not_none e)

begun_owner : (r : Option Ts) (b : AttemptId) (t : TxnId) (att : Attempt) → ((ts : Ts) → r ≡ Some ts → ts.owner ≡ b.0)
    → option_map (λ ts. record { txn = t; read_at = ts }) r ≡ Some att → att.read_at.owner ≡ b.0
begun_owner None b t att f e = absurd (not_none e)
begun_owner (Some ts) b t att f e = sym (ap (λ (x : Attempt). x.read_at.owner) (some_same e)) ∙ f ts refl

next_owner : (cause : RetryCause) (r g : Ts) (b : AttemptId) → (next_read cause r g b).owner ≡ b.0
next_owner (causes.Uncertain key ts) r g b = refl
next_owner (causes.NewerWrite ts) r g b = refl
next_owner (causes.Pushed ts) r g b = refl

retried_owner : (t : TxnId) (cause : RetryCause) (b : AttemptId) (greatest : AttemptId → Ts → Ts) (former : AttemptId) (r : Option Attempt) (att : Attempt)
    → retried t cause b greatest former r ≡ Some att → att.read_at.owner ≡ b.0
retried_owner t cause b greatest former None att e = absurd (not_none e)
retried_owner t cause b greatest former (Some x) att e =
    sym (ap (λ (y : Attempt). y.read_at.owner) (some_same e)) ∙ next_owner cause x.read_at (greatest former x.read_at) b

after_owner : (t : TxnId) (cause : RetryCause) (b : AttemptId) (greatest : AttemptId → Ts → Ts) (before : AttemptId → Option Attempt) (last : Option AttemptId) (att : Attempt)
    → option_and_then (λ former. retried t cause b greatest former (before former)) last ≡ Some att → att.read_at.owner ≡ b.0
after_owner t cause b greatest before None att e = absurd (not_none e)
after_owner t cause b greatest before (Some former) att e = retried_owner t cause b greatest former (before former) att e

owned_new : (count : ℕ) (b a : AttemptId) (x : Attempt) → b.0 ≡ count + 1 → b ≡ a → x.read_at.owner ≡ b.0 → IsOwned a x
owned_new count b a x n e o = subst (λ (y : AttemptId). IsOwned y x) e (record { positive = omega arith; owned = o })

pub attempt_owned : (setup : Setup) (h : History) → IsLawful setup h → (a : AttemptId) (x : Attempt) → attempt_of h a ≡ Some x → IsOwned a x
attempt_owned setup [] l a x e = absurd (not_none e)
attempt_owned setup (Made (entry.Begin t b gateway start limit) ∷ h) l a x e =
    ⊎_elim
    (λ (q : ((b.0 == a.0) ≡ _) × _). owned_new (attempts setup h) b a x l.0.begun.attempt (attempts_same b a q.0)
    (begun_owner (first_read (event_of h) start b) b t x (λ ts f. first_owner (event_of h) start b ts (ap (λ (y : Ts). y.owner) l.0.begun.start_is) f) q.1))
    (λ (q : ((b.0 == a.0) ≡ _) × _). attempt_owned setup h l.1 a x q.1)
    (cond_cases (b.0 == a.0) _ _ (Some x) e)
attempt_owned setup (Made (entry.Retry t b cause) ∷ h) l a x e =
    ⊎_elim
    (λ (q : ((b.0 == a.0) ≡ _) × _). owned_new (attempts setup h) b a x l.0.begun (attempts_same b a q.0)
    (after_owner t cause b (greatest_put h) (attempt_of h) (last_attempt h t) x q.1))
    (λ (q : ((b.0 == a.0) ≡ _) × _). attempt_owned setup h l.1 a x q.1)
    (cond_cases (b.0 == a.0) _ _ (Some x) e)
attempt_owned setup (y ∷ h) l a x e = attempt_owned setup h l.1 a x e

pub greatest_owner : (ts : Ts) (ps : List PutMade) (o : ℕ) → ts.owner ≡ o → ((p : PutMade) → Contains ps p → p.ts.owner ≡ o) → (greatest_with ts ps).owner ≡ o
greatest_owner ts [] o e f = e
greatest_owner ts (q ∷ ps) o e f =
    later_owner (greatest_with ts ps) q.ts o (greatest_owner ts ps o e (λ p c. f p (contains_later q p ps c))) (f q (contains_first q ps))

module _ (setup : Setup) (h : History) (a : AttemptId) (j : RangeId) (start : Ts) (anchor : RangeId) (p : Ts) (key : List ℕ) (value : Option (List ℕ)) (laid : IsPutLaid setup h a j start anchor p key value) where
  abbrev asked : Ts
  asked = greatest_put h a laid.attempt.read_at

  owner_by : {W : Ts → Type 0} → asked.owner ≡ a.0 → (p ≡ asked) ⊎ ((f : Ts) × W f × IsBelow asked f × (p ≡ just_above f a)) → p.owner ≡ a.0
  owner_by o (inl e) = ap (λ (t : Ts). t.owner) e ∙ o
  owner_by o (inr (f, way, above, e)) = ap (λ (t : Ts). t.owner) e

  laid_owner : laid.attempt.read_at.owner ≡ a.0 → ((q : PutMade) → Contains (puts h a) q → q.ts.owner ≡ a.0) → p.owner ≡ a.0
  laid_owner o f = owner_by (greatest_owner laid.attempt.read_at (puts h a) a.0 o f) laid.placed.at

-- an attempt owns its puts
pub put_owned : (setup : Setup) (h : History) → IsLawful setup h → (a : AttemptId) (p : PutMade) → Contains (puts h a) p → p.ts.owner ≡ a.0
put_owned setup [] l a p c = absurd (contains_none p c)
put_owned setup (Made (entry.Append range index (log.Put b start anchor ts key value)) ∷ h) l a p c =
    ⊎_elim
    (λ (q : (b ≡ a) × (p ≡ _)). ap (λ (y : PutMade). y.ts.owner) q.1
    ∙ (laid_owner setup h b range start anchor ts key value l.0.laid (attempt_owned setup h l.1 b l.0.laid.attempt l.0.laid.is_attempt).owned (put_owned setup h l.1 b)
    ∙ ap (λ (y : AttemptId). y.0) q.0))
    (λ q. put_owned setup h l.1 a p q)
    (picked_cases (b.0 == a.0) b a _ p (puts h a) refl c)
put_owned setup (x ∷ h) l a p c = put_owned setup h l.1 a p c

-- where it commits is its own too
pub greatest_owned : (setup : Setup) (h : History) → IsLawful setup h → (a : AttemptId) (x : Attempt) → attempt_of h a ≡ Some x → (greatest_put h a x.read_at).owner ≡ a.0
greatest_owned setup h l a x e = greatest_owner x.read_at (puts h a) a.0 (attempt_owned setup h l a x e).owned (put_owned setup h l a)

pub commit_owned : (setup : Setup) (h : History) → IsLawful setup h → (a : AttemptId) (made : CommitMade) → commit h a ≡ Some made → made.ts.owner ≡ a.0
commit_owned setup [] l a made e = absurd (not_none e)
commit_owned setup (Made (entry.Append range index (log.State b (states.Committed c))) ∷ h) l a made e =
    ⊎_elim
    (λ (q : ((b.0 == a.0) ≡ _) × _). sym (ap (λ (m : CommitMade). m.ts.owner) (some_same q.1))
    ∙ (ap (λ (t : Ts). t.owner) l.0.records.by.at_is ∙ (greatest_owned setup h l.1 b l.0.records.by.attempt l.0.records.by.is_attempt
    ∙ ap (λ (y : AttemptId). y.0) (attempts_same b a q.0))))
    (λ (q : ((b.0 == a.0) ≡ _) × _). commit_owned setup h l.1 a made q.1)
    (cond_cases (b.0 == a.0) _ _ (Some made) e)
commit_owned setup (x ∷ h) l a made e = commit_owned setup h l.1 a made e

-- and where it is acknowledged
pub ack_owned : (setup : Setup) (g : History) → IsLawful setup g → (t : TxnId) (a : AttemptId) (ts : Ts) → IsAckAt g t a ts → ts.owner ≡ a.0
ack_owned setup g l t a ts (inl at) = sym (ap (λ (u : Ts). u.owner) at.3) ∙ commit_owned setup g l a at.0 at.2
ack_owned setup g l t a ts (inr at) = sym (ap (λ (u : Ts). u.owner) at.1.2) ∙ (attempt_owned setup g l a at.1.0 at.1.1).owned
