use Rattle.std.proofs.Common.{◌≡◌, ℕ, Bool, true, false, cond, List, [], ◌∷◌, inl, inr, ⊎_elim, refl, sym, ap, ◌∙◌, subst, true≢false, option_map, option_and_then}
use Rattle.std.specs.Prelude.{◌==◌, Option, Some, None}
use Rattle.std.proofs.lemmas.Bool.{eqb-true}
use Rattle.journal.specs.declared.entries.JournalEntry.TheVariants as entry
use Rattle.journal.specs.declared.events.Event.{Event}
use Rattle.journal.specs.declared.events.Event.TheVariants as events
use Rattle.mr_base.specs.declared.ids.AttemptId.{AttemptId}
use Rattle.mr_base.specs.declared.ids.NodeId.{NodeId}
use Rattle.mr_base.specs.declared.ids.TxnId.{TxnId}
use Rattle.mr_base.specs.declared.settings.Kind.{Kind}
use Rattle.mr_base.specs.declared.settings.Kind.TheVariants as kinds
use Rattle.mr_base.specs.declared.timestamps.Ts.{Ts}
use Rattle.range_log.specs.declared.entries.RetryCause.{RetryCause}
use Rattle.run_laws.proofs.AttemptLemmas.{attempt_stays, beginning_stays}
use Rattle.run_laws.specs.Lawful.{IsLawful}
use Rattle.run_laws.specs.Order.{IsBuilt}
use Rattle.run_words.proofs.HappenedLemmas.{place_itself}
use Rattle.run_words.specs.Askers.{txn_of}
use Rattle.run_words.specs.Attempts.{Attempt, attempt_of, first_read, greatest_put, retried}
use Rattle.run_words.specs.Happened.{IsPlace}
use Rattle.run_words.specs.History.{History, Item, Made}
use Rattle.run_words.specs.Setup.{Setup}
use Rattle.run_words.specs.Steps.{event_of}
use Rattle.run_words.specs.Transactions.{Beginning, beginning, beginning_after, is_open, last_attempt}
use Rattle.held_reads.proofs.Basics.{attempts_test, cond_cases, cond_true, not_none, same_tests, some_same}

abbrev txn_at : ℕ → TxnId
txn_at k = record { 0 = k }

pub txns_same : (u t : TxnId) → (u.0 == t.0) ≡ true → u ≡ t
txns_same u t e = ap txn_at (eqb-true u.0 t.0 e)

pub txns_test : (u t : TxnId) → u ≡ t → (u.0 == t.0) ≡ true
txns_test u t e = same_tests u.0 t.0 (ap (λ (x : TxnId). x.0) e)

-- there is one
abbrev pub IsThere : {X : Type 0} → Option X → Type 0
IsThere {X} o = (x : X) × (o ≡ Some x)

there_not_none : {X : Type 0} (o : Option X) → IsThere o → o ≡ None → ⊥
there_not_none o x e = not_none (sym e ∙ x.1)

picked_there : {X : Type 0} (t : Bool) (new : X) (old : Option X) → IsThere old → IsThere (cond t (Some new) old)
picked_there true new old o = (new, refl)
picked_there false new old o = o

-- a last attempt goes on to be there
pub last_goes : (x : Item) (h : History) (t : TxnId) → IsThere (last_attempt h t) → IsThere (last_attempt (x ∷ h) t)
last_goes (Made (entry.Begin u a gateway start limit)) h t o = picked_there (u.0 == t.0) a (last_attempt h t) o
last_goes (Made (entry.Retry u a cause)) h t o = picked_there (u.0 == t.0) a (last_attempt h t) o
last_goes x h t o = o

pub last_stays : (h older : History) (t : TxnId) → IsPlace older h → IsThere (last_attempt older t) → IsThere (last_attempt h t)
last_stays [] older t p o = subst (λ (g : History). IsThere (last_attempt g t)) p o
last_stays (x ∷ h) older t (inl p) o = subst (λ (g : History). IsThere (last_attempt g t)) p o
last_stays (x ∷ h) older t (inr p) o = last_goes x h t (last_stays h older t p o)

-- who is open has an attempt
opened : (t : Bool) (a : AttemptId) (old : Bool) (last : Option AttemptId) → (old ≡ true → IsThere last) → cond t true old ≡ true → IsThere (cond t (Some a) last)
opened true a old last f e = (a, refl)
opened false a old last f e = f e

closed_by : (t old : Bool) → cond t false old ≡ true → old ≡ true
closed_by true old e = absurd (true≢false (sym e))
closed_by false old e = e

pub open_last : (h : History) (t : TxnId) → is_open h t ≡ true → IsThere (last_attempt h t)
open_last [] t e = absurd (true≢false (sym e))
open_last (Made (entry.Begin u a gateway start limit) ∷ h) t e = opened (u.0 == t.0) a (is_open h t) (last_attempt h t) (open_last h t) e
open_last (Made (entry.Retry u a cause) ∷ h) t e = picked_there (u.0 == t.0) a (last_attempt h t) (open_last h t e)
open_last (Made (entry.Ack u ts results) ∷ h) t e = open_last h t (closed_by (u.0 == t.0) (is_open h t) e)
open_last (Made (entry.Fault u ts state) ∷ h) t e = open_last h t (closed_by (u.0 == t.0) (is_open h t) e)
open_last (Made (entry.Refuse u why) ∷ h) t e = open_last h t (closed_by (u.0 == t.0) (is_open h t) e)
open_last (Made (entry.Lost u) ∷ h) t e = open_last h t (closed_by (u.0 == t.0) (is_open h t) e)
open_last (x ∷ h) t e = open_last h t e

-- what begins has a beginning, and its first attempt a read timestamp
pub begun_here : (event : Option Event) (u : TxnId) (a : AttemptId) (gateway : NodeId) (start : Ts) (limit : Option ℕ) (kind : Kind) (list : List ℕ) (old : Option Beginning)
    → event ≡ Some (events.Txn u gateway kind list)
    → beginning_after (Made (entry.Begin u a gateway start limit)) event u old
    ≡ Some (record { attempt = a; gateway = gateway; start = start; limit = limit; kind = kind; list = list })
begun_here event u a gateway start limit kind list old e =
    ap (λ (v : Option Event). beginning_after (Made (entry.Begin u a gateway start limit)) v u old) e ∙ cond_true (u.0 == u.0) _ old (txns_test u u refl)

built_read : (u : TxnId) (gateway : NodeId) (kind : Kind) (list : List ℕ) (start : Ts) (a : AttemptId) → IsBuilt kind → IsThere (first_read (Some (events.Txn u gateway kind list)) start a)
built_read u gateway kinds.Now list start a b = (start, refl)
built_read u gateway (kinds.Ago ms) list start a b = (_, refl)
built_read u gateway (kinds.Within ms any) list start a b = absurd b

read_here : (event : Option Event) (u : TxnId) (gateway : NodeId) (kind : Kind) (list : List ℕ) (start : Ts) (a : AttemptId) → IsBuilt kind → event ≡ Some (events.Txn u gateway kind list)
    → IsThere (first_read event start a)
read_here event u gateway kind list start a b e =
    subst (λ (v : Option Event). IsThere (first_read v start a)) (sym e) (built_read u gateway kind list start a b)

abbrev pub txn_in : Option Attempt → Option TxnId
txn_in o = option_map (λ (x : Attempt). x.txn) o

begun_txn : (r : Option Ts) (u : TxnId) → IsThere r → txn_in (option_map (λ ts. record { txn = u; read_at = ts }) r) ≡ Some u
begun_txn r u there = ap (λ (o : Option Ts). txn_in (option_map (λ ts. record { txn = u; read_at = ts }) o)) there.1

retried_txn : (u : TxnId) (cause : RetryCause) (b : AttemptId) (greatest : AttemptId → Ts → Ts) (before : AttemptId → Option Attempt) (o : Option AttemptId) (former : AttemptId) (att : Attempt)
    → o ≡ Some former → before former ≡ Some att → txn_in (option_and_then (λ f. retried u cause b greatest f (before f)) o) ≡ Some u
retried_txn u cause b greatest before o former att e f =
    ap (λ (p : Option AttemptId). txn_in (option_and_then (λ f. retried u cause b greatest f (before f)) p)) e
    ∙ ap (λ (r : Option Attempt). txn_in (retried u cause b greatest former r)) f

mapped_txn : (r : Option Ts) (u : TxnId) (att : Attempt) → option_map (λ ts. record { txn = u; read_at = ts }) r ≡ Some att → u ≡ att.txn
mapped_txn None u att e = absurd (not_none e)
mapped_txn (Some ts) u att e = ap (λ (x : Attempt). x.txn) (some_same e)

former_txn : (u : TxnId) (cause : RetryCause) (b : AttemptId) (greatest : AttemptId → Ts → Ts) (former : AttemptId) (r : Option Attempt) (att : Attempt)
    → retried u cause b greatest former r ≡ Some att → u ≡ att.txn
former_txn u cause b greatest former None att e = absurd (not_none e)
former_txn u cause b greatest former (Some x) att e = ap (λ (y : Attempt). y.txn) (some_same e)

again_txn : (u : TxnId) (cause : RetryCause) (b : AttemptId) (greatest : AttemptId → Ts → Ts) (before : AttemptId → Option Attempt) (o : Option AttemptId) (att : Attempt)
    → option_and_then (λ f. retried u cause b greatest f (before f)) o ≡ Some att → u ≡ att.txn
again_txn u cause b greatest before None att e = absurd (not_none e)
again_txn u cause b greatest before (Some former) att e = former_txn u cause b greatest former (before former) att e

-- the attempt of whose transaction something is said
of_txn : (o : Option Attempt) (t : TxnId) → txn_in o ≡ Some t → (att : Attempt) × (o ≡ Some att) × (att.txn ≡ t)
of_txn None t e = absurd (not_none e)
of_txn (Some att) t e = (att, refl, some_same e)

pub txn_attempt : (h : History) (a : AttemptId) (t : TxnId) → txn_of h a ≡ Some t → (att : Attempt) × (attempt_of h a ≡ Some att) × (att.txn ≡ t)
txn_attempt h a t e = of_txn (attempt_of h a) t e

pub goes_on : (setup : Setup) (x : Item) (h : History) → IsLawful setup (x ∷ h) → (a : AttemptId) (att : Attempt) → attempt_of h a ≡ Some att → attempt_of (x ∷ h) a ≡ Some att
goes_on setup x h l a att e = attempt_stays setup (x ∷ h) h a att l (inr (place_itself h)) e

txn_goes_on : (setup : Setup) (x : Item) (h : History) → IsLawful setup (x ∷ h) → (a : AttemptId) (t : TxnId) → txn_of h a ≡ Some t → txn_of (x ∷ h) a ≡ Some t
txn_goes_on setup x h l a t e =
    let f : (att : Attempt) × (attempt_of h a ≡ Some att) × (att.txn ≡ t) = txn_attempt h a t e in
    ap txn_in (goes_on setup x h l a f.0 f.1) ∙ ap (λ (u : TxnId). Some u) f.2

-- the last attempt of a transaction is the transaction's
pub last_txn : (setup : Setup) (h : History) → IsLawful setup h → (t : TxnId) (a : AttemptId) → last_attempt h t ≡ Some a → txn_of h a ≡ Some t
last_txn setup [] l t a e = absurd (not_none e)
last_txn setup (Made (entry.Begin u b gateway start limit) ∷ h) l t a e =
    ⊎_elim
    (λ (q : ((u.0 == t.0) ≡ _) × _).
    ap txn_in (cond_true (b.0 == a.0) _ (attempt_of h a) (attempts_test b a (some_same q.1)))
    ∙ (begun_txn (first_read (event_of h) start b) u (read_here (event_of h) u gateway l.0.order.kind l.0.order.list start b l.0.order.built l.0.order.line.0)
    ∙ ap (λ (v : TxnId). Some v) (txns_same u t q.0)))
    (λ (q : ((u.0 == t.0) ≡ _) × _). txn_goes_on setup (Made (entry.Begin u b gateway start limit)) h l a t (last_txn setup h l.1 t a q.1))
    (cond_cases (u.0 == t.0) _ _ (Some a) e)
last_txn setup (Made (entry.Retry u b cause) ∷ h) l t a e =
    ⊎_elim
    (λ (q : ((u.0 == t.0) ≡ _) × _).
    let former : IsThere (last_attempt h u) = open_last h u l.0.determined.0 in
    let att : (x : Attempt) × (attempt_of h former.0 ≡ Some x) × (x.txn ≡ u) = txn_attempt h former.0 u (last_txn setup h l.1 u former.0 former.1) in
    ap txn_in (cond_true (b.0 == a.0) _ (attempt_of h a) (attempts_test b a (some_same q.1)))
    ∙ (retried_txn u cause b (greatest_put h) (attempt_of h) (last_attempt h u) former.0 att.0 former.1 att.1 ∙ ap (λ (v : TxnId). Some v) (txns_same u t q.0)))
    (λ (q : ((u.0 == t.0) ≡ _) × _). txn_goes_on setup (Made (entry.Retry u b cause)) h l a t (last_txn setup h l.1 t a q.1))
    (cond_cases (u.0 == t.0) _ _ (Some a) e)
last_txn setup (x ∷ h) l t a e = last_txn setup h l.1 t a e

beginning_goes_on : (setup : Setup) (x : Item) (h : History) → IsLawful setup (x ∷ h) → (t : TxnId) → IsThere (beginning h t) → IsThere (beginning (x ∷ h) t)
beginning_goes_on setup x h l t b = (b.0, beginning_stays setup (x ∷ h) h t b.0 l (inr (place_itself h)) b.1)

-- the transaction of an attempt has begun
pub attempt_begun : (setup : Setup) (h : History) → IsLawful setup h → (a : AttemptId) (att : Attempt) → attempt_of h a ≡ Some att → IsThere (beginning h att.txn)
attempt_begun setup [] l a att e = absurd (not_none e)
attempt_begun setup (Made (entry.Begin u b gateway start limit) ∷ h) l a att e =
    ⊎_elim
    (λ (q : ((b.0 == a.0) ≡ _) × _).
    subst (λ (v : TxnId). IsThere (beginning (Made (entry.Begin u b gateway start limit) ∷ h) v)) (mapped_txn (first_read (event_of h) start b) u att q.1)
    (_, begun_here (event_of h) u b gateway start limit l.0.order.kind l.0.order.list (beginning h u) l.0.order.line.0))
    (λ (q : ((b.0 == a.0) ≡ _) × _). beginning_goes_on setup (Made (entry.Begin u b gateway start limit)) h l att.txn (attempt_begun setup h l.1 a att q.1))
    (cond_cases (b.0 == a.0) _ _ (Some att) e)
attempt_begun setup (Made (entry.Retry u b cause) ∷ h) l a att e =
    ⊎_elim
    (λ (q : ((b.0 == a.0) ≡ _) × _).
    let former : IsThere (last_attempt h u) = open_last h u l.0.determined.0 in
    let old : (x : Attempt) × (attempt_of h former.0 ≡ Some x) × (x.txn ≡ u) = txn_attempt h former.0 u (last_txn setup h l.1 u former.0 former.1) in
    subst (λ (v : TxnId). IsThere (beginning h v)) (old.2 ∙ again_txn u cause b (greatest_put h) (attempt_of h) (last_attempt h u) att q.1) (attempt_begun setup h l.1 former.0 old.0 old.1))
    (λ (q : ((b.0 == a.0) ≡ _) × _). attempt_begun setup h l.1 a att q.1)
    (cond_cases (b.0 == a.0) _ _ (Some att) e)
attempt_begun setup (x ∷ h) l a att e = attempt_begun setup h l.1 a att e

pub last_begun : (setup : Setup) (h : History) → IsLawful setup h → (t : TxnId) (a : AttemptId) → last_attempt h t ≡ Some a → IsThere (beginning h t)
last_begun setup h l t a e =
    let f : (att : Attempt) × (attempt_of h a ≡ Some att) × (att.txn ≡ t) = txn_attempt h a t (last_txn setup h l t a e) in
    subst (λ (v : TxnId). IsThere (beginning h v)) f.2 (attempt_begun setup h l a f.0 f.1)
