use Rattle.std.proofs.Common.{◌≡◌, [], ◌∷◌, inl, inr, refl, sym, ap, ◌∙◌, subst}
use Rattle.run_laws.specs.Lists.{IsSettingOf}
use Rattle.std.specs.Prelude.{Option, Some, option_map}
use Rattle.answer_laws.proofs.MoreMembers.{mapped_some}
use Rattle.journal.specs.declared.entries.JournalEntry.TheVariants as entry
use Rattle.mr_base.specs.declared.ids.AttemptId.{AttemptId}
use Rattle.mr_base.specs.declared.ids.TxnId.{TxnId}
use Rattle.mr_base.specs.declared.timestamps.Ts.{Ts}
use Rattle.range_log.specs.declared.entries.Entry.TheVariants as log
use Rattle.range_log.specs.declared.entries.TxnState.TheVariants as states
use Rattle.run_laws.proofs.AttemptLemmas.{attempt_stays}
use Rattle.run_laws.proofs.LawfulLemmas.{happened_so}
use Rattle.run_laws.specs.Decided.{Decided, Decides, WasDecided}
use Rattle.run_laws.specs.Lawful.{IsLawful, IsPermitted}
use Rattle.run_words.specs.Askers.{txn_of}
use Rattle.run_words.specs.Attempts.{Attempt, attempt_of}
use Rattle.run_words.specs.Happened.{IsPlace}
use Rattle.run_words.specs.History.{History, Item, Made}
use Rattle.run_words.specs.Setup.{Setup}
use Rattle.serial_runs.proofs.Decisions.{IsDecision, deciding}
use Rattle.serial_runs.proofs.Numbers.{by_number, some_same}
use Rattle.serial_runs.proofs.Once.{once}
use Rattle.serial_runs.proofs.Settings.{one_setting}

-- where a transaction was decided
pub record IsDecidedAt (setup : Setup) (h : History) (d : Decided) : Type 0 where
  pub item : Item
  pub older : History
  pub place : IsPlace (item ∷ older) h
  pub decides : Decides setup d item older
  pub permitted : IsPermitted setup older item
  pub lawful : IsLawful setup older
  pub attempt : AttemptId
  pub decision : IsDecision setup item older d attempt

pub decided_at : (setup : Setup) (h : History) (d : Decided) → IsLawful setup h → WasDecided setup d h → IsDecidedAt setup h d
decided_at setup h d l w =
    let f : (x : Item) × (older : History) × IsPlace (x ∷ older) h × Decides setup d x older × IsPermitted setup older x × IsLawful setup older =
    happened_so setup h (Decides setup d) l w in
    let g : (a : AttemptId) × IsDecision setup f.0 f.1 d a = deciding setup f.0 f.1 d f.4 f.5 f.3 in
    record { item = f.0; older = f.1; place = f.2; decides = f.3; permitted = f.4; lawful = f.5; attempt = g.0; decision = g.1 }

pub older_of : (x : Item) (older h : History) → IsPlace (x ∷ older) h → IsPlace older h
older_of x older [] e = absurd (cc e)
older_of x older (y ∷ h) (inl e) = inr (rest older h (by_tail e))
  where
    tail : History → History
    tail [] = []
    tail (z ∷ g) = g

    by_tail : x ∷ older ≡ y ∷ h → older ≡ h
    by_tail q = ap tail q

    itself : (g : History) → IsPlace g g
    itself [] = refl
    itself (z ∷ g) = inl refl

    rest : (f g : History) → f ≡ g → IsPlace f g
    rest f g q = subst (λ (k : History). IsPlace f k) q (itself f)
older_of x older (y ∷ h) (inr p) = inr (older_of x older h p)

-- an attempt that decides is of the transaction in the whole history
pub deciding_txn : (setup : Setup) (h : History) (d : Decided) → IsLawful setup h → (at : IsDecidedAt setup h d) → txn_of h at.attempt ≡ Some d.txn
deciding_txn setup h d l at =
    let known : (y : Attempt) × (attempt_of at.older at.attempt ≡ Some y) × (y.txn ≡ d.txn) =
    mapped_some (λ (y : Attempt). y.txn) (attempt_of at.older at.attempt) d.txn at.decision.of_txn in
    ap (λ (o : Option Attempt). option_map (λ (y : Attempt). y.txn) o)
    (attempt_stays setup h at.older at.attempt known.0 l (older_of at.item at.older h at.place) known.1)
    ∙ ap (λ (t : TxnId). Some t) known.2

-- one timestamp decides one transaction
pub same_txn : (setup : Setup) (h : History) (d e : Decided) → IsLawful setup h → IsDecidedAt setup h d → IsDecidedAt setup h e → d.ts ≡ e.ts → d.txn ≡ e.txn
same_txn setup h d e l x y q =
    let same : x.attempt ≡ y.attempt = by_number x.attempt y.attempt (sym x.decision.owned ∙ (ap (λ (t : Ts). t.owner) q ∙ y.decision.owned)) in
    some_same (sym (deciding_txn setup h d l x) ∙ (ap (λ (a : AttemptId). txn_of h a) same ∙ deciding_txn setup h e l y))

same_parts : (d e : Decided) → d.txn ≡ e.txn → d.ts ≡ e.ts → d.setting ≡ e.setting → d ≡ e
same_parts d e f g k = λ i. record { txn = f i; ts = g i; setting = k i }

-- an item decides one transaction, in one way
pub same_here : (setup : Setup) (x : Item) (h : History) (d e : Decided) → Decides setup d x h → Decides setup e x h → d ≡ e
same_here setup (Made (entry.Append j index (log.State a (states.Committed c)))) h d e p q =
    let t : d.txn ≡ e.txn = some_same (sym p.0 ∙ q.0) in
    same_parts d e t (p.1 ∙ sym q.1) (one_setting setup h e.txn d.setting e.setting (subst (λ (u : TxnId). IsSettingOf setup h u d.setting) t p.2) q.2)
same_here setup (Made (entry.Ack t ts results)) h d e p q = same_parts d e (p.0 ∙ sym q.0) (p.1 ∙ sym q.1) (one_setting setup h t d.setting e.setting p.2 q.2)
same_here setup (Made (entry.Fault t ts state)) h d e p q = same_parts d e (p.0 ∙ sym q.0) (p.1 ∙ sym q.1) (one_setting setup h t d.setting e.setting p.2 q.2)
same_here setup x h d e p q = absurd p

abbrev DecisionAt : Setup → Decided → AttemptId → History → Type 0
DecisionAt setup d a [] = ⊥
DecisionAt setup d a (x ∷ h) = IsDecision setup x h d a

-- a transaction is decided at one place
pub one_place : (setup : Setup) (h : History) → IsLawful setup h → (d e : Decided) (a b : AttemptId) (x y : Item) (hx hy : History) → IsPlace (x ∷ hx) h → IsDecision setup x hx d a
    → IsPlace (y ∷ hy) h → IsDecision setup y hy e b → d.txn ≡ e.txn → x ∷ hx ≡ y ∷ hy
one_place setup [] l d e a b x y hx hy p u q w same = absurd (cc p)
one_place setup (z ∷ h) l d e a b x y hx hy (inl p) u (inl q) w same = p ∙ sym q
one_place setup (z ∷ h) l d e a b x y hx hy (inl p) u (inr q) w same =
    absurd (once setup z h l d a (subst (λ (g : History). DecisionAt setup d a g) p u) y hy e b q w same)
one_place setup (z ∷ h) l d e a b x y hx hy (inr p) u (inl q) w same =
    absurd (once setup z h l e b (subst (λ (g : History). DecisionAt setup e b g) q w) x hx d a p u (sym same))
one_place setup (z ∷ h) l d e a b x y hx hy (inr p) u (inr q) w same = one_place setup h l.1 d e a b x y hx hy p u q w same

abbrev DecidesNow : Setup → Decided → History → Type 0
DecidesNow setup d [] = ⊥
DecidesNow setup d (x ∷ h) = Decides setup d x h

-- and in one way
pub one_decision : (setup : Setup) (h : History) (d e : Decided) → IsLawful setup h → IsDecidedAt setup h d → IsDecidedAt setup h e → d.txn ≡ e.txn → d ≡ e
one_decision setup h d e l x y same =
    let place : x.item ∷ x.older ≡ y.item ∷ y.older =
    one_place setup h l d e x.attempt y.attempt x.item y.item x.older y.older x.place x.decision y.place y.decision same in
    same_here setup y.item y.older d e (subst (λ (g : History). DecidesNow setup d g) place x.decides) y.decides
