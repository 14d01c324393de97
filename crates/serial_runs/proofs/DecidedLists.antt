use Rattle.std.proofs.Common.{◌≡◌, ◌≢◌, Bool, true, false, cond, List, [], ◌∷◌, inl, inr, refl, sym, ap, ◌∙◌, subst}
use Rattle.mr_base.specs.declared.results.StatementResult.{StatementResult}
use Rattle.serial_runs.proofs.Once.{once}
use Rattle.serial_runs.proofs.Decisions.{deciding}
use Rattle.run_laws.proofs.LawfulLemmas.{happened_so}
use Rattle.std.specs.Prelude.{◌⊎◌, AllPairs}
use Rattle.std.specs.List.{AllByRecursion, Contains}
use Rattle.answer_laws.proofs.Members.{Has, each_has, has_itself}
use Rattle.answer_laws.proofs.Pairwise.{EachTwo, all_pairs}
use Rattle.answer_laws.proofs.RowWrites.{each_from}
use Rattle.journal.specs.declared.entries.JournalEntry.TheVariants as entry
use Rattle.mr_base.specs.Timestamps.{IsBelow, ts_lt}
use Rattle.mr_base.specs.declared.ids.AttemptId.{AttemptId}
use Rattle.mr_base.specs.declared.ids.TxnId.{TxnId}
use Rattle.mr_base.specs.declared.timestamps.Ts.{Ts}
use Rattle.range_log.specs.declared.entries.Entry.TheVariants as log
use Rattle.range_log.specs.declared.entries.TxnState.TheVariants as states
use Rattle.run_laws.specs.Decided.{AreDecided, Decided, Decides, WasDecided}
use Rattle.run_laws.specs.Determined.{IsAckAt, IsAcknowledged}
use Rattle.run_laws.specs.Lawful.{IsLawful, IsPermitted}
use Rattle.run_laws.specs.Lists.{IsSettingOf}
use Rattle.run_words.proofs.MemberLemmas.{contains_first, contains_later}
use Rattle.run_words.specs.History.{History, Item, Made}
use Rattle.run_words.specs.Puts.{puts}
use Rattle.run_words.specs.Setup.{Setup}
use Rattle.serial_runs.proofs.Effects.{txn_known}
use Rattle.serial_runs.proofs.LastAttempts.{last_of}
use Rattle.serial_runs.proofs.Numbers.{some_same}
use Rattle.serial_runs.proofs.Places.{IsDecidedAt, decided_at, one_decision, same_here, same_txn}
use Rattle.serial_runs.proofs.TsOrder.{below_trans, not_itself, tested_below, tested_not, total}

-- the latest first
abbrev pub Falls : Decided → Decided → Type 0
Falls later earlier = IsBelow earlier.ts later.ts

abbrev pub IsFalling : List Decided → Type 0
IsFalling ds = EachTwo Falls ds

inserted : Decided → List Decided → List Decided
inserted d [] = d ∷ []
inserted d (e ∷ es) = cond (ts_lt e.ts d.ts) (d ∷ e ∷ es) (e ∷ inserted d es)

has_cond : (t : Bool) (x d e : Decided) (es rest : List Decided) → (Has x rest → (d ≡ x) ⊎ Has x es) → Has x (cond t (d ∷ e ∷ es) (e ∷ rest)) → (d ≡ x) ⊎ Has x (e ∷ es)
has_cond true x d e es rest f h = h
has_cond false x d e es rest f (inl q) = inr (inl q)
has_cond false x d e es rest f (inr h) = over (f h)
  where
    over : (d ≡ x) ⊎ Has x es → (d ≡ x) ⊎ Has x (e ∷ es)
    over (inl q) = inl q
    over (inr q) = inr (inr q)

inserted_has : (x d : Decided) (es : List Decided) → Has x (inserted d es) → (d ≡ x) ⊎ Has x es
unfolding inserted
inserted_has x d [] h = h
inserted_has x d (e ∷ es) h = has_cond (ts_lt e.ts d.ts) x d e es (inserted d es) (inserted_has x d es) h

cond_has : (t : Bool) (x d e : Decided) (es rest : List Decided) → ((d ≡ x) ⊎ Has x es → Has x rest) → (d ≡ x) ⊎ Has x (e ∷ es) → Has x (cond t (d ∷ e ∷ es) (e ∷ rest))
cond_has true x d e es rest f h = h
cond_has false x d e es rest f (inl q) = inr (f (inl q))
cond_has false x d e es rest f (inr (inl q)) = inl q
cond_has false x d e es rest f (inr (inr h)) = inr (f (inr h))

has_inserted : (x d : Decided) (es : List Decided) → (d ≡ x) ⊎ Has x es → Has x (inserted d es)
unfolding inserted
has_inserted x d [] h = h
has_inserted x d (e ∷ es) h = cond_has (ts_lt e.ts d.ts) x d e es (inserted d es) (has_inserted x d es) h

all_below : (d e : Decided) (es : List Decided) → IsBelow e.ts d.ts → AllByRecursion (Falls e) es → AllByRecursion (Falls d) es
all_below d e [] b a = tt
all_below d e (x ∷ es) b a = (below_trans x.ts e.ts d.ts a.0 b, all_below d e es b a.1)

above_first : (d e : Decided) → ¬ IsBelow e.ts d.ts → e.ts ≢ d.ts → IsBelow d.ts e.ts
above_first d e n m = by (total d.ts e.ts)
  where
    by : IsBelow d.ts e.ts ⊎ ((d.ts ≡ e.ts) ⊎ IsBelow e.ts d.ts) → IsBelow d.ts e.ts
    by (inl b) = b
    by (inr (inl q)) = absurd (m (sym q))
    by (inr (inr b)) = absurd (n b)

below_cond : (k : Bool) (t d e : Decided) (es rest : List Decided) → Falls t d → AllByRecursion (Falls t) (e ∷ es) → AllByRecursion (Falls t) rest
    → AllByRecursion (Falls t) (cond k (d ∷ e ∷ es) (e ∷ rest))
below_cond true t d e es rest b a r = (b, a)
below_cond false t d e es rest b a r = (a.0, r)

below_inserted : (t : Decided) (d : Decided) (es : List Decided) → Falls t d → AllByRecursion (Falls t) es → AllByRecursion (Falls t) (inserted d es)
unfolding inserted
below_inserted t d [] b a = (b, tt)
below_inserted t d (e ∷ es) b a = below_cond (ts_lt e.ts d.ts) t d e es (inserted d es) b a (below_inserted t d es b a.1)

falling_cond : (t : Bool) (d e : Decided) (es : List Decided) → ts_lt e.ts d.ts ≡ t → e.ts ≢ d.ts → IsFalling (e ∷ es) → IsFalling (inserted d es) → IsFalling (cond t (d ∷ e ∷ es) (e ∷ inserted d es))
falling_cond true d e es q n f g = ((tested_below e.ts d.ts q, all_below d e es (tested_below e.ts d.ts q) f.0), f)
falling_cond false d e es q n f g = (below_inserted e d es (above_first d e (tested_not e.ts d.ts q) n) f.0, g)

inserted_falls : (d : Decided) (es : List Decided) → IsFalling es → ((e : Decided) → Has e es → e.ts ≢ d.ts) → IsFalling (inserted d es)
unfolding inserted
inserted_falls d [] f n = (tt, tt)
inserted_falls d (e ∷ es) f n = falling_cond (ts_lt e.ts d.ts) d e es refl (n e (inl refl)) f (inserted_falls d es f.1 (λ x h. n x (inr h)))

-- ---- what an item decides

abbrev MayDecide : Setup → Item → History → Type 0
MayDecide setup x h = ((d : Decided) × Decides setup d x h) ⊎ ((d : Decided) → Decides setup d x h → ⊥)

ack_decides : (setup : Setup) (h : History) → IsLawful setup h → (t : TxnId) (ts : Ts) (results : List StatementResult) → (p : IsAcknowledged setup h t ts results) → IsAckAt h t p.attempt ts
    → MayDecide setup (Made (entry.Ack t ts results)) h
ack_decides setup h l t ts results p (inl at) =
    inr (λ d q. at.1 (subst (λ (b : AttemptId). puts h b ≡ []) (some_same (sym q.3.1 ∙ p.last)) q.3.2))
ack_decides setup h l t ts results p (inr at) =
    inl (
      record { txn = t; ts = ts; setting = p.answer.setting },
      (
        refl,
        refl,
        subst (λ (u : TxnId). IsSettingOf setup h u p.answer.setting) ((last_of setup h l t p.attempt p.last).of_it p.answer.attempt p.answer.is_attempt) p.answer.is_setting,
        (p.attempt, p.last, at.0),
      ),
    )

decides_here : (setup : Setup) (x : Item) (h : History) → IsPermitted setup h x → IsLawful setup h → MayDecide setup x h
decides_here setup (Made (entry.Append j index (log.State a (states.Committed c)))) h p l =
    inl (
      record { txn = p.determined.attempt.txn; ts = c; setting = p.determined.setting },
      (txn_known h a p.determined.attempt p.determined.is_attempt, refl, p.determined.is_setting),
    )
decides_here setup (Made (entry.Ack t ts results)) h p l = ack_decides setup h l t ts results p.determined p.determined.at
decides_here setup (Made (entry.Fault t ts state)) h p l =
    inl (
      record { txn = t; ts = ts; setting = p.determined.answer.setting },
      (
        refl,
        refl,
        subst (λ (u : TxnId). IsSettingOf setup h u p.determined.answer.setting)
            ((last_of setup h l t p.determined.attempt p.determined.last).of_it p.determined.answer.attempt p.determined.answer.is_attempt) p.determined.answer.is_setting,
      ),
    )
decides_here setup x h p l = inr (λ d q. q)

-- ---- all that are decided

pub record IsListed (setup : Setup) (h : History) : Type 0 where
  pub decided : List Decided
  pub falls : IsFalling decided
  pub was : (d : Decided) → Has d decided → WasDecided setup d h
  pub has : (d : Decided) → WasDecided setup d h → Has d decided

one_more : (setup : Setup) (x : Item) (h : History) → IsLawful setup (x ∷ h) → IsListed setup h → MayDecide setup x h → IsListed setup (x ∷ h)
one_more setup x h l old (inl (d, dd)) =
    record {
      decided = inserted d old.decided;
      falls = inserted_falls d old.decided old.falls (λ e k same. apart e (old.was e k) same);
      was = λ e k. was_by e (inserted_has e d old.decided k);
      has = λ e w. has_inserted e d old.decided (has_by e w);
    }
  where
    apart : (e : Decided) → WasDecided setup e h → e.ts ≢ d.ts
    apart e w same =
        let at : IsDecidedAt setup (x ∷ h) d = decided_at setup (x ∷ h) d l (inl dd) in
        let other : IsDecidedAt setup (x ∷ h) e = decided_at setup (x ∷ h) e l (inr w) in
        twice e w (one_decision setup (x ∷ h) e d l other at (same_txn setup (x ∷ h) e d l other at same))
      where
        twice : (f : Decided) → WasDecided setup f h → f ≡ d → ⊥
        twice f w q =
            let g = happened_so setup h (Decides setup f) l.1 w in
            let here = deciding setup x h d l.0 l.1 dd in
            let there = deciding setup g.0 g.1 f g.4 g.5 g.3 in
            once setup x h l d here.0 here.1 g.0 g.1 f there.0 g.2 there.1 (ap (λ (z : Decided). z.txn) (sym q))

    was_by : (e : Decided) → (d ≡ e) ⊎ Has e old.decided → WasDecided setup e (x ∷ h)
    was_by e (inl q) = inl (subst (λ (z : Decided). Decides setup z x h) q dd)
    was_by e (inr k) = inr (old.was e k)

    has_by : (e : Decided) → WasDecided setup e (x ∷ h) → (d ≡ e) ⊎ Has e old.decided
    has_by e (inl q) = inl (same_here setup x h d e dd q)
    has_by e (inr w) = inr (old.has e w)
one_more setup x h l old (inr none) =
    record {
      decided = old.decided;
      falls = old.falls;
      was = λ e k. inr (old.was e k);
      has = λ e w. by e w;
    }
  where
    by : (e : Decided) → WasDecided setup e (x ∷ h) → Has e old.decided
    by e (inl q) = absurd (none e q)
    by e (inr w) = old.has e w

pub listed : (setup : Setup) (h : History) → IsLawful setup h → IsListed setup h
listed setup [] l = record { decided = []; falls = tt; was = λ d k. absurd k; has = λ d w. absurd w }
listed setup (x ∷ h) l = one_more setup x h l (listed setup h l.1) (decides_here setup x h l.0 l.1)

-- ---- in the words of the laws

pub of_has : (x : Decided) (xs : List Decided) → Has x xs → Contains xs x
of_has x [] k = absurd k
of_has x (y ∷ ys) (inl e) = subst (λ (z : Decided). Contains (y ∷ ys) z) e (contains_first y ys)
of_has x (y ∷ ys) (inr k) = contains_later y x ys (of_has x ys k)

pub are_decided : (setup : Setup) (h : History) → (x : IsListed setup h) → AreDecided setup h x.decided
are_decided setup h x =
    record {
      latest_first = all_pairs Falls x.decided x.falls;
      are = λ d. ((λ c. x.was d (has_itself d x.decided c)), (λ w. of_has d x.decided (x.has d w)));
    }

apart_in : (setup : Setup) (h : History) → IsLawful setup h → (ds : List Decided) → IsFalling ds → ((d : Decided) → Has d ds → WasDecided setup d h) → EachTwo (λ d e. d.txn ≢ e.txn) ds
apart_in setup h l [] f w = tt
apart_in setup h l (d ∷ ds) f w = (
  each_from (λ e. d.txn ≢ e.txn) ds
      (λ e k same.
      let one : d ≡ e = one_decision setup h d e l (decided_at setup h d l (w d (inl refl))) (decided_at setup h e l (w e (inr k))) same in
      not_itself d.ts (subst (λ (z : Decided). IsBelow z.ts d.ts) (sym one) (each_has (Falls d) e ds f.0 k))),
  apart_in setup h l ds f.1 (λ e k. w e (inr k)),
)

pub decided_once : (setup : Setup) (h : History) → IsLawful setup h → (x : IsListed setup h) → AllPairs (λ d e. d.txn ≢ e.txn) x.decided
decided_once setup h l x = all_pairs (λ d e. d.txn ≢ e.txn) x.decided (apart_in setup h l x.decided x.falls x.was)
