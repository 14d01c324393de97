-- Plans, as they need more and are fed.
use Rattle.std.proofs.Common.{◌≡◌, ℕ, ◌+◌, ◌<◌, false, List, [], ◌∷◌, ◌++◌, refl, sym, ap, ◌∙◌, subst}
use Rattle.std.specs.Prelude.{drop, IfSome, OnOk, OnErr, Option, Some, None, Result, Ok, Err}
use Rattle.mr_base.specs.Scripts.{AsksFor, IsNearer, fed_with}
use Rattle.mr_base.specs.declared.ids.RangeId.{RangeId}
use Rattle.mr_base.specs.declared.memory.Memory.{Memory}
use Rattle.mr_base.specs.declared.results.StatementResult.{StatementResult}
use Rattle.mr_base.specs.declared.script.Fed.{Fed}
use Rattle.mr_base.specs.declared.script.Need.{Need}
use Rattle.mr_base.specs.declared.script.Need.TheVariants.{Ask as AskFor, Done, Fault}
use Rattle.mr_base.specs.declared.spans.Ask.{Ask}
use Rattle.mr_base.specs.declared.spans.Pair.{Pair}
use Rattle.mr_base.specs.declared.states.SqlState.{SqlState}
use Rattle.region_sql.specs.declared.row_statements.RowStatement.{RowStatement}
use Rattle.descriptors.specs.Contents.{Contents}
use Rattle.descriptors.specs.Sound.{IsSoundCatalog}
use Rattle.row_locality.specs.Plain.{AreRangesOf, Layout, PlainDatabase}
use Rattle.sql_eval.specs.Agreement.{AreChanges}
use Rattle.sql_eval.specs.Evaluation.{ListOutcome, Setting, evaluation, list_outcome, statement_outcome}
use Rattle.sql_eval.specs.Execution.{Named, exec, named_table, table_name}
use Rattle.sql_eval.specs.Laws.{HaveTexts, IsExecuted, IsSoundSetting}
use Rattle.sql_eval.specs.NextSpan.{asks_after, need_of, next_in, next_span, phases_after, answers_in, writes_in}
use Rattle.sql_eval.specs.OwnWrites.{OwnWrites}
use Rattle.sql_eval.specs.Reads.{Reads, served_reads}
use Rattle.sql_eval.specs.Search.{Evaluation, gives, faults, needs, ◌>>=◌, of_result}
use Rattle.answer_laws.proofs.LawsOfNeeds.{fed_is_known, known_is_not_needed, needs_are_counted, answers_bring_nearer}
use Rattle.answer_laws.proofs.WholeLists.{evaluation_executed}
use Rattle.planner.specs.Phases.{IsSoundPhase}
use Rattle.planner.specs.Plans.{PlansAreExecuted, is_done}
use Rattle.planner.specs.Progress.{IsPhaseOfFirst, IsStateOf, answered, rest_of_list}
use Rattle.planner.specs.declared.phases.Phase.TheVariants.{Ready}
use Rattle.planner.specs.declared.plan.State.{State}
use Rattle.planner.specs.declared.plan.State.TheVariants.{Working, Faulty, Done as Ended, Lost}

-- ---- what is needed

same_need : {a b : Ask} → AskFor a ≡ AskFor b → a ≡ b
same_need e = cc

needed_by : (e : Evaluation ListOutcome) (ask : Ask) → need_of e ≡ AskFor ask → next_in e ≡ Some ask
needed_by (gives x) ask e = absurd (cc)
needed_by (faults code) ask e = absurd (cc)
needed_by (needs a p n) ask e = ap (λ b. Some b) (same_need e)

pub needed : (s : Setting) (fed : List Fed) (ask : Ask) → need_of (evaluation s (served_reads fed)) ≡ AskFor ask → next_span s fed ≡ Some ask
needed s fed ask e = needed_by (evaluation s (served_reads fed)) ask e

pub unknown : (s : Setting) (fed : List Fed) (ask : Ask) → need_of (evaluation s (served_reads fed)) ≡ AskFor ask → served_reads fed ask ≡ None
unknown s fed ask e = known_is_not_needed s fed ask (needed s fed ask e)

pub counted : (s : Setting) (fed : List Fed) (need : Need) → need ≡ need_of (evaluation s (served_reads fed)) → AsksFor need → 0 < phases_after s fed + asks_after s fed
counted s fed (AskFor ask) e h = needs_are_counted s fed ask (needed s fed ask (sym e))
counted s fed Done e h = absurd h
counted s fed (Fault code) e h = absurd h

pub nearer : (s : Setting) (fed : List Fed) (ask : Ask) (rows : List Pair) → need_of (evaluation s (served_reads fed)) ≡ AskFor ask
    → IsNearer (phases_after s fed) (asks_after s fed) (phases_after s (fed ++ fed_with ask rows ∷ [])) (asks_after s (fed ++ fed_with ask rows ∷ []))
nearer s fed ask rows e = answers_bring_nearer s fed ask rows (needed s fed ask e)

-- ---- a plan that is fed

done_no : (e : Evaluation ListOutcome) (ask : Ask) (x : ListOutcome) → need_of e ≡ AskFor ask → e ≡ gives x → ⊥
done_no e ask x n g = let m : Done ≡ AskFor ask = subst (λ f. need_of f ≡ AskFor ask) g n in cc

fault_no : (e : Evaluation ListOutcome) (ask : Ask) (code : SqlState) → need_of e ≡ AskFor ask → e ≡ faults code → ⊥
fault_no e ask code n g = let m : Fault code ≡ AskFor ask = subst (λ f. need_of f ≡ AskFor ask) g n in cc

pub state_kept : (s : Setting) (fed : List Fed) (x : Fed) (ask : Ask) (st : State) → need_of (evaluation s (served_reads fed)) ≡ AskFor ask
    → IsStateOf s fed st → IsStateOf s (fed ++ x ∷ []) st
state_kept s fed x ask (Working p) n h = (h.0, λ reads part. h.1 reads (λ a pairs e. part a pairs (fed_is_known fed (x ∷ []) a pairs e)))
state_kept s fed x ask (Faulty code) n h = absurd (fault_no (evaluation s (served_reads fed)) ask code n h)
state_kept s fed x ask (Ended y) n h = absurd (done_no (evaluation s (served_reads fed)) ask (record { answers = y.answers; own = y.own }) n h.0)
state_kept s fed x ask Lost n h = tt

is_not_done : (s : Setting) (fed : List Fed) (ask : Ask) (st : State) → need_of (evaluation s (served_reads fed)) ≡ AskFor ask → IsStateOf s fed st → is_done st ≡ false
is_not_done s fed ask (Working p) n h = refl
is_not_done s fed ask (Faulty code) n h = refl
is_not_done s fed ask (Ended y) n h = absurd (done_no (evaluation s (served_reads fed)) ask (record { answers = y.answers; own = y.own }) n h.0)
is_not_done s fed ask Lost n h = refl

-- ---- a plan of which nothing was done

nothing_before : (e : Evaluation ListOutcome) → answered [] e ≡ e
nothing_before (gives x) = refl
nothing_before (faults code) = refl
nothing_before (needs a p n) = refl

-- a list of which nothing was done is left whole
pub all_is_left : (l : Layout) (gateway : List ℕ) (reads : Reads) (own : OwnWrites) (list : List RowStatement)
    → list_outcome l gateway reads own list ≡ rest_of_list l gateway reads own Ready list
unfolding list_outcome statement_outcome
all_is_left l gateway reads own [] = refl
all_is_left l gateway reads own (s ∷ ss) = refl

pub ready : (c : Contents) (list : List RowStatement) → IsPhaseOfFirst c Ready list
ready c [] = tt
ready c (s ∷ ss) = by (named_table c (table_name s))
  where
    by : (o : Option Named) → IfSome o (IsSoundPhase c s Ready)
    by None = tt
    by (Some n) = tt

left_of : (s : Setting) (reads : Reads) (r : Result (List RowStatement) SqlState)
    → (of_result r >>= λ list. list_outcome s.layout s.region reads [] list)
    ≡ (of_result r >>= λ list. answered [] (rest_of_list s.layout s.region reads [] Ready (drop 0 list)))
left_of s reads (Err code) = refl
left_of s reads (Ok list) = all_is_left s.layout s.region reads [] list ∙ sym (nothing_before (rest_of_list s.layout s.region reads [] Ready list))

first_working : (s : Setting) → IsStateOf s [] (Working (record { done = 0; own = []; answers = []; phase = Ready }))
unfolding evaluation
first_working s = (λ list e. ready s.layout.catalog (drop 0 list), λ reads part. left_of s reads s.list)

pub is_first : (s : Setting) (own : OwnWrites) (answers : List StatementResult) → own ≡ [] → answers ≡ []
    → IsStateOf s [] (Working (record { done = 0; own = own; answers = answers; phase = Ready }))
is_first s own answers e f =
    subst (λ (o : OwnWrites). IsStateOf s [] (Working (record { done = 0; own = o; answers = answers; phase = Ready }))) (sym e)
    (subst (λ (a : List StatementResult). IsStateOf s [] (Working (record { done = 0; own = []; answers = a; phase = Ready }))) (sym f) (first_working s))

pub first_faulty : (s : Setting) (code : SqlState) → s.list ≡ Err code → IsStateOf s [] (Faulty code)
unfolding evaluation
first_faulty s code e = ap (λ r. of_result r >>= λ list. list_outcome s.layout s.region (served_reads []) [] list) e

-- ---- plans are executed

executed_by : (s : Setting) (d : PlainDatabase) (e : Evaluation ListOutcome) → IsExecuted s d e
    → (need_of e ≡ Done → (after : PlainDatabase) × (exec s.layout.catalog s.region s.list d ≡ Ok (answers_in e, after)) × AreChanges s.layout d after (writes_in e))
    × ((code : SqlState) → need_of e ≡ Fault code → exec s.layout.catalog s.region s.list d ≡ Err code)
executed_by s d (gives x) h = (λ e. h, λ code e. absurd (cc))
executed_by s d (faults c) h = (λ e. absurd (cc), λ code e. let same : c ≡ code = cc in h ∙ ap (λ (x : SqlState). Err x) same)
executed_by s d (needs a p n) h = (λ e. absurd (cc), λ code e. absurd (cc))

pub plans_are_executed : PlansAreExecuted
plans_are_executed s fed d sound valid agrees =
    let r = executed_by s d (evaluation s (served_reads fed)) (evaluation_executed s fed d sound valid agrees) in
    record { done = r.0; fault = r.1 }

-- ---- after a feed, which may meet want of memory

module _ (s : Setting) (fed after : List Fed) (ask : Ask) (rows : List Pair) (need : need_of (evaluation s (served_reads fed)) ≡ AskFor ask) where
  pub state_after : (r : Result (Unit {0}) Memory) (st : State) → OnOk r (after ≡ fed ++ fed_with ask rows ∷ []) → OnErr r (after ≡ fed) → IsStateOf s fed st → IsStateOf s after st
  state_after (Ok u) st e f h = subst (λ (l : List Fed). IsStateOf s l st) (sym e) (state_kept s fed (fed_with ask rows) ask st need h)
  state_after (Err m) st e f h = subst (λ (l : List Fed). IsStateOf s l st) (sym f) h

  pub nearer_after : (r : Result (Unit {0}) Memory) → OnOk r (after ≡ fed ++ fed_with ask rows ∷ [])
      → OnOk r (IsNearer (phases_after s fed) (asks_after s fed) (phases_after s after) (asks_after s after))
  nearer_after (Ok u) e = subst (λ (l : List Fed). IsNearer (phases_after s fed) (asks_after s fed) (phases_after s l) (asks_after s l)) (sym e) (nearer s fed ask rows need)
  nearer_after (Err m) e = tt

-- ---- a plan that is made

pub sound_setting : (s : Setting) (c : Contents) (ranges : List RangeId) (list : Result (List RowStatement) SqlState) → s.layout.catalog ≡ c → s.layout.first_ranges ≡ ranges
    → s.list ≡ list → IsSoundCatalog c → AreRangesOf (record { catalog = c; first_ranges = ranges }) → HaveTexts list → IsSoundSetting s
sound_setting s c ranges list e f g catalog numbered texts =
    let layout : record { catalog = c; first_ranges = ranges } ≡ s.layout = λ i. record { catalog = sym e i; first_ranges = sym f i } in
    record {
      layout = record { catalog = subst IsSoundCatalog (sym e) catalog; ranges = subst AreRangesOf layout numbered };
      texts = subst HaveTexts (sym g) texts;
    }
