use Rattle.std.proofs.Common.{◌∙◌, List, ap, sym, subst}
use Rattle.std.specs.Prelude.{All}
use Rattle.region_sql.specs.declared.row_statements.Term.{Term}
use Rattle.sql_eval.specs.Tables.{named}
use Rattle.local_search.specs.LookupOrder.{IsTypedTerm}
use Rattle.planner.proofs.BeginningLemmas.{begun, typed_terms}
use Rattle.planner.specs.Phases.{FindsRows, terms_of}
use Rattle.planner.specs.Turns.{IsFirstPhase}
use Rattle.planner.proofs.beginnings.begin_checked.Goals as goal

pub begin_search-requires-clause-typed : goal.begin_search-requires-clause-typed
begin_search-requires-clause-typed c =
    subst (All (IsTypedTerm c.args.n.now.table.now)) (ap terms_of c.in-Select.is ∙ sym c.as_slice-in-Select-2.ensures)
    (typed_terms c.args.n.now.table.now c.args.n.now.database.now c.args.s.now (subst FindsRows (sym c.in-Select.is) tt) c.requires.checked c.requires.texts)

pub begin_search-requires-in-Update-clause-typed : goal.begin_search-requires-in-Update-clause-typed
begin_search-requires-in-Update-clause-typed c =
    subst (All (IsTypedTerm c.args.n.now.table.now)) (ap terms_of c.in-Update.is ∙ sym c.as_slice-in-Update-2.ensures)
    (typed_terms c.args.n.now.table.now c.args.n.now.database.now c.args.s.now (subst FindsRows (sym c.in-Update.is) tt) c.requires.checked c.requires.texts)

pub begin_search-requires-in-Delete-clause-typed : goal.begin_search-requires-in-Delete-clause-typed
begin_search-requires-in-Delete-clause-typed c =
    subst (All (IsTypedTerm c.args.n.now.table.now)) (ap terms_of c.in-Delete.is ∙ sym c.as_slice-in-Delete-2.ensures)
    (typed_terms c.args.n.now.table.now c.args.n.now.database.now c.args.s.now (subst FindsRows (sym c.in-Delete.is) tt) c.requires.checked c.requires.texts)

pub returns-in_ok-phase-in-Select : goal.returns-in_ok-phase-in-Select
returns-in_ok-phase-in-Select c =
    let s = c.args.setting.now in
    let n = named c.args.n.now in
    let phase = c.in_ok-phase-in-Select.phase in
    begun s.layout s.region n c.args.s.now phase (subst FindsRows (sym c.in-Select.is) tt) c.requires.checked
    (subst (λ (ts : List Term). IsFirstPhase s.layout s.region n ts phase) (c.as_slice-in-Select-2.ensures ∙ sym (ap terms_of c.in-Select.is)) c.in_ok-phase-in-Select.ensures)

pub returns-in_ok-phase-in-Update : goal.returns-in_ok-phase-in-Update
returns-in_ok-phase-in-Update c =
    let s = c.args.setting.now in
    let n = named c.args.n.now in
    let phase = c.in_ok-phase-in-Update.phase in
    begun s.layout s.region n c.args.s.now phase (subst FindsRows (sym c.in-Update.is) tt) c.requires.checked
    (subst (λ (ts : List Term). IsFirstPhase s.layout s.region n ts phase) (c.as_slice-in-Update-2.ensures ∙ sym (ap terms_of c.in-Update.is)) c.in_ok-phase-in-Update.ensures)

pub returns-in_ok-phase-in-Delete : goal.returns-in_ok-phase-in-Delete
returns-in_ok-phase-in-Delete c =
    let s = c.args.setting.now in
    let n = named c.args.n.now in
    let phase = c.in_ok-phase-in-Delete.phase in
    begun s.layout s.region n c.args.s.now phase (subst FindsRows (sym c.in-Delete.is) tt) c.requires.checked
    (subst (λ (ts : List Term). IsFirstPhase s.layout s.region n ts phase) (c.as_slice-in-Delete-2.ensures ∙ sym (ap terms_of c.in-Delete.is)) c.in_ok-phase-in-Delete.ensures)
