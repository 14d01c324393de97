-- What a list of at most 64 statements is read as.
use Rattle.std.proofs.Common.{◌≡◌, ℕ, ◌≤◌, ◌==◌, ◌&&◌, Bool, true, false, not, nat_lt, if◌then◌else◌, List, Result, Ok, Err, length, ap, ◌∙◌, arith}
use Rattle.std.specs.List.{list_all}
use Rattle.std.proofs.lemmas.Bool.Decides.{nat_tests}
use Rattle.mr_base.specs.declared.settings.Kind.{Kind}
use Rattle.mr_base.specs.declared.states.SqlState.{SqlState}
use Rattle.mr_base.specs.declared.states.SqlState.TheVariants.{S0A000, S25006, S54000}
use Rattle.region_sql.specs.declared.row_statements.RowStatement.{RowStatement}
use Rattle.sql_eval.specs.ListFaults.{is_select, is_past, is_bounded, list_result}

abbrev by_tests : List RowStatement → (many past bounded : Bool) → Result (List RowStatement) SqlState
by_tests list many past bounded = if many then Err S54000 else (if past then Err S25006 else (if bounded then Err S0A000 else Ok list))

few : (n : ℕ) → n ≤ 64 → nat_lt 64 n ≡ false
few n le = grind (arith, nat_tests)

abbrev past_of : Kind → List RowStatement → Bool
past_of kind list = is_past kind && not (list_all is_select list)

abbrev bounded_of : Kind → List RowStatement → Bool
bounded_of kind list = is_bounded kind && not (length list == 1)

pub is_read_only : (kind : Kind) (list : List RowStatement) → length list ≤ 64 → (is_past kind && not (list_all is_select list)) ≡ true → list_result kind list ≡ Err S25006
is_read_only kind list le e = ap (λ b. by_tests list b (past_of kind list) (bounded_of kind list)) (few (length list) le) ∙ ap (λ b. by_tests list false b (bounded_of kind list)) e

pub is_one_select : (kind : Kind) (list : List RowStatement) → length list ≤ 64 → (is_past kind && not (list_all is_select list)) ≡ false → (is_bounded kind && not (length list == 1)) ≡ true → list_result kind list ≡ Err S0A000
is_one_select kind list le e f = ap (λ b. by_tests list b (past_of kind list) (bounded_of kind list)) (few (length list) le) ∙ ap (λ b. by_tests list false b (bounded_of kind list)) e ∙ ap (by_tests list false false) f

pub is_taken : (kind : Kind) (list : List RowStatement) → length list ≤ 64 → (is_past kind && not (list_all is_select list)) ≡ false → (is_bounded kind && not (length list == 1)) ≡ false → list_result kind list ≡ Ok list
is_taken kind list le e f = ap (λ b. by_tests list b (past_of kind list) (bounded_of kind list)) (few (length list) le) ∙ ap (λ b. by_tests list false b (bounded_of kind list)) e ∙ ap (by_tests list false false) f
