use Rattle.std.proofs.Common.{◌≡◌, length, drop, true, false, rules}
use Rattle.std.proofs.lemmas.Result.{err_from_is_err_and}
use Rattle.region_sql.specs.Grammar.{row_statement, row_statements}
use Rattle.region_sql.specs.Reading.{begins, ended_at, first, parse}
use Rattle.region_sql.proofs.Loops.{goes_onward, is_last_marked, is_last_plain, ends_onward, runs_out_onward}
use Rattle.region_sql.proofs.lists.statements_of.Goals as goal

pub returns-in_err-statement : goal.returns-in_err-statement
unfolding row_statements
returns-in_err-statement c =
    let p = err_from_is_err_and c.from_residual.result c.from_residual.ensures.1 in
    rw (p.1, p.2) (ends_onward c.in_err-statement.field-0.0 c.loop.statements.items (length c.args.tokens.now) c.loop.counter 23 (first row_statement) (λ us. parse row_statement us) c.loop.rest.now
    (ended_at (length c.args.tokens.now) 23 (first row_statement) (λ us. parse row_statement us) c.args.tokens.now) c.loop-test.true c.in_err-statement.ensures c.loop.invariant)

pub returns-in_default : goal.returns-in_default
unfolding row_statements
returns-in_default c =
    rw (c.from_vec.ensures, c.in_ok-push.ensures.items) (is_last_plain c.loop.statements.items (length c.args.tokens.now) c.loop.counter 23 (first row_statement) (λ us. parse row_statement us) c.loop.rest.now c.in_ok-statement.statement c.in_ok-statement.after.now
    (ended_at (length c.args.tokens.now) 23 (first row_statement) (λ us. parse row_statement us) c.args.tokens.now) c.loop-test.true c.in_ok-statement.ensures c.in_default.ensures.none c.loop.invariant)

pub returns-then-not-begins_with_statement : goal.returns-then-not-begins_with_statement
unfolding row_statements
returns-then-not-begins_with_statement c =
    let no : begins (first row_statement) (drop 1 c.in_ok-statement.after.now) ≡ false = rw (← c.in-Some.ensures.found.1, ← c.begins_with_statement.ensures) (search rules) in
    rw (c.from_vec-then-not-begins_with_statement.ensures, c.in_ok-push.ensures.items, c.in-Some.ensures.found.1) (is_last_marked c.loop.statements.items (length c.args.tokens.now) c.loop.counter 23 (first row_statement) (λ us. parse row_statement us) c.loop.rest.now c.in_ok-statement.statement c.in_ok-statement.after.now
    (ended_at (length c.args.tokens.now) 23 (first row_statement) (λ us. parse row_statement us) c.args.tokens.now) c.loop-test.true c.in_ok-statement.ensures c.in-Some.ensures.found.0 no c.loop.invariant)

pub loop-preserved : goal.loop-preserved
loop-preserved c =
    let yes : begins (first row_statement) (drop 1 c.in_ok-statement.after.now) ≡ true = rw (← c.in-Some.ensures.found.1, ← c.begins_with_statement.ensures) (search rules) in
    rw (c.in_ok-push.ensures.items, c.in-Some.ensures.found.1) (goes_onward c.loop.statements.items (length c.args.tokens.now) c.loop.counter 23 (first row_statement) (λ us. parse row_statement us) c.loop.rest.now c.in_ok-statement.statement c.in_ok-statement.after.now
    (ended_at (length c.args.tokens.now) 23 (first row_statement) (λ us. parse row_statement us) c.args.tokens.now) c.loop-test.true c.in_ok-statement.ensures c.in-Some.ensures.found.0 yes c.loop.invariant)

pub returns : goal.returns
unfolding row_statements
returns c =
    runs_out_onward c.loop.statements.items (length c.args.tokens.now) c.loop.counter 23 (first row_statement) (λ us. parse row_statement us) c.loop.rest.now
    (ended_at (length c.args.tokens.now) 23 (first row_statement) (λ us. parse row_statement us) c.args.tokens.now) c.loop-test.false c.loop.invariant
