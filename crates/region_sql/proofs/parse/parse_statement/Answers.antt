use Rattle.std.proofs.Common.{◌≡◌, length, true, false, rules, Ok, Err}
use Rattle.region_sql.specs.Grammar.{statement}
use Rattle.region_sql.specs.Reading.{whole}
use Rattle.region_sql.proofs.GoodRegionForms.{statement-good}
use Rattle.region_sql.proofs.Exact.{whole-fits}
use Rattle.region_sql.proofs.Placing.{placed, placed-cut}
use Rattle.region_sql.proofs.Samples.{statement-sample}
use Rattle.region_sql.proofs.Texts.{is_text, no_text, cut_text}
use Rattle.region_sql.proofs.parse.parse_statement.Goals as goal

pub returns-then-not-lexed-clause-syntax : goal.returns-then-not-lexed-clause-syntax
returns-then-not-lexed-clause-syntax c =
    let l = c.in_ok-lexed.ensures in
    let cut : c.in_ok-lexed.lexed.is_whole ≡ false = search rules in
    cut_text statement (length c.args.s.now) c.args.s.now c.in_ok-lexed.lexed.tokens.items c.in_ok-lexed.lexed.ends.items l.0 c.in_ok-lexed.lexed.is_whole l.1 l.2 cut

pub returns-in-Ok-clause-value : goal.returns-in-Ok-clause-value
returns-in-Ok-clause-value c =
    let l = c.in_ok-lexed.ensures in
    let all : c.in_ok-lexed.lexed.is_whole ≡ true = search rules in
    let read : whole statement c.in_ok-lexed.lexed.tokens.items ≡ Ok c.in-Ok.statement = search rules in
    is_text statement (length c.args.s.now) c.args.s.now c.in_ok-lexed.lexed.tokens.items c.in_ok-lexed.lexed.ends.items l.0 c.in_ok-lexed.lexed.is_whole c.in-Ok.statement l.1 l.2 all read

pub returns-in-Err-At-clause-syntax : goal.returns-in-Err-At-clause-syntax
returns-in-Err-At-clause-syntax c =
    let l = c.in_ok-lexed.ensures in
    let read : whole statement c.in_ok-lexed.lexed.tokens.items ≡ Err c.in-Err-At.left = search rules in
    no_text statement statement-good (length c.args.s.now) c.args.s.now c.in_ok-lexed.lexed.tokens.items c.in_ok-lexed.lexed.ends.items l.0 c.in_ok-lexed.lexed.is_whole c.in-Err-At.left l.1 l.2 read

pub returns-then-not-lexed-clause-place : goal.returns-then-not-lexed-clause-place
returns-then-not-lexed-clause-place c =
    let l = c.in_ok-lexed.ensures in
    let cut : c.in_ok-lexed.lexed.is_whole ≡ false = search rules in
    let read : whole statement c.in_ok-lexed.lexed.tokens.items ≡ Ok c.in-Ok.statement = search rules in
    rw c.place.ensures (placed-cut statement c.args.s.now c.in_ok-lexed.lexed.tokens.items c.in_ok-lexed.lexed.ends.items l.0 c.in_ok-lexed.lexed.is_whole c.in-Ok.statement l.1 l.2 cut (whole-fits statement c.in_ok-lexed.lexed.tokens.items c.in-Ok.statement read))

pub returns-in-Err-At-clause-place : goal.returns-in-Err-At-clause-place
returns-in-Err-At-clause-place c =
    let l = c.in_ok-lexed.ensures in
    let read : whole statement c.in_ok-lexed.lexed.tokens.items ≡ Err c.in-Err-At.left = search rules in
    rw c.place-in-Err-At.ensures (placed statement statement-good statement-sample c.args.s.now c.in_ok-lexed.lexed.tokens.items c.in_ok-lexed.lexed.ends.items l.0 c.in_ok-lexed.lexed.is_whole c.in-Err-At.left l.1 l.2 read)
