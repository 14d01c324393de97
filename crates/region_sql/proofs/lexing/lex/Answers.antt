use Rattle.std.proofs.Common.{◌≡◌, ◌<◌, length, Some, arith, refl}
use Rattle.region_sql.specs.Lexing.{after_blanks, token_at}
use Rattle.region_sql.proofs.Lexes.{token-shorter, lexes-push, blanks-no_longer}
use Rattle.region_sql.proofs.lexing.lex.Goals as goal

pub overflow_sub-text : goal.overflow_sub-text
overflow_sub-text c =
    let e : token_at (after_blanks c.loop-front.rest.now) ≡ Some (c.in-Some.token, c.in-Some.next.now) = rw (← c.after_blanks-front.ensures, ← c.in_ok-token.ensures, c.in-Some.is) refl in
    omega (arith, token-shorter _ _ e, blanks-no_longer c.loop-front.rest.now)

pub loop-front-smaller : goal.loop-front-smaller
loop-front-smaller c =
    let e : token_at (after_blanks c.loop-front.rest.now) ≡ Some (c.in-Some.token, c.in-Some.next.now) = rw (← c.after_blanks-front.ensures, ← c.in_ok-token.ensures, c.in-Some.is) refl in
    omega (arith, token-shorter _ _ e, blanks-no_longer c.loop-front.rest.now)

pub loop-front-preserved : goal.loop-front-preserved
loop-front-preserved c =
    let e : token_at (after_blanks c.loop-front.rest.now) ≡ Some (c.in-Some.token, c.in-Some.next.now) = rw (← c.after_blanks-front.ensures, ← c.in_ok-token.ensures, c.in-Some.is) refl in
    let within : length c.in-Some.next.now < length c.args.text.now = omega (arith, token-shorter _ _ e, blanks-no_longer c.loop-front.rest.now) in
    rw (c.in_ok-push.ensures.items, c.in_ok-push-2.ensures.items)
    (lexes-push (length c.args.text.now) c.args.text.now c.loop-front.tokens.items c.loop-front.ends.items c.loop-front.rest.now c.in-Some.token c.in-Some.next.now _ c.loop-front.invariant.0 e (omega arith), omega arith)
