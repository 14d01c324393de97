use Rattle.std.proofs.Common.{List, ℕ, Option}
use Rattle.std.specs.Borrow.{Bor}
use Rattle.std.specs.Global.{Vec}
use Rattle.std.proofs.lemmas.Result.{err_from_is_err_and}
use Rattle.row_locality.proofs.KeyReadingSteps.{byte_read, text_ended, piece_fault, piece_shorter}
use Rattle.row_locality.proofs.key_reading.unescaped_at.Goals as goal

pub returns-in_err-piece : goal.returns-in_err-piece
returns-in_err-piece c =
    let p = err_from_is_err_and c.from_residual.result c.from_residual.ensures.1 in
    rw (p.1, p.2)
    (piece_fault (λ (x : Option ℕ × Bor (List ℕ)). (x.0, x.1.now)) (λ (x : Vec ℕ × Bor (List ℕ)). (x.0.items, x.1.now)) c.in_err-piece.field-0.0 c.loop-text.text.items c.loop-text.rest.now _ c.in_err-piece.ensures c.loop-text.invariant)

pub loop-text-preserved : goal.loop-text-preserved
loop-text-preserved c =
    byte_read c.loop-text.text.items c.loop-text.rest.now c.in-Some.b c.in_ok-piece.piece c.in_ok-piece.after.now c.push.new.self.items _ c.in_ok-piece.ensures c.in-Some.is c.in_ok-push-in-Some.ensures.items c.loop-text.invariant

pub loop-text-smaller : goal.loop-text-smaller
loop-text-smaller c = piece_shorter c.loop-text.rest.now (c.in_ok-piece.piece, c.in_ok-piece.after.now) c.in_ok-piece.ensures

pub returns-in-None : goal.returns-in-None
returns-in-None c = text_ended c.loop-text.text.items c.loop-text.rest.now c.in_ok-piece.piece c.in_ok-piece.after.now _ c.in_ok-piece.ensures c.in-None.is c.loop-text.invariant
