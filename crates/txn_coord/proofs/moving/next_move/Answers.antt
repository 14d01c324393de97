use Rattle.std.proofs.Common.{◌≡◌, Some, sym, ◌∙◌}
use Rattle.txn_coord.specs.Machine.{machine_of}
use Rattle.txn_coord.specs.Asking.{sends}
use Rattle.txn_coord.proofs.OkLemmas.{if_ok, on_ok}
use Rattle.txn_coord.proofs.SentLemmas.{sent_sound}
use Rattle.txn_coord.proofs.moving.next_move.Goals as goal

pub returns-in-Some-clause-sound : goal.returns-in-Some-clause-sound
returns-in-Some-clause-sound g c =
    let asked : sends (machine_of (g.S.Script.program c.args.script.now) (g.S.Script.fed c.args.script.now) c.args.t.now) ≡ Some c.in-Some.request = sym c.in_ok-request.ensures ∙ c.in-Some.is in
    on_ok c.send.result (sent_sound c.in-Some.request (g.S.Script.done c.args.script.now) (machine_of (g.S.Script.program c.args.script.now) (g.S.Script.fed c.args.script.now) c.args.t.now) c.send.new.t c.requires.sound c.requires.free asked) c.send.ensures.after

pub returns-in-Retrying-clause-moves : goal.returns-in-Retrying-clause-moves
returns-in-Retrying-clause-moves g c = if_ok _ _ c.retry.result (λ made moves. moves c.args.clock) c.retry.ensures.moves

pub returns : goal.returns
returns g c = record {
  moves = if_ok _ _ c.ask_or_answer.result (λ made moves. moves c.args.fresh) c.ask_or_answer.ensures.moves;
  sound = c.ask_or_answer.ensures.sound;
}
