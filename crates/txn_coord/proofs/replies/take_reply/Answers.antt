use Rattle.txn_coord.specs.Machine.{machine_of}
use Rattle.txn_coord.proofs.OkLemmas.{on_ok}
use Rattle.txn_coord.proofs.TakenLemmas.{abort_taken, commit_taken, push_taken, put_taken, refresh_taken}
use Rattle.txn_coord.proofs.replies.take_reply.Goals as goal

-- Each course takes a reply soundly.
pub returns-in-Laying-clause-sound : goal.returns-in-Laying-clause-sound
returns-in-Laying-clause-sound g c =
    on_ok c.take_put.result (put_taken c.replace.new.dest c.args.range c.args.reply.now (g.S.Script.done c.args.script.now) (machine_of (g.S.Script.program c.args.script.now) (g.S.Script.fed c.args.script.now) c.args.t.now) c.take_put.new.t c.requires.sound c.in-Laying.ensures.value c.requires.asked c.requires.fits) c.take_put.ensures

pub returns-in-Refreshing-clause-sound : goal.returns-in-Refreshing-clause-sound
returns-in-Refreshing-clause-sound g c =
    on_ok c.take_refresh.result (refresh_taken c.replace.new.dest c.args.range c.args.reply.now (g.S.Script.done c.args.script.now) (machine_of (g.S.Script.program c.args.script.now) (g.S.Script.fed c.args.script.now) c.args.t.now) c.take_refresh.new.t c.requires.sound c.in-Refreshing.ensures.value c.requires.asked c.requires.fits) c.take_refresh.ensures

pub returns-in-Pushing-clause-sound : goal.returns-in-Pushing-clause-sound
returns-in-Pushing-clause-sound g c =
    on_ok c.take_push.result (push_taken c.replace.new.dest c.args.range c.args.reply.now c.in-Pushing.other c.in-Pushing.back (g.S.Script.done c.args.script.now) (machine_of (g.S.Script.program c.args.script.now) (g.S.Script.fed c.args.script.now) c.args.t.now) c.take_push.new.t c.requires.sound c.in-Pushing.ensures.value c.requires.fits) c.take_push.ensures

pub returns-in-Committing-clause-sound : goal.returns-in-Committing-clause-sound
returns-in-Committing-clause-sound g c =
    commit_taken c.replace.new.dest c.args.range c.args.reply.now (g.S.Script.done c.args.script.now) (machine_of (g.S.Script.program c.args.script.now) (g.S.Script.fed c.args.script.now) c.args.t.now) c.take_commit.new.t c.requires.sound c.in-Committing.ensures.value c.requires.fits c.take_commit.ensures

pub returns-in-Aborting-clause-sound : goal.returns-in-Aborting-clause-sound
returns-in-Aborting-clause-sound g c =
    on_ok c.take_abort.result (abort_taken c.replace.new.dest c.args.range c.args.reply.now c.in-Aborting.cause (g.S.Script.done c.args.script.now) (machine_of (g.S.Script.program c.args.script.now) (g.S.Script.fed c.args.script.now) c.args.t.now) c.take_abort.new.t c.requires.sound c.in-Aborting.ensures.value c.requires.fits) c.take_abort.ensures
