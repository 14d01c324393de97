use Rattle.std.proofs.Common.{rules}
use Rattle.planner.proofs.PutLemmas.{patched_by}
use Rattle.planner.proofs.looking.patched.Goals as goal

pub returns : goal.returns
returns c = patched_by c.args.written.now c.args.rows c.drop_written.new.pairs.items _ (search rules) (search rules)
