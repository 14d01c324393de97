use Rattle.std.proofs.Common.{sym}
use Rattle.std.proofs.lemmas.List.{append-nil}
use Rattle.std.proofs.lemmas.Option.{slice_get_past}
use Rattle.placement.proofs.chosen.add_at.Goals as goal

pub returns-else-place-nodes : goal.returns-else-place-nodes
returns-else-place-nodes c = (rw (slice_get_past c.args.nodes.now c.args.place c.if-place-nodes.false) (sym (append-nil _)))
