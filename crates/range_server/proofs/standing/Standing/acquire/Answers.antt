use Rattle.std.proofs.Common.{List, subst, sym}
use Rattle.mvcc_range.specs.Follows.{Follows}
use Rattle.range_log.specs.declared.entries.Entry.{Entry}
use Rattle.range_server.proofs.LeaseLemmas.{beside_all, follows_behind}
use Rattle.range_server.proofs.StepLemmas.{all_first}
use Rattle.range_server.specs.Scene.{applied_by}
use Rattle.range_server.proofs.standing.Standing.acquire.Goals as goal

pub apply_to-requires-clause-follows : goal.apply_to-requires-clause-follows
apply_to-requires-clause-follows c =
    subst (λ (x : List Entry). Follows c.args.self.now.replica (applied_by c.args.self.now x)) (sym c.in_ok-append_lease.ensures.1)
    (follows_behind c.args.self.now c.args.log.now.entries _ c.requires.beside.follows)

pub returns-clause-beside : goal.returns-clause-beside
returns-clause-beside c = λ _. beside_all _ c.append_lease.new.log.entries c.len.result c.len.ensures c.in_ok-apply_to.ensures.follows

pub returns-clause-applied : goal.returns-clause-applied
returns-clause-applied c =
    subst (λ (x : List Entry). Follows c.apply_to.new.self.replica x) (all_first c.len.result c.append_lease.new.log.entries c.len.ensures) c.in_ok-apply_to.ensures.follows
