-- The three searches in turn are one search in the order of asking.
use Rattle.std.proofs.Common.{not}
use Rattle.closed_ts.proofs.Finding.{find_in_turn, none_in_turn, option_or_none}
use Rattle.closed_ts.specs.Routing.{is_member, is_node}
use Rattle.closed_ts.proofs.routing.next_target.Goals as goal

pub returns-clause-order : goal.returns-clause-order
returns-clause-order c =
    let whole = find_in_turn (λ node. not (is_member c.args.asked node)) (is_member c.args.near) (is_node c.args.hint) c.args.replicas.now in
    rw (c.or-2.ensures, c.or.ensures, c.first_near.ensures, c.first_hinted.ensures, c.first_of.ensures.order) whole

pub returns-clause-exhausted : goal.returns-clause-exhausted
returns-clause-exhausted c = (
  λ none. c.first_of.ensures.exhausted.0 (option_or_none _ _ (rw c.or-2.ensures at none)),
  λ all.
      let none = rw c.first_of.ensures.order at (c.first_of.ensures.exhausted.1 all) in
      rw (c.or-2.ensures, c.or.ensures, c.first_near.ensures, c.first_hinted.ensures, c.first_of.ensures.order)
      (none_in_turn (λ node. not (is_member c.args.asked node)) (is_member c.args.near) (is_node c.args.hint) c.args.replicas.now none),
)
