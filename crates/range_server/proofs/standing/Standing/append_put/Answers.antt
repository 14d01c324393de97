use Rattle.range_server.proofs.standing.Standing.append_put.Goals as goal

pub returns-clause-moved : goal.returns-clause-moved
returns-clause-moved c = (c.in_ok-floor.floor, c.in_ok-floor.ensures c.args.log.now.entries c.requires.follows, c.in_ok-ts.ensures)
