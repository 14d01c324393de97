use Rattle.std.proofs.Common.{length}
use Rattle.std.proofs.lemmas.Result.{err_from_is_err_and}
use Rattle.region_sql.specs.Reading.{listed_at}
use Rattle.region_sql.proofs.Loops.{goes_on, is_last, ends, runs_out}
use Rattle.region_sql.proofs.listing.list_of.Goals as goal

pub returns-in_err-item : goal.returns-in_err-item
returns-in_err-item g c =
    let p = err_from_is_err_and c.from_residual.result c.from_residual.ensures.1 in
    rw (p.1, p.2) (ends c.in_err-item.field-0.0 c.loop.items.items (length c.args.tokens.now) c.loop.counter g.T.Listed.separator g.T.Listed.reading c.loop.rest.now (listed_at (length c.args.tokens.now) g.T.Listed.separator g.T.Listed.reading c.args.tokens.now) c.loop-test.true c.in_err-item.ensures.one c.loop.invariant)

pub loop-preserved : goal.loop-preserved
loop-preserved g c =
    rw (c.in_ok-push.ensures.items, c.in-Some.ensures.found.1) (goes_on c.loop.items.items (length c.args.tokens.now) c.loop.counter g.T.Listed.separator g.T.Listed.reading c.loop.rest.now c.in_ok-item.item c.in_ok-item.after.now (listed_at (length c.args.tokens.now) g.T.Listed.separator g.T.Listed.reading c.args.tokens.now) c.loop-test.true c.in_ok-item.ensures.one c.in-Some.ensures.found.0 c.loop.invariant)

pub returns-in-None : goal.returns-in-None
returns-in-None g c =
    rw (c.from_vec.ensures, c.in_ok-push.ensures.items) (is_last c.loop.items.items (length c.args.tokens.now) c.loop.counter g.T.Listed.separator g.T.Listed.reading c.loop.rest.now c.in_ok-item.item c.in_ok-item.after.now (listed_at (length c.args.tokens.now) g.T.Listed.separator g.T.Listed.reading c.args.tokens.now) c.loop-test.true c.in_ok-item.ensures.one c.in-None.ensures.none c.loop.invariant)

pub returns : goal.returns
returns g c = runs_out c.loop.items.items (length c.args.tokens.now) c.loop.counter g.T.Listed.separator g.T.Listed.reading c.loop.rest.now (listed_at (length c.args.tokens.now) g.T.Listed.separator g.T.Listed.reading c.args.tokens.now) c.loop-test.false c.loop.invariant
