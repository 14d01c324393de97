use Rattle.mvcc_range.proofs.FactLemmas.{load_facts, put_facts}
use Rattle.mvcc_range.proofs.facts.Facts.take.Goals as goal

pub returns-in_ok-lay-in-Put-clause-ok : goal.returns-in_ok-lay-in-Put-clause-ok
returns-in_ok-lay-in-Put-clause-ok c =
    put_facts c.args.self.now.keys.entries c.lay.new.keys.entries c.args.self.now.states.entries c.args.self.now.lease c.args.self.now.closed c.args.e.now
    c.in-Put.attempt c.in-Put.start c.in-Put.anchor c.in-Put.ts c.in-Put.key c.in-Put.value c.in_ok-value-in-Put.value c.in-Put.is c.in_ok-value-in-Put.ensures.copy c.in_ok-lay-in-Put.ensures.ok

pub returns-in_ok-load-in-Load-clause-ok : goal.returns-in_ok-load-in-Load-clause-ok
returns-in_ok-load-in-Load-clause-ok c =
    load_facts c.args.self.now.keys.entries c.load.new.keys.entries c.args.self.now.states.entries c.args.self.now.lease c.args.self.now.closed c.args.e.now
    c.in-Load.ts c.in-Load.key c.in-Load.value c.in_ok-value-in-Load.value c.in-Load.is c.in_ok-value-in-Load.ensures.copy c.in_ok-load-in-Load.ensures.ok
