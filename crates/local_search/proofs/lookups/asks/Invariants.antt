use Rattle.std.proofs.Common.{◌≡◌, map, take}
use Rattle.sql_eval.specs.Search.{ask_of}
use Rattle.local_search.proofs.lookups.asks.Given as goal

abbrev pub invariant-loop-lookup : goal.invariant-loop-lookup
invariant-loop-lookup l = l.asks.items ≡ map ask_of (take l.lookup-index l.lookups)
