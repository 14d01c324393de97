-- What is drawn for each transaction. (Source: this project's profile.)
use Rattle.std.specs.Prelude.{ℕ, ◌+◌, ◌%◌, ◌==◌, if◌then◌else◌, nat_lt}
use Rattle.rand_core.specs.Pcg32Seed.{pcg32_seed}
use Rattle.rand_pcg.specs.Lcg.{Lcg}
use Rattle.rand_pcg.specs.Pcg.{pcg32, pcg32_of_seed}
use Rattle.workload.specs.declared.transactions.Statement.{Statement}
use Rattle.workload.specs.declared.transactions.Statement.TheVariants.{InsertUser, UpdateUser, SelectUser, DeleteUser, InsertPromo, CountPromo}
use Rattle.workload.specs.declared.transactions.Transaction.{Transaction}

-- The PCG32 generator of a seed. (O'Neill, "PCG: a family of simple fast space-efficient statistically good algorithms
-- for random number generation".)
unfoldable pub seeded : (seed : ℕ) → Lcg
seeded seed = pcg32_of_seed (pcg32_seed 16 seed)

-- The next word, and the generator behind it.
unfoldable pub word : Lcg → ℕ
word g = (pcg32 g).0

unfoldable pub after : Lcg → Lcg
after g = (pcg32 g).1

-- The next word modulo a count.
abbrev pub pick : (count : ℕ) → Lcg → ℕ
pick count g = word g % count

-- Of eight kinds three add a user, two change one, one reads and one removes one; the last adds a code where the key is
-- low, and else counts the codes.
abbrev pub statement_for : (kind key number : ℕ) → Statement
statement_for kind key number =
    if nat_lt kind 3 then InsertUser key number
    else if nat_lt kind 5 then UpdateUser key
    else if kind == 5 then SelectUser key
    else if kind == 6 then DeleteUser key
    else if nat_lt key 100 then InsertPromo key number
    else CountPromo

-- Four words for each transaction, in this order: its node, its kind, its key, and whether a drain follows.
abbrev pub drawn : (number : ℕ) → Lcg → Transaction
drawn number g = record {
  number = number;
  gateway = record { 0 = 1 + pick 9 g };
  statement = statement_for (pick 8 (after g)) (pick 1000 (after (after g))) number;
  drains = pick 2 (after (after (after g))) == 0;
}

-- The generator behind these four.
abbrev pub behind : Lcg → Lcg
behind g = after (after (after (after g)))
