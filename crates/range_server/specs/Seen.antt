use Rattle.std.specs.Prelude.{[], Option, Some, None}
use Rattle.mr_base.specs.declared.timestamps.Ts.{Ts}
use Rattle.range_server.specs.declared.reads_seen.TheConstants.{CAPACITY}
use Rattle.ts_cache.specs.Value.{CacheValue}

-- What was read under a lease, as a cache of timestamps. (Taft et al., SIGMOD 2020; that it is bounded is this
-- project's profile.)

-- Nothing was read yet, of what counts from a timestamp on.
abbrev pub nothing_above : Ts → CacheValue
nothing_above low = record { low = low; held = []; capacity = CAPACITY }

-- What is kept from the first read on.
abbrev pub seen : Ts → Option CacheValue → CacheValue
seen low None = nothing_above low
seen low (Some cache) = cache
