use Rattle.std.specs.Prelude.{◌<◌, List, ◌∷◌, ◌++◌, Bool, AllPairs, nat_lt, filter}
use Rattle.mr_base.specs.declared.messages.Known.{Known}

-- A fate of an earlier attempt, and of a later one.
abbrev pub is_earlier : Known → Known → Bool
is_earlier k f = nat_lt f.attempt.0 k.attempt.0

abbrev pub is_later : Known → Known → Bool
is_later k f = nat_lt k.attempt.0 f.attempt.0

-- What is known once a fate is learned: one fate an attempt, the newest, in order of attempt.
abbrev pub learned : Known → List Known → List Known
learned k fates = filter (is_earlier k) fates ++ k ∷ filter (is_later k) fates

-- Each fate is of an earlier attempt than those behind it.
abbrev pub IsBefore : Known → Known → Type 0
IsBefore f g = f.attempt.0 < g.attempt.0

abbrev pub AreInOrder : List Known → Type 0
AreInOrder fates = AllPairs IsBefore fates
