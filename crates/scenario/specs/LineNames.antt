-- The names of lines. (This project's profile.)
use Rattle.std.specs.Prelude.{ℕ, List, [], ◌∷◌, bytes_eq, codes, Option}
use Rattle.std.specs.List.{find}
use Rattle.scenario.specs.declared.forms.LineName.{LineName}
use Rattle.scenario.specs.declared.forms.LineName.TheVariants as names

-- The word that lines of a name begin with.
abbrev pub word_of : LineName → List ℕ
word_of names.Cluster = codes "cluster"
word_of names.Node = codes "node"
word_of names.Sql = codes "sql"
word_of names.Begin = codes "begin"
word_of names.Txn = codes "txn"
word_of names.Tick = codes "tick"
word_of names.Deliver = codes "deliver"
word_of names.Drop = codes "drop"
word_of names.Apply = codes "apply"
word_of names.Drain = codes "drain"
word_of names.Settle = codes "settle"
word_of names.Lease = codes "lease"
word_of names.Close = codes "close"
word_of names.Stop = codes "stop"
word_of names.Start = codes "start"
word_of names.Show = codes "show"
word_of names.Timeout = codes "timeout"

abbrev pub all_names : List LineName
all_names =
    names.Cluster ∷ names.Node ∷ names.Sql ∷ names.Begin ∷ names.Txn ∷ names.Tick ∷ names.Deliver ∷ names.Drop ∷ names.Apply ∷ names.Drain ∷ names.Settle ∷ names.Lease ∷ names.Close ∷ names.Stop ∷ names.Start ∷ names.Show ∷ names.Timeout ∷ []

-- The name of the lines that begin with a word.
unfoldable pub line_name : List ℕ → Option LineName
line_name word = find (λ name. bytes_eq word (word_of name)) all_names
