use Rattle.std.specs.List.{Contains}
use Rattle.std.specs.Prelude.{List, ℕ, ◌≡◌, ◌≢◌, ◌⊎◌}
use Rattle.mr_base.specs.declared.ids.AttemptId.{AttemptId}
use Rattle.mr_base.specs.declared.ids.NodeId.{NodeId}
use Rattle.mr_base.specs.declared.ids.RangeId.{RangeId}
use Rattle.mr_base.specs.declared.spans.Ask.{Ask}
use Rattle.range_rules.specs.Resolves.{HasIntentOf}
use Rattle.run_laws.specs.Lists.{AsksNext, ReadsKey, WritesKey}
use Rattle.run_laws.specs.Places.{IsSince}
use Rattle.run_words.specs.History.{History}
use Rattle.run_words.specs.Logs.{prefix}
use Rattle.run_words.specs.Puts.{PutMade, puts}
use Rattle.run_words.specs.Ranges.{HoldsReplica}
use Rattle.run_words.specs.Serving.{ServedRead, serves}
use Rattle.run_words.specs.Setup.{Setup}

-- Which ranges an attempt reads or appends to. (This project's profile.)

-- An intent of another attempt stood, since an attempt's last entry, at a replica of its range.
abbrev pub HasMetIntent : Setup → History → AttemptId → AttemptId → RangeId → List ℕ → Type 0
HasMetIntent setup h a b r key =
    (older : History) × (n : NodeId) × IsSince a older h × HoldsReplica setup older n r × HasIntentOf b key (prefix setup older n r)

-- A range to which an attempt appends: its list writes a key there; or it is the anchor of another attempt whose intent
-- it met at a key that it reads or writes.
abbrev pub AppendsTo : Setup → History → AttemptId → RangeId → Type 0
AppendsTo setup h a j =
    ((key : List ℕ) × WritesKey setup h a j key)
    ⊎ ((b : AttemptId) × (put : PutMade) × (b ≢ a) × Contains (puts h b) put × (put.anchor ≡ j)
    × (ReadsKey setup h a put.range put.key ⊎ WritesKey setup h a put.range put.key)
    × HasMetIntent setup h a b put.range put.key)

-- A range of which an attempt reads or refreshes a span.
abbrev pub ReadsFrom : Setup → History → AttemptId → RangeId → Type 0
ReadsFrom setup h a j =
    ((ask : Ask) × AsksNext setup h a ask × (ask.range ≡ j)) ⊎ ((s : ServedRead) × Contains (serves setup h a) s × (s.range ≡ j))
