use Rattle.std.specs.Prelude.{All, List, None, Option, Some, ℕ, ⊤, ◌≡◌, ◌⊎◌}
use Rattle.journal.specs.declared.entries.How.{How}
use Rattle.journal.specs.declared.entries.JournalEntry.TheVariants as entry
use Rattle.mr_base.specs.Timestamps.{IsBelow}
use Rattle.mr_base.specs.declared.ids.AttemptId.{AttemptId}
use Rattle.mr_base.specs.declared.ids.NodeId.{NodeId}
use Rattle.mr_base.specs.declared.ids.RangeId.{RangeId}
use Rattle.mr_base.specs.declared.ids.TxnId.{TxnId}
use Rattle.mr_base.specs.declared.messages.Known.{Known}
use Rattle.mr_base.specs.declared.messages.Request.TheVariants as requests
use Rattle.mr_base.specs.declared.messages.Request.{Request}
use Rattle.mr_base.specs.declared.spans.Span.{Span}
use Rattle.mr_base.specs.declared.timestamps.Ts.{Ts}
use Rattle.mvcc_range.specs.Answer.{GivesRows}
use Rattle.run_laws.specs.Asks.{AsksRead, AsksRefresh}
use Rattle.run_laws.specs.Places.{IsHandling, stepping}
use Rattle.run_words.specs.Askers.{txn_of}
use Rattle.run_words.specs.Clocks.{schema}
use Rattle.run_words.specs.History.{History, Item, Made}
use Rattle.run_words.specs.Logs.{applied, prefix}
use Rattle.run_words.specs.Ranges.{HoldsReplica}
use Rattle.run_words.specs.Relations.{WasFated}
use Rattle.run_words.specs.Serving.{MayServe}
use Rattle.run_words.specs.Setup.{Setup}

-- Served: who serves which span, at what timestamp, from which entries. (Leases, closed timestamps and reads: Taft et
-- al., SIGMOD 2020, and VanBenschoten et al., SIGMOD 2022.)

-- A request is for this read or refresh.
abbrev pub IsFor : AttemptId → RangeId → Span → Ts → Option ℕ → List Known → Request → Type 0
IsFor a j span at limit known (requests.Read b r s t l k) = (b ≡ a) × (r ≡ j) × (s ≡ span) × (t ≡ at) × (l ≡ limit) × (k ≡ known)
IsFor a j span at limit known (requests.Refresh b r s from t k) = (b ≡ a) × (r ≡ j) × (s ≡ span) × (t ≡ at) × (limit ≡ None) × (k ≡ known)
IsFor a j span at limit known _ = ⊥

-- What is served is as a read asks that is the attempt's next, or as a refresh asks.
abbrev pub IsAsked : Setup → History → AttemptId → RangeId → Span → Ts → Option ℕ → Type 0
IsAsked setup h a j span at limit =
    AsksRead setup h a j span at limit ⊎ ((from : Ts) × AsksRefresh setup h a j span from at × (limit ≡ None))

-- A fate was learned by some attempt of the same transaction.
abbrev pub IsLearned : History → AttemptId → Known → Type 0
IsLearned h a k = (b : AttemptId) × (t : TxnId) × (txn_of h a ≡ Some t) × (txn_of h b ≡ Some t) × WasFated b k.attempt k.fate h

-- A timestamp isn't below the last schema change.
abbrev pub IsSinceSchema : Option Ts → Ts → Type 0
IsSinceSchema None at = ⊤
IsSinceSchema (Some changed) at = ¬ IsBelow at changed

-- A read or refresh that is served.
pub record IsServed (setup : Setup) (h : History) (a : AttemptId) (n : NodeId) (j : RangeId) (span : Span) (at : Ts) (limit : Option ℕ) (count : ℕ) (by : How) (known : List Known) : Type 0 where
  pub place : IsHandling h a (IsFor a j span at limit known)
  pub node : stepping h ≡ Some n
  pub replica : HoldsReplica setup h n j
  pub serves : MayServe setup h by n j at limit
  pub count_is : count ≡ applied setup h n j
  pub asked : IsAsked setup h a j span at limit
  pub since : IsSinceSchema (schema setup h) at
  pub fates : All (IsLearned h a) known
  pub rows : GivesRows (prefix setup h n j) (record { attempt = a; span = span; at = at; limit = limit; known = known })

abbrev pub Served : Setup → History → Item → Type 0
Served setup h (Made (entry.Serve a n j span at limit count by known)) = IsServed setup h a n j span at limit count by known
Served setup h _ = ⊤
