use Rattle.std.specs.Prelude.{Contains, List, None, Option, Some, [], length, true, ℕ, ◌++◌, ◌∷◌, ◌≡◌, ◌↔◌}
use Rattle.journal.specs.declared.entries.How.TheVariants as how
use Rattle.journal.specs.declared.entries.How.{How}
use Rattle.journal.specs.declared.entries.JournalEntry.TheVariants as entry
use Rattle.journal.specs.declared.entries.JournalEntry.{JournalEntry}
use Rattle.mr_base.specs.Nodes.{IsMember}
use Rattle.mr_base.specs.declared.ids.NodeId.{NodeId}
use Rattle.mr_base.specs.declared.messages.Reply.TheVariants as replies
use Rattle.mr_base.specs.declared.messages.Reply.{Reply}
use Rattle.mr_base.specs.declared.messages.Request.TheVariants as requests
use Rattle.mr_base.specs.declared.messages.Request.{Request}
use Rattle.node_states.specs.Appends.{appends}
use Rattle.range_log.specs.declared.entries.Entry.{Entry}
use Rattle.range_replicas.specs.Voters.{set_of}
use Rattle.range_rules.specs.Added.{AreLicensed}
use Rattle.range_server.specs.Handling.{IsAnswer, Licenses}
use Rattle.range_server.specs.Refusals.{IsByHolder}
use Rattle.range_server.specs.Scene.{Scene, applied_in}
use Rattle.range_server.specs.declared.reads.Right.TheVariants as rights
use Rattle.range_server.specs.declared.reads.Right.{Right}
use Rattle.run_words.specs.Askers.{range_asked}
use Rattle.run_words.specs.Clocks.{reading}
use Rattle.run_words.specs.History.{History, Made}
use Rattle.run_words.specs.Logs.{applied, log_of, prefix}
use Rattle.run_words.specs.Nodes.{boot, is_running}
use Rattle.run_words.specs.Ranges.{is_global, voters_of}
use Rattle.run_words.specs.Setup.{Setup}

-- What is recorded where a request is handled. (Leaseholders, intents and records: Taft et al., SIGMOD 2020; follower
-- reads: VanBenschoten et al., SIGMOD 2022.)

abbrev pub how_of : Right → How
how_of rights.Lease = how.Lease
how_of rights.Closure = how.Closure

-- Rows that were read, or a refresh that was done, by a node from so many entries. Other answers aren't recorded.
abbrev pub serve_of : NodeId → ℕ → Request → Option Reply → Option Right → History
serve_of n count (requests.Read a j span at limit known) (Some (replies.Rows pairs)) (Some right) =
    Made (entry.Serve a n j span at limit count (how_of right) known) ∷ []
serve_of n count (requests.Refresh a j span from at known) (Some replies.Refreshed) (Some right) =
    Made (entry.Serve a n j span at None count (how_of right) known) ∷ []
serve_of n count q reply by = []

-- A node handles a request as what it has applied of the range's log says: the reply, and the items in front of the
-- history.
pub record HasHandled (setup : Setup) (h : History) (n : NodeId) (q : Request) (reply : Option Reply) (items : History) : Type 0 where
  pub found : Scene
  pub node_is : found.server.node ≡ n
  pub boot_is : found.server.boot ≡ boot setup h n
  pub applied_is : applied_in found ≡ prefix setup h n (range_asked q)
  pub log_is : found.log.entries ≡ log_of setup h (range_asked q)
  pub clock_is : found.now.clock ≡ reading setup h n
  pub settings_are : found.now.settings ≡ setup.settings
  pub voters_are : found.log.voters ≡ set_of (voters_of setup h (range_asked q))
  pub running_are : (m : NodeId) → Contains (voters_of setup h (range_asked q)) m → (is_running setup h m ≡ true) ↔ IsMember found.now.running m
  pub global_is : found.server.is_global ≡ is_global setup h (range_asked q)
  pub by : Option Right
  pub added : List Entry
  pub answer : IsAnswer found q reply by (added ++ log_of setup h (range_asked q)) added
  pub licensed : AreLicensed (Licenses found q) added (log_of setup h (range_asked q))
  pub holder : IsByHolder found added
  pub items_are : items ≡ serve_of n (applied setup h n (range_asked q)) q reply by
      ++ appends (range_asked q) (length (log_of setup h (range_asked q))) added
