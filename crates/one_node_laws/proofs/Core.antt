use Rattle.std.proofs.Common.{◌≡◌, ℕ, List}
use Rattle.std.specs.Prelude.{◌⊎◌, ◌↔◌, Option, Some}
use Rattle.mr_base.specs.Timestamps.{IsBelow}
use Rattle.mr_base.specs.declared.ids.AttemptId.{AttemptId}
use Rattle.mr_base.specs.declared.timestamps.Reading.{Reading}
use Rattle.mr_base.specs.declared.timestamps.Ts.{Ts}
use Rattle.range_log.specs.Facts.{Laid, HasIntent, HasRecord, HasVersion, Version}
use Rattle.range_log.specs.declared.entries.Entry.{Entry}
use Rattle.range_log.specs.declared.entries.TxnState.TheVariants as records
use Rattle.row_locality.specs.OneColumnDatabases.{IsValid}
use Rattle.one_node_laws.proofs.OrderLemmas.{ArePast}
use Rattle.one_node_laws.specs.Decided.{Decided, IsAmong, AreFalling, those_below, replay}
use Rattle.one_node_laws.specs.Words.{HasPut}
use Rattle.sql_eval.specs.OneColumnAgreement.{Holds}

-- What the induction over a lawful journal carries of its log and its decided transactions, where W says
-- which were decided, and r is the greatest start.
pub record Core (l : List Entry) (r : Reading) (W : Decided → Type 0) : Type 0 where
  pub decided : List Decided
  pub falling : AreFalling decided
  pub are : (d : Decided) → (IsAmong d decided ↔ W d)
  pub past : ArePast r decided
  pub valid : (ts : Ts) → IsValid (replay (those_below ts decided))
  pub recorded : (a : AttemptId) (c : Ts) → HasRecord a (records.Committed c) l → (d : Decided) × IsAmong d decided × (d.ts ≡ c)
  pub puts_held : (ts : Ts) (a : AttemptId) (c : Ts) (key : List ℕ) (value : Option (List ℕ)) (p : Ts) → HasRecord a (records.Committed c) l → HasPut a key value p l → IsBelow c ts
      → (v : List ℕ) × (value ≡ Some v) × Holds (replay (those_below ts decided)) key v
  pub held_puts : (ts : Ts) (key v : List ℕ) → Holds (replay (those_below ts decided)) key v
      → (a : AttemptId) × (c : Ts) × (p : Ts) × HasRecord a (records.Committed c) l × HasPut a key (Some v) p l × IsBelow c ts
  pub one_writer : (a b : AttemptId) (c d : Ts) (key : List ℕ) (u v : Option (List ℕ)) (p q : Ts) → HasRecord a (records.Committed c) l → HasPut a key u p l
      → HasRecord b (records.Committed d) l → HasPut b key v q l → a ≡ b
  pub low : (a : AttemptId) (c : Ts) (key : List ℕ) (u : Option (List ℕ)) (p : Ts) → HasRecord a (records.Committed c) l → HasPut a key u p l → ¬ IsBelow c p
  pub one_put : (a : AttemptId) (key : List ℕ) (u v : Option (List ℕ)) (p q : Ts) → HasPut a key u p l → HasPut a key v q l → u ≡ v
  pub versions : (v : Version) → HasVersion v l → (a : AttemptId) × (p : Ts) × HasRecord a (records.Committed v.ts) l × HasPut a v.key v.value p l
  pub stands : (a : AttemptId) (key : List ℕ) (u : Option (List ℕ)) (p : Ts) → HasPut a key u p l
      → ((i : Laid) × HasIntent key i l × (i.attempt ≡ a) × (i.value ≡ u) × (i.ts ≡ p))
      ⊎ ((c : Ts) × HasRecord a (records.Committed c) l × HasVersion (record { key = key; ts = c; value = u }) l)

-- the same of other words for what was decided, and of a later reading
abbrev pub core_iff : (l : List Entry) (r : Reading) (V W : Decided → Type 0) → ((d : Decided) → V d → W d) → ((d : Decided) → W d → V d) → Core l r V → Core l r W
core_iff l r V W f g core =
    record {
      decided = core.decided;
      falling = core.falling;
      are = λ d. (λ h. f d ((core.are d).0 h), λ h. (core.are d).1 (g d h));
      past = core.past;
      valid = core.valid;
      recorded = core.recorded;
      puts_held = core.puts_held;
      held_puts = core.held_puts;
      one_writer = core.one_writer;
      low = core.low;
      one_put = core.one_put;
      versions = core.versions;
      stands = core.stands;
    }

abbrev pub core_later : (l : List Entry) (r n : Reading) (W : Decided → Type 0) → (core : Core l r W) → ArePast n core.decided → Core l n W
core_later l r n W core past =
    record {
      decided = core.decided;
      falling = core.falling;
      are = core.are;
      past = past;
      valid = core.valid;
      recorded = core.recorded;
      puts_held = core.puts_held;
      held_puts = core.held_puts;
      one_writer = core.one_writer;
      low = core.low;
      one_put = core.one_put;
      versions = core.versions;
      stands = core.stands;
    }
