use Rattle.std.specs.Prelude.{◌≡◌, ◌++◌, List, ◌∷◌, Some}
use Rattle.mr_base.specs.declared.ids.AttemptId.{AttemptId}
use Rattle.mvcc_range.specs.Follows.{Follows}
use Rattle.range_log.specs.LogValue.{LogValue}
use Rattle.range_log.specs.declared.entries.Entry.{Entry}
use Rattle.range_log.specs.declared.entries.Entry.TheVariants as log
use Rattle.range_rules.specs.Added.{AreLicensed}
use Rattle.range_server.specs.Applying.{applied_past}
use Rattle.range_server.specs.Scene.{IsBeside, Scene, applied_in}
use Rattle.range_server.specs.declared.records.Outcome.{Outcome}
use Rattle.range_server.specs.declared.standing.Standing.{Standing}

-- What a call does to a server and its log. No public clause cites this.

-- an entry was appended and applied
pub record IsAppended (e : Entry) (before after : LogValue) (old new : Standing) : Type 0 where
  pub entries : after.entries ≡ e ∷ before.entries
  pub voters : after.voters ≡ before.voters
  pub follows : Follows new.replica (e ∷ before.entries)
  pub kept : new ≡ record old { replica = new.replica }

-- what was added gives this, and each entry of it is licensed; else nothing has changed but what was applied
pub record IsStep (Gives : List Entry → Type 0) (IsLicensed : Entry → List Entry → Type 0) (before after : LogValue) (old new : Standing) : Type 0 where
  pub added : List Entry
  pub grown : after.entries ≡ added ++ before.entries
  pub gives : Gives added
  pub licensed : AreLicensed IsLicensed added before.entries
  pub voters : after.voters ≡ before.voters
  pub kept : new ≡ record old { replica = new.replica }
  pub beside : IsBeside new after.entries
  pub applied : new.replica.applied ≡ applied_past added old.replica.applied after.entries

-- an entry writes the state of an outcome as the record of an attempt, behind all that was applied
abbrev pub IsWriting : Scene → AttemptId → Outcome → Entry → List Entry → Type 0
IsWriting sc attempt outcome (log.State a state) before = (a ≡ attempt) × (outcome.state ≡ Some state) × (before ≡ applied_in sc)
IsWriting sc attempt outcome e before = ⊥
