-- The state of each outcome is licensed.
use Rattle.std.proofs.Common.{◌≡◌, ◌⊎◌, ℕ, true, false, List, [], ◌∷◌, ◌++◌, Option, None, Some, Result, IfOk, MatchOption, inl, inr, refl, sym, subst, arith}
use Rattle.std.proofs.lemmas.Bool.Decides.{nat_tests}
use Rattle.std.proofs.lemmas.Result.{IfOk-weaker}
use Rattle.closed_ts.specs.Targets.{at_wall}
use Rattle.mr_base.specs.Timestamps.{later, ts_lt}
use Rattle.mr_base.specs.declared.ids.AttemptId.{AttemptId}
use Rattle.mr_base.specs.declared.messages.Reply.{Reply}
use Rattle.mr_base.specs.declared.timestamps.Ts.{Ts}
use Rattle.mvcc_range.specs.Lookups.{IsStateOf}
use Rattle.range_log.specs.LogValue.{LogValue}
use Rattle.range_log.specs.declared.entries.Entry.{Entry}
use Rattle.range_log.specs.declared.entries.Entry.TheVariants as log
use Rattle.range_log.specs.declared.entries.TxnState.{TxnState}
use Rattle.range_log.specs.declared.entries.TxnState.TheVariants.{Pending, Committed, Aborted}
use Rattle.range_rules.specs.Added.{AreLicensed}
use Rattle.range_rules.specs.Records.{Goes, IsAbortedBy, IsCommitted, IsGivenUp, IsLeft, IsPushed, IsUndecided, MayAbort, pending_above}
use Rattle.range_server.proofs.OrderLemmas.{by_test, later_right, lt_true, up_to_itself, up_to_not_below}
use Rattle.range_server.specs.Puts.{Put, PutGives}
use Rattle.range_server.specs.Refusals.{CanAppend, IsByHolder}
use Rattle.range_server.specs.Records.{Changes, Settles, SettlesBy, committed_at, given_up, may_abort, met_by_writer, pushed_by_reader, pushed_by_writer}
use Rattle.range_server.specs.Scene.{Scene, applied_in}
use Rattle.range_server.specs.Steps.{IsStep, IsWriting}
use Rattle.range_server.specs.declared.records.Outcome.{Outcome}
use Rattle.range_server.specs.declared.standing.Standing.{Standing}

-- the state that an outcome writes goes on from the record, by a rule
abbrev pub IsRuled : (Option TxnState → TxnState → Type 0) → Option TxnState → Outcome → Type 0
IsRuled Rule was outcome = (state : TxnState) → outcome.state ≡ Some state → Goes was state × Rule was state

written_is : (P : TxnState → Type 0) (x : TxnState) → P x → (state : TxnState) → Some x ≡ Some state → P state
written_is P x p state e = let same : x ≡ state = cc in subst P same p

none_written : {P : Type 0} (state : TxnState) → None ≡ Some state → P
none_written state e = absurd (let no : ⊥ = cc in no)

pub reader_ruled : (other : AttemptId) (at : Ts) (was : Option TxnState)
    → IsRuled (λ old new. IsPushed old at new) was (pushed_by_reader other at was)
reader_ruled other at None = λ state e.
    written_is (λ new. Goes None new × IsPushed None at new) (Pending (later at (at_wall 0)))
    (tt, record { undecided = tt; exact = refl }) state e
reader_ruled other at (Some (Pending ts)) = λ state e.
    written_is (λ new. Goes (Some (Pending ts)) new × IsPushed (Some (Pending ts)) at new) (Pending (later at ts))
    (up_to_not_below ts (later at ts) (later_right at ts), record { undecided = tt; exact = refl }) state e
reader_ruled other at (Some (Committed ts)) = λ state e. none_written state e
reader_ruled other at (Some (Aborted by)) = λ state e. none_written state e

module _ (attempt other : AttemptId) (start other_start : Ts) (wall expire : ℕ) where
  abbrev WriterRule : Option TxnState → TxnState → Type 0
  WriterRule old new = IsAbortedBy attempt old start other_start wall expire new ⊎ IsLeft old start other_start wall expire new

  may_is : may_abort start other_start wall expire ≡ true → MayAbort start other_start wall expire
  may_is h = grind (arith, nat_tests)

  may_not : may_abort start other_start wall expire ≡ false → ¬ MayAbort start other_start wall expire
  may_not h k = grind (arith, nat_tests)

  met : (was : Option TxnState) (ts : Ts) → IsUndecided was → Goes was (Aborted attempt) → Goes was (Pending ts) → pending_above was ≡ ts
      → IsRuled WriterRule was (met_by_writer attempt other (may_abort start other_start wall expire) ts)
  met was ts undecided goes stays above =
      elim (by_test (may_abort start other_start wall expire)) as
      (λ _. IsRuled WriterRule was (met_by_writer attempt other (may_abort start other_start wall expire) ts)) [
        | inl t ↦ rw t (λ state e. written_is (λ new. Goes was new × WriterRule was new) (Aborted attempt)
            (goes, inl (record { undecided = undecided; exact = refl; older_or_expired = may_is t })) state e)
        | inr t ↦ rw t (λ state e. written_is (λ new. Goes was new × WriterRule was new) (Pending ts)
            (stays, inr (record { undecided = undecided; exact = rw above refl; live = may_not t })) state e)
      ]

  pub writer_ruled : (was : Option TxnState)
      → IsRuled WriterRule was (pushed_by_writer attempt other (may_abort start other_start wall expire) was)
  writer_ruled None = met None (at_wall 0) tt tt tt refl
  writer_ruled (Some (Pending ts)) = met (Some (Pending ts)) ts tt tt (up_to_not_below ts ts (up_to_itself ts)) refl
  writer_ruled (Some (Committed ts)) = λ state e. none_written state e
  writer_ruled (Some (Aborted by)) = λ state e. none_written state e

pub commit_ruled : (at : Ts) (was : Option TxnState) → IsRuled (λ old new. IsCommitted old at new) was (committed_at at was)
commit_ruled at None = λ state e.
    written_is (λ new. Goes None new × IsCommitted None at new) (Committed at)
    (tt, record { undecided = tt; exact = refl; above = tt }) state e
commit_ruled at (Some (Pending ts)) =
    elim (by_test (ts_lt ts at)) as (λ _. IsRuled (λ old new. IsCommitted old at new) (Some (Pending ts)) (committed_at at (Some (Pending ts)))) [
      | inl t ↦ rw t (λ state e. written_is (λ new. Goes (Some (Pending ts)) new × IsCommitted (Some (Pending ts)) at new) (Committed at)
          (tt, record { undecided = tt; exact = refl; above = lt_true ts at t }) state e)
      | inr t ↦ rw t (λ state e. none_written state e)
    ]
commit_ruled at (Some (Committed ts)) = λ state e. none_written state e
commit_ruled at (Some (Aborted by)) = λ state e. none_written state e

pub abort_ruled : (a : AttemptId) (was : Option TxnState) → IsRuled (λ old new. IsGivenUp a old new) was (given_up a was)
abort_ruled a None = λ state e.
    written_is (λ new. Goes None new × IsGivenUp a None new) (Aborted a) (tt, record { undecided = tt; exact = refl }) state e
abort_ruled a (Some (Pending ts)) = λ state e.
    written_is (λ new. Goes (Some (Pending ts)) new × IsGivenUp a (Some (Pending ts)) new) (Aborted a)
    (tt, record { undecided = tt; exact = refl }) state e
abort_ruled a (Some (Committed ts)) = λ state e. none_written state e
abort_ruled a (Some (Aborted by)) = λ state e. none_written state e

-- a license that follows from another holds of each entry that was added
pub licensed_map : (P Q : Entry → List Entry → Type 0) → ((e : Entry) (before : List Entry) → P e before → Q e before)
    → (added before : List Entry) → AreLicensed P added before → AreLicensed Q added before
licensed_map P Q f [] before h = tt
licensed_map P Q f (e ∷ added) before h = (f e (added ++ before) h.0, licensed_map P Q f added before h.1)

-- another license and another answer of the same step
pub step_map : (Gives Gives2 : List Entry → Type 0) (P Q : Entry → List Entry → Type 0) → ((added : List Entry) → Gives added → Gives2 added)
    → ((e : Entry) (before : List Entry) → P e before → Q e before) → (before after : LogValue) (old new : Standing)
    → IsStep Gives P before after old new → IsStep Gives2 Q before after old new
step_map Gives Gives2 P Q g f before after old new h =
    record {
      added = h.added;
      grown = h.grown;
      gives = g h.added h.gives;
      licensed = licensed_map P Q f h.added before.entries h.licensed;
      voters = h.voters;
      kept = h.kept;
      beside = h.beside;
      applied = h.applied;
    }

module _ (sc : Scene) (attempt : AttemptId) (course : Option TxnState → Outcome) (Rule : Option TxnState → TxnState → Type 0)
    (ruled : (was : Option TxnState) → IsRuled Rule was (course was)) where
  changes : (was : Option TxnState) → IsStateOf (applied_in sc) attempt was → (e : Entry) (before : List Entry)
      → IsWriting sc attempt (course was) e before → Changes attempt Rule e before
  changes was of (log.State a state) before (same, is_written, all) =
      (same, (was, subst (λ entries. IsStateOf entries attempt was) (sym all) of, (ruled was state is_written).0, (ruled was state is_written).1))
  changes was of (log.Lease lease) before h = h
  changes was of (log.Put a start anchor ts key value) before h = h
  changes was of (log.Resolve a key fate) before h = h
  changes was of (log.Close ts) before h = h
  changes was of (log.Load ts key value) before h = h

  -- what was settled is what the course of the record says
  pub settled : (reply : Reply) (was : Option TxnState) → IsStateOf (applied_in sc) attempt was → (before after : LogValue) (old new : Standing)
      → IsStep (Settles sc attempt (course was) reply) (IsWriting sc attempt (course was)) before after old new
      → IsStep (SettlesBy sc attempt course reply) (Changes attempt Rule) before after old new
  settled reply was of before after old new h =
      step_map _ _ _ _ (λ added g. (was, of, g)) (changes was of) before after old new h

  -- the same of a call that answers what it was settled to
  pub settled_ok : {E : Type 0} (r : Result Reply E) (outcome : Outcome) (was : Option TxnState) → outcome ≡ course was → IsStateOf (applied_in sc) attempt was
      → (before after : LogValue) (old new : Standing)
      → IfOk r (λ reply. IsStep (Settles sc attempt outcome reply) (IsWriting sc attempt outcome) before after old new)
      → IfOk r (λ reply. IsStep (SettlesBy sc attempt course reply) (Changes attempt Rule) before after old new)
  settled_ok r outcome was e of before after old new h =
      IfOk-weaker r (λ reply. IsStep (Settles sc attempt outcome reply) (IsWriting sc attempt outcome) before after old new)
      (λ reply. IsStep (SettlesBy sc attempt course reply) (Changes attempt Rule) before after old new)
      (λ reply k. settled reply was of before after old new
      (subst (λ (o : Outcome). IsStep (Settles sc attempt o reply) (IsWriting sc attempt o) before after old new) e k)) h

-- what a server that can append adds, it adds as holder
pub by_holder : (sc : Scene) → CanAppend sc → (added : List Entry) → IsByHolder sc added
by_holder sc can [] = tt
by_holder sc can (e ∷ added) = can

none_by_holder : (sc : Scene) (added : List Entry) → added ≡ [] → IsByHolder sc added
none_by_holder sc added none = subst (λ (x : List Entry). IsByHolder sc x) (sym none) tt

pub put_held : (sc : Scene) (put : Put) (reply : Reply) (added : List Entry) → PutGives sc put reply added → IsByHolder sc added
put_held sc put reply added (inl h) = none_by_holder sc added h.nothing
put_held sc put reply added (inr (inl h)) = none_by_holder sc added h.nothing
put_held sc put reply added (inr (inr (inl h))) = none_by_holder sc added h.nothing
put_held sc put reply added (inr (inr (inr h))) = by_holder sc h.can added

settled_held : (sc : Scene) (attempt : AttemptId) (state : Option TxnState) (added : List Entry)
    → MatchOption state (added ≡ []) (λ x. CanAppend sc × (added ≡ log.State attempt x ∷ [])) → IsByHolder sc added
settled_held sc attempt None added h = none_by_holder sc added h
settled_held sc attempt (Some x) added h = by_holder sc h.0 added

pub settles_held : (sc : Scene) (attempt : AttemptId) (course : Option TxnState → Outcome) (reply : Reply) (added : List Entry)
    → SettlesBy sc attempt course reply added → IsByHolder sc added
settles_held sc attempt course reply added (was, of, inl h) = none_by_holder sc added h.nothing
settles_held sc attempt course reply added (was, of, inr (inl h)) = none_by_holder sc added h.nothing
settles_held sc attempt course reply added (was, of, inr (inr h)) = settled_held sc attempt (course was).state added h.writes
