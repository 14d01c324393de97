-- What `settle` answers.
use Rattle.std.proofs.Common.{◌≡◌, List, None, Some, refl, sym, subst, inl, inr}
use Rattle.mr_base.specs.declared.ids.AttemptId.{AttemptId}
use Rattle.mr_base.specs.declared.messages.Reply.{Reply}
use Rattle.mvcc_range.specs.Follows.{Follows}
use Rattle.range_log.specs.Facts.{lease_of}
use Rattle.range_log.specs.LogValue.{LogValue}
use Rattle.range_log.specs.declared.entries.Entry.{Entry}
use Rattle.range_log.specs.declared.entries.Entry.TheVariants as log
use Rattle.range_log.specs.declared.entries.Lease.{Lease}
use Rattle.range_log.specs.declared.entries.TxnState.{TxnState}
use Rattle.range_rules.specs.Holding.{Names}
use Rattle.range_server.proofs.StepLemmas.{no_step, one_step}
use Rattle.range_server.specs.Records.{Settles}
use Rattle.range_server.specs.Refusals.{IsRefusal, not_holder}
use Rattle.range_server.specs.Scene.{Holds, IsBeside, applied_by, scene}
use Rattle.range_server.specs.Steps.{IsAppended, IsStep, IsWriting}
use Rattle.range_server.specs.declared.records.Outcome.{Outcome}
use Rattle.range_server.specs.declared.standing.Moment.{Moment}
use Rattle.range_server.specs.declared.standing.Standing.{Standing}

module _ (s : Standing) (old : LogValue) (now : Moment) (attempt : AttemptId) (lease : Lease)
    (has : lease_of (applied_by s old.entries) ≡ Some lease) (beside : IsBeside s old.entries) where
  abbrev Settled : Outcome → Reply → LogValue → Standing → Type 0
  Settled outcome reply after new = IsStep (Settles (scene s old now) attempt outcome reply) (IsWriting (scene s old now) attempt outcome) old after s new

  pub settle_unnamed : (outcome : Outcome) (reply : Reply) → ¬ Names lease s.node s.boot → reply ≡ not_holder lease → Settled outcome reply old s
  settle_unnamed outcome reply n e =
      no_step _ _ _ _ (inl (record { lease = lease; has = has; tells = e; cause = inl n; nothing = refl })) beside

  pub settle_told : (outcome : Outcome) → Names lease s.node s.boot → outcome.state ≡ None → Settled outcome outcome.reply old s
  settle_told outcome n none =
      no_step _ _ _ _ (inr (inr (record { lease = lease; has = has; names = n; tells = refl; writes = rw none refl }))) beside

  holds : Names lease s.node s.boot → lease_of old.entries ≡ Some lease → Holds (scene s old now) lease
  holds n last = record { has = has; last = last; names = n }

  pub settle_refused : (outcome : Outcome) (state : TxnState) (said : Reply) → Names lease s.node s.boot → outcome.state ≡ Some state
      → IsRefusal lease now.running old (Some said) → Settled outcome said old s
  settle_refused outcome state said n is (inl (other, e)) =
      no_step _ _ _ _ (inl (record { lease = lease; has = has; tells = e; cause = inr (n, rw is refl, other); nothing = refl })) beside
  settle_refused outcome state said n is (inr (last, minority, e)) =
      no_step _ _ _ _
      (inr (inl (record { lease = lease; holds = holds n last; needs = rw is refl; minority = minority; tells = e; nothing = refl }))) beside

  pub settle_written : (outcome : Outcome) (state : TxnState) (after : LogValue) (new : Standing) → Names lease s.node s.boot
      → outcome.state ≡ Some state → IsRefusal lease now.running old None → IsAppended (log.State attempt state) old after s new
      → Settled outcome outcome.reply after new
  settle_written outcome state after new n is can a =
      one_step _ _ _ _ _ _ _ a
      (inr (inr (record {
        lease = lease;
        has = has;
        names = n;
        tells = refl;
        writes = rw is (record { lease = lease; holds = holds n can.0; majority = can.1 }, refl);
      }))) (refl, is, sym (beside.whole lease (holds n can.0)))

  -- a replica follows all of the log that it holds
  pub follows_all : Names lease s.node s.boot → IsRefusal lease now.running old None → Follows s.replica old.entries
  follows_all n can = subst (λ (x : List Entry). Follows s.replica x) (beside.whole lease (holds n can.0)) beside.follows
