-- The facts of a log, as an entry more is applied.
use Rattle.std.proofs.Common.{◌≡◌, ◌&&◌, ℕ, cond, List, ◌∷◌, Option, Some, sym, subst, ap, ◌∙◌}
use Rattle.mr_base.specs.declared.ids.AttemptId.{AttemptId}
use Rattle.mr_base.specs.declared.ids.RangeId.{RangeId}
use Rattle.mr_base.specs.declared.timestamps.Ts.{Ts}
use Rattle.mvcc_range.specs.Follows.{AreFacts, kept_intent}
use Rattle.mvcc_range.specs.KeyFacts.{same_key, same_ts, state_at, version_at}
use Rattle.mvcc_range.specs.KeyValue.{KeyValue}
use Rattle.range_log.specs.declared.entries.Entry.{Entry}
use Rattle.range_log.specs.declared.entries.Entry.TheVariants as log
use Rattle.range_log.specs.declared.entries.Lease.{Lease}
use Rattle.range_log.specs.declared.entries.TxnState.{TxnState}

module _ (old new : List (List ℕ × KeyValue)) (states : List (AttemptId × TxnState)) (lease : Option Lease) (closed : Ts) (e : Entry) where
  -- an intent was laid
  pub put_facts : (attempt : AttemptId) (start : Ts) (anchor : RangeId) (ts : Ts) (key : List ℕ) (value copy : Option (List ℕ)) →
      e ≡ log.Put attempt start anchor ts key value → copy ≡ value →
      ((q : List ℕ) → ((state_at q new).intent ≡ cond (same_key key q) (Some (kept_intent attempt start anchor ts copy)) (state_at q old).intent)
      × ((r : Ts) → version_at r (state_at q new) ≡ version_at r (state_at q old))) →
      (entries : List Entry) → AreFacts old states lease closed entries → AreFacts new states lease closed (e ∷ entries)
  put_facts attempt start anchor ts key value copy is same up entries h =
      subst (λ (x : Entry). AreFacts new states lease closed (x ∷ entries)) (sym is)
      (record {
        intents = λ q. (up q).0 ∙ ap (λ v. cond (same_key key q) (Some (kept_intent attempt start anchor ts v)) (state_at q old).intent) same ∙ ap (cond (same_key key q) (Some (kept_intent attempt start anchor ts value))) (h.intents q);
        versions = λ q r. (up q).1 r ∙ h.versions q r;
        states_are = h.states_are;
        lease_is = h.lease_is;
        closed_is = h.closed_is;
      })

  -- a version was loaded
  pub load_facts : (ts : Ts) (key value copy : List ℕ) → e ≡ log.Load ts key value → copy ≡ value →
      ((q : List ℕ) → ((state_at q new).intent ≡ (state_at q old).intent)
      × ((r : Ts) → version_at r (state_at q new) ≡ cond (same_key key q && same_ts ts r) (Some (Some copy)) (version_at r (state_at q old)))) →
      (entries : List Entry) → AreFacts old states lease closed entries → AreFacts new states lease closed (e ∷ entries)
  load_facts ts key value copy is same up entries h =
      subst (λ (x : Entry). AreFacts new states lease closed (x ∷ entries)) (sym is)
      (record {
        intents = λ q. (up q).0 ∙ h.intents q;
        versions = λ q r. (up q).1 r ∙ ap (λ v. cond (same_key key q && same_ts ts r) (Some (Some v)) (version_at r (state_at q old))) same ∙ ap (cond (same_key key q && same_ts ts r) (Some (Some value))) (h.versions q r);
        states_are = h.states_are;
        lease_is = h.lease_is;
        closed_is = h.closed_is;
      })
