-- What `put` answers.
use Rattle.std.proofs.Common.{◌≡◌, ◌∙◌, Bool, List, [], ◌∷◌, None, Some, refl, sym, ap, subst, inl, inr}
use Rattle.mr_base.specs.declared.ids.AttemptId.{AttemptId}
use Rattle.mr_base.specs.declared.messages.Fate.{Fate}
use Rattle.mr_base.specs.declared.messages.Reply.{Reply}
use Rattle.mr_base.specs.declared.messages.Reply.TheVariants as replies
use Rattle.mr_base.specs.declared.timestamps.Ts.{Ts}
use Rattle.mvcc_range.specs.Answer.{TellsFate}
use Rattle.mvcc_range.specs.Lookups.{laid_as}
use Rattle.mvcc_range.specs.declared.key_state.Intent.{Intent}
use Rattle.range_log.specs.Facts.{HasIntent, Laid, lease_of}
use Rattle.range_log.specs.LogValue.{LogValue}
use Rattle.range_log.specs.declared.entries.Entry.{Entry}
use Rattle.range_log.specs.declared.entries.Entry.TheVariants as log
use Rattle.range_log.specs.declared.entries.Lease.{Lease}
use Rattle.range_rules.specs.Holding.{Names}
use Rattle.range_server.proofs.FloorLemmas.{put_is}
use Rattle.range_server.proofs.IntentLemmas.{none_after, one_intent}
use Rattle.range_server.proofs.StepLemmas.{no_step, one_step, two_steps}
use Rattle.range_server.specs.Puts.{IsFree, IsPuts, IsSettledBy, Put, PutGives, ahead_of, entry_at, laid_at, read_at}
use Rattle.range_server.specs.Refusals.{IsRefusal, not_holder}
use Rattle.range_server.specs.Scene.{Holds, IsBeside, applied_by, scene}
use Rattle.range_server.specs.Steps.{IsAppended, IsStep}
use Rattle.range_server.specs.Ways.{IsFloor, IsMoved, IsWay}
use Rattle.range_server.specs.declared.puts.Way.TheVariants as ways
use Rattle.range_server.specs.declared.standing.Moment.{Moment}
use Rattle.range_server.specs.declared.standing.Standing.{Standing}
use Rattle.ts_cache.specs.Value.{CacheValue}

module _ (s : Standing) (old : LogValue) (now : Moment) (put : Put) (lease : Lease)
    (has : lease_of (applied_by s old.entries) ≡ Some lease) (beside : IsBeside s old.entries) where
  abbrev IsPut : Reply → LogValue → Standing → Type 0
  IsPut reply after new = IsStep (PutGives (scene s old now) put reply) (IsPuts (scene s old now) put) old after s new

  -- the wall of a floor, and what the cache answered
  abbrev Floor : Standing → List Entry → Ts → Type 0
  Floor t entries f = IsFloor (read_at t.cache put.key) t.is_global (ahead_of now) put.key entries f

  pub put_unnamed : (reply : Reply) → ¬ Names lease s.node s.boot → reply ≡ not_holder lease → IsPut reply old s
  put_unnamed reply n e = no_step _ _ _ _ (inl (record { lease = lease; has = has; tells = e; cause = inl n; nothing = refl })) beside

  pub put_blocked : (intent : Intent) (reply : Reply) → Names lease s.node s.boot → IsWay (applied_by s old.entries) put (ways.Blocked intent)
      → reply ≡ replies.Intent put.key intent.attempt intent.start intent.anchor → IsPut reply old s
  put_blocked intent reply n (value, stands) e =
      no_step _ _ _ _
      (inr (inl (record { lease = lease; has = has; names = n; intent = laid_as intent value; stands = stands; tells = e; nothing = refl })))
      beside

  pub free_clear : IsWay (applied_by s old.entries) put ways.Clear → IsFree (scene s old now) put
  free_clear clear = λ i h. h.1 (clear i h.0)

  pub free_settled : (other : AttemptId) (fate : Fate) → IsWay (applied_by s old.entries) put (ways.Settled other fate) → IsFree (scene s old now) put
  free_settled other fate ((there, stands, of), apart, told, decides) = λ i h.
      let same : i ≡ there = one_intent put.key i there (applied_by s old.entries) h.0 stands in
      let is : other ≡ i.attempt = sym (ap (λ (l : Laid). l.attempt) same ∙ of) in
      h.2 fate (subst (λ a. TellsFate put.known a fate) is told) decides

  holds : Names lease s.node s.boot → lease_of old.entries ≡ Some lease → Holds (scene s old now) lease
  holds n last = record { has = has; last = last; names = n }

  pub put_refused : (said : Reply) → Names lease s.node s.boot → IsFree (scene s old now) put → IsRefusal lease now.running old (Some said) → IsPut said old s
  put_refused said n free (inl (other, e)) =
      no_step _ _ _ _ (inl (record { lease = lease; has = has; tells = e; cause = inr (n, free, other); nothing = refl })) beside
  put_refused said n free (inr (last, minority, e)) =
      no_step _ _ _ _
      (inr (inr (inl (record { lease = lease; holds = holds n last; needs = free; minority = minority; tells = e; nothing = refl })))) beside

  pub put_laid : (ts : Ts) (after : LogValue) (new : Standing) → Names lease s.node s.boot → IsWay (applied_by s old.entries) put ways.Clear
      → IsRefusal lease now.running old None → IsAppended (entry_at put ts) old after s new
      → (f : Ts) → Floor s old.entries f → IsMoved put.asked.ts f put.asked.attempt ts → IsPut (replies.Laid ts) after new
  put_laid ts after new n clear can a f floor moved =
      let whole = beside.whole lease (holds n can.0) in
      let alone = subst (λ entries. (i : Laid) → HasIntent put.key i entries → i.attempt ≡ put.asked.attempt) whole clear in
      one_step _ _ _ _ _ _ _ a
      (inr (inr (inr (record {
        can = record { lease = lease; holds = holds n can.0; majority = can.1 };
        ts = ts;
        tells = refl;
        older = [];
        laid = refl;
        resolved = inl (refl, clear);
      }))))
      (refl, put_is _ _ _ _ _ put.asked.ts f (laid_at put ts) floor moved alone)

  floor_as : (t : Standing) (mid : List Entry) (entries : List Entry) (f : Ts) → t ≡ record s { replica = t.replica } → mid ≡ entries
      → Floor t mid f → Floor s entries f
  floor_as t mid entries f kept e h =
      let one = subst (λ (x : CacheValue). IsFloor (read_at x put.key) t.is_global (ahead_of now) put.key mid f) (ap (λ (x : Standing). x.cache) kept) h in
      let two = subst (λ (x : Bool). IsFloor (read_at s.cache put.key) x (ahead_of now) put.key mid f) (ap (λ (x : Standing). x.is_global) kept) one in
      subst (λ (x : List Entry). IsFloor (read_at s.cache put.key) s.is_global (ahead_of now) put.key x f) e two

  pub put_over : (other : AttemptId) (fate : Fate) (ts : Ts) (mid after : LogValue) (t new : Standing) → Names lease s.node s.boot
      → IsWay (applied_by s old.entries) put (ways.Settled other fate)
      → IsRefusal lease now.running old None → IsAppended (log.Resolve other put.key fate) old mid s t
      → IsAppended (entry_at put ts) mid after t new
      → (f : Ts) → Floor t mid.entries f → IsMoved put.asked.ts f put.asked.attempt ts → IsPut (replies.Laid ts) after new
  put_over other fate ts mid after t new n way can r a f floor moved =
      let whole = beside.whole lease (holds n can.0) in
      let settled = subst (λ entries. IsSettledBy entries put other fate) whole way in
      let alone : (i : Laid) → HasIntent put.key i (log.Resolve other put.key fate ∷ old.entries) → i.attempt ≡ put.asked.attempt
      = λ i h. absurd (none_after put.key other fate old.entries settled.0 i h) in
      two_steps _ _ _ _ _ _ _ _ _ _ r a
      (inr (inr (inr (record {
        can = record { lease = lease; holds = holds n can.0; majority = can.1 };
        ts = ts;
        tells = refl;
        older = log.Resolve other put.key fate ∷ [];
        laid = refl;
        resolved = inr (other, fate, way, refl);
      }))))
      (refl, put_is _ _ _ _ _ put.asked.ts f (laid_at put ts) (floor_as t mid.entries (log.Resolve other put.key fate ∷ old.entries) f r.kept r.entries floor) moved alone)
      (refl, settled)
