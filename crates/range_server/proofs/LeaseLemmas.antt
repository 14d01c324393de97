-- How a server stands after leases were taken, handed on and extended, and after a timestamp was closed.
use Rattle.std.proofs.Common.{◌≡◌, ◌+◌, ◌-◌, ◌≤◌, ◌<◌, ◌∙◌, ◌↔◌, ℕ, Bool, true, false, IsTrue, List, [], ◌∷◌, Some, Err, length, slice_get, sym, ap, subst, arith}
use Rattle.std.proofs.lemmas.Bool.Decides.{nat_tests}
use Rattle.mr_base.specs.Nodes.{IsMember}
use Rattle.mr_base.specs.Timestamps.{IsBelow}
use Rattle.mr_base.specs.declared.ids.NodeId.{NodeId}
use Rattle.mr_base.specs.declared.timestamps.Ts.{Ts}
use Rattle.mvcc_range.specs.Follows.{Follows, ReplicaValue}
use Rattle.range_log.specs.Facts.{first_entries}
use Rattle.range_log.specs.LogValue.{LogValue}
use Rattle.range_log.specs.declared.entries.Entry.{Entry}
use Rattle.range_log.specs.declared.entries.Entry.TheVariants as log
use Rattle.range_log.specs.declared.entries.Lease.{Lease}
use Rattle.range_rules.specs.Added.{added_to}
use Rattle.range_rules.specs.Holding.{IsHolder}
use Rattle.range_server.proofs.LogLemmas.{added_from, added_is, added_more, applied_within, first_behind, first_next, length_first, seen_more}
use Rattle.range_server.proofs.StepLemmas.{all_first, beside_whole}
use Rattle.range_server.specs.Applying.{applied_past, is_named, seen_after}
use Rattle.range_server.specs.Closing.{Closes}
use Rattle.range_server.specs.Leases.{AppendsLease, Extends, IsHeldAs, Transfers}
use Rattle.range_server.specs.Scene.{Holds, IsBeside, Scene, applied_by}
use Rattle.range_server.specs.Seen.{nothing_above}
use Rattle.range_server.specs.declared.leases.LeaseRefusal.{LeaseRefusal}
use Rattle.range_server.specs.declared.leases.LeaseRefusal.TheVariants as refusals
use Rattle.range_server.specs.declared.standing.Standing.{Standing}
use Rattle.ts_cache.specs.Value.{CacheValue}

-- a lease that names a node begins what is read under it
pub named_is : (lease : Lease) (node : NodeId) (boot : ℕ) → lease.holder ≡ node → lease.boot ≡ boot → is_named node boot lease ≡ true
named_is lease node boot h b = let n : lease.holder.0 ≡ node.0 = ap (λ (x : NodeId). x.0) h in grind (arith, nat_tests)

pub seen_anew : (lease : Lease) (node : NodeId) (boot : ℕ) (added : List Entry) (seen : CacheValue) → lease.holder ≡ node → lease.boot ≡ boot
    → seen_after node boot (log.Lease lease ∷ added) seen ≡ nothing_above lease.low
seen_anew lease node boot added seen h b = rw (named_is lease node boot h b)

module _ (s : Standing) (entries : List Entry) (e : Entry) (follows : Follows s.replica (applied_by s entries)) where
  -- a server that has applied so many of a log's entries has applied the same of the log with one more
  pub applied_behind : applied_by s (e ∷ entries) ≡ applied_by s entries
  applied_behind = first_behind s.replica.applied e entries (applied_within s entries follows)

  pub follows_behind : Follows s.replica (applied_by s (e ∷ entries))
  follows_behind = subst (λ (x : List Entry). Follows s.replica x) (sym applied_behind) follows

  pub within_behind : s.replica.applied ≤ length (e ∷ entries)
  within_behind = let w = applied_within s entries follows in omega arith

-- a holder's replica follows all of the log
pub follows_held : (s : Standing) (entries : List Entry) (lease : Lease) → IsBeside s entries → IsHolder (applied_by s entries) entries s.node s.boot lease
    → Follows s.replica entries
follows_held s entries lease beside holds = subst (λ (x : List Entry). Follows s.replica x) (beside.whole lease holds) beside.follows

-- a server that has applied all stands beside its log
pub beside_after : (new : Standing) (entries after : List Entry) (e : Entry) → after ≡ e ∷ entries → Follows new.replica (e ∷ entries) → IsBeside new after
beside_after new entries after e grown follows = rw grown (beside_whole new (e ∷ entries) follows)

-- it has applied what was added
pub applied_one : (entries after : List Entry) (e : Entry) (applied : ℕ) (replica : ReplicaValue) → after ≡ e ∷ entries → Follows replica (e ∷ entries)
    → replica.applied ≡ applied_past (added_to entries after) applied after
applied_one entries after e applied replica grown follows =
    follows.count ∙ ap length (sym grown)
    ∙ sym (ap (λ (x : List Entry). applied_past x applied after) (added_from (e ∷ []) entries after grown))

-- so does one that has applied up to its end
pub beside_all : (new : Standing) (entries : List Entry) (n : ℕ) → n ≡ length entries → Follows new.replica (first_entries n entries) → IsBeside new entries
beside_all new entries n e follows = beside_whole new entries (subst (λ (x : List Entry). Follows new.replica x) (all_first n entries e) follows)

module _ (sc : Scene) (refusal : LeaseRefusal) (after : List Entry) (same : after ≡ sc.log.entries) where
  -- who doesn't hold the range is refused
  pub held_extends : IsHeldAs sc (Err refusal) → Extends sc (Err refusal) after
  held_extends = by refusal
    where
      by : (r : LeaseRefusal) → IsHeldAs sc (Err r) → Extends sc (Err r) after
      by refusals.NotHolder h = (h, same)
      by refusals.NotVoter h = h
      by refusals.Memory h = absurd h
      by (refusals.Live e) h = h
      by (refusals.NoQuorum down) h = absurd h

  pub held_transfers : (to : NodeId) (boot : ℕ) → IsHeldAs sc (Err refusal) → Transfers sc to boot (Err refusal) after
  held_transfers to boot = by refusal
    where
      by : (r : LeaseRefusal) → IsHeldAs sc (Err r) → Transfers sc to boot (Err r) after
      by refusals.NotHolder h = (h, same)
      by refusals.NotVoter h = absurd h
      by refusals.Memory h = absurd h
      by (refusals.Live e) h = h
      by (refusals.NoQuorum down) h = absurd h

  pub held_closes : IsHeldAs sc (Err refusal) → Closes sc (Err refusal) after
  held_closes = by refusal
    where
      by : (r : LeaseRefusal) → IsHeldAs sc (Err r) → Closes sc (Err r) after
      by refusals.NotHolder h = (h, same)
      by refusals.NotVoter h = h
      by refusals.Memory h = absurd h
      by (refusals.Live e) h = h
      by (refusals.NoQuorum down) h = absurd h

module _ (sc : Scene) (last lease : Lease) (holds : Holds sc last) (after : LogValue) where
  -- a lease isn't appended without a quorum
  pub refused_extends : (r : LeaseRefusal) → AppendsLease {A = Lease} lease sc.now.running sc.log after (Err r) → Extends sc (Err r) after.entries
  refused_extends (refusals.NoQuorum down) h = ((last, holds), (h.0, h.1), h.2)
  refused_extends refusals.Memory h = tt
  refused_extends refusals.NotHolder h = absurd h
  refused_extends refusals.NotVoter h = h
  refused_extends (refusals.Live e) h = h

  pub refused_transfers : (to : NodeId) (boot : ℕ) → IsMember sc.log.voters to → (r : LeaseRefusal)
      → AppendsLease {A = Lease} lease sc.now.running sc.log after (Err r) → Transfers sc to boot (Err r) after.entries
  refused_transfers to boot voter (refusals.NoQuorum down) h = ((last, holds), voter, (h.0, h.1), h.2)
  refused_transfers to boot voter refusals.Memory h = tt
  refused_transfers to boot voter refusals.NotHolder h = absurd h
  refused_transfers to boot voter refusals.NotVoter h = absurd h
  refused_transfers to boot voter (refusals.Live e) h = h

-- whether a target is above what was closed
pub is_above : (b : Bool) (closed ts at target : Ts) → IsTrue b ↔ IsBelow closed ts → closed ≡ at → ts ≡ target → b ≡ true → IsBelow at target
is_above b closed ts at target d c t h = subst (λ (x : Ts). IsBelow x target) c (subst (λ (x : Ts). IsBelow closed x) t (d.0 h))

pub is_not_above : (b : Bool) (closed ts at target : Ts) → IsTrue b ↔ IsBelow closed ts → closed ≡ at → ts ≡ target → b ≡ false → ¬ IsBelow at target
is_not_above b closed ts at target d c t f h =
    let is : b ≡ true = d.1 (subst (λ (x : Ts). IsBelow x ts) (sym c) (subst (λ (x : Ts). IsBelow at x) (sym t) h)) in
    cc

-- how far a server has come that applies entries of a log
pub record HasApplied (s : Standing) (entries : List Entry) (n : ℕ) (new : Standing) : Type 0 where
  pub follows : Follows new.replica (first_entries n entries)
  pub server : new ≡ record s { replica = new.replica; cache = seen_after s.node s.boot (added_to (applied_by s entries) (first_entries n entries)) s.cache }

module _ (s : Standing) (entries : List Entry) (follows : Follows s.replica (applied_by s entries)) where
  begun_at : HasApplied s entries s.replica.applied s
  begun_at =
      let none : added_to (applied_by s entries) (applied_by s entries) ≡ [] = added_is [] (applied_by s entries) in
      record {
        follows = follows;
        server = sym (ap (λ (x : List Entry). record s { cache = seen_after s.node s.boot x s.cache }) none);
      }

  pub applying_begins : (n : ℕ) → n ≡ length (applied_by s entries) → HasApplied s entries n s
  applying_begins n e = subst (λ (x : ℕ). HasApplied s entries x s) (follows.count ∙ sym e) begun_at

  pub applying_goes_on : (t new : Standing) (n : ℕ) (e : Entry) → s.replica.applied ≤ n → n < length entries
      → slice_get entries (length entries - (n + 1)) ≡ Some e → HasApplied s entries n t
      → ((older : List Entry) → Follows t.replica older → Follows new.replica (e ∷ older))
      → new ≡ record t { replica = new.replica; cache = seen_after t.node t.boot (e ∷ []) t.cache } → HasApplied s entries (n + 1) new
  applying_goes_on t new n e from within at h applied changed =
      let P = applied_by s entries in
      let next : first_entries (n + 1) entries ≡ e ∷ first_entries n entries = first_next entries n e within at in
      let long : length P ≤ length (first_entries n entries) = omega (arith, follows.count, length_first n entries (omega arith)) in
      let more : added_to P (first_entries (n + 1) entries) ≡ e ∷ added_to P (first_entries n entries)
      = ap (λ (x : List Entry). added_to P x) next ∙ added_more P (first_entries n entries) e long in
      let seen : seen_after s.node s.boot (e ∷ []) (seen_after s.node s.boot (added_to P (first_entries n entries)) s.cache)
      ≡ seen_after s.node s.boot (added_to P (first_entries (n + 1) entries)) s.cache
      = seen_more s.node s.boot e (added_to P (first_entries n entries)) s.cache
      ∙ sym (ap (λ (x : List Entry). seen_after s.node s.boot x s.cache) more) in
      record {
        follows = subst (λ (x : List Entry). Follows new.replica x) (sym next) (applied (first_entries n entries) h.follows);
        server = changed
            ∙ ap (λ (x : Standing). record x { replica = new.replica; cache = seen_after x.node x.boot (e ∷ []) x.cache }) h.server
            ∙ ap (λ (x : CacheValue). record s { replica = new.replica; cache = x }) seen;
      }
