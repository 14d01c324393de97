-- A range stays sound when one of its servers acts.
use Rattle.std.proofs.Common.{◌≡◌, ◌≢◌, ◌<◌, ◌≤◌, ◌-◌, ◌+◌, ◌∙◌, ◌++◌, ℕ, suc, List, [], ◌∷◌, None, Some, IsSome, IfSome, Option, Result, Ok, Err, IfOk, OnOk, All, AllPairs, map, set, get_or, length, drop, refl, sym, ap, subst, inl, inr, arith, length-drop}
use Rattle.std.proofs.lemmas.Bool.{cases_eq, cases_lt, cases_order}
use Rattle.std.proofs.lemmas.Grind.{get_or-set_at}
use Rattle.std.proofs.lemmas.List.{drop-drop, get_or-map, get_or_read, get_or-set_other, length-map, length-set, map-set, set-get_or}
use Rattle.std.specs.Prelude.{⊤}
use Rattle.mr_base.specs.Nodes.{IsNode}
use Rattle.mr_base.specs.declared.ids.NodeId.{NodeId}
use Rattle.mr_base.specs.declared.messages.Request.{Request}
use Rattle.mr_base.specs.declared.timestamps.Ts.{Ts}
use Rattle.mvcc_range.specs.Follows.{Follows, ReplicaValue}
use Rattle.range_log.specs.Facts.{first_entries, lease_of}
use Rattle.range_log.specs.LogValue.{LogValue}
use Rattle.range_log.specs.declared.entries.Entry.{Entry}
use Rattle.range_log.specs.declared.entries.Entry.TheVariants as log
use Rattle.range_log.specs.declared.entries.Lease.{Lease}
use Rattle.range_replicas.proofs.LogLemmas.{added_none, added_one, all_first, first_behind, first_more, if_some_weaker, lease_kept, same_lease, seq_below, still_numbered}
use Rattle.range_replicas.specs.RangeValue.{RangeValue}
use Rattle.range_replicas.specs.Sound.{AreNumbered, FollowsFirst, HasLease, HasNoLaterLease, HoldsWithAll, IsSound}
use Rattle.range_rules.specs.Added.{AreLicensed, added_to}
use Rattle.range_server.specs.Applying.{applied_past, seen_after}
use Rattle.range_server.specs.Closing.{Closes}
use Rattle.range_server.specs.Handling.{Licenses}
use Rattle.range_server.specs.Leases.{Acquires, Extends, HasAnswered, HasRefused, Transfers}
use Rattle.range_server.specs.Refusals.{CanAppend, IsByHolder}
use Rattle.range_server.specs.Scene.{IsBeside, applied_by, scene}
use Rattle.range_server.specs.Seen.{nothing_above}
use Rattle.range_server.specs.declared.leases.LeaseRefusal.{LeaseRefusal}
use Rattle.range_server.specs.declared.leases.LeaseRefusal.TheVariants as refusals
use Rattle.range_server.specs.declared.reads.Handled.{Handled}
use Rattle.range_server.specs.declared.standing.Moment.{Moment}
use Rattle.range_server.specs.declared.standing.Standing.{Standing}
use Rattle.ts_cache.specs.Value.{CacheValue}

-- what is so of an element that is written and of each other one is so of all
all_set : {X : Type 0} (P : X → Type 0) (xs : List X) (i : ℕ) (y : X) → i < length xs → P y
    → ((k : ℕ) (d : X) → k < length xs → k ≢ i → P (get_or xs k d)) → All P (set xs i y)
all_set P xs i y within p others = λ k d h.
    let long : k < length xs = subst (λ (n : ℕ). k < n) (length-set xs i y) h in
    elim (cases_eq k i) as (λ _. P (get_or (set xs i y) k d)) [
      | inl e ↦ subst P (sym (get_or-set_at xs i k y d e within)) p
      | inr n ↦ subst P (sym (get_or-set_other xs i k y d n)) (others k d long n)
    ]

-- no more was applied than there is
applied_within : (s : Standing) (entries : List Entry) → FollowsFirst entries s → s.replica.applied ≤ length entries
applied_within s entries f = omega (arith, f.count, length-drop (length entries - s.replica.applied) entries)

applied_more : (s : Standing) (added entries : List Entry) → FollowsFirst entries s → applied_by s (added ++ entries) ≡ applied_by s entries
applied_more s added entries f = first_more s.replica.applied added entries (applied_within s entries f)

-- what another server has applied stays so
follows_more : (s : Standing) (added entries : List Entry) → FollowsFirst entries s → FollowsFirst (added ++ entries) s
follows_more s added entries f = subst (λ (x : List Entry). Follows s.replica x) (sym (applied_more s added entries f)) f

lease_more : (s : Standing) (added entries : List Entry) → FollowsFirst entries s → HasLease entries s → HasLease (added ++ entries) s
lease_more s added entries f h = subst (λ (x : List Entry). IsSome (lease_of x)) (sym (applied_more s added entries f)) h

-- a new lease is in no older part of the log
whole_leased : (s : Standing) (lease : Lease) (entries : List Entry) → AreNumbered (log.Lease lease ∷ entries) → HoldsWithAll (log.Lease lease ∷ entries) s
whole_leased s lease entries numbered = λ n other from h.
    elim (cases_lt n (suc (length entries))) as (λ _. first_entries n (log.Lease lease ∷ entries) ≡ log.Lease lease ∷ entries) [
      | inl b ↦
          let e : Some lease ≡ Some other = h.last in
          let same : lease ≡ other = cc in
          let at : first_entries n (log.Lease lease ∷ entries) ≡ first_entries n entries = first_behind n (log.Lease lease) entries (omega (arith, b)) in
          let had : lease_of (drop (length entries - n) entries) ≡ Some other = ap lease_of (sym at) ∙ h.has in
          let below : other.seq < lease.seq = seq_below entries (length entries - n) other lease.seq numbered.1 numbered.0 had in
          let no : lease.seq < lease.seq = subst (λ (x : Lease). x.seq < lease.seq) (sym same) below in
          absurd (let never : ⊥ = omega (arith, no) in never)
      | inr b ↦ all_first n (log.Lease lease ∷ entries) b
    ]

module _ (r : RangeValue) (sound : IsSound r) (place : ℕ) (within : place < length r.servers) (server : Standing) (is : server ≡ get_or r.servers place server) where
  -- what is so of all servers is so of this one
  here : (P : Standing → Type 0) → All P r.servers → P server
  here P all = subst P (sym is) (all place server within)

  -- no other is at its node
  apart : (k : ℕ) (d : Standing) → k < length r.servers → k ≢ place → (get_or r.servers k d).node ≢ server.node
  apart k d h n e =
      let node : Standing → NodeId = λ s. s.node in
      let nodes : AllPairs ◌≢◌ (map node r.servers) = subst (λ (x : List NodeId). AllPairs ◌≢◌ x) (sym sound.nodes) sound.distinct in
      let at_k : get_or (map node r.servers) k d.node ≡ (get_or r.servers k d).node = get_or-map node r.servers k d d.node h in
      let at_place : get_or (map node r.servers) place d.node ≡ server.node
      = get_or-map node r.servers place server d.node within ∙ ap node (sym is) in
      let one : get_or (map node r.servers) k d.node ≡ get_or (map node r.servers) place d.node = at_k ∙ e ∙ sym at_place in
      let long : length (map node r.servers) ≡ length r.servers = length-map r.servers node in
      elim (cases_order k place) as (λ _. ⊥) [
        | inl b ↦ n b
        | inr (inl b) ↦ nodes k place d.node b (omega (arith, long, within)) one
        | inr (inr b) ↦ nodes place k d.node b (omega (arith, long, h)) (sym one)
      ]

  -- the range with another server there and another log
  abbrev changed : LogValue → Standing → RangeValue
  changed after new = record r { log = after; servers = set r.servers place new }

  sound_with : (after : LogValue) (new : Standing) → new.node ≡ server.node → new.is_global ≡ server.is_global → after.voters ≡ r.log.voters
      → AreNumbered after.entries → All (FollowsFirst after.entries) (set r.servers place new) → All (HasLease after.entries) (set r.servers place new)
      → All (HoldsWithAll after.entries) (set r.servers place new) → All (HasNoLaterLease after.entries) (set r.servers place new) → IsSound (changed after new)
  sound_with after new node kind voters leases follows leased whole boots =
      let at : Standing → NodeId = λ s. s.node in
      let same : map at (set r.servers place new) ≡ map at r.servers
      = map-set at r.servers place new ∙ ap (λ (x : NodeId). set (map at r.servers) place x)
      (node ∙ ap at is ∙ sym (get_or-map at r.servers place server server.node within)) ∙ set-get_or (map at r.servers) place server.node in
      record {
        nodes = same ∙ sound.nodes;
        distinct = sound.distinct;
        numbered = sound.numbered;
        kind = all_set (λ s. s.is_global ≡ r.is_global) r.servers place new within (kind ∙ here (λ s. s.is_global ≡ r.is_global) sound.kind)
            (λ k d h n. sound.kind k d h);
        voters = voters ∙ sound.voters;
        leases = leases;
        follows = follows;
        leased = leased;
        whole = whole;
        boots = boots;
      }

  module _ (replica : ReplicaValue) (cache : CacheValue) where
    abbrev new : Standing
    new = record server { replica = replica; cache = cache }

    -- nothing was appended, and no more applied
    same_sound : (after : LogValue) → after.entries ≡ r.log.entries → after.voters ≡ r.log.voters → replica.applied ≡ server.replica.applied
        → FollowsFirst r.log.entries new → IsSound (changed after new)
    same_sound after same voters applied follows =
        let entries = r.log.entries in
        let leased : HasLease entries new
        = subst (λ (n : ℕ). IsSome (lease_of (first_entries n entries))) (sym applied) (here (HasLease entries) sound.leased) in
        let whole : HoldsWithAll entries new
        = λ n lease from h. here (HoldsWithAll entries) sound.whole n lease (subst (λ (m : ℕ). m ≤ n) applied from) h in
        let all : (P : List Entry → Standing → Type 0) → All (P entries) r.servers → P entries new → All (P after.entries) (set r.servers place new)
        = λ P a p. subst (λ (x : List Entry). All (P x) (set r.servers place new)) (sym same)
        (all_set (P entries) r.servers place new within p (λ k d h n. a k d h)) in
        sound_with after new refl refl voters (subst AreNumbered (sym same) sound.leases) (all FollowsFirst sound.follows follows) (all HasLease sound.leased leased)
        (all HoldsWithAll sound.whole whole) (all HasNoLaterLease sound.boots (here (HasNoLaterLease entries) sound.boots))

    -- all was applied
    whole_sound : (entries : List Entry) → Follows replica entries → HoldsWithAll entries new
    whole_sound entries f = λ n lease from h. all_first n entries (omega (arith, f.count, from))

    follows_all : (entries : List Entry) → Follows replica entries → FollowsFirst entries new
    follows_all entries f =
        subst (λ (x : List Entry). Follows replica x) (sym (all_first replica.applied entries (omega (arith, f.count)))) f

    leased_all : (entries : List Entry) (lease : Lease) → Follows replica entries → lease_of entries ≡ Some lease → HasLease entries new
    leased_all entries lease f e =
        subst (λ (x : List Entry). IsSome (lease_of x)) (sym (all_first replica.applied entries (omega (arith, f.count))))
        (subst (λ (x : Option Lease). IsSome x) (sym e) refl)

    -- a lease was appended, and all applied
    leased_sound : (after : LogValue) (lease : Lease) → after.entries ≡ log.Lease lease ∷ r.log.entries → after.voters ≡ r.log.voters
        → Follows replica after.entries → IfSome (lease_of r.log.entries) (λ last. last.seq < lease.seq)
        → All (λ s. lease.holder ≡ s.node → lease.boot ≤ s.boot) r.servers → IsSound (changed after new)
    leased_sound after lease grown voters follows above boots =
        let entries = log.Lease lease ∷ r.log.entries in
        let numbered : AreNumbered entries = (above, sound.leases) in
        let f : Follows replica entries = subst (λ (x : List Entry). Follows replica x) grown follows in
        let all : (P : List Entry → Standing → Type 0) → P entries new
        → ((k : ℕ) (d : Standing) → k < length r.servers → P entries (get_or r.servers k d)) → All (P after.entries) (set r.servers place new)
        = λ P p a. subst (λ (x : List Entry). All (P x) (set r.servers place new)) (sym grown)
        (all_set (P entries) r.servers place new within p (λ k d h n. a k d h)) in
        sound_with after new refl refl voters (subst AreNumbered (sym grown) numbered)
        (all FollowsFirst (follows_all entries f) (λ k d h. follows_more (get_or r.servers k d) (log.Lease lease ∷ []) r.log.entries (sound.follows k d h)))
        (all HasLease (leased_all entries lease f refl)
        (λ k d h. lease_more (get_or r.servers k d) (log.Lease lease ∷ []) r.log.entries (sound.follows k d h) (sound.leased k d h)))
        (all HoldsWithAll (whole_sound entries f) (λ k d h. whole_leased (get_or r.servers k d) lease r.log.entries numbered))
        (all HasNoLaterLease (here (λ s. lease.holder ≡ s.node → lease.boot ≤ s.boot) boots) (λ k d h. boots k d h))

    -- the holder appended entries that are no leases, and has applied all
    held_sound : (now : Moment) (after : LogValue) (e : Entry) (added : List Entry) → after.entries ≡ (e ∷ added) ++ r.log.entries
        → after.voters ≡ r.log.voters → lease_of ((e ∷ added) ++ r.log.entries) ≡ lease_of r.log.entries → AreNumbered ((e ∷ added) ++ r.log.entries)
        → CanAppend (scene server r.log now) → Follows replica after.entries → IsSound (changed after new)
    held_sound now after e added grown voters same numbered can follows =
        let entries = (e ∷ added) ++ r.log.entries in
        let f : Follows replica entries = subst (λ (x : List Entry). Follows replica x) grown follows in
        let all : (P : List Entry → Standing → Type 0) → P entries new
        → ((k : ℕ) (d : Standing) → k < length r.servers → k ≢ place → P entries (get_or r.servers k d)) → All (P after.entries) (set r.servers place new)
        = λ P p a. subst (λ (x : List Entry). All (P x) (set r.servers place new)) (sym grown) (all_set (P entries) r.servers place new within p a) in
        let no_later : (s : Standing) → HasNoLaterLease r.log.entries s → HasNoLaterLease entries s
        = λ s h. subst (λ (x : Option Lease). IfSome x (λ lease. lease.holder ≡ s.node → lease.boot ≤ s.boot)) (sym same) h in
        sound_with after new refl refl voters (subst AreNumbered (sym grown) numbered)
        (all FollowsFirst (follows_all entries f) (λ k d h n. follows_more (get_or r.servers k d) (e ∷ added) r.log.entries (sound.follows k d h)))
        (all HasLease (leased_all entries can.lease f (same ∙ can.holds.last))
        (λ k d h n. lease_more (get_or r.servers k d) (e ∷ added) r.log.entries (sound.follows k d h) (sound.leased k d h)))
        (all HoldsWithAll (whole_sound entries f)
        (λ k d h n m lease from held.
        let one : Some can.lease ≡ Some lease = sym can.holds.last ∙ sym same ∙ held.last in
        let is : can.lease ≡ lease = cc in
        absurd (apart k d h n (sym held.names.0 ∙ ap (λ (x : Lease). x.holder) (sym is) ∙ can.holds.names.0))))
        (all HasNoLaterLease (no_later new (here (HasNoLaterLease r.log.entries) sound.boots)) (λ k d h n. no_later (get_or r.servers k d) (sound.boots k d h)))

    -- entries that are no leases were added by the holder, if any
    added_sound : (now : Moment) (after : LogValue) (added : List Entry) → after.entries ≡ added ++ r.log.entries → after.voters ≡ r.log.voters
        → lease_of (added ++ r.log.entries) ≡ lease_of r.log.entries → AreNumbered (added ++ r.log.entries)
        → IsByHolder (scene server r.log now) added → replica.applied ≡ applied_past added server.replica.applied after.entries
        → IsBeside new after.entries → IsSound (changed after new)
    added_sound now after [] grown voters same numbered held applied beside =
        same_sound after grown voters applied (subst (λ (x : List Entry). FollowsFirst x new) grown beside.follows)
    added_sound now after (e ∷ added) grown voters same numbered held applied beside =
        held_sound now after e added grown voters same numbered held
        (subst (λ (x : List Entry). Follows replica x) (all_first replica.applied after.entries (omega (arith, applied))) beside.follows)

  -- a request was handled
  pub handled_sound : {E : Type 0} (result : Result Handled E) (now : Moment) (q : Request) (after : LogValue) (new : Standing) (added : List Entry)
      → OnOk result (after.entries ≡ added ++ r.log.entries) → OnOk result (AreLicensed (Licenses (scene server r.log now) q) added r.log.entries)
      → OnOk result (IsByHolder (scene server r.log now) added)
      → OnOk result (new.replica.applied ≡ applied_past added server.replica.applied after.entries)
      → OnOk result (new ≡ record server { replica = new.replica; cache = new.cache }) → OnOk result (IsBeside new after.entries)
      → OnOk result (after.voters ≡ r.log.voters) → OnOk result (IsSound (changed after new))
  handled_sound (Ok x) now q after t added grown licensed held applied kept beside voters =
      subst (λ (s : Standing). IsSound (changed after s)) (sym kept)
      (added_sound t.replica t.cache now after added grown voters (same_lease (scene server r.log now) q added r.log.entries licensed)
      (still_numbered (scene server r.log now) q added r.log.entries licensed sound.leases) held applied
      (subst (λ (s : Standing). IsBeside s after.entries) kept beside))
  handled_sound (Err e) now q after t added grown licensed held applied kept beside voters = tt

  -- the server's node is one
  pub node_here : IsNode server.node
  node_here =
      let at : Standing → NodeId = λ s. s.node in
      let nodes : All IsNode (map at r.servers) = subst (λ (x : List NodeId). All IsNode x) (sym sound.nodes) sound.numbered in
      let long : length (map at r.servers) ≡ length r.servers = length-map r.servers at in
      subst IsNode (get_or-map at r.servers place server server.node within ∙ ap at (sym is)) (nodes place server.node (omega (arith, long, within)))

  -- nothing was done
  refused_sound : (after : LogValue) (t : Standing) → t ≡ server → after.entries ≡ r.log.entries → after.voters ≡ r.log.voters → IsSound (changed after t)
  refused_sound after t same entries voters =
      subst (λ (s : Standing). IsSound (changed after s)) (sym same)
      (same_sound server.replica server.cache after entries voters refl (here (FollowsFirst r.log.entries) sound.follows))

  last_below : (last lease : Lease) → lease_of r.log.entries ≡ Some last → lease.seq ≡ last.seq + 1
      → IfSome (lease_of r.log.entries) (λ l. l.seq < lease.seq)
  last_below last lease e s =
      let below : last.seq < lease.seq = omega (arith, s) in
      subst (λ (x : Option Lease). IfSome x (λ l. l.seq < lease.seq)) (sym e) below

  -- a lease was taken
  own_boot : (lease : Lease) → lease.holder ≡ server.node → lease.boot ≡ server.boot → All (λ s. lease.holder ≡ s.node → lease.boot ≤ s.boot) r.servers
  own_boot lease holder boot = λ k d h named.
      elim (cases_eq k place) as (λ _. lease.boot ≤ (get_or r.servers k d).boot) [
        | inl e ↦
            let s : server ≡ get_or r.servers k d = get_or_read r.servers place server within is d ∙ ap (λ (n : ℕ). get_or r.servers n d) (sym e) in
            subst (λ (x : Standing). lease.boot ≤ x.boot) s (omega (arith, boot))
        | inr n ↦ absurd (apart k d h n (sym named ∙ holder))
      ]

  pub acquired_sound : (result : Result Lease LeaseRefusal) (now : Moment) (after : LogValue) (t : Standing)
      → Acquires (scene server r.log now) result after.entries
      → IfOk result (λ lease. t ≡ record server { replica = t.replica; cache = nothing_above lease.low })
      → OnOk result (Follows t.replica after.entries) → (HasRefused result → t ≡ server) → (HasAnswered result → after.voters ≡ r.log.voters)
      → HasAnswered result → IsSound (changed after t)
  acquired_sound (Ok lease) now after t answer kept follows refused voters answered =
      subst (λ (s : Standing). IsSound (changed after s)) (sym kept)
      (leased_sound t.replica (nothing_above lease.low) after lease answer.appended (voters tt) follows
      (last_below answer.last lease answer.is_last answer.acquired.seq) (own_boot lease answer.acquired.holder_is answer.acquired.boot_is))
  acquired_sound (Err refusals.NotVoter) now after t answer kept follows refused voters answered =
      refused_sound after t (refused tt) answer.1 (voters tt)
  acquired_sound (Err (refusals.Live expiration)) now after t answer kept follows refused voters answered =
      refused_sound after t (refused tt) answer.2 (voters tt)
  acquired_sound (Err (refusals.NoQuorum down)) now after t answer kept follows refused voters answered =
      refused_sound after t (refused tt) answer.3 (voters tt)
  acquired_sound (Err refusals.NotHolder) now after t answer kept follows refused voters answered = absurd answer
  acquired_sound (Err refusals.Memory) now after t answer kept follows refused voters answered = absurd answered

  -- a lease was handed on
  pub transferred_sound : (result : Result Lease LeaseRefusal) (now : Moment) (to : NodeId) (boot : ℕ) (after : LogValue) (t : Standing)
      → All (λ s. s.node ≡ to → s.boot ≡ boot) r.servers
      → Transfers (scene server r.log now) to boot result after.entries
      → IfOk result (λ lease. t ≡ record server { replica = t.replica; cache = seen_after server.node server.boot (log.Lease lease ∷ []) server.cache })
      → OnOk result (Follows t.replica after.entries) → (HasRefused result → t ≡ server) → (HasAnswered result → after.voters ≡ r.log.voters)
      → HasAnswered result → IsSound (changed after t)
  transferred_sound (Ok lease) now to boot after t boots answer kept follows refused voters answered =
      subst (λ (s : Standing). IsSound (changed after s)) (sym kept)
      (leased_sound t.replica (seen_after server.node server.boot (log.Lease lease ∷ []) server.cache) after lease answer.appended (voters tt) follows
      (last_below answer.last lease answer.holds.last answer.transferred.seq)
      (λ k d h named.
      let one : (get_or r.servers k d).boot ≡ boot = boots k d h (sym named ∙ answer.transferred.holder_is) in
      omega (arith, one, answer.transferred.boot_is)))
  transferred_sound (Err refusals.NotVoter) now to boot after t boots answer kept follows refused voters answered =
      refused_sound after t (refused tt) answer.2 (voters tt)
  transferred_sound (Err (refusals.Live expiration)) now to boot after t boots answer kept follows refused voters answered = absurd answer
  transferred_sound (Err (refusals.NoQuorum down)) now to boot after t boots answer kept follows refused voters answered =
      refused_sound after t (refused tt) answer.3 (voters tt)
  transferred_sound (Err refusals.NotHolder) now to boot after t boots answer kept follows refused voters answered =
      refused_sound after t (refused tt) answer.1 (voters tt)
  transferred_sound (Err refusals.Memory) now to boot after t boots answer kept follows refused voters answered = absurd answered

  -- a lease was extended
  pub extended_sound : (result : Result Lease LeaseRefusal) (now : Moment) (after : LogValue) (t : Standing)
      → Extends (scene server r.log now) result after.entries → OnOk result (t ≡ record server { replica = t.replica })
      → OnOk result (Follows t.replica after.entries) → (HasRefused result → t ≡ server) → (HasAnswered result → after.voters ≡ r.log.voters)
      → HasAnswered result → IsSound (changed after t)
  extended_sound (Ok lease) now after t answer kept follows refused voters answered =
      subst (λ (s : Standing). IsSound (changed after s)) (sym kept)
      (leased_sound t.replica server.cache after lease answer.appended (voters tt) follows
      (last_below answer.last lease answer.holds.last answer.extended.seq)
      (λ k d h named.
      let had = subst (λ (x : Option Lease). IfSome x (λ l. l.holder ≡ (get_or r.servers k d).node → l.boot ≤ (get_or r.servers k d).boot))
      answer.holds.last (sound.boots k d h) in
      let before : answer.last.boot ≤ (get_or r.servers k d).boot = had (sym answer.extended.holder_is ∙ named) in
      omega (arith, before, answer.extended.boot_is)))
  extended_sound (Err refusals.NotVoter) now after t answer kept follows refused voters answered = absurd answer
  extended_sound (Err (refusals.Live expiration)) now after t answer kept follows refused voters answered = absurd answer
  extended_sound (Err (refusals.NoQuorum down)) now after t answer kept follows refused voters answered =
      refused_sound after t (refused tt) answer.2 (voters tt)
  extended_sound (Err refusals.NotHolder) now after t answer kept follows refused voters answered =
      refused_sound after t (refused tt) answer.1 (voters tt)
  extended_sound (Err refusals.Memory) now after t answer kept follows refused voters answered = absurd answered

  -- a timestamp was closed
  pub closed_sound : (result : Result (Option Ts) LeaseRefusal) (now : Moment) (after : LogValue) (t : Standing)
      → Closes (scene server r.log now) result after.entries → OnOk result (t ≡ record server { replica = t.replica })
      → OnOk result (t.replica.applied ≡ applied_past (added_to r.log.entries after.entries) server.replica.applied after.entries)
      → (HasRefused result → t ≡ server) → (HasAnswered result → IsBeside t after.entries)
      → (HasAnswered result → after.voters ≡ r.log.voters) → HasAnswered result → IsSound (changed after t)
  closed_sound (Ok (Some ts)) now after t answer kept applied refused beside voters answered =
      subst (λ (s : Standing). IsSound (changed after s)) (sym kept)
      (added_sound t.replica server.cache now after (log.Close ts ∷ []) answer.appended (voters tt) refl sound.leases
      (record { lease = answer.lease; holds = answer.holds; majority = answer.quorum })
      (applied ∙ ap (λ (x : List Entry). applied_past x server.replica.applied after.entries)
      (added_one (log.Close ts) r.log.entries after.entries answer.appended))
      (subst (λ (s : Standing). IsBeside s after.entries) kept (beside tt)))
  closed_sound (Ok None) now after t answer kept applied refused beside voters answered =
      subst (λ (s : Standing). IsSound (changed after s)) (sym kept)
      (added_sound t.replica server.cache now after [] answer.3 (voters tt) refl sound.leases tt
      (applied ∙ ap (λ (x : List Entry). applied_past x server.replica.applied after.entries) (added_none r.log.entries after.entries answer.3))
      (subst (λ (s : Standing). IsBeside s after.entries) kept (beside tt)))
  closed_sound (Err refusals.NotVoter) now after t answer kept applied refused beside voters answered = absurd answer
  closed_sound (Err (refusals.Live expiration)) now after t answer kept applied refused beside voters answered = absurd answer
  closed_sound (Err (refusals.NoQuorum down)) now after t answer kept applied refused beside voters answered =
      refused_sound after t (refused tt) answer.2 (voters tt)
  closed_sound (Err refusals.NotHolder) now after t answer kept applied refused beside voters answered =
      refused_sound after t (refused tt) answer.1 (voters tt)
  closed_sound (Err refusals.Memory) now after t answer kept applied refused beside voters answered = absurd answered

  -- entries were applied
  pub applied_sound : {E : Type 0} (result : Result ⊤ E) (upto : ℕ) (t : Standing) → server.replica.applied ≤ upto → upto ≤ length r.log.entries
      → OnOk result (Follows t.replica (first_entries upto r.log.entries))
      → (cache : CacheValue) → OnOk result (t ≡ record server { replica = t.replica; cache = cache }) → OnOk result (IsSound (changed r.log t))
  applied_sound (Err e) upto t from to follows cache kept = tt
  applied_sound (Ok x) upto t from to follows cache kept =
      let entries = r.log.entries in
      let had = server.replica.applied in
      let new : Standing = record server { replica = t.replica; cache = cache } in
      let count : t.replica.applied ≡ upto
      = omega (arith, follows.count, length-drop (length entries - upto) entries, to) in
      let at : first_entries t.replica.applied entries ≡ first_entries upto entries = ap (λ (n : ℕ). first_entries n entries) count in
      let long : (length entries - upto) + (upto - had) ≡ length entries - had = omega (arith, from, to) in
      let parts : drop (upto - had) (first_entries upto entries) ≡ first_entries had entries
      = drop-drop (upto - had) (length entries - upto) entries ∙ ap (λ (n : ℕ). drop n entries) long in
      let leased : HasLease entries new
      = subst (λ (x : List Entry). IsSome (lease_of x)) (sym at)
      (lease_kept (first_entries upto entries) (upto - had)
      (subst (λ (x : List Entry). IsSome (lease_of x)) (sym parts) (here (HasLease entries) sound.leased))) in
      let whole : HoldsWithAll entries new
      = λ n lease more h. here (HoldsWithAll entries) sound.whole n lease (omega (arith, count, from, more)) h in
      let all : (P : Standing → Type 0) → All P r.servers → P new → All P (set r.servers place new)
      = λ P a p. all_set P r.servers place new within p (λ k d h n. a k d h) in
      subst (λ (s : Standing). IsSound (changed r.log s)) (sym kept)
      (sound_with r.log new refl refl refl sound.leases
      (all (FollowsFirst entries) sound.follows (subst (λ (x : List Entry). Follows t.replica x) (sym at) follows))
      (all (HasLease entries) sound.leased leased) (all (HoldsWithAll entries) sound.whole whole)
      (all (HasNoLaterLease entries) sound.boots (here (HasNoLaterLease entries) sound.boots)))

  -- the node has started again
  pub restarted_sound : (boot : ℕ) (t : Standing) (cache : CacheValue) → server.boot < boot → t ≡ record server { boot = boot; cache = cache }
      → IsSound (changed r.log t)
  restarted_sound boot t cache later kept =
      let entries = r.log.entries in
      let new : Standing = record server { boot = boot; cache = cache } in
      let boots = here (HasNoLaterLease entries) sound.boots in
      let no_later : HasNoLaterLease entries new
      = if_some_weaker (lease_of entries) (λ l. l.holder ≡ server.node → l.boot ≤ server.boot) (λ l. l.holder ≡ server.node → l.boot ≤ boot)
      (λ l f named. let below : l.boot ≤ server.boot = f named in omega (arith, below, later)) boots in
      let whole : HoldsWithAll entries new
      = λ n lease more h.
      let below : lease.boot ≤ server.boot
      = subst (λ (x : Option Lease). IfSome x (λ l. l.holder ≡ server.node → l.boot ≤ server.boot)) h.last boots h.names.0 in
      absurd (let never : ⊥ = omega (arith, below, later, h.names.1) in never) in
      let all : (P : Standing → Type 0) → All P r.servers → P new → All P (set r.servers place new)
      = λ P a p. all_set P r.servers place new within p (λ k d h n. a k d h) in
      subst (λ (s : Standing). IsSound (changed r.log s)) (sym kept)
      (sound_with r.log new refl refl refl sound.leases (all (FollowsFirst entries) sound.follows (here (FollowsFirst entries) sound.follows))
      (all (HasLease entries) sound.leased (here (HasLease entries) sound.leased)) (all (HoldsWithAll entries) sound.whole whole)
      (all (HasNoLaterLease entries) sound.boots no_later))
