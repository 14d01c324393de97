-- What resolving leaves of an attempt's intents.
use Rattle.std.proofs.Common.{◌≡◌, ◌∙◌, ◌+◌, ◌<◌, ◌++◌, ℕ, true, false, List, [], ◌∷◌, None, Some, All, Contains, length, get_or, take, refl, sym, ap, subst, inl, inr}
use Rattle.std.proofs.lemmas.List.Elements.{All-more, All-nil, All-weaker, Contains-get_or}
use Rattle.std.proofs.Math.Seq.{take-length}
use Rattle.mr_base.specs.declared.ids.AttemptId.{AttemptId}
use Rattle.mr_base.specs.declared.messages.Reply.{Reply}
use Rattle.mr_base.specs.declared.messages.Fate.{Fate}
use Rattle.mvcc_range.specs.Follows.{Follows}
use Rattle.range_log.specs.Facts.{lease_of}
use Rattle.range_log.specs.LogValue.{LogValue}
use Rattle.range_log.specs.declared.entries.Entry.{Entry}
use Rattle.range_log.specs.declared.entries.Entry.TheVariants as log
use Rattle.range_log.specs.declared.entries.Lease.{Lease}
use Rattle.range_rules.specs.Added.{added_to}
use Rattle.range_rules.specs.Holding.{Names}
use Rattle.range_rules.specs.Resolves.{HasIntentOf}
use Rattle.range_server.proofs.LogLemmas.{added_is, applied_all}
use Rattle.range_server.proofs.OutcomeLemmas.{by_holder}
use Rattle.range_server.proofs.StepLemmas.{beside_whole, no_step}
use Rattle.range_server.specs.Refusals.{CanAppend, IsRefusal}
use Rattle.range_server.specs.Resolves.{AreResolved, IsResolveOf}
use Rattle.range_server.specs.Resolving.{AreResolvedTo, IsResolvedAt}
use Rattle.range_server.specs.Scene.{IsBeside, applied_by, scene}
use Rattle.range_server.specs.Steps.{IsStep}
use Rattle.range_server.specs.declared.standing.Moment.{Moment}
use Rattle.range_server.specs.declared.standing.Standing.{Standing}

-- a resolve leaves no intent of the attempt at its key, and adds none
gone : (a : AttemptId) (key : List ℕ) (fate : Fate) (entries : List Entry) → ¬ HasIntentOf a key (log.Resolve a key fate ∷ entries)
gone a key fate entries (i, h, of) = h.1 refl (sym of)

still : (a : AttemptId) (at key : List ℕ) (fate : Fate) (entries : List Entry) → ¬ HasIntentOf a key entries → ¬ HasIntentOf a key (log.Resolve a at fate ∷ entries)
still a at key fate entries absent (i, h, of) = absent (i, h.0, of)

module _ (a : AttemptId) (keys : List (List ℕ)) (fate : Fate) where
  -- none is resolved yet
  pub resolved_none : (before : LogValue) (old : Standing) → Follows old.replica before.entries → AreResolvedTo a keys 0 fate before before old old
  resolved_none before old follows =
      let empty : added_to before.entries before.entries ≡ [] = added_is [] before.entries in
      record {
        grown = rw empty;
        licensed = rw empty tt;
        none = All-nil (λ k. ¬ HasIntentOf a k before.entries);
        last = refl;
        voters = refl;
        follows = follows;
        kept = refl;
      }

  -- one key more
  pub resolved_more : (n : ℕ) (key : List ℕ) (before mid after : LogValue) (old t new : Standing) → n < length keys → key ≡ get_or keys n key
      → AreResolvedTo a keys n fate before mid old t → IsResolvedAt a key fate mid after t new → AreResolvedTo a keys (n + 1) fate before after old new
  resolved_more n key before mid after old t new within is h (inl (absent, same, here)) =
      let none : All (λ k. ¬ HasIntentOf a k mid.entries) (take (n + 1) keys)
      = All-more (λ k. ¬ HasIntentOf a k mid.entries) keys n key within h.none (subst (λ (k : List ℕ). ¬ HasIntentOf a k mid.entries) is absent) in
      let at_mid : AreResolvedTo a keys (n + 1) fate before mid old t
      = record { grown = h.grown; licensed = h.licensed; none = none; last = h.last; voters = h.voters; follows = h.follows; kept = h.kept } in
      subst (λ (x : LogValue). AreResolvedTo a keys (n + 1) fate before x old new) (sym same)
      (subst (λ (x : Standing). AreResolvedTo a keys (n + 1) fate before mid old x) (sym here) at_mid)
  resolved_more n key before mid after old t new within is h (inr (stands, ap_)) =
      let resolve = log.Resolve a key fate in
      let grown : after.entries ≡ (resolve ∷ added_to before.entries mid.entries) ++ before.entries
      = ap_.entries ∙ ap (λ (x : List Entry). resolve ∷ x) h.grown in
      let added : added_to before.entries after.entries ≡ resolve ∷ added_to before.entries mid.entries
      = ap (λ (x : List Entry). added_to before.entries x) grown ∙ added_is (resolve ∷ added_to before.entries mid.entries) before.entries in
      let stands_there : HasIntentOf a key (added_to before.entries mid.entries ++ before.entries)
      = subst (λ (x : List Entry). HasIntentOf a key x) h.grown stands in
      let there : Contains keys key = subst (λ (k : List ℕ). Contains keys k) (sym is) (Contains-get_or keys n key within) in
      let earlier : All (λ k. ¬ HasIntentOf a k (resolve ∷ mid.entries)) (take n keys)
      = All-weaker (λ k. ¬ HasIntentOf a k mid.entries) (λ k. ¬ HasIntentOf a k (resolve ∷ mid.entries)) (λ k absent. still a key k fate mid.entries absent) (take n keys) h.none in
      let none : All (λ k. ¬ HasIntentOf a k (resolve ∷ mid.entries)) (take (n + 1) keys)
      = All-more (λ k. ¬ HasIntentOf a k (resolve ∷ mid.entries)) keys n key within earlier
      (subst (λ (k : List ℕ). ¬ HasIntentOf a k (resolve ∷ mid.entries)) is (gone a key fate mid.entries)) in
      record {
        grown = rw added grown;
        licensed = rw added ((refl, there, refl, stands_there), h.licensed);
        none = subst (λ (x : List Entry). All (λ k. ¬ HasIntentOf a k x) (take (n + 1) keys)) (sym ap_.entries) none;
        last = ap lease_of ap_.entries ∙ h.last;
        voters = ap_.voters ∙ h.voters;
        follows = subst (λ (x : List Entry). Follows new.replica x) (sym ap_.entries) ap_.follows;
        kept = ap_.kept ∙ ap (λ (x : Standing). record x { replica = new.replica }) h.kept;
      }

module _ (s : Standing) (old : LogValue) (now : Moment) (lease : Lease) (has : lease_of (applied_by s old.entries) ≡ Some lease)
    (beside : IsBeside s old.entries) (a : AttemptId) (keys : List (List ℕ)) (fate : Fate) where
  abbrev Resolved : LogValue → Standing → Type 0
  Resolved after new = IsStep (AreResolved (scene s old now) a keys after.entries) (IsResolveOf a keys fate) old after s new

  -- nothing is resolved where nothing can be appended
  none_done : ¬ CanAppend (scene s old now) → Resolved old s
  none_done cannot = no_step _ _ _ _ (record { resolved = λ can. absurd (cannot can); refused = λ _. refl; held = tt }) beside

  same_lease : (can : CanAppend (scene s old now)) → can.lease ≡ lease
  same_lease can = let e : Some can.lease ≡ Some lease = sym can.holds.has ∙ has in cc

  pub resolve_unnamed : ¬ Names lease s.node s.boot → Resolved old s
  resolve_unnamed n = none_done (λ can. n (subst (λ (l : Lease). Names l s.node s.boot) (same_lease can) can.holds.names))

  pub resolve_refused : (said : Reply) → IsRefusal lease now.running old (Some said) → Resolved old s
  resolve_refused said (inl (other, e)) = none_done (λ can. other (can.holds.last ∙ ap (λ (l : Lease). Some l) (same_lease can)))
  resolve_refused said (inr (last, minority, e)) = none_done (λ can. let both : true ≡ false = sym can.majority ∙ minority in cc)

  pub resolve_done : (after : LogValue) (new : Standing) → Names lease s.node s.boot → IsRefusal lease now.running old None
      → AreResolvedTo a keys (length keys) fate old after s new → Resolved after new
  resolve_done after new n can h =
      let append : CanAppend (scene s old now)
      = record { lease = lease; holds = record { has = has; last = can.0; names = n }; majority = can.1 } in
      record {
        added = added_to old.entries after.entries;
        grown = h.grown;
        gives = record {
          resolved = λ _. subst (λ (ks : List (List ℕ)). All (λ key. ¬ HasIntentOf a key after.entries) ks) (take-length keys) h.none;
          refused = λ cannot. absurd (cannot append);
          held = by_holder (scene s old now) append (added_to old.entries after.entries);
        };
        licensed = h.licensed;
        voters = h.voters;
        kept = h.kept;
        beside = beside_whole new after.entries h.follows;
        applied = applied_all (added_to old.entries after.entries) old.entries after.entries s.replica.applied new.replica.applied h.grown
            (subst (λ (x : List Entry). Follows s.replica x) (beside.whole lease append.holds) beside.follows).count h.follows.count;
      }
