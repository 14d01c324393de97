-- How many entries of a log were applied, and what one more makes of them.
use Rattle.std.proofs.Common.{◌≡◌, ◌-◌, ◌+◌, ◌<◌, ◌≤◌, ◌∙◌, ◌++◌, ℕ, suc, List, [], ◌∷◌, Some, length, get_or, drop, refl, sym, ap, arith, slice_get, length-drop, length-append}
use Rattle.std.proofs.Math.Seq.{drop-cons, take-append_seam}
use Rattle.std.proofs.lemmas.Option.{get_or_from_slice_get}
use Rattle.mvcc_range.specs.Follows.{Follows}
use Rattle.range_log.specs.Facts.{first_entries}
use Rattle.range_log.specs.declared.entries.Entry.{Entry}
use Rattle.range_log.specs.declared.entries.Entry.TheVariants as log
use Rattle.range_rules.specs.Added.{added_to}
use Rattle.range_server.specs.Applying.{applied_past, seen_after}
use Rattle.range_server.specs.Scene.{applied_by}
use Rattle.range_server.specs.declared.standing.Standing.{Standing}
use Rattle.mr_base.specs.declared.ids.NodeId.{NodeId}
use Rattle.ts_cache.specs.Value.{CacheValue}

-- what a log grew by is what stands in front
pub added_is : (added before : List Entry) → added_to before (added ++ before) ≡ added
added_is added before =
    let n : length (added ++ before) - length before ≡ length added = omega (arith, length-append added before) in
    rw n (take-append_seam added before)

-- no more was applied than there is
pub applied_within : (s : Standing) (entries : List Entry) → Follows s.replica (applied_by s entries) → s.replica.applied ≤ length entries
applied_within s entries f = omega (arith, f.count, length-drop (length entries - s.replica.applied) entries)

pub length_first : (n : ℕ) (entries : List Entry) → n ≤ length entries → length (first_entries n entries) ≡ n
length_first n entries h = omega (arith, length-drop (length entries - n) entries)

-- the first entries and the next
pub first_next : (entries : List Entry) (n : ℕ) (e : Entry) → n < length entries → slice_get entries (length entries - (n + 1)) ≡ Some e
    → first_entries (n + 1) entries ≡ e ∷ first_entries n entries
first_next entries n e h g =
    let k = length entries - (n + 1) in
    let at : get_or entries k e ≡ e = get_or_from_slice_get entries k e e g in
    let next : suc k ≡ length entries - n = omega arith in
    let front : drop k entries ≡ get_or entries k e ∷ drop (suc k) entries = drop-cons entries k e (omega arith) in
    front ∙ rw (at, next)

-- an entry in front changes nothing of the first ones
pub first_behind : (n : ℕ) (e : Entry) (entries : List Entry) → n ≤ length entries → first_entries n (e ∷ entries) ≡ first_entries n entries
first_behind n e entries h =
    let more : suc (length entries) - n ≡ suc (length entries - n) = omega arith in
    rw more

-- an entry more behind what was added
pub added_more : (before after : List Entry) (e : Entry) → length before ≤ length after → added_to before (e ∷ after) ≡ e ∷ added_to before after
added_more before after e h =
    let more : suc (length after) - length before ≡ suc (length after - length before) = omega arith in
    rw more

-- what the entries begin and the next one is what they all begin
pub seen_more : (node : NodeId) (boot : ℕ) (e : Entry) (added : List Entry) (seen : CacheValue)
    → seen_after node boot (e ∷ []) (seen_after node boot added seen) ≡ seen_after node boot (e ∷ added) seen
seen_more node boot (log.Lease lease) added seen = refl
seen_more node boot (log.Put a start anchor ts key value) added seen = refl
seen_more node boot (log.Resolve a key fate) added seen = refl
seen_more node boot (log.State a state) added seen = refl
seen_more node boot (log.Close ts) added seen = refl
seen_more node boot (log.Load ts key value) added seen = refl

pub added_from : (added before after : List Entry) → after ≡ added ++ before → added_to before after ≡ added
added_from added before after e = ap (λ (x : List Entry). added_to before x) e ∙ added_is added before

-- who had applied all and has applied all has applied what was added
pub applied_all : (added before after : List Entry) (old new : ℕ) → after ≡ added ++ before → old ≡ length before → new ≡ length after
    → new ≡ applied_past added old after
applied_all [] before after old new grown all more = more ∙ ap length grown ∙ sym all
applied_all (e ∷ added) before after old new grown all more = more
