-- The newest version of a key, and the least intent of a span.
use Rattle.std.proofs.Common.{◌≡◌, ◌≢◌, ℕ, true, false, List, [], Option, None, Some, is_some, refl, sym, subst, ap, ◌∙◌}
use Rattle.mr_base.specs.Timestamps.{IsBelow}
use Rattle.mr_base.specs.declared.ids.AttemptId.{AttemptId}
use Rattle.mr_base.specs.declared.spans.Span.{Span}
use Rattle.mr_base.specs.declared.timestamps.Ts.{Ts}
use Rattle.mvcc_range.proofs.IntentLemmas.{IsTheIntent, intent_told}
use Rattle.mvcc_range.proofs.KeyOrder.{AreKeysOf}
use Rattle.mvcc_range.proofs.LeastWalk as least
use Rattle.mvcc_range.proofs.ReadWalk.{nothing_stands}
use Rattle.mvcc_range.proofs.SeenLemmas.{version_known, version_there}
use Rattle.mvcc_range.proofs.TsLemmas.{least_same, not_itself}
use Rattle.mvcc_range.proofs.VersionLemmas.{version_of}
use Rattle.mvcc_range.specs.Answer.{Read}
use Rattle.mvcc_range.specs.Follows.{intent_at}
use Rattle.mvcc_range.specs.KeyFacts.{IsGreatestOf, kept_at, nothing, version_at}
use Rattle.mvcc_range.specs.KeyValue.{KeyValue}
use Rattle.mvcc_range.specs.KeyView.{IsLeast, Stands, laid_of}
use Rattle.mvcc_range.specs.Lookups.{IsLowestIntent, IsNewestTs, IsOthersTs, IsVersionTs}
use Rattle.mvcc_range.specs.Walks.{AllStand, IsOthersAt}
use Rattle.mvcc_range.specs.declared.key_state.KeptIntent.{KeptIntent}
use Rattle.range_log.specs.Facts.{Laid}
use Rattle.range_log.specs.declared.entries.Entry.{Entry}

module _ (entries : List Entry) (read : Read) (key : List ℕ) (s : KeyValue) (st : Stands entries key s) where
  known : (ts : Ts) → IsVersionTs entries key ts → is_some (version_at ts s) ≡ true
  known ts v = subst (λ (t : Ts). is_some (version_at t s) ≡ true) v.3 (ap is_some (version_known entries read key s st v.0 v.1 v.2))

  newest_from : (answer : Option Ts) → IsGreatestOf s answer → IsNewestTs entries key answer
  newest_from None is = λ ts v. let no : false ≡ true = sym (ap is_some (is ts)) ∙ known ts v in cc
  newest_from (Some ts) is = (there (version_at ts s) refl is.0, λ other v. is.1 other (known other v))
    where
      there : (o : Option (Option (List ℕ))) → version_at ts s ≡ o → is_some (version_at ts s) ≡ true → IsVersionTs entries key ts
      there None e some = let no : false ≡ true = sym (ap is_some e) ∙ some in cc
      there (Some value) e some = (version_of key ts value, version_there entries read key s st ts value e, refl, refl)

-- a read that is of no matter here
no_read : Read
no_read = record {
  attempt = record { 0 = 0 };
  span = record { lo = []; hi = [] };
  at = record { wall = 0; logical = 0; owner = 0 };
  limit = None;
  known = [];
}

pub newest_of : (entries : List Entry) (key : List ℕ) (s : KeyValue) (answer : Option Ts) → Stands entries key s → IsGreatestOf s answer → IsNewestTs entries key answer
newest_of entries key s answer st is = newest_from entries no_read key s st answer is

pub newest_none : (entries : List Entry) (keys : List (List ℕ × KeyValue)) (key : List ℕ) → AllStand entries keys → kept_at key keys ≡ None → IsNewestTs entries key None
newest_none entries keys key stand none = newest_from entries no_read key nothing (nothing_stands entries keys key stand none) None (λ q. refl)

-- the intent at a key, where it is another's
module _ (entries : List Entry) (reader : AttemptId) (key : List ℕ) where
  pub others_none : None ≡ intent_at key entries → (ts : Ts) → ¬ IsOthersAt entries reader key ts
  others_none is ts o = subst (λ (x : Option KeptIntent). IsTheIntent entries key x) (sym is) (intent_told key entries) o.0 o.1

  module _ (k : KeptIntent) (is : Some k ≡ intent_at key entries) where
    there : IsTheIntent entries key (Some k)
    there = subst (λ (x : Option KeptIntent). IsTheIntent entries key x) (sym is) (intent_told key entries)

    pub others_own : k.intent.attempt ≡ reader → (ts : Ts) → ¬ IsOthersAt entries reader key ts
    others_own own ts o = o.2 (ap (λ (l : Laid). l.attempt) (there.1 o.0 o.1) ∙ own)

    pub others_there : k.intent.attempt ≢ reader → IsLeast (IsOthersAt entries reader key) (Some k.intent.ts)
    others_there n = ((laid_of k, there.0, n, refl), λ other o l. not_itself k.intent.ts (subst (λ (t : Ts). IsBelow t k.intent.ts) (sym o.3 ∙ ap (λ (i : Laid). i.ts) (there.1 o.0 o.1)) l))

pub lowest_walked : (entries : List Entry) (keys : List (List ℕ × KeyValue)) (span : Span) (reader : AttemptId) (ks : List (List ℕ)) (answer : Option Ts) → AllStand entries keys → AreKeysOf keys span ks →
    least.LeastFrom (IsOthersAt entries reader) span None ks answer → IsLowestIntent entries span reader answer
lowest_walked entries keys span reader ks answer stand are from =
    told answer (least.least_walked (IsOthersAt entries reader) span None ks answer are.inside
    (least.at_first (IsOthersAt entries reader) span keys ks are (λ q none t o. others_none entries reader q (nothing_stands entries keys q stand none).intent t o)) from)
  where
    to : (t : Ts) → least.InAll (IsOthersAt entries reader) span t → IsOthersTs entries span reader t
    to t (q, i, o) = (q, o.0, i, o.1, o.2, o.3)

    back : (t : Ts) → IsOthersTs entries span reader t → least.InAll (IsOthersAt entries reader) span t
    back t o = (o.0, o.2, (o.1, o.3, o.4, o.5))

    told : (a : Option Ts) → IsLeast (least.InAll (IsOthersAt entries reader) span) a → IsLowestIntent entries span reader a
    told a is = least_same (least.InAll (IsOthersAt entries reader) span) (IsOthersTs entries span reader) a to back is
