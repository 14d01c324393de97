use Rattle.std.specs.Prelude.{◌≡◌, ℕ, Bool, true, false, ◌||◌, List, [], ◌∷◌, fold, Option, Some, None}
use Rattle.std.specs.Ordering.{nat_cmp, match_ordering}
use Rattle.std.specs.Cmp.Lexicographic.{slice_cmp}
use Rattle.std.specs.declared.cmp.Ordering.TheVariants.{Less, Equal, Greater}
use Rattle.std.proofs.Common.{refl, ap, ◌∙◌}
use Rattle.serde_json.specs.Data.{Data, number, unsigned, array, object, Members, no_members, member, put}
use Rattle.serde_json.specs.Written.{compact_text, has_float, members_have_float}
use Rattle.zone_compile.specs.declared.config.ZoneConfig.{ZoneConfig}
use Rattle.zone_compile.specs.Json.{counts_object, config_data, text_or_null, texts}
use Rattle.zone_compile.specs.JsonMembers.{all_members}

neither : (a b : Bool) → (a || b) ≡ false → (a ≡ false) × (b ≡ false)
neither true b h = cc
neither false b h = (refl, h)

both : (a b : Bool) → a ≡ false → b ≡ false → (a || b) ≡ false
both true b h k = h
both false b h k = k

-- a count put into members without floats leaves them without floats
float_free_put : (k : List ℕ) (n : ℕ) (ms : Members) → members_have_float ms ≡ false → members_have_float (put k (number (unsigned n)) ms) ≡ false
float_free_put k n no_members h = refl
float_free_put k n (member l e ms) h =
    let parts = neither (has_float e) (members_have_float ms) h in
    elim (slice_cmp nat_cmp k l) as (λ o. members_have_float (match_ordering o (member k (number (unsigned n)) (member l e ms)) (member l (number (unsigned n)) ms) (member l e (put k (number (unsigned n)) ms))) ≡ false)
    [ Less ↦ h | Equal ↦ parts.1 | Greater ↦ both (has_float e) _ parts.0 (float_free_put k n ms parts.1) ]

float_free_from : (ms : Members) (counts : List (List ℕ × ℕ)) → members_have_float ms ≡ false → members_have_float (fold (λ members c. put c.0 (number (unsigned c.1)) members) ms counts) ≡ false
float_free_from ms [] h = h
float_free_from ms (c ∷ counts) h = float_free_from (put c.0 (number (unsigned c.1)) ms) counts (float_free_put c.0 c.1 ms h)

float_free_counts : (counts : List (List ℕ × ℕ)) → has_float (counts_object counts) ≡ false
float_free_counts counts = float_free_from no_members counts refl

float_free_option : (text : Option (List ℕ)) → has_float (text_or_null text) ≡ false
float_free_option None = refl
float_free_option (Some text) = refl

float_free_texts : (text : Option (List ℕ)) → has_float (array (texts text)) ≡ false
float_free_texts None = refl
float_free_texts (Some text) = refl

-- a configuration has no floats
pub float_free : (c : ZoneConfig) (range : ℕ) (table : List ℕ) (partition : Option (List ℕ)) → has_float (config_data c range table partition) ≡ false
float_free c range table partition =
    both (has_float (counts_object c.constraints)) _ (float_free_counts c.constraints)
    (both (has_float (array (texts c.lease))) _ (float_free_texts c.lease)
    (both (has_float (text_or_null partition)) _ (float_free_option partition)
    (both (has_float (counts_object c.voter_constraints)) false (float_free_counts c.voter_constraints) refl)))

-- the members stand in the order of their keys
pub all_in_order : (c : ZoneConfig) (range : ℕ) (table : List ℕ) (partition : Option (List ℕ)) → object (all_members c range table partition) ≡ config_data c range table partition
all_in_order c range table partition = refl

-- a text that is that of a value without floats
pub text_of_same : (v want : Data) (text : List ℕ) → v ≡ want → has_float want ≡ false → (has_float v ≡ false → text ≡ compact_text v) → text ≡ compact_text want
text_of_same v want text e free h = h (ap has_float e ∙ free) ∙ ap compact_text e
