use Rattle.std.specs.Prelude.{◌≡◌, ◌≢◌, ℕ, ◌<◌, List, [], Contains, IsUtf8, length, Option, Some, None, option_and_then, slice_get, slice_index_or, Bool, true, false, ◌&&◌, not, if◌then◌else◌}
use Rattle.std.proofs.Common.{refl, inl, inr, arith, subst}
use Rattle.std.proofs.lemmas.Option.{slice_get_cases}
use Rattle.std.proofs.lemmas.List.Elements.{All-cons, All-contains, All-map, All-nil}
use Rattle.region_sql.specs.declared.region_statements.Goal.{Goal}
use Rattle.region_sql.specs.declared.region_statements.Goal.TheVariants.{Zone, Region}
use Rattle.region_sql.specs.declared.region_statements.Locality.{Locality}
use Rattle.region_sql.specs.declared.region_statements.Locality.TheVariants as localities
use Rattle.descriptors.specs.declared.database.Database.{Database}
use Rattle.descriptors.specs.Sound.{IsSoundDatabase, IsPrimaryOf, FitsRegions}
use Rattle.zone_compile.specs.declared.config.ZoneConfig.{ZoneConfig}
use Rattle.zone_compile.specs.Configuration.{HasForm, IsAtHome, NamesTexts, IsPartitionOf, configuration, configuration_at, kept_at, spread_over}

-- a place within a list has an item of it
item_at : {X : Type 0} (xs : List X) (k : ℕ) → k < length xs → (x : X) × (slice_get xs k ≡ Some x) × Contains xs x
item_at xs k h = elim (slice_get_cases xs k).1 [ inl p ↦ (p.0, p.2, (k, p.1, p.3)) | inr q ↦ absurd (omega arith) ]

-- a region of a sound database as home gives a form
form_at : (d : Database) (global : Bool) (home : List ℕ) → IsSoundDatabase d → Contains d.regions home → HasForm (configuration_at d global (Some home))
form_at d global home s h =
    elim (d.restricted && not global) as (λ b. HasForm (if b then kept_at home else spread_over d.goal d.regions home global)) [
      | true ↦ inr (inl (home, All-contains IsUtf8 d.regions home s.regions h, refl))
      | false ↦ inr (inr (d.goal, d.regions, home, global, record { text = s.regions; few = s.few; distinct = s.distinct; at_home = h; enough = s.enough }, refl))
    ]

form_at_place : (d : Database) (global : Bool) (k : ℕ) → IsSoundDatabase d → k < length d.regions → HasForm (configuration_at d global (slice_get d.regions k))
form_at_place d global k s h =
    let found = item_at d.regions k h in
    rw found.1 (form_at d global found.0 s found.2)

form_at_primary : (d : Database) (global : Bool) (primary : Option ℕ) → IsSoundDatabase d → IsPrimaryOf d.regions primary → d.regions ≢ [] → HasForm (configuration_at d global (option_and_then (slice_get d.regions) primary))
form_at_primary d global None s p some = absurd (some p)
form_at_primary d global (Some k) s p some = form_at_place d global k s p

-- what the table gives for a sound database and a locality of its tables has a form
pub has_form : (d : Database) (locality : Option Locality) (partition : Option ℕ) → IsSoundDatabase d → FitsRegions d.regions locality → IsPartitionOf d locality partition → HasForm (configuration d locality partition)
has_form d None partition s fits part = inl refl
has_form d (Some (localities.InRegion region)) partition s fits part =
    form_at d false region s (fits.0, fits.2, (let P : List ℕ → Type 0 = λ x. slice_index_or d.regions fits.0 x ≡ x in subst P fits.4 fits.3))
has_form d (Some localities.ByRow) None s fits part = absurd part
has_form d (Some localities.ByRow) (Some k) s fits part = form_at_place d false k s part
has_form d (Some localities.InPrimary) partition s fits part = form_at_primary d false d.primary s s.primary fits
has_form d (Some localities.Global) partition s fits part = form_at_primary d true d.primary s s.primary fits

abbrev IsCountedText : (List ℕ × ℕ) → Type 0
IsCountedText count = IsUtf8 count.0

spread_names_texts : (goal : Goal) (regions : List (List ℕ)) (home : List ℕ) (global : Bool) → IsAtHome goal regions home → NamesTexts (spread_over goal regions home global)
spread_names_texts Zone regions home global at = record {
  constraints = All-map IsCountedText (λ r. (r, 1)) regions at.text;
  voter_constraints = All-cons IsCountedText (home, 3) [] (All-contains IsUtf8 regions home at.text at.at_home) (All-nil IsCountedText);
  lease = All-contains IsUtf8 regions home at.text at.at_home;
}
spread_names_texts Region regions home global at = record {
  constraints = All-map IsCountedText (λ r. (r, 1)) regions at.text;
  voter_constraints = All-cons IsCountedText (home, 2) [] (All-contains IsUtf8 regions home at.text at.at_home) (All-nil IsCountedText);
  lease = All-contains IsUtf8 regions home at.text at.at_home;
}

-- the regions of what has a form are texts
pub form_names_texts : (c : ZoneConfig) → HasForm c → NamesTexts c
form_names_texts c (inl e) = rw e (record { constraints = All-nil IsCountedText; voter_constraints = All-nil IsCountedText; lease = tt })
form_names_texts c (inr (inl h)) =
    rw h.2 (record { constraints = All-nil IsCountedText; voter_constraints = All-cons IsCountedText (h.0, 3) [] h.1 (All-nil IsCountedText); lease = h.1 })
form_names_texts c (inr (inr h)) = rw h.5 (spread_names_texts h.0 h.1 h.2 h.3 h.4)
