-- A database and a table for each form.
use Rattle.std.proofs.Common.{◌≡◌, ◌≢◌, ℕ, Bool, true, false, true≢false, List, [], ◌∷◌, Option, None, Some, Contains, IsUtf8, codes, length, slice_get, refl, ap, sym, ◌∙◌, arith, inl, inr}
use Rattle.std.proofs.lemmas.List.Elements.{All-cons, All-nil}
use Rattle.std.proofs.lemmas.Option.{slice_get_read}
use Rattle.region_sql.specs.declared.region_statements.ColumnType.TheVariants.{Int}
use Rattle.region_sql.specs.declared.region_statements.Goal.{Goal}
use Rattle.region_sql.specs.declared.region_statements.Goal.TheVariants.{Zone}
use Rattle.region_sql.specs.declared.region_statements.Locality.{Locality}
use Rattle.region_sql.specs.declared.region_statements.Locality.TheVariants as localities
use Rattle.descriptors.specs.declared.database.Database.{Database}
use Rattle.descriptors.specs.declared.table.Table.{Table}
use Rattle.descriptors.specs.Sound.{FitsRegions, IsSoundDatabase, IsSoundIn}
use Rattle.zone_compile.specs.declared.config.ZoneConfig.{ZoneConfig}
use Rattle.zone_compile.specs.Configuration.{HasForm, IsAtHome, configuration_at, kept_at, spread_over, without_regions}
use Rattle.zone_compile.specs.Laws.{FormsAreOfTables, IsOfTable}
use Rattle.zone_compile.proofs.OneColumn.{name_is_text, one_column_is_sound, one_pairs}
use Rattle.zone_compile.proofs.Forms.{has_form}

-- The table t (id INT PRIMARY KEY) of the database d.
abbrev table_of : Option Locality → Table
table_of locality = record { name = codes "t"; database = codes "d"; columns = (codes "id", Int) ∷ []; key = 0 ∷ []; unique = []; locality = locality }

abbrev database_of : List (List ℕ) → Option ℕ → Goal → Bool → Database
database_of regions primary goal restricted = record { name = codes "d"; regions = regions; primary = primary; goal = goal; restricted = restricted }

sound_in : (regions : List (List ℕ)) (primary : Option ℕ) (goal : Goal) (restricted : Bool) (locality : Option Locality) → FitsRegions regions locality → IsSoundIn (database_of regions primary goal restricted) (table_of locality)
sound_in regions primary goal restricted locality fits = record { table = one_column_is_sound (table_of locality) refl refl refl refl; database = refl; locality = fits }

-- A database without regions.
bare_is_sound : IsSoundDatabase (database_of [] None Zone false)
bare_is_sound = record {
  name = name_is_text;
  regions = All-nil IsUtf8;
  few = omega arith;
  distinct = λ i j d low high. absurd (omega arith);
  primary = refl;
  enough = λ e. absurd (cc);
  restricted = λ e. absurd (true≢false (sym e));
}

without_regions_of : (c : ZoneConfig) → c ≡ without_regions → IsOfTable c
without_regions_of c e = record {
  database = database_of [] None Zone false;
  table = table_of None;
  partition = None;
  sound_database = bare_is_sound;
  sound_table = sound_in [] None Zone false None refl;
  is_partition = refl;
  same = e;
}

-- A restricted database of one region.
restricted_is_sound : (home : List ℕ) → IsUtf8 home → IsSoundDatabase (database_of (home ∷ []) (Some 0) Zone true)
restricted_is_sound home text = record {
  name = name_is_text;
  regions = All-cons IsUtf8 home [] text (All-nil IsUtf8);
  few = omega arith;
  distinct = one_pairs (λ x y. x ≢ y) home;
  primary = omega arith;
  enough = λ e. absurd (cc);
  restricted = λ _. ((λ e. cc), refl);
}

kept_at_of : (c : ZoneConfig) (home : List ℕ) → IsUtf8 home → c ≡ kept_at home → IsOfTable c
kept_at_of c home text e = record {
  database = database_of (home ∷ []) (Some 0) Zone true;
  table = table_of (Some localities.InPrimary);
  partition = None;
  sound_database = restricted_is_sound home text;
  sound_table = sound_in (home ∷ []) (Some 0) Zone true (Some localities.InPrimary) (λ none. cc);
  is_partition = refl;
  same = e;
}

-- A database with its home as its primary region.
spread_is_sound : (goal : Goal) (regions : List (List ℕ)) (home : List ℕ) → (at : IsAtHome goal regions home) → IsSoundDatabase (database_of regions (Some at.at_home.0) goal false)
spread_is_sound goal regions home at = record {
  name = name_is_text;
  regions = at.text;
  few = at.few;
  distinct = at.distinct;
  primary = at.at_home.1;
  enough = at.enough;
  restricted = λ e. absurd (true≢false (sym e));
}

some_regions : (regions : List (List ℕ)) (home : List ℕ) → Contains regions home → regions ≢ []
some_regions regions home there e = let size : length regions ≡ 0 = ap length e in omega (arith, there.1)

spread_over_of : (c : ZoneConfig) (goal : Goal) (regions : List (List ℕ)) (home : List ℕ) (global : Bool) → IsAtHome goal regions home → c ≡ spread_over goal regions home global → IsOfTable c
spread_over_of c goal regions home true at e =
    let d = database_of regions (Some at.at_home.0) goal false in
    let here : slice_get regions at.at_home.0 ≡ Some home = slice_get_read regions (length regions) at.at_home.0 home refl at.at_home.1 (sym at.at_home.2) in
    record {
      database = d;
      table = table_of (Some localities.Global);
      partition = None;
      sound_database = spread_is_sound goal regions home at;
      sound_table = sound_in regions (Some at.at_home.0) goal false (Some localities.Global) (some_regions regions home at.at_home);
      is_partition = refl;
      same = e ∙ ap (configuration_at d true) (sym here);
    }
spread_over_of c goal regions home false at e =
    let d = database_of regions (Some at.at_home.0) goal false in
    let here : slice_get regions at.at_home.0 ≡ Some home = slice_get_read regions (length regions) at.at_home.0 home refl at.at_home.1 (sym at.at_home.2) in
    record {
      database = d;
      table = table_of (Some localities.InPrimary);
      partition = None;
      sound_database = spread_is_sound goal regions home at;
      sound_table = sound_in regions (Some at.at_home.0) goal false (Some localities.InPrimary) (some_regions regions home at.at_home);
      is_partition = refl;
      same = e ∙ ap (configuration_at d false) (sym here);
    }

form_is_of_table : (c : ZoneConfig) → HasForm c → IsOfTable c
form_is_of_table c (inl e) = without_regions_of c e
form_is_of_table c (inr (inl h)) = kept_at_of c h.0 h.1 h.2
form_is_of_table c (inr (inr h)) = spread_over_of c h.0 h.1 h.2 h.3 h.4 h.5

of_table_has_form : (c : ZoneConfig) → IsOfTable c → HasForm c
of_table_has_form c h = rw h.same (has_form h.database h.table.locality h.partition h.sound_database h.sound_table.locality h.is_partition)

pub forms_are_of_tables : FormsAreOfTables
forms_are_of_tables c = (form_is_of_table c, of_table_has_form c)
