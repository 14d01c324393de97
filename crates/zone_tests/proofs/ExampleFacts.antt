-- The database and the table of the tests are sound.
use Rattle.std.proofs.Common.{◌≢◌, zero, suc, [], ◌∷◌, Option, None, Some, codes, refl, sym, ◌∙◌, arith}
use Rattle.std.specs.Prelude.{All, AllPairs, IsUtf8}
use Rattle.std.proofs.lemmas.List.Elements.{All-cons, All-nil}
use Rattle.region_sql.specs.declared.region_statements.Locality.{Locality}
use Rattle.region_sql.specs.declared.region_statements.Locality.TheVariants.{InPrimary, InRegion, ByRow, Global}
use Rattle.descriptors.specs.declared.database.Database.{Database}
use Rattle.descriptors.specs.declared.table.Table.{Table}
use Rattle.descriptors.specs.Sound.{AreDistinct, FitsRegions, IsSoundDatabase, IsSoundIn}
use Rattle.zone_compile.specs.Configuration.{IsPartitionOf}
use Rattle.zone_compile.proofs.OneColumn.{differ, one_column_is_sound, text_of}
use Rattle.zone_tests.specs.Examples.{HasExampleLocality, IsExample, IsExampleTable, example_regions}

three_pairs : {A : Type 0} (R : A → A → Type 0) (a b c : A) → R a b → R a c → R b c → AllPairs R (a ∷ b ∷ c ∷ [])
three_pairs R a b c p q r i zero d low high = absurd (omega arith)
three_pairs R a b c p q r zero (suc zero) d low high = p
three_pairs R a b c p q r (suc i) (suc zero) d low high = absurd (omega arith)
three_pairs R a b c p q r zero (suc (suc zero)) d low high = q
three_pairs R a b c p q r (suc zero) (suc (suc zero)) d low high = r
three_pairs R a b c p q r (suc (suc i)) (suc (suc zero)) d low high = absurd (omega arith)
three_pairs R a b c p q r i (suc (suc (suc j))) d low high = absurd (omega arith)

three_texts : All IsUtf8 example_regions
three_texts =
    All-cons IsUtf8 (codes "us-east") (codes "us-west" ∷ codes "eu-west" ∷ []) (text_of (codes "us-east") refl)
    (All-cons IsUtf8 (codes "us-west") (codes "eu-west" ∷ []) (text_of (codes "us-west") refl)
    (All-cons IsUtf8 (codes "eu-west") [] (text_of (codes "eu-west") refl) (All-nil IsUtf8)))

three_distinct : AreDistinct example_regions
three_distinct = three_pairs (λ x y. x ≢ y) (codes "us-east") (codes "us-west") (codes "eu-west")
    (differ (codes "us-east") (codes "us-west") refl) (differ (codes "us-east") (codes "eu-west") refl) (differ (codes "us-west") (codes "eu-west") refl)

pub example_is_sound : (d : Database) → IsExample d → IsSoundDatabase d
example_is_sound d e = record {
  name = rw e.name (text_of (codes "d") refl);
  regions = rw e.regions three_texts;
  few = rw e.regions (omega arith);
  distinct = rw e.regions three_distinct;
  primary = rw (e.regions, e.primary) (omega arith);
  enough = λ _. rw e.regions (omega arith);
  restricted = λ r. (rw e.regions (λ none. cc), e.restricted r);
}

fits : (l : Option Locality) → HasExampleLocality l → FitsRegions example_regions l
fits None h = absurd h
fits (Some InPrimary) h = λ none. cc
fits (Some Global) h = λ none. cc
fits (Some (InRegion region)) h = absurd h
fits (Some ByRow) h = absurd h

pub unparted : (d : Database) (l : Option Locality) → HasExampleLocality l → IsPartitionOf d l None
unparted d None h = absurd h
unparted d (Some InPrimary) h = refl
unparted d (Some Global) h = refl
unparted d (Some (InRegion region)) h = absurd h
unparted d (Some ByRow) h = absurd h

pub example_table_is_sound : (d : Database) (t : Table) → IsExample d → IsExampleTable t → IsSoundIn d t
example_table_is_sound d t e f = record {
  table = one_column_is_sound t f.name f.columns f.key f.unique;
  database = f.database ∙ sym e.name;
  locality = rw e.regions (fits t.locality f.locality);
}

pub t_is_text : IsUtf8 (codes "t")
t_is_text = text_of (codes "t") refl
