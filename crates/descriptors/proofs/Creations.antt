use Rattle.std.proofs.Common.{◌≡◌, ◌≢◌, ℕ, zero, suc, ◌<◌, Bool, true, false, cond, not, ◌&&◌, List, [], ◌∷◌, ◌++◌, Option, None, Some, All, AllPairs, IsTrue, IsUtf8, length, find, get_or, refl, ap, sym, ◌∙◌, arith, subst, slice_get, option_and_then, is_some, nat_le, true≢false, unwrap_or}
use Rattle.std.specs.List.{list_all}
use Rattle.std.specs.Option.{option_map_or, option_or}
use Rattle.std.specs.Str.{bytes_eq}
use Rattle.std.proofs.lemmas.Bool.{not-false}
use Rattle.std.proofs.lemmas.List.Elements.{All-cons, All-nil, All-push, All-filter, All-weaker, filter_passes, All-contains}
use Rattle.std.proofs.lemmas.List.Folds.{find-append}
use Rattle.std.proofs.lemmas.List.Kept.{AllPairs-filter, AllPairs-cons}
use Rattle.std.proofs.lemmas.List.Quantifiers.{all_pairs_push}
use Rattle.std.proofs.lemmas.Option.{none-some, same_Some, slice_get_within, get_or_from_slice_get}
use Rattle.region_sql.specs.declared.region_statements.Goal.{Goal}
use Rattle.region_sql.specs.declared.region_statements.Goal.TheVariants as goals
use Rattle.region_sql.specs.declared.region_statements.Item.{Item}
use Rattle.region_sql.specs.declared.region_statements.Locality.{Locality}
use Rattle.region_sql.specs.declared.region_statements.Locality.TheVariants.{InPrimary, InRegion, ByRow, Global}
use Rattle.region_sql.specs.declared.region_statements.RegionStatement.TheVariants.{CreateDatabase, CreateTable, SetLocality}
use Rattle.descriptors.specs.declared.database.Database.{Database}
use Rattle.descriptors.specs.declared.table.Table.{Table}
use Rattle.descriptors.specs.Contents.{Contents, is_database, is_table, database_named, table_named, current_database}
use Rattle.descriptors.specs.Changes.{after, database_made, locality_made, table_made, with_locality, with_table}
use Rattle.descriptors.specs.Columns.{columns_of, make_no_table}
use Rattle.descriptors.specs.Lists.{changed, has_name, has_twice, without}
use Rattle.descriptors.specs.Refusals.{rows_of, of_current, has_regions, misses_locality, regions_made, survives_region, fits}
use Rattle.descriptors.specs.Sound.{AreDistinct, FitsRegions, IsPrimaryOf, IsSoundAmong, IsSoundCatalog, IsSoundDatabase}
use Rattle.descriptors.proofs.Additions.{bytes_differ, bytes_same}
use Rattle.descriptors.proofs.Found.{NoneApplies, and_false, and_true, or_false, there, nowhere, found, none_found, same_bytes, differ_bytes, named, not_named, no_more}
use Rattle.descriptors.proofs.Limits.{limits_relocated, limits_with_one_more, limits_with_table}
use Rattle.descriptors.proofs.Regions.{all_changed, some_regions, enough_regions, survived, named_any, located}
use Rattle.descriptors.proofs.SoundTables.{sound_table}

all_true : {X : Type 0} (p : X → Bool) (xs : List X) → list_all p xs ≡ true → All (λ x. IsTrue (p x)) xs
all_true p [] h = All-nil (λ x. IsTrue (p x))
all_true p (x ∷ xs) h = let both = and_true (p x) (list_all p xs) h in All-cons (λ x. IsTrue (p x)) x xs both.0 (all_true p xs both.1)

-- Names of which none stands twice.
pub distinct_names : (names : List (List ℕ)) → has_twice names ≡ false → AreDistinct names
distinct_names [] h = λ i j d lt within. absurd (omega arith)
distinct_names (n ∷ names) h =
    let parts = or_false (has_name names n) (has_twice names) h in
    AllPairs-cons (λ x y. x ≢ y) n names (λ k d lt. not_named names n parts.0 k d lt) (distinct_names names parts.1)

record IsMade (cluster made : List (List ℕ)) (primary : Option ℕ) : Type 0 where
  inside : All (λ r. IsTrue (has_name cluster r)) made
  distinct : AreDistinct made
  place : IsPrimaryOf made primary

made : (cluster : List (List ℕ)) (primary : Option (List ℕ)) (regions : List (List ℕ)) → (option_map_or (has_name cluster) primary true && list_all (has_name cluster) regions) ≡ true → has_twice regions ≡ false → IsMade cluster (regions_made primary regions) (Rattle.std.specs.Option.option_map (λ _. 0) primary)
made cluster None regions h twice = record { inside = All-nil (λ r. IsTrue (has_name cluster r)); distinct = λ i j d lt within. absurd (omega arith); place = refl }
made cluster (Some p) regions h twice =
    let both = and_true (has_name cluster p) (list_all (has_name cluster) regions) h in
    record {
      inside = All-cons (λ r. IsTrue (has_name cluster r)) p (without p regions) both.0 (All-filter (λ x. not (bytes_eq p x)) (λ r. IsTrue (has_name cluster r)) regions (all_true (has_name cluster) regions both.1));
      distinct = AllPairs-cons (λ x y. x ≢ y) p (without p regions)
          (All-weaker (λ x. not (bytes_eq p x) ≡ true) (λ x. p ≢ x) (λ x e same. true≢false (sym e ∙ ap not (bytes_same p x same))) (without p regions) (filter_passes (λ x. not (bytes_eq p x)) regions))
          (AllPairs-filter (λ x y. x ≢ y) (λ x. not (bytes_eq p x)) regions (distinct_names regions twice));
      place = omega arith;
    }

-- A table among one more database.
among_more : (ds : List Database) (d : Database) (t : Table) → IsSoundAmong ds t → IsSoundAmong (ds ++ d ∷ []) t
among_more ds d t a = (a.0, find-append (is_database t.database) ds (d ∷ []) ∙ ap (λ o. option_or o (find (is_database t.database) (d ∷ []))) a.1, a.2)

pub sound_create_database : (c : Contents) (n : List ℕ) (primary : Option (List ℕ)) (regions : List (List ℕ)) (goal : Option Goal) → IsSoundCatalog c → IsUtf8 n → NoneApplies (rows_of c (CreateDatabase n primary regions goal)) → IsSoundCatalog (after c (CreateDatabase n primary regions goal))
sound_create_database c n primary regions goal sound utf8 passed =
    let m = made c.regions primary regions (not-false (option_map_or (has_name c.regions) primary true && list_all (has_name c.regions) regions) passed.1.1.1.1.0) passed.1.1.1.1.1.0 in
    let d : Database = database_made n primary regions goal in
    let none : All (λ x. is_database n x ≡ false) c.databases = none_found (is_database n) c.databases (nowhere (database_named n c.databases) passed.1.0) in
    record {
      cluster = sound.cluster;
      databases = All-push IsSoundDatabase c.databases d sound.databases (record {
        name = utf8;
        regions = All-weaker (λ r. IsTrue (has_name c.regions r)) IsUtf8 (λ r h. All-contains IsUtf8 c.regions r sound.cluster.names (named c.regions r h)) (regions_made primary regions) m.inside;
        few = omega (arith, no_more (regions_made primary regions) c.regions m.distinct m.inside, sound.cluster.few);
        distinct = m.distinct;
        primary = m.place;
        enough = λ g. enough_regions (length (regions_made primary regions)) (survives_region (unwrap_or goal goals.Zone)) passed.1.1.1.1.1.1.1.1.0 (survived (unwrap_or goal goals.Zone) g);
        restricted = λ h. absurd (true≢false (sym h));
      });
      in_cluster = All-push (λ d. All (λ r. IsTrue (has_name c.regions r)) d.regions) c.databases d sound.in_cluster m.inside;
      names = all_pairs_push (λ d e. d.name ≢ e.name) c.databases d sound.names (λ k e lt same. differ_bytes n (get_or c.databases k e).name (none k e lt) (sym same));
      tables = All-weaker (IsSoundAmong c.databases) (IsSoundAmong (c.databases ++ d ∷ [])) (among_more c.databases d) c.tables sound.tables;
      limits = limits_with_one_more c d sound.limits passed.1.1.1.1.1.1.1.1.1.1.1.0;
    }

-- No table is of a database that isn't there.
pub no_tables_of : (c : Contents) (n : List ℕ) → IsSoundCatalog c → database_named n c.databases ≡ None → All (λ t. bytes_eq n t.database ≡ false) c.tables
no_tables_of c n sound none = All-weaker (IsSoundAmong c.databases) (λ t. bytes_eq n t.database ≡ false)
    (λ t a. bytes_differ n t.database (λ same. none-some a.0 (sym none ∙ ap (λ m. database_named m c.databases) same ∙ a.1))) c.tables sound.tables

-- A database is found by its own name.
own_found : (ds : List Database) → AllPairs (λ d e. d.name ≢ e.name) ds → (k : ℕ) (d : Database) → slice_get ds k ≡ Some d → database_named d.name ds ≡ Some d
own_found [] distinct k d h = absurd (none-some d h)
own_found (x ∷ xs) distinct zero d h =
    let same : x ≡ d = same_Some x d h in
    ap (λ b. cond b (Some x) (find (is_database d.name) xs)) (bytes_same d.name x.name (ap (λ (y : Database). y.name) (sym same))) ∙ ap (λ y. Some y) same
own_found (x ∷ xs) distinct (suc k) d h =
    let lt : k < length xs = slice_get_within xs k d h in
    let at : get_or xs k d ≡ d = get_or_from_slice_get xs k d d h in
    ap (λ b. cond b (Some x) (find (is_database d.name) xs)) (bytes_differ d.name x.name (λ same. distinct 0 (suc k) d (omega arith) (omega arith) (sym same ∙ ap (λ (y : Database). y.name) (sym at))))
    ∙ own_found xs (λ i j e before within. distinct (suc i) (suc j) e (omega arith) (omega arith)) k d h

current_found : (c : Contents) (d : Database) → IsSoundCatalog c → (o : Option ℕ) → option_and_then (slice_get c.databases) o ≡ Some d → database_named d.name c.databases ≡ Some d
current_found c d sound None h = absurd (none-some d h)
current_found c d sound (Some k) h = own_found c.databases sound.names k d h

current_test : (c : Contents) (d : Database) (test : Database → Bool) → current_database c ≡ Some d → of_current c test ≡ false → test d ≡ false
current_test c d test e h = sym (ap (λ o. option_map_or test o false) e) ∙ h

fitting : (rs : List (List ℕ)) (l : Locality) → rs ≢ [] → fits rs l ≡ true → FitsRegions rs (Some l)
fitting rs InPrimary some h = some
fitting rs (InRegion x) some h = named_any rs x h
fitting rs ByRow some h = some
fitting rs Global some h = some

-- A locality that a database with regions doesn't miss.
not_missed : (d : Database) (l : Locality) → IsSoundDatabase d → has_regions d ≡ true → misses_locality l d ≡ false → FitsRegions d.regions (Some l)
not_missed d l ds some h = fitting d.regions l (some_regions d.regions d.primary some ds.primary) (not-false (fits d.regions l) (and_false (has_regions d) (not (fits d.regions l)) h some))

pub sound_set_locality : (c : Contents) (n : List ℕ) (l : Locality) → IsSoundCatalog c → NoneApplies (rows_of c (SetLocality n l)) → IsSoundCatalog (after c (SetLocality n l))
sound_set_locality c n l sound passed =
    let cur = there (current_database c) passed.0 in
    let d = cur.0 in
    let own = current_found c d sound c.current cur.1 in
    let ds = All-contains IsSoundDatabase c.databases d sound.databases (found (is_database d.name) c.databases d own).0 in
    let good : FitsRegions d.regions (Some l) = not_missed d l ds (not-false (has_regions d) (current_test c d (λ d. not (has_regions d)) cur.1 passed.1.1.1.1.1.1.1.1.1.1.0)) (current_test c d (misses_locality l) cur.1 passed.1.1.1.1.1.1.0) in
    subst (λ o. IsSoundCatalog (option_map_or (λ d. record c { tables = changed (is_table d.name n) (with_locality l) c.tables }) o c)) (sym cur.1) (record {
      cluster = sound.cluster;
      databases = sound.databases;
      in_cluster = sound.in_cluster;
      names = sound.names;
      tables = all_changed (IsSoundAmong c.databases) (is_table d.name n) (with_locality l) c.tables sound.tables
          (λ t e. moved d own good t (found (is_table d.name n) c.tables t e).1 (All-contains (IsSoundAmong c.databases) c.tables t sound.tables (found (is_table d.name n) c.tables t e).0));
      limits = limits_relocated c (is_table d.name n) l sound.limits;
    })
  where
    moved : (d : Database) → database_named d.name c.databases ≡ Some d → FitsRegions d.regions (Some l) → (t : Table) → is_table d.name n t ≡ true → IsSoundAmong c.databases t → IsSoundAmong c.databases (with_locality l t)
    moved d own good t is a =
        let home : d.name ≡ t.database = same_bytes d.name t.database (and_true (bytes_eq d.name t.database) (bytes_eq n t.name) is).0 in
        let same : a.0 ≡ d = same_Some a.0 d (sym a.1 ∙ ap (λ m. database_named m c.databases) (sym home) ∙ own) in
        (a.0, a.1, record { table = located t l a.2.table; database = a.2.database; locality = subst (λ (x : Database). FitsRegions x.regions (Some l)) (sym same) good })

fits_made : (d : Database) (l : Option Locality) → IsSoundDatabase d → option_map_or (λ l. misses_locality l d) l false ≡ false → FitsRegions d.regions (locality_made d l)
fits_made d l ds h = by (has_regions d) refl l h
  where
    by : (b : Bool) → has_regions d ≡ b → (l : Option Locality) → option_map_or (λ l. misses_locality l d) l false ≡ false → FitsRegions d.regions (locality_made d l)
    by true e None h = subst (λ b. FitsRegions d.regions (cond b (Some InPrimary) None)) (sym e) (some_regions d.regions d.primary e ds.primary)
    by true e (Some l) h = subst (λ b. FitsRegions d.regions (cond b (Some l) None)) (sym e) (not_missed d l ds e h)
    by false e None h = subst (λ b. FitsRegions d.regions (cond b (Some InPrimary) None)) (sym e) (subst (IsPrimaryOf d.regions) (nowhere d.primary e) ds.primary)
    by false e (Some l) h = subst (λ b. FitsRegions d.regions (cond b (Some l) None)) (sym e) (subst (IsPrimaryOf d.regions) (nowhere d.primary e) ds.primary)

pub sound_create_table : (c : Contents) (n : List ℕ) (items : List Item) (l : Option Locality) → IsSoundCatalog c → IsUtf8 n → All (λ c. IsUtf8 c.0) (columns_of items) → NoneApplies (rows_of c (CreateTable n items l)) → IsSoundCatalog (after c (CreateTable n items l))
sound_create_table c n items l sound utf8 columns passed =
    let cur = there (current_database c) passed.0 in
    let d = cur.0 in
    let own = current_found c d sound c.current cur.1 in
    let ds = All-contains IsSoundDatabase c.databases d sound.databases (found (is_database d.name) c.databases d own).0 in
    subst (λ o. IsSoundCatalog (option_map_or (λ d. with_table c (table_made d n items l)) o c)) (sym cur.1) (record {
      cluster = sound.cluster;
      databases = sound.databases;
      in_cluster = sound.in_cluster;
      names = sound.names;
      tables = All-push (IsSoundAmong c.databases) c.tables (table_made d n items l) sound.tables (
        d,
        own,
        record {
          table = sound_table d n items l utf8 columns (or_false (nat_le 64 (length c.tables)) (make_no_table items) passed.1.1.1.1.1.1.1.1.1.1.1.0).1;
          database = refl;
          locality = fits_made d l ds (current_test c d (λ d. option_map_or (λ l. misses_locality l d) l false) cur.1 passed.1.1.1.1.1.1.0);
        },
      );
      limits = limits_with_table c (table_made d n items l) sound.limits (or_false (nat_le 64 (length c.tables)) (make_no_table items) passed.1.1.1.1.1.1.1.1.1.1.1.0).0
          (nowhere (table_named d.name n c.tables) (ap (λ o. is_some (option_and_then (λ d. table_named d.name n c.tables) o)) (sym cur.1) ∙ passed.1.1.0));
    })
