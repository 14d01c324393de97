use Rattle.std.proofs.Common.{◌≡◌, ◌≢◌, ℕ, zero, suc, ◌+◌, ◌<◌, ◌≤◌, Bool, true, false, cond, not, ◌&&◌, ◌||◌, List, [], ◌∷◌, ◌++◌, Option, None, Some, All, AllPairs, Any, IsTrue, IsUtf8, length, map, find, position, get_or, refl, ap, sym, ◌∙◌, arith, subst, slice_get, option_and_then, is_some, nat_lt, true≢false, inl, inr, ◌⊎◌}
use Rattle.std.specs.List.{list_any, position_from}
use Rattle.std.specs.Option.{option_map_or}
use Rattle.std.specs.Str.{bytes_eq}
use Rattle.std.proofs.lemmas.Bool.{not-false, ltb-false}
use Rattle.std.proofs.lemmas.Iterator.Adapters.{position_from-zero}
use Rattle.std.proofs.lemmas.List.{get_or-map, length-map, length-append}
use Rattle.std.proofs.lemmas.List.Elements.{All-head, All-tail, All-cons, All-nil, All-push, All-contains, All-filter, All-weaker, All-map, Contains-get_or}
use Rattle.std.proofs.lemmas.List.Folds.{Any-from_list_any, list_any-from_Any, list_any-append}
use Rattle.std.proofs.lemmas.List.Kept.{AllPairs-filter}
use Rattle.std.proofs.lemmas.List.Quantifiers.{all_pairs_push, position-Some}
use Rattle.std.proofs.lemmas.Option.{slice_get-get_or}
use Rattle.region_sql.specs.declared.region_statements.Goal.{Goal}
use Rattle.region_sql.specs.declared.region_statements.Goal.TheVariants as goals
use Rattle.region_sql.specs.declared.region_statements.Locality.{Locality}
use Rattle.region_sql.specs.declared.region_statements.Locality.TheVariants.{InPrimary, InRegion, ByRow, Global}
use Rattle.region_sql.specs.declared.region_statements.RegionStatement.TheVariants.{AddRegion, DropRegion, SetPrimary, Survive, Placement}
use Rattle.descriptors.specs.declared.database.Database.{Database}
use Rattle.descriptors.specs.declared.table.Table.{Table}
use Rattle.descriptors.specs.Contents.{Contents, is_database, database_named}
use Rattle.descriptors.specs.Changes.{with_database, with_goal, with_primary, with_region, with_restricted, without_region, with_first_region, homed_in_primary, with_locality}
use Rattle.descriptors.specs.Lists.{changed, has_name, without}
use Rattle.descriptors.specs.Refusals.{rows_of, of_database, has_regions, survives_region, lives_in, primary_region, misses_region}
use Rattle.descriptors.specs.Sound.{AreDistinct, FitsRegions, IsPrimaryOf, IsSoundAmong, IsSoundCatalog, IsSoundDatabase, IsSoundTable}
use Rattle.descriptors.proofs.Additions.{bytes_differ, bytes_same}
use Rattle.descriptors.proofs.Found.{NoneApplies, and_false, or_false, have, found, find-changed, find-changed_other, same_bytes, differ_bytes, named, has_named, not_named, has_without, no_more, nowhere, length-without-le}
use Rattle.descriptors.proofs.Limits.{limits_changed, limits_homed, limits_without_tables}

-- A test of the database that is there.
pub test_of : (c : Contents) (n : List ℕ) (d : Database) (test : Database → Bool) → database_named n c.databases ≡ Some d → of_database c n test ≡ false → test d ≡ false
test_of c n d test e h = sym (ap (λ o. option_map_or test o false) e) ∙ h

-- A table among the databases, one of which changed.
pub still_among : (ds : List Database) (name : List ℕ) (f : Database → Database) → ((d : Database) → (f d).name ≡ d.name) → (t new : Table) → new.database ≡ t.database → (IsSoundTable t → IsSoundTable new)
    → (name ≡ t.database → (d : Database) → database_named name ds ≡ Some d → FitsRegions d.regions t.locality → FitsRegions (f d).regions new.locality)
    → (name ≢ t.database → new.locality ≡ t.locality)
    → IsSoundAmong ds t → IsSoundAmong (changed (is_database name) f ds) new
still_among ds name f keeps t new home table own other a = by (bytes_eq name t.database) refl
  where
    by : (b : Bool) → bytes_eq name t.database ≡ b → IsSoundAmong (changed (is_database name) f ds) new
    by true e =
        let same : name ≡ t.database = same_bytes name t.database e in
        let at : database_named name ds ≡ Some a.0 = subst (λ m. database_named m ds ≡ Some a.0) (sym same) a.1 in (
          f a.0,
          subst (λ m. database_named m (changed (is_database name) f ds) ≡ Some (f a.0)) (same ∙ sym home) (find-changed (is_database name) f (λ x. ap (bytes_eq name) (keeps x)) ds a.0 at),
          record { table = table a.2.table; database = home ∙ a.2.database ∙ sym (keeps a.0); locality = own same a.0 at a.2.locality },
        )
    by false e =
        let differ : name ≢ t.database = differ_bytes name t.database e in
        let none : (x : Database) → is_database name x ≡ true → is_database t.database x ≡ false = λ x p. bytes_differ t.database x.name (λ h. differ (same_bytes name x.name p ∙ sym h)) in (
          a.0,
          subst (λ m. database_named m (changed (is_database name) f ds) ≡ Some a.0) (sym home) (find-changed_other (is_database name) (is_database t.database) f (λ x. ap (bytes_eq t.database) (keeps x)) none ds ∙ a.1),
          record { table = table a.2.table; database = home ∙ a.2.database; locality = subst (FitsRegions a.0.regions) (sym (other differ)) a.2.locality },
        )

pub all_changed : {X : Type 0} (P : X → Type 0) (p : X → Bool) (f : X → X) (xs : List X) → All P xs → ((x : X) → find p xs ≡ Some x → P (f x)) → All P (changed p f xs)
all_changed P p f [] h g = All-nil P
all_changed {X} P p f (y ∷ ys) h g = by (p y) refl (all_changed P p f ys (All-tail P y ys h))
  where
    by : (b : Bool) → p y ≡ b → (((x : X) → find p ys ≡ Some x → P (f x)) → All P (changed p f ys)) → All P (changed p f (y ∷ ys))
    by true e rest =
        subst (λ b. All P (cond b (f y ∷ ys) (y ∷ changed p f ys))) (sym e) (All-cons P (f y) ys (g y (ap (λ b. cond b (Some y) (find p ys)) e)) (All-tail P y ys h))
    by false e rest =
        subst (λ b. All P (cond b (f y ∷ ys) (y ∷ changed p f ys))) (sym e) (All-cons P y (changed p f ys) (All-head P y ys h) (rest (λ x at. g x (ap (λ b. cond b (Some y) (find p ys)) e ∙ at))))

names_changed : (p : Database → Bool) (f : Database → Database) → ((d : Database) → (f d).name ≡ d.name) → (ds : List Database) → map (λ (d : Database). d.name) (changed p f ds) ≡ map (λ (d : Database). d.name) ds
names_changed p f keeps [] = refl
names_changed p f keeps (d ∷ ds) = by (p d) refl (names_changed p f keeps ds)
  where
    by : (b : Bool) → p d ≡ b → map (λ (d : Database). d.name) (changed p f ds) ≡ map (λ (d : Database). d.name) ds → map (λ (d : Database). d.name) (changed p f (d ∷ ds)) ≡ map (λ (d : Database). d.name) (d ∷ ds)
    by true e rest = ap (λ b. map (λ (d : Database). d.name) (cond b (f d ∷ ds) (d ∷ changed p f ds))) e ∙ ap (λ n. n ∷ map (λ (d : Database). d.name) ds) (keeps d)
    by false e rest = ap (λ b. map (λ (d : Database). d.name) (cond b (f d ∷ ds) (d ∷ changed p f ds))) e ∙ ap (λ l. d.name ∷ l) rest

-- Databases of the same names are as distinct.
pub same_names : (ds new : List Database) → map (λ (d : Database). d.name) new ≡ map (λ (d : Database). d.name) ds → AllPairs (λ d e. d.name ≢ e.name) ds → AllPairs (λ d e. d.name ≢ e.name) new
same_names ds new same distinct = λ i j d lt within h.
    let long : length new ≡ length ds = sym (length-map new (λ (x : Database). x.name)) ∙ ap length same ∙ length-map ds (λ (x : Database). x.name) in
    distinct i j d lt (omega (arith, long)) (sym (at i d (omega (arith, long))) ∙ h ∙ at j d (omega (arith, long)))
  where
    at : (k : ℕ) (d : Database) → k < length new → (get_or new k d).name ≡ (get_or ds k d).name
    at k d lt =
        let long : length new ≡ length ds = sym (length-map new (λ (x : Database). x.name)) ∙ ap length same ∙ length-map ds (λ (x : Database). x.name) in
        sym (get_or-map (λ (x : Database). x.name) new k d d.name lt) ∙ ap (λ l. get_or l k d.name) same ∙ get_or-map (λ (x : Database). x.name) ds k d d.name (omega (arith, long))

-- A catalog of which one database changed.
pub with_database_sound : (c : Contents) (name : List ℕ) (f : Database → Database) → IsSoundCatalog c → ((d : Database) → (f d).name ≡ d.name)
    → ((d : Database) → database_named name c.databases ≡ Some d → IsSoundDatabase d → IsSoundDatabase (f d))
    → ((d : Database) → database_named name c.databases ≡ Some d → All (λ r. IsTrue (has_name c.regions r)) d.regions → All (λ r. IsTrue (has_name c.regions r)) (f d).regions)
    → ((k : ℕ) (t : Table) → k < length c.tables → name ≡ (get_or c.tables k t).database → (d : Database) → database_named name c.databases ≡ Some d → FitsRegions d.regions (get_or c.tables k t).locality → FitsRegions (f d).regions (get_or c.tables k t).locality)
    → IsSoundCatalog (with_database c name f)
with_database_sound c name f sound keeps good inside homes = record {
  cluster = sound.cluster;
  databases = all_changed IsSoundDatabase (is_database name) f c.databases sound.databases (λ d e. good d e (All-contains IsSoundDatabase c.databases d sound.databases (found (is_database name) c.databases d e).0));
  in_cluster = all_changed (λ d. All (λ r. IsTrue (has_name c.regions r)) d.regions) (is_database name) f c.databases sound.in_cluster
      (λ d e. inside d e (All-contains (λ d. All (λ r. IsTrue (has_name c.regions r)) d.regions) c.databases d sound.in_cluster (found (is_database name) c.databases d e).0));
  names = same_names c.databases (changed (is_database name) f c.databases) (names_changed (is_database name) f keeps c.databases) sound.names;
  tables = λ k t lt. still_among c.databases name f keeps (get_or c.tables k t) (get_or c.tables k t) refl (λ h. h) (λ same d e h. homes k t lt same d e h) (λ _. refl) (sound.tables k t lt);
  limits = limits_changed c name f sound.limits;
}

pub has_some : (d : Database) → not (has_regions d) ≡ false → is_some d.primary ≡ true
has_some d h = not-false (has_regions d) h

-- A database with a primary region has regions.
pub some_regions : (rs : List (List ℕ)) (p : Option ℕ) → is_some p ≡ true → IsPrimaryOf rs p → rs ≢ []
some_regions rs None e h = absurd (true≢false (sym e))
some_regions rs (Some k) e h = λ none. omega (arith, h, ap length none)

primary_push : (rs : List (List ℕ)) (r : List ℕ) (p : Option ℕ) → is_some p ≡ true → IsPrimaryOf rs p → IsPrimaryOf (rs ++ r ∷ []) p
primary_push rs r None e h = absurd (true≢false (sym e))
primary_push rs r (Some k) e h = omega (arith, h, length-append rs (r ∷ []))

push_some : (rs : List (List ℕ)) (r : List ℕ) → rs ++ r ∷ [] ≢ []
push_some rs r = λ none. omega (arith, length-append rs (r ∷ []), ap length none)

any_named : (rs : List (List ℕ)) (x : List ℕ) → Any (λ q. q ≡ x) rs → has_name rs x ≡ true
any_named rs x h = list_any-from_Any (bytes_eq x) rs (h.0, h.1, h.2, h.3, bytes_same x h.1 (sym h.4))

pub named_any : (rs : List (List ℕ)) (x : List ℕ) → has_name rs x ≡ true → Any (λ q. q ≡ x) rs
named_any rs x h = let a = Any-from_list_any (bytes_eq x) rs h in (a.0, a.1, a.2, a.3, sym (same_bytes x a.1 a.4))

-- A locality that fits some regions fits others that have all of these that it names.
pub fits_others : (rs new : List (List ℕ)) (l : Option Locality) → rs ≢ [] → new ≢ [] → ((x : List ℕ) → lives_in x l ≡ true → has_name rs x ≡ true → has_name new x ≡ true) → FitsRegions rs l → FitsRegions new l
fits_others rs new None some more all h = absurd (some h)
fits_others rs new (Some InPrimary) some more all h = more
fits_others rs new (Some (InRegion x)) some more all h = named_any new x (all x (bytes_same x x refl) (any_named rs x h))
fits_others rs new (Some ByRow) some more all h = more
fits_others rs new (Some Global) some more all h = more

or_left : (a b : Bool) → a ≡ true → (a || b) ≡ true
or_left true b h = refl
or_left false b h = absurd (true≢false (sym h))

pub sound_add_region : (c : Contents) (n r : List ℕ) → IsSoundCatalog c → NoneApplies (rows_of c (AddRegion n r)) → IsSoundCatalog (with_database c n (with_region r))
sound_add_region c n r sound passed =
    with_database_sound c n (with_region r) sound (λ d. refl)
    (λ d e ds.
    let primary : is_some d.primary ≡ true = has_some d (test_of c n d (λ d. not (has_regions d)) e passed.1.1.1.1.1.1.1.0) in
    let distinct : AreDistinct (d.regions ++ r ∷ []) = all_pairs_push (λ x y. x ≢ y) d.regions r ds.distinct (λ k x lt h. not_named d.regions r (test_of c n d (λ d. has_name d.regions r) e passed.1.1.1.1.1.0) k x lt (sym h)) in
    let inside : All (λ x. IsTrue (has_name c.regions x)) (d.regions ++ r ∷ []) = All-push (λ x. IsTrue (has_name c.regions x)) d.regions r (All-contains (λ d. All (λ r. IsTrue (has_name c.regions r)) d.regions) c.databases d sound.in_cluster (found (is_database n) c.databases d e).0) (not-false (has_name c.regions r) passed.1.1.1.1.0) in
    record {
      name = ds.name;
      regions = All-push IsUtf8 d.regions r ds.regions (All-contains IsUtf8 c.regions r sound.cluster.names (named c.regions r (not-false (has_name c.regions r) passed.1.1.1.1.0)));
      few = omega (arith, no_more (d.regions ++ r ∷ []) c.regions distinct inside, sound.cluster.few);
      distinct = distinct;
      primary = primary_push d.regions r d.primary primary ds.primary;
      enough = λ g. omega (arith, ds.enough g, length-append d.regions (r ∷ []));
      restricted = λ h. (push_some d.regions r, (ds.restricted h).1);
    })
    (λ d e inside. All-push (λ x. IsTrue (has_name c.regions x)) d.regions r inside (not-false (has_name c.regions r) passed.1.1.1.1.0))
    (λ k t lt same d e h.
    let ds = All-contains IsSoundDatabase c.databases d sound.databases (found (is_database n) c.databases d e).0 in
    fits_others d.regions (d.regions ++ r ∷ []) (get_or c.tables k t).locality (some_regions d.regions d.primary (has_some d (test_of c n d (λ d. not (has_regions d)) e passed.1.1.1.1.1.1.1.0)) ds.primary) (push_some d.regions r)
    (λ x _ has. list_any-append (bytes_eq x) d.regions (r ∷ []) ∙ or_left (has_name d.regions x) (list_any (bytes_eq x) (r ∷ [])) has) h)

pub survived : (g : Goal) → g ≡ goals.Region → survives_region g ≡ true
survived g e = ap survives_region e

zone : (g : Goal) → survives_region g ≡ false → g ≡ goals.Zone
zone goals.Zone h = refl
zone goals.Region h = absurd (true≢false h)

pub enough_regions : (n : ℕ) (b : Bool) → (b && nat_lt n 3) ≡ false → b ≡ true → 3 ≤ n
enough_regions n b h e = ltb-false n 3 (and_false b (nat_lt n 3) h e)

pub sound_survive : (c : Contents) (n : List ℕ) (g : Goal) → IsSoundCatalog c → NoneApplies (rows_of c (Survive n g)) → IsSoundCatalog (with_database c n (with_goal g))
sound_survive c n g sound passed =
    with_database_sound c n (with_goal g) sound (λ d. refl)
    (λ d e ds. record {
      name = ds.name;
      regions = ds.regions;
      few = ds.few;
      distinct = ds.distinct;
      primary = ds.primary;
      enough = λ h. enough_regions (length d.regions) (survives_region g) (test_of c n d (λ d. survives_region g && nat_lt (length d.regions) 3) e passed.1.1.1.1.1.1.1.1.0) (survived g h);
      restricted = λ h. ((ds.restricted h).0, zone g (not_both g d.restricted (test_of c n d (λ d. survives_region g && d.restricted) e passed.1.1.1.1.1.1.1.1.1.1.1.1.1.0) h));
    })
    (λ d e inside. inside)
    (λ k t lt same d e h. h)
  where
    not_both : (g : Goal) (b : Bool) → (survives_region g && b) ≡ false → b ≡ true → survives_region g ≡ false
    not_both goals.Zone b h e = refl
    not_both goals.Region b h e = absurd (true≢false (sym e ∙ h))

pub sound_placement : (c : Contents) (n : List ℕ) (b : Bool) → IsSoundCatalog c → NoneApplies (rows_of c (Placement n b)) → IsSoundCatalog (with_database c n (with_restricted b))
sound_placement c n b sound passed =
    with_database_sound c n (with_restricted b) sound (λ d. refl)
    (λ d e ds. record {
      name = ds.name;
      regions = ds.regions;
      few = ds.few;
      distinct = ds.distinct;
      primary = ds.primary;
      enough = ds.enough;
      restricted = λ h. (
        some_regions d.regions d.primary (has_some d (test_of c n d (λ d. not (has_regions d)) e passed.1.1.1.1.1.1.1.0)) ds.primary,
        zone d.goal (and_false b (survives_region d.goal) (test_of c n d (λ d. b && survives_region d.goal) e passed.1.1.1.1.1.1.1.1.1.1.1.1.1.0) h),
      );
    })
    (λ d e inside. inside)
    (λ k t lt same d e h. h)

-- The place of a name among names that have it.
some_place : (n : List ℕ) (k : ℕ) (xs : List (List ℕ)) → has_name xs n ≡ true → is_some (position_from (bytes_eq n) k xs) ≡ true
some_place n k [] h = absurd (true≢false (sym h))
some_place n k (x ∷ xs) h = by (bytes_eq n x) refl (some_place n (k + 1) xs)
  where
    by : (b : Bool) → bytes_eq n x ≡ b → (has_name xs n ≡ true → is_some (position_from (bytes_eq n) (k + 1) xs) ≡ true) → is_some (position_from (bytes_eq n) k (x ∷ xs)) ≡ true
    by true e rest = ap (λ b. is_some (cond b (Some k) (position_from (bytes_eq n) (k + 1) xs))) e
    by false e rest = ap (λ b. is_some (cond b (Some k) (position_from (bytes_eq n) (k + 1) xs))) e ∙ rest (sym (ap (λ b. b || has_name xs n) e) ∙ h)

pub is_primary_place : (xs : List (List ℕ)) (n : List ℕ) → has_name xs n ≡ true → IsPrimaryOf xs (position (bytes_eq n) xs)
is_primary_place xs n h =
    let at = have (position (bytes_eq n) xs) (ap is_some (position_from-zero (bytes_eq n) xs) ∙ some_place n 0 xs h) in
    subst (IsPrimaryOf xs) (sym at.1) (position-Some (bytes_eq n) xs at.0 n at.1).0

-- The primary region of a database that has one.
primary_there : (d : Database) → is_some d.primary ≡ true → IsPrimaryOf d.regions d.primary → (p : List ℕ) × (primary_region d ≡ Some p) × (has_name d.regions p ≡ true)
primary_there d some place =
    let k = have d.primary some in
    let lt : k.0 < length d.regions = subst (IsPrimaryOf d.regions) k.1 place in
    (get_or d.regions k.0 [], ap (option_and_then (slice_get d.regions)) k.1 ∙ slice_get-get_or d.regions k.0 [] lt, has_named d.regions (get_or d.regions k.0 []) (Contains-get_or d.regions k.0 [] lt))

nonempty_from : (xs : List (List ℕ)) (n : List ℕ) → has_name xs n ≡ true → xs ≢ []
nonempty_from xs n h = λ e. true≢false (sym h ∙ ap (λ l. has_name l n) e)

-- No table of the database lives in the region.
not_home : (name region : List ℕ) (ts : List Table) → list_any (λ t. bytes_eq name t.database && lives_in region t.locality) ts ≡ false → (k : ℕ) (d : Table) → k < length ts → name ≡ (get_or ts k d).database → lives_in region (get_or ts k d).locality ≡ false
not_home name region [] h k d lt same = absurd (omega arith)
not_home name region (t ∷ ts) h zero d lt same = and_false (bytes_eq name t.database) (lives_in region t.locality) (or_false (bytes_eq name t.database && lives_in region t.locality) (list_any (λ t. bytes_eq name t.database && lives_in region t.locality) ts) h).0 (bytes_same name t.database same)
not_home name region (t ∷ ts) h (suc k) d lt same = not_home name region ts (or_false (bytes_eq name t.database && lives_in region t.locality) (list_any (λ t. bytes_eq name t.database && lives_in region t.locality) ts) h).1 k d (omega arith) same

-- A region in which a table lives, and one in which it doesn't.
homes_differ : (x r : List ℕ) (l : Option Locality) → lives_in x l ≡ true → lives_in r l ≡ false → r ≢ x
homes_differ x r None h g = absurd (true≢false (sym h))
homes_differ x r (Some InPrimary) h g = absurd (true≢false (sym h))
homes_differ x r (Some (InRegion y)) h g = λ e. true≢false (sym h ∙ ap (λ m. bytes_eq m y) (sym e) ∙ g)
homes_differ x r (Some ByRow) h g = absurd (true≢false (sym h))
homes_differ x r (Some Global) h g = absurd (true≢false (sym h))

pub sound_drop_region : (c : Contents) (n r : List ℕ) → IsSoundCatalog c → NoneApplies (rows_of c (DropRegion n r)) → IsSoundCatalog (with_database c n (without_region r))
sound_drop_region c n r sound passed =
    with_database_sound c n (without_region r) sound (λ d. refl)
    (λ d e ds.
    let p = primary_there d (has_some d (test_of c n d (λ d. not (has_regions d)) e passed.1.1.1.1.1.1.1.0)) ds.primary in
    let stays = kept d e p.0 p.1 p.2 in
    record {
      name = ds.name;
      regions = All-filter (λ x. not (bytes_eq r x)) IsUtf8 d.regions ds.regions;
      few = omega (arith, length-without-le r d.regions, ds.few);
      distinct = AllPairs-filter (λ x y. x ≢ y) (λ x. not (bytes_eq r x)) d.regions ds.distinct;
      primary = subst (λ o. IsPrimaryOf (without r d.regions) (option_and_then (λ p. position (bytes_eq p) (without r d.regions)) o)) (sym p.1) (is_primary_place (without r d.regions) p.0 stays);
      enough = λ g. enough_regions (length (without r d.regions)) (survives_region d.goal) (test_of c n d (λ d. survives_region d.goal && nat_lt (length (without r d.regions)) 3) e passed.1.1.1.1.1.1.1.1.0) (survived d.goal g);
      restricted = λ h. (nonempty_from (without r d.regions) p.0 stays, (ds.restricted h).1);
    })
    (λ d e inside. All-filter (λ x. not (bytes_eq r x)) (λ x. IsTrue (has_name c.regions x)) d.regions inside)
    (λ k t lt same d e h.
    let ds = All-contains IsSoundDatabase c.databases d sound.databases (found (is_database n) c.databases d e).0 in
    let p = primary_there d (has_some d (test_of c n d (λ d. not (has_regions d)) e passed.1.1.1.1.1.1.1.0)) ds.primary in
    let away = not_home n r c.tables passed.1.1.1.1.1.1.1.1.1.1.1.1.0 k t lt same in
    fits_others d.regions (without r d.regions) (get_or c.tables k t).locality (nonempty_from d.regions p.0 p.2) (nonempty_from (without r d.regions) p.0 (kept d e p.0 p.1 p.2))
    (λ x lives has. has_without r x d.regions (homes_differ x r (get_or c.tables k t).locality lives away) has) h)
  where
    kept : (d : Database) → database_named n c.databases ≡ Some d → (p : List ℕ) → primary_region d ≡ Some p → has_name d.regions p ≡ true → has_name (without r d.regions) p ≡ true
    kept d e p at has = has_without r p d.regions (differ_bytes r p (sym (ap (λ o. option_map_or (bytes_eq r) o false) at) ∙ test_of c n d (λ d. option_map_or (bytes_eq r) (primary_region d) false) e passed.1.1.1.1.1.1.1.1.1.0)) has

-- SET PRIMARY REGION of a database with regions.
pub sound_set_primary : (c : Contents) (n r : List ℕ) → IsSoundCatalog c → NoneApplies (rows_of c (SetPrimary n r)) → of_database c n has_regions ≡ true → IsSoundCatalog (with_database c n (with_primary r))
sound_set_primary c n r sound passed some =
    with_database_sound c n (with_primary r) sound (λ d. refl)
    (λ d e ds. record {
      name = ds.name;
      regions = ds.regions;
      few = ds.few;
      distinct = ds.distinct;
      enough = ds.enough;
      restricted = ds.restricted;
      primary = is_primary_place d.regions r (not-false (has_name d.regions r) (and_false (has_regions d) (not (has_name d.regions r)) (test_of c n d (misses_region r) e passed.1.1.1.1.1.1.0) (sym (ap (λ o. option_map_or has_regions o false) e) ∙ some)));
    })
    (λ d e inside. inside)
    (λ k t lt same d e h. h)

homed_cases : (name : List ℕ) (t : Table) → ((name ≡ t.database) × (homed_in_primary name t ≡ with_locality InPrimary t)) ⊎ ((name ≢ t.database) × (homed_in_primary name t ≡ t))
homed_cases name t = by (bytes_eq name t.database) refl
  where
    by : (b : Bool) → bytes_eq name t.database ≡ b → ((name ≡ t.database) × (homed_in_primary name t ≡ with_locality InPrimary t)) ⊎ ((name ≢ t.database) × (homed_in_primary name t ≡ t))
    by true e = inl (same_bytes name t.database e, ap (λ b. cond b (with_locality InPrimary t) t) e)
    by false e = inr (differ_bytes name t.database e, ap (λ b. cond b (with_locality InPrimary t) t) e)

pub located : (t : Table) (l : Locality) → IsSoundTable t → IsSoundTable (with_locality l t)
located t l s = record { name = s.name; columns = s.columns; some = s.some; few = s.few; named = s.named; not_hidden = s.not_hidden; key = s.key; key_distinct = s.key_distinct; key_places = s.key_places; unique_rises = s.unique_rises; unique_places = s.unique_places }

-- SET PRIMARY REGION of a database without regions.
pub sound_set_first : (c : Contents) (n r : List ℕ) → IsSoundCatalog c → NoneApplies (rows_of c (SetPrimary n r)) → of_database c n has_regions ≡ false → IsSoundCatalog (record c { databases = changed (is_database n) (with_first_region r) c.databases; tables = map (homed_in_primary n) c.tables })
sound_set_first c n r sound passed none =
    let one : IsSoundCatalog (with_database (record c { tables = [] }) n (with_first_region r)) =
    with_database_sound (record c { tables = [] }) n (with_first_region r) (record { cluster = sound.cluster; databases = sound.databases; in_cluster = sound.in_cluster; names = sound.names; tables = All-nil (IsSoundAmong c.databases); limits = limits_without_tables c sound.limits }) (λ d. refl)
    (λ d e ds. let empty = without_primary d e ds in record {
      name = ds.name;
      regions = All-cons IsUtf8 r [] (All-contains IsUtf8 c.regions r sound.cluster.names (named c.regions r (inside d e))) (All-nil IsUtf8);
      few = omega arith;
      distinct = λ i j x lt within. absurd (omega arith);
      primary = omega arith;
      enough = λ g. absurd (omega (arith, ds.enough g, ap length empty));
      restricted = λ h. absurd ((ds.restricted h).0 empty);
    })
    (λ d e _. All-cons (λ x. IsTrue (has_name c.regions x)) r [] (inside d e) (All-nil (λ x. IsTrue (has_name c.regions x))))
    (λ k t lt same d e h. absurd (omega arith)) in
    record {
      cluster = one.cluster;
      databases = one.databases;
      in_cluster = one.in_cluster;
      names = one.names;
      tables = All-map (IsSoundAmong (changed (is_database n) (with_first_region r) c.databases)) (homed_in_primary n) c.tables (All-weaker (IsSoundAmong c.databases) (λ t. IsSoundAmong (changed (is_database n) (with_first_region r) c.databases) (homed_in_primary n t)) (λ t a. table t a (homed_cases n t)) c.tables sound.tables);
      limits = limits_homed c n r sound.limits;
    }
  where
    inside : (d : Database) → database_named n c.databases ≡ Some d → has_name c.regions r ≡ true
    inside d e = not-false (has_name c.regions r) (and_false (not (has_regions d)) (not (has_name c.regions r)) (test_of c n d (λ d. not (has_regions d) && not (has_name c.regions r)) e passed.1.1.1.1.0) (ap not (test_of c n d has_regions e none)))

    without_primary : (d : Database) → database_named n c.databases ≡ Some d → IsSoundDatabase d → d.regions ≡ []
    without_primary d e ds = subst (IsPrimaryOf d.regions) (nowhere d.primary (test_of c n d has_regions e none)) ds.primary

    table : (t : Table) → IsSoundAmong c.databases t → ((n ≡ t.database) × (homed_in_primary n t ≡ with_locality InPrimary t)) ⊎ ((n ≢ t.database) × (homed_in_primary n t ≡ t)) → IsSoundAmong (changed (is_database n) (with_first_region r) c.databases) (homed_in_primary n t)
    table t a (inl h) = subst (IsSoundAmong (changed (is_database n) (with_first_region r) c.databases)) (sym h.1)
        (still_among c.databases n (with_first_region r) (λ d. refl) t (with_locality InPrimary t) refl (located t InPrimary) (λ same d e f. push_some [] r) (λ differ. absurd (differ h.0)) a)
    table t a (inr h) = subst (IsSoundAmong (changed (is_database n) (with_first_region r) c.databases)) (sym h.1)
        (still_among c.databases n (with_first_region r) (λ d. refl) t t refl (λ s. s) (λ same d e f. absurd (h.0 same)) (λ _. refl) a)
