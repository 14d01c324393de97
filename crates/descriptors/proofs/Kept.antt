use Rattle.std.proofs.Common.{◌≡◌, ℕ, Bool, true, false, cond, List, None, map, refl, sym, subst, Result, Ok, Err, OnOk, OnErr}
use Rattle.region_sql.specs.declared.region_statements.RegionStatement.{RegionStatement}
use Rattle.region_sql.specs.declared.region_statements.RegionStatement.TheVariants.{CreateDatabase, Use, SetPrimary, AddRegion, DropRegion, Survive, Placement, CreateTable, SetLocality}
use Rattle.descriptors.specs.Contents.{Contents, is_database}
use Rattle.descriptors.specs.Changes.{after, NewNamesAreUtf8, with_database, with_primary, with_first_region, homed_in_primary}
use Rattle.descriptors.specs.Lists.{changed}
use Rattle.descriptors.specs.Refusals.{refusal_of, rows_of, of_database, has_regions}
use Rattle.descriptors.specs.Sound.{IsSoundCatalog}
use Rattle.descriptors.proofs.Creations.{sound_create_database, sound_create_table, sound_set_locality}
use Rattle.descriptors.proofs.Found.{none_applies, NoneApplies}
use Rattle.descriptors.proofs.Limits.{limits_used}
use Rattle.descriptors.proofs.Regions.{sound_add_region, sound_survive, sound_placement, sound_drop_region, sound_set_primary, sound_set_first}

sound_primary : (c : Contents) (n r : List ℕ) → IsSoundCatalog c → NoneApplies (rows_of c (SetPrimary n r)) → IsSoundCatalog (after c (SetPrimary n r))
sound_primary c n r sound passed = by (of_database c n has_regions) refl
  where
    by : (b : Bool) → of_database c n has_regions ≡ b → IsSoundCatalog (after c (SetPrimary n r))
    by true e = subst (λ b. IsSoundCatalog (cond b (with_database c n (with_primary r)) (record c { databases = changed (is_database n) (with_first_region r) c.databases; tables = map (homed_in_primary n) c.tables }))) (sym e) (sound_set_primary c n r sound passed e)
    by false e = subst (λ b. IsSoundCatalog (cond b (with_database c n (with_primary r)) (record c { databases = changed (is_database n) (with_first_region r) c.databases; tables = map (homed_in_primary n) c.tables }))) (sym e) (sound_set_first c n r sound passed e)

pub sound_after : (c : Contents) (s : RegionStatement) → IsSoundCatalog c → NewNamesAreUtf8 s → refusal_of c s ≡ None → IsSoundCatalog (after c s)
sound_after c (CreateDatabase name primary regions goal) sound utf8 h = sound_create_database c name primary regions goal sound utf8 (none_applies (rows_of c (CreateDatabase name primary regions goal)) h)
sound_after c (Use name) sound utf8 h = record { cluster = sound.cluster; databases = sound.databases; in_cluster = sound.in_cluster; names = sound.names; tables = sound.tables; limits = limits_used c name sound.limits }
sound_after c (SetPrimary name region) sound utf8 h = sound_primary c name region sound (none_applies (rows_of c (SetPrimary name region)) h)
sound_after c (AddRegion name region) sound utf8 h = sound_add_region c name region sound (none_applies (rows_of c (AddRegion name region)) h)
sound_after c (DropRegion name region) sound utf8 h = sound_drop_region c name region sound (none_applies (rows_of c (DropRegion name region)) h)
sound_after c (Survive name goal) sound utf8 h = sound_survive c name goal sound (none_applies (rows_of c (Survive name goal)) h)
sound_after c (Placement name restricted) sound utf8 h = sound_placement c name restricted sound (none_applies (rows_of c (Placement name restricted)) h)
sound_after c (CreateTable name items locality) sound utf8 h = sound_create_table c name items locality sound utf8.0 utf8.1 (none_applies (rows_of c (CreateTable name items locality)) h)
sound_after c (SetLocality name locality) sound utf8 h = sound_set_locality c name locality sound (none_applies (rows_of c (SetLocality name locality)) h)

pub sound_either_way : {A E : Type 0} (r : Result A E) (old new then' : Contents) → OnOk r (new ≡ then') → OnErr r (new ≡ old) → IsSoundCatalog old → IsSoundCatalog then' → IsSoundCatalog new
sound_either_way (Ok a) old new then' ok err was is = subst IsSoundCatalog (sym ok) is
sound_either_way (Err e) old new then' ok err was is = subst IsSoundCatalog (sym err) was
