-- Facts of the catalogs and tables that the tests make.
use Rattle.std.proofs.Common.{◌≡◌, ◌∙◌, ℕ, ◌+◌, ◌≤◌, ◌^◌, Bool, true, false, cond, List, [], ◌∷◌, ◌++◌, length, map, All, Some, refl, sym, ap, subst, arith, rules, IsUtf8}
use Rattle.std.specs.Prelude.{Contains}
use Rattle.std.specs.List.{range_with_len, AllByRecursion}
use Rattle.std.proofs.lemmas.List.Elements.{All-from_recursion}
use Rattle.std.proofs.lemmas.List.FromFn.{map-range_with_len_more}
use Rattle.descriptors.specs.declared.database.Database.{Database}
use Rattle.descriptors.specs.declared.table.Table.{Table}
use Rattle.descriptors.specs.Contents.{Contents, current_database, current_table, is_table, table_named}
use Rattle.descriptors.specs.Sound.{IsCluster, IsSoundAmong, IsSoundCatalog, IsSoundTable}
use Rattle.descriptors.proofs.Creations.{distinct_names}
use Rattle.descriptors.proofs.Found.{found}
use Rattle.row_locality.specs.Rows.{is_by_row}
use Rattle.row_locality.proofs.FrontLemmas.{bind_some}
use Rattle.local_search.specs.Partitions.{partition_count}

-- ---- tables

at : {X : Type 0} (P : X → Type 0) (xs : List X) (x : X) → All P xs → Contains xs x → P x
at P xs x all there = subst P there.2 (all there.0 x there.1)

pub sound_table_named : (c : Contents) (name : List ℕ) (t : Table) → IsSoundCatalog c → current_table c name ≡ Some t → IsSoundTable t
sound_table_named c name t sound e =
    let d = bind_some (current_database c) (λ d. table_named d.name name c.tables) t e in
    let there : Contains c.tables t = (found (is_table d.0.name name) c.tables t d.2).0 in
    let among : IsSoundAmong c.databases t = at (IsSoundAmong c.databases) c.tables t sound.tables there in
    among.2.table

-- ---- sixteen regions

pub name_added : (n : ℕ) (names more : List (List ℕ)) (name : List ℕ) → names ≡ map (λ b. b ∷ []) (range_with_len 97 n) → name ≡ (97 + n) ∷ [] → more ≡ names ++ name ∷ [] → more ≡ map (λ b. b ∷ []) (range_with_len 97 (n + 1))
name_added n names more name before new pushed =
    pushed
    ∙ ap (λ (ns : List (List ℕ)). ns ++ name ∷ []) before
    ∙ ap (λ (x : List ℕ). map (λ b. b ∷ []) (range_with_len 97 n) ++ x ∷ []) new
    ∙ sym (map-range_with_len_more (λ b. b ∷ []) 97 n (97 + n) refl)

pub all_named : (n : ℕ) (names : List (List ℕ)) → n ≡ 16 → names ≡ map (λ b. b ∷ []) (range_with_len 97 n) → names ≡ map (λ b. b ∷ []) (range_with_len 97 16)
all_named n names e h = h ∙ ap (λ (k : ℕ). map (λ b. b ∷ []) (range_with_len 97 k)) e

each_is_text : AllByRecursion IsUtf8 (map (λ b. b ∷ []) (range_with_len 97 16))
each_is_text = search rules

pub sixteen_are_a_cluster : IsCluster (map (λ b. b ∷ []) (range_with_len 97 16))
sixteen_are_a_cluster = record {
  few = omega arith;
  distinct = distinct_names (map (λ b. b ∷ []) (range_with_len 97 16)) refl;
  names = All-from_recursion IsUtf8 (map (λ b. b ∷ []) (range_with_len 97 16)) each_is_text;
}

-- ---- partitions

by_kind : (b : Bool) (n : ℕ) → n ≤ 16 → 1 + cond b n 1 ≤ 2 ^ 32
by_kind true n h = omega arith
by_kind false n h = omega arith

pub few_partitions : (t : Table) (d : Database) → length d.regions ≤ 16 → 1 + partition_count t d ≤ 2 ^ 32
few_partitions t d h = by_kind (is_by_row t) (length d.regions) h
