-- How statements begin: their first searches.
use Rattle.std.proofs.Common.{◌≡◌, ℕ, ◌+◌, ◌≤◌, Bool, true, false, List, [], ◌∷◌, map, length, refl, sym, ap, ◌∙◌, subst}
use Rattle.std.specs.Prelude.{All, Contains, IfSome, IsUtf8, if◌then◌else◌, filter, not, Option, Some, None, option_map}
use Rattle.std.specs.List.{AllByRecursion, enumerate_from}
use Rattle.std.specs.Option.{option_map_or}
use Rattle.std.proofs.lemmas.Option.{same_Some}
use Rattle.std.proofs.lemmas.List.Elements.{recursion_from_All, All-contains_itself}
use Rattle.mr_base.specs.declared.rows.Datum.{Datum}
use Rattle.mr_base.specs.declared.states.SqlState.{SqlState}
use Rattle.region_sql.specs.TextLiterals.{TextsAreUtf8}
use Rattle.region_sql.specs.declared.row_statements.RowStatement.{RowStatement}
use Rattle.region_sql.specs.declared.row_statements.RowStatement.TheVariants.{Insert, Select, Update, Delete}
use Rattle.region_sql.specs.declared.row_statements.Term.{Term}
use Rattle.descriptors.specs.Contents.{Contents}
use Rattle.descriptors.specs.Sound.{IsSoundTable}
use Rattle.descriptors.specs.declared.database.Database.{Database}
use Rattle.descriptors.specs.declared.table.Table.{Table}
use Rattle.row_locality.specs.Decoding.{IsRegionFor}
use Rattle.row_locality.specs.Plain.{Layout, Partition, partition_regions, range_at, regions_of}
use Rattle.row_locality.specs.Rows.{is_by_row}
use Rattle.sql_eval.specs.Evaluation.{KeyedRow, Setting, checked_outcome, ends_at, followed_answers, found_rows, has_pair, matched_rows, partitions_of, table_outcome, unless}
use Rattle.sql_eval.specs.Execution.{Named, named_table}
use Rattle.sql_eval.specs.Faults.{check_fault}
use Rattle.sql_eval.specs.Laws.{IsSoundSetting}
use Rattle.sql_eval.specs.Lookups.{fixed_region, index_for, is_in_region, key_lookup, near_first, row_lookups, searched_partitions, whole_partition}
use Rattle.sql_eval.specs.Reads.{Reads}
use Rattle.sql_eval.specs.Search.{Evaluation, gives, ◌>>=◌, followed_by, Lookup, search}
use Rattle.local_search.specs.LookupOrder.{IsTypedTerm}
use Rattle.local_search.proofs.TypedTerms.{delete_is_typed, select_is_typed, update_is_typed}
use Rattle.local_search.proofs.FixedColumns.{index_is_typed}
use Rattle.answer_laws.proofs.ExecutedLists.{sound_named}
use Rattle.answer_laws.proofs.KeepsValid.{is_named}
use Rattle.answer_laws.proofs.Lists.{each, each_append, each_filter, each_map, each_weaker}
use Rattle.planner.specs.Phases.{FindsRows, IsLookupFor, IsPartitionFor, found_outcome, followed_if, is_update, scanned_rows, terms_of}
use Rattle.planner.specs.Turns.{IsBegun, IsFirstPhase}
use Rattle.planner.specs.declared.phases.Begun.TheVariants as beginnings
use Rattle.planner.specs.declared.phases.Phase.{Phase}
use Rattle.planner.specs.declared.phases.Phase.TheVariants as phases

-- ---- the partitions of a table

each_numbered : {X : Type 0} (P : X → Type 0) (k : ℕ) (xs : List X) → AllByRecursion P xs → AllByRecursion (λ (x : ℕ × X). P x.1) (enumerate_from k xs)
each_numbered P k [] a = tt
each_numbered P k (x ∷ xs) a = (a.0, each_numbered P (k + 1) xs a.1)

-- a region of a partition of the table
abbrev IsRegionOf : Contents → Table → Option (List ℕ) → Type 0
IsRegionOf c t region = IsRegionFor t region × IfSome region (Contains (regions_of c t))

regions_by : (c : Contents) (t : Table) (b : Bool) → is_by_row t ≡ b → AllByRecursion IsUtf8 (regions_of c t)
    → AllByRecursion (IsRegionOf c t) (if b then map (λ r. Some r) (regions_of c t) else None ∷ [])
regions_by c t true e u =
    each_map (IsRegionOf c t) (λ r. Some r) (regions_of c t)
    (each_both (regions_of c t) u (recursion_from_All (Contains (regions_of c t)) (regions_of c t) (All-contains_itself (regions_of c t))))
  where
    each_both : (rs : List (List ℕ)) → AllByRecursion IsUtf8 rs → AllByRecursion (Contains (regions_of c t)) rs → AllByRecursion (λ r. IsRegionOf c t (Some r)) rs
    each_both [] a b = tt
    each_both (r ∷ rs) a b = (((e, a.0), b.0), each_both rs a.1 b.1)
regions_by c t false e u = ((e, tt), tt)

-- each partition of the table of a statement is such
pub partitions_for : (s : Setting) (name : List ℕ) (n : Named) → IsSoundSetting s → named_table s.layout.catalog name ≡ Some n
    → AllByRecursion (IsPartitionFor s.layout.catalog n.table) (partitions_of s.layout n)
partitions_for s name n sound e =
    let c : Contents = s.layout.catalog in
    let d = sound_named c n sound.layout.catalog (is_named c name n e) in
    let texts : AllByRecursion IsUtf8 (regions_of c n.table) =
    subst (AllByRecursion IsUtf8) (sym d.regions) (recursion_from_All IsUtf8 n.database.regions d.database.regions) in
    each_map (IsPartitionFor c n.table) (λ x. record { range = range_at s.layout n.place x.0; region = x.1 }) (enumerate_from 0 (partition_regions c n.table))
    (each_weaker (λ (x : ℕ × Option (List ℕ)). IsRegionOf c n.table x.1) _ (λ x r. record { region = r.0; lives = r.1 }) (enumerate_from 0 (partition_regions c n.table))
    (each_numbered (IsRegionOf c n.table) 0 (partition_regions c n.table) (regions_by c n.table (is_by_row n.table) refl texts)))

-- ---- the look-ups of a statement that finds rows

near_in : (Q : Partition → Type 0) (region : List ℕ) (ps : List Partition) → AllByRecursion Q ps → AllByRecursion Q (near_first region ps)
near_in Q region ps h = each_append Q _ _ (each_filter Q (is_in_region region) ps h) (each_filter Q (λ p. not (is_in_region region p)) ps h)

searched_by : (Q : Partition → Type 0) (region : Option (List ℕ)) (ps : List Partition) → AllByRecursion Q ps
    → AllByRecursion Q (option_map_or (λ r. filter (is_in_region r) ps) region ps)
searched_by Q None ps h = h
searched_by Q (Some region) ps h = each_filter Q (is_in_region region) ps h

rows_in : (Q : Partition → Type 0) (gateway : List ℕ) (by : Option (ℕ × List Datum)) (ps : List Partition) → AllByRecursion Q ps
    → AllByRecursion (λ (x : Lookup). Q x.partition) (row_lookups gateway by ps)
rows_in Q gateway None ps h = each_map (λ (x : Lookup). Q x.partition) whole_partition ps h
rows_in Q gateway (Some x) ps h = each_map (λ (y : Lookup). Q y.partition) (key_lookup x.0 x.1) (near_first gateway ps) (near_in Q gateway ps h)

-- ---- the first phase

module _ (l : Layout) (gateway : List ℕ) (n : Named) (terms : List Term)
    (there : AllByRecursion (IsPartitionFor l.catalog n.table) (partitions_of l n)) where
  ps : List Partition
  ps = searched_partitions terms (partitions_of l n)

  ps_there : AllByRecursion (IsPartitionFor l.catalog n.table) ps
  unfolding ps
  ps_there = searched_by (IsPartitionFor l.catalog n.table) (fixed_region terms) (partitions_of l n) there

  -- what a statement finds, by this index or by none
  by_index : Reads → Option (ℕ × List Datum) → Evaluation (List KeyedRow)
  by_index reads o =
      followed_by 1 (search reads (ends_at o) (row_lookups gateway o ps)) >>= λ first.
      followed_answers reads n.table o first >>= λ answers.
      gives (matched_rows n.table terms answers)

  scan_first : (lookups : List Lookup) → index_for n.table terms ≡ None → lookups ≡ row_lookups gateway (index_for n.table terms) ps
      → IsFirstPhase l gateway n terms (phases.Scanning (record { is_first = true; lookups = lookups; passed = 0; rows = [] }))
  unfolding ps by_index found_rows matched_rows
  scan_first lookups e f =
      let same : lookups ≡ row_lookups gateway None ps = f ∙ ap (λ o. row_lookups gateway o ps) e in (
        record { lookups = subst (AllByRecursion (IsLookupFor l.catalog n.table)) (sym same) (rows_in (IsPartitionFor l.catalog n.table) gateway None ps ps_there); rows = tt },
        (λ reads. ap (by_index reads) e
            ∙ ap (λ (ls : List Lookup). followed_by 1 (search reads (λ a. false) ls) >>= λ answers. gives (scanned_rows n.table terms [] answers)) (sym same)),
      )

  search_first : (lookups : List Lookup) (index : ℕ) (x : ℕ × List Datum) → IsSoundTable n.table → All (IsTypedTerm n.table) terms → index_for n.table terms ≡ Some x → index ≡ x.0
      → lookups ≡ row_lookups gateway (index_for n.table terms) ps
      → IsFirstPhase l gateway n terms (phases.Searching (record { index = index; lookups = lookups; passed = 0 }))
  unfolding ps by_index found_rows matched_rows
  search_first lookups index x sound typed e g f =
      let same : lookups ≡ row_lookups gateway (Some x) ps = f ∙ ap (λ o. row_lookups gateway o ps) e in
      let number : x.0 ≤ length n.table.unique = (index_is_typed n.table terms x sound typed e).number in (
        record {
          index = subst (λ (k : ℕ). k ≤ length n.table.unique) (sym g) number;
          of_index = subst (AllByRecursion (λ (y : Lookup). y.index ≡ index)) (sym same)
              (each_map (λ (y : Lookup). y.index ≡ index) (key_lookup x.0 x.1) (near_first gateway ps) (each _ (λ p. sym g) (near_first gateway ps)));
          lookups = subst (AllByRecursion (IsLookupFor l.catalog n.table)) (sym same) (rows_in (IsPartitionFor l.catalog n.table) gateway (Some x) ps ps_there);
        },
        (λ reads. ap (by_index reads) e
            ∙ (λ i. followed_by 1 (search reads has_pair (sym same i)) >>= λ first. followed_answers reads n.table (Some (sym g i, [])) first >>= λ answers. gives (matched_rows n.table terms answers))),
      )

  none_mapped : (o : Option (ℕ × List Datum)) → None ≡ option_map (λ x. x.0) o → o ≡ None
  none_mapped None e = refl
  none_mapped (Some x) e = absurd (cc)

  some_mapped : (o : Option (ℕ × List Datum)) (index : ℕ) → Some index ≡ option_map (λ x. x.0) o → (x : ℕ × List Datum) × (o ≡ Some x) × (index ≡ x.0)
  some_mapped None index e = absurd (cc)
  some_mapped (Some x) index e = (x, refl, same_Some index x.0 e)

  -- the look-ups that `row_search` answers
  looked_up : (lookups : List Lookup) (region : List ℕ) (partitions : List Partition) → region ≡ gateway → partitions ≡ partitions_of l n
      → lookups ≡ row_lookups region (index_for n.table terms) (searched_partitions terms partitions) → lookups ≡ row_lookups gateway (index_for n.table terms) ps
  unfolding ps
  looked_up lookups region partitions e f g = g ∙ (λ i. row_lookups (e i) (index_for n.table terms) (searched_partitions terms (f i)))

  pub scan_begins : (lookups : List Lookup) (index : Option ℕ) (region : List ℕ) (partitions : List Partition) (rows : List KeyedRow) → region ≡ gateway → partitions ≡ partitions_of l n
      → index ≡ option_map (λ x. x.0) (index_for n.table terms) → index ≡ None → lookups ≡ row_lookups region (index_for n.table terms) (searched_partitions terms partitions) → rows ≡ []
      → IsFirstPhase l gateway n terms (phases.Scanning (record { is_first = true; lookups = lookups; passed = 0; rows = rows }))
  scan_begins lookups index region partitions rows e f g none h r =
      subst (λ (k : List KeyedRow). IsFirstPhase l gateway n terms (phases.Scanning (record { is_first = true; lookups = lookups; passed = 0; rows = k }))) (sym r)
      (scan_first lookups (none_mapped (index_for n.table terms) (sym none ∙ g)) (looked_up lookups region partitions e f h))

  pub search_begins : (lookups : List Lookup) (index : Option ℕ) (number : ℕ) (region : List ℕ) (partitions : List Partition) → IsSoundTable n.table → All (IsTypedTerm n.table) terms
      → region ≡ gateway → partitions ≡ partitions_of l n → index ≡ option_map (λ x. x.0) (index_for n.table terms) → index ≡ Some number
      → lookups ≡ row_lookups region (index_for n.table terms) (searched_partitions terms partitions)
      → IsFirstPhase l gateway n terms (phases.Searching (record { index = number; lookups = lookups; passed = 0 }))
  search_begins lookups index number region partitions sound typed e f g some h =
      let x = some_mapped (index_for n.table terms) number (sym some ∙ g) in
      search_first lookups number x.0 sound typed x.1 x.2 (looked_up lookups region partitions e f h)

-- ---- statements that find rows

module _ (l : Layout) (gateway : List ℕ) (n : Named) where
  finds_first : (s : RowStatement) (reads : Reads) → FindsRows s
      → table_outcome l gateway reads n s ≡ (followed_if (is_update s) (found_rows reads n.table gateway (partitions_of l n) (terms_of s)) >>= λ old. found_outcome l reads n s old)
  unfolding table_outcome
  finds_first (Insert table names literals) reads f = absurd f
  finds_first (Select table wanted terms) reads f = refl
  finds_first (Update table targets terms) reads f = refl
  finds_first (Delete table terms) reads f = refl

  begun_by : (s : RowStatement) (reads : Reads) → FindsRows s → check_fault n.table n.database s ≡ None
      → checked_outcome l gateway reads s n ≡ (followed_if (is_update s) (found_rows reads n.table gateway (partitions_of l n) (terms_of s)) >>= λ old. found_outcome l reads n s old)
  begun_by s reads f e = ap (λ o. unless o (table_outcome l gateway reads n s)) e ∙ finds_first s reads f

  pub begun : (s : RowStatement) (phase : Phase) → FindsRows s → check_fault n.table n.database s ≡ None → IsFirstPhase l gateway n (terms_of s) phase
      → IsBegun l gateway n s (beginnings.Goes phase)
  begun s phases.Ready f e h = absurd h
  begun s (phases.Searching w) f e h = (
    tt,
    (record { finds = f; checked = e }, h.0),
    (λ reads. begun_by s reads f e ∙ ap (λ x. followed_if (is_update s) x >>= λ old. found_outcome l reads n s old) (h.1 reads)),
  )
  begun s (phases.Scanning w) f e h = (
    tt,
    (record { finds = f; checked = e }, h.0),
    (λ reads. begun_by s reads f e ∙ ap (λ x. followed_if (is_update s) x >>= λ old. found_outcome l reads n s old) (h.1 reads)),
  )
  begun s (phases.Checking w) f e h = absurd h

  pub has_fault : (s : RowStatement) (code : SqlState) → check_fault n.table n.database s ≡ Some code → IsBegun l gateway n s (beginnings.Faulty code)
  has_fault s code e = λ reads. ap (λ o. unless o (table_outcome l gateway reads n s)) e

pub typed_terms : (t : Table) (d : Database) (s : RowStatement) → FindsRows s → check_fault t d s ≡ None → TextsAreUtf8 s → All (IsTypedTerm t) (terms_of s)
typed_terms t d (Insert table names literals) f e u = absurd f
typed_terms t d (Select table wanted terms) f e u = select_is_typed t d table wanted terms e u
typed_terms t d (Update table targets terms) f e u = update_is_typed t d table targets terms e u
typed_terms t d (Delete table terms) f e u = delete_is_typed t d table terms e u
