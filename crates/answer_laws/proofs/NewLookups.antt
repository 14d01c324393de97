-- The look-ups of the rows that INSERT makes and of those that UPDATE changes.
use Rattle.std.proofs.Common.{◌≡◌, ℕ, Bool, true, false, List, [], ◌∷◌, refl, sym, ap, ◌∙◌, subst, inl, inr, arith}
use Rattle.std.specs.Prelude.{◌⊎◌, not, filter, map, slice_get, Option, Some, None}
use Rattle.std.specs.Cmp.Lexicographic.{nat_list_cmp_total}
use Rattle.std.specs.FinMap.Entries.{find}
use Rattle.std.specs.List.{enumerate_from}
use Rattle.std.proofs.lemmas.Map.Lookups.{exact_bytes}
use Rattle.region_sql.specs.declared.row_statements.Term.{Term}
use Rattle.descriptors.specs.declared.table.Table.{Table}
use Rattle.row_locality.specs.Keys.{primary_key}
use Rattle.row_locality.specs.Pairs.{bytes_cmp}
use Rattle.row_locality.specs.Plain.{Layout, PlainDatabase, IsSoundLayout, IsValid, AreApart, Partition, partitions}
use Rattle.row_locality.specs.Rows.{Fits, are_equal_in, indexes, region_of, values_at}
use Rattle.sql_eval.specs.Evaluation.{KeyedRow}
use Rattle.sql_eval.specs.Lookups.{key_lookup, own_first, index_lookups, key_lookups, new_row_lookups, changed_indexes, changed_row_lookups}
use Rattle.sql_eval.specs.RowWords.{matches}
use Rattle.sql_eval.specs.Search.{Lookup}
use Rattle.answer_laws.proofs.FoundRows.{has_near, near_has}
use Rattle.answer_laws.proofs.FreeRows.{IsNewLookup, AreLookups}
use Rattle.answer_laws.proofs.HeldPairs.{rows_apart}
use Rattle.answer_laws.proofs.HeldRows.{row_home}
use Rattle.answer_laws.proofs.KeyedEntries.{found_entry, entry_found}
use Rattle.answer_laws.proofs.MatchedRows.{keyed, one_keyed, matching_rising}
use Rattle.answer_laws.proofs.Members.{Has, has_filter, filter_has}
use Rattle.answer_laws.proofs.MoreMembers.{append_has, has_first, has_second, has_map, map_has, has_flat, flat_has, numbered_has, has_numbered, none_if, not_both}
use Rattle.answer_laws.proofs.Pairwise.{two_filter}
use Rattle.answer_laws.proofs.RangesOfTables.{home}
use Rattle.answer_laws.proofs.RowOrder.{Row}
use Rattle.answer_laws.proofs.SharedValues.{equal_values}
use Rattle.answer_laws.proofs.TablePairs.{one_row}

-- ---- the look-ups of one row

own_has : (o : Option (List ℕ)) (ps : List Partition) (p : Partition) → Has p (own_first o ps) → Has p ps
own_has None ps p h = h
own_has (Some region) ps p h = near_has region ps p h

has_own : (o : Option (List ℕ)) (ps : List Partition) (p : Partition) → Has p ps → Has p (own_first o ps)
has_own None ps p h = h
has_own (Some region) ps p h = has_near region ps p h

-- a look-up of a row in one of these indexes and partitions
record IsKeyLookup (t : Table) (ps : List Partition) (xs : List (ℕ × List ℕ)) (row : Row) (x : Lookup) : Type 0 where
  index : ℕ × List ℕ
  there : Has index xs
  partition : Partition
  in_table : Has partition ps
  lookup_is : x ≡ key_lookup index.0 (values_at index.1 row) partition

key_lookup_of : (t : Table) (ps : List Partition) (xs : List (ℕ × List ℕ)) (row : Row) (x : Lookup) → Has x (key_lookups t ps xs row) → IsKeyLookup t ps xs row x
key_lookup_of t ps xs row x h =
    let r = flat_has (index_lookups t ps row) xs x h in
    let k = map_has (key_lookup r.0.0 (values_at r.0.1 row)) (own_first (region_of t row) ps) x r.2 in
    record { index = r.0; there = r.1; partition = k.0; in_table = own_has (region_of t row) ps k.0 k.1; lookup_is = sym k.2 }

has_key_lookup : (t : Table) (ps : List Partition) (xs : List (ℕ × List ℕ)) (row : Row) (index : ℕ × List ℕ) (p : Partition) → Has index xs → Has p ps
    → Has (key_lookup index.0 (values_at index.1 row) p) (key_lookups t ps xs row)
has_key_lookup t ps xs row index p h k =
    has_flat (index_lookups t ps row) xs index (key_lookup index.0 (values_at index.1 row) p) h
    (has_map (key_lookup index.0 (values_at index.1 row)) (own_first (region_of t row) ps) p (has_own (region_of t row) ps p k))

index_at : (t : Table) (e : ℕ × List ℕ) → Has e (enumerate_from 0 (indexes t)) → slice_get (indexes t) e.0 ≡ Some e.1
index_at t e h =
    let r = numbered_has 0 (indexes t) e h in
    let same : r.0 ≡ e.0 = omega (arith, r.2) in
    subst (λ (n : ℕ). slice_get (indexes t) n ≡ Some e.1) same r.1

-- ---- INSERT

module _ (l : Layout) (d : PlainDatabase) (place : ℕ) (t : Table) (sound : IsSoundLayout l) (valid : IsValid l.catalog d) (at : slice_get l.catalog.tables place ≡ Some t) where
  abbrev table_parts : List Partition
  table_parts = partitions l place t

  inserted : (made : List Row) (x : Lookup) → Has x (new_row_lookups t table_parts made) → IsNewLookup l place t made x
  unfolding new_row_lookups
  inserted made x h =
      let r = flat_has (key_lookups t table_parts (enumerate_from 0 (indexes t))) made x h in
      let k = key_lookup_of t table_parts (enumerate_from 0 (indexes t)) r.0 x r.2 in
      record {
        row = r.0;
        there = r.1;
        number = k.index.0;
        places = k.index.1;
        index = index_at t k.index k.there;
        partition = k.partition;
        in_table = k.in_table;
        lookup_is = k.lookup_is;
      }

  has_inserted : (made : List Row) (r m : Row) (number : ℕ) (places : List ℕ) → Has r (d place) → Has m made → slice_get (indexes t) number ≡ Some places
      → Has (key_lookup number (values_at places m) (home l place t r)) (new_row_lookups t table_parts made)
  unfolding new_row_lookups
  has_inserted made r m number places h k e =
      has_flat (key_lookups t table_parts (enumerate_from 0 (indexes t))) made m (key_lookup number (values_at places m) (home l place t r)) k
      (has_key_lookup t table_parts (enumerate_from 0 (indexes t)) m (number, places) (home l place t r) (has_numbered 0 number number (indexes t) places e (omega arith))
      (row_home l d place t sound valid at r h))

  pub insert_lookups : (made : List Row) → ((m : Row) → Has m made → Fits t m) → AreLookups l d place t [] (new_row_lookups t table_parts made) (d place) made
  insert_lookups made fits = record {
    each = inserted made;
    covers = λ r m number places h k e f. has_inserted made r m number places h k e;
    stays = λ r h. h;
    not_replaced = λ r h. refl;
    all_stay = λ r h e. h;
    fits = fits;
    apart = rows_apart l d place t valid at;
  }

-- ---- UPDATE

-- An old row and what it becomes.
abbrev pub Becomes : Row → Row → (olds news : List Row) → Type 0
Becomes o m [] news = ⊥
Becomes o m (x ∷ olds) [] = ⊥
Becomes o m (x ∷ olds) (y ∷ news) = ((x ≡ o) × (y ≡ m)) ⊎ Becomes o m olds news

pub becomes_old : (o m : Row) (olds news : List Row) → Becomes o m olds news → Has o olds
becomes_old o m [] news h = absurd h
becomes_old o m (x ∷ olds) [] h = absurd h
becomes_old o m (x ∷ olds) (y ∷ news) (inl h) = inl h.0
becomes_old o m (x ∷ olds) (y ∷ news) (inr h) = inr (becomes_old o m olds news h)

pub becomes_new : (o m : Row) (olds news : List Row) → Becomes o m olds news → Has m news
becomes_new o m [] news h = absurd h
becomes_new o m (x ∷ olds) [] h = absurd h
becomes_new o m (x ∷ olds) (y ∷ news) (inl h) = inl h.1
becomes_new o m (x ∷ olds) (y ∷ news) (inr h) = inr (becomes_new o m olds news h)

record IsChangedLookup (t : Table) (ps : List Partition) (olds news : List Row) (x : Lookup) : Type 0 where
  old : Row
  new : Row
  becomes : Becomes old new olds news
  lookup : IsKeyLookup t ps (changed_indexes t old new) new x

later_change : (t : Table) (ps : List Partition) (y z : Row) (olds news : List Row) (x : Lookup) → IsChangedLookup t ps olds news x → IsChangedLookup t ps (y ∷ olds) (z ∷ news) x
later_change t ps y z olds news x r = record { old = r.old; new = r.new; becomes = inr r.becomes; lookup = r.lookup }

change_cases : (t : Table) (ps : List Partition) (y z : Row) (olds news : List Row) (x : Lookup) → (Has x (changed_row_lookups t ps olds news) → IsChangedLookup t ps olds news x)
    → Has x (key_lookups t ps (changed_indexes t y z) z) ⊎ Has x (changed_row_lookups t ps olds news) → IsChangedLookup t ps (y ∷ olds) (z ∷ news) x
change_cases t ps y z olds news x f (inl h) = record { old = y; new = z; becomes = inl (refl, refl); lookup = key_lookup_of t ps (changed_indexes t y z) z x h }
change_cases t ps y z olds news x f (inr h) = later_change t ps y z olds news x (f h)

changed_of : (t : Table) (ps : List Partition) (olds news : List Row) (x : Lookup) → Has x (changed_row_lookups t ps olds news) → IsChangedLookup t ps olds news x
unfolding changed_row_lookups
changed_of t ps [] news x h = absurd h
changed_of t ps (y ∷ olds) [] x h = absurd h
changed_of t ps (y ∷ olds) (z ∷ news) x h =
    change_cases t ps y z olds news x (changed_of t ps olds news x) (append_has (key_lookups t ps (changed_indexes t y z) z) (changed_row_lookups t ps olds news) x h)

has_changed : (t : Table) (ps : List Partition) (olds news : List Row) (o m : Row) (index : ℕ × List ℕ) (p : Partition) → Becomes o m olds news → Has index (changed_indexes t o m) → Has p ps
    → Has (key_lookup index.0 (values_at index.1 m) p) (changed_row_lookups t ps olds news)
unfolding changed_row_lookups
has_changed t ps [] news o m index p h k q = absurd h
has_changed t ps (y ∷ olds) [] o m index p h k q = absurd h
has_changed t ps (y ∷ olds) (z ∷ news) o m index p (inl h) k q =
    let there : Has (key_lookup index.0 (values_at index.1 m) p) (key_lookups t ps (changed_indexes t o m) m) = has_key_lookup t ps (changed_indexes t o m) m index p k q in
    has_first (key_lookups t ps (changed_indexes t y z) z) (changed_row_lookups t ps olds news) (key_lookup index.0 (values_at index.1 m) p)
    (subst (λ (w : Row × Row). Has (key_lookup index.0 (values_at index.1 m) p) (key_lookups t ps (changed_indexes t w.0 w.1) w.1)) (λ i. (sym h.0 i, sym h.1 i)) there)
has_changed t ps (y ∷ olds) (z ∷ news) o m index p (inr h) k q =
    has_second (key_lookups t ps (changed_indexes t y z) z) (changed_row_lookups t ps olds news) (key_lookup index.0 (values_at index.1 m) p)
    (has_changed t ps olds news o m index p h k q)

module _ (l : Layout) (d : PlainDatabase) (place : ℕ) (t : Table) (sound : IsSoundLayout l) (valid : IsValid l.catalog d) (at : slice_get l.catalog.tables place ≡ Some t)
    (terms : List Term) (new : List Row) where
  abbrev olds : List Row
  olds = filter (matches t terms) (d place)

  abbrev stay : List Row
  stay = filter (λ row. not (matches t terms row)) (d place)

  abbrev places_of : List Partition
  places_of = partitions l place t

  pub never_both : (r : Row) → Has r olds → Has r stay → ⊥
  never_both r h k =
      not_both (matches t terms r) (filter_has (matches t terms) (d place) r h).1 (filter_has (λ row. not (matches t terms row)) (d place) r k).1

  updated : (x : Lookup) → Has x (changed_row_lookups t places_of olds new) → IsNewLookup l place t new x
  updated x h =
      let r = changed_of t places_of olds new x h in
      let k : IsKeyLookup t places_of (changed_indexes t r.old r.new) r.new x = r.lookup in
      record {
        row = r.new;
        there = becomes_new r.old r.new olds new r.becomes;
        number = k.index.0;
        places = k.index.1;
        index = index_at t k.index (filter_has (λ (y : ℕ × List ℕ). not (are_equal_in r.old r.new y.1)) (enumerate_from 0 (indexes t)) k.index k.there).0;
        partition = k.partition;
        in_table = k.in_table;
        lookup_is = k.lookup_is;
      }

  has_updated : (o r m : Row) (number : ℕ) (places : List ℕ) (b : Bool) → are_equal_in o m places ≡ b → Becomes o m olds new → Has r stay → slice_get (indexes t) number ≡ Some places
      → values_at places r ≡ values_at places m → Has (key_lookup number (values_at places m) (home l place t r)) (changed_row_lookups t places_of olds new)
  has_updated o r m number places true e c h i f =
      let old_there : Has o (d place) = (filter_has (matches t terms) (d place) o (becomes_old o m olds new c)).0 in
      let there : Has r (d place) = (filter_has (λ row. not (matches t terms row)) (d place) r h).0 in
      let same : o ≡ r = one_row t (d place) o r number places (rows_apart l d place t valid at) old_there there i (equal_values o m places e ∙ sym f) in
      absurd (never_both r (subst (λ (z : Row). Has z olds) same (becomes_old o m olds new c)) h)
  has_updated o r m number places false e c h i f =
      let there : Has r (d place) = (filter_has (λ row. not (matches t terms row)) (d place) r h).0 in
      let changes : Has (number, places) (changed_indexes t o m) =
      has_filter (λ (y : ℕ × List ℕ). not (are_equal_in o m y.1)) (enumerate_from 0 (indexes t)) (number, places) (has_numbered 0 number number (indexes t) places i (omega arith)) (ap not e) in
      has_changed t places_of olds new o m (number, places) (home l place t r) c changes (row_home l d place t sound valid at r there)

  not_found : (r : Row) → Has r stay → find bytes_cmp (primary_key t r) (map (keyed t) olds) ≡ None
  not_found r h = none_if (find bytes_cmp (primary_key t r) (map (keyed t) olds)) (λ o e. clash o (found_entry bytes_cmp nat_list_cmp_total exact_bytes (primary_key t r) o (map (keyed t) olds) e))
    where
      clash : (o : Row) → Has (primary_key t r, o) (map (keyed t) olds) → ⊥
      clash o k =
          let q = map_has (keyed t) olds (primary_key t r, o) k in
          let there : Has r (d place) = (filter_has (λ row. not (matches t terms row)) (d place) r h).0 in
          let old_there : Has q.0 (d place) = (filter_has (matches t terms) (d place) q.0 q.1).0 in
          let same : q.0 ≡ r = one_keyed l d place t sound valid at q.0 r old_there there (ap (λ (e : KeyedRow). e.0) q.2) in
          never_both r (subst (λ (z : Row). Has z olds) same q.1) h

  stays_by : (r : Row) (b : Bool) → matches t terms r ≡ b → Has r (d place) → find bytes_cmp (primary_key t r) (map (keyed t) olds) ≡ None → Has r stay
  stays_by r true e h f =
      let k : Has (keyed t r) (map (keyed t) olds) = has_map (keyed t) olds r (has_filter (matches t terms) (d place) r h e) in
      absurd
      (cc (f, entry_found bytes_cmp nat_list_cmp_total exact_bytes (primary_key t r) r (map (keyed t) olds) (matching_rising l d place t sound valid at terms) k))
  stays_by r false e h f = has_filter (λ row. not (matches t terms row)) (d place) r h (ap not e)

  pub update_lookups : ((m : Row) → Has m new → Fits t m) → ((m : Row) → Has m new → (o : Row) × Becomes o m olds new)
      → AreLookups l d place t (map (keyed t) olds) (changed_row_lookups t places_of olds new) stay new
  update_lookups fits partner = record {
    each = updated;
    covers = λ r m number places h k e f. let o = partner m k in has_updated o.0 r m number places (are_equal_in o.0 m places) refl o.1 h e f;
    stays = λ r h. (filter_has (λ row. not (matches t terms row)) (d place) r h).0;
    not_replaced = not_found;
    all_stay = λ r h e. stays_by r (matches t terms r) refl h e;
    fits = fits;
    apart = two_filter (AreApart t) (λ row. not (matches t terms row)) (d place) (rows_apart l d place t valid at);
  }
