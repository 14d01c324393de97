use Rattle.std.proofs.Common.{◌≡◌, ◌≢◌, ℕ, suc, ◌<◌, Bool, true, false, cond, ◌&&◌, List, [], ◌∷◌, ◌++◌, Option, None, Some, length, map, find, position, get_or, refl, ap, sym, ◌∙◌, arith, subst, nat_le, true≢false}
use Rattle.std.specs.Option.{IfSome}
use Rattle.std.specs.Str.{bytes_eq}
use Rattle.std.proofs.lemmas.Bool.{leb-false}
use Rattle.std.proofs.lemmas.List.{get_or-map, length-append, length-map, map-append}
use Rattle.std.proofs.lemmas.List.Quantifiers.{all_pairs_push}
use Rattle.region_sql.specs.declared.region_statements.Locality.{Locality}
use Rattle.region_sql.specs.declared.region_statements.Locality.TheVariants.{InPrimary}
use Rattle.descriptors.specs.declared.database.Database.{Database}
use Rattle.descriptors.specs.declared.table.Table.{Table}
use Rattle.descriptors.specs.Contents.{Contents, is_database, is_table}
use Rattle.descriptors.specs.Changes.{homed_in_primary, with_database, with_first_region, with_locality, with_table}
use Rattle.descriptors.specs.Lists.{changed}
use Rattle.descriptors.specs.Sound.{AreDistinct, IsWithinLimits, full_name}
use Rattle.descriptors.proofs.Additions.{bytes_same}
use Rattle.descriptors.proofs.Found.{none_found}
use Rattle.descriptors.proofs.Index.{within_from}

length-changed : {X : Type 0} (p : X → Bool) (f : X → X) (xs : List X) → length (changed p f xs) ≡ length xs
length-changed p f [] = refl
length-changed p f (x ∷ xs) =
    elim (p x) as (λ b. length (cond b (f x ∷ xs) (x ∷ changed p f xs)) ≡ length (x ∷ xs)) [ true ↦ refl | false ↦ ap suc (length-changed p f xs) ]

-- What the change leaves of each item stays of all.
map-changed : {X K : Type 0} (key : X → K) (p : X → Bool) (f : X → X) → ((x : X) → key (f x) ≡ key x) → (xs : List X) → map key (changed p f xs) ≡ map key xs
map-changed key p f keeps [] = refl
map-changed key p f keeps (x ∷ xs) =
    elim (p x) as (λ b. map key (cond b (f x ∷ xs) (x ∷ changed p f xs)) ≡ map key (x ∷ xs)) [ true ↦ ap (λ k. k ∷ map key xs) (keeps x) | false ↦ ap (λ l. key x ∷ l) (map-changed key p f keeps xs) ]

-- The current database stays there where there are no fewer databases.
still_current : (o : Option ℕ) (m n : ℕ) → m ≡ n → IfSome o (λ k. k < n) → IfSome o (λ k. k < m)
still_current o m n same h = subst (λ l. IfSome o (λ k. k < l)) (sym same) h

pub limits_changed : (c : Contents) (n : List ℕ) (f : Database → Database) → IsWithinLimits c → IsWithinLimits (with_database c n f)
limits_changed c n f l = record {
  databases = omega (arith, l.databases, length-changed (is_database n) f c.databases);
  tables = l.tables;
  named_apart = l.named_apart;
  current = still_current c.current (length (changed (is_database n) f c.databases)) (length c.databases) (length-changed (is_database n) f c.databases) l.current;
}

pub limits_used : (c : Contents) (n : List ℕ) → IsWithinLimits c → IsWithinLimits (record c { current = position (is_database n) c.databases })
limits_used c n l = record {
  databases = l.databases;
  tables = l.tables;
  named_apart = l.named_apart;
  current = within_from (is_database n) c.databases (position (is_database n) c.databases) refl;
}

pub limits_with_one_more : (c : Contents) (d : Database) → IsWithinLimits c → nat_le 16 (length c.databases) ≡ false → IsWithinLimits (record c { databases = c.databases ++ d ∷ []; current = Some (length c.databases) })
limits_with_one_more c d l room = record {
  databases = omega (arith, length-append c.databases (d ∷ []), leb-false 16 (length c.databases) room);
  tables = l.tables;
  named_apart = l.named_apart;
  current = omega (arith, length-append c.databases (d ∷ []));
}

is_own : (s t : Table) → full_name s ≡ full_name t → is_table t.database t.name s ≡ true
is_own s t same =
    let d : bytes_eq t.database s.database ≡ true = bytes_same t.database s.database (sym (ap (λ (p : List ℕ × List ℕ). p.0) same)) in
    let n : bytes_eq t.name s.name ≡ true = bytes_same t.name s.name (sym (ap (λ (p : List ℕ × List ℕ). p.1) same)) in
    ap (λ b. b && bytes_eq t.name s.name) d ∙ n

pub limits_with_table : (c : Contents) (t : Table) → IsWithinLimits c → nat_le 64 (length c.tables) ≡ false → find (is_table t.database t.name) c.tables ≡ None → IsWithinLimits (with_table c t)
limits_with_table c t l room none = record {
  databases = l.databases;
  tables = omega (arith, length-append c.tables (t ∷ []), leb-false 64 (length c.tables) room);
  named_apart = subst AreDistinct (sym (map-append full_name c.tables (t ∷ [])))
      (all_pairs_push (λ x y. x ≢ y) (map full_name c.tables) (full_name t) l.named_apart (λ k e lt same. apart k (subst (λ n. k < n) (length-map c.tables full_name) lt) (sym (at k e (subst (λ n. k < n) (length-map c.tables full_name) lt)) ∙ same)));
  current = l.current;
}
  where
    at : (k : ℕ) (e : List ℕ × List ℕ) → k < length c.tables → get_or (map full_name c.tables) k e ≡ full_name (get_or c.tables k t)
    at k e lt = get_or-map full_name c.tables k t e lt

    apart : (k : ℕ) → k < length c.tables → full_name (get_or c.tables k t) ≡ full_name t → ⊥
    apart k lt same = true≢false (sym (is_own (get_or c.tables k t) t same) ∙ none_found (is_table t.database t.name) c.tables none k t lt)

pub limits_relocated : (c : Contents) (p : Table → Bool) (l : Locality) → IsWithinLimits c → IsWithinLimits (record c { tables = changed p (with_locality l) c.tables })
limits_relocated c p l s = record {
  databases = s.databases;
  tables = omega (arith, s.tables, length-changed p (with_locality l) c.tables);
  named_apart = subst AreDistinct (sym (map-changed full_name p (with_locality l) (λ x. refl) c.tables)) s.named_apart;
  current = s.current;
}

homed_names : (n : List ℕ) (ts : List Table) → map full_name (map (homed_in_primary n) ts) ≡ map full_name ts
homed_names n [] = refl
homed_names n (t ∷ ts) =
    let same : full_name (homed_in_primary n t) ≡ full_name t =
    elim (bytes_eq n t.database) as (λ b. full_name (cond b (with_locality InPrimary t) t) ≡ full_name t) [ true ↦ refl | false ↦ refl ] in
    ap (λ k. k ∷ map full_name (map (homed_in_primary n) ts)) same ∙ ap (λ l. full_name t ∷ l) (homed_names n ts)

pub limits_homed : (c : Contents) (n r : List ℕ) → IsWithinLimits c → IsWithinLimits (record c { databases = changed (is_database n) (with_first_region r) c.databases; tables = map (homed_in_primary n) c.tables })
limits_homed c n r l = record {
  databases = omega (arith, l.databases, length-changed (is_database n) (with_first_region r) c.databases);
  tables = omega (arith, l.tables, length-map c.tables (homed_in_primary n));
  named_apart = subst AreDistinct (sym (homed_names n c.tables)) l.named_apart;
  current = still_current c.current (length (changed (is_database n) (with_first_region r) c.databases)) (length c.databases) (length-changed (is_database n) (with_first_region r) c.databases) l.current;
}

-- The same catalog without its tables.
pub limits_without_tables : (c : Contents) → IsWithinLimits c → IsWithinLimits (record c { tables = [] })
limits_without_tables c l = record {
  databases = l.databases;
  tables = omega arith;
  named_apart = λ i j x lt within. absurd (omega arith);
  current = l.current;
}
