-- What is known through own writes of what a database held at first is what it holds now.
use Rattle.std.proofs.Common.{◌≡◌, ℕ, Bool, true, false, cond, List, refl, sym, ap, ◌∙◌, subst}
use Rattle.std.specs.Prelude.{T, ◌==◌, if◌then◌else◌, filter_map, Option, Some, None, option_map, is_none}
use Rattle.std.specs.Cmp.Lexicographic.{nat_list_cmp_total}
use Rattle.std.specs.FinMap.Entries.{find, where_key, is_sorted, find-where_key, is_sorted-where_key, same_entries}
use Rattle.std.specs.Option.{option_or}
use Rattle.std.proofs.lemmas.Bool.{and_parts, eqb-true}
use Rattle.std.proofs.lemmas.Map.Lookups.{exact_bytes}
use Rattle.mr_base.specs.declared.spans.Ask.{Ask}
use Rattle.row_locality.specs.Pairs.{KeyValue, bytes_cmp}
use Rattle.row_locality.specs.Plain.{Layout, PlainDatabase, range_pairs}
use Rattle.row_locality.specs.Spans.{is_in}
use Rattle.sql_eval.specs.Agreement.{range_value}
use Rattle.sql_eval.specs.OwnWrites.{OwnWrites, FirstAndLast, Place, place_cmp, is_asked, values_written, patched_pairs, reads_through}
use Rattle.sql_eval.specs.Reads.{stored_reads}
use Rattle.answer_laws.proofs.KeyedEntries.{found_entry, entry_found}
use Rattle.answer_laws.proofs.Members.{Has}
use Rattle.answer_laws.proofs.MoreMembers.{same_some, same_option, has_filter_map, filter_map_has, or_none}
use Rattle.answer_laws.proofs.PutAll.{sorted_all, last_of, find_all, last_has, has_last, range_sorted}
use Rattle.answer_laws.proofs.TrackedWrites.{Tracks, place_total, place_exact, same_number}
use Rattle.answer_laws.proofs.WrittenValues.{written_at}

-- what a test by key leaves of a list holds, at a key, what the list holds there, or nothing
pub value_where : (test : List ℕ → Bool) (key : List ℕ) (es : List KeyValue) → find bytes_cmp key (where_key bytes_cmp test es) ≡ cond (test key) (find bytes_cmp key es) None
value_where test key es = find-where_key bytes_cmp test key (λ x e. ap test (sym (exact_bytes key x e))) es

-- what a range holds in a span
abbrev pub in_span : Layout → PlainDatabase → Ask → List KeyValue
in_span l d ask = where_key bytes_cmp (is_in ask.span) (range_pairs l d ask.range)

pub span_value : (l : Layout) (d : PlainDatabase) (ask : Ask) (key : List ℕ) → find bytes_cmp key (in_span l d ask) ≡ cond (is_in ask.span key) (range_value l d ask.range key) None
span_value l d ask key = value_where (is_in ask.span) key (range_pairs l d ask.range)

pub span_sorted : (l : Layout) (d : PlainDatabase) (ask : Ask) → T (is_sorted bytes_cmp (in_span l d ask))
span_sorted l d ask = is_sorted-where_key bytes_cmp (is_in ask.span) (range_pairs l d ask.range) (range_sorted l d ask.range)

-- ---- the last values that stand

abbrev standing : List (List ℕ × Option (List ℕ)) → List KeyValue
standing values = filter_map (λ x. option_map (λ value. (x.0, value)) x.1) values

pair_back : (key : List ℕ) (o : Option (List ℕ)) (p : KeyValue) → option_map (λ value. (key, value)) o ≡ Some p → (key ≡ p.0) × (o ≡ Some p.1)
pair_back key None p e = absurd (cc)
pair_back key (Some v) p e = let q : (key, v) ≡ p = same_some e in (ap (λ (x : KeyValue). x.0) q, ap (λ (x : KeyValue). Some x.1) q)

asked_cases : (ask : Ask) (place : Place) (x : FirstAndLast) (y : List ℕ × Option (List ℕ)) (b : Bool) → is_asked ask place ≡ b
    → (if b then Some (place.1, x.last) else None) ≡ Some y → (is_asked ask place ≡ true) × ((place.1, x.last) ≡ y)
asked_cases ask place x y true f e = (f, same_some e)
asked_cases ask place x y false f e = absurd (cc)

-- of each key that was written the last value is found
pub value_found : (own : OwnWrites) (ask : Ask) (key : List ℕ) (o : Option (List ℕ)) → T (is_sorted place_cmp own) → Has (key, o) (values_written own ask)
    → find bytes_cmp key (values_written own ask) ≡ Some o
value_found own ask key o sorted h =
    let r = filter_map_has (λ (x : Place × FirstAndLast). if is_asked ask x.0 then Some (x.0.1, x.1.last) else None) own (key, o) h in
    let k = asked_cases ask r.0.0 r.0.1 (key, o) (is_asked ask r.0.0) refl r.2 in
    let both = and_parts (r.0.0.0.0 == ask.range.0) (is_in ask.span r.0.0.1) k.0 in
    let range : r.0.0.0 ≡ ask.range = same_number r.0.0.0 ask.range (eqb-true r.0.0.0.0 ask.range.0 both.0) in
    let at : r.0.0.1 ≡ key = ap (λ (x : List ℕ × Option (List ℕ)). x.0) k.1 in
    let last : r.0.1.last ≡ o = ap (λ (x : List ℕ × Option (List ℕ)). x.1) k.1 in
    let there : find place_cmp (r.0.0.0, r.0.0.1) own ≡ Some r.0.1 = entry_found place_cmp place_total place_exact (r.0.0.0, r.0.0.1) r.0.1 own sorted r.1 in
    let inside : is_in ask.span key ≡ true = subst (λ (x : List ℕ). is_in ask.span x ≡ true) at both.1 in
    let moved : find place_cmp (ask.range, key) own ≡ Some r.0.1 = ap (λ (p : Place). find place_cmp p own) (λ i. (sym range i, sym at i)) ∙ there in
    written_at own ask key
    ∙ ap (λ (b : Bool). if b then option_map (λ (x : FirstAndLast). x.last) (find place_cmp (ask.range, key) own) else None) inside
    ∙ ap (option_map (λ (x : FirstAndLast). x.last)) moved ∙ ap (λ (v : Option (List ℕ)). Some v) last

abbrev joined : Option (Option (List ℕ)) → Option (List ℕ)
joined None = None
joined (Some o) = o

join_some : (f : Option (Option (List ℕ))) (v : List ℕ) → joined f ≡ Some v → f ≡ Some (Some v)
join_some None v e = absurd (cc)
join_some (Some o) v e = ap (λ (x : Option (List ℕ)). Some x) e

standing_has : (values : List (List ℕ × Option (List ℕ))) (key v : List ℕ) → Has (key, v) (standing values) → Has (key, Some v) values
standing_has values key v h =
    let r = filter_map_has (λ (x : List ℕ × Option (List ℕ)). option_map (λ value. (x.0, value)) x.1) values (key, v) h in
    let k = pair_back r.0.0 r.0.1 (key, v) r.2 in
    subst (λ (x : List ℕ × Option (List ℕ)). Has x values) (λ i. (k.0 i, k.1 i)) r.1

-- the last of the values that stand is the one that is found
pub standing_value : (own : OwnWrites) (ask : Ask) (key : List ℕ) → T (is_sorted place_cmp own)
    → last_of key (standing (values_written own ask)) ≡ joined (find bytes_cmp key (values_written own ask))
standing_value own ask key sorted =
    same_option (last_of key (standing (values_written own ask))) (joined (find bytes_cmp key (values_written own ask)))
    (λ v e. there v (last_has key (standing (values_written own ask)) v e)) back
  where
    there : (v : List ℕ) → Has (key, v) (standing (values_written own ask)) → joined (find bytes_cmp key (values_written own ask)) ≡ Some v
    there v h = ap joined (value_found own ask key (Some v) sorted (standing_has (values_written own ask) key v h))

    back : (v : List ℕ) → joined (find bytes_cmp key (values_written own ask)) ≡ Some v → last_of key (standing (values_written own ask)) ≡ Some v
    back v e =
        let h : Has (key, Some v) (values_written own ask) = found_entry bytes_cmp nat_list_cmp_total exact_bytes key (Some v) (values_written own ask) (join_some (find bytes_cmp key (values_written own ask)) v e) in
        let k : Has (key, v) (standing (values_written own ask)) = has_filter_map (λ (x : List ℕ × Option (List ℕ)). option_map (λ value. (x.0, value)) x.1) (values_written own ask) (key, Some v) (key, v) h refl in
        let r = has_last key (standing (values_written own ask)) v k in
        let same : joined (find bytes_cmp key (values_written own ask)) ≡ Some r.0 = there r.0 (last_has key (standing (values_written own ask)) r.0 r.1) in
        r.1 ∙ sym same ∙ e

-- ---- what is known through them

settled : (b : Bool) (o : Option FirstAndLast) (old new : Option (List ℕ)) → ((x : FirstAndLast) → o ≡ Some x → x.last ≡ new) → (o ≡ None → new ≡ old)
    → option_or (joined (if b then option_map (λ x. x.last) o else None)) (cond (is_none (if b then option_map (λ x. x.last) o else None)) (cond b old None) None) ≡ cond b new None
settled false o old new f g = refl
settled true None old new f g = sym (g refl)
settled true (Some x) old new f g = or_none x.last ∙ f x refl

through_value : (l : Layout) (d now : PlainDatabase) (own : OwnWrites) (ask : Ask) (key : List ℕ) → Tracks (range_value l d) own (range_value l now)
    → find bytes_cmp key (patched_pairs (values_written own ask) (in_span l d ask)) ≡ cond (is_in ask.span key) (range_value l now ask.range key) None
through_value l d now own ask key t =
    let untouched : List ℕ → Bool = λ x. is_none (find bytes_cmp x (values_written own ask)) in
    let left = where_key bytes_cmp untouched (in_span l d ask) in
    find_all key (standing (values_written own ask)) left
    ∙ ap (λ (o : Option (List ℕ)). option_or o (find bytes_cmp key left)) (standing_value own ask key t.sorted)
    ∙ ap (option_or (joined (find bytes_cmp key (values_written own ask)))) (value_where untouched key (in_span l d ask) ∙ ap (λ (o : Option (List ℕ)). cond (untouched key) o None) (span_value l d ask key))
    ∙ ap (λ (o : Option (Option (List ℕ))). option_or (joined o) (cond (is_none o) (cond (is_in ask.span key) (range_value l d ask.range key) None) None)) (written_at own ask key)
    ∙ settled (is_in ask.span key) (find place_cmp (ask.range, key) own) (range_value l d ask.range key) (range_value l now ask.range key)
    (λ x e. (t.touched ask.range key x e).1) (t.others ask.range key)

through_pairs : (l : Layout) (d now : PlainDatabase) (own : OwnWrites) (ask : Ask) → Tracks (range_value l d) own (range_value l now)
    → patched_pairs (values_written own ask) (in_span l d ask) ≡ in_span l now ask
through_pairs l d now own ask t =
    same_entries bytes_cmp nat_list_cmp_total exact_bytes _ _
    (sorted_all (standing (values_written own ask)) _ (is_sorted-where_key bytes_cmp _ (in_span l d ask) (span_sorted l d ask)))
    (span_sorted l now ask)
    (λ key. through_value l d now own ask key t ∙ sym (span_value l now ask key))

-- own writes that lead from one database to another show the other
pub through_writes : (l : Layout) (d now : PlainDatabase) (own : OwnWrites) → Tracks (range_value l d) own (range_value l now)
    → reads_through own (stored_reads l d) ≡ stored_reads l now
unfolding reads_through stored_reads
through_writes l d now own t = λ i ask. Some (through_pairs l d now own ask t i)
