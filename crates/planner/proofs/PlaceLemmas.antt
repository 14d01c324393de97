-- Entries by place: those of a map are those of the definitions.
use Rattle.std.proofs.Common.{◌≡◌, ℕ, ◌+◌, ◌<◌, ◌≤◌, cond, drop, get_or, length, List, [], ◌∷◌, ◌++◌, refl, sym, ap, ◌∙◌}
use Rattle.std.specs.Prelude.{Option, Some, None, option_to_list}
use Rattle.std.specs.BTreeMap.{insert_entry, is_at}
use Rattle.std.specs.FinMap.Entries.{by_order, find, put}
use Rattle.std.specs.List.{cons_option}
use Rattle.std.specs.Map.{lookup}
use Rattle.std.specs.Option.{option_map_or}
use Rattle.std.specs.Ordering.{match_ordering}
use Rattle.std.proofs.lemmas.List.{append-nil, append_assoc, drop_all, drop_more}
use Rattle.std.specs.declared.cmp.Ordering.{Ordering}
use Rattle.std.specs.declared.cmp.Ordering.TheVariants.{Less, Equal, Greater}
use Rattle.mr_base.specs.declared.spans.Write.{Write}
use Rattle.sql_eval.specs.OwnWrites.{FirstAndLast, OwnWrite, OwnWrites, Place, place_cmp, with_write, with_writes, write_at, writes_of}

same_choice : {A : Type 0} (o : Ordering) (a b c d : A) → c ≡ d → match_ordering o a b c ≡ by_order o a b d
same_choice Less a b c d e = refl
same_choice Equal a b c d e = refl
same_choice Greater a b c d e = e

module _ {K X : Type 0} (R : K → K → Ordering) where
  pub insert_is_put : (k : K) (v : X) (es : List (K × X)) → insert_entry R es k v ≡ put R k v es
  insert_is_put k v [] = refl
  insert_is_put k v (e ∷ es) =
      same_choice (R k e.0) ((k, v) ∷ e ∷ es) ((e.0, v) ∷ es) (e ∷ insert_entry R es k v) (e ∷ put R k v es) (ap (λ l. e ∷ l) (insert_is_put k v es))

  pub lookup_is_find : (k : K) (es : List (K × X)) → lookup (is_at (R k)) es ≡ find R k es
  lookup_is_find k [] = refl
  lookup_is_find k (e ∷ es) = ap (cond (is_at (R k) e.0) (Some e.1)) (lookup_is_find k es)

-- what is kept of a place
pub kept_at : {A : Type 0} (choose : FirstAndLast → A) (place : Place) (entries own : OwnWrites) (o : Option FirstAndLast) (other : A) → entries ≡ own
    → o ≡ lookup (is_at (place_cmp place)) entries → option_map_or choose o other ≡ option_map_or choose (find place_cmp place own) other
kept_at choose place entries own o other v e =
    ap (λ (x : Option FirstAndLast). option_map_or choose x other) (e ∙ lookup_is_find place_cmp place entries ∙ ap (find place_cmp place) v)

-- a place that holds another value
pub kept_with : (place : Place) (before after first : Option (List ℕ)) (entries own new : OwnWrites) → entries ≡ own
    → first ≡ option_map_or (λ x. x.first) (find place_cmp place own) before
    → new ≡ insert_entry place_cmp entries place (record { first = first; last = after }) → new ≡ with_write own (record { range = place.0; key = place.1; before = before; after = after })
kept_with place before after first entries own new v f e =
    let kept : Option (List ℕ) → FirstAndLast = λ x. record { first = x; last = after } in
    e ∙ insert_is_put place_cmp place (kept first) entries ∙ (λ i. put place_cmp place (kept (f i)) (v i))

-- one more place gives its write
pub write_more : (held : List Write) (place : Place) (x : FirstAndLast) (rest : OwnWrites) → (held ++ option_to_list (write_at place x)) ++ writes_of rest ≡ held ++ writes_of ((place, x) ∷ rest)
unfolding writes_of
write_more held place x rest =
    append_assoc held (option_to_list (write_at place x)) (writes_of rest) ∙ ap (λ l. held ++ l) (one (write_at place x))
  where
    one : (o : Option Write) → option_to_list o ++ writes_of rest ≡ cons_option o (writes_of rest)
    one None = refl
    one (Some w) = refl

-- no place is left
pub all_written : (held : List Write) (rest own : OwnWrites) → rest ≡ [] → held ++ writes_of rest ≡ writes_of own → held ≡ writes_of own
unfolding writes_of
all_written held rest own e f = sym (append-nil held) ∙ ap (λ (r : OwnWrites). held ++ writes_of r) (sym e) ∙ f

-- one more write is made
pub made_more : (own new first : OwnWrites) (writes : List OwnWrite) (i : ℕ) (w : OwnWrite) → i < length writes → w ≡ get_or writes i w → new ≡ with_write own w
    → with_writes own (drop i writes) ≡ with_writes first writes → with_writes new (drop (i + 1) writes) ≡ with_writes first writes
unfolding with_writes
made_more own new first writes i w lt at e h =
    ap (λ o. with_writes o (drop (i + 1) writes)) e
    ∙ ap (λ x. with_writes own (x ∷ drop (i + 1) writes)) at
    ∙ ap (with_writes own) (sym (drop_more writes i w lt)) ∙ h

pub all_made : (own first : OwnWrites) (writes : List OwnWrite) (i : ℕ) → length writes ≤ i → with_writes own (drop i writes) ≡ with_writes first writes → own ≡ with_writes first writes
unfolding with_writes
all_made own first writes i h e = ap (with_writes own) (sym (drop_all i writes h)) ∙ e
