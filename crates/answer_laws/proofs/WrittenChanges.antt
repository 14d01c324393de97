-- What own writes come to is exactly what changes.
use Rattle.std.proofs.Common.{◌≡◌, ℕ, suc, Bool, true, false, List, [], ◌∷◌, refl, sym, ap, ◌∙◌, subst, inl, inr, arith}
use Rattle.std.specs.Prelude.{◌≢◌, if◌then◌else◌, Contains, Option, Some, None}
use Rattle.std.specs.FinMap.Entries.{find}
use Rattle.std.specs.Option.{option_eq}
use Rattle.std.specs.Str.{bytes_eq}
use Rattle.std.proofs.lemmas.Slice.Eq.{bytes_eq-Decides}
use Rattle.mr_base.specs.declared.spans.Write.{Write}
use Rattle.row_locality.specs.Plain.{Layout, PlainDatabase}
use Rattle.sql_eval.specs.Agreement.{range_value, IsChange, AreChanges}
use Rattle.sql_eval.specs.OwnWrites.{OwnWrites, FirstAndLast, Place, place_cmp, write_at, writes_of}
use Rattle.answer_laws.proofs.KeyedEntries.{found_entry, entry_found}
use Rattle.answer_laws.proofs.Members.{Has, has_itself}
use Rattle.answer_laws.proofs.MoreMembers.{same_some, false_true, filter_map_has, has_filter_map}
use Rattle.answer_laws.proofs.TrackedWrites.{Tracks, place_total, place_exact}

pub contains_of : {X : Type 0} (x : X) (xs : List X) → Has x xs → Contains xs x
contains_of x [] h = absurd h
contains_of x (y ∷ ys) (inl e) = (0, omega arith, e)
contains_of x (y ∷ ys) (inr h) = let r = contains_of x ys h in (suc r.0, omega (arith, r.1), r.2)

option_same : (a b : Option (List ℕ)) → option_eq bytes_eq a b ≡ true → a ≡ b
option_same None None e = refl
option_same None (Some y) e = absurd (cc)
option_same (Some x) None e = absurd (cc)
option_same (Some x) (Some y) e = ap (λ (z : List ℕ). Some z) ((bytes_eq-Decides x y).0 e)

option_itself : (a : Option (List ℕ)) → option_eq bytes_eq a a ≡ true
option_itself None = refl
option_itself (Some x) = (bytes_eq-Decides x x).1 refl

abbrev last_write : Place → FirstAndLast → Write
last_write place x = record { range = place.0; key = place.1; value = x.last }

write_cases : (b : Bool) (place : Place) (x : FirstAndLast) (w : Write) → option_eq bytes_eq x.first x.last ≡ b → (if b then None else Some (last_write place x)) ≡ Some w
    → (x.first ≢ x.last) × (last_write place x ≡ w)
write_cases true place x w e f = absurd (cc)
write_cases false place x w e f =
    (λ q. false_true (sym e ∙ subst (λ (o : Option (List ℕ)). option_eq bytes_eq x.first o ≡ true) q (option_itself x.first)), same_some f)

changed_at : (b : Bool) (place : Place) (x : FirstAndLast) → option_eq bytes_eq x.first x.last ≡ b → x.first ≢ x.last → write_at place x ≡ Some (last_write place x)
changed_at true place x e h = absurd (h (option_same x.first x.last e))
changed_at false place x e h = ap (λ (b : Bool). if b then None else Some (last_write place x)) e

module _ (l : Layout) (d after : PlainDatabase) (own : OwnWrites) (t : Tracks (range_value l d) own (range_value l after)) where
  written_by : (w : Write) (o : Option FirstAndLast) → find place_cmp (w.range, w.key) own ≡ o → IsChange l d after w → Has w (writes_of own)
  unfolding writes_of
  written_by w None e h = absurd (h.was_other (sym (t.others w.range w.key e) ∙ h.becomes))
  written_by w (Some x) e h =
      let r = t.touched w.range w.key x e in
      let value : x.last ≡ w.value = r.1 ∙ h.becomes in
      let differs : x.first ≢ x.last = λ q. h.was_other (sym r.0 ∙ q ∙ value) in
      let place : Place = (w.range, w.key) in
      let is : write_at place x ≡ Some w =
      changed_at (option_eq bytes_eq x.first x.last) place x refl differs ∙ (λ i. Some (record { range = w.range; key = w.key; value = value i })) in
      has_filter_map (λ (y : Place × FirstAndLast). write_at y.0 y.1) own (place, x) w (found_entry place_cmp place_total place_exact place x own e) is

  change_of : (w : Write) → Has w (writes_of own) → IsChange l d after w
  unfolding writes_of
  change_of w h =
      let r = filter_map_has (λ (y : Place × FirstAndLast). write_at y.0 y.1) own w h in
      let k = write_cases (option_eq bytes_eq r.0.1.first r.0.1.last) r.0.0 r.0.1 w refl r.2 in
      let there : find place_cmp r.0.0 own ≡ Some r.0.1 = entry_found place_cmp place_total place_exact r.0.0 r.0.1 own t.sorted r.1 in
      let v = t.touched r.0.0.0 r.0.0.1 r.0.1 there in
      subst (IsChange l d after) k.1 (record { becomes = sym v.1; was_other = λ q. k.0 (v.0 ∙ q) })

  -- the writes are the changes
  pub are_changes : AreChanges l d after (writes_of own)
  are_changes w =
      (λ h. contains_of w (writes_of own) (written_by w (find place_cmp (w.range, w.key) own) refl h), λ c. change_of w (has_itself w (writes_of own) c))
