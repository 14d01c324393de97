use Rattle.std.proofs.Common.{◌≡◌, ℕ, ◌+◌, ◌<◌, List, [], ◌∷◌, ◌++◌, Option, None, Some, length, take, get_or, refl, ap, sym, ◌∙◌}
use Rattle.std.specs.List.{filter_map}
use Rattle.std.specs.Option.{option_to_list}
use Rattle.std.proofs.lemmas.List.{take_more}
use Rattle.std.proofs.lemmas.List.Elements.{filter_map-append}

filter_map-one : {X Y : Type 0} (h : X → Option Y) (x : X) → filter_map h (x ∷ []) ≡ option_to_list (h x)
filter_map-one h x = elim (h x) as (λ o. Rattle.std.specs.List.cons_option o [] ≡ option_to_list o) [ None ↦ refl | Some y ↦ refl ]

-- One more item read.
pub filter_map_step : {X Y : Type 0} (h : X → Option Y) (xs : List X) (i : ℕ) (d : X) (held : List Y) → i < length xs → held ≡ filter_map h (take i xs) → held ++ option_to_list (h (get_or xs i d)) ≡ filter_map h (take (i + 1) xs)
filter_map_step h xs i d held lt e = ap (λ l. l ++ option_to_list (h (get_or xs i d))) e ∙ ap (λ l. filter_map h (take i xs) ++ l) (sym (filter_map-one h (get_or xs i d))) ∙ sym (filter_map-append h (take i xs) (get_or xs i d ∷ [])) ∙ ap (filter_map h) (sym (take_more xs i d lt))
