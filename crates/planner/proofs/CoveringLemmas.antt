-- The numbers that are kept of what was fed, as more is fed.
use Rattle.std.proofs.Common.{◌≡◌, ℕ, ◌+◌, ◌<◌, drop, get_or, Bool, true, false, cond, List, [], ◌∷◌, ◌++◌, length, refl, sym, ap, ◌∙◌, subst, arith}
use Rattle.std.specs.Prelude.{slice_get, Option, Some, None, option_to_list}
use Rattle.std.specs.BTreeMap.{insert_entry, is_at}
use Rattle.std.specs.FinMap.Entries.{find as value_at, find-put, put}
use Rattle.std.specs.List.{AllByRecursion, cons_option}
use Rattle.std.specs.Map.{lookup}
use Rattle.std.specs.Option.{option_or}
use Rattle.std.specs.Ordering.{eq_by_cmp}
use Rattle.std.proofs.lemmas.List.{at_drop_more, get_or_append_left, length-append}
use Rattle.std.proofs.Math.Seq.{get_or-append_seam}
use Rattle.std.proofs.lemmas.List.Elements.{filter_map-append}
use Rattle.std.proofs.lemmas.List.Folds.{find-append}
use Rattle.std.proofs.lemmas.Option.{slice_get-get_or, slice_get_within}
use Rattle.mr_base.specs.Scripts.{fed_with}
use Rattle.mr_base.specs.declared.script.Fed.{Fed}
use Rattle.mr_base.specs.declared.spans.Ask.{Ask}
use Rattle.mr_base.specs.declared.spans.Pair.{Pair}
use Rattle.sql_eval.specs.OwnWrites.{Place, place_cmp}
use Rattle.sql_eval.specs.Reads.{covers}
use Rattle.planner.proofs.PlaceLemmas.{insert_is_put, lookup_is_find}
use Rattle.planner.proofs.PlaceOrder.{covered_place, covers_itself, place_itself, place_total, same_place}
use Rattle.planner.proofs.PointTests.{point_at}
use Rattle.planner.specs.Numbered.{AreNumbered, ask_at, first_covering, is_point, those_numbered}

-- ---- lists with one item more

get_more : {X : Type 0} (xs : List X) (y : X) (i : ℕ) → i < length xs → slice_get (xs ++ y ∷ []) i ≡ slice_get xs i
get_more xs y i h =
    slice_get-get_or (xs ++ y ∷ []) i y (omega (arith, h, length-append xs (y ∷ [])))
    ∙ ap Some (get_or_append_left xs (y ∷ []) y i h)
    ∙ sym (slice_get-get_or xs i y h)

get_last : {X : Type 0} (xs : List X) (y : X) → slice_get (xs ++ y ∷ []) (length xs) ≡ Some y
get_last xs y = slice_get-get_or (xs ++ y ∷ []) (length xs) y (omega (arith, length-append xs (y ∷ []))) ∙ ap Some (get_or-append_seam xs y [] y)

within_more : (n m : ℕ) (numbers : List ℕ) → n < m → AllByRecursion (λ i. i < n) numbers → AllByRecursion (λ i. i < m) numbers
within_more n m [] l h = tt
within_more n m (i ∷ numbers) l h = (omega (arith, l, h.0), within_more n m numbers l h.1)

within_last : (n m : ℕ) (numbers : List ℕ) → n < m → AllByRecursion (λ i. i < n) numbers → AllByRecursion (λ i. i < m) (numbers ++ n ∷ [])
within_last n m [] l h = (l, tt)
within_last n m (i ∷ numbers) l h = (omega (arith, l, h.0), within_last n m numbers l h.1)

those_more : (fed : List Fed) (f : Fed) (numbers : List ℕ) → AllByRecursion (λ i. i < length fed) numbers
    → those_numbered (fed ++ f ∷ []) numbers ≡ those_numbered fed numbers
those_more fed f [] h = refl
those_more fed f (i ∷ numbers) h =
    ap (λ o. cons_option o (those_numbered (fed ++ f ∷ []) numbers)) (get_more fed f i h.0)
    ∙ ap (cons_option (slice_get fed i)) (those_more fed f numbers h.1)

those_last : (fed : List Fed) (f : Fed) (numbers : List ℕ) → AllByRecursion (λ i. i < length fed) numbers
    → those_numbered (fed ++ f ∷ []) (numbers ++ length fed ∷ []) ≡ those_numbered fed numbers ++ f ∷ []
those_last fed f numbers h =
    filter_map-append (slice_get (fed ++ f ∷ [])) numbers (length fed ∷ [])
    ∙ ap (λ l. l ++ those_numbered (fed ++ f ∷ []) (length fed ∷ [])) (those_more fed f numbers h)
    ∙ ap (λ o. those_numbered fed numbers ++ cons_option o []) (get_last fed f)

or_none : {X : Type 0} (o : Option X) → option_or o None ≡ o
or_none None = refl
or_none (Some x) = refl

-- ---- what covers an ask

covered_more : (ask : Ask) (fed : List Fed) (f : Fed) → first_covering ask (fed ++ f ∷ []) ≡ option_or (first_covering ask fed) (cond (covers ask f) (Some f) None)
covered_more ask fed f = find-append (covers ask) fed (f ∷ [])

covered_still : (ask : Ask) (fed : List Fed) (f g : Fed) → first_covering ask fed ≡ Some f → first_covering ask (fed ++ g ∷ []) ≡ Some f
covered_still ask fed f g e = covered_more ask fed g ∙ ap (λ o. option_or o (cond (covers ask g) (Some g) None)) e

first_cons : (ask : Ask) (o : Option Fed) (rest : List Fed) → first_covering ask (cons_option o rest) ≡ option_or (first_covering ask (option_to_list o)) (first_covering ask rest)
first_cons ask None rest = refl
first_cons ask (Some f) rest = elim (covers ask f) as (λ b. cond b (Some f) (first_covering ask rest) ≡ option_or (cond b (Some f) None) (first_covering ask rest)) [ true ↦ refl | false ↦ refl ]

-- one more number of a list
pub first_step : (ask : Ask) (fed : List Fed) (numbers : List ℕ) (i d : ℕ) → i < length numbers
    → first_covering ask (those_numbered fed (drop i numbers))
    ≡ option_or (first_covering ask (option_to_list (slice_get fed (get_or numbers i d)))) (first_covering ask (those_numbered fed (drop (i + 1) numbers)))
first_step ask fed numbers i d h =
    at_drop_more (λ l. first_covering ask (those_numbered fed l)) numbers i d h
    ∙ first_cons ask (slice_get fed (get_or numbers i d)) (those_numbered fed (drop (i + 1) numbers))

-- ---- numbers

pub starts : AreNumbered [] [] []
starts = record { there = λ p i e. absurd (cc); elsewhere = λ p e. refl; within = tt }

longer : (fed : List Fed) (f : Fed) → length fed < length (fed ++ f ∷ [])
longer fed f = omega (arith, length-append fed (f ∷ []))

still_there : (fed : List Fed) (g : Fed) (p : Place) (i : ℕ) → (f : Fed) × (slice_get fed i ≡ Some f) × (first_covering (ask_at p) fed ≡ Some f)
    → (f : Fed) × (slice_get (fed ++ g ∷ []) i ≡ Some f) × (first_covering (ask_at p) (fed ++ g ∷ []) ≡ Some f)
still_there fed g p i (f, at, first) = (f, get_more fed g i (slice_get_within fed i f at) ∙ at, covered_still (ask_at p) fed f g first)

-- a wider span was fed
pub with_wide : (fed : List Fed) (points : List (Place × ℕ)) (wide : List ℕ) (f : Fed) → AreNumbered fed points wide
    → AreNumbered (fed ++ f ∷ []) points (wide ++ length fed ∷ [])
with_wide fed points wide f n = record {
  there = λ p i e. still_there fed f p i (n.there p i e);
  elsewhere = λ p e.
      covered_more (ask_at p) fed f
      ∙ ap (λ o. option_or o (cond (covers (ask_at p) f) (Some f) None)) (n.elsewhere p e)
      ∙ sym (covered_more (ask_at p) (those_numbered fed wide) f)
      ∙ ap (first_covering (ask_at p)) (sym (those_last fed f wide n.within));
  within = within_last (length fed) (length (fed ++ f ∷ [])) wide (longer fed f) n.within;
}

-- the span of a key was fed, which none covered before
module _ (fed : List Fed) (points : List (Place × ℕ)) (wide : List ℕ) (q : Place) (rows : List Pair) (n : AreNumbered fed points wide) where
  there_by : first_covering (ask_at q) fed ≡ None → (p : Place) (i : ℕ) (b : Bool) → eq_by_cmp place_cmp p q ≡ b → cond b (Some (length fed)) (value_at place_cmp p points) ≡ Some i
      → (f : Fed) × (slice_get (fed ++ fed_with (ask_at q) rows ∷ []) i ≡ Some f) × (first_covering (ask_at p) (fed ++ fed_with (ask_at q) rows ∷ []) ≡ Some f)
  there_by h p i true t e =
      let here : p ≡ q = same_place p q t in
      let number : length fed ≡ i = cc in
      let first : first_covering (ask_at q) (fed ++ fed_with (ask_at q) rows ∷ []) ≡ Some (fed_with (ask_at q) rows) =
      covered_more (ask_at q) fed (fed_with (ask_at q) rows)
      ∙ ap (λ o. option_or o (cond (covers (ask_at q) (fed_with (ask_at q) rows)) (Some (fed_with (ask_at q) rows)) None)) h
      ∙ ap (λ (b : Bool). cond b (Some (fed_with (ask_at q) rows)) None) (covers_itself (ask_at q) rows) in (
        fed_with (ask_at q) rows,
        subst (λ (k : ℕ). slice_get (fed ++ fed_with (ask_at q) rows ∷ []) k ≡ Some (fed_with (ask_at q) rows)) number (get_last fed (fed_with (ask_at q) rows)),
        subst (λ (r : Place). first_covering (ask_at r) (fed ++ fed_with (ask_at q) rows ∷ []) ≡ Some (fed_with (ask_at q) rows)) (sym here) first,
      )
  there_by h p i false t e = still_there fed (fed_with (ask_at q) rows) p i (n.there p i e)

  not_covered : (p : Place) (b : Bool) → eq_by_cmp place_cmp p q ≡ false → covers (ask_at p) (fed_with (ask_at q) rows) ≡ b → cond b (Some (fed_with (ask_at q) rows)) None ≡ None
  not_covered p true t e =
      let yes : eq_by_cmp place_cmp p q ≡ true = subst (λ (r : Place). eq_by_cmp place_cmp p r ≡ true) (covered_place p q rows e) (place_itself p) in absurd (cc)
  not_covered p false t e = refl

  elsewhere_by : (p : Place) (b : Bool) → eq_by_cmp place_cmp p q ≡ b → cond b (Some (length fed)) (value_at place_cmp p points) ≡ None
      → first_covering (ask_at p) (fed ++ fed_with (ask_at q) rows ∷ []) ≡ first_covering (ask_at p) (those_numbered (fed ++ fed_with (ask_at q) rows ∷ []) wide)
  elsewhere_by p true t e = absurd (cc)
  elsewhere_by p false t e =
      covered_more (ask_at p) fed (fed_with (ask_at q) rows)
      ∙ ap (option_or (first_covering (ask_at p) fed)) (not_covered p (covers (ask_at p) (fed_with (ask_at q) rows)) t refl)
      ∙ or_none (first_covering (ask_at p) fed)
      ∙ n.elsewhere p e
      ∙ ap (first_covering (ask_at p)) (sym (those_more fed (fed_with (ask_at q) rows) wide n.within))

  pub with_point : first_covering (ask_at q) fed ≡ None
      → AreNumbered (fed ++ fed_with (ask_at q) rows ∷ []) (put place_cmp q (length fed) points) wide
  with_point h = record {
    there = λ p i e. there_by h p i (eq_by_cmp place_cmp p q) refl (sym (find-put place_cmp place_total p q (length fed) points) ∙ e);
    elsewhere = λ p e. elsewhere_by p (eq_by_cmp place_cmp p q) refl (sym (find-put place_cmp place_total p q (length fed) points) ∙ e);
    within = within_more (length fed) (length (fed ++ fed_with (ask_at q) rows ∷ [])) wide (longer fed (fed_with (ask_at q) rows)) n.within;
  }

-- a span was added
pub added_wide : (fed : List Fed) (points : List (Place × ℕ)) (wide new : List ℕ) (f : Fed) (number : ℕ) → AreNumbered fed points wide → number ≡ length fed
    → new ≡ wide ++ number ∷ [] → AreNumbered (fed ++ f ∷ []) points new
added_wide fed points wide new f number n k e =
    let grown : new ≡ wide ++ length fed ∷ [] = e ∙ ap (λ (m : ℕ). wide ++ m ∷ []) k in
    subst (λ (w : List ℕ). AreNumbered (fed ++ f ∷ []) points w) (sym grown) (with_wide fed points wide f n)

pub added_point : (fed : List Fed) (points new : List (Place × ℕ)) (wide : List ℕ) (ask : Ask) (rows : List Pair) (key : List ℕ) (number : ℕ) → AreNumbered fed points wide
    → is_point ask.span ≡ true → number ≡ length fed → key ≡ ask.span.lo → first_covering ask fed ≡ None
    → new ≡ insert_entry place_cmp points (ask.range, key) number → AreNumbered (fed ++ fed_with ask rows ∷ []) new wide
added_point fed points new wide ask rows key number n t k at none e =
    let place : Place = (ask.range, ask.span.lo) in
    let same : ask ≡ ask_at place = point_at ask t in
    let grown : new ≡ put place_cmp place (length fed) points = e ∙ insert_is_put place_cmp (ask.range, key) number points ∙ (λ i. put place_cmp (ask.range, at i) (k i) points) in
    let there : AreNumbered (fed ++ fed_with (ask_at place) rows ∷ []) (put place_cmp place (length fed) points) wide =
    with_point fed points wide place rows n (subst (λ (a : Ask). first_covering a fed ≡ None) same none) in
    subst (λ (a : Ask). AreNumbered (fed ++ fed_with a rows ∷ []) new wide) (sym same)
    (subst (λ (ps : List (Place × ℕ)). AreNumbered (fed ++ fed_with (ask_at place) rows ∷ []) ps wide) (sym grown) there)

-- what covers a point
pub found_there : (fed own : List Fed) (points : List (Place × ℕ)) (wide : List ℕ) (ask : Ask) (key : List ℕ) (i : ℕ) (o : Option Fed) → AreNumbered fed points wide → fed ≡ own
    → is_point ask.span ≡ true → key ≡ ask.span.lo → Some i ≡ lookup (is_at (place_cmp (ask.range, key))) points → o ≡ slice_get fed i → o ≡ first_covering ask own
found_there fed own points wide ask key i o n v t at is e =
    let place : Place = (ask.range, ask.span.lo) in
    let found : value_at place_cmp place points ≡ Some i = sym (is ∙ lookup_is_find place_cmp (ask.range, key) points ∙ ap (λ (k : List ℕ). value_at place_cmp (ask.range, k) points) at) in
    let first = n.there place i found in
    e ∙ first.1 ∙ sym first.2 ∙ ap (λ (a : Ask). first_covering a fed) (sym (point_at ask t)) ∙ ap (first_covering ask) v

pub found_elsewhere : (fed own : List Fed) (points : List (Place × ℕ)) (wide : List ℕ) (ask : Ask) (key : List ℕ) (o : Option Fed) → AreNumbered fed points wide → fed ≡ own
    → is_point ask.span ≡ true → key ≡ ask.span.lo → None ≡ lookup (is_at (place_cmp (ask.range, key))) points → o ≡ first_covering ask (those_numbered fed wide) → o ≡ first_covering ask own
found_elsewhere fed own points wide ask key o n v t at is e =
    let place : Place = (ask.range, ask.span.lo) in
    let same : ask ≡ ask_at place = point_at ask t in
    let none : value_at place_cmp place points ≡ None = sym (is ∙ lookup_is_find place_cmp (ask.range, key) points ∙ ap (λ (k : List ℕ). value_at place_cmp (ask.range, k) points) at) in
    e ∙ ap (λ (a : Ask). first_covering a (those_numbered fed wide)) same ∙ sym (n.elsewhere place none) ∙ ap (λ (a : Ask). first_covering a fed) (sym same) ∙ ap (first_covering ask) v
