-- Look-ups in an index, one after the other.
use Rattle.std.proofs.Common.{◌≡◌, ℕ, zero, suc, ◌+◌, ◌<◌, ◌≤◌, Bool, true, false, List, [], ◌∷◌, drop, get_or, length, refl, sym, ap, ◌∙◌, subst, arith}
use Rattle.std.specs.Prelude.{◌==◌, if◌then◌else◌, not, map, slice_get, Option, Some, None, option_and_then, option_map}
use Rattle.std.specs.List.{AllByRecursion}
use Rattle.std.specs.Option.{option_to_list}
use Rattle.std.proofs.lemmas.Bool.Decides.{nat_tests}
use Rattle.std.proofs.lemmas.List.{append-nil, at_drop_more, drop-drop, drop_all}
use Rattle.mr_base.specs.declared.spans.Ask.{Ask}
use Rattle.mr_base.specs.declared.spans.Pair.{Pair}
use Rattle.region_sql.specs.declared.row_statements.Term.{Term}
use Rattle.descriptors.specs.Contents.{Contents}
use Rattle.descriptors.specs.declared.table.Table.{Table}
use Rattle.row_locality.specs.Pairs.{KeyValue, key_value}
use Rattle.row_locality.specs.Reading.{primary_of}
use Rattle.sql_eval.specs.Evaluation.{KeyedRow, at_primary, followed_answers, has_pair, led_to, matched_rows}
use Rattle.sql_eval.specs.Lookups.{primary_lookup}
use Rattle.sql_eval.specs.Reads.{Reads}
use Rattle.sql_eval.specs.Search.{Evaluation, gives, faults, needs, ◌>>=◌, Answer, Lookup, after_answer, ask_of, behind, followed_by, search}
use Rattle.planner.specs.Phases.{IsLookupFor, IsSoundSearch, scanned_rows}
use Rattle.planner.specs.Searches.{IsSought, read_rows, row_lookup, sought_rows}
use Rattle.planner.specs.Turns.{AreSame, IsNeeded, IsSearchStep}
use Rattle.planner.specs.declared.index_search.SearchStep.TheVariants as searches
use Rattle.planner.specs.declared.index_search.Sought.TheVariants as sought
use Rattle.planner.specs.declared.phases.IndexSearch.{IndexSearch}
use Rattle.planner.specs.declared.phases.RowScan.{RowScan}

module _ (t : Table) (terms : List Term) (index : ℕ) where
  -- what follows the first answers
  abbrev follow : Reads → List Answer → Evaluation (List KeyedRow)
  follow reads first = followed_answers reads t (Some (index, [])) first >>= λ answers. gives (matched_rows t terms answers)

  choose : Reads → List Answer → List Answer → Bool → Evaluation (List KeyedRow)
  choose reads first lookups b = (if b then gives first else search reads (λ a. false) (at_primary t index lookups)) >>= λ answers. gives (matched_rows t terms answers)

  -- an answer without a pair leads nowhere
  follow_empty : (reads : Reads) (l : Lookup) (answers : List Answer) → follow reads ((l, []) ∷ answers) ≡ follow reads answers
  unfolding matched_rows
  follow_empty reads l answers = by (index == 0)
    where
      by : (b : Bool) → ((if b then gives ((l, []) ∷ answers) else search reads (λ a. false) (at_primary t index ((l, []) ∷ answers))) >>= λ more. gives (matched_rows t terms more))
          ≡ ((if b then gives answers else search reads (λ a. false) (at_primary t index answers)) >>= λ more. gives (matched_rows t terms more))
      by true = refl
      by false = refl

  behind_empty : (reads : Reads) (l : Lookup) (rest : Evaluation (List Answer)) → (followed_by 1 (behind (l, []) rest) >>= follow reads) ≡ (followed_by 1 rest >>= follow reads)
  behind_empty reads l (gives answers) = follow_empty reads l answers
  behind_empty reads l (faults e) = refl
  behind_empty reads l (needs ask phases asks) = refl

  abbrev step : Reads → Lookup → ℕ → Option (List KeyValue) → Evaluation (List Answer) → Evaluation (List KeyedRow)
  step reads l left o rest = followed_by 1 (after_answer has_pair l left o rest) >>= follow reads

  first_step : (l : Lookup) (ls : List Lookup) (reads : Reads) (o : Option (List KeyValue)) → reads (ask_of l) ≡ o
      → sought_rows t terms index (l ∷ ls) reads ≡ step reads l (length (l ∷ ls)) o (search reads has_pair ls)
  unfolding search
  first_step l ls reads o e = ap (λ x. step reads l (length (l ∷ ls)) x (search reads has_pair ls)) e

  -- the end of the look-ups
  sought_none : (reads : Reads) → sought_rows t terms index [] reads ≡ read_rows t terms [] reads
  unfolding search matched_rows
  sought_none reads = by (index == 0)
    where
      by : (b : Bool) → ((if b then gives [] else search reads (λ a. false) (at_primary t index [])) >>= λ more. gives (matched_rows t terms more)) ≡ gives (scanned_rows t terms [] [])
      by true = refl
      by false = refl

  -- the first pair of an answer
  read_one : (reads : Reads) (x : Lookup) (pairs : List KeyValue) → reads (ask_of x) ≡ Some pairs → gives (matched_rows t terms ((x, pairs) ∷ [])) ≡ read_rows t terms (x ∷ []) reads
  unfolding search matched_rows
  read_one reads x pairs e = ap (λ o. after_answer (λ a. false) x 1 o (gives []) >>= λ answers. gives (scanned_rows t terms [] answers)) (sym e)

  leads_by : (reads : Reads) (x : Lookup) (pairs : List KeyValue) (b : Bool) → reads (ask_of x) ≡ Some pairs
      → ((if b then gives ((x, pairs) ∷ []) else search reads (λ a. false) (at_primary t index ((x, pairs) ∷ []))) >>= λ more. gives (matched_rows t terms more))
      ≡ read_rows t terms (option_to_list (if b then Some x else led_to t index (x, pairs))) reads
  unfolding matched_rows
  leads_by reads x pairs true e = read_one reads x pairs e
  leads_by reads x pairs false e =
      ap (λ ls. search reads (λ a. false) ls >>= λ more. gives (matched_rows t terms more)) (append-nil (option_to_list (led_to t index (x, pairs))))

  leads : (reads : Reads) (x : Lookup) (ls : List Lookup) (pairs : List KeyValue) → reads (ask_of x) ≡ Some pairs → has_pair (x, pairs) ≡ true
      → sought_rows t terms index (x ∷ ls) reads ≡ read_rows t terms (option_to_list (if index == 0 then Some x else led_to t index (x, pairs))) reads
  leads reads x ls pairs e h =
      first_step x ls reads (Some pairs) e
      ∙ ap (λ b. followed_by 1 (if b then gives ((x, pairs) ∷ []) else behind (x, pairs) (search reads has_pair ls)) >>= follow reads) h
      ∙ leads_by reads x pairs (index == 0) e

-- ---- one look-up of a list

module _ (known : Reads) (t : Table) (index : ℕ) (lookups : List Lookup) (i : ℕ) (d : Lookup) (h : i < length lookups) where
  abbrev l : Lookup
  l = get_or lookups i d

  abbrev Passed : ℕ → Type 0
  Passed k = (terms : List Term) → AreSame known (sought_rows t terms index lookups) (sought_rows t terms index (drop k lookups))

  split : (terms : List Term) (reads : Reads) → sought_rows t terms index (drop i lookups) reads ≡ sought_rows t terms index (l ∷ drop (i + 1) lookups) reads
  split terms reads = at_drop_more (λ ls. sought_rows t terms index ls reads) lookups i d h

  -- it holds no pair
  pub passes_one : known (ask_of l) ≡ Some [] → Passed i → Passed (i + 1)
  passes_one k s = λ terms reads part.
      s terms reads part ∙ split terms reads
      ∙ first_step t terms index l (drop (i + 1) lookups) reads (Some []) (part (ask_of l) [] k)
      ∙ behind_empty t terms index reads l (search reads has_pair (drop (i + 1) lookups))

  -- it holds one
  pub leads_one : (pairs : List KeyValue) (row : Option Lookup) → known (ask_of l) ≡ Some pairs → has_pair (l, pairs) ≡ true → l.index ≡ index
      → row ≡ row_lookup t l pairs → Passed i → (terms : List Term) → AreSame known (sought_rows t terms index lookups) (read_rows t terms (option_to_list row))
  leads_one pairs row k p at e s = λ terms reads part.
      s terms reads part ∙ split terms reads
      ∙ leads t terms index reads l (drop (i + 1) lookups) pairs (part (ask_of l) pairs k) p
      ∙ ap (λ (n : ℕ). read_rows t terms (option_to_list (if n == 0 then Some l else led_to t n (l, pairs))) reads) (sym at)
      ∙ ap (λ (o : Option Lookup). read_rows t terms (option_to_list o) reads) (sym e)

  -- it isn't known
  pub needs_one : known (ask_of l) ≡ None → (terms : List Term) → IsNeeded (sought_rows t terms index (drop i lookups) known) (ask_of l)
  needs_one k terms = (1, length (l ∷ drop (i + 1) lookups), split terms known ∙ first_step t terms index l (drop (i + 1) lookups) known None k)

-- none is left
pub passes_all : (known : Reads) (t : Table) (index : ℕ) (lookups : List Lookup) (i : ℕ) → length lookups ≤ i
    → ((terms : List Term) → AreSame known (sought_rows t terms index lookups) (sought_rows t terms index (drop i lookups)))
    → (terms : List Term) → AreSame known (sought_rows t terms index lookups) (read_rows t terms [])
passes_all known t index lookups i h s = λ terms reads part.
    s terms reads part ∙ ap (λ (ls : List Lookup). sought_rows t terms index ls reads) (drop_all i lookups h) ∙ sought_none t terms index reads

-- ---- the partition of the row

pub each_at : {X : Type 0} (P : X → Type 0) (xs : List X) (i : ℕ) (d : X) → i < length xs → AllByRecursion P xs → P (get_or xs i d)
each_at P [] i d h a = absurd (omega arith)
each_at P (x ∷ xs) zero d h a = a.0
each_at P (x ∷ xs) (suc i) d h a = each_at P xs i d (omega arith) a.1

led_there : (c : Contents) (t : Table) (x : Lookup) (b : Bool) (o : Option (List ℕ)) → IsLookupFor c t x
    → AllByRecursion (IsLookupFor c t) (option_to_list (if b then Some x else option_map (λ key. primary_lookup key x.partition) o))
led_there c t x true o h = (h, tt)
led_there c t x false None h = tt
led_there c t x false (Some key) h = (h, tt)

pub row_there : (c : Contents) (t : Table) (lookups : List Lookup) (i : ℕ) (d : Lookup) (pairs : List KeyValue) (row : Option Lookup) → i < length lookups
    → row ≡ row_lookup t (get_or lookups i d) pairs → AllByRecursion (IsLookupFor c t) lookups → AllByRecursion (IsLookupFor c t) (option_to_list row)
row_there c t lookups i d pairs row h e a =
    let x : Lookup = get_or lookups i d in
    subst (λ (o : Option Lookup). AllByRecursion (IsLookupFor c t) (option_to_list o)) (sym e)
    (led_there c t x (x.index == 0) (option_and_then (primary_of t x.index) (slice_get pairs 0)) (each_at (IsLookupFor c t) lookups i d h a))

-- ---- the whole search

each_drop : {X : Type 0} (P : X → Type 0) (n : ℕ) (xs : List X) → AllByRecursion P xs → AllByRecursion P (drop n xs)
each_drop P zero xs a = a
each_drop P (suc n) [] a = tt
each_drop P (suc n) (x ∷ xs) a = each_drop P n xs a.1

pub each_left : {X : Type 0} (P : X → Type 0) (n : ℕ) (xs ys : List X) → ys ≡ drop n xs → AllByRecursion P xs → AllByRecursion P ys
each_left P n xs ys e a = subst (AllByRecursion P) (sym e) (each_drop P n xs a)

pub asks_next : (c : Contents) (t : Table) (known : Reads) (w v : IndexSearch) (i : ℕ) (ask : Ask) → v ≡ record w { passed = w.passed + i } → IsSoundSearch c t w
    → IsSought t w.index known (drop w.passed w.lookups) (sought.Asks i ask) → IsSearchStep c t known w (searches.Asks ask v)
asks_next c t known w v i ask e sound s =
    subst (λ (x : IndexSearch). IsSearchStep c t known w (searches.Asks ask x)) (sym e) (
      record { index = sound.index; of_index = sound.of_index; lookups = sound.lookups },
      (λ terms reads part. s.1 terms reads part ∙ ap (λ (ls : List Lookup). sought_rows t terms w.index ls reads) (drop-drop i w.passed w.lookups)),
      (λ terms. subst (λ (ls : List Lookup). IsNeeded (sought_rows t terms w.index ls known) ask) (drop-drop i w.passed w.lookups) (s.2 terms)),
    )

pub goes_on : (c : Contents) (t : Table) (known : Reads) (w : IndexSearch) (v : RowScan) (row : Option Lookup)
    → v ≡ record { is_first = false; lookups = option_to_list row; passed = 0; rows = [] } → IsSoundSearch c t w
    → IsSought t w.index known (drop w.passed w.lookups) (sought.Leads row) → IsSearchStep c t known w (searches.Goes v)
goes_on c t known w v row e sound s =
    subst (λ (x : RowScan). IsSearchStep c t known w (searches.Goes x)) (sym e) (
      record { lookups = s.1 c (each_drop (IsLookupFor c t) w.passed w.lookups sound.lookups); rows = tt },
      (λ terms reads part. s.0 terms reads part),
    )

-- ---- pairs, or none

pub some_pairs : (x : Lookup) (pairs : List Pair) → (pairs ≡ [] → ⊥) → has_pair (x, map key_value pairs) ≡ true
some_pairs x [] n = absurd (n refl)
some_pairs x (p ∷ ps) n =
    let more : (length (map key_value (p ∷ ps)) == 0) ≡ false = grind (arith, nat_tests) in
    ap not more

pub no_pairs : (pairs : List Pair) (o : Option (List KeyValue)) → pairs ≡ [] → Some (map key_value pairs) ≡ o → o ≡ Some []
no_pairs pairs o e f = sym f ∙ ap (λ (l : List Pair). Some (map key_value l)) e
