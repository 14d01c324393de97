-- The laws on what is known and what is needed.
use Rattle.std.proofs.Common.{◌≡◌, ℕ, zero, suc, ◌<◌, Bool, true, false, cond, List, [], ◌∷◌, ◌++◌, refl, sym, ap, subst, inl, inr, arith}
use Rattle.std.specs.Prelude.{find, ◌==◌, Option, Some, None, option_map, Ok, Any, Contains, IsSomeAnd}
use Rattle.std.proofs.lemmas.Bool.Decides.{nat_tests}
use Rattle.std.proofs.lemmas.List.Elements.{recursion_from_All, All-contains_itself}
use Rattle.mr_base.specs.Scripts.{IsNearer, fed_with}
use Rattle.mr_base.specs.declared.script.Fed.{Fed}
use Rattle.mr_base.specs.declared.spans.Ask.{Ask}
use Rattle.mr_base.specs.declared.spans.Pair.{Pair}
use Rattle.mr_base.proofs.SpanLemmas.{not_below_itself}
use Rattle.region_sql.specs.declared.row_statements.RowStatement.{RowStatement}
use Rattle.row_locality.specs.Pairs.{KeyValue}
use Rattle.row_locality.specs.Plain.{Partition}
use Rattle.row_locality.proofs.PointLemmas.{is_inside_decides}
use Rattle.sql_eval.specs.Evaluation.{ListOutcome, Setting, evaluation, partitions_of}
use Rattle.sql_eval.specs.Execution.{Named, named_table, table_name}
use Rattle.sql_eval.specs.Laws.{StaysGiven, StaysFaulty, FedIsKnown, AnswersBringNearer, NeedsAreCounted, KnownIsNotNeeded, NeedsAreOfTheTables, IsRangeOfList}
use Rattle.sql_eval.specs.NextSpan.{next_in, phases_in, asks_in}
use Rattle.sql_eval.specs.Reads.{Reads, covers, rows_within, served_reads}
use Rattle.sql_eval.specs.Search.{Evaluation, gives, faults, needs}
use Rattle.answer_laws.proofs.Evaluations.{IsLower, IsKept, Needs}
use Rattle.answer_laws.proofs.Lists.{each, each_weaker}
use Rattle.answer_laws.proofs.NeededSpans.{IsOpen, AreOpen, evaluation_needs}
use Rattle.answer_laws.proofs.Statements.{evaluation_kept, mapped}

-- ---- more that is known

pub stays_given : StaysGiven
stays_given s part whole x h e = subst (λ k. IsKept whole k (evaluation s whole)) e (evaluation_kept s part whole h)

pub stays_faulty : StaysFaulty
stays_faulty s part whole code h e = subst (λ k. IsKept whole k (evaluation s whole)) e (evaluation_kept s part whole h)

found_also : (b : Bool) (y x : Fed) (r s : Option Fed) → (r ≡ Some x → s ≡ Some x) → cond b (Some y) r ≡ Some x → cond b (Some y) s ≡ Some x
found_also true y x r s h e = e
found_also false y x r s h e = h e

found_more : (p : Fed → Bool) (fed more : List Fed) (x : Fed) → find p fed ≡ Some x → find p (fed ++ more) ≡ Some x
found_more p [] more x e = absurd (cc)
found_more p (y ∷ ys) more x e = found_also (p y) y x (find p ys) (find p (ys ++ more)) (found_more p ys more x) e

pub fed_is_known : FedIsKnown
unfolding served_reads
fed_is_known fed more ask pairs e = mapped (rows_within ask) (find (covers ask) fed) (find (covers ask) (fed ++ more)) (found_more (covers ask) fed more) pairs e

-- ---- what was answered is known

found_here : (b : Bool) (y : Fed) (r : Option Fed) → (x : Fed) × (r ≡ Some x) → (x : Fed) × (cond b (Some y) r ≡ Some x)
found_here true y r h = (y, refl)
found_here false y r h = h

found_last : (p : Fed → Bool) (fed : List Fed) (y : Fed) → p y ≡ true → (x : Fed) × (find p (fed ++ y ∷ []) ≡ Some x)
found_last p [] y e = (y, ap (λ b. cond b (Some y) None) e)
found_last p (z ∷ fed) y e = found_here (p z) z (find p (fed ++ y ∷ [])) (found_last p fed y e)

covers_itself : (ask : Ask) (rows : List Pair) → covers ask (fed_with ask rows) ≡ true
covers_itself ask rows =
    let same : (ask.range.0 == ask.range.0) ≡ true = grind (arith, nat_tests) in
    rw same ((is_inside_decides ask.span ask.span).1 (not_below_itself ask.span.lo, not_below_itself ask.span.hi))

answered : (fed : List Fed) (ask : Ask) (rows : List Pair) → (pairs : List KeyValue) × (served_reads (fed ++ fed_with ask rows ∷ []) ask ≡ Some pairs)
unfolding served_reads
answered fed ask rows =
    let r : (x : Fed) × (find (covers ask) (fed ++ fed_with ask rows ∷ []) ≡ Some x) = found_last (covers ask) fed (fed_with ask rows) (covers_itself ask rows) in
    (rows_within ask r.0, ap (option_map (rows_within ask)) r.1)

-- ---- what is needed

same_ask : {a b : Ask} → Some a ≡ Some b → a ≡ b
same_ask e = cc

pub needed : (P : Ask → ℕ → Type 0) (e : Evaluation ListOutcome) (ask : Ask) → Needs P e → next_in e ≡ Some ask → P ask (asks_in e)
needed P (gives x) ask h e = absurd (cc)
needed P (faults code) ask h e = absurd (cc)
needed P (needs a p n) ask h e = subst (λ b. P b n) (same_ask e) h

abbrev IsUnknown : Reads → Ask → ℕ → Type 0
IsUnknown reads ask n = (reads ask ≡ None) × (0 < n)

unknown : (s : Setting) (reads : Reads) → Needs (IsUnknown reads) (evaluation s reads)
unknown s reads =
    evaluation_needs s reads (IsUnknown reads)
    (λ list _. each (AreOpen s.layout reads (IsUnknown reads)) (λ x n e. each (IsOpen reads (IsUnknown reads)) (λ p index span m some none. (none, some)) _) list)

pub known_is_not_needed : KnownIsNotNeeded
known_is_not_needed s fed ask e =
    let r : IsUnknown (served_reads fed) ask (asks_in (evaluation s (served_reads fed))) =
    needed (IsUnknown (served_reads fed)) (evaluation s (served_reads fed)) ask (unknown s (served_reads fed)) e in
    r.0

pub needs_are_counted : NeedsAreCounted
needs_are_counted s fed ask e =
    let r : IsUnknown (served_reads fed) ask (asks_in (evaluation s (served_reads fed))) =
    needed (IsUnknown (served_reads fed)) (evaluation s (served_reads fed)) ask (unknown s (served_reads fed)) e in
    let some : 0 < asks_in (evaluation s (served_reads fed)) = r.1 in
    omega arith

finished : (p n : ℕ) → 0 < n → IsNearer p n 0 0
finished zero n h = inr (refl, h)
finished (suc p) n h = inl (omega arith)

lowered : (p n : ℕ) (f : Evaluation ListOutcome) → 0 < n → IsLower p n f → IsNearer p n (phases_in f) (asks_in f)
lowered p n (gives x) h k = finished p n h
lowered p n (faults code) h k = finished p n h
lowered p n (needs ask q m) h k = k

nearer : (whole : Reads) (e f : Evaluation ListOutcome) (ask : Ask) (pairs : List KeyValue) → IsKept whole e f → Needs (λ a n. 0 < n) e → next_in e ≡ Some ask
    → whole ask ≡ Some pairs → IsNearer (phases_in e) (asks_in e) (phases_in f) (asks_in f)
nearer whole (gives x) f ask pairs h c e w = absurd (cc)
nearer whole (faults code) f ask pairs h c e w = absurd (cc)
nearer whole (needs a p n) f ask pairs h c e w = lowered p n f c (h pairs (subst (λ b. whole b ≡ Some pairs) (sym (same_ask e)) w))

pub answers_bring_nearer : AnswersBringNearer
answers_bring_nearer s fed ask rows e =
    let whole : Reads = served_reads (fed ++ fed_with ask rows ∷ []) in
    let some : Needs (λ a n. 0 < n) (evaluation s (served_reads fed)) =
    evaluation_needs s (served_reads fed) (λ a n. 0 < n)
    (λ list _. each (AreOpen s.layout (served_reads fed) (λ a n. 0 < n)) (λ x n _. each (IsOpen (served_reads fed) (λ a n. 0 < n)) (λ p index span m some _. some) _) list) in
    let r : (pairs : List KeyValue) × (whole ask ≡ Some pairs) = answered fed ask rows in
    nearer whole (evaluation s (served_reads fed)) (evaluation s whole) ask r.0
    (evaluation_kept s (served_reads fed) whole (fed_is_known fed (fed_with ask rows ∷ []))) some e r.1

-- ---- ranges of tables

any_of : {X : Type 0} (P : X → Type 0) (xs : List X) (x : X) → Contains xs x → P x → Any P xs
any_of P xs x c p = (c.0, x, c.1, c.2, p)

abbrev IsOfTables : Setting → Ask → ℕ → Type 0
IsOfTables s ask n = IsRangeOfList s ask.range

pub of_list : (s : Setting) (list : List RowStatement) (x : RowStatement) (n : Named) (p : Partition) → s.list ≡ Ok list → Contains list x
    → named_table s.layout.catalog (table_name x) ≡ Some n → Contains (partitions_of s.layout n) p → IsRangeOfList s p.range
of_list s list x n p e c f d =
    rw e
    (any_of (λ y. IsSomeAnd (named_table s.layout.catalog (table_name y)) (λ m. Any (λ q. q.range ≡ p.range) (partitions_of s.layout m))) list x c
    (rw f (any_of (λ q. q.range ≡ p.range) (partitions_of s.layout n) p d refl)))

of_tables : (s : Setting) (reads : Reads) → Needs (IsOfTables s) (evaluation s reads)
of_tables s reads =
    evaluation_needs s reads (IsOfTables s)
    (λ list e.
    each_weaker (Contains list) (AreOpen s.layout reads (IsOfTables s))
    (λ x c n f.
    each_weaker (Contains (partitions_of s.layout n)) (IsOpen reads (IsOfTables s)) (λ p d index span m _ _. of_list s list x n p e c f d) (partitions_of s.layout n)
    (recursion_from_All (Contains (partitions_of s.layout n)) _ (All-contains_itself _)))
    list (recursion_from_All (Contains list) list (All-contains_itself list)))

pub needs_are_of_the_tables : NeedsAreOfTheTables
needs_are_of_the_tables s fed ask e = needed (IsOfTables s) (evaluation s (served_reads fed)) ask (of_tables s (served_reads fed)) e
