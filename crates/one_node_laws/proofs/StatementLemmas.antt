use Rattle.std.proofs.Common.{◌≡◌, ℕ, ℤ, List, [], ◌∷◌, ◌++◌, refl, sym, ap, ◌∙◌, subst, arith, length, length-append}
use Rattle.std.specs.Prelude.{Some, codes, slice_index}
use Rattle.std.specs.Str.Parse.{signed_digits_value}
use Rattle.std.proofs.lemmas.List.{append_cancel_left, append_cancel_right}
use Rattle.mr_base.specs.declared.ids.NodeId.{NodeId}
use Rattle.mr_base.specs.declared.ids.TxnId.{TxnId}
use Rattle.std.proofs.lemmas.List.{length-map}
use Rattle.mr_base.specs.declared.settings.Kind.TheVariants as kinds
use Rattle.region_sql.specs.OneColumnForms.{IsOneColumnText}
use Rattle.region_sql.specs.declared.one_column_forms.OneColumnStatement.{OneColumnStatement}
use Rattle.region_sql.specs.declared.one_column_forms.OneColumnStatement.TheVariants.{Insert, SelectAll}
use Rattle.journal.specs.declared.entries.JournalEntry.{JournalEntry}
use Rattle.journal.specs.declared.events.Event.{Event}
use Rattle.journal.specs.declared.events.Event.TheVariants as events
use Rattle.one_node_laws.specs.LinesRun.{LinesRun, NumberedEvent}
use Rattle.one_node_laws.specs.Steps.{IsRunning, IsStepOf}
use Rattle.one_node_laws.specs.Words.{Beginning}

first_same : {x y : NumberedEvent} {xs ys : List NumberedEvent} → x ∷ xs ≡ y ∷ ys → x ≡ y
first_same e = cc

rest_same : {x y : NumberedEvent} {xs ys : List NumberedEvent} → x ∷ xs ≡ y ∷ ys → xs ≡ ys
rest_same e = cc

-- what stands at one distance from the end of a list is one
same_place : (xs ys : List NumberedEvent) (x y : NumberedEvent) (us vs : List NumberedEvent) → xs ++ x ∷ us ≡ ys ++ y ∷ vs → length us ≡ length vs → x ≡ y
same_place [] [] x y us vs e l = first_same e
same_place [] (z ∷ zs) x y us vs e l = absurd (omega (arith, l, ap length (rest_same e), length-append zs (y ∷ vs)))
same_place (z ∷ zs) [] x y us vs e l = absurd (omega (arith, l, ap length (rest_same e), length-append zs (x ∷ us)))
same_place (z ∷ zs) (w ∷ ws) x y us vs e l = same_place zs ws x y us vs (rest_same e) l

same_numbers : {l m : ℕ} {xs ys : List ℕ} → l ∷ xs ≡ m ∷ ys → xs ≡ ys
same_numbers e = cc

-- one line is running
pub same_event : (s : LinesRun) (before : List JournalEntry) (p q : Event) → IsRunning s before p → IsRunning s before q → p ≡ q
same_event s before p q r t =
    ap (λ (e : NumberedEvent). e.event)
    (same_place r.later t.later _ _ r.earlier t.earlier (sym r.here ∙ t.here)
    (sym (length-map r.earlier (λ e. e.line)) ∙ ap length (same_numbers (sym r.run ∙ t.run)) ∙ length-map t.earlier (λ e. e.line)))

same_text : {t : TxnId} {g : NodeId} {u v : List ℕ} → events.Txn t g kinds.Now u ≡ events.Txn t g kinds.Now v → u ≡ v
same_text e = cc

one_insert : (text : List ℕ) (m n : ℤ) → IsOneColumnText text (Insert m) → IsOneColumnText text (Insert n) → m ≡ n
one_insert text m n (ds, e, p) (es, f, q) =
    sym p.value
    ∙ ap (signed_digits_value 10) (append_cancel_right ds es (codes ")") (append_cancel_left (codes "INSERT INTO t (id) VALUES (") (ds ++ codes ")") (es ++ codes ")") (sym e ∙ f)))
    ∙ q.value

no_both : (text : List ℕ) (n : ℤ) → IsOneColumnText text SelectAll → ¬ IsOneColumnText text (Insert n)
no_both text n e (ds, f, p) = omega (arith, ap (λ (l : List ℕ). slice_index l 0) (sym e ∙ f))

-- a text is one statement
one_statement : (text : List ℕ) (a b : OneColumnStatement) → IsOneColumnText text a → IsOneColumnText text b → a ≡ b
one_statement text (Insert m) (Insert n) p q = ap Insert (one_insert text m n p q)
one_statement text (Insert m) SelectAll p q = absurd (no_both text m q p)
one_statement text SelectAll (Insert n) p q = absurd (no_both text n p q)
one_statement text SelectAll SelectAll p q = refl

-- a step is of one statement
pub same_statement : (s : LinesRun) (before : List JournalEntry) (b : Beginning) (p q : OneColumnStatement) → IsStepOf s before b p → IsStepOf s before b q → p ≡ q
same_statement s before b p q x y =
    one_statement x.text p q x.list (subst (λ (t : List ℕ). IsOneColumnText t q) (sym (same_text (same_event s before _ _ x.line y.line))) y.list)

some_beginning : {a b : Beginning} → Some a ≡ Some b → a ≡ b
some_beginning e = cc

-- and of one transaction
pub same_beginning : (s : LinesRun) (before : List JournalEntry) (a b : Beginning) (p q : OneColumnStatement) → IsStepOf s before a p → IsStepOf s before b q → a ≡ b
same_beginning s before a b p q x y = some_beginning (sym x.begun ∙ y.begun)
