-- What was served of a span.
use Rattle.std.proofs.Common.{◌≡◌, true, false, cond, List, [], ◌∷◌, refl, ap, ◌∙◌, map, filter}
use Rattle.std.specs.Prelude.{Option, Some, None, option_map}
use Rattle.std.specs.FinMap.Entries.{where_key}
use Rattle.mr_base.specs.declared.script.Fed.{Fed}
use Rattle.mr_base.specs.declared.spans.Ask.{Ask}
use Rattle.mr_base.specs.declared.spans.Pair.{Pair}
use Rattle.mr_base.specs.declared.spans.Span.{Span}
use Rattle.row_locality.specs.Pairs.{bytes_cmp, key_value}
use Rattle.row_locality.specs.Spans.{is_in}
use Rattle.sql_eval.specs.Reads.{rows_within, served_reads}
use Rattle.planner.specs.Numbered.{first_covering}

pub pairs_within : (span : Span) (rows : List Pair) → map key_value (filter (λ p. is_in span p.key) rows) ≡ where_key bytes_cmp (is_in span) (map key_value rows)
pairs_within span [] = refl
pairs_within span (p ∷ rows) = elim (is_in span p.key) as (λ b. map key_value (cond b (p ∷ filter (λ q. is_in span q.key) rows) (filter (λ q. is_in span q.key) rows))
    ≡ cond b (key_value p ∷ where_key bytes_cmp (is_in span) (map key_value rows)) (where_key bytes_cmp (is_in span) (map key_value rows))) [
      | true ↦ ap (λ l. key_value p ∷ l) (pairs_within span rows)
      | false ↦ pairs_within span rows
    ]

pub served_rows : (known : List Fed) (ask : Ask) (f : Fed) (rows : List Pair) → Some f ≡ first_covering ask known
    → rows ≡ filter (λ p. is_in ask.span p.key) f.rows → Some (map key_value rows) ≡ served_reads known ask
unfolding served_reads
served_rows known ask f rows e g =
    ap Some (ap (map key_value) g ∙ pairs_within ask.span f.rows) ∙ ap (option_map (rows_within ask)) e

pub none_served : (known : List Fed) (ask : Ask) → None ≡ first_covering ask known → None ≡ served_reads known ask
unfolding served_reads
none_served known ask e = ap (option_map (rows_within ask)) e

none_of : {X : Type 0} (f : Fed → X) (o : Option Fed) → option_map f o ≡ None → o ≡ None
none_of f None e = refl
none_of f (Some x) e = absurd (cc)

pub none_covers : (known : List Fed) (ask : Ask) → served_reads known ask ≡ None → first_covering ask known ≡ None
unfolding served_reads
none_covers known ask e = none_of (rows_within ask) (first_covering ask known) e
