-- Rows by key, as a map keeps them.
use Rattle.std.proofs.Common.{◌≡◌, Bool, cond, List, [], ◌∷◌, ◌++◌, filter, refl, sym, ap, ◌∙◌, subst}
use Rattle.std.specs.Map.Calls.{RetainsPairs}
use Rattle.std.proofs.lemmas.List.{append-nil, append_assoc}
use Rattle.mr_base.specs.declared.rows.Datum.{Datum}
use Rattle.sql_eval.specs.Evaluation.{KeyedRow, rows_of}

-- ---- what `retain` keeps

module _ {F K X : Type 0} (T : F → K → X → Bool → X → F → Type 0) (test : K × X → Bool) (f : F)
    (h : (k : K) (v : X) (b : Bool) (w : X) (g : F) → T f k v b w g → (b ≡ test (k, v)) × (w ≡ v) × (g ≡ f)) where
  retained_by : (g : F) (es kept : List (K × X)) → g ≡ f → RetainsPairs T g es kept → kept ≡ filter test es
  retained_by g [] kept e r = r
  retained_by g (x ∷ es) kept e r =
      let one = h x.0 x.1 r.0 r.1 r.2 (subst (λ (y : F). T y x.0 x.1 r.0 r.1 r.2) e r.4) in
      let rest : r.3 ≡ filter test es = retained_by r.2 es r.3 one.2 r.5 in
      r.6 ∙ (λ i. cond (one.0 i) ((x.0, one.1 i) ∷ rest i) (rest i))

  pub retained : (es kept : List (K × X)) → RetainsPairs T f es kept → kept ≡ filter test es
  retained es kept r = retained_by f es kept refl r

-- ---- rows in the order of their keys

pub row_more : (held : List (List Datum)) (x : KeyedRow) (rest : List KeyedRow) → (held ++ x.1 ∷ []) ++ rows_of rest ≡ held ++ rows_of (x ∷ rest)
row_more held x rest = append_assoc held (x.1 ∷ []) (rows_of rest)

pub all_rows_of : (held : List (List Datum)) (rest all : List KeyedRow) → rest ≡ [] → held ++ rows_of rest ≡ rows_of all → held ≡ rows_of all
all_rows_of held rest all e f = sym (append-nil held) ∙ ap (λ (r : List KeyedRow). held ++ rows_of r) (sym e) ∙ f
