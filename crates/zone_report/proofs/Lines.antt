-- The lines of ranges.
use Rattle.std.proofs.Common.{◌≡◌, ℕ, ◌+◌, ◌<◌, ◌≤◌, List, [], ◌∷◌, ◌++◌, Option, None, Some, length, take, get_or, ap, sym, ◌∙◌, arith, append-nil, append_assoc}
use Rattle.std.specs.List.{flat_map}
use Rattle.std.proofs.lemmas.List.{length-append, length-take-le, take_all, take_more}
use Rattle.mr_base.specs.declared.nodes.NodeInfo.{NodeInfo}
use Rattle.region_sql.specs.declared.region_statements.Locality.{Locality}
use Rattle.region_sql.specs.declared.region_statements.Locality.TheVariants as localities
use Rattle.descriptors.specs.declared.database.Database.{Database}
use Rattle.descriptors.specs.declared.table.Table.{Table}
use Rattle.descriptors.specs.Sound.{IsSoundDatabase}
use Rattle.zone_report.specs.declared.report.Format.{Format}
use Rattle.zone_report.specs.Ranges.{Range, partitions, range_at, ranges_in}
use Rattle.zone_report.specs.Report.{lines_from, range_lines}
use Rattle.zone_report.proofs.Placeable.{flat_step, here, how_many}

pub no_lines : (out : List ℕ) → out ++ [] ≡ out
no_lines out = append-nil out

pub lines-append : (f : Format) (nodes : List NodeInfo) (n : ℕ) (xs ys : List Range) → lines_from f nodes n (xs ++ ys) ≡ lines_from f nodes n xs ++ lines_from f nodes (n + length xs) ys
lines-append f nodes n [] ys = ap (λ m. lines_from f nodes m ys) (omega arith)
lines-append f nodes n (x ∷ xs) ys =
    ap (λ l. range_lines f nodes n x ++ l) (lines-append f nodes (n + 1) xs ys)
    ∙ sym (append_assoc (range_lines f nodes n x) (lines_from f nodes (n + 1) xs) (lines_from f nodes (n + 1 + length xs) ys))
    ∙ ap (λ m. (range_lines f nodes n x ++ lines_from f nodes (n + 1) xs) ++ lines_from f nodes m ys) (omega arith)

pub partitions_few : (d : Database) (l : Option Locality) → IsSoundDatabase d → partitions d l ≤ 16
partitions_few d None h = omega arith
partitions_few d (Some (localities.InRegion region)) h = omega arith
partitions_few d (Some localities.ByRow) h = h.few
partitions_few d (Some localities.InPrimary) h = omega arith
partitions_few d (Some localities.Global) h = omega arith

one_more_line : (f : Format) (nodes : List NodeInfo) (n k : ℕ) (xs : List Range) (x : Range) → k < length xs → get_or xs k x ≡ x → lines_from f nodes n (take (k + 1) xs) ≡ lines_from f nodes n (take k xs) ++ range_lines f nodes (n + k) x
one_more_line f nodes n k xs x lt at =
    ap (lines_from f nodes n) (take_more xs k x lt ∙ ap (λ r. take k xs ++ r ∷ []) at)
    ∙ lines-append f nodes n (take k xs) (x ∷ [])
    ∙ ap (λ m. lines_from f nodes n (take k xs) ++ (range_lines f nodes (n + m) x ++ [])) (length-take-le k xs (omega (arith, lt)))
    ∙ ap (λ l. lines_from f nodes n (take k xs) ++ l) (append-nil (range_lines f nodes (n + k) x))

pub more_lines : (f : Format) (nodes : List NodeInfo) (n : ℕ) (d : Database) (t : Table) (k next : ℕ) (out0 out1 out2 : List ℕ) {m : ℕ} → k < m → m ≡ partitions d t.locality → next ≡ n + k → out2 ≡ out1 ++ range_lines f nodes next (range_at d t k) → out1 ≡ out0 ++ lines_from f nodes n (take k (ranges_in d t)) → out2 ≡ out0 ++ lines_from f nodes n (take (k + 1) (ranges_in d t))
more_lines f nodes n d t k next out0 out1 out2 lt size number written before =
    written ∙ ap (λ o. o ++ range_lines f nodes next (range_at d t k)) before
    ∙ ap (λ i. (out0 ++ lines_from f nodes n (take k (ranges_in d t))) ++ range_lines f nodes i (range_at d t k)) number
    ∙ append_assoc out0 (lines_from f nodes n (take k (ranges_in d t))) (range_lines f nodes (n + k) (range_at d t k))
    ∙ ap (λ l. out0 ++ l) (sym (one_more_line f nodes n k (ranges_in d t) (range_at d t k) (omega (arith, lt, size, how_many d t)) (here d t k (range_at d t k) (omega (arith, lt, size)))))

pub all_lines : (f : Format) (nodes : List NodeInfo) (n : ℕ) (d : Database) (t : Table) (k : ℕ) {m : ℕ} → m ≤ k → m ≡ partitions d t.locality → lines_from f nodes n (take k (ranges_in d t)) ≡ lines_from f nodes n (ranges_in d t)
all_lines f nodes n d t k past size = ap (lines_from f nodes n) (take_all k (ranges_in d t) (omega (arith, past, size, how_many d t)))

onward : (o front part o1 o2 : List ℕ) → o1 ≡ o ++ front → o2 ≡ o1 ++ part → o2 ≡ o ++ (front ++ part)
onward o front part o1 o2 before now = now ∙ ap (λ l. l ++ part) before ∙ append_assoc o front part

-- Three parts written one after the other.
pub three_parts : (a b c o o1 o2 o3 : List ℕ) → o1 ≡ o ++ a → o2 ≡ o1 ++ b → o3 ≡ o2 ++ c → o3 ≡ o ++ (a ++ b ++ c)
three_parts a b c o o1 o2 o3 h1 h2 h3 = onward o (a ++ b) c o2 o3 (onward o a b o1 o2 h1 h2) h3

-- ---- the lines of tables

pub table_lines : (f : Format) (nodes : List NodeInfo) (g : Table → List Range) (ts : List Table) (i : ℕ) (t : Table) (next : ℕ) (out1 out2 : List ℕ) → i < length ts → t ≡ get_or ts i t → next ≡ 1 + length (flat_map g (take i ts)) → out2 ≡ out1 ++ lines_from f nodes next (g t) → out1 ≡ lines_from f nodes 1 (flat_map g (take i ts)) → out2 ≡ lines_from f nodes 1 (flat_map g (take (i + 1) ts))
table_lines f nodes g ts i t next out1 out2 lt at number written before =
    written ∙ ap (λ o. o ++ lines_from f nodes next (g t)) before
    ∙ ap (λ n. lines_from f nodes 1 (flat_map g (take i ts)) ++ lines_from f nodes n (g t)) number
    ∙ sym (lines-append f nodes 1 (flat_map g (take i ts)) (g t))
    ∙ ap (lines_from f nodes 1) (sym (flat_step g ts i t lt (sym at)))

pub table_numbers : (g : Table → List Range) (ts : List Table) (i : ℕ) (t : Table) (n next : ℕ) → i < length ts → t ≡ get_or ts i t → n ≡ 1 + length (flat_map g (take i ts)) → next ≡ n + length (g t) → next ≡ 1 + length (flat_map g (take (i + 1) ts))
table_numbers g ts i t n next lt at before is =
    let more : length (flat_map g (take (i + 1) ts)) ≡ length (flat_map g (take i ts)) + length (g t) = ap length (flat_step g ts i t lt (sym at)) ∙ length-append (flat_map g (take i ts)) (g t) in
    omega (arith, more, before, is)
