-- A line is read in one way.
use Rattle.std.proofs.Common.{◌≡◌, ◌≢◌, ℕ, List, [], ◌∷◌, ◌++◌, refl, ap, sym, ◌∙◌, inl, inr, arith}
use Rattle.std.specs.Prelude.{◌⊎◌, codes, slice_index}
use Rattle.scenario.specs.FirstPath.{IsNodeLine, IsSkipped, IsTxnLine, Reads}
use Rattle.scenario.specs.FirstSeen.{Seen}
use Rattle.journal.specs.declared.events.Event.TheVariants as events
use Rattle.scenario.specs.declared.lines.Line.{Line}
use Rattle.scenario.specs.declared.lines.Line.TheVariants as lines
use Rattle.scenario.specs.declared.first_path.Expected.{Expected}
use Rattle.scenario.specs.declared.first_path.Expected.TheVariants as expected
use Rattle.scenario.proofs.Names.{one_txn_line}

-- a text that begins with another byte than `#` isn't skipped
not_skipped : (text other : List ℕ) (b : ℕ) → text ≡ other → slice_index other 0 ≡ b → b ≢ 35 → b ≢ 0 → ¬ IsSkipped text
not_skipped text other b e first apart some (inl none) = some (sym first ∙ ap (λ (l : List ℕ). slice_index l 0) (sym e ∙ none))
not_skipped text other b e first apart some (inr is) = apart (sym first ∙ (ap (λ (l : List ℕ). slice_index l 0) (sym e) ∙ is))

cluster_counts : (text : List ℕ) → text ≡ codes "cluster" → ¬ IsSkipped text
cluster_counts text e = not_skipped text (codes "cluster") 99 e refl (λ q. omega (arith, q)) (λ q. omega (arith, q))

begin_counts : (text : List ℕ) → text ≡ codes "begin" → ¬ IsSkipped text
begin_counts text e = not_skipped text (codes "begin") 98 e refl (λ q. omega (arith, q)) (λ q. omega (arith, q))

head_counts : (text head rest : List ℕ) (b : ℕ) → text ≡ head ++ rest → slice_index (head ++ rest) 0 ≡ b → b ≢ 35 → b ≢ 0 → ¬ IsSkipped text
head_counts text head rest b e first apart some = not_skipped text (head ++ rest) b e first apart some

node_counts : (text digits : List ℕ) → text ≡ codes "node n1 us-east a " ++ digits → ¬ IsSkipped text
node_counts text digits e = head_counts text (codes "node n1 us-east a ") digits 110 e refl (λ q. omega (arith, q)) (λ q. omega (arith, q))

sql_counts : (text sql : List ℕ) → text ≡ codes "sql " ++ sql → ¬ IsSkipped text
sql_counts text sql e = head_counts text (codes "sql ") sql 115 e refl (λ q. omega (arith, q)) (λ q. omega (arith, q))

txn_counts : (text rest : List ℕ) → text ≡ codes "txn " ++ rest → ¬ IsSkipped text
txn_counts text rest e = head_counts text (codes "txn ") rest 116 e refl (λ q. omega (arith, q)) (λ q. omega (arith, q))

txn_line_counts : (text name list : List ℕ) → IsTxnLine text name list → ¬ IsSkipped text
txn_line_counts text name list h = txn_counts text (name ++ 32 ∷ (codes "n1 now " ++ list)) h.0

node_line_counts : (text : List ℕ) (clock : ℕ) → IsNodeLine text clock → ¬ IsSkipped text
node_line_counts text clock h = node_counts text h.0 h.1

-- a line that is skipped leaves what was seen, however it is read
skipped_only : (seen : Seen) (text : List ℕ) (line : Line) (seen' : Seen) → IsSkipped text → Reads seen text line seen' → seen' ≡ seen
skipped_only seen text lines.Skipped seen' is h = h.1
skipped_only seen text (lines.Cluster settings) seen' is h = absurd (cluster_counts text h.1 is)
skipped_only seen text (lines.Node info clock) seen' is h = absurd (node_line_counts text clock h.2 is)
skipped_only seen text (lines.Sql sql) seen' is h = absurd (sql_counts text sql h.0 is)
skipped_only seen text (lines.Event events.Begin) seen' is h = absurd (begin_counts text h.1 is)
skipped_only seen text (lines.Event (events.Txn t g k list)) seen' is h = absurd (txn_line_counts text h.4 list h.5 is)
skipped_only seen text (lines.Event _) seen' is h = absurd h

abbrev after : Expected → Expected
after expected.Cluster = expected.Node
after expected.Node = expected.Database
after expected.Database = expected.Table
after expected.Table = expected.Begin
after expected.Begin = expected.Transaction
after expected.Transaction = expected.Transaction

abbrev moved : Seen → Seen
moved seen = record seen { expected = after seen.expected }

-- how a line changes what was seen
abbrev Moves : Seen → List ℕ → Seen → Type 0
Moves seen text seen' =
    (IsSkipped text × (seen' ≡ seen))
    ⊎ (((seen.expected ≢ expected.Transaction) × (seen' ≡ moved seen))
    ⊎ ((seen.expected ≡ expected.Transaction) × (name list : List ℕ) × IsTxnLine text name list × (seen' ≡ record seen { names = seen.names ++ name ∷ [] })))

move : (seen : Seen) (x y : Expected) (seen' : Seen) → seen.expected ≡ x → after x ≡ y → seen' ≡ record seen { expected = y } → seen' ≡ moved seen
move seen x y seen' at is h = h ∙ ap (λ (z : Expected). record seen { expected = z }) (sym (ap after at ∙ is))

moves : (seen : Seen) (text : List ℕ) (line : Line) (seen' : Seen) → Reads seen text line seen' → Moves seen text seen'
moves seen text lines.Skipped seen' h = inl h
moves seen text (lines.Cluster settings) seen' h = inr (inl (λ e. let p = h.0 in cc, move seen expected.Cluster expected.Node seen' h.0 refl h.3))
moves seen text (lines.Node info clock) seen' h = inr (inl (λ e. let p = h.0 in cc, move seen expected.Node expected.Database seen' h.0 refl h.3))
moves seen text (lines.Sql sql) seen' h =
    elim h.1 [
      | inl k ↦ inr (inl (λ e. let p = k.0 in cc, move seen expected.Database expected.Table seen' k.0 refl k.2))
      | inr k ↦ inr (inl (λ e. let p = k.0 in cc, move seen expected.Table expected.Begin seen' k.0 refl k.2))
    ]
moves seen text (lines.Event events.Begin) seen' h = inr (inl (λ e. let p = h.0 in cc, move seen expected.Begin expected.Transaction seen' h.0 refl h.2))
moves seen text (lines.Event (events.Txn t g k list)) seen' h = inr (inr (h.0, h.4, list, h.5, h.8))
moves seen text (lines.Event _) seen' h = absurd h

one_move : (seen : Seen) (text : List ℕ) (a b : Seen) → Moves seen text a → Moves seen text b → (IsSkipped text → a ≡ seen) → (IsSkipped text → b ≡ seen) → a ≡ b
one_move seen text a b (inl h) k skips skips' = h.1 ∙ sym (skips' h.0)
one_move seen text a b (inr h) (inl k) skips skips' = skips k.0 ∙ sym k.1
one_move seen text a b (inr (inl h)) (inr (inl k)) skips skips' = h.1 ∙ sym k.1
one_move seen text a b (inr (inl h)) (inr (inr k)) skips skips' = absurd (h.0 k.0)
one_move seen text a b (inr (inr h)) (inr (inl k)) skips skips' = absurd (k.0 h.0)
one_move seen text a b (inr (inr h)) (inr (inr k)) skips skips' =
    let same = one_txn_line text h.1 h.2 k.1 k.2 h.3 k.3 in
    h.4 ∙ (ap (λ (name : List ℕ). record seen { names = seen.names ++ name ∷ [] }) same.0 ∙ sym k.4)

pub one_reading : (seen : Seen) (text : List ℕ) (l : Line) (a : Seen) (m : Line) (b : Seen) → Reads seen text l a → Reads seen text m b → a ≡ b
one_reading seen text l a m b h k = one_move seen text a b (moves seen text l a h) (moves seen text m b k) (λ is. skipped_only seen text l a is h) (λ is. skipped_only seen text m b is k)
