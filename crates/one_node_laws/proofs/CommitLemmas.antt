use Rattle.std.proofs.Common.{◌≡◌, ℕ, ℤ, pos, negsuc, Bool, true, false, cond, List, [], ◌∷◌, inl, inr, ⊎_elim, refl, sym, ap, ◌∙◌, subst, true≢false, w64, SFits}
use Rattle.std.specs.Prelude.{◌⊎◌, Option, Some, map, Result, Ok, Err}
use Rattle.mr_base.specs.declared.ids.AttemptId.{AttemptId}
use Rattle.mr_base.specs.declared.spans.Pair.{Pair}
use Rattle.mr_base.specs.declared.states.SqlState.{SqlState}
use Rattle.mr_base.specs.declared.states.SqlState.TheVariants as states
use Rattle.mr_base.specs.declared.timestamps.Ts.{Ts}
use Rattle.range_log.specs.declared.entries.Entry.{Entry}
use Rattle.region_sql.specs.OneColumnForms.{IsOneColumnText}
use Rattle.region_sql.specs.declared.one_column_forms.OneColumnStatement.{OneColumnStatement}
use Rattle.region_sql.specs.declared.one_column_forms.OneColumnStatement.TheVariants.{Insert, SelectAll}
use Rattle.row_locality.proofs.OneColumnKeyLemmas.{same_key}
use Rattle.row_locality.specs.OneColumnDatabases.{Database, IsValid, AreRising, AreInts, HasId, IsInt, row_with}
use Rattle.row_locality.specs.OneColumnRows.{int_key, int_value, int_pair}
use Rattle.one_node_laws.proofs.ValidLemmas.{valid_with}
use Rattle.one_node_laws.specs.Decided.{after}
use Rattle.one_node_laws.specs.Determined.{ArePuts, GivesPuts, GivesResults}
use Rattle.one_node_laws.specs.Serial.{Answers}
use Rattle.one_node_laws.specs.Words.{HasPut, log_of, the_range}
use Rattle.journal.specs.declared.entries.JournalEntry.{JournalEntry}
use Rattle.mr_base.specs.declared.results.StatementResult.{StatementResult}
use Rattle.sql_eval.proofs.OneColumnExecutionLemmas.{changes, held_id, is_change, new_held, no_change, nothing_else, still_held, tests_id}
use Rattle.sql_eval.specs.OneColumnAgreement.{Holds, IsChange, pair}
use Rattle.sql_eval.specs.OneColumnExecution.{Executed, exec, has_id, with_id}

-- what a commit's statement does to the database that its puts change
pub record Commits (a : AttemptId) (l : List Entry) (d next : Database) : Type 0 where
  pub new_held : (key : List ℕ) (u : Option (List ℕ)) (p : Ts) → HasPut a key u p l → (v : List ℕ) × (u ≡ Some v) × Holds next key v
  pub held_new : (key v : List ℕ) → Holds next key v → ((p : Ts) × HasPut a key (Some v) p l) ⊎ Holds d key v
  pub still : (key v : List ℕ) → Holds d key v → Holds next key v
  pub apart : (key : List ℕ) (u : Option (List ℕ)) (p : Ts) (v : List ℕ) → HasPut a key u p l → ¬ Holds d key v
  pub well : IsValid next

int_from : (n : ℤ) → SFits w64 n → IsInt n
int_from (pos n) f = f.sfits
int_from (negsuc n) f = f.sfits

int_in : (ms : List ℤ) → AreInts ms → (m : ℤ) → HasId m ms → IsInt m
int_in [] ints m h = absurd h
int_in (l ∷ ls) ints m (inl e) = subst (λ y. IsInt y) e ints.0
int_in (l ∷ ls) ints m (inr h) = int_in ls ints.1 m h

not_there : (n : ℤ) (ms : List ℤ) → IsInt n → AreInts ms → ¬ HasId n ms → (v : List ℕ) → ¬ Holds (map row_with ms) (int_key n) v
not_there n ms int ints missing v h =
    let f : (m : ℤ) × HasId m ms × (int_pair m ≡ pair (int_key n) v) = held_id ms (pair (int_key n) v) h in
    missing (subst (λ y. HasId y ms) (same_key f.0 n (int_in ms ints f.0 f.1) int (ap (λ (p : Pair). p.key) f.2)) f.1)

insert_commits : (a : AttemptId) (journal : List JournalEntry) (n : ℤ) (ms : List ℤ) → IsInt n → AreRising ms → AreInts ms → ¬ HasId n ms → ArePuts a journal (map row_with ms) (with_id n (map row_with ms))
    → Commits a (log_of the_range journal) (map row_with ms) (with_id n (map row_with ms))
insert_commits a journal n ms int rising ints missing puts =
    record {
      new_held = λ key u p h.
          let f : (key ≡ int_key n) × (u ≡ Some (int_value n)) = is_change ms n missing key u ((puts key u).1 (p, h)) in
          (int_value n, f.1, subst (λ (k : List ℕ). Holds (with_id n (map row_with ms)) k (int_value n)) (sym f.0) (new_held ms n));
      held_new = λ key v h. ⊎_elim
          (λ (e : int_pair n ≡ pair key v). inl ((puts key (Some v)).0
          (subst (λ (q : Pair). IsChange (map row_with ms) (with_id n (map row_with ms)) q.key (Some q.value)) e
          (changes ms n (λ m i same. missing (subst (λ y. HasId y ms) (same_key m n (int_in ms ints m i) int (ap (λ (p : Pair). p.key) same)) i))))))
          (λ q. inr q) (nothing_else ms n (pair key v) h);
      still = λ key v h. still_held ms n (pair key v) h;
      apart = λ key u p v h held.
          let f : (key ≡ int_key n) × (u ≡ Some (int_value n)) = is_change ms n missing key u ((puts key u).1 (p, h)) in
          not_there n ms int ints missing v (subst (λ (k : List ℕ). Holds (map row_with ms) k v) f.0 held);
      well = valid_with n ms int missing rising ints;
    }

commits_by : (a : AttemptId) (journal : List JournalEntry) (n : ℤ) (ms : List ℤ) → IsInt n → AreRising ms → AreInts ms → (t : Bool) → has_id n (map row_with ms) ≡ t
    → GivesPuts a journal (map row_with ms) (cond t (Err states.S23505) (Ok (record { answer = record { count = 1; rows = [] }; after = with_id n (map row_with ms) })))
    → Commits a (log_of the_range journal) (map row_with ms) (after (cond t (Err states.S23505) (Ok (record { answer = record { count = 1; rows = [] }; after = with_id n (map row_with ms) }))) (map row_with ms))
commits_by a journal n ms int rising ints true e gives = absurd gives
commits_by a journal n ms int rising ints false e gives =
    insert_commits a journal n ms int rising ints (λ h. true≢false (sym (tests_id ms n h) ∙ e)) gives

-- a statement whose changes are the attempt's puts
pub commits : (text : List ℕ) (st : OneColumnStatement) → IsOneColumnText text st → (a : AttemptId) (journal : List JournalEntry) (d : Database) → IsValid d → GivesPuts a journal d (exec st d)
    → Commits a (log_of the_range journal) d (after (exec st d) d)
commits text (Insert n) (digits, f, int) a journal d (ms, e, rising, ints) gives =
    subst (λ (y : Database). Commits a (log_of the_range journal) y (after (exec (Insert n) y) y)) (sym e)
    (commits_by a journal n ms (int_from n int.fits) rising ints (has_id n (map row_with ms)) refl (subst (λ (y : Database). GivesPuts a journal y (exec (Insert n) y)) e gives))
commits text SelectAll h a journal d valid gives =
    record {
      new_held = λ key u p put. absurd (no_change d key u ((gives key u).1 (p, put)));
      held_new = λ key v held. inr held;
      still = λ key v held. held;
      apart = λ key u p v put held. absurd (no_change d key u ((gives key u).1 (p, put)));
      well = valid;
    }

-- a statement without puts changes nothing
unchanged_by : (a : AttemptId) (journal : List JournalEntry) (n : ℤ) (ms : List ℤ) (results : List StatementResult) → IsInt n → AreInts ms → (t : Bool) → has_id n (map row_with ms) ≡ t
    → ((key : List ℕ) (value : Option (List ℕ)) (at : Ts) → ¬ HasPut a key value at (log_of the_range journal))
    → GivesResults (Insert n) results a journal (map row_with ms) (cond t (Err states.S23505) (Ok (record { answer = record { count = 1; rows = [] }; after = with_id n (map row_with ms) }))) → ⊥
unchanged_by a journal n ms results int ints true e none gives = gives
unchanged_by a journal n ms results int ints false e none gives =
    let missing : ¬ HasId n ms = λ h. true≢false (sym (tests_id ms n h) ∙ e) in
    let f : (ts : Ts) × HasPut a (int_key n) (Some (int_value n)) ts (log_of the_range journal) =
    (gives.1 (int_key n) (Some (int_value n))).0 (changes ms n (λ m i same. missing (subst (λ y. HasId y ms) (same_key m n (int_in ms ints m i) int (ap (λ (p : Pair). p.key) same)) i))) in
    none (int_key n) (Some (int_value n)) f.0 f.1

pub unchanged : (text : List ℕ) (st : OneColumnStatement) → IsOneColumnText text st → (results : List StatementResult) (a : AttemptId) (journal : List JournalEntry) (d : Database) → IsValid d
    → ((key : List ℕ) (value : Option (List ℕ)) (at : Ts) → ¬ HasPut a key value at (log_of the_range journal)) → GivesResults st results a journal d (exec st d) → after (exec st d) d ≡ d
unchanged text (Insert n) (digits, f, int) results a journal d (ms, e, rising, ints) none gives =
    absurd (unchanged_by a journal n ms results (int_from n int.fits) ints (has_id n (map row_with ms)) refl none (subst (λ (y : Database). GivesResults (Insert n) results a journal y (exec (Insert n) y)) e gives))
unchanged text SelectAll h results a journal d valid none gives = refl

-- what gives results answers with them
pub answers : (st : OneColumnStatement) (results : List StatementResult) (a : AttemptId) (journal : List JournalEntry) (d : Database) (r : Result Executed SqlState) → GivesResults st results a journal d r → Answers st results r
answers st results a journal d (Ok x) gives = gives.0
answers st results a journal d (Err state) gives = gives
