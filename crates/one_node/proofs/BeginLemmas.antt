use Rattle.std.proofs.Common.{◌≡◌, ◌≢◌, ℕ, List, [], ◌∷◌, ◌++◌, ◌+◌, inl, inr, refl, sym, ap, ap₂, ◌∙◌, subst, arith}
use Rattle.std.specs.Prelude.{Some, ◌⊎◌, ◌↔◌, reverse}
use Rattle.mr_base.specs.declared.timestamps.Reading.{Reading}
use Rattle.range_log.specs.declared.entries.Entry.TheVariants as log
use Rattle.range_log.specs.declared.entries.Lease.{Lease}
use Rattle.one_node.proofs.JournalLemmas.{journal_is}
use Rattle.one_node_laws.specs.LinesRun.{LinesRun, NumberedEvent, with_line}
use Rattle.one_node_laws.specs.Runs.{IsRun}
use Rattle.one_node_laws.specs.Steps.{numbers}
use Rattle.one_node_laws.specs.Whole.{AreMade}
use Rattle.one_node_laws.specs.Words.{attempts_of, greatest_start, log_of, the_range}
use Rattle.journal.specs.declared.entries.JournalEntry.{JournalEntry}
use Rattle.journal.specs.declared.entries.JournalEntry.TheVariants as entry
use Rattle.journal.specs.declared.events.Event.TheVariants as events
use Rattle.one_node.specs.Clock.{reading_of}
use Rattle.row_locality.specs.OneColumnDatabases.{AreRising, AreInts, HasId}
use Rattle.one_node.specs.Bounds.{IsBehind}
use Rattle.one_node.specs.Kept.{HeldRow, IsKept, IsKnown, IsUnmade, tidy_log}
use Rattle.one_node.specs.Steps.{append_step, first_lease}
use Rattle.one_node.specs.declared.range.Range.{Range}

-- the journal of `begin`
abbrev pub begin_journal : ℕ → ℕ → List JournalEntry
begin_journal line x = append_step 1 (log.Lease (first_lease x)) ∷ entry.Event line ∷ []

none_made : (journal : List JournalEntry) (es : List NumberedEvent) → [] ≡ numbers es → AreMade journal es
none_made journal [] e = tt
none_made journal (n ∷ es) e = absurd (cc)

pub begin_run : (s : LinesRun) (line x : ℕ) → IsRun s [] → x ≡ (reading_of s.clock (record { wall = 0; logical = 0 })).wall + s.settings.lease
    → IsRun (with_line s line events.Begin) (begin_journal line x)
begin_run s line x run e =
    record {
      lawful = λ later. (
        record {
          order = ((line, [], refl), record { later = later; line = line; earlier = s.events; here = refl; run = ap (λ l. line ∷ l) run.whole.lines });
          served = tt;
          appended = (refl, refl, record { first = refl; seq = refl; holder = refl; boot = refl; expiration = e; low = refl });
          laid = tt;
          records = tt;
          determined = tt;
          waited = tt;
          begun = tt;
        },
        (
          record {
            order = record { later = later; event = events.Begin; earlier = s.events; here = refl; run = run.whole.lines };
            served = tt;
            appended = tt;
            laid = tt;
            records = tt;
            determined = tt;
            waited = tt;
            begun = tt;
          },
          tt,
        ),
      );
      caused = λ later. (tt, (tt, tt));
      whole = record { lines = ap (λ l. line ∷ l) run.whole.lines; made = ((λ q. cc), none_made (begin_journal line x) s.events run.whole.lines) };
      settled = record {
        answered = λ b h. absurd h;
        resolved = λ a c committed key i h. absurd h;
        within = (λ ts h. absurd h, (λ ts h. absurd h, tt));
      };
      answered = λ w b h. absurd h;
      names = (λ t h. absurd h, (λ t h. absurd h, tt));
    }

some_log : (x : ℕ) (hs : List HeldRow) → [] ≢ tidy_log x hs
some_log x [] e = cc
some_log x (h ∷ hs) e = cc

-- before `begin` there is no row
no_rows : (kept : Reading) (count : ℕ) (old : Range) (journal : List JournalEntry) → journal ≡ [] → (IsUnmade old journal ⊎ IsKept kept count old journal) → old.ids.keys ≡ []
no_rows kept count old journal empty (inl u) = u.ids
no_rows kept count old journal empty (inr k) = absurd (some_log k.expiration k.rows (ap (log_of the_range) (sym empty) ∙ k.log_is))

pub begin_known : (kept : Reading) (count line x : ℕ) (old new : Range) (journal : List JournalEntry) → journal ≡ [] → IsKnown kept count old journal
    → new.lease ≡ Some (first_lease x) → new.length ≡ 1 → new.ids.keys ≡ old.ids.keys → new.floor ≡ old.floor → IsKnown kept count new (begin_journal line x)
begin_known kept count line x old new journal empty known lease len keys floor =
    let none : new.ids.keys ≡ [] = keys ∙ no_rows kept count old journal empty known.state in
    record {
      attempts = ap attempts_of (sym empty) ∙ known.attempts;
      starts = ap greatest_start (sym empty) ∙ known.starts;
      within = (tt, (tt, tt));
      floor = subst (λ t. IsBehind kept count t) (sym floor) known.floor;
      floor_is = floor ∙ known.floor_is;
      small = omega (arith, len);
      state = inr (record {
        expiration = x;
        rows = [];
        lease = lease;
        log_is = refl;
        length_is = len;
        are_rows = tt;
        same = λ n. subst (λ ks. HasId n ks ↔ ⊥) (sym none) (λ h. h, λ h. h);
        rising = subst (λ ks. AreRising ks) (sym none) tt;
        ints = subst (λ ks. AreInts ks) (sym none) tt;
      });
    }

-- the journal after `begin`
pub begun_journal : (line x : ℕ) (old steps new : List JournalEntry) (lease : Lease) → new ≡ old ++ steps → steps ≡ entry.Event line ∷ append_step 1 (log.Lease lease) ∷ []
    → lease ≡ first_lease x → reverse old ≡ [] → reverse new ≡ begin_journal line x
begun_journal line x old steps new lease e made l empty =
    journal_is old steps new e ∙ ap₂ (λ a b. reverse a ++ b) (made ∙ ap (λ y. entry.Event line ∷ append_step 1 (log.Lease y) ∷ []) l) empty
