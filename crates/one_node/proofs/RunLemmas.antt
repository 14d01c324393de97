use Rattle.std.proofs.Common.{◌≡◌, ◌≢◌, ◌<◌, ℕ, Bool, true, false, cond, List, [], ◌∷◌, ◌++◌, ◌≤◌, ◌+◌, inl, inr, refl, sym, ap, ap₂, ◌∙◌, subst, arith, reverse, append_assoc}
use Rattle.std.specs.Prelude.{nat_lt, ◌⊎◌}
use Rattle.std.proofs.lemmas.Bool.Decides.{nat_tests}
use Rattle.mr_base.specs.Timestamps.{of_reading}
use Rattle.mr_base.specs.declared.ids.TxnId.{TxnId}
use Rattle.mr_base.specs.declared.settings.Kind.TheVariants as kinds
use Rattle.mr_base.specs.declared.timestamps.Reading.{Reading}
use Rattle.mr_base.specs.declared.timestamps.Ts.{Ts}
use Rattle.range_log.specs.Facts.{Laid, HasIntent}
use Rattle.range_log.specs.declared.entries.Entry.{Entry}
use Rattle.region_sql.specs.OneColumnForms.{IsOneColumnText}
use Rattle.region_sql.specs.declared.one_column_forms.OneColumnStatement.{OneColumnStatement}
use Rattle.one_node_laws.specs.Answered.{HasAnswer}
use Rattle.one_node_laws.specs.Begun.{next_start}
use Rattle.one_node_laws.specs.Caused.{IsCaused}
use Rattle.one_node_laws.specs.Lawful.{IsLawful}
use Rattle.one_node_laws.specs.LinesRun.{LinesRun, NumberedEvent, IsNextLine, AreNotOf, IsNotOf, with_line}
use Rattle.one_node_laws.specs.Runs.{IsRun, HasLine, IsLineOf}
use Rattle.one_node_laws.specs.Settled.{AreWithin, furthest}
use Rattle.one_node_laws.specs.Whole.{IsMade, AreMade}
use Rattle.one_node_laws.specs.Words.{Beginning, Began, IsAnswered, greatest_start, later_reading, lines_of, log_of, the_node, the_range}
use Rattle.journal.specs.Names.{NamesOnly}
use Rattle.journal.specs.declared.entries.JournalEntry.{JournalEntry}
use Rattle.journal.specs.declared.entries.JournalEntry.TheVariants as entry
use Rattle.journal.specs.declared.events.Event.{Event}
use Rattle.journal.specs.declared.events.Event.TheVariants as events
use Rattle.one_node.proofs.KnownLemmas.{IsNext, IsOfInts, later_next, line_journal, made_range}
use Rattle.one_node.proofs.LineLemmas.{TxnFacts, beginning_of}
use Rattle.one_node.proofs.LogLemmas.{no_intent}
use Rattle.one_node.proofs.TxnLemmas.{line_caused, line_lawful}
use Rattle.one_node.specs.Bounds.{IsAhead}
use Rattle.one_node.specs.Clock.{next_of, reading_of}
use Rattle.one_node.specs.Courses.{Goes}
use Rattle.one_node.specs.Kept.{IsKept, IsKnown}
use Rattle.one_node.specs.Steps.{begin_step, line_steps}
use Rattle.one_node.specs.declared.courses.Course.{Course}
use Rattle.one_node.specs.declared.courses.Course.TheVariants as courses
use Rattle.one_node.specs.declared.range.Range.{Range}
use Rattle.one_node.specs.declared.transaction.Begun.{Begun}

-- the next reading of a clock
pub record NextReading (physical : ℕ) (k : Reading) (count : ℕ) (n : Reading) : Type 0 where
  pub ahead : IsNext k n
  pub within : n.wall ≤ physical
  pub small : n.logical ≤ count + 1

next_by : (physical : ℕ) (k : Reading) (count : ℕ) → k.wall ≤ physical → k.logical ≤ count → (t : Bool) → nat_lt k.wall physical ≡ t
    → NextReading physical k count (cond t (record { wall = physical; logical = 0 }) (record { wall = k.wall; logical = k.logical + 1 }))
next_by physical k count h small true e = record { ahead = inl (grind (arith, nat_tests, e)); within = omega arith; small = omega arith }
next_by physical k count h small false e = record { ahead = inr (refl, omega arith); within = h; small = omega (arith, small) }

pub next_reading : (physical : ℕ) (k : Reading) (count : ℕ) → k.wall ≤ physical → k.logical ≤ count → NextReading physical k count (next_of physical k)
next_reading physical k count h small = next_by physical k count h small (nat_lt k.wall physical) refl

-- a clock shows no less than what it gave
shows_by : (physical : ℕ) (n : Reading) (t : Bool) → nat_lt n.wall physical ≡ t → n.wall ≤ (cond t (record { wall = physical; logical = 0 }) n).wall
shows_by physical n true e = grind (arith, nat_tests, e)
shows_by physical n false e = omega arith

pub shows : (physical : ℕ) (n : Reading) → n.wall ≤ (reading_of physical n).wall
shows physical n = shows_by physical n (nat_lt n.wall physical) refl

-- names of answered transactions
answered_named : (P : TxnId → Type 0) (t : TxnId) (journal : List JournalEntry) → NamesOnly P journal → IsAnswered t journal → P t
answered_named P t [] names h = absurd h
answered_named P t (entry.Ack txn ts results ∷ es) names (inl e) = names.0 t e
answered_named P t (entry.Ack txn ts results ∷ es) names (inr h) = answered_named P t es names.1 h
answered_named P t (entry.Fault txn ts state ∷ es) names (inl e) = names.0 t e
answered_named P t (entry.Fault txn ts state ∷ es) names (inr h) = answered_named P t es names.1 h
answered_named P t (entry.Refuse txn why ∷ es) names (inl e) = names.0 t e
answered_named P t (entry.Refuse txn why ∷ es) names (inr h) = answered_named P t es names.1 h
answered_named P t (entry.Lost txn ∷ es) names (inl e) = names.0 t e
answered_named P t (entry.Lost txn ∷ es) names (inr h) = answered_named P t es names.1 h
answered_named P t (e ∷ es) names h = answered_named P t es names.1 h

is_line : (t : TxnId) (e : Event) → IsNotOf t e → ¬ IsLineOf t e
is_line t (events.Txn u gateway kind list) n h = n (sym h)
is_line t e n h = absurd h

no_line : (t : TxnId) (es : List NumberedEvent) → AreNotOf t es → ¬ HasLine es t
no_line t [] n h = h
no_line t (e ∷ es) n (inl h) = is_line t e.event n.0 h
no_line t (e ∷ es) n (inr h) = no_line t es n.1 h

names_more : (x : NumberedEvent) (es : List NumberedEvent) (journal : List JournalEntry) → NamesOnly (HasLine es) journal → NamesOnly (HasLine (x ∷ es)) journal
names_more x es [] names = tt
names_more x es (e ∷ rest) names = ((λ t h. inr (names.0 t h)), names_more x es rest names.1)

made_one : (old new : List JournalEntry) → ((b : Beginning) → Began b old → Began b new) → (log_of the_range old ≢ [] → log_of the_range new ≢ []) → (e : Event) → IsMade old e → IsMade new e
made_one old new f g events.Begin h = g h
made_one old new f g (events.Txn t gateway kind list) h = (h.0, f h.0 h.1, h.2)
made_one old new f g e h = tt

made_more : (old new : List JournalEntry) → ((b : Beginning) → Began b old → Began b new) → (log_of the_range old ≢ [] → log_of the_range new ≢ []) → (es : List NumberedEvent) → AreMade old es → AreMade new es
made_more old new f g [] h = tt
made_more old new f g (e ∷ es) h = (made_one old new f g e.event h.0, made_more old new f g es h.1)

-- no intent stands in the log
abbrev pub HasNoIntent : List JournalEntry → Type 0
HasNoIntent journal = (key : List ℕ) (i : Laid) → ¬ HasIntent key i (log_of the_range journal)

-- each timestamp of a transaction is its start
at_start : (b : Begun) (most : ℕ) → b.start.wall ≤ most → (ts : Ts) → ts ≡ b.start → ts.wall ≤ most
at_start b most h ts e = subst (λ (t : Ts). t.wall ≤ most) (sym e) h

put_at_start : (b : Begun) (most : ℕ) → b.start.wall ≤ most → (ts : Ts) → (ts ≡ b.start) ⊎ (ts ≡ b.start) → ts.wall ≤ most
put_at_start b most h ts (inl e) = at_start b most h ts e
put_at_start b most h ts (inr e) = at_start b most h ts e

module _ (line : ℕ) (b : Begun) (range : Range) (journal : List JournalEntry) where
  lines_line : (course : Course) → lines_of (line_journal line b course range journal) ≡ line ∷ lines_of journal
  lines_line courses.Unserved = refl
  lines_line (courses.Duplicate m) = refl
  lines_line (courses.Inserts m) = refl
  lines_line courses.Selects = refl

  began_line : (course : Course) → Began (beginning_of b) (line_journal line b course range journal)
  began_line courses.Unserved = inl refl
  began_line (courses.Duplicate m) = inl refl
  began_line (courses.Inserts m) = inl refl
  began_line courses.Selects = inl refl

  began_more : (course : Course) (g : Beginning) → Began g journal → Began g (line_journal line b course range journal)
  began_more courses.Unserved g h = inr h
  began_more (courses.Duplicate m) g h = inr h
  began_more (courses.Inserts m) g h = inr h
  began_more courses.Selects g h = inr h

  log_more : (course : Course) → log_of the_range journal ≢ [] → log_of the_range (line_journal line b course range journal) ≢ []
  log_more courses.Unserved h e = h e
  log_more (courses.Duplicate m) h e = h e
  log_more (courses.Inserts m) h e = cc
  log_more courses.Selects h e = h e

  answers_line : (course : Course) → ((g : Beginning) → Began g journal → IsAnswered g.txn journal) → (g : Beginning) → Began g (line_journal line b course range journal) → IsAnswered g.txn (line_journal line b course range journal)
  answers_line courses.Unserved f g (inl e) = inl (ap (λ (y : Beginning). y.txn) e)
  answers_line courses.Unserved f g (inr h) = inr (f g h)
  answers_line (courses.Duplicate m) f g (inl e) = inl (ap (λ (y : Beginning). y.txn) e)
  answers_line (courses.Duplicate m) f g (inr h) = inr (f g h)
  answers_line (courses.Inserts m) f g (inl e) = inl (ap (λ (y : Beginning). y.txn) e)
  answers_line (courses.Inserts m) f g (inr h) = inr (f g h)
  answers_line courses.Selects f g (inl e) = inl (ap (λ (y : Beginning). y.txn) e)
  answers_line courses.Selects f g (inr h) = inr (f g h)

  -- no intent is left
  resolved_line : (course : Course) → HasNoIntent journal → HasNoIntent (line_journal line b course range journal)
  resolved_line courses.Unserved f key i h = f key i h
  resolved_line (courses.Duplicate m) f key i h = f key i h
  resolved_line (courses.Inserts m) f key i (inl (p, q), n) = n p (sym (ap (λ l. l.attempt) q))
  resolved_line (courses.Inserts m) f key i (inr (p, q), n) = f key i q
  resolved_line courses.Selects f key i h = f key i h

  -- no timestamp is ahead
  within_line : (course : Course) (most : ℕ) → b.start.wall ≤ most → AreWithin most journal → AreWithin most (line_journal line b course range journal)
  within_line courses.Unserved most h w = (λ t q. absurd q, (at_start b most h, (λ t q. absurd q, w)))
  within_line (courses.Duplicate m) most h w = (at_start b most h, (at_start b most h, (at_start b most h, (λ t q. absurd q, w))))
  within_line (courses.Inserts m) most h w =
      (at_start b most h, (at_start b most h, (at_start b most h, (put_at_start b most h, (at_start b most h, (at_start b most h, (λ t q. absurd q, w)))))))
  within_line courses.Selects most h w = (at_start b most h, (at_start b most h, (at_start b most h, (λ t q. absurd q, w))))

  answered_line : (course : Course) → course ≢ courses.Unserved → ((g : Beginning) → Began g journal → HasAnswer g.txn journal) → (g : Beginning) → Began g (line_journal line b course range journal) → HasAnswer g.txn (line_journal line b course range journal)
  answered_line courses.Unserved n f g h = absurd (n refl)
  answered_line (courses.Duplicate m) n f g (inl e) = inl (ap (λ (y : Beginning). y.txn) e)
  answered_line (courses.Duplicate m) n f g (inr h) = inr (f g h)
  answered_line (courses.Inserts m) n f g (inl e) = inl (ap (λ (y : Beginning). y.txn) e)
  answered_line (courses.Inserts m) n f g (inr h) = inr (f g h)
  answered_line courses.Selects n f g (inl e) = inl (ap (λ (y : Beginning). y.txn) e)
  answered_line courses.Selects n f g (inr h) = inr (f g h)

  -- a line names its own transaction alone
  names_line : (course : Course) (P : TxnId → Type 0) → ((t : TxnId) → t ≡ b.txn → P t) → NamesOnly P journal → NamesOnly P (line_journal line b course range journal)
  names_line courses.Unserved P p h = (p, (p, (λ t q. absurd q, h)))
  names_line (courses.Duplicate m) P p h = (p, (λ t q. absurd q, (p, (λ t q. absurd q, h))))
  names_line (courses.Inserts m) P p h = (p, (λ t q. absurd q, (λ t q. absurd q, (λ t q. absurd q, (λ t q. absurd q, (p, (λ t q. absurd q, h)))))))
  names_line courses.Selects P p h = (p, (λ t q. absurd q, (p, (λ t q. absurd q, h))))

-- a line's entries name its transaction alone
pub steps_name : (line : ℕ) (b : Begun) (course : Course) (range : Range) → NamesOnly (λ t. t ≡ b.txn) (reverse (line_steps line b course range.length range.ids.keys))
steps_name line b courses.Unserved range = names_line line b range [] courses.Unserved (λ t. t ≡ b.txn) (λ t e. e) tt
steps_name line b (courses.Duplicate m) range = names_line line b range [] (courses.Duplicate m) (λ t. t ≡ b.txn) (λ t e. e) tt
steps_name line b (courses.Inserts m) range = names_line line b range [] (courses.Inserts m) (λ t. t ≡ b.txn) (λ t e. e) tt
steps_name line b courses.Selects range = names_line line b range [] courses.Selects (λ t. t ≡ b.txn) (λ t e. e) tt

pub steps_some : (line : ℕ) (b : Begun) (course : Course) (range : Range) → reverse (line_steps line b course range.length range.ids.keys) ≢ []
steps_some line b courses.Unserved range e = cc
steps_some line b (courses.Duplicate m) range e = cc
steps_some line b (courses.Inserts m) range e = cc
steps_some line b courses.Selects range e = cc

-- no intent stands in what is kept
kept_free : (k : Reading) (count : ℕ) (range : Range) (journal : List JournalEntry) → IsKept k count range journal → HasNoIntent journal
kept_free k count range journal kept key i h = no_intent kept.expiration kept.rows key i (subst (λ (entries : List Entry). HasIntent key i entries) kept.log_is h)

-- what is known where a transaction begins
pub txn_facts : (s : LinesRun) (k : Reading) (count line : ℕ) (b : Begun) (st : OneColumnStatement) (text : List ℕ) (range : Range) (journal : List JournalEntry)
    → IsRun s journal → IsNextLine s line (events.Txn b.txn the_node kinds.Now text) → IsOneColumnText text st → IsKnown k count range journal → journal ≢ []
    → k.wall ≤ s.clock → k.logical ≤ count
    → b.attempt.0 ≡ count + 1 → b.start ≡ of_reading (next_of s.clock k) b.attempt.0 → b.limit ≡ b.start.wall + s.settings.max_offset
    → TxnFacts s k count line b st text range journal
txn_facts s k count line b st text range journal run next list known some wall small a start limit =
    let n : NextReading s.clock k count (next_of s.clock k) = next_reading s.clock k count wall small in
    let begins : b.start ≡ of_reading (next_start s journal) b.attempt.0 = start ∙ ap (λ (y : Reading). of_reading (next_of s.clock y) b.attempt.0) (sym known.starts) in
    let gave : greatest_start (begin_step b ∷ journal) ≡ next_of s.clock k =
    ap₂ (λ (x : Reading) (ts : Ts). later_reading x (record { wall = ts.wall; logical = ts.logical })) known.starts start ∙ later_next k (next_of s.clock k) n.ahead in
    record {
      lines = run.whole.lines;
      fresh = λ h. no_line b.txn s.events next.1 (answered_named (HasLine s.events) b.txn journal run.names h);
      list = list;
      attempt = a;
      attempts = known.attempts;
      start = begins;
      limit = limit;
      ahead = subst (λ (ts : Ts). IsAhead k ts) (sym start) n.ahead;
      wall = subst (λ (ts : Ts). ts.wall ≤ s.clock) (sym start) n.within;
      passed = subst (λ (y : Reading). b.start.wall ≤ (reading_of s.clock y).wall) (sym gave)
          (subst (λ (ts : Ts). ts.wall ≤ (reading_of s.clock (next_of s.clock k)).wall) (sym start) (shows s.clock (next_of s.clock k)));
      within = known.within;
      kept = made_range k count range journal some known.state;
    }

-- a transaction's line is run
pub run_next : (s : LinesRun) (k : Reading) (count line : ℕ) (b : Begun) (st : OneColumnStatement) (text : List ℕ) (course : Course) (range : Range) (journal : List JournalEntry)
    → IsRun s journal → TxnFacts s k count line b st text range journal → IsOfInts st → Goes range b st course
    → (s.settings.max_offset < s.settings.lease → course ≢ courses.Unserved)
    → IsRun (with_line s line (events.Txn b.txn the_node kinds.Now text)) (line_journal line b course range journal)
run_next s k count line b st text course range journal run facts ints goes served =
    let x : NumberedEvent = record { line = line; event = events.Txn b.txn the_node kinds.Now text } in
    record {
      lawful = λ later. line_lawful later s k count line b text range journal st course facts ints goes
          (subst (λ (es : List NumberedEvent). IsLawful (record { settings = s.settings; clock = s.clock; events = es }) journal) (append_assoc later (x ∷ []) s.events) (run.lawful (later ++ x ∷ [])));
      caused = λ later. line_caused later s k count line b text range journal st course facts goes
          (subst (λ (es : List NumberedEvent). IsCaused (record { settings = s.settings; clock = s.clock; events = es }) journal) (append_assoc later (x ∷ []) s.events) (run.caused (later ++ x ∷ [])));
      whole = record {
        lines = lines_line line b range journal course ∙ ap (λ l. line ∷ l) run.whole.lines;
        made = (
          (beginning_of b, began_line line b range journal course, refl),
          made_more journal (line_journal line b course range journal) (began_more line b range journal course) (log_more line b range journal course) s.events run.whole.made,
        );
      };
      settled = record {
        answered = answers_line line b range journal course run.settled.answered;
        resolved = λ a c committed key i h. absurd (resolved_line line b range journal course (kept_free k count range journal facts.kept) key i h);
        within = within_line line b range journal course (furthest s) (omega (arith, facts.wall)) run.settled.within;
      };
      answered = λ w. answered_line line b range journal course (served w) (run.answered w);
      names = names_line line b range journal course (HasLine (x ∷ s.events)) (λ t e. inl e) (names_more x s.events journal run.names);
    }
