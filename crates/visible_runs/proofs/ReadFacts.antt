use Rattle.std.proofs.Common.{◌≡◌, ℕ, ◌∷◌, inl, inr, sym, ap, ◌∙◌, subst}
use Rattle.std.specs.Prelude.{List, Option, Some}
use Rattle.std.specs.List.{Contains}
use Rattle.journal.specs.declared.entries.How.{How}
use Rattle.journal.specs.declared.entries.JournalEntry.TheVariants as entry
use Rattle.mr_base.specs.Timestamps.{IsBelow}
use Rattle.mr_base.specs.declared.ids.AttemptId.{AttemptId}
use Rattle.mr_base.specs.declared.ids.NodeId.{NodeId}
use Rattle.mr_base.specs.declared.ids.RangeId.{RangeId}
use Rattle.mr_base.specs.declared.messages.Known.{Known}
use Rattle.mr_base.specs.declared.spans.Span.{Span}
use Rattle.mr_base.specs.declared.timestamps.Ts.{Ts}
use Rattle.run_laws.proofs.AttemptLemmas.{attempt_stays}
use Rattle.run_laws.proofs.LawfulLemmas.{happened_so}
use Rattle.run_laws.specs.Lawful.{IsLawful, IsPermitted}
use Rattle.run_laws.specs.Lists.{WasServedAt}
use Rattle.run_laws.specs.Served.{IsAsked, IsServed}
use Rattle.run_words.proofs.AttemptLemmas.{serve_was_served}
use Rattle.run_words.proofs.HappenedLemmas.{happened_since}
use Rattle.run_words.specs.Attempts.{Attempt, attempt_of}
use Rattle.run_words.specs.Happened.{IsPlace}
use Rattle.run_words.specs.History.{History, Item, Made}
use Rattle.run_words.specs.Relations.{IsServe, WasServed}
use Rattle.run_words.specs.Serving.{ServedRead, serves}
use Rattle.run_words.specs.Setup.{Setup}
use Rattle.run_words.specs.Transactions.{Beginning, beginning}
use Rattle.held_reads.proofs.Basics.{some_same}
use Rattle.visible_runs.proofs.Places.{before_item}
use Rattle.held_reads.proofs.TsLemmas.{not_itself}

-- a span was read where its attempt reads, with the limit of its transaction
pub record IsReadAt (setup : Setup) (h : History) (a : AttemptId) (att : Attempt) (j : RangeId) (span : Span) : Type 0 where
  pub older : History
  pub place : IsPlace older h
  pub lawful : IsLawful setup older
  pub is_attempt : attempt_of older a ≡ Some att
  pub node : NodeId
  pub at : Ts
  pub limit : Option ℕ
  pub count : ℕ
  pub by : How
  pub known : List Known
  pub at_is : at ≡ att.read_at
  pub begun : Beginning
  pub is_begun : beginning older att.txn ≡ Some begun
  pub limit_is : limit ≡ begun.limit
  pub served : IsServed setup older a node j span at limit count by known

module _ (setup : Setup) (h : History) (l : IsLawful setup h) (a : AttemptId) (att : Attempt) (is : attempt_of h a ≡ Some att) where
  -- it is the attempt wherever it is one
  same_att : (older : History) → IsPlace older h → (x : Attempt) → attempt_of older a ≡ Some x → x ≡ att
  same_att older p x e = some_same (sym (attempt_stays setup h older a x l p e) ∙ is)

  exact : (older : History) → IsPlace older h → IsLawful setup older → (node : NodeId) (j : RangeId) (span : Span) (at : Ts) (limit : Option ℕ) (count : ℕ) (by : How) (known : List Known)
      → IsServed setup older a node j span at limit count by known → at ≡ att.read_at → IsAsked setup older a j span at limit → IsReadAt setup h a att j span
  exact older p lawful node j span at limit count by known served at_is (inl r) =
      let same : r.attempt ≡ att = same_att older p r.attempt r.is_attempt in
      record {
        older = older;
        place = p;
        lawful = lawful;
        is_attempt = r.is_attempt ∙ ap (λ (x : Attempt). Some x) same;
        node = node;
        at = at;
        limit = limit;
        count = count;
        by = by;
        known = known;
        at_is = at_is;
        begun = r.begun;
        is_begun = subst (λ (x : Attempt). beginning older x.txn ≡ Some r.begun) same r.is_begun;
        limit_is = r.limit_is;
        served = served;
      }
  exact older p lawful node j span at limit count by known served at_is (inr (from, r, none)) =
      let same : r.attempt ≡ att = same_att older p r.attempt r.is_attempt in
      absurd (not_itself att.read_at (subst (λ (t : Ts). IsBelow att.read_at t) at_is (subst (λ (x : Attempt). IsBelow x.read_at at) same r.above_it)))

  -- what was served there was read there
  exact_at : (x : Item) (older : History) → IsPlace (x ∷ older) h → (s : ServedRead) → IsServe setup s x older → IsPermitted setup older x → IsLawful setup older → s.read.attempt ≡ a
      → s.read.at ≡ att.read_at → IsReadAt setup h a att s.range s.read.span
  exact_at (Made (entry.Serve b node j span at limit count by known)) older place s e p lawful same at_is =
      let mine : b ≡ a = sym (ap (λ (y : ServedRead). y.read.attempt) e) ∙ same in
      let served : IsServed setup older a node j span at limit count by known = subst (λ (c : AttemptId). IsServed setup older c node j span at limit count by known) mine p.served in
      subst (λ (y : ServedRead). IsReadAt setup h a att y.range y.read.span) (sym e)
      (exact older (before_item h older _ place) lawful node j span at limit count by known served (sym (ap (λ (y : ServedRead). y.read.at) e) ∙ at_is) served.asked)
  exact_at x older place s e p lawful same at_is = absurd e

  exact_read : (s : ServedRead) → WasServed setup s h → s.read.attempt ≡ a → s.read.at ≡ att.read_at → IsReadAt setup h a att s.range s.read.span
  exact_read s w same at_is =
      let f : (x : Item) × (older : History) × IsPlace (x ∷ older) h × IsServe setup s x older × IsPermitted setup older x × IsLawful setup older = happened_so setup h (IsServe setup s) l w in
      exact_at f.0 f.1 f.2 s f.3 f.4 f.5 same at_is

  -- so was each span that the attempt was served, as a refresh is of a span that was served there
  by_asked : (older : History) → IsPlace older h → IsLawful setup older → (node : NodeId) (j : RangeId) (span : Span) (at : Ts) (limit : Option ℕ) (count : ℕ) (by : How) (known : List Known)
      → IsServed setup older a node j span at limit count by known → IsAsked setup older a j span at limit → IsReadAt setup h a att j span
  by_asked older p lawful node j span at limit count by known served (inl r) =
      exact older p lawful node j span at limit count by known served (r.at_is ∙ ap (λ (x : Attempt). x.read_at) (same_att older p r.attempt r.is_attempt)) (inl r)
  by_asked older p lawful node j span at limit count by known served (inr (from, r, none)) =
      let f : WasServedAt setup older a j span r.attempt.read_at = r.served in
      let w : WasServed setup f.0 older × (f.0.read.attempt ≡ a) = serve_was_served setup older a f.0 f.1 in
      subst (λ (y : Span). IsReadAt setup h a att j y) f.3
      (subst (λ (y : RangeId). IsReadAt setup h a att y f.0.read.span) f.2
      (exact_read f.0 (happened_since (IsServe setup f.0) h older p w.0) w.1 (f.4 ∙ ap (λ (x : Attempt). x.read_at) (same_att older p r.attempt r.is_attempt))))

  read_at : (x : Item) (older : History) → IsPlace (x ∷ older) h → (s : ServedRead) → IsServe setup s x older → IsPermitted setup older x → IsLawful setup older → s.read.attempt ≡ a
      → IsReadAt setup h a att s.range s.read.span
  read_at (Made (entry.Serve b node j span at limit count by known)) older place s e p lawful same =
      let mine : b ≡ a = sym (ap (λ (y : ServedRead). y.read.attempt) e) ∙ same in
      let served : IsServed setup older a node j span at limit count by known = subst (λ (c : AttemptId). IsServed setup older c node j span at limit count by known) mine p.served in
      subst (λ (y : ServedRead). IsReadAt setup h a att y.range y.read.span) (sym e)
      (by_asked older (before_item h older _ place) lawful node j span at limit count by known served served.asked)
  read_at x older place s e p lawful same = absurd e

  pub read_of : (s : ServedRead) → Contains (serves setup h a) s → IsReadAt setup h a att s.range s.read.span
  read_of s c =
      let w : WasServed setup s h × (s.read.attempt ≡ a) = serve_was_served setup h a s c in
      let f : (x : Item) × (older : History) × IsPlace (x ∷ older) h × IsServe setup s x older × IsPermitted setup older x × IsLawful setup older = happened_so setup h (IsServe setup s) l w.0 in
      read_at f.0 f.1 f.2 s f.3 f.4 f.5 w.1
