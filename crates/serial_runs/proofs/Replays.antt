use Rattle.std.proofs.Common.{◌≡◌, ◌≢◌, ℕ, ◌≤◌, List, [], ◌∷◌, map, inl, inr, refl, sym, ap, ◌∙◌, subst}
use Rattle.std.specs.Prelude.{◌⊎◌, IsSome, Option, Some, Ok, Err}
use Rattle.std.specs.List.{Contains}
use Rattle.answer_laws.proofs.ExecutedLists.{exec_keeps}
use Rattle.answer_laws.proofs.Members.{Has, each_has, has_itself}
use Rattle.descriptors.specs.Sound.{IsSoundCatalog}
use Rattle.held_reads.specs.KeepsReads.{KeepsReads}
use Rattle.held_reads.specs.Laws.{FedReadsAgree, IsHeldBelow}
use Rattle.mr_base.specs.Timestamps.{IsBelow}
use Rattle.mr_base.specs.declared.ids.AttemptId.{AttemptId}
use Rattle.mr_base.specs.declared.ids.RangeId.{RangeId}
use Rattle.mr_base.specs.declared.ids.TxnId.{TxnId}
use Rattle.mr_base.specs.declared.script.Fed.{Fed}
use Rattle.mr_base.specs.declared.spans.Write.{Write}
use Rattle.mr_base.specs.declared.timestamps.Ts.{Ts}
use Rattle.row_locality.specs.Plain.{IsValid, Layout, PlainDatabase, range_pairs}
use Rattle.run_laws.specs.Beginnings.{IsSoundSetup}
use Rattle.run_laws.specs.Decided.{Decided, WasDecided, after_list, executed_on, replay}
use Rattle.run_laws.specs.DeterminedAnswers.{Executed, heard_at, write_of}
use Rattle.run_laws.specs.Held.{IsWritten}
use Rattle.run_laws.specs.Lawful.{IsLawful}
use Rattle.run_laws.specs.Lists.{AreFed}
use Rattle.run_laws.specs.Records.{WasAnswered}
use Rattle.run_laws.specs.Serial.{IsInPart}
use Rattle.run_words.specs.Happened.{IsPlace}
use Rattle.run_words.specs.History.{History, Item}
use Rattle.run_words.specs.Messages.{handled}
use Rattle.run_words.specs.Puts.{CommitMade, PutMade, commit, puts}
use Rattle.run_words.specs.Ranges.{range_of}
use Rattle.run_words.specs.Relations.{WasServed}
use Rattle.run_words.specs.Serving.{ServedRead}
use Rattle.run_words.specs.Setup.{Setup}
use Rattle.sql_eval.specs.Agreement.{Agrees, AreChanges}
use Rattle.sql_eval.specs.Evaluation.{Setting}
use Rattle.sql_eval.specs.Laws.{HaveTexts}
use Rattle.serial_runs.proofs.Committed.{IsCommitDecision, commit_decision, commit_since, commit_stands, committing, puts_settled}
use Rattle.serial_runs.proofs.DecidedLists.{Falls, IsFalling}
use Rattle.serial_runs.proofs.Decisions.{IsByAnswer, IsByCommit}
use Rattle.serial_runs.proofs.Effects.{IsEffect}
use Rattle.serial_runs.proofs.Heard.{IsGood, contained, heard_served, was_good}
use Rattle.serial_runs.proofs.Loads.{load_is_pair}
use Rattle.serial_runs.proofs.Numbers.{by_number}
use Rattle.serial_runs.proofs.Owners.{commit_owned}
use Rattle.serial_runs.proofs.Places.{IsDecidedAt, decided_at, older_of, one_place, same_txn}
use Rattle.serial_runs.proofs.Settings.{setting_texts}
use Rattle.serial_runs.proofs.Since.{above_since}
use Rattle.serial_runs.proofs.Steps.{HoldsBelow, PutAt, commit_holds, pair_value, rows_hold, unchanged_holds, value_pair}
use Rattle.serial_runs.proofs.TsOrder.{below_trans, not_itself}

-- each commit below a timestamp is of one of these
abbrev pub Covers : History → List Decided → Ts → Type 0
Covers h es ts = (a : AttemptId) (made : CommitMade) → commit h a ≡ Some made → IsBelow made.ts ts → (e : Decided) × Has e es × (e.ts ≡ made.ts)

-- the replay of these is valid, and what the ranges hold below each timestamp above them, where no other commits are
pub record IsReplayed (setup : Setup) (h : History) (es : List Decided) : Type 0 where
  pub valid : IsValid setup.layout.catalog (replay setup.rows es)
  pub holds : (ts : Ts) → IsInPart setup ts → ((e : Decided) → Has e es → IsBelow e.ts ts) → Covers h es ts → HoldsBelow setup h (replay setup.rows es) ts

fewer : (h : History) (d : Decided) (es : List Decided) (ts : Ts) → ((a : AttemptId) (made : CommitMade) → commit h a ≡ Some made → IsBelow made.ts ts → made.ts ≢ d.ts)
    → Covers h (d ∷ es) ts → Covers h es ts
fewer h d es ts n c a made m l = by (c a made m l)
  where
    by : (e : Decided) × Has e (d ∷ es) × (e.ts ≡ made.ts) → (e : Decided) × Has e es × (e.ts ≡ made.ts)
    by (e, inl q, same) = absurd (n a made m l (sym (ap (λ (x : Decided). x.ts) q ∙ same)))
    by (e, inr k, same) = (e, k, same)

abbrev AnswerAt : Setup → Decided → AttemptId → History → Type 0
AnswerAt setup d a [] = ⊥
AnswerAt setup d a (x ∷ h) = IsByAnswer setup x h d a

not_answered : (t : TxnId) (x : Item) (g : History) (j : RangeId) (index : ℕ) (a : AttemptId) (c : Ts) → x ≡ committing j index a c → WasAnswered t (x ∷ g) → WasAnswered t g
not_answered t x g j index a c e w = by (subst (λ (y : Item). WasAnswered t (y ∷ g)) e w)
  where
    by : WasAnswered t (committing j index a c ∷ g) → WasAnswered t g
    by (inl q) = absurd q
    by (inr q) = q

module _ (setup : Setup) (sound : IsSoundSetup setup) (h : History) (lawful : IsLawful setup h) (keeps : KeepsReads setup h) (feds : FedReadsAgree) where
  pub held_below : (D : PlainDatabase) (ts : Ts) → HoldsBelow setup h D ts → (j : RangeId) → IsSome (range_of setup h j) → IsHeldBelow setup h j ts D
  held_below D ts hold j live k v = (
    (λ c. (hold j live k v).0 (pair_value setup D j k v (has_itself (k, v) (range_pairs setup.layout D j) c))),
    (λ x. contained (k, v) (range_pairs setup.layout D j) (value_pair setup D j k v ((hold j live k v).1 x))),
  )

  -- a database that is held below a timestamp agrees with what was heard at it
  pub heard_agrees : (D : PlainDatabase) (older : History) (a : AttemptId) (ts : Ts) → IsPlace older h → ts.owner ≡ a.0 → 1 ≤ a.0 → (IsInPart setup ts → HoldsBelow setup h D ts)
      → (fed : List Fed) → AreFed (heard_at setup older a ts) fed → Agrees setup.layout D fed
  heard_agrees D older a ts p o pos hold fed are = feds setup h D (heard_at setup older a ts) fed sound keeps each are
    where
      each : (s : ServedRead) → Contains (heard_at setup older a ts) s → WasServed setup s h × IsHeldBelow setup h s.range s.read.at D
      each s c =
          let f : WasServed setup s h × (s.read.at ≡ ts) = heard_served setup h older a ts s p c in
          let good : IsGood setup s = was_good setup h s lawful f.0 in
          let part : IsInPart setup ts = λ changed q. above_since setup sound changed q ts a o pos (subst (λ (t : Ts). ¬ IsBelow t changed) f.1 (good.since changed q)) in
          (f.0, subst (λ (t : Ts). IsHeldBelow setup h s.range t D) (sym f.1) (held_below D ts (hold part) s.range good.live))

  valid_by : (s : Setting) (D : PlainDatabase) → s.layout ≡ setup.layout → HaveTexts s.list → IsValid setup.layout.catalog D → (r : Executed) → executed_on s D ≡ r
      → IsValid setup.layout.catalog (after_list r D)
  valid_by s D same texts v (Ok x) e =
      subst (λ (l : Layout). IsValid l.catalog x.1) same
      (exec_keeps s.layout.catalog s.region s.list D x.1 x.0 (subst (λ (l : Layout). IsSoundCatalog l.catalog) (sym same) sound.layout.catalog) texts
      (subst (λ (l : Layout). IsValid l.catalog D) (sym same) v) e)
  valid_by s D same texts v (Err state) e = v

  module _ (d : Decided) (es : List Decided) (at : IsDecidedAt setup h d) (below : (e : Decided) → Has e es → IsBelow e.ts d.ts) (cover : Covers h (d ∷ es) d.ts) (rest : IsReplayed setup h es) where
    abbrev before : PlainDatabase
    before = replay setup.rows es

    abbrev after : PlainDatabase
    after = after_list (executed_on d.setting before) before

    cover_here : Covers h es d.ts
    cover_here = fewer h d es d.ts (λ a made m l same. not_itself d.ts (subst (λ (t : Ts). IsBelow t d.ts) same l)) cover

    changes : (ws : List Write) → IsEffect setup at.older d at.attempt ws → AreChanges setup.layout before after ws
    changes ws ef =
        ef.every before rest.valid
        (heard_agrees before at.older at.attempt d.ts (older_of at.item at.older h at.place) at.decision.owned at.decision.positive
        (λ part. rest.holds d.ts part below cover_here) ef.fed ef.fed_is)

    valid_next : IsValid setup.layout.catalog after
    valid_next =
        valid_by d.setting before at.decision.setting.layout_is (setting_texts setup at.older d.txn d.setting at.decision.setting) rest.valid (executed_on d.setting before) refl

    -- an answer that decides is at no commit's timestamp
    uncommitted : IsByAnswer setup at.item at.older d at.attempt → (a : AttemptId) (made : CommitMade) → commit h a ≡ Some made → made.ts ≢ d.ts
    uncommitted by a made m same =
        let c : IsCommitDecision setup h a made.ts = commit_decision setup h lawful a made m in
        let one : d.txn ≡ c.decided.txn = sym (same_txn setup h c.decided d lawful c.at at (c.ts_is ∙ same)) in
        let place : at.item ∷ at.older ≡ c.at.item ∷ c.at.older =
        one_place setup h lawful d c.decided at.attempt c.at.attempt at.item c.at.item at.older c.at.older at.place at.decision c.at.place c.at.decision one in
        let here : IsByAnswer setup c.at.item c.at.older d at.attempt = subst (λ (g : History). AnswerAt setup d at.attempt g) place by in
        c.unanswered (subst (λ (t : TxnId). WasAnswered t c.at.older) one (not_answered d.txn c.at.item c.at.older c.range c.index a made.ts c.is here.answered))

    answer_holds : IsByAnswer setup at.item at.older d at.attempt → (ts : Ts) → IsInPart setup ts → IsBelow d.ts ts → Covers h (d ∷ es) ts → HoldsBelow setup h after ts
    answer_holds by ts part low cov =
        unchanged_holds setup h before after ts (changes [] by.effect)
        (rest.holds ts part (λ e k. below_trans e.ts d.ts ts (below e k) low) (fewer h d es ts (λ a made m l. uncommitted by a made m) cov))

    module _ (by : IsByCommit setup at.item at.older d at.attempt) where
      place : IsPlace (committing by.range by.index at.attempt d.ts ∷ at.older) h
      place = subst (λ (x : Item). IsPlace (x ∷ at.older) h) by.is at.place

      abbrev made_here : CommitMade
      made_here = record { range = by.range; ts = d.ts; via = handled at.older }

      stands : commit h at.attempt ≡ Some made_here
      stands = commit_stands setup h at.attempt by.range by.index d.ts at.older lawful place

      settled : puts h at.attempt ≡ puts at.older at.attempt
      settled = puts_settled setup h at.attempt by.range by.index d.ts at.older lawful place

      part_here : IsInPart setup d.ts
      part_here changed q =
          above_since setup sound changed q d.ts at.attempt at.decision.owned at.decision.positive (commit_since setup sound changed q h lawful at.attempt made_here stands)

      own : (p : PutMade) → Contains (puts at.older at.attempt) p → IsWritten setup h p.range p.key d.ts p.value
      own p m = inr (at.attempt, made_here, p, stands, refl, subst (λ (ps : List PutMade). Contains ps p) (sym settled) m, refl, refl, refl)

      module _ (ts : Ts) (low : IsBelow d.ts ts) (cov : Covers h (d ∷ es) ts) where
        of_commit : (j : RangeId) (k : List ℕ) (other : Ts) (v : Option (List ℕ)) (a : AttemptId) (made : CommitMade) (put : PutMade) → commit h a ≡ Some made → made.ts ≡ other
            → Contains (puts h a) put → put.range ≡ j → put.key ≡ k → put.value ≡ v → (e : Decided) × Has e (d ∷ es) × (e.ts ≡ made.ts)
            → IsBelow other d.ts ⊎ ((other ≡ d.ts) × PutAt (puts at.older at.attempt) j k v)
        of_commit j k other v a made put m t among pj pk pv (e, inl q, same) =
            let at_here : made.ts ≡ d.ts = sym (ap (λ (x : Decided). x.ts) q ∙ same) in
            let mine : a ≡ at.attempt = by_number a at.attempt (sym (commit_owned setup h lawful a made m) ∙ (ap (λ (x : Ts). x.owner) at_here ∙ at.decision.owned)) in
            inr (sym t ∙ at_here, (put, subst (λ (ps : List PutMade). Contains ps put) settled (subst (λ (b : AttemptId). Contains (puts h b) put) mine among), pj, pk, pv))
        of_commit j k other v a made put m t among pj pk pv (e, inr q, same) =
            inl (subst (λ (x : Ts). IsBelow x d.ts) (same ∙ t) (below e q))

        cases : (j : RangeId) → IsSome (range_of setup h j) → (k : List ℕ) (other : Ts) (v : Option (List ℕ)) → IsWritten setup h j k other v → IsBelow other ts
            → IsBelow other d.ts ⊎ ((other ≡ d.ts) × PutAt (puts at.older at.attempt) j k v)
        cases j live k other v (inl (w, load, q)) l = inl (part_here other (load_is_pair setup sound h lawful j live other k w load).0)
        cases j live k other v (inr (a, made, put, m, t, among, pj, pk, pv)) l =
            of_commit j k other v a made put m t among pj pk pv (cov a made m (subst (λ (x : Ts). IsBelow x ts) (sym t) l))

        committed_holds : HoldsBelow setup h after ts
        committed_holds =
            commit_holds setup h (puts at.older at.attempt) d.ts ts before after (changes (map write_of (puts at.older at.attempt)) by.effect) own
            (rest.holds d.ts part_here below cover_here) low cases

    holds_by : IsByCommit setup at.item at.older d at.attempt ⊎ IsByAnswer setup at.item at.older d at.attempt → (ts : Ts) → IsInPart setup ts → IsBelow d.ts ts
        → Covers h (d ∷ es) ts → HoldsBelow setup h after ts
    holds_by (inl by) ts part low cov = committed_holds by ts low cov
    holds_by (inr by) ts part low cov = answer_holds by ts part low cov

    next_replayed : IsReplayed setup h (d ∷ es)
    unfolding replay
    next_replayed = record { valid = valid_next; holds = λ ts part all cov. holds_by at.decision.how ts part (all d (inl refl)) cov }

  first_replayed : IsReplayed setup h []
  unfolding replay
  first_replayed = record { valid = sound.rows; holds = λ ts part all cov. rows_hold setup sound h lawful ts part (λ a made m l. (cov a made m l).1) }

  pub replayed : (es : List Decided) → IsFalling es → ((e : Decided) → Has e es → WasDecided setup e h) → ((e : Decided) → Has e es → Covers h es e.ts) → IsReplayed setup h es
  replayed [] f was cover = first_replayed
  replayed (d ∷ es) f was cover =
      next_replayed d es (decided_at setup h d lawful (was d (inl refl))) (λ e k. each_has (Falls d) e es f.0 k) (cover d (inl refl))
      (replayed es f.1 (λ e k. was e (inr k))
      (λ e k. fewer h d es e.ts
      (λ a made m l same. not_itself d.ts (below_trans d.ts e.ts d.ts (subst (λ (t : Ts). IsBelow t e.ts) same l) (each_has (Falls d) e es f.0 k)))
      (cover e (inr k))))
