use Rattle.std.proofs.Common.{◌≡◌, ◌≢◌, Bool, true, false, cond, List, [], ◌∷◌, inl, inr, ⊎_elim, refl, sym, ap, ◌∙◌, subst, true≢false}
use Rattle.std.specs.Prelude.{◌⊎◌, ◌==◌, ◌&&◌, Some, None}
use Rattle.std.specs.List.{Contains, filter}
use Rattle.std.proofs.lemmas.Bool.{and_parts, eqb-true}
use Rattle.answer_laws.proofs.LawsOfNeeds.{stays_faulty, stays_given}
use Rattle.journal.specs.declared.entries.JournalEntry.TheVariants as entry
use Rattle.mr_base.specs.declared.ids.AttemptId.{AttemptId}
use Rattle.mr_base.specs.declared.script.Fed.{Fed}
use Rattle.mr_base.specs.declared.spans.Ask.{Ask}
use Rattle.mr_base.specs.declared.spans.Write.{Write}
use Rattle.mr_base.specs.declared.timestamps.Ts.{Ts}
use Rattle.range_log.specs.declared.entries.Entry.TheVariants as log
use Rattle.run_laws.proofs.AttemptLemmas.{attempt_stays}
use Rattle.run_laws.specs.Beginnings.{IsSoundSetup}
use Rattle.run_laws.specs.Determined.{IsAckAt}
use Rattle.run_laws.specs.DeterminedAnswers.{GivesResults, IsDetermined, is_heard_at}
use Rattle.run_laws.specs.Lawful.{IsLawful}
use Rattle.run_laws.specs.Lists.{AreFed, AreWritesOf, AsksNext, IsListOf, IsSettingOf, is_at, is_ts, served_at}
use Rattle.run_laws.specs.Visible.{Acknowledgement, Acknowledges}
use Rattle.run_words.proofs.AttemptLemmas.{serve_was_served, served_is_serve}
use Rattle.run_words.proofs.HappenedLemmas.{happened_since, place_itself, place_of_place}
use Rattle.run_words.proofs.MemberLemmas.{contains_cases, contains_first, contains_later, contains_none, picked_cases}
use Rattle.run_words.specs.Attempts.{Attempt, attempt_of}
use Rattle.run_words.specs.Happened.{Always, Happened, IsPlace}
use Rattle.run_words.specs.History.{History, Item, Made}
use Rattle.run_words.specs.Messages.{is_known}
use Rattle.run_words.specs.Puts.{PutMade, puts}
use Rattle.run_words.specs.Relations.{IsServe, WasServed}
use Rattle.run_words.specs.Serving.{ServedRead, serves}
use Rattle.run_words.specs.Setup.{Setup}
use Rattle.sql_eval.specs.Evaluation.{ListOutcome, Setting, evaluation}
use Rattle.sql_eval.specs.NextSpan.{next_in, next_span, writes_in}
use Rattle.sql_eval.specs.Reads.{IsPartOf, Reads, served_reads}
use Rattle.sql_eval.specs.Search.{Evaluation, faults, gives, needs}
use Rattle.held_reads.proofs.Basics.{not_none, same_tests, some_same}
use Rattle.held_reads.proofs.KeptLemmas.{lawful_kept}
use Rattle.visible_runs.proofs.AckFacts.{IsAcked, acked}
use Rattle.visible_runs.proofs.FedReads.{known_part}
use Rattle.visible_runs.proofs.Places.{before_item}
use Rattle.visible_runs.proofs.Settings.{one_setting}
use Rattle.visible_runs.specs.Laws.{AsksNothing}

-- what a filter keeps
kept_cases : {X : Type 0} (b : Bool) (p : X → Bool) (y x : X) (ys zs : List X) → p y ≡ b → (Contains ys x → Contains zs x × (p x ≡ true)) → Contains (cond b (y ∷ ys) ys) x
    → Contains (y ∷ zs) x × (p x ≡ true)
kept_cases {X} true p y x ys zs e f c =
    ⊎_elim (λ s. (subst (λ (v : X). Contains (y ∷ zs) v) s (contains_first y zs), subst (λ (v : X). p v ≡ true) s e))
    (λ q. (contains_later y x zs (f q).0, (f q).1)) (contains_cases y x ys c)
kept_cases false p y x ys zs e f c = (contains_later y x zs (f c).0, (f c).1)

kept : {X : Type 0} (p : X → Bool) (xs : List X) (x : X) → Contains (filter p xs) x → Contains xs x × (p x ≡ true)
kept p [] x c = absurd (contains_none x c)
kept p (y ∷ ys) x c = kept_cases (p y) p y x (filter p ys) ys refl (kept p ys x) c

keeps_cases : {X : Type 0} (b : Bool) (p : X → Bool) (y x : X) (ys : List X) → p y ≡ b → p x ≡ true → (y ≡ x) ⊎ Contains ys x → Contains (cond b (y ∷ ys) ys) x
keeps_cases {X} true p y x ys e t (inl s) = subst (λ (v : X). Contains (y ∷ ys) v) s (contains_first y ys)
keeps_cases true p y x ys e t (inr c) = contains_later y x ys c
keeps_cases false p y x ys e t (inl s) = absurd (true≢false (sym t ∙ ap p (sym s) ∙ e))
keeps_cases false p y x ys e t (inr c) = c

keeps : {X : Type 0} (p : X → Bool) (xs : List X) (x : X) → Contains xs x → p x ≡ true → Contains (filter p xs) x
keeps p [] x c t = absurd (contains_none x c)
keeps p (y ∷ ys) x c t = keeps_cases (p y) p y x (filter p ys) refl t (⊎_elim (λ s. inl s) (λ q. inr (keeps p ys x q t)) (contains_cases y x ys c))

ts_tested : (a b : Ts) → is_ts a b ≡ true → a ≡ b
ts_tested a b e =
    let rest : ((a.logical == b.logical) && (a.owner == b.owner)) ≡ true = (and_parts _ _ e).1 in
    let w : a.wall ≡ b.wall = eqb-true a.wall b.wall (and_parts _ _ e).0 in
    let l : a.logical ≡ b.logical = eqb-true a.logical b.logical (and_parts _ _ rest).0 in
    let o : a.owner ≡ b.owner = eqb-true a.owner b.owner (and_parts _ _ rest).1 in
    λ i. record { wall = w i; logical = l i; owner = o i }

both_true : (x y : Bool) → x ≡ true → y ≡ true → (x && y) ≡ true
both_true true y e f = f
both_true false y e f = absurd (true≢false (sym e))

ts_test : (a b : Ts) → a ≡ b → is_ts a b ≡ true
ts_test a b e =
    both_true _ _ (same_tests a.wall b.wall (ap (λ (t : Ts). t.wall) e))
    (both_true _ _ (same_tests a.logical b.logical (ap (λ (t : Ts). t.logical) e)) (same_tests a.owner b.owner (ap (λ (t : Ts). t.owner) e)))

-- a list that came to its end stays there with more that is known
ended_by : (s : Setting) (part whole : Reads) (e : Evaluation ListOutcome) → IsPartOf part whole → evaluation s part ≡ e → next_in e ≡ None → next_in (evaluation s whole) ≡ None
ended_by s part whole (gives x) h q n = ap next_in (stays_given s part whole x h q)
ended_by s part whole (faults code) h q n = ap next_in (stays_faulty s part whole code h q)
ended_by s part whole (needs ask phases asks) h q n = absurd (not_none (sym n))

written_ended : (e : Evaluation ListOutcome) (w : Write) (ws : List Write) → writes_in e ≡ w ∷ ws → next_in e ≡ None
written_ended (gives x) w ws q = refl
written_ended (faults code) w ws q = absurd cc
written_ended (needs ask phases asks) w ws q = absurd cc

-- where an attempt laid its first put its list was at its end
pub record IsFirstPut (setup : Setup) (h : History) (a : AttemptId) : Type 0 where
  pub older : History
  pub place : IsPlace older h
  pub first : Write
  pub more : List Write
  pub writes : AreWritesOf setup older a (first ∷ more)

since_more : (setup : Setup) (x : Item) (h : History) (a : AttemptId) → IsFirstPut setup h a → IsFirstPut setup (x ∷ h) a
since_more setup x h a f = record { older = f.older; place = inr f.place; first = f.first; more = f.more; writes = f.writes }

first_put : (setup : Setup) (h : History) → IsLawful setup h → (a : AttemptId) (p : PutMade) → Contains (puts h a) p → IsFirstPut setup h a
first_put setup [] l a p c = absurd (contains_none p c)
first_put setup (Made (entry.Append range index (log.Put b start anchor ts key value)) ∷ h) l a p c =
    ⊎_elim
    (λ (q : (b ≡ a) × _).
    ⊎_elim
    (λ (w : (put : PutMade) × Contains (puts h b) put × _). since_more setup _ h a (first_put setup h l.1 a w.0 (subst (λ (y : AttemptId). Contains (puts h y) w.0) q.0 w.1)))
    (λ (w : (puts h b ≡ []) × (first : Write) × (more : List Write) × AreWritesOf setup h b (first ∷ more) × _).
    record { older = h; place = inr (place_itself h); first = w.1; more = w.2; writes = subst (λ (y : AttemptId). AreWritesOf setup h y (w.1 ∷ w.2)) q.0 w.3 })
    l.0.laid.anchor_is)
    (λ q. since_more setup _ h a (first_put setup h l.1 a p q))
    (picked_cases (b.0 == a.0) b a _ p (puts h a) refl c)
first_put setup (x ∷ h) l a p c = since_more setup x h a (first_put setup h l.1 a p c)

some_put : (ps : List PutMade) → ps ≢ [] → (p : PutMade) × Contains ps p
some_put [] n = absurd (n refl)
some_put (p ∷ ps) n = (p, contains_first p ps)

-- the list of an attempt came to its end with what was served where the attempt reads
pub record IsDone (setup : Setup) (h : History) (a : AttemptId) (att : Attempt) : Type 0 where
  pub older : History
  pub place : IsPlace older h
  pub setting : Setting
  pub is_setting : IsSettingOf setup older att.txn setting
  pub served : List ServedRead
  pub fed : List Fed
  pub are : AreFed served fed
  pub among : (s : ServedRead) → Contains served s → Contains (serves setup older a) s × (s.read.at ≡ att.read_at)
  pub ended : next_span setting fed ≡ None

module _ (setup : Setup) (h : History) (l : IsLawful setup h) (a : AttemptId) (att : Attempt) (is : attempt_of h a ≡ Some att) where
  same_att : (older : History) → IsPlace older h → (x : Attempt) → attempt_of older a ≡ Some x → x ≡ att
  same_att older p x e = some_same (sym (attempt_stays setup h older a x l p e) ∙ is)

  done_by_put : IsFirstPut setup h a → IsDone setup h a att
  done_by_put f =
      let s : Setting = f.writes.0 in
      let fed : List Fed = f.writes.1 in
      let list : IsListOf setup f.older a s fed = f.writes.2 in
      let same : list.attempt ≡ att = same_att f.older f.place list.attempt list.is_attempt in
      record {
        older = f.older;
        place = f.place;
        setting = s;
        is_setting = subst (λ (x : Attempt). IsSettingOf setup f.older x.txn s) same list.setting;
        served = served_at setup f.older a list.attempt.read_at;
        fed = fed;
        are = list.fed_is;
        among = λ r c.
            let k : Contains (serves setup f.older a) r × (is_at list.attempt.read_at r ≡ true) = kept (is_at list.attempt.read_at) (serves setup f.older a) r c in
            (k.0, ts_tested r.read.at list.attempt.read_at k.1 ∙ ap (λ (x : Attempt). x.read_at) same);
        ended = written_ended (evaluation s (served_reads fed)) f.first f.more f.writes.3;
      }

  done_by_read : (older : History) → IsPlace older h → (ts : Ts) (P : _) → IsDetermined setup older a ts P → ts ≡ att.read_at → IsDone setup h a att
  done_by_read older place ts P det at =
      let same : det.attempt ≡ att = same_att older place det.attempt det.is_attempt in
      record {
        older = older;
        place = place;
        setting = det.setting;
        is_setting = subst (λ (x : Attempt). IsSettingOf setup older x.txn det.setting) same det.is_setting;
        served = filter (is_heard_at older ts) (serves setup older a);
        fed = det.fed;
        are = det.fed_is;
        among = λ r c.
            let k : Contains (serves setup older a) r × (is_heard_at older ts r ≡ true) = kept (is_heard_at older ts) (serves setup older a) r c in
            (k.0, ts_tested r.read.at ts (and_parts (is_at ts r) (is_known older r.via) k.1).0 ∙ at);
        ended = det.nothing_next;
      }

  -- so nothing is next
  nothing_next : IsSoundSetup setup → IsDone setup h a att → (s : Setting) (fed : List Fed) → IsSettingOf setup h att.txn s → AreFed (served_at setup h a att.read_at) fed → next_span s fed ≡ None
  nothing_next sound d s fed setting are =
      let part : IsPartOf (served_reads d.fed) (served_reads fed) =
      known_part setup sound h (lawful_kept setup h l) att.read_at d.served (served_at setup h a att.read_at) d.fed fed d.are are
      (λ r c.
      let k : Contains (serves setup h a) r × (is_at att.read_at r ≡ true) = kept (is_at att.read_at) (serves setup h a) r c in
      ((serve_was_served setup h a r k.0).0, ts_tested r.read.at att.read_at k.1))
      (λ r c.
      let m : Contains (serves setup d.older a) r × (r.read.at ≡ att.read_at) = d.among r c in
      let w : WasServed setup r d.older × (r.read.attempt ≡ a) = serve_was_served setup d.older a r m.0 in
      keeps (is_at att.read_at) (serves setup h a) r (served_is_serve setup h a r (happened_since (IsServe setup r) h d.older d.place w.0) w.1) (ts_test r.read.at att.read_at m.1)) in
      ap (λ (x : Setting). next_span x fed) (one_setting setup h d.older att.txn s d.setting l d.place setting d.is_setting)
      ∙ ended_by d.setting (served_reads d.fed) (served_reads fed) (evaluation d.setting (served_reads d.fed)) part refl d.ended

older_put : (setup : Setup) (h older : History) (a : AttemptId) → IsPlace older h → IsFirstPut setup older a → IsFirstPut setup h a
older_put setup h older a p f = record { older = f.older; place = place_of_place h older f.older p f.place; first = f.first; more = f.more; writes = f.writes }

module _ (setup : Setup) (sound : IsSoundSetup setup) (h : History) (l : IsLawful setup h) (ack : Acknowledgement) (w : Happened (Acknowledges ack) h) (att : Attempt) (is : attempt_of h ack.attempt ≡ Some att) where
  k : IsAcked setup h ack
  k = acked setup h l ack w

  place : IsPlace k.older h
  place = before_item h k.older _ k.place

  mine : k.by.attempt ≡ ack.attempt
  mine = some_same (sym k.by.last ∙ k.last)

  done_by : IsAckAt k.older ack.txn ack.attempt ack.ts → IsDone setup h ack.attempt att
  done_by (inl (made, put, c, at, known)) =
      let p : (p : PutMade) × Contains (puts k.older ack.attempt) p = some_put (puts k.older ack.attempt) put in
      done_by_put setup h l ack.attempt att is (older_put setup h k.older ack.attempt place (first_put setup k.older k.lawful ack.attempt p.0 p.1))
  done_by (inr (none, (x, isx, at), un)) =
      done_by_read setup h l ack.attempt att is k.older place ack.ts (GivesResults setup k.older ack.attempt k.results)
      (subst (λ (y : AttemptId). IsDetermined setup k.older y ack.ts (GivesResults setup k.older y k.results)) mine k.by.answer)
      (sym at ∙ ap (λ (y : Attempt). y.read_at) (same_att setup h l ack.attempt att is k.older place x isx))

  done : IsDone setup h ack.attempt att
  done = done_by (subst (λ (y : AttemptId). IsAckAt k.older ack.txn y ack.ts) mine k.by.at)

  pub no_next : (s : Setting) (fed : List Fed) → IsSettingOf setup h att.txn s → AreFed (served_at setup h ack.attempt att.read_at) fed → (ask : Ask) → next_span s fed ≡ Some ask → ⊥
  no_next s fed setting are ask e = not_none (sym (nothing_next setup h l ack.attempt att is sound done s fed setting are) ∙ e)

asks_no_more : (setup : Setup) → IsSoundSetup setup → (h : History) → IsLawful setup h → (ack : Acknowledgement) (ask : Ask) → Happened (Acknowledges ack) h → ¬ AsksNext setup h ack.attempt ask
asks_no_more setup sound h l ack ask w (s, fed, list, next) = no_next setup sound h l ack w list.attempt list.is_attempt s fed list.setting list.fed_is ask next

-- the list of an attempt that answered reads nothing more
pub answered_ask_nothing : (setup : Setup) → IsSoundSetup setup → (h : History) → IsLawful setup h → Always (AsksNothing setup) h
answered_ask_nothing setup sound [] l = tt
answered_ask_nothing setup sound (x ∷ h) l = (λ ack ask w. asks_no_more setup sound h l.1 ack ask w, answered_ask_nothing setup sound h l.1)
