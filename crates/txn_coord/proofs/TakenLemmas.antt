use Rattle.std.proofs.Common.{◌≡◌, ◌⊎◌, ℕ, ◌<◌, Bool, true, false, List, [], ◌∷◌, Option, Some, None, refl, subst, sym, ap, ◌∙◌, inl, inr, length, nat_lt, cond, arith, option_map, slice_get}
use Rattle.std.proofs.lemmas.Bool.Decides.{nat_tests}
use Rattle.std.proofs.lemmas.List.{length-append}
use Rattle.std.proofs.lemmas.List.Sums.{fold-append}
use Rattle.std.proofs.lemmas.Option.{slice_get_within}
use Rattle.mr_base.specs.Timestamps.{later}
use Rattle.mr_base.specs.declared.ids.RangeId.{RangeId}
use Rattle.mr_base.specs.declared.messages.Known.{Known}
use Rattle.mr_base.specs.declared.messages.Reply.{Reply}
use Rattle.mr_base.specs.declared.messages.Reply.TheVariants as reply
use Rattle.mr_base.specs.declared.spans.Ask.{Ask}
use Rattle.mr_base.specs.declared.spans.Write.{Write}
use Rattle.mr_base.specs.declared.timestamps.Ts.{Ts}
use Rattle.range_log.specs.declared.entries.RetryCause.{RetryCause}
use Rattle.range_log.specs.declared.entries.RetryCause.TheVariants as cause
use Rattle.txn_coord.specs.Asking.{asked_by, put_of, range_of, refresh_of}
use Rattle.txn_coord.specs.Machine.{Machine, need_of, with_progress, writes_of}
use Rattle.txn_coord.specs.Refusing.{abort_due, goes_to, is_empty, refused, retry_due, retry_limit}
use Rattle.txn_coord.specs.Soundness.{IsAborting, IsAwaited, IsDetermined, IsRefreshing, IsSoundBack, IsSoundIn, IsSoundTxn, IsWriting}
use Rattle.txn_coord.specs.Taking.{Answers, after_abort, after_commit, after_push, after_put, after_refresh, course_back, laid_at, learns, own_abort, refreshed}
use Rattle.txn_coord.specs.declared.moves.Refusal.TheVariants as refusal
use Rattle.txn_coord.specs.declared.progress.Back.{Back}
use Rattle.txn_coord.specs.declared.progress.Back.TheVariants as back
use Rattle.txn_coord.specs.declared.progress.Course.{Course}
use Rattle.txn_coord.specs.declared.progress.Course.TheVariants as course
use Rattle.txn_coord.specs.declared.progress.Obstacle.{Obstacle}
use Rattle.txn_coord.specs.declared.progress.Progress.{Progress}
use Rattle.txn_coord.proofs.FateLemmas.{learned_in_order}

-- The machine's course was taken out, and another stands in its place.
abbrev taken_out : Course → Progress → Progress
taken_out x t = record t { course = x }

-- Nothing is outstanding any more, and the transaction goes on to a course in which it is sound.
sound_to : (c : Course) (done is_done : Bool) (m : Machine) → IsSoundTxn done m → IsSoundIn c is_done (with_progress m (goes_to c m.progress)) → IsSoundTxn is_done (with_progress m (goes_to c m.progress))
sound_to c done is_done m s going = record { served = s.served; retries = s.retries; at = s.at; fates = s.fates; going = going; awaited = tt }

writing_to : (c : Course) (done : Bool) (m : Machine) → IsWriting done m → IsWriting done (with_progress m (goes_to c m.progress))
writing_to c done m w = record { done = w.done; needs = w.needs; anchor = w.anchor; writes = w.writes; laid = w.laid; again = w.again }

-- A retry is due soundly.
retry_sound : (c : RetryCause) (done is_done : Bool) (m : Machine) → IsSoundTxn done m → (m.progress.laid ≡ []) ⊎ IsWriting is_done m → (more : Bool) → nat_lt m.progress.retries retry_limit ≡ more → (none : Bool) → is_empty m.progress.laid ≡ none → IsSoundTxn is_done (with_progress m (cond more (goes_to (cond none (course.Retrying c) (course.Aborting c)) m.progress) (refused refusal.Retries m.progress)))
retry_sound c done is_done m s w false e none f = sound_to (course.Refused refusal.Retries (abort_due m.progress)) done is_done m s tt
retry_sound c done is_done m s (inl empty) true e true f =
    sound_to (course.Retrying c) done is_done m s (record { retries = grind (arith, nat_tests); writing = inl empty })
retry_sound c done is_done m s (inr w) true e true f =
    sound_to (course.Retrying c) done is_done m s (record { retries = grind (arith, nat_tests); writing = inr (writing_to (course.Retrying c) is_done m w) })
retry_sound c done is_done m s (inr w) true e false f =
    sound_to (course.Aborting c) done is_done m s (record { retries = grind (arith, nat_tests); writing = writing_to (course.Aborting c) is_done m w })
retry_sound c done is_done m s (inl empty) true e false f = let bad = ap is_empty empty in cc

retry_due_sound : (c : RetryCause) (done is_done : Bool) (m : Machine) → IsSoundTxn done m → (m.progress.laid ≡ []) ⊎ IsWriting is_done m → IsSoundTxn is_done (with_progress m (retry_due c m.progress))
retry_due_sound c done is_done m s w =
    retry_sound c done is_done m s w (nat_lt m.progress.retries retry_limit) refl (is_empty m.progress.laid) refl

-- A put that was asked is one of the writes.
asked_put : (t : Progress) (ws : List Write) (i : ℕ) (r : RangeId) → option_map range_of (put_of t t.anchor (slice_get ws i)) ≡ Some r → i < length ws
asked_put t ws i r e = within t.anchor (slice_get ws i) refl e where
  within : (anchor : Option RangeId) (w : Option Write) → slice_get ws i ≡ w → option_map range_of (put_of t anchor w) ≡ Some r → i < length ws
  within (Some anchor) (Some w) f g = slice_get_within ws i w f
  within (Some anchor) None f g = absurd (cc)
  within None w f g = absurd (cc)

-- A put that was laid raises the write timestamp.
laid_sound : (ts : Ts) (done : Bool) (m : Machine) → IsSoundTxn done m → IsWriting done m → length m.progress.laid < length (writes_of m) → IsSoundTxn done (with_progress m (laid_at ts m.progress))
laid_sound ts done m s w more = record {
  served = s.served;
  retries = s.retries;
  at = ap (λ x. later x ts) s.at ∙ sym (fold-append later m.progress.read m.progress.laid (ts ∷ []));
  fates = s.fates;
  going = record { done = w.done; needs = w.needs; anchor = w.anchor; writes = w.writes; laid = omega (arith, length-append m.progress.laid (ts ∷ [])); again = w.again };
  awaited = tt;
}

put_sound : (x : Course) → (range : RangeId) (q : Reply) (done : Bool) (m : Machine) → IsSoundTxn done m → IsWriting done m → (r : RangeId) → option_map range_of (put_of m.progress m.progress.anchor (slice_get (writes_of m) (length m.progress.laid))) ≡ Some r → Answers course.Laying q → IsSoundTxn done (with_progress m (after_put range q (taken_out x m.progress)))
put_sound x range (reply.Laid ts) done m s w r e fits = laid_sound ts done m s w (asked_put m.progress (writes_of m) (length m.progress.laid) r e)
put_sound x range (reply.Intent key a start anchor) done m s w r e fits =
    let o : Obstacle = record { key = key; attempt = a; start = start; anchor = anchor } in
    sound_to (course.Pushing o back.Put) done done m s (writing_to (course.Pushing o back.Put) done m w)
put_sound x range (reply.NoQuorum down) done m s w r e fits = sound_to (course.Refused (refusal.NoQuorum range down) (abort_due m.progress)) done done m s tt
put_sound x range _ done m s w r e fits = absurd fits

-- A refresh that was asked is of a span that was served.
asked_refresh : (t : Progress) (r : RangeId) → option_map range_of (option_map (refresh_of t) (slice_get t.served t.again)) ≡ Some r → t.again < length t.served
asked_refresh t r e = within (slice_get t.served t.again) refl e where
  within : (a : Option Ask) → slice_get t.served t.again ≡ a → option_map range_of (option_map (refresh_of t) a) ≡ Some r → t.again < length t.served
  within (Some a) f g = slice_get_within t.served t.again a f
  within None f g = absurd (cc)

refreshing_to : (c : Course) (done : Bool) (m : Machine) → IsRefreshing done m → IsRefreshing done (with_progress m (goes_to c m.progress))
refreshing_to c done m w = record { writing = writing_to c done m w.writing; all = w.all; above = w.above }

-- One more span was refreshed.
refreshed_sound : (done : Bool) (m : Machine) → IsSoundTxn done m → IsRefreshing done m → m.progress.again < length m.progress.served → IsSoundTxn done (with_progress m (refreshed m.progress))
refreshed_sound done m s w more = record {
  served = s.served;
  retries = s.retries;
  at = s.at;
  fates = s.fates;
  going = record {
    writing = record { done = w.writing.done; needs = w.writing.needs; anchor = w.writing.anchor; writes = w.writing.writes; laid = w.writing.laid; again = omega arith };
    all = w.all;
    above = w.above;
  };
  awaited = tt;
}

refresh_sound : (x : Course) → (q : Reply) (done : Bool) (m : Machine) → IsSoundTxn done m → IsRefreshing done m → (r : RangeId) → option_map range_of (option_map (refresh_of m.progress) (slice_get m.progress.served m.progress.again)) ≡ Some r → Answers course.Refreshing q → IsSoundTxn done (with_progress m (after_refresh q (taken_out x m.progress)))
refresh_sound x reply.Refreshed done m s w r e fits = refreshed_sound done m s w (asked_refresh m.progress r e)
refresh_sound x (reply.Newer ts) done m s w r e fits = retry_due_sound (cause.NewerWrite ts) done done m s (inr w.writing)
refresh_sound x (reply.Unknown key a start anchor) done m s w r e fits =
    let o : Obstacle = record { key = key; attempt = a; start = start; anchor = anchor } in
    sound_to (course.Pushing o back.Refresh) done done m s (refreshing_to (course.Pushing o back.Refresh) done m w)
refresh_sound x _ done m s w r e fits = absurd fits

-- A fate is learned, and the transaction goes on to a course in which it is sound.
learns_sound : (k : Known) (c : Course) (done : Bool) (m : Machine) → IsSoundTxn done m → IsSoundIn c done (with_progress m (learns k (goes_to c m.progress))) → IsSoundTxn done (with_progress m (learns k (goes_to c m.progress)))
learns_sound k c done m s going = record { served = s.served; retries = s.retries; at = s.at; fates = learned_in_order k m.progress.fates s.fates; going = going; awaited = tt }

writing_learns : (k : Known) (c : Course) (done : Bool) (m : Machine) → IsWriting done m → IsWriting done (with_progress m (learns k (goes_to c m.progress)))
writing_learns k c done m w = record { done = w.done; needs = w.needs; anchor = w.anchor; writes = w.writes; laid = w.laid; again = w.again }

-- The request that met an obstacle is made again in a course that is sound.
back_sound : (k : Known) (b : Back) (done : Bool) (m : Machine) → IsSoundBack b done m → IsSoundIn (course_back b) done (with_progress m (learns k (goes_to (course_back b) m.progress)))
back_sound k back.Read done m w = record { laid = w.laid; again = w.again; resolved = w.resolved }
back_sound k back.Put done m w = writing_learns k course.Laying done m w
back_sound k back.Refresh done m w = record { writing = writing_learns k course.Refreshing done m w.writing; all = w.all; above = w.above }

push_sound : (x : Course) → (o : Obstacle) (b : Back) (q : Reply) (range : RangeId) (done : Bool) (m : Machine) → IsSoundTxn done m → IsSoundBack b done m → Answers (course.Pushing o b) q → IsSoundTxn done (with_progress m (after_push range o b q (taken_out x m.progress)))
push_sound x o b (reply.Fate a fate) range done m s w fits =
    learns_sound (record { attempt = a; fate = fate }) (course_back b) done m s (back_sound (record { attempt = a; fate = fate }) b done m w)
push_sound x o b (reply.Live a) range done m s w fits = sound_to (course.Refused (refusal.Conflict o.key a) (abort_due m.progress)) done done m s tt
push_sound x o b (reply.NoQuorum down) range done m s w fits = sound_to (course.Refused (refusal.NoQuorum range down) (abort_due m.progress)) done done m s tt
push_sound x o back.Read _ range done m s w fits = absurd fits
push_sound x o back.Put _ range done m s w fits = absurd fits
push_sound x o back.Refresh _ range done m s w fits = absurd fits

commit_sound : (x : Course) → (q : Reply) (range : RangeId) (done : Bool) (m : Machine) → IsSoundTxn done m → IsDetermined done m → Answers course.Committing q → IsSoundTxn done (with_progress m (after_commit range q (taken_out x m.progress)))
commit_sound x reply.Ended range done m s w fits =
    sound_to course.Answering done done m s (inl (record { writing = writing_to course.Answering done m w.writing; all = w.all; one = w.one }))
commit_sound x (reply.Aborted by) range done m s w fits =
    let c = course.Refused (refusal.Aborted by) None in
    sound_to c done done m s (record { writing = writing_to c done m w.writing; none = refl })
commit_sound x (reply.Pushed ts) range done m s w fits = retry_due_sound (cause.Pushed ts) done done m s (inr w.writing)
commit_sound x (reply.NoQuorum down) range done m s w fits = sound_to (course.Refused (refusal.NoQuorum range down) (abort_due m.progress)) done done m s tt
commit_sound x _ range done m s w fits = absurd fits

abort_sound : (x : Course) → (c : RetryCause) (q : Reply) (range : RangeId) (done : Bool) (m : Machine) → IsSoundTxn done m → IsAborting done m → Answers (course.Aborting c) q → IsSoundTxn done (with_progress m (after_abort range c q (taken_out x m.progress)))
abort_sound x c reply.Ended range done m s w fits =
    let k = own_abort m.progress in
    learns_sound k (course.Retrying c) done m s (record { retries = w.retries; writing = inr (writing_learns k (course.Retrying c) done m w.writing) })
abort_sound x c (reply.NoQuorum down) range done m s w fits = sound_to (course.Refused (refusal.NoQuorum range down) (abort_due m.progress)) done done m s tt
abort_sound x c _ range done m s w fits = absurd fits

-- What is outstanding is asked in the course in which the transaction is.
awaited_in : (c : Course) (done : Bool) (m : Machine) → IsSoundTxn done m → c ≡ m.progress.course → (r : RangeId) → m.progress.asked ≡ Some r → option_map range_of (asked_by c (need_of m) (writes_of m) m.progress) ≡ Some r
awaited_in c done m s e r asked =
    subst (λ (y : Course). option_map range_of (asked_by y (need_of m) (writes_of m) m.progress) ≡ Some r) (sym e) (subst (λ (o : Option RangeId). IsAwaited o m) asked s.awaited)

sound_at : (c : Course) (done : Bool) (m : Machine) → IsSoundTxn done m → c ≡ m.progress.course → IsSoundIn c done m
sound_at c done m s e = subst (λ (y : Course). IsSoundIn y done m) (sym e) s.going

answers_at : (c : Course) (q : Reply) (m : Machine) → c ≡ m.progress.course → Answers m.progress.course q → Answers c q
answers_at c q m e fits = subst (λ (y : Course). Answers y q) (sym e) fits

-- A transaction that took a reply is sound, course by course.
pub put_taken : (x : Course) (range : RangeId) (q : Reply) (done : Bool) (m : Machine) (new : Progress) → IsSoundTxn done m → course.Laying ≡ m.progress.course → m.progress.asked ≡ Some range → Answers m.progress.course q → new ≡ after_put range q (taken_out x m.progress) → IsSoundTxn done (with_progress m new)
put_taken x range q done m new s e asked fits n =
    subst (λ (t : Progress). IsSoundTxn done (with_progress m t)) (sym n) (put_sound x range q done m s (sound_at course.Laying done m s e) range (awaited_in course.Laying done m s e range asked) (answers_at course.Laying q m e fits))

pub refresh_taken : (x : Course) (range : RangeId) (q : Reply) (done : Bool) (m : Machine) (new : Progress) → IsSoundTxn done m → course.Refreshing ≡ m.progress.course → m.progress.asked ≡ Some range → Answers m.progress.course q → new ≡ after_refresh q (taken_out x m.progress) → IsSoundTxn done (with_progress m new)
refresh_taken x range q done m new s e asked fits n =
    subst (λ (t : Progress). IsSoundTxn done (with_progress m t)) (sym n) (refresh_sound x q done m s (sound_at course.Refreshing done m s e) range (awaited_in course.Refreshing done m s e range asked) (answers_at course.Refreshing q m e fits))

pub push_taken : (x : Course) (range : RangeId) (q : Reply) (o : Obstacle) (b : Back) (done : Bool) (m : Machine) (new : Progress) → IsSoundTxn done m → course.Pushing o b ≡ m.progress.course → Answers m.progress.course q → new ≡ after_push range o b q (taken_out x m.progress) → IsSoundTxn done (with_progress m new)
push_taken x range q o b done m new s e fits n =
    let c = course.Pushing o b in
    subst (λ (t : Progress). IsSoundTxn done (with_progress m t)) (sym n) (push_sound x o b q range done m s (sound_at c done m s e) (answers_at c q m e fits))

pub commit_taken : (x : Course) (range : RangeId) (q : Reply) (done : Bool) (m : Machine) (new : Progress) → IsSoundTxn done m → course.Committing ≡ m.progress.course → Answers m.progress.course q → new ≡ after_commit range q (taken_out x m.progress) → IsSoundTxn done (with_progress m new)
commit_taken x range q done m new s e fits n =
    subst (λ (t : Progress). IsSoundTxn done (with_progress m t)) (sym n) (commit_sound x q range done m s (sound_at course.Committing done m s e) (answers_at course.Committing q m e fits))

pub abort_taken : (x : Course) (range : RangeId) (q : Reply) (c : RetryCause) (done : Bool) (m : Machine) (new : Progress) → IsSoundTxn done m → course.Aborting c ≡ m.progress.course → Answers m.progress.course q → new ≡ after_abort range c q (taken_out x m.progress) → IsSoundTxn done (with_progress m new)
abort_taken x range q c done m new s e fits n =
    subst (λ (t : Progress). IsSoundTxn done (with_progress m t)) (sym n) (abort_sound x c q range done m s (sound_at (course.Aborting c) done m s e) (answers_at (course.Aborting c) q m e fits))
