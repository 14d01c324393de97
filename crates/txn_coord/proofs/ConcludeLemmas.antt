use Rattle.std.proofs.Common.{◌≡◌, ◌⊎◌, ℕ, ◌<◌, Bool, true, false, List, [], ◌∷◌, Option, Some, None, IsSome, refl, subst, sym, ap, ◌∙◌, inl, inr, length, nat_lt, cond, arith, option_map, slice_get, zero, suc}
use Rattle.std.proofs.lemmas.Bool.Decides.{nat_tests}
use Rattle.mr_base.specs.Timestamps.{ts_lt}
use Rattle.mr_base.specs.declared.ids.AttemptId.{AttemptId}
use Rattle.mr_base.specs.declared.ids.RangeId.{RangeId}
use Rattle.mr_base.specs.declared.messages.Request.{Request}
use Rattle.mr_base.specs.declared.script.Need.{Need}
use Rattle.mr_base.specs.declared.script.Need.TheVariants as need
use Rattle.mr_base.specs.declared.spans.Ask.{Ask}
use Rattle.mr_base.specs.declared.spans.Write.{Write}
use Rattle.mr_base.specs.declared.timestamps.Reading.{Reading}
use Rattle.txn_coord.specs.Asking.{abort_of, asked_by, asks, commit_of, put_of, refresh_of}
use Rattle.txn_coord.specs.Machine.{Machine, need_of, with_progress, writes_of}
use Rattle.txn_coord.specs.Moving.{Concludes, HasSent, IsAck, Moves, gone_on, lay_through, refresh_on, run_on}
use Rattle.txn_coord.specs.Soundness.{IsDetermined, IsOpen, IsReadOnly, IsSoundIn, IsSoundTxn}
use Rattle.txn_coord.specs.Steps.{HasRun, IsConcluding, IsNeeded, IsToRetry}
use Rattle.txn_coord.specs.declared.moves.Move.{Move}
use Rattle.txn_coord.specs.declared.moves.Move.TheVariants as moves
use Rattle.txn_coord.specs.declared.moves.Refusal.TheVariants as refusal
use Rattle.txn_coord.specs.declared.progress.Course.{Course}
use Rattle.txn_coord.specs.declared.progress.Course.TheVariants as course
use Rattle.txn_coord.specs.declared.progress.Progress.{Progress}

-- The machine in another course, and as far as it is there.
abbrev there : Course → Machine → Progress
there c m = record m.progress { course = c }

abbrev in_course : Course → Machine → Machine
in_course c m = with_progress m (there c m)

map_none : {A B : Type 0} (f : A → B) (o : Option A) → option_map f o ≡ None → o ≡ None
map_none f None e = refl
map_none f (Some x) e = cc

-- What is there isn't nothing.
not_none : {A B : Type 0} (f : A → B) (o : Option A) → IsSome o → option_map f o ≡ None → ⊥
not_none f (Some x) s e = cc
not_none f None s e = absurd (cc)

within : {A : Type 0} (xs : List A) (i : ℕ) → i < length xs → slice_get xs i ≡ None → ⊥
within [] i h e = omega arith
within (x ∷ xs) zero h e = cc
within (x ∷ xs) (suc i) h e = within xs i (omega arith) e

put_there : (t : Progress) (ws : List Write) (i : ℕ) → IsSome t.anchor → i < length ws → put_of t t.anchor (slice_get ws i) ≡ None → ⊥
put_there t ws i s h e = both t.anchor (slice_get ws i) s (within ws i h) e where
  both : (anchor : Option RangeId) (w : Option Write) → IsSome anchor → (w ≡ None → ⊥) → put_of t anchor w ≡ None → ⊥
  both (Some anchor) (Some w) s some e = cc
  both (Some anchor) None s some e = some refl
  both None w s some e = absurd (cc)

-- Where the script was run through, and nothing is asked, an answer stands.
ran : (n : Need) (ws : List Write) (m : Machine) → m.progress.laid ≡ [] → HasRun (run_on n ws (there course.Reading m)).course → asked_by (run_on n ws (there course.Reading m)).course n ws (run_on n ws (there course.Reading m)) ≡ None → IsConcluding (run_on n ws (there course.Reading m)).course
ran (need.Ask a) ws m empty run e = absurd run
ran need.Done [] m empty run e = tt
ran need.Done (w ∷ ws) m empty run e = absurd (put_there (record (there course.Laying m) { anchor = Some w.range }) (w ∷ ws) (length m.progress.laid) refl (let none = ap length empty in omega (arith, none)) e)
ran (need.Fault s) ws m empty run e = tt

-- Refreshing asks until it commits, and a commit is asked.
refreshes : (m : Machine) (n : Need) (ws : List Write) → IsSome m.progress.anchor → (more : Bool) → nat_lt m.progress.again (length m.progress.served) ≡ more → asked_by (cond more (there course.Refreshing m) (there course.Committing m)).course n ws (cond more (there course.Refreshing m) (there course.Committing m)) ≡ None → ⊥
refreshes m n ws s true f e = within m.progress.served m.progress.again (grind (arith, nat_tests)) (map_none (refresh_of (there course.Refreshing m)) (slice_get m.progress.served m.progress.again) e)
refreshes m n ws s false f e = not_none (commit_of (there course.Committing m)) m.progress.anchor s e

lays_through : (m : Machine) (n : Need) (ws : List Write) → IsSome m.progress.anchor → (above : Bool) → asked_by (cond above (refresh_on (there course.Laying m)) (there course.Committing m)).course n ws (cond above (refresh_on (there course.Laying m)) (there course.Committing m)) ≡ None → ⊥
lays_through m n ws s true e = refreshes m n ws s (nat_lt m.progress.again (length m.progress.served)) refl e
lays_through m n ws s false e = not_none (commit_of (there course.Committing m)) m.progress.anchor s e

lays : (m : Machine) (n : Need) (ws : List Write) → IsSome m.progress.anchor → (more : Bool) → nat_lt (length m.progress.laid) (length ws) ≡ more → asked_by (cond more (there course.Laying m) (lay_through (there course.Laying m))).course n ws (cond more (there course.Laying m) (lay_through (there course.Laying m))) ≡ None → ⊥
lays m n ws s true f e = put_there (there course.Laying m) ws (length m.progress.laid) s (grind (arith, nat_tests)) e
lays m n ws s false f e = lays_through m n ws s (ts_lt m.progress.read m.progress.at) e

-- Where nothing is asked or due, an answer, a fault or a refusal stands.
concludes_in : (c : Course) (done : Bool) (m : Machine) → IsSoundIn c done (in_course c m) → IsOpen c → ¬ IsToRetry c → HasSent (in_course c m) → HasRun (gone_on (in_course c m)).progress.course → asks (gone_on (in_course c m)) ≡ None → IsConcluding (gone_on (in_course c m)).progress.course
concludes_in course.Reading done m s opened due sent run e = ran (need_of m) (writes_of m) m s.laid run e
concludes_in course.Laying done m s opened due sent run e =
    absurd (lays m (need_of m) (writes_of m) s.writes (nat_lt (length m.progress.laid) (length (writes_of m))) refl e)
concludes_in course.Refreshing done m s opened due sent run e =
    absurd (refreshes m (need_of m) (writes_of m) s.writing.writes (nat_lt m.progress.again (length m.progress.served)) refl e)
concludes_in (course.Pushing o b) done m s opened due sent run e = cc
concludes_in course.Committing done m s opened due sent run e = absurd (not_none (commit_of (there course.Committing m)) m.progress.anchor s.writing.writes e)
concludes_in (course.Aborting c) done m s opened due sent run e = absurd (not_none (abort_of (there (course.Aborting c) m)) m.progress.anchor s.writing.writes e)
concludes_in (course.Retrying c) done m s opened due sent run e = absurd (due tt)
concludes_in course.Answering done m s opened due sent run e = tt
concludes_in (course.Faulting f) done m s opened due sent run e = tt
concludes_in (course.Refused (refusal.Aborted by) abort) done m s opened due sent run e = s.none
concludes_in (course.Refused why abort) done m s opened due sent run e = map_none (abort_of (there (course.Refused why abort) m)) abort sent
concludes_in course.Acknowledged done m s opened due sent run e = absurd opened
concludes_in course.Over done m s opened due sent run e = absurd opened

pub concludes : (done : Bool) (m new : Machine) (ask : Option Ask) (q : Option Request) → IsSoundTxn done m → IsOpen m.progress.course → ¬ IsToRetry m.progress.course → HasSent m → new ≡ gone_on m → IsNeeded (need_of new) new.progress.course ask → ask ≡ None → q ≡ asks new → q ≡ None → IsConcluding new.progress.course
concludes done m new ask q s opened due sent gone needed none asked nothing =
    let run : HasRun new.progress.course = subst (λ (o : Option Ask). IsNeeded (need_of new) new.progress.course o) none needed in
    let e : asks (gone_on m) ≡ None = subst (λ (x : Machine). asks x ≡ None) gone (sym asked ∙ nothing) in
    subst (λ (x : Machine). IsConcluding x.progress.course) (sym gone) (concludes_in m.progress.course done m s.going opened due sent (subst (λ (x : Machine). HasRun x.progress.course) gone run) e)

-- The answer that is given is what the transaction does next.
pub concluded : (m : Machine) (clock : Reading) (fresh : AttemptId) (made : Move) (new : Machine) → HasSent m → Concludes (gone_on m) clock made new → Moves m clock fresh made new
concluded m clock fresh (moves.Ask range q) new sent c = absurd c
concluded m clock fresh (moves.Send range q) new sent c = absurd c
concluded m clock fresh (moves.Retried a cause) new sent c = absurd c
concluded m clock fresh (moves.Wait until) new sent c = (sent, c)
concluded m clock fresh (moves.Ack ts) new sent c = (sent, c)
concluded m clock fresh (moves.Fault ts state) new sent c = (sent, c)
concluded m clock fresh (moves.Refuse why) new sent c = (sent, c)

-- After an acknowledgement the script is done.
acknowledged : (done : Bool) (m : Machine) → IsDetermined done m ⊎ IsReadOnly done m → IsSoundIn course.Acknowledged done m
acknowledged done m (inl d) = (d.writing.done, d.writing.needs)
acknowledged done m (inr r) = (r.done, r.needs)

sound_end : (c : Course) (done : Bool) (m new : Machine) → IsSoundTxn done m → new ≡ with_progress m (record m.progress { asked = None; course = c }) → IsSoundIn c done (with_progress m (record m.progress { asked = None; course = c })) → IsSoundTxn done new
sound_end c done m new s e going = subst (λ (x : Machine). IsSoundTxn done x) (sym e) (record { served = s.served; retries = s.retries; at = s.at; fates = s.fates; going = going; awaited = tt })

pub concluded_sound : (done : Bool) (m : Machine) (clock : Reading) (made : Move) (new : Machine) → IsSoundTxn done m → Concludes m clock made new → IsSoundTxn done new
concluded_sound done m clock (moves.Wait until) new s c = subst (λ (x : Machine). IsSoundTxn done x) (sym c.2) s
concluded_sound done m clock (moves.Ack ts) new s c =
    sound_end course.Acknowledged done m new s c.3 (acknowledged done m (subst (λ (y : Course). IsSoundIn y done m) c.0 s.going))
concluded_sound done m clock (moves.Fault ts state) new s c = sound_end course.Over done m new s c.3 tt
concluded_sound done m clock (moves.Refuse why) new s c = sound_end course.Over done m new s c.1 tt
concluded_sound done m clock (moves.Ask range q) new s c = absurd c
concluded_sound done m clock (moves.Send range q) new s c = absurd c
concluded_sound done m clock (moves.Retried a cause) new s c = absurd c

-- Once a transaction was acknowledged, its script is done.
pub ack_done : (done : Bool) (m : Machine) (clock : Reading) (fresh : AttemptId) (made : Move) (new : Machine) → Moves m clock fresh made new → IsSoundTxn done new → IsAck made → done ≡ true
ack_done done m clock fresh (moves.Ack ts) new h s ack =
    let e : new.progress.course ≡ course.Acknowledged = ap (λ (x : Machine). x.progress.course) h.1.3 in
    let going : IsSoundIn course.Acknowledged done new = subst (λ (y : Course). IsSoundIn y done new) e s.going in
    going.0
ack_done done m clock fresh _ new h s ack = absurd ack
