use Rattle.std.proofs.Common.{◌≡◌, ◌⊎◌, Bool, [], Some, None, refl, subst, sym, inl, inr}
use Rattle.mr_base.specs.declared.messages.Request.{Request}
use Rattle.txn_coord.specs.Asking.{sends}
use Rattle.txn_coord.specs.Machine.{Machine, with_progress}
use Rattle.txn_coord.specs.Moving.{after_send, sent_course}
use Rattle.txn_coord.specs.Soundness.{IsAwaited, IsRetrying, IsSoundIn, IsSoundTxn, IsWriting}
use Rattle.txn_coord.specs.declared.moves.Refusal.TheVariants as refusal
use Rattle.txn_coord.specs.declared.progress.Course.{Course}
use Rattle.txn_coord.specs.declared.progress.Course.TheVariants as course
use Rattle.txn_coord.specs.declared.progress.Progress.{Progress}

-- The machine in a course.
abbrev in_course : Course → Machine → Machine
in_course c m = with_progress m (record m.progress { course = c })

-- What went out is counted.
abbrev counted : Request → Course → Machine → Machine
counted q c m = with_progress m (after_send q (record m.progress { course = c }))

writing_sent : (q : Request) (c : Course) (done : Bool) (m : Machine) → IsWriting done (in_course c m) → IsWriting done (counted q c m)
writing_sent q c done m w = record { done = w.done; needs = w.needs; anchor = w.anchor; writes = w.writes; laid = w.laid; again = w.again }

answer_sent : (q : Request) (done : Bool) (m : Machine) → IsSoundIn course.Answering done (in_course course.Answering m) → IsSoundIn course.Answering done (counted q course.Answering m)
answer_sent q done m (inl d) = inl (record { writing = writing_sent q course.Answering done m d.writing; all = d.all; one = d.one })
answer_sent q done m (inr r) = inr (record { done = r.done; needs = r.needs; none = r.none; laid = r.laid })

retry_sent : (q : Request) (c : Course) (done : Bool) (m : Machine) → IsRetrying done (in_course c m) → IsRetrying done (counted q c m)
retry_sent q c done m r = record { retries = r.retries; writing = kept r.writing } where
  kept : (m.progress.laid ≡ []) ⊎ IsWriting done (in_course c m) → (m.progress.laid ≡ []) ⊎ IsWriting done (counted q c m)
  kept (inl none) = inl none
  kept (inr w) = inr (writing_sent q c done m w)

-- The course stays sound where something goes out.
going_sent : (c : Course) (q : Request) (done : Bool) (m : Machine) → IsSoundIn c done (in_course c m) → sends (in_course c m) ≡ Some q → IsSoundIn (sent_course c) done (counted q c m)
going_sent course.Answering q done m s e = answer_sent q done m s
going_sent (course.Retrying c) q done m s e = retry_sent q (course.Retrying c) done m s
going_sent (course.Refused (refusal.Aborted by) abort) q done m s e =
    record { writing = writing_sent q (course.Refused (refusal.Aborted by) abort) done m s.writing; none = refl }
going_sent (course.Refused why abort) q done m s e = tt
going_sent course.Reading q done m s e = absurd (cc)
going_sent course.Laying q done m s e = absurd (cc)
going_sent course.Refreshing q done m s e = absurd (cc)
going_sent (course.Pushing o b) q done m s e = absurd (cc)
going_sent course.Committing q done m s e = absurd (cc)
going_sent (course.Aborting c) q done m s e = absurd (cc)
going_sent (course.Faulting f) q done m s e = absurd (cc)
going_sent course.Acknowledged q done m s e = absurd (cc)
going_sent course.Over q done m s e = absurd (cc)

-- What isn't awaited goes out soundly.
pub sent_sound : (q : Request) (done : Bool) (m : Machine) (new : Progress) → IsSoundTxn done m → m.progress.asked ≡ None → sends m ≡ Some q → new ≡ after_send q m.progress → IsSoundTxn done (with_progress m new)
sent_sound q done m new s free e n =
    subst (λ (t : Progress). IsSoundTxn done (with_progress m t)) (sym n) (record {
      served = s.served;
      retries = s.retries;
      at = s.at;
      fates = s.fates;
      going = going_sent m.progress.course q done m s.going e;
      awaited = subst (λ x. IsAwaited x (with_progress m (after_send q m.progress))) (sym free) tt;
    })
