use Rattle.std.proofs.Common.{◌≡◌, Bool, true, false, refl, subst, sym, inl, inr, length, nat_lt, cond, None, arith}
use Rattle.std.proofs.lemmas.Bool.Decides.{nat_tests}
use Rattle.mr_base.specs.Timestamps.{ts_lt}
use Rattle.txn_coord.specs.Machine.{Machine, with_progress, writes_of}
use Rattle.txn_coord.specs.Moving.{lay_on, lay_through}
use Rattle.txn_coord.specs.Soundness.{IsAnsweredAtOne, IsAwaited, IsDetermined, IsLaid, IsSoundIn, IsSoundTxn, IsWriting}
use Rattle.txn_coord.specs.declared.progress.Course.{Course}
use Rattle.txn_coord.specs.declared.progress.Course.TheVariants as course
use Rattle.txn_coord.proofs.OrderLemmas.{at_read, tested_below}

-- The machine in another course.
abbrev in_course : Course → Machine → Machine
in_course c m = with_progress m (record m.progress { course = c })

writing_in : (c : Course) (done : Bool) (m : Machine) → IsWriting done m → IsWriting done (in_course c m)
writing_in c done m w = record { done = w.done; needs = w.needs; anchor = w.anchor; writes = w.writes; laid = w.laid; again = w.again }

-- A free transaction is as sound in another course, where what is true in that course is.
pub sound_in : (c : Course) (done : Bool) (m : Machine) → IsSoundTxn done m → m.progress.asked ≡ None → IsSoundIn c done (in_course c m) → IsSoundTxn done (in_course c m)
sound_in c done m s free going = record {
  served = s.served;
  retries = s.retries;
  at = s.at;
  fates = s.fates;
  going = going;
  awaited = subst (λ x. IsAwaited x (in_course c m)) (sym free) tt;
}

determined_in : (done : Bool) (m : Machine) → IsWriting done m → IsLaid m → IsAnsweredAtOne m.progress → IsDetermined done (in_course course.Committing m)
determined_in done m w all one = record { writing = writing_in course.Committing done m w; all = all; one = one }

-- Laying ends soundly.
lay_through_sound : (done : Bool) (m : Machine) → IsSoundTxn done m → m.progress.asked ≡ None → IsWriting done m → IsLaid m → (above more : Bool) → ts_lt m.progress.read m.progress.at ≡ above → nat_lt m.progress.again (length m.progress.served) ≡ more → IsSoundTxn done (with_progress m (cond above (cond more (record m.progress { course = course.Refreshing }) (record m.progress { course = course.Committing })) (record m.progress { course = course.Committing })))
lay_through_sound done m s free w all false more a b =
    sound_in course.Committing done m s free (determined_in done m w all (inl (at_read m.progress.read m.progress.laid m.progress.at s.at a)))
lay_through_sound done m s free w all true true a b =
    sound_in course.Refreshing done m s free (record { writing = writing_in course.Refreshing done m w; all = all; above = tested_below _ _ a })
lay_through_sound done m s free w all true false a b =
    let each : m.progress.again ≡ length m.progress.served = let within = w.again in grind (arith, nat_tests) in
    sound_in course.Committing done m s free (determined_in done m w all (inr each))

lay_sound : (done : Bool) (m : Machine) → IsSoundTxn done m → m.progress.asked ≡ None → IsWriting done m → (more : Bool) → nat_lt (length m.progress.laid) (length (writes_of m)) ≡ more → IsSoundTxn done (with_progress m (cond more m.progress (lay_through m.progress)))
lay_sound done m s free w true e = s
lay_sound done m s free w false e =
    let all : IsLaid m = let within = w.laid in grind (arith, nat_tests) in
    lay_through_sound done m s free w all (ts_lt m.progress.read m.progress.at) (nat_lt m.progress.again (length m.progress.served)) refl refl

pub lay_on_sound : (done : Bool) (m : Machine) → IsSoundTxn done m → m.progress.asked ≡ None → IsWriting done m → IsSoundTxn done (with_progress m (lay_on (writes_of m) m.progress))
lay_on_sound done m s free w = lay_sound done m s free w (nat_lt (length m.progress.laid) (length (writes_of m))) refl
