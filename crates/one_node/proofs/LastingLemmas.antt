use Rattle.std.proofs.Common.{◌≡◌, ◌≢◌, ℕ, Bool, true, false, cond, ◌≤◌, ◌<◌, ◌+◌, refl, sym, ap, ◌∙◌, subst, arith}
use Rattle.std.specs.Prelude.{Some, nat_lt, List, []}
use Rattle.std.proofs.lemmas.Bool.Decides.{nat_tests}
use Rattle.mr_base.specs.declared.settings.Settings.{Settings}
use Rattle.mr_base.specs.declared.timestamps.Reading.{Reading}
use Rattle.range_log.specs.declared.entries.Lease.{Lease}
use Rattle.region_sql.specs.declared.one_column_forms.OneColumnStatement.{OneColumnStatement}
use Rattle.one_node.proofs.KnownLemmas.{made_range}
use Rattle.one_node.specs.Clock.{reading_of}
use Rattle.one_node.specs.Courses.{Goes, IsTakenIn}
use Rattle.one_node.specs.Kept.{IsKept, IsKnown, IsLasting}
use Rattle.one_node.specs.Steps.{first_lease}
use Rattle.one_node.specs.declared.courses.Course.{Course}
use Rattle.one_node.specs.declared.courses.Course.TheVariants as courses
use Rattle.one_node.specs.declared.range.Range.{Range}
use Rattle.one_node.specs.declared.transaction.Begun.{Begun}
use Rattle.journal.specs.declared.entries.JournalEntry.{JournalEntry}

-- a clock shows no less than its physical part
past_by : (physical : ℕ) (k : Reading) (t : Bool) → nat_lt k.wall physical ≡ t → physical ≤ (cond t (record { wall = physical; logical = 0 }) k).wall
past_by physical k true e = omega arith
past_by physical k false e = grind (arith, nat_tests, e)

pub shows_physical : (physical : ℕ) (k : Reading) → physical ≤ (reading_of physical k).wall
shows_physical physical k = past_by physical k (nat_lt k.wall physical) refl

pub lasts_from : (settings : Settings) (physical : ℕ) (range : Range) (x : Lease) → range.lease ≡ Some x → physical + settings.lease ≤ x.expiration → IsLasting settings physical range
lasts_from settings physical range x kept ends lease h =
    let same : x ≡ lease = cc (kept, h) in
    subst (λ (l : Lease). physical + settings.lease ≤ l.expiration) same ends

-- a range keeps its lease
lease_kept : (old new : Range) (course : Course) → IsTakenIn old course new → new.lease ≡ old.lease
lease_kept old new courses.Unserved e = ap (λ (r : Range). r.lease) e
lease_kept old new (courses.Duplicate n) e = ap (λ (r : Range). r.lease) e
lease_kept old new (courses.Inserts n) e = e.lease
lease_kept old new courses.Selects e = ap (λ (r : Range). r.lease) e

pub lasts_on : (settings : Settings) (physical : ℕ) (old new : Range) (course : Course) → IsTakenIn old course new → IsLasting settings physical old → IsLasting settings physical new
lasts_on settings physical old new course e lasting lease h = lasting lease (sym (lease_kept old new course e) ∙ h)

-- a range that is made serves a transaction whose limit is below the end of its lease
pub served : (settings : Settings) (physical : ℕ) (k : Reading) (count : ℕ) (b : Begun) (st : OneColumnStatement) (range : Range) (journal : List JournalEntry) (course : Course)
    → IsKnown k count range journal → journal ≢ [] → IsLasting settings physical range → b.start.wall ≤ physical → b.limit ≡ b.start.wall + settings.max_offset
    → Goes range b st course → settings.max_offset < settings.lease → course ≢ courses.Unserved
served settings physical k count b st range journal course known some lasting start limit goes short e =
    let kept : IsKept k count range journal = made_range k count range journal some known.state in
    let ends : physical + settings.lease ≤ kept.expiration = lasting (first_lease kept.expiration) kept.lease in
    subst (λ (x : Course). Goes range b st x) e goes (first_lease kept.expiration, kept.lease, (refl, refl, omega (arith, ends, start, short), omega (arith, ends, start, short, limit)))
