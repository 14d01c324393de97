use Rattle.ts_cache.proofs.KeyLemmas.{meet_at, share_key}
use Rattle.ts_cache.proofs.meeting.spans_that_meet.Goals as goal

pub returns : goal.returns
returns c = λ a b. (λ h. share_key a b h, λ k. meet_at a b k.0 k.1 k.2)
