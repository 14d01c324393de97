use Rattle.std.specs.Prelude.{None, Option, Some, [], ◌∷◌, ◌≡◌, ◌⊎◌}
use Rattle.journal.specs.declared.entries.Shown.TheVariants as shown
use Rattle.mr_base.specs.declared.ids.AttemptId.{AttemptId}
use Rattle.mr_base.specs.declared.ids.MsgId.{MsgId}
use Rattle.mr_base.specs.declared.ids.NodeId.{NodeId}
use Rattle.mr_base.specs.declared.ids.TxnId.{TxnId}
use Rattle.mr_base.specs.declared.messages.Request.{Request}
use Rattle.run_words.specs.Askers.{own_txn, txn_of}
use Rattle.run_words.specs.History.{History}
use Rattle.run_words.specs.Logs.{actor_in}
use Rattle.run_words.specs.Messages.{Mail, mail}
use Rattle.run_words.specs.Relations.{IsOfAttempt}
use Rattle.run_words.specs.Steps.{step_of, taken_in}

-- Where the next entry would stand. (This project's profile.)

-- In a step of the gateway of an attempt's transaction that is the transaction's own.
abbrev pub IsInOwnStep : History → AttemptId → Type 0
IsInOwnStep h a = (t : TxnId) × (own_txn h ≡ Some t) × (txn_of h a ≡ Some t)

-- In the step that takes this request.
abbrev pub IsTaking : History → Request → Type 0
IsTaking h q = (m : MsgId) × (sent : Mail) × (taken_in (step_of h) ≡ Some m) × (mail h m ≡ Some sent) × (sent.body ≡ shown.Request q)

-- Where a request of an attempt is handled: in its gateway's own step, or in a step that takes such a request.
abbrev pub IsHandling : History → AttemptId → (Request → Type 0) → Type 0
IsHandling h a Q = IsInOwnStep h a ⊎ ((q : Request) × IsTaking h q × Q q)

-- The node whose step it is.
abbrev pub stepping : History → Option NodeId
stepping h = actor_in h (step_of h) None

-- Somewhere since an attempt's last entry, this place and that of the entry among them.
abbrev pub IsSince : AttemptId → History → History → Type 0
IsSince a older [] = older ≡ []
IsSince a older (x ∷ h) = (older ≡ x ∷ h) ⊎ ((¬ IsOfAttempt a x) × IsSince a older h)
