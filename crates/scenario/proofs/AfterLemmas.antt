-- What lines leave as it was.
use Rattle.std.proofs.Common.{◌≡◌, ◌+◌, ◌≤◌, [], ◌∷◌, length, true, false, refl, arith}
use Rattle.std.specs.Prelude.{if◌then◌else◌}
use Rattle.std.proofs.lemmas.List.{length-append}
use Rattle.journal.specs.declared.events.Event.{Event}
use Rattle.journal.specs.declared.events.Event.TheVariants as events
use Rattle.scenario.specs.declared.forms.Form.{Form}
use Rattle.scenario.specs.declared.forms.Form.TheVariants as forms
use Rattle.scenario.specs.declared.seen.Seen.{Seen}
use Rattle.scenario.specs.Lines.{after_event, after_form}

event_counts : (seen : Seen) (e : Event) → (after_event seen e).counted ≡ seen.counted
event_counts seen events.Begin = refl
event_counts seen (events.Stop node) = refl
event_counts seen (events.Start node) = refl
event_counts seen _ = refl

event_names : (seen : Seen) (e : Event) → (after_event seen e).names ≡ seen.names
event_names seen events.Begin = refl
event_names seen (events.Stop node) = refl
event_names seen (events.Start node) = refl
event_names seen _ = refl

-- a form by itself counts no line
pub counted_stays : (seen : Seen) (f : Form) → (after_form seen f).counted ≡ seen.counted
unfolding after_form
counted_stays seen (forms.Cluster settings) = refl
counted_stays seen (forms.Node info clock) = refl
counted_stays seen (forms.Sql text) = elim seen.begun as (λ b. (if b then seen else record seen { stated = true }).counted ≡ seen.counted) [ true ↦ refl | false ↦ refl ]
counted_stays seen (forms.Txn name gateway kind list) = refl
counted_stays seen (forms.Timeout name) = refl
counted_stays seen (forms.Event e) = event_counts seen e

-- a form brings at most one name
pub one_name_more : (seen : Seen) (f : Form) → length (after_form seen f).names ≤ length seen.names + 1
unfolding after_form
one_name_more seen (forms.Cluster settings) = omega arith
one_name_more seen (forms.Node info clock) = omega arith
one_name_more seen (forms.Sql text) = elim seen.begun as (λ b. length (if b then seen else record seen { stated = true }).names ≤ length seen.names + 1) [ true ↦ omega arith | false ↦ omega arith ]
one_name_more seen (forms.Txn name gateway kind list) = omega (arith, length-append seen.names (name ∷ []))
one_name_more seen (forms.Timeout name) = omega arith
one_name_more seen (forms.Event e) = rw (event_names seen e) (omega arith)
