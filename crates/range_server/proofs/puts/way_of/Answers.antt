use Rattle.std.proofs.Common.{◌∙◌, Some, ap, sym}
use Rattle.mr_base.specs.declared.messages.Fate.{Fate}
use Rattle.mr_base.specs.declared.messages.Fate.TheVariants as fates
use Rattle.range_server.proofs.IntentLemmas.{other_attempt, same_attempt, way_own, way_pushed, way_settled, way_untold}
use Rattle.range_server.proofs.puts.way_of.Goals as goal

pub returns-then-eq : goal.returns-then-eq
returns-then-eq c = λ entries f asked value e.
    way_own entries asked c.args.key.now value c.args.known.now c.in-Some.intent (c.in-Some.ensures entries f)
    (same_attempt c.in-Some.intent.attempt c.args.attempt c.eq.result c.eq.ensures c.if-eq.true ∙ sym e)

pub returns-in-Some-Committed : goal.returns-in-Some-Committed
returns-in-Some-Committed c = λ entries f asked value e.
    way_settled entries asked c.args.key.now value c.args.known.now c.in-Some.intent (c.in-Some.ensures entries f) (fates.Committed c.in-Some-Committed.ts)
    (λ x. other_attempt c.in-Some.intent.attempt c.args.attempt c.eq.result c.eq.ensures c.if-eq.false (x ∙ e))
    (sym c.fate_of.ensures ∙ c.in-Some-Committed.is ∙ ap (λ (x : Fate). Some x) c.in-Some-Committed.field-0-is) tt

pub returns-in-Some-Aborted : goal.returns-in-Some-Aborted
returns-in-Some-Aborted c = λ entries f asked value e.
    way_settled entries asked c.args.key.now value c.args.known.now c.in-Some.intent (c.in-Some.ensures entries f) fates.Aborted
    (λ x. other_attempt c.in-Some.intent.attempt c.args.attempt c.eq.result c.eq.ensures c.if-eq.false (x ∙ e))
    (sym c.fate_of.ensures ∙ c.in-Some-Aborted.is ∙ ap (λ (x : Fate). Some x) c.in-Some-Aborted.field-0-is) tt

pub returns-in-Some-Pushed : goal.returns-in-Some-Pushed
returns-in-Some-Pushed c = λ entries f asked value e.
    way_pushed entries asked c.args.key.now value c.args.known.now c.in-Some.intent (c.in-Some.ensures entries f) c.in-Some-Pushed.field-0-0
    (λ x. other_attempt c.in-Some.intent.attempt c.args.attempt c.eq.result c.eq.ensures c.if-eq.false (x ∙ e))
    (sym c.fate_of.ensures ∙ c.in-Some-Pushed.is ∙ ap (λ (x : Fate). Some x) c.in-Some-Pushed.field-0-is)

pub returns-in-None : goal.returns-in-None
returns-in-None c = λ entries f asked value e.
    way_untold entries asked c.args.key.now value c.args.known.now c.in-Some.intent (c.in-Some.ensures entries f)
    (λ x. other_attempt c.in-Some.intent.attempt c.args.attempt c.eq.result c.eq.ensures c.if-eq.false (x ∙ e))
    (sym c.fate_of.ensures ∙ c.in-None.is)
