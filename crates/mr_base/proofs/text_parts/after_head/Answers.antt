use Rattle.std.proofs.lemmas.Slice.Eq.{strip_prefix_is}
use Rattle.std.proofs.lemmas.Bool.Decides.{Decides-eqb}
use Rattle.mr_base.proofs.Options.{some_of, none_of}
use Rattle.mr_base.proofs.text_parts.after_head.Goals as goal

pub returns-clause-found : goal.returns-clause-found
returns-clause-found c = some_of c.strip_prefix.result _ _ (strip_prefix_is Decides-eqb c.args.text.now c.args.head.now c.strip_prefix.result c.strip_prefix.ensures.cases)

pub returns-clause-only : goal.returns-clause-only
returns-clause-only c = none_of c.strip_prefix.result _ _ (strip_prefix_is Decides-eqb c.args.text.now c.args.head.now c.strip_prefix.result c.strip_prefix.ensures.cases)
