use Rattle.std.proofs.lemmas.Slice.Eq.{strip_suffix_is}
use Rattle.std.proofs.lemmas.Bool.Decides.{Decides-eqb}
use Rattle.mr_base.proofs.Options.{some_of, none_of}
use Rattle.mr_base.proofs.text_parts.before_tail.Goals as goal

pub returns-clause-found : goal.returns-clause-found
returns-clause-found c = some_of c.strip_suffix.result _ _ (strip_suffix_is Decides-eqb c.args.text.now c.args.tail.now c.strip_suffix.result c.strip_suffix.ensures.cases)

pub returns-clause-only : goal.returns-clause-only
returns-clause-only c = none_of c.strip_suffix.result _ _ (strip_suffix_is Decides-eqb c.args.text.now c.args.tail.now c.strip_suffix.result c.strip_suffix.ensures.cases)
