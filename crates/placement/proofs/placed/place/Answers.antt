use Rattle.placement.proofs.PlaceForms.{answer_fits, answer_none, answer_survives}
use Rattle.placement.proofs.placed.place.Goals as goal

pub returns-clause-fits : goal.returns-clause-fits
returns-clause-fits c = answer_fits c.args.c.now c.args.nodes.now c.requires.form c.requires.nodes c.chosen.result c.chosen.ensures

pub returns-clause-none_fits : goal.returns-clause-none_fits
returns-clause-none_fits c = answer_none c.args.c.now c.args.nodes.now c.requires.form c.requires.nodes c.chosen.result c.chosen.ensures

pub returns-clause-survives : goal.returns-clause-survives
returns-clause-survives c =
    answer_survives c.args.c.now c.args.nodes.now c.chosen.result
    (answer_fits c.args.c.now c.args.nodes.now c.requires.form c.requires.nodes c.chosen.result c.chosen.ensures)
