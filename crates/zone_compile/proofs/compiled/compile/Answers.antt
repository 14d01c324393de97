use Rattle.std.proofs.Common.{◌≡◌}
use Rattle.std.proofs.lemmas.Result.{IfOk-weaker}
use Rattle.zone_compile.specs.Configuration.{HasForm, NamesTexts, configuration}
use Rattle.zone_compile.proofs.Forms.{form_names_texts, has_form}
use Rattle.zone_compile.proofs.compiled.compile.Goals as goal

pub returns-clause-form : goal.returns-clause-form
returns-clause-form c =
    let found = configuration c.args.database.now c.args.table.now.locality c.args.partition in
    let form : HasForm found = has_form _ _ _ c.requires.database c.requires.table.locality c.requires.partition in
    IfOk-weaker c.configuration.result (λ x. x ≡ found) HasForm (λ x e. rw e form) c.configuration.ensures

pub returns-clause-regions : goal.returns-clause-regions
returns-clause-regions c =
    let found = configuration c.args.database.now c.args.table.now.locality c.args.partition in
    let regions : NamesTexts found = form_names_texts found (has_form _ _ _ c.requires.database c.requires.table.locality c.requires.partition) in
    IfOk-weaker c.configuration.result (λ x. x ≡ found) NamesTexts (λ x e. rw e regions) c.configuration.ensures
