use Rattle.std.proofs.Common.{rules, ◌≡◌, ◌<◌, ◌∙◌, sym, Some}
use Rattle.scenario.specs.NamePlaces.{place_of}
use Rattle.scenario.proofs.NameLookups.{place_found, small_place}
use Rattle.scenario.proofs.txn_names.TxnNames.place.Goals as goal

pub returns-in_err-place : goal.returns-in_err-place
returns-in_err-place c =
    c.from_residual.ensures ∙ sym c.in_err-place.was ∙ place_found c.place.result c.self.inside.places c.self.inside.names.items c.args.self.now c.args.name.now c.place.ensures c.self.invariant.0 c.self.view_is

pub returns : goal.returns
returns c =
    let found = place_found c.place.result c.self.inside.places c.self.inside.names.items c.args.self.now c.args.name.now c.place.ensures c.self.invariant.0 c.self.view_is in
    let at : place_of c.args.self.now c.args.name.now ≡ Some c.in_ok-place.place = sym found ∙ c.in_ok-place.was in
    let small : c.in_ok-place.place < 4294967296 = small_place c.self.inside.names.items c.args.self.now c.args.name.now c.in_ok-place.place c.self.view_is c.self.invariant.1 at in
    search rules
