use Rattle.std.proofs.Common.{refl, sym, ◌∙◌}
use Rattle.ts_cache.proofs.RenewLemmas.{found_there, none_held}
use Rattle.ts_cache.proofs.held.renew.Goals as goal

pub returns-in_default : goal.returns-in_default
returns-in_default c =
    let list = c.args.list.now.items in
    let none = none_held c.args.s.now list (rw c.as_slice.ensures.value at (sym c.place_of.ensures ∙ c.in_default.is)) in
    rw none (refl, refl)

pub returns : goal.returns
returns c =
    let list = c.args.list.now.items in
    let there = found_there c.args.s.now list c.in-Some.at c.remove-h.result c.requires c.remove-h.ensures.value (rw c.as_slice.ensures.value at c.in-Some.ensures) in
    rw there.ts (refl, c.push_reserved.ensures.items ∙ rw (c.remove-h.ensures.items, there.rest, there.span, c.later-h.ensures) refl)
