use Rattle.std.proofs.Common.{◌∙◌, ◌++◌, ap, sym}
use Rattle.placement.specs.Tests.{found}
use Rattle.placement.proofs.Tested.{fits_exactly}
use Rattle.placement.proofs.fitting.fits.Goals as goal

pub returns : goal.returns
returns c =
    fits_exactly c.args.c.now c.args.nodes.now c.args.p.now c.as_slice-5.result.now c.as_slice-6.result.now c.as_slice-7.result.now c.fit_there.result c.requires.form c.requires.nodes
    (c.as_slice-5.ensures ∙ c.in_ok-at.ensures ∙ ap (found c.args.nodes.now) c.as_slice.ensures)
    (c.as_slice-6.ensures ∙ c.in_ok-beside.ensures ∙ ap (found c.args.nodes.now) c.as_slice-2.ensures)
    (c.as_slice-7.ensures ∙ c.in_ok-all.ensures ∙ ap (λ l. l ++ c.as_slice-4.result.now) (c.as_slice-3.ensures ∙ sym c.as_slice-5.ensures) ∙ ap (λ l. c.as_slice-5.result.now ++ l) (c.as_slice-4.ensures ∙ sym c.as_slice-6.ensures))
    c.fit_there.ensures
