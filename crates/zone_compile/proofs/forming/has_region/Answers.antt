use Rattle.std.proofs.Common.{◌∙◌, sym}
use Rattle.zone_compile.proofs.Formed.{any_region, region_any}
use Rattle.zone_compile.proofs.forming.has_region.Goals as goal

pub returns : goal.returns
returns c = (λ yes. any_region c.args.region.now c.args.counts.now (sym c.names_region.ensures ∙ yes), λ there. c.names_region.ensures ∙ region_any c.args.region.now c.args.counts.now there)
