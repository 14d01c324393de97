use Rattle.std.proofs.Common.{◌≡◌, ◌∙◌, ◌+◌, ◌-◌, Some, IsTrue, ap, subst, sym}
use Rattle.std.specs.Prelude.{◌↔◌, max}
use Rattle.region_sql.specs.declared.region_statements.Goal.{Goal}
use Rattle.region_sql.specs.declared.region_statements.Goal.TheVariants.{Zone, Region}
use Rattle.zone_compile.specs.Configuration.{IsAtHome, spread_over}
use Rattle.zone_compile.proofs.Formed.{regions_in, spread_exactly}
use Rattle.zone_compile.proofs.forming.is_spread_over.Goals as goal

pub returns-in-Zone : goal.returns-in-Zone
returns-in-Zone c =
    let config = c.args.c.now in let home = c.args.home.now in
    let at : IsAtHome c.args.goal (regions_in config.constraints) home = subst (λ l. IsAtHome c.args.goal (regions_in l) home) c.as_slice.ensures (c.is_at_home.ensures.0 c.if-not-is_at_home.false) in
    subst (λ (g : Goal). IsTrue c.has_numbers.result ↔ (IsAtHome g (regions_in config.constraints) home × (config ≡ spread_over g (regions_in config.constraints) home config.global_reads))) (sym c.in-Zone.is)
    (spread_exactly Zone config home _ c.has_numbers.result (ap (λ n. 3 + n) (c.saturating_sub-others.ensures ∙ ap (λ n. n - 1) c.len.ensures)) c.requires.lease (c.requires.goal ∙ ap (λ g. Some g) c.in-Zone.is)
    (subst (λ g. IsAtHome g (regions_in config.constraints) home) c.in-Zone.is at) c.has_numbers.ensures)

pub returns-in-Region : goal.returns-in-Region
returns-in-Region c =
    let config = c.args.c.now in let home = c.args.home.now in
    let at : IsAtHome c.args.goal (regions_in config.constraints) home = subst (λ l. IsAtHome c.args.goal (regions_in l) home) c.as_slice.ensures (c.is_at_home.ensures.0 c.if-not-is_at_home.false) in
    subst (λ (g : Goal). IsTrue c.has_numbers-in-Region.result ↔ (IsAtHome g (regions_in config.constraints) home × (config ≡ spread_over g (regions_in config.constraints) home config.global_reads))) (sym c.in-Region.is)
    (spread_exactly Region config home _ c.has_numbers-in-Region.result (c.at_least_five.ensures ∙ ap (λ n. max 5 (2 + n)) (c.saturating_sub-others.ensures ∙ ap (λ n. n - 1) c.len.ensures)) c.requires.lease (c.requires.goal ∙ ap (λ g. Some g) c.in-Region.is)
    (subst (λ g. IsAtHome g (regions_in config.constraints) home) c.in-Region.is at) c.has_numbers-in-Region.ensures)
