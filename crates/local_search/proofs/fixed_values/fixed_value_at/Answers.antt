use Rattle.std.proofs.Common.{◌≡◌, ◌∙◌, Option, ap, subst}
use Rattle.std.specs.Prelude.{IfOk, option_and_then}
use Rattle.mr_base.specs.declared.rows.Datum.{Datum}
use Rattle.sql_eval.specs.Lookups.{fixed_value}
use Rattle.local_search.proofs.FixedColumns.{terms_in_range}
use Rattle.local_search.proofs.fixed_values.fixed_value_at.Goals as goal

pub fixed_value-requires : goal.fixed_value-requires
fixed_value-requires c = terms_in_range c.args.t.now c.args.terms.now c.requires

pub returns-in-None : goal.returns-in-None
returns-in-None c = ap (option_and_then (λ c'. fixed_value c.args.terms.now c'.0)) c.in-None.ensures

pub returns-in-Some : goal.returns-in-Some
returns-in-Some c =
    subst (λ (o : Option Datum). IfOk c.fixed_value.result (λ v. v ≡ o))
    (ap (fixed_value c.args.terms.now) c.as_slice.ensures ∙ ap (option_and_then (λ c'. fixed_value c.args.terms.now c'.0)) c.in-Some.ensures)
    c.fixed_value.ensures
