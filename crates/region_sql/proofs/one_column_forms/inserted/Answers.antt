use Rattle.region_sql.proofs.one_column_forms.inserted.Goals as goal

pub returns-in_default-clause-only : goal.returns-in_default-clause-only
returns-in_default-clause-only c n h = c.in_default.ensures.only _ h.1
