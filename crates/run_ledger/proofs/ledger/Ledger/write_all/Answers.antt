use Rattle.std.proofs.Common.{◌≡◌, ◌<◌, ◌+◌, ◌++◌, ap, sym, ◌∙◌, length, reverse, ℕ, arith, rules}
use Rattle.std.proofs.lemmas.Grind.{common_steps}
use Rattle.run_ledger.proofs.KeptLemmas.{all_made, some_kept}
use Rattle.run_ledger.specs.Kept.{history_of}
use Rattle.run_ledger.specs.LedgerValue.{LedgerValue, made_all}
use Rattle.run_words.specs.History.{History}
use Rattle.run_ledger.proofs.ledger.Ledger.write_all.Goals as goal

pub invariant_of-self-2 : goal.invariant_of-self-2
invariant_of-self-2 c =
    let l = c.self.inside in
    let count : c.len-count.result ≡ length c.args.made.items = c.len-count.ensures ∙ search rules in
    let some : 0 < c.len-count.result = grind (arith, c.len-count.ensures, sym c.is_empty.ensures ∙ c.if-is_empty.false) in
    rw c.in_ok-append.ensures.items
    (some_kept c.args.made.items c.len-count.result l.behind l.entries.items l.marks.items l.events.items l.has_entry l.has_ticked count some c.self.invariant)

pub returns-clause-made : goal.returns-clause-made
returns-clause-made c =
    let l = c.self.inside in
    let count : c.len-count.result ≡ length c.args.made.items = c.len-count.ensures ∙ search rules in
    rw (c.in_ok-append.ensures.items, count)
    (all_made c.args.made.items l.behind l.entries.items l.marks.items l.events.items
    ∙ ap (λ (v : LedgerValue). made_all c.args.made.items ++ v.history) c.self.view_is)
