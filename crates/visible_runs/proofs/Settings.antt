use Rattle.std.proofs.Common.{◌≡◌, ℕ, List, inl, inr, sym, ap, ◌∙◌, subst}
use Rattle.std.specs.Prelude.{Result}
use Rattle.mr_base.specs.declared.ids.TxnId.{TxnId}
use Rattle.mr_base.specs.declared.settings.Kind.{Kind}
use Rattle.mr_base.specs.declared.states.SqlState.{SqlState}
use Rattle.region_sql.proofs.GoodForms.{row_statements-good}
use Rattle.region_sql.proofs.Texts.{one_value}
use Rattle.region_sql.specs.Grammar.{row_statements}
use Rattle.region_sql.specs.declared.row_statements.RowStatement.{RowStatement}
use Rattle.run_laws.proofs.AttemptLemmas.{beginning_stays}
use Rattle.run_laws.specs.Lawful.{IsLawful}
use Rattle.run_laws.specs.Lists.{IsSettingOf, region_of_node}
use Rattle.run_words.specs.Happened.{IsPlace}
use Rattle.run_words.specs.History.{History}
use Rattle.run_words.specs.Setup.{Setup}
use Rattle.run_words.specs.Transactions.{Beginning}
use Rattle.sql_eval.specs.Evaluation.{Setting}
use Rattle.sql_eval.specs.ListFaults.{IsReadAs, list_result}
use Rattle.held_reads.proofs.Basics.{some_same}

-- a text is read in one way
one_reading : (text : List ℕ) (kind : Kind) (r s : Result (List RowStatement) SqlState) → IsReadAs text kind r → IsReadAs text kind s → r ≡ s
one_reading text kind r s (inl (l, p, e)) (inl (m, q, f)) = e ∙ (ap (list_result kind) (one_value row_statements row_statements-good text l m p q) ∙ sym f)
one_reading text kind r s (inl (l, p, e)) (inr (n, f)) = absurd (n l p)
one_reading text kind r s (inr (n, e)) (inl (m, q, f)) = absurd (n m q)
one_reading text kind r s (inr (n, e)) (inr (m, f)) = e ∙ sym f

same_parts : (s r : Setting) → s.layout ≡ r.layout → s.region ≡ r.region → s.list ≡ r.list → s ≡ r
same_parts s r e f g = λ i. record { layout = e i; region = f i; list = g i }

-- the list of a transaction runs in one setting, all along
pub one_setting : (setup : Setup) (h older : History) (t : TxnId) (s r : Setting) → IsLawful setup h → IsPlace older h → IsSettingOf setup h t s → IsSettingOf setup older t r → s ≡ r
one_setting setup h older t s r l p x y =
    let same : x.begun ≡ y.begun = some_same (sym x.is_begun ∙ beginning_stays setup h older t y.begun l p y.is_begun) in
    same_parts s r (x.layout_is ∙ sym y.layout_is)
    (x.region_is ∙ (ap (λ (b : Beginning). region_of_node setup b.gateway) same ∙ sym y.region_is))
    (one_reading y.begun.list y.begun.kind s.list r.list (subst (λ (b : Beginning). IsReadAs b.list b.kind s.list) same x.list_is) y.list_is)
