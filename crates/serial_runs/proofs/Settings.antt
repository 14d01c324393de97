use Rattle.std.proofs.Common.{◌≡◌, ℕ, Bool, true, false, cond, List, inl, inr, sym, ap, ◌∙◌, subst}
use Rattle.std.specs.Prelude.{◌&&◌, ◌==◌, not, nat_lt, length, Result, Ok, Err, All}
use Rattle.std.specs.List.{list_all}
use Rattle.mr_base.specs.declared.ids.TxnId.{TxnId}
use Rattle.mr_base.specs.declared.settings.Kind.{Kind}
use Rattle.mr_base.specs.declared.states.SqlState.{SqlState}
use Rattle.mr_base.specs.declared.states.SqlState.TheVariants.{S0A000, S25006, S54000}
use Rattle.region_sql.proofs.GoodForms.{row_statements-good}
use Rattle.region_sql.proofs.TextForms.{texts_of_list}
use Rattle.region_sql.proofs.Texts.{one_value}
use Rattle.region_sql.specs.Grammar.{row_statements}
use Rattle.region_sql.specs.TextLiterals.{TextsAreUtf8}
use Rattle.region_sql.specs.declared.row_statements.RowStatement.{RowStatement}
use Rattle.run_laws.proofs.AttemptLemmas.{beginning_stays}
use Rattle.run_laws.specs.Lawful.{IsLawful}
use Rattle.run_laws.specs.Lists.{IsSettingOf, region_of_node}
use Rattle.run_words.specs.Happened.{IsPlace}
use Rattle.run_words.specs.History.{History}
use Rattle.run_words.specs.Setup.{Setup}
use Rattle.run_words.specs.Transactions.{Beginning}
use Rattle.sql_eval.specs.Evaluation.{Setting}
use Rattle.sql_eval.specs.Laws.{HaveTexts}
use Rattle.sql_eval.specs.ListFaults.{IsReadAs, is_bounded, is_past, is_select, list_result}
use Rattle.serial_runs.proofs.Numbers.{some_same}

-- a text is read as one list or has one fault
one_reading : (text : List ℕ) (kind : Kind) (r s : Result (List RowStatement) SqlState) → IsReadAs text kind r → IsReadAs text kind s → r ≡ s
one_reading text kind r s (inl (l, p, e)) (inl (m, q, f)) =
    let same : l ≡ m = one_value row_statements row_statements-good text l m p q in
    e ∙ (ap (list_result kind) same ∙ sym f)
one_reading text kind r s (inl (l, p, e)) (inr (n, f)) = absurd (n l p)
one_reading text kind r s (inr (n, e)) (inl (m, q, f)) = absurd (n m q)
one_reading text kind r s (inr (n, e)) (inr (m, f)) = e ∙ sym f

same_parts : (s r : Setting) → s.layout ≡ r.layout → s.region ≡ r.region → s.list ≡ r.list → s ≡ r
same_parts s r e f g = λ i. record { layout = e i; region = f i; list = g i }

-- the list of a transaction runs in one setting
pub one_setting : (setup : Setup) (h : History) (t : TxnId) (s r : Setting) → IsSettingOf setup h t s → IsSettingOf setup h t r → s ≡ r
one_setting setup h t s r x y =
    let same : x.begun ≡ y.begun = some_same (sym x.is_begun ∙ y.is_begun) in
    same_parts s r (x.layout_is ∙ sym y.layout_is)
    (x.region_is ∙ (ap (λ (b : Beginning). region_of_node setup b.gateway) same ∙ sym y.region_is))
    (one_reading y.begun.list y.begun.kind s.list r.list (subst (λ (b : Beginning). IsReadAs b.list b.kind s.list) same x.list_is) y.list_is)

-- and that stays
pub setting_stays : (setup : Setup) (h older : History) (t : TxnId) (s : Setting) → IsLawful setup h → IsPlace older h → IsSettingOf setup older t s → IsSettingOf setup h t s
setting_stays setup h older t s l p x =
    record {
      begun = x.begun;
      is_begun = beginning_stays setup h older t x.begun l p x.is_begun;
      layout_is = x.layout_is;
      region_is = x.region_is;
      list_is = x.list_is;
    }

texts_if : (b : Bool) (e : SqlState) (r : Result (List RowStatement) SqlState) → HaveTexts r → HaveTexts (cond b (Err e) r)
texts_if true e r t = tt
texts_if false e r t = t

texts_of_result : (kind : Kind) (list : List RowStatement) → All TextsAreUtf8 list → HaveTexts (list_result kind list)
texts_of_result kind list t =
    texts_if (nat_lt 64 (length list)) S54000 _
    (texts_if (is_past kind && not (list_all is_select list)) S25006 _
    (texts_if (is_bounded kind && not (length list == 1)) S0A000 (Ok list) t))

texts_read : (text : List ℕ) (kind : Kind) (r : Result (List RowStatement) SqlState) → IsReadAs text kind r → HaveTexts r
texts_read text kind r (inl (l, p, e)) = subst (λ (x : Result (List RowStatement) SqlState). HaveTexts x) (sym e) (texts_of_result kind l (texts_of_list text l p))
texts_read text kind r (inr (n, e)) = subst (λ (x : Result (List RowStatement) SqlState). HaveTexts x) (sym e) tt

-- its text literals are UTF-8
pub setting_texts : (setup : Setup) (h : History) (t : TxnId) (s : Setting) → IsSettingOf setup h t s → HaveTexts s.list
setting_texts setup h t s x = texts_read x.begun.list x.begun.kind s.list x.list_is
