use Rattle.std.proofs.Common.{◌≡◌, List, [], map, sym, ap, ◌∙◌, subst}
use Rattle.std.specs.Prelude.{Option, Some, Ok, Err, option_map}
use Rattle.mr_base.specs.declared.ids.AttemptId.{AttemptId}
use Rattle.mr_base.specs.declared.ids.TxnId.{TxnId}
use Rattle.mr_base.specs.declared.results.StatementResult.{StatementResult}
use Rattle.mr_base.specs.declared.script.Fed.{Fed}
use Rattle.mr_base.specs.declared.spans.Write.{Write}
use Rattle.mr_base.specs.declared.states.SqlState.{SqlState}
use Rattle.mr_base.specs.declared.timestamps.Ts.{Ts}
use Rattle.row_locality.specs.Plain.{IsValid, Layout, PlainDatabase}
use Rattle.run_laws.specs.Decided.{Decided, after_list, executed_on}
use Rattle.run_laws.specs.DeterminedAnswers.{Executed, GivesFault, GivesPuts, GivesResults, IsDetermined, heard_at, write_of}
use Rattle.run_laws.specs.Lists.{AreFed, IsSettingOf}
use Rattle.run_words.proofs.MemberLemmas.{contains_none}
use Rattle.run_words.specs.Askers.{txn_of}
use Rattle.run_words.specs.Attempts.{Attempt, attempt_of}
use Rattle.run_words.specs.History.{History}
use Rattle.run_words.specs.Puts.{PutMade, puts}
use Rattle.run_words.specs.Setup.{Setup}
use Rattle.sql_eval.specs.Agreement.{Agrees, AreChanges}
use Rattle.sql_eval.specs.Evaluation.{Setting}
use Rattle.serial_runs.proofs.Numbers.{some_same}
use Rattle.serial_runs.proofs.Settings.{one_setting}

-- what executing a decided list changes, on every valid database that agrees with what was heard at its timestamp
pub record IsEffect (setup : Setup) (h : History) (d : Decided) (a : AttemptId) (ws : List Write) : Type 0 where
  pub fed : List Fed
  pub fed_is : AreFed (heard_at setup h a d.ts) fed
  pub every : (D : PlainDatabase) → IsValid setup.layout.catalog D → Agrees setup.layout D fed
      → AreChanges setup.layout D (after_list (executed_on d.setting D) D) ws

pub txn_known : (h : History) (a : AttemptId) (x : Attempt) → attempt_of h a ≡ Some x → txn_of h a ≡ Some x.txn
txn_known h a x e = ap (λ (o : Option Attempt). option_map (λ attempt. attempt.txn) o) e

pub txn_same : (h : History) (a : AttemptId) (x : Attempt) (t : TxnId) → attempt_of h a ≡ Some x → txn_of h a ≡ Some t → x.txn ≡ t
txn_same h a x t e f = some_same (sym (txn_known h a x e) ∙ f)

module _ (setup : Setup) (h : History) (a : AttemptId) (ts : Ts) (P : PlainDatabase → Executed → Type 0) (det : IsDetermined setup h a ts P)
    (t : TxnId) (s : Setting) (is : IsSettingOf setup h t s) (of_it : det.attempt.txn ≡ t) where
  same : det.setting ≡ s
  same = one_setting setup h t det.setting s (subst (λ (u : TxnId). IsSettingOf setup h u det.setting) of_it det.is_setting) is

  -- what is determined is so of executing the list in its setting
  pub determined_on : (D : PlainDatabase) → IsValid setup.layout.catalog D → Agrees setup.layout D det.fed → P D (executed_on s D)
  determined_on D v g =
      subst (λ (z : Setting). P D (executed_on z D)) same
      (det.every D (subst (λ (l : Layout). IsValid l.catalog D) (sym det.is_setting.layout_is) v)
      (subst (λ (l : Layout). Agrees l D det.fed) (sym det.is_setting.layout_is) g))

puts_changed : (setup : Setup) (h : History) (a : AttemptId) (D : PlainDatabase) (r : Executed) → GivesPuts setup h a D r
    → AreChanges setup.layout D (after_list r D) (map write_of (puts h a))
puts_changed setup h a D (Ok x) g = g
puts_changed setup h a D (Err state) g = absurd g

pub results_changed : (setup : Setup) (h : History) (a : AttemptId) (results : List StatementResult) (D : PlainDatabase) (r : Executed)
    → GivesResults setup h a results D r → AreChanges setup.layout D (after_list r D) (map write_of (puts h a))
results_changed setup h a results D (Ok x) g = g.1
results_changed setup h a results D (Err state) g = absurd g

nothing_changed : (setup : Setup) (D : PlainDatabase) → AreChanges setup.layout D D []
nothing_changed setup D w = ((λ c. absurd (c.was_other c.becomes)), (λ c. absurd (contains_none w c)))

fault_changed : (setup : Setup) (state : SqlState) (D : PlainDatabase) (r : Executed) → GivesFault state D r → AreChanges setup.layout D (after_list r D) []
fault_changed setup state D r g =
    subst (λ (x : Executed). AreChanges setup.layout D (after_list x D) []) (sym g) (nothing_changed setup D)

module _ (setup : Setup) (h : History) (a : AttemptId) (d : Decided) (is : IsSettingOf setup h d.txn d.setting) (of_it : txn_of h a ≡ Some d.txn) where
  pub commit_effect : IsDetermined setup h a d.ts (GivesPuts setup h a) → IsEffect setup h d a (map write_of (puts h a))
  commit_effect det =
      record {
        fed = det.fed;
        fed_is = det.fed_is;
        every = λ D v g. puts_changed setup h a D (executed_on d.setting D)
            (determined_on setup h a d.ts (GivesPuts setup h a) det d.txn d.setting is (txn_same h a det.attempt d.txn det.is_attempt of_it) D v g);
      }

  pub answer_effect : (results : List StatementResult) → puts h a ≡ [] → IsDetermined setup h a d.ts (GivesResults setup h a results) → IsEffect setup h d a []
  answer_effect results none det =
      record {
        fed = det.fed;
        fed_is = det.fed_is;
        every = λ D v g. subst (λ (ps : List PutMade). AreChanges setup.layout D (after_list (executed_on d.setting D) D) (map write_of ps)) none
            (results_changed setup h a results D (executed_on d.setting D)
            (determined_on setup h a d.ts (GivesResults setup h a results) det d.txn d.setting is (txn_same h a det.attempt d.txn det.is_attempt of_it) D v g));
      }

  pub fault_effect : (state : SqlState) → IsDetermined setup h a d.ts (GivesFault state) → IsEffect setup h d a []
  fault_effect state det =
      record {
        fed = det.fed;
        fed_is = det.fed_is;
        every = λ D v g. fault_changed setup state D (executed_on d.setting D)
            (determined_on setup h a d.ts (GivesFault state) det d.txn d.setting is (txn_same h a det.attempt d.txn det.is_attempt of_it) D v g);
      }
