use Rattle.std.proofs.Common.{◌≡◌, List, [], ◌∷◌, inl, inr, ⊎_elim, refl, sym, ap, ◌∙◌, subst}
use Rattle.mr_base.specs.Timestamps.{IsBelow}
use Rattle.mr_base.specs.declared.ids.AttemptId.{AttemptId}
use Rattle.mr_base.specs.declared.timestamps.Ts.{Ts}
use Rattle.range_log.specs.declared.entries.Entry.TheVariants as log
use Rattle.range_log.specs.declared.entries.TxnState.TheVariants as records
use Rattle.one_node_laws.proofs.OrderLemmas.{below_trans, past_below}
use Rattle.one_node_laws.proofs.Sum.{Sum}
use Rattle.one_node_laws.proofs.SumDecide.{is_start}
use Rattle.one_node_laws.proofs.SumOf.{sum_of}
use Rattle.one_node_laws.proofs.SumSteps.{ahead, some_same}
use Rattle.one_node_laws.specs.Determined.{GivesPuts, GivesResults, IsDetermined}
use Rattle.one_node_laws.specs.Lawful.{IsLawful}
use Rattle.one_node_laws.specs.LinesRun.{LinesRun}
use Rattle.one_node_laws.specs.Serial.{Acknowledged, WasAcknowledged}
use Rattle.one_node_laws.specs.Visible.{Acked, BeganAfter, IsVisible, WasAcked, WasDecidedAt, WroteInto}
use Rattle.one_node_laws.specs.Words.{Beginning, greatest_start}
use Rattle.journal.specs.declared.entries.JournalEntry.{JournalEntry}
use Rattle.journal.specs.declared.entries.JournalEntry.TheVariants as entry

-- what was acknowledged has a statement
acked_known : (s : LinesRun) (journal : List JournalEntry) → IsLawful s journal → (x : Acked) → WasAcked x journal → (y : Acknowledged) × WasAcknowledged s y journal × (y.ts ≡ x.ts)
acked_known s [] h x w = absurd w
acked_known s (entry.Ack t ts results ∷ before) h x (inl (here, txn, e)) =
    (record { ts = ts; statement = h.0.determined.1; results = results }, inl (h.0.determined.0, h.0.determined.2, h.0.determined.3, refl, refl), sym e)
acked_known s (entry.Ack t ts results ∷ before) h x (inr w) =
    let f : (y : Acknowledged) × WasAcknowledged s y before × (y.ts ≡ x.ts) = acked_known s before h.1 x w in
    (f.0, inr f.1, f.2)
acked_known s (e ∷ before) h x w = acked_known s before h.1 x w

-- what began after an acknowledgement starts above it
starts_above : (s : LinesRun) (journal : List JournalEntry) → IsLawful s journal → (b : Beginning) (x : Acked) → BeganAfter b x journal → IsBelow x.ts b.start
starts_above s [] h b x w = absurd w
starts_above s (entry.Begin txn attempt gateway start limit ∷ before) h b x (inl (e, w)) =
    let f : (y : Acknowledged) × WasAcknowledged s y before × (y.ts ≡ x.ts) = acked_known s before h.1 x w in
    let sum : Sum s before = sum_of s before h.1 in
    subst (λ (y : Beginning). IsBelow x.ts y.start) (sym e)
    (subst (λ (y : Ts). IsBelow y start) f.2 (past_below (greatest_start before) f.0.ts start (sum.acked_past f.0 f.1) (ahead s before txn attempt gateway start limit h.0 sum)))
starts_above s (entry.Begin txn attempt gateway start limit ∷ before) h b x (inr w) = starts_above s before h.1 b x w
starts_above s (e ∷ before) h b x w = starts_above s before h.1 b x w

-- what is decided is decided at its start
decided_at : (s : LinesRun) (journal : List JournalEntry) → IsLawful s journal → (b : Beginning) (ts : Ts) → WasDecidedAt b ts journal → ts ≡ b.start
decided_at s [] h b ts w = absurd w
decided_at s (entry.Append range index (log.State a (records.Committed c)) ∷ before) h b ts (inl (here, e)) =
    e
    ∙ is_start s before (sum_of s before h.1) h.0.determined.0 h.0.determined.1 h.0.determined.2 c (GivesPuts h.0.determined.0.attempt before)
    (subst (λ (y : AttemptId). IsDetermined before y h.0.determined.1 c (GivesPuts y before)) (sym h.0.determined.3) h.0.determined.4)
    ∙ ap (λ (y : Beginning). y.start) (some_same (sym h.0.determined.2.begun ∙ here))
decided_at s (entry.Append range index (log.State a (records.Committed c)) ∷ before) h b ts (inr w) = decided_at s before h.1 b ts w
decided_at s (entry.Ack t at results ∷ before) h b ts (inl (here, e)) =
    e
    ∙ is_start s before (sum_of s before h.1) h.0.determined.0 h.0.determined.1 h.0.determined.2 at (GivesResults h.0.determined.1 results h.0.determined.0.attempt before) h.0.determined.4
    ∙ ap (λ (y : Beginning). y.start) (some_same (sym h.0.determined.2.begun ∙ here))
decided_at s (entry.Ack t at results ∷ before) h b ts (inr w) = decided_at s before h.1 b ts w
decided_at s (entry.Fault t at state ∷ before) h b ts (inl (here, e)) =
    e ∙ h.0.determined.5 ∙ ap (λ (y : Beginning). y.start) (some_same (sym h.0.determined.2.begun ∙ here))
decided_at s (entry.Fault t at state ∷ before) h b ts (inr w) = decided_at s before h.1 b ts w
decided_at s (e ∷ before) h b ts w = decided_at s before h.1 b ts w

-- a lawful journal is visible
pub visible : (s : LinesRun) (journal : List JournalEntry) → IsLawful s journal → IsVisible journal
visible s journal h x b ts writer commit after dec rec shown into =
    let above : IsBelow x.ts b.start = starts_above s journal h b x after in
    subst (λ (y : Ts). IsBelow commit y) (sym (decided_at s journal h b ts dec))
    (⊎_elim (λ (e : commit ≡ x.ts). subst (λ (y : Ts). IsBelow y b.start) (sym e) above) (λ (p : IsBelow commit x.ts × WroteInto journal writer x.beginning). below_trans commit x.ts b.start p.0 above) shown)
