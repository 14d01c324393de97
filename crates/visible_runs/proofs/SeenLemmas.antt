use Rattle.std.proofs.Common.{◌≡◌, ℕ, suc, ◌≤◌, Bool, true, false, cond, List, [], ◌∷◌, ⊎_elim, refl, sym, ap, ◌∙◌, subst, le_trans, arith}
use Rattle.std.specs.Prelude.{◌==◌, All, nat_lt, Option, Some, None}
use Rattle.std.specs.List.{Contains, find}
use Rattle.std.specs.Option.{option_map_or}
use Rattle.hlc.specs.Readings.{greater, next_of, nothing, reading_lt, reading_of}
use Rattle.journal.specs.declared.entries.JournalEntry.TheVariants as entry
use Rattle.journal.specs.declared.entries.Shown.TheVariants as shown
use Rattle.journal.specs.declared.entries.Shown.{Shown}
use Rattle.journal.specs.declared.events.Event.TheVariants as events
use Rattle.mr_base.specs.declared.ids.MsgId.{MsgId}
use Rattle.mr_base.specs.declared.ids.NodeId.{NodeId}
use Rattle.mr_base.specs.declared.timestamps.Reading.{Reading}
use Rattle.mr_base.specs.declared.timestamps.Ts.{Ts}
use Rattle.run_laws.specs.Beginnings.{AreRowsAt, IsSoundSetup}
use Rattle.run_laws.specs.Lawful.{IsLawful, IsPermitted}
use Rattle.run_laws.specs.Messages.{IsSent}
use Rattle.run_words.specs.Clocks.{peak, phys, reading, reading_at, schema, seen, seen_at_start, seen_by, seen_with}
use Rattle.run_words.specs.History.{History, Item, Made, Ran}
use Rattle.run_words.specs.Messages.{Mail, mail}
use Rattle.run_words.specs.Setup.{NodeSetup, Setup, has_id, node_ids}
use Rattle.held_reads.proofs.Basics.{cond_cases, not_none, some_same}
use Rattle.visible_runs.proofs.PeakLemmas.{peak_rises, phys_below}
use Rattle.visible_runs.specs.Laws.{NameNodes}

-- readings with walls of at most a bound
picked_below : (t : Bool) (a b : Reading) (bound : ℕ) → a.wall ≤ bound → b.wall ≤ bound → (cond t a b).wall ≤ bound
picked_below true a b bound p q = p
picked_below false a b bound p q = q

greater_below : (a b : Reading) (bound : ℕ) → a.wall ≤ bound → b.wall ≤ bound → (greater a b).wall ≤ bound
greater_below a b bound p q = picked_below (reading_lt a b) b a bound q p

pub reading_below : (physical : ℕ) (kept : Reading) (bound : ℕ) → physical ≤ bound → kept.wall ≤ bound → (reading_of physical kept).wall ≤ bound
reading_below physical kept bound p q = picked_below (nat_lt kept.wall physical) (record { wall = physical; logical = 0 }) kept bound p q

next_below : (physical : ℕ) (kept : Reading) (bound : ℕ) → physical ≤ bound → kept.wall ≤ bound → (next_of physical kept).wall ≤ bound
next_below physical kept bound p q = picked_below (nat_lt kept.wall physical) (record { wall = physical; logical = 0 }) _ bound p q

start_below : (s : Option Ts) (bound : ℕ) → ((ts : Ts) → s ≡ Some ts → ts.wall ≤ bound) → (seen_at_start s).wall ≤ bound
start_below None bound f = omega arith
start_below (Some ts) bound f = f ts refl

with_below : (c : Option Reading) (old : Reading) (bound : ℕ) → old.wall ≤ bound → ((r : Reading) → c ≡ Some r → r.wall ≤ bound) → (seen_with c old).wall ≤ bound
with_below None old bound p f = p
with_below (Some r) old bound p f = greater_below old r bound p (f r refl)

by_below : (m : Option Mail) (n : NodeId) (old : Reading) (bound : ℕ) → old.wall ≤ bound → ((sent : Mail) (r : Reading) → m ≡ Some sent → sent.clock ≡ Some r → r.wall ≤ bound)
    → (seen_by m n old).wall ≤ bound
by_below None n old bound p f = p
by_below (Some sent) n old bound p f =
    picked_below (sent.to.0 == n.0) (seen_with sent.clock old) old bound (with_below sent.clock old bound p (λ r e. f sent r refl e)) p

-- what clocks have seen, what they show, what is sent and the last schema change have walls of at most a bound
pub record IsBounded (setup : Setup) (h : History) (bound : ℕ) : Type 0 where
  pub seen_below : (n : NodeId) → (seen setup h n).wall ≤ bound
  pub phys_below : (n : NodeId) → phys setup h n ≤ bound
  pub mails : (m : MsgId) (sent : Mail) (r : Reading) → mail h m ≡ Some sent → sent.clock ≡ Some r → r.wall ≤ bound
  pub changed : (ts : Ts) → schema setup h ≡ Some ts → ts.wall ≤ bound

module _ (setup : Setup) (h : History) (bound : ℕ) (b : IsBounded setup h bound) where
  pub shown_below : (n : NodeId) → (reading setup h n).wall ≤ bound
  shown_below n = reading_below (phys setup h n) (seen setup h n) bound (b.phys_below n) (b.seen_below n)

  clock_below : (n : NodeId) (clock : Option Reading) (r : Reading) → clock ≡ Some (reading setup h n) → clock ≡ Some r → r.wall ≤ bound
  clock_below n clock r e f = subst (λ (y : Reading). y.wall ≤ bound) (some_same (sym e ∙ f)) (shown_below n)

  sent_below : (from to : NodeId) (clock : Option Reading) (body : Shown) → IsSent setup h from to clock body → (r : Reading) → clock ≡ Some r → r.wall ≤ bound
  sent_below from to clock (shown.Request q) s r e = clock_below from clock r s.clock_is e
  sent_below from to clock body s r e =
      ⊎_elim (λ q. clock_below from clock r q.clock_is e) (λ q. absurd (not_none (sym q.clock_is ∙ e))) s

  seen_goes : (x : Item) → IsPermitted setup h x → (n : NodeId) → (seen setup (x ∷ h) n).wall ≤ bound
  seen_goes (Ran line (events.Start m)) p n =
      picked_below (m.0 == n.0) (seen_at_start (schema setup h)) (seen setup h n) bound (start_below (schema setup h) bound b.changed) (b.seen_below n)
  seen_goes (Made (entry.Begin t a gateway start limit)) p n =
      picked_below (gateway.0 == n.0) _ (seen setup h n) bound
      (greater_below (seen setup h n) (reading_at start) bound (b.seen_below n)
      (subst (λ (s : Ts). s.wall ≤ bound) (sym p.begun.start_is) (next_below (phys setup h gateway) (seen setup h gateway) bound (b.phys_below gateway) (b.seen_below gateway))))
      (b.seen_below n)
  seen_goes (Made (entry.Taken m)) p n = by_below (mail h m) n (seen setup h n) bound (b.seen_below n) (b.mails m)
  seen_goes (Made (entry.Schema ts)) p n = absurd p.order
  seen_goes x p n = b.seen_below n

  mails_go : (x : Item) → IsPermitted setup h x → (m : MsgId) (sent : Mail) (r : Reading) → mail (x ∷ h) m ≡ Some sent → sent.clock ≡ Some r → r.wall ≤ bound
  mails_go (Made (entry.Sent id from to clock body)) p m sent r e c =
      ⊎_elim
      (λ (q : ((id.0 == m.0) ≡ _) × _). sent_below from to clock body p.messages.1 r (ap (λ (y : Mail). y.clock) (some_same q.1) ∙ c))
      (λ (q : ((id.0 == m.0) ≡ _) × _). b.mails m sent r q.1 c)
      (cond_cases (id.0 == m.0) _ _ (Some sent) e)
  mails_go x p m sent r e c = b.mails m sent r e c

  changed_goes : (x : Item) → IsPermitted setup h x → (ts : Ts) → schema setup (x ∷ h) ≡ Some ts → ts.wall ≤ bound
  changed_goes (Made (entry.Schema s)) p ts e = absurd p.order
  changed_goes x p ts e = b.changed ts e

raised : (setup : Setup) (h : History) (low high : ℕ) → low ≤ high → IsBounded setup h low → IsBounded setup h high
raised setup h low high le b =
    record {
      seen_below = λ n. le_trans (b.seen_below n) le;
      phys_below = λ n. le_trans (b.phys_below n) le;
      mails = λ m sent r e c. le_trans (b.mails m sent r e c) le;
      changed = λ ts e. le_trans (b.changed ts e) le;
    }

first_by : (t : Bool) (node : NodeSetup) (nodes : List NodeSetup) (n : NodeId) (bound : ℕ) → node.seen.wall ≤ bound
    → (option_map_or (λ (x : NodeSetup). x.seen) (find (has_id n) nodes) nothing).wall ≤ bound
    → (option_map_or (λ (x : NodeSetup). x.seen) (cond t (Some node) (find (has_id n) nodes)) nothing).wall ≤ bound
first_by true node nodes n bound p q = p
first_by false node nodes n bound p q = q

first_seen : (nodes : List NodeSetup) (n : NodeId) (bound : ℕ) → All (λ node. node.seen.wall ≤ bound) nodes → (option_map_or (λ (x : NodeSetup). x.seen) (find (has_id n) nodes) nothing).wall ≤ bound
first_seen [] n bound all = omega arith
first_seen (node ∷ nodes) n bound all =
    first_by (has_id n node) node nodes n bound (all 0 node (omega arith)) (first_seen nodes n bound (λ i d l. all (suc i) d (omega (arith, l))))

rows_below : (setup : Setup) (s : Option Ts) → AreRowsAt setup s → (ts : Ts) → s ≡ Some ts → ts.wall ≤ peak setup []
rows_below setup None rows ts e = absurd (not_none e)
rows_below setup (Some changed) rows ts e = subst (λ (t : Ts). t.wall ≤ peak setup []) (some_same e) rows.1

-- all is bounded by the peak
pub bounded : (setup : Setup) → IsSoundSetup setup → (g : NodeId) → Contains (node_ids setup) g → (h : History) → IsLawful setup h → NameNodes setup h → IsBounded setup h (peak setup h)
bounded setup sound g there [] l names =
    record {
      seen_below = λ n. first_seen setup.nodes n (peak setup []) sound.nodes.seen;
      phys_below = phys_below setup g there [] names;
      mails = λ m sent r e c. absurd (not_none e);
      changed = rows_below setup setup.schema sound.at;
    }
bounded setup sound g there (x ∷ h) l names =
    let old : IsBounded setup h (peak setup (x ∷ h)) =
    raised setup h (peak setup h) (peak setup (x ∷ h)) (peak_rises setup x h) (bounded setup sound g there h l.1 names.1) in
    record {
      seen_below = seen_goes setup h (peak setup (x ∷ h)) old x l.0;
      phys_below = phys_below setup g there (x ∷ h) names;
      mails = mails_go setup h (peak setup (x ∷ h)) old x l.0;
      changed = changed_goes setup h (peak setup (x ∷ h)) old x l.0;
    }
