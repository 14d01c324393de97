use Rattle.std.proofs.Common.{◌≡◌, ℕ, Bool, true, false, cond, List, [], ◌∷◌, inl, inr, ⊎_elim, refl, sym, ap, ◌∙◌, subst, true≢false, option_map}
use Rattle.std.specs.Prelude.{◌⊎◌, ◌==◌, Option, Some, None}
use Rattle.std.specs.List.{Contains}
use Rattle.std.specs.Option.{option_map_or}
use Rattle.journal.specs.declared.entries.JournalEntry.TheVariants as entry
use Rattle.journal.specs.declared.events.Event.{Event}
use Rattle.journal.specs.declared.events.Event.TheVariants as events
use Rattle.mr_base.specs.declared.ids.AttemptId.{AttemptId}
use Rattle.mr_base.specs.declared.ids.NodeId.{NodeId}
use Rattle.mr_base.specs.declared.ids.TxnId.{TxnId}
use Rattle.mr_base.specs.declared.timestamps.Ts.{Ts}
use Rattle.run_laws.specs.Lawful.{IsLawful}
use Rattle.run_words.specs.Askers.{gateway_of}
use Rattle.run_words.specs.History.{History, Made, Ran}
use Rattle.run_words.specs.Nodes.{is_running}
use Rattle.run_words.specs.Setup.{NodeSetup, Setup, node_ids, node_of}
use Rattle.run_words.specs.Steps.{event_of}
use Rattle.run_words.specs.Transactions.{Beginning, beginning, beginning_after}
use Rattle.held_reads.proofs.Basics.{nodes_same, not_none, some_same}
use Rattle.visible_runs.proofs.PeakLemmas.{node_there}
use Rattle.visible_runs.specs.Laws.{NameNodes}

first_known : (setup : Setup) (n : NodeId) → (node_of setup n ≡ None) ⊎ Contains (node_ids setup) n → option_map_or (λ (node : NodeSetup). node.runs) (node_of setup n) false ≡ true
    → Contains (node_ids setup) n
first_known setup n (inl e) r = absurd (true≢false (sym r ∙ ap (λ (o : Option NodeSetup). option_map_or (λ (node : NodeSetup). node.runs) o false) e))
first_known setup n (inr c) r = c

started : (t : Bool) (old : Bool) → cond t true old ≡ true → (t ≡ true) ⊎ (old ≡ true)
started true old e = inl refl
started false old e = inr e

stopped : (t : Bool) (old : Bool) → cond t false old ≡ true → old ≡ true
stopped true old e = absurd (true≢false (sym e))
stopped false old e = e

-- a node that runs is there
pub running_known : (setup : Setup) (h : History) → NameNodes setup h → (n : NodeId) → is_running setup h n ≡ true → Contains (node_ids setup) n
running_known setup [] names n r = first_known setup n (node_there setup.nodes n) r
running_known setup (Ran line (events.Stop m) ∷ h) names n r = running_known setup h names.1 n (stopped (m.0 == n.0) (is_running setup h n) r)
running_known setup (Ran line (events.Start m) ∷ h) names n r =
    ⊎_elim (λ q. subst (λ (k : NodeId). Contains (node_ids setup) k) (nodes_same m n q) names.0) (λ q. running_known setup h names.1 n q)
    (started (m.0 == n.0) (is_running setup h n) r)
running_known setup (x ∷ h) names n r = running_known setup h names.1 n r

gateway_by : (t : Bool) (ids : List NodeId) (new b : Beginning) (old : Option Beginning) → Contains ids new.gateway → (old ≡ Some b → Contains ids b.gateway) → cond t (Some new) old ≡ Some b
    → Contains ids b.gateway
gateway_by true ids new b old c f e = subst (λ (x : Beginning). Contains ids x.gateway) (some_same e) c
gateway_by false ids new b old c f e = f e

begin_known : (ids : List NodeId) (event : Option Event) (u : TxnId) (a : AttemptId) (gateway : NodeId) (start : Ts) (limit : Option ℕ) (t : TxnId) (b : Beginning) (old : Option Beginning)
    → Contains ids gateway → (old ≡ Some b → Contains ids b.gateway) → beginning_after (Made (entry.Begin u a gateway start limit)) event t old ≡ Some b → Contains ids b.gateway
begin_known ids (Some (events.Txn v n kind list)) u a gateway start limit t b old c f e = gateway_by (u.0 == t.0) ids _ b old c f e
begin_known ids _ u a gateway start limit t b old c f e = f e

-- and so is the gateway of each transaction
pub begun_known : (setup : Setup) (h : History) → IsLawful setup h → NameNodes setup h → (t : TxnId) (b : Beginning) → beginning h t ≡ Some b → Contains (node_ids setup) b.gateway
begun_known setup [] l names t b e = absurd (not_none e)
begun_known setup (Made (entry.Begin u a gateway start limit) ∷ h) l names t b e =
    begin_known (node_ids setup) (event_of h) u a gateway start limit t b (beginning h t) (running_known setup h names.1 gateway l.0.order.running) (begun_known setup h l.1 names.1 t b) e
begun_known setup (x ∷ h) l names t b e = begun_known setup h l.1 names.1 t b e

gateway_there : (ids : List NodeId) (o : Option Beginning) (n : NodeId) → ((b : Beginning) → o ≡ Some b → Contains ids b.gateway) → option_map (λ (b : Beginning). b.gateway) o ≡ Some n → Contains ids n
gateway_there ids None n f e = absurd (not_none e)
gateway_there ids (Some b) n f e = subst (λ (k : NodeId). Contains ids k) (some_same e) (f b refl)

pub gateway_known : (setup : Setup) (h : History) → IsLawful setup h → NameNodes setup h → (t : TxnId) (n : NodeId) → gateway_of h t ≡ Some n → Contains (node_ids setup) n
gateway_known setup h l names t n e = gateway_there (node_ids setup) (beginning h t) n (begun_known setup h l names t) e
