-- A scenario that is read for its ranges, as its lines are read and run.
use Rattle.std.proofs.Common.{◌≡◌, ℕ, List, [], ◌∷◌, ◌++◌, Option, Some, None, refl, ap, sym, ◌∙◌, subst, inl, length, add-one}
use Rattle.mr_base.specs.declared.nodes.NodeInfo.{NodeInfo}
use Rattle.region_sql.specs.declared.region_statements.RegionStatement.{RegionStatement}
use Rattle.scenario.specs.declared.lines.Line.{Line}
use Rattle.scenario.specs.declared.lines.Line.TheVariants as lines
use Rattle.zone_report.specs.Statements.{CarriesOut, Zoned, next}
use Rattle.zone_report.specs.declared.refused.SqlRefusal.{SqlRefusal}
use Rattle.mr_shell.specs.Ends.{EndsLines}
use Rattle.mr_shell.specs.Texts.{WritesPart, Wrote}
use Rattle.mr_shell.specs.ZoneStory.{Does, ReadsZones, ZoneStory, answer_text}
use Rattle.zone_report.specs.Laws.{without_databases}
use Rattle.mr_shell.specs.ZonesSession.{HasReadZones, HasRunZones, StopsAtZones, zoned_in}
use Rattle.mr_shell.specs.declared.outcome.End.{End}
use Rattle.mr_shell.specs.declared.outcome.End.TheVariants as ends
use Rattle.mr_shell.specs.declared.zones_session.ZonesSession.{ZonesSession}
use Rattle.mr_shell.proofs.Written.{part_behind, wrote-more}

-- a line that leaves all as it was
pub has_run_quiet : (start : Option (List ℕ)) (line : Line) (text : List ℕ) (before : List (List ℕ)) (session : ZonesSession) (written : Option (List ℕ)) (h : HasReadZones start line text before session written) → Does h.story (record h.story { seen = session.scenario }) line → HasRunZones start (text ∷ before) session written
has_run_quiet start line text before session written h does =
    record {
      story = record h.story { seen = session.scenario };
      tells = (h.story, h.tells, (line, h.read, does));
      seen = refl;
      number = h.number ∙ add-one (length before);
      holds = record { zoned = h.holds.zoned; nodes = h.holds.nodes; text = h.holds.text };
    }

pub has_run_node : (start : Option (List ℕ)) (info : NodeInfo) (clock : ℕ) (text : List ℕ) (before : List (List ℕ)) (session : ZonesSession) (written : Option (List ℕ)) (nodes : List NodeInfo) → nodes ≡ session.nodes ++ info ∷ [] → HasReadZones start (lines.Node info clock) text before session written → HasRunZones start (text ∷ before) (record session { nodes = nodes; zones = None }) written
has_run_node start info clock text before session written nodes more h =
    record {
      story = record { seen = session.scenario; zoned = without_databases (h.story.zoned.nodes ++ info ∷ []); refused = h.story.refused };
      tells = (h.story, h.tells, (lines.Node info clock, h.read, (refl, refl)));
      seen = refl;
      number = h.number ∙ add-one (length before);
      holds = record {
        zoned = ap (λ (ns : List NodeInfo). without_databases ns) (ap (λ (ns : List NodeInfo). ns ++ info ∷ []) h.holds.nodes ∙ sym more);
        nodes = ap (λ (ns : List NodeInfo). ns ++ info ∷ []) h.holds.nodes ∙ sym more;
        text = h.holds.text;
      };
    }

-- a statement leaves the nodes
same_nodes : (z : Zoned) (s : Option RegionStatement) → (next z s).nodes ≡ z.nodes
same_nodes z None = refl
same_nodes z (Some s) = refl

abbrev after_sql : ZonesSession → ZoneStory → Option Zoned → Option SqlRefusal → ZoneStory
after_sql session story zones answer = record { seen = session.scenario; zoned = zoned_in session.nodes zones; refused = story.refused ++ answer_text answer }

-- a statement that was carried out on what the session holds
pub carried : (session : ZonesSession) (zones : Option Zoned) (answer : Option SqlRefusal) (nodes : List NodeInfo) (said statement : List ℕ) → nodes ≡ session.nodes → said ≡ statement → CarriesOut said (zoned_in nodes session.zones) answer (zoned_in nodes zones) → CarriesOut statement (zoned_in session.nodes session.zones) answer (zoned_in session.nodes zones)
carried session zones answer nodes said statement e k h =
    subst (λ (t : List ℕ). CarriesOut t (zoned_in session.nodes session.zones) answer (zoned_in session.nodes zones)) k (subst (λ (ns : List NodeInfo). CarriesOut said (zoned_in ns session.zones) answer (zoned_in ns zones)) e h)

step_sql : (start : Option (List ℕ)) (statement text : List ℕ) (before : List (List ℕ)) (session : ZonesSession) (zones : Option Zoned) (answer : Option SqlRefusal) (mid : Option (List ℕ)) (h : HasReadZones start (lines.Sql statement) text before session mid) → CarriesOut statement (zoned_in session.nodes session.zones) answer (zoned_in session.nodes zones) → ReadsZones h.story text (after_sql session h.story zones answer)
step_sql start statement text before session zones answer mid h carries =
    (lines.Sql statement, h.read, (answer, subst (λ (z : Zoned). CarriesOut statement z answer (zoned_in session.nodes zones)) (sym h.holds.zoned) carries, refl))

pub has_run_sql : (start : Option (List ℕ)) (statement text : List ℕ) (before : List (List ℕ)) (session : ZonesSession) (zones : Option Zoned) (answer : Option SqlRefusal) (mid written : Option (List ℕ)) → CarriesOut statement (zoned_in session.nodes session.zones) answer (zoned_in session.nodes zones) → Wrote mid written (answer_text answer) → HasReadZones start (lines.Sql statement) text before session mid → HasRunZones start (text ∷ before) (record session { zones = zones }) written
has_run_sql start statement text before session zones answer mid written carries w h =
    record {
      story = after_sql session h.story zones answer;
      tells = (h.story, h.tells, step_sql start statement text before session zones answer mid h carries);
      seen = refl;
      number = h.number ∙ add-one (length before);
      holds = record {
        zoned = refl;
        nodes = ap (λ (z : Zoned). z.nodes) carries.3 ∙ (same_nodes (zoned_in session.nodes session.zones) carries.0 ∙ (ap (λ (z : Zoned). z.nodes) (sym h.holds.zoned) ∙ h.holds.nodes));
        text = wrote-more start mid written h.story.refused (answer_text answer) h.holds.text w;
      };
    }

-- the line of a refused statement wasn't written whole
pub stops_at_sql : (end : End) (start : Option (List ℕ)) (statement text : List ℕ) (before : List (List ℕ)) (session : ZonesSession) (zones : Option Zoned) (answer : Option SqlRefusal) (mid written : Option (List ℕ)) → CarriesOut statement (zoned_in session.nodes session.zones) answer (zoned_in session.nodes zones) → EndsLines end → WritesPart end (answer_text answer) mid written → HasReadZones start (lines.Sql statement) text before session mid → StopsAtZones start end text before written
stops_at_sql ends.Memory start statement text before session zones answer mid written carries is w h =
    inl (h.story, record { tells = h.tells; made = refl }, w ∙ h.holds.text)
stops_at_sql ends.Write start statement text before session zones answer mid written carries is w h =
    let then = after_sql session h.story zones answer in
    let step = step_sql start statement text before session zones answer mid h carries in (
      h.story,
      then,
      [],
      [],
      record { were = record { tells = h.tells; made = refl }; step = step; made = refl },
      refl,
      answer_text answer,
      refl,
      part_behind start mid written h.story.refused (answer_text answer) h.holds.text w,
    )
stops_at_sql ends.Whole start statement text before session zones answer mid written carries is w h = absurd is
stops_at_sql ends.Usage start statement text before session zones answer mid written carries is w h = absurd w
stops_at_sql ends.Read start statement text before session zones answer mid written carries is w h = absurd w
stops_at_sql ends.Size start statement text before session zones answer mid written carries is w h = absurd w
stops_at_sql (ends.Fault fault number) start statement text before session zones answer mid written carries is w h = absurd w
