use Rattle.std.proofs.Common.{◌≡◌, Bool, true, false, List, [], ◌∷◌, inl, inr, refl, sym, ◌∙◌, subst}
use Rattle.std.specs.Prelude.{◌&&◌, ◌==◌, IsSome, Option, Some, None}
use Rattle.std.specs.List.{Contains}
use Rattle.std.specs.Option.{option_map_or}
use Rattle.std.proofs.lemmas.Bool.{eqb-true}
use Rattle.answer_laws.proofs.Members.{Has, filter_has, has_itself}
use Rattle.journal.specs.declared.entries.JournalEntry.TheVariants as entry
use Rattle.mr_base.specs.Timestamps.{IsBelow}
use Rattle.mr_base.specs.declared.ids.AttemptId.{AttemptId}
use Rattle.mr_base.specs.declared.ids.NodeId.{NodeId}
use Rattle.mr_base.specs.declared.timestamps.Ts.{Ts}
use Rattle.run_laws.proofs.LawfulLemmas.{happened_so}
use Rattle.run_laws.specs.DeterminedAnswers.{heard_at, is_heard_at}
use Rattle.run_laws.specs.Lawful.{IsLawful, IsPermitted}
use Rattle.run_laws.specs.Lists.{is_ts}
use Rattle.run_laws.specs.Served.{IsSinceSchema}
use Rattle.run_words.proofs.AttemptLemmas.{serve_was_served}
use Rattle.run_words.proofs.HappenedLemmas.{happened_since}
use Rattle.run_words.proofs.MemberLemmas.{contains_first, contains_later, contains_none}
use Rattle.run_words.specs.Happened.{IsPlace}
use Rattle.run_words.specs.History.{History, Item, Made}
use Rattle.run_words.specs.Ranges.{range_of}
use Rattle.run_words.specs.Relations.{IsServe, WasServed}
use Rattle.run_words.specs.Serving.{ServedRead, serves}
use Rattle.run_words.specs.Setup.{RangeSetup, Setup}
use Rattle.serial_runs.proofs.Since.{schema_same}

pub contained : {X : Type 0} (x : X) (xs : List X) → Has x xs → Contains xs x
contained x [] k = absurd k
contained {X} x (y ∷ ys) (inl e) = subst (λ (z : X). Contains (y ∷ ys) z) e (contains_first y ys)
contained x (y ∷ ys) (inr k) = contains_later y x ys (contained x ys k)

both_first : (a b : Bool) → (a && b) ≡ true → a ≡ true
both_first true b e = refl
both_first false b e = e

both_second : (a b : Bool) → (a && b) ≡ true → b ≡ true
both_second true b e = e
both_second false b e = absurd (cc e)

pub ts_tested : (a b : Ts) → is_ts a b ≡ true → a ≡ b
ts_tested a b e =
    let rest : ((a.logical == b.logical) && (a.owner == b.owner)) ≡ true = both_second (a.wall == b.wall) _ e in
    let w : a.wall ≡ b.wall = eqb-true a.wall b.wall (both_first (a.wall == b.wall) _ e) in
    let l : a.logical ≡ b.logical = eqb-true a.logical b.logical (both_first (a.logical == b.logical) _ rest) in
    let o : a.owner ≡ b.owner = eqb-true a.owner b.owner (both_second (a.logical == b.logical) _ rest) in
    λ i. record { wall = w i; logical = l i; owner = o i }

-- a read that was served: not below a schema change, and of a range in force
pub record IsGood (setup : Setup) (s : ServedRead) : Type 0 where
  pub since : (changed : Ts) → setup.schema ≡ Some changed → ¬ IsBelow s.read.at changed
  pub live : IsSome (range_of setup [] s.range)

live_by : (o : Option RangeSetup) (f : RangeSetup → List NodeId) (n : NodeId) → Contains (option_map_or f o []) n → IsSome o
live_by None f n c = absurd (contains_none n c)
live_by (Some r) f n c = refl

serve_good : (setup : Setup) (s : ServedRead) (x : Item) (g : History) → IsServe setup s x g → IsPermitted setup g x → IsLawful setup g → IsGood setup s
serve_good setup s (Made (entry.Serve attempt node range span at limit count by known)) g e p l =
    subst (λ (y : ServedRead). IsGood setup y) (sym e)
    (record {
      since = λ changed q. subst (λ (o : Option Ts). IsSinceSchema o at) (schema_same setup g l ∙ q) p.served.since;
      live = live_by (range_of setup g range) _ node p.served.replica;
    })
serve_good setup s x g e p l = absurd e

pub was_good : (setup : Setup) (h : History) (s : ServedRead) → IsLawful setup h → WasServed setup s h → IsGood setup s
was_good setup h s l w =
    let f : (x : Item) × (g : History) × IsPlace (x ∷ g) h × IsServe setup s x g × IsPermitted setup g x × IsLawful setup g = happened_so setup h (IsServe setup s) l w in
    serve_good setup s f.0 f.1 f.3 f.4 f.5

-- what was heard at a timestamp was served at it
pub heard_served : (setup : Setup) (h older : History) (a : AttemptId) (ts : Ts) (s : ServedRead) → IsPlace older h → Contains (heard_at setup older a ts) s
    → WasServed setup s h × (s.read.at ≡ ts)
heard_served setup h older a ts s p c =
    let f : Has s (serves setup older a) × (is_heard_at older ts s ≡ true) = filter_has (is_heard_at older ts) (serves setup older a) s (has_itself s (heard_at setup older a ts) c) in (
      happened_since (IsServe setup s) h older p (serve_was_served setup older a s (contained s (serves setup older a) f.0)).0,
      ts_tested s.read.at ts (both_first (is_ts s.read.at ts) _ f.1),
    )
