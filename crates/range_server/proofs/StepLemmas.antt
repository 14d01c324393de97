-- What a server has done with its log, from what was appended.
use Rattle.std.proofs.Common.{◌≡◌, ◌==◌, ◌-◌, ◌+◌, ◌∙◌, ℕ, suc, Bool, true, false, cond, Ok, Err, List, [], ◌∷◌, Some, length, slice_get, refl, sym, ap, subst, arith}
use Rattle.mvcc_range.specs.Follows.{Follows, ReplicaValue}
use Rattle.mr_base.specs.declared.nodes.NodeSet.{NodeSet}
use Rattle.range_log.specs.Appends.{append_answer, has_majority, seq_of, stopped_of}
use Rattle.range_log.specs.Facts.{first_entries, lease_of}
use Rattle.range_log.specs.LogValue.{LogValue}
use Rattle.range_log.specs.declared.entries.Entry.{Entry}
use Rattle.range_log.specs.declared.log.AppendRefusal.TheVariants.{Stale, NoQuorum}
use Rattle.range_server.specs.Scene.{IsBeside, applied_by}
use Rattle.range_server.specs.Steps.{IsAppended, IsStep}
use Rattle.range_server.specs.declared.standing.Standing.{Standing}

-- all of a list's entries are its first ones
pub all_first : (n : ℕ) (entries : List Entry) → n ≡ length entries → first_entries n entries ≡ entries
all_first n entries e = let z : length entries - n ≡ 0 = omega arith in rw z

-- a replica that follows a log has applied all of it
pub applied_whole : (s : Standing) (entries : List Entry) → Follows s.replica entries → applied_by s entries ≡ entries
applied_whole s entries f = all_first s.replica.applied entries f.count

pub beside_whole : (s : Standing) (entries : List Entry) → Follows s.replica entries → IsBeside s entries
beside_whole s entries f =
    record { follows = rw (applied_whole s entries f) f; whole = λ lease h. applied_whole s entries f }

module _ (Gives : List Entry → Type 0) (IsLicensed : Entry → List Entry → Type 0) (log : LogValue) (s : Standing) where
  -- nothing was appended
  pub no_step : Gives [] → IsBeside s log.entries → IsStep Gives IsLicensed log log s s
  no_step g b = record { added = []; grown = refl; gives = g; licensed = tt; voters = refl; kept = refl; beside = b; applied = refl }

  -- one entry was appended
  pub one_step : (e : Entry) (after : LogValue) (new : Standing) → IsAppended e log after s new → Gives (e ∷ []) → IsLicensed e log.entries
      → IsStep Gives IsLicensed log after s new
  one_step e after new a g l =
      record {
        added = e ∷ [];
        grown = a.entries;
        gives = g;
        licensed = (l, tt);
        voters = a.voters;
        kept = a.kept;
        beside = rw a.entries (beside_whole new (e ∷ log.entries) a.follows);
        applied = a.follows.count ∙ ap length (sym a.entries);
      }

  -- two entries were appended
  pub two_steps : (e g : Entry) (mid after : LogValue) (t new : Standing) → IsAppended e log mid s t → IsAppended g mid after t new
      → Gives (g ∷ e ∷ []) → IsLicensed g (e ∷ log.entries) → IsLicensed e log.entries → IsStep Gives IsLicensed log after s new
  two_steps e g mid after t new a b gives l m =
      let grown : after.entries ≡ g ∷ e ∷ log.entries = b.entries ∙ ap (λ (x : List Entry). g ∷ x) a.entries in
      let follows : Follows new.replica (g ∷ e ∷ log.entries) = subst (λ (x : List Entry). Follows new.replica (g ∷ x)) a.entries b.follows in
      record {
        added = g ∷ e ∷ [];
        grown = grown;
        gives = gives;
        licensed = (l, (m, tt));
        voters = b.voters ∙ a.voters;
        kept = b.kept ∙ ap (λ (x : Standing). record x { replica = new.replica }) a.kept;
        beside = rw grown (beside_whole new (g ∷ e ∷ log.entries) follows);
        applied = follows.count ∙ ap length (sym grown);
      }

-- the index of an entry that was appended
answer_index : (log : LogValue) (seq : ℕ) (running : NodeSet) (index : ℕ) → Ok index ≡ append_answer log seq running → index ≡ length log.entries + 1
answer_index log seq running index e = when (seq == seq_of (lease_of log.entries)) (has_majority log.voters running) e
  where
    when : (a b : Bool) → Ok index ≡ cond a (cond b (Ok (length log.entries + 1)) (Err (NoQuorum (stopped_of log.voters running)))) (Err (Stale (seq_of (lease_of log.entries))))
        → index ≡ length log.entries + 1
    when true true h = cc
    when true false h = absurd (let no : ⊥ = cc in no)
    when false b h = absurd (let no : ⊥ = cc in no)

-- an entry was appended, read back and applied
pub appended_is : (e read : Entry) (index seq : ℕ) (running : NodeSet) (old mid after : LogValue) (s : Standing) (replica : ReplicaValue) → mid ≡ record old { room = mid.room }
    → after ≡ record mid { entries = e ∷ mid.entries; room = mid.room - 1 } → Ok index ≡ append_answer mid seq running
    → slice_get after.entries (length after.entries - index) ≡ Some read
    → ((entries : List Entry) → Follows s.replica entries → Follows replica (read ∷ entries)) → Follows s.replica old.entries
    → IsAppended e old after s (record s { replica = replica })
appended_is e read index seq running old mid after s replica reserved added told got applied follows =
    let is : index ≡ length old.entries + 1 = answer_index mid seq running index told ∙ ap (λ (x : LogValue). length x.entries + 1) reserved in
    let entries : after.entries ≡ e ∷ old.entries
    = ap (λ (x : LogValue). x.entries) added ∙ ap (λ (x : LogValue). e ∷ x.entries) reserved in
    let front : slice_get (e ∷ old.entries) (suc (length old.entries) - index) ≡ Some read
    = subst (λ (x : List Entry). slice_get x (length x - index) ≡ Some read) entries got in
    let none : suc (length old.entries) - index ≡ 0 = omega arith in
    let first : Some e ≡ Some read = subst (λ (n : ℕ). slice_get (e ∷ old.entries) n ≡ Some read) none front in
    let same : read ≡ e = cc in
    record {
      entries = entries;
      voters = ap (λ (x : LogValue). x.voters) added ∙ ap (λ (x : LogValue). x.voters) reserved;
      follows = subst (λ (x : Entry). Follows replica (x ∷ old.entries)) same (applied old.entries follows);
      kept = refl;
    }
