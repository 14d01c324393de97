use Rattle.std.proofs.Common.{◌≡◌, ℕ, Bool, true, false, cond, List, [], ◌∷◌, inl, inr, ⊎_elim, refl, sym, ap, ◌∙◌, subst}
use Rattle.std.specs.Prelude.{◌⊎◌, ◌==◌, ⊤, Option, Some}
use Rattle.std.specs.List.{Contains}
use Rattle.closed_ts.specs.Targets.{at_wall}
use Rattle.journal.specs.declared.entries.JournalEntry.TheVariants as entry
use Rattle.journal.specs.declared.events.Event.{Event}
use Rattle.journal.specs.declared.events.Event.TheVariants as events
use Rattle.mr_base.specs.Timestamps.{IsBelow, later}
use Rattle.mr_base.specs.declared.ids.AttemptId.{AttemptId}
use Rattle.mr_base.specs.declared.ids.RangeId.{RangeId}
use Rattle.mr_base.specs.declared.messages.Fate.{Fate}
use Rattle.mr_base.specs.declared.timestamps.Ts.{Ts}
use Rattle.range_log.specs.Facts.{lease_of}
use Rattle.range_log.specs.declared.entries.Entry.{Entry}
use Rattle.range_log.specs.declared.entries.Entry.TheVariants as log
use Rattle.range_log.specs.declared.entries.Lease.{Lease}
use Rattle.range_rules.specs.Resolves.{Repeats}
use Rattle.held_reads.proofs.Basics.{not_none, ranges_same, some_same}
use Rattle.held_reads.proofs.BeginningFacts.{IsBeginning, is_beginning}
use Rattle.held_reads.proofs.Licenses.{AreLicensed, IsLicensed, Records}
use Rattle.held_reads.proofs.LogWords.{IsSuffix, LoadIn, PutIn, suffix_itself}
use Rattle.held_reads.proofs.RecordFacts.{still_repeats}
use Rattle.held_reads.proofs.TsLemmas.{later_right, not_itself}
use Rattle.held_reads.specs.KeepsReads.{IsKeptForReads, KeepsReads}
use Rattle.run_laws.specs.Appended.{IsLeased}
use Rattle.run_laws.specs.Beginnings.{IsSoundSetup}
use Rattle.run_words.proofs.MemberLemmas.{picked_in}
use Rattle.run_words.specs.History.{History, Item, Made}
use Rattle.run_words.specs.Logs.{log_of}
use Rattle.run_words.specs.Puts.{PutMade, puts, record_of}
use Rattle.run_words.specs.Setup.{Setup}
use Rattle.run_words.specs.Steps.{event_of}

-- entries that aren't puts, or aren't loads, add none
abbrev pub IsNoPut : Entry → Type 0
IsNoPut (log.Put b start anchor ts k v) = ⊥
IsNoPut e = ⊤

abbrev IsNoLoad : Entry → Type 0
IsNoLoad (log.Load ts k v) = ⊥
IsNoLoad e = ⊤

skip_put : (e : Entry) (t : Bool) (l : List Entry) (a : AttemptId) (q : Ts) (key : List ℕ) (v : Option (List ℕ)) → IsNoPut e → PutIn a q key v (cond t (e ∷ l) l) → PutIn a q key v l
skip_put e false l a q key v n w = w
skip_put (log.Put b start anchor ts k x) true l a q key v n w = absurd n
skip_put e true l a q key v n w = w

skip_load : (e : Entry) (t : Bool) (l : List Entry) (ts : Ts) (key w : List ℕ) → IsNoLoad e → LoadIn ts key w (cond t (e ∷ l) l) → LoadIn ts key w l
skip_load e false l ts key w n h = h
skip_load (log.Load s k x) true l ts key w n h = absurd n
skip_load e true l ts key w n h = h

-- a put in a log is among its attempt's
pub record IsAmong (ps : List PutMade) (j : RangeId) (q : Ts) (key : List ℕ) (v : Option (List ℕ)) : Type 0 where
  pub put : PutMade
  pub among : Contains ps put
  pub range_is : put.range ≡ j
  pub ts_is : put.ts ≡ q
  pub key_is : put.key ≡ key
  pub value_is : put.value ≡ v

put_cases : (t : Bool) (range j : RangeId) (b : AttemptId) (start : Ts) (anchor : RangeId) (ts : Ts) (k : List ℕ) (x : Option (List ℕ)) (l : List Entry) (a : AttemptId) (q : Ts) (key : List ℕ) (v : Option (List ℕ))
    → t ≡ (range.0 == j.0) → PutIn a q key v (cond t (log.Put b start anchor ts k x ∷ l) l)
    → ((range ≡ j) × (b ≡ a) × (ts ≡ q) × (k ≡ key) × (x ≡ v)) ⊎ PutIn a q key v l
put_cases true range j b start anchor ts k x l a q key v e (inl w) = inl (ranges_same range j (sym e), w.0, w.1, w.2, w.3)
put_cases true range j b start anchor ts k x l a q key v e (inr w) = inr w
put_cases false range j b start anchor ts k x l a q key v e w = inr w

pub put_among : (setup : Setup) → IsSoundSetup setup → (h : History) (j : RangeId) (a : AttemptId) (q : Ts) (key : List ℕ) (v : Option (List ℕ)) → PutIn a q key v (log_of setup h j) → IsAmong (puts h a) j q key v
put_among setup sound [] j a q key v w =
    let b : IsBeginning _ (setup.beginning j) = is_beginning setup sound j in absurd (b.no_puts a q key v w)
put_among setup sound (Made (entry.Append range index (log.Put b start anchor ts k x)) ∷ h) j a q key v w =
    ⊎_elim
    (λ (c : (range ≡ j) × (b ≡ a) × (ts ≡ q) × (k ≡ key) × (x ≡ v)).
    record { put = _; among = picked_in (b.0 == a.0) b a _ _ (puts h a) refl (inl (c.1, refl)); range_is = c.0; ts_is = c.2; key_is = c.3; value_is = c.4 })
    (λ c.
    let old : IsAmong (puts h a) j q key v = put_among setup sound h j a q key v c in
    record {
      put = old.put;
      among = picked_in (b.0 == a.0) b a _ old.put (puts h a) refl (inr old.among);
      range_is = old.range_is;
      ts_is = old.ts_is;
      key_is = old.key_is;
      value_is = old.value_is;
    })
    (put_cases (range.0 == j.0) range j b start anchor ts k x (log_of setup h j) a q key v refl w)
put_among setup sound (Made (entry.Append range index e) ∷ h) j a q key v w =
    put_among setup sound h j a q key v (skip_put e (range.0 == j.0) (log_of setup h j) a q key v tt w)
put_among setup sound (x ∷ h) j a q key v w = put_among setup sound h j a q key v w

-- nothing is loaded after the beginning
pub loads_begin : (setup : Setup) (h : History) → KeepsReads setup h → (j : RangeId) (ts : Ts) (key w : List ℕ) → LoadIn ts key w (log_of setup h j) → LoadIn ts key w (setup.beginning j)
loads_begin setup [] k j ts key w l = l
loads_begin setup (Made (entry.Append range index (log.Load s x y)) ∷ h) k j ts key w l = absurd k.0.order
loads_begin setup (Made (entry.Append range index e) ∷ h) k j ts key w l =
    loads_begin setup h k.1 j ts key w (skip_load e (range.0 == j.0) (log_of setup h j) ts key w tt l)
loads_begin setup (x ∷ h) k j ts key w l = loads_begin setup h k.1 j ts key w l

longer : (t : Bool) (e : Entry) (o l : List Entry) → IsSuffix o l → IsSuffix o (cond t (e ∷ l) l)
longer true e o l s = inr s
longer false e o l s = s

-- a log only grows
pub log_grows : (setup : Setup) (x : Item) (h : History) (j : RangeId) (o : List Entry) → IsSuffix o (log_of setup h j) → IsSuffix o (log_of setup (x ∷ h) j)
log_grows setup (Made (entry.Append range index e)) h j o s = longer (range.0 == j.0) e o (log_of setup h j) s
log_grows setup x h j o s = s

pub log_begins : (setup : Setup) (h : History) (j : RangeId) → IsSuffix (setup.beginning j) (log_of setup h j)
log_begins setup [] j = suffix_itself (setup.beginning j)
log_begins setup (x ∷ h) j = log_grows setup x h j (setup.beginning j) (log_begins setup h j)

-- no lease has a low water below that of the one before
pub lease_low : (setup : Setup) (h : History) (j : RangeId) (x : Lease) (event : Option Event) → IsLeased setup h j x event → (last : Lease) → lease_of (log_of setup h j) ≡ Some last → ¬ IsBelow x.low last.low
lease_low setup h j x (Some events.Begin) f last e = absurd (not_none (sym (ap (λ (l : List Entry). lease_of l) f.first) ∙ e))
lease_low setup h j x (Some (events.LeaseAcquire r n)) f last e =
    let same : f.0 ≡ last = some_same (sym f.1 ∙ e) in
    let low : x.low ≡ later (at_wall f.0.expiration) f.0.low = f.3.2.low_is in
    subst (λ (y : Lease). ¬ IsBelow x.low y.low) same (subst (λ (t : Ts). ¬ IsBelow t f.0.low) (sym low) (later_right (at_wall f.0.expiration) f.0.low))
lease_low setup h j x (Some (events.LeaseTransfer r n)) f last e =
    let same : f.0 ≡ last = some_same (sym f.1 ∙ e) in subst (λ (y : Lease). ¬ IsBelow x.low y.low) same f.3.3.old
lease_low setup h j x (Some (events.LeaseExtend r)) f last e =
    let same : f.0 ≡ last = some_same (sym f.1 ∙ e) in
    let low : x.low ≡ f.0.low = f.3.1.low_is in
    subst (λ (y : Lease). ¬ IsBelow x.low y.low) same (subst (λ (t : Ts). ¬ IsBelow t f.0.low) (sym low) (not_itself f.0.low))
lease_low setup h j x _ f last e = absurd f.3

-- an entry is licensed where it is appended
license : (setup : Setup) → IsSoundSetup setup → (h : History) (range : RangeId) (index : ℕ) (e : Entry) → IsKeptForReads setup h (Made (entry.Append range index e))
    → IsLicensed (record_of (Made (entry.Append range index e) ∷ h)) e (log_of setup h range)
license setup sound h range index (log.Put a start anchor p key value) k =
    record {
      alone = k.laid.placed.alone;
      first = λ q v w.
          let c : IsAmong (puts h a) range q key v = put_among setup sound h range a q key v w in
          k.laid.first c.put c.among c.range_is c.key_is;
      closed = k.laid.above_all.closed;
      low = k.laid.low;
    }
license setup sound h range index (log.Resolve a key fate) k = (k.records.repeats, k.records.intent)
license setup sound h range index (log.Load ts key v) k = absurd k.order
license setup sound h range index (log.Lease x) k = lease_low setup h range x (event_of h) k.appended.by
license setup sound h range index (log.State a s) k = tt
license setup sound h range index (log.Close ts) k = tt

-- and stays so as records change
relicensed : (rec new : Records) (l : List Entry) → ((a : AttemptId) (f : Fate) → Repeats (rec a) f → Repeats (new a) f) → AreLicensed rec l → AreLicensed new l
relicensed rec new [] f h = tt
relicensed rec new (log.Resolve a key fate ∷ l) f h = ((f a fate h.0.0, h.0.1), relicensed rec new l f h.1)
relicensed rec new (e ∷ l) f h = (h.0, relicensed rec new l f h.1)

grown : (t : Bool) (rec : Records) (range j : RangeId) (e : Entry) (logs : RangeId → List Entry) → t ≡ (range.0 == j.0) → IsLicensed rec e (logs range) → AreLicensed rec (logs j)
    → AreLicensed rec (cond t (e ∷ logs j) (logs j))
grown true rec range j e logs q here old = (subst (λ (r : RangeId). IsLicensed rec e (logs r)) (ranges_same range j (sym q)) here, old)
grown false rec range j e logs q here old = old

-- each log is licensed
pub licensed : (setup : Setup) → IsSoundSetup setup → (h : History) → KeepsReads setup h → (j : RangeId) → AreLicensed (record_of h) (log_of setup h j)
licensed setup sound [] k j = let b : IsBeginning _ (setup.beginning j) = is_beginning setup sound j in b.licensed (record_of [])
licensed setup sound (Made (entry.Append range index e) ∷ h) k j =
    grown (range.0 == j.0) (record_of (Made (entry.Append range index e) ∷ h)) range j e (log_of setup h) refl (license setup sound h range index e k.0)
    (relicensed (record_of h) (record_of (Made (entry.Append range index e) ∷ h)) (log_of setup h j) (λ a f. still_repeats setup (Made (entry.Append range index e)) h k.0 f a) (licensed setup sound h k.1 j))
licensed setup sound (x ∷ h) k j = licensed setup sound h k.1 j
