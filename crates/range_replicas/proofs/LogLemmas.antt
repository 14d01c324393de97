-- The first entries of a log that grows, and its leases.
use Rattle.std.proofs.Common.{◌≡◌, ◌-◌, ◌<◌, ◌≤◌, ◌∙◌, ◌++◌, ℕ, zero, suc, List, [], ◌∷◌, None, Some, IsSome, IfSome, Option, drop, length, refl, ap, subst, arith, length-append}
use Rattle.mr_base.specs.declared.messages.Request.{Request}
use Rattle.mr_base.specs.declared.messages.Request.TheVariants as requests
use Rattle.range_log.specs.Facts.{first_entries, lease_of}
use Rattle.range_log.specs.declared.entries.Entry.{Entry}
use Rattle.range_log.specs.declared.entries.Entry.TheVariants as log
use Rattle.range_log.specs.declared.entries.Lease.{Lease}
use Rattle.range_replicas.specs.Sound.{AreNumbered}
use Rattle.range_rules.specs.Added.{AreLicensed, added_to}
use Rattle.range_server.specs.Handling.{Licenses}
use Rattle.range_server.specs.Scene.{Scene}

-- an entry in front changes nothing of the first ones
pub first_behind : (n : ℕ) (e : Entry) (entries : List Entry) → n ≤ length entries → first_entries n (e ∷ entries) ≡ first_entries n entries
first_behind n e entries h =
    let more : suc (length entries) - n ≡ suc (length entries - n) = omega arith in
    rw more

pub first_more : (n : ℕ) (added entries : List Entry) → n ≤ length entries → first_entries n (added ++ entries) ≡ first_entries n entries
first_more n [] entries h = refl
first_more n (e ∷ added) entries h =
    let long : n ≤ length (added ++ entries) = omega (arith, h, length-append added entries) in
    first_behind n e (added ++ entries) long ∙ first_more n added entries h

-- all of a list's entries are its first ones
pub all_first : (n : ℕ) (entries : List Entry) → length entries ≤ n → first_entries n entries ≡ entries
all_first n entries h = let z : length entries - n ≡ 0 = omega (arith, h) in rw z

-- an earlier lease has a lower sequence than what is above the last one's
pub seq_below : (entries : List Entry) (n : ℕ) (lease : Lease) (seq : ℕ) → AreNumbered entries → IfSome (lease_of entries) (λ last. last.seq < seq)
    → lease_of (drop n entries) ≡ Some lease → lease.seq < seq
seq_below [] zero lease seq h b e = absurd (let no : ⊥ = cc in no)
seq_below [] (suc n) lease seq h b e = absurd (let no : ⊥ = cc in no)
seq_below (log.Lease m ∷ older) zero lease seq h b e = let same : m ≡ lease = cc in subst (λ (x : Lease). x.seq < seq) same b
seq_below (log.Lease m ∷ older) (suc n) lease seq h b e =
    let below : lease.seq < m.seq = seq_below older n lease m.seq h.1 h.0 e in
    omega (arith, below, b)
seq_below (log.Put a start anchor ts key value ∷ older) zero lease seq h b e = seq_below older zero lease seq h b e
seq_below (log.Put a start anchor ts key value ∷ older) (suc n) lease seq h b e = seq_below older n lease seq h b e
seq_below (log.Resolve a key fate ∷ older) zero lease seq h b e = seq_below older zero lease seq h b e
seq_below (log.Resolve a key fate ∷ older) (suc n) lease seq h b e = seq_below older n lease seq h b e
seq_below (log.State a state ∷ older) zero lease seq h b e = seq_below older zero lease seq h b e
seq_below (log.State a state ∷ older) (suc n) lease seq h b e = seq_below older n lease seq h b e
seq_below (log.Close ts ∷ older) zero lease seq h b e = seq_below older zero lease seq h b e
seq_below (log.Close ts ∷ older) (suc n) lease seq h b e = seq_below older n lease seq h b e
seq_below (log.Load ts key value ∷ older) zero lease seq h b e = seq_below older zero lease seq h b e
seq_below (log.Load ts key value ∷ older) (suc n) lease seq h b e = seq_below older n lease seq h b e

-- what a request adds is no lease
no_lease : (sc : Scene) (q : Request) (lease : Lease) (before : List Entry) → ¬ Licenses sc q (log.Lease lease) before
no_lease sc (requests.Read attempt range span at limit known) lease before h = h
no_lease sc (requests.Refresh attempt range span from at known) lease before h = h
no_lease sc (requests.Put attempt range start anchor at key value known) lease before h = h
no_lease sc (requests.PushReader attempt range other at) lease before h = h
no_lease sc (requests.PushWriter attempt range other start other_start) lease before h = h
no_lease sc (requests.Commit attempt range at) lease before h = h
no_lease sc (requests.Abort attempt range) lease before h = h
no_lease sc (requests.Resolve attempt range keys fate) lease before h = h

module _ (sc : Scene) (q : Request) where
  pub same_lease : (added before : List Entry) → AreLicensed (Licenses sc q) added before → lease_of (added ++ before) ≡ lease_of before
  same_lease [] before h = refl
  same_lease (log.Lease lease ∷ added) before h = absurd (no_lease sc q lease (added ++ before) h.0)
  same_lease (log.Put a start anchor ts key value ∷ added) before h = same_lease added before h.1
  same_lease (log.Resolve a key fate ∷ added) before h = same_lease added before h.1
  same_lease (log.State a state ∷ added) before h = same_lease added before h.1
  same_lease (log.Close ts ∷ added) before h = same_lease added before h.1
  same_lease (log.Load ts key value ∷ added) before h = same_lease added before h.1

  pub still_numbered : (added before : List Entry) → AreLicensed (Licenses sc q) added before → AreNumbered before → AreNumbered (added ++ before)
  still_numbered [] before h n = n
  still_numbered (log.Lease lease ∷ added) before h n = absurd (no_lease sc q lease (added ++ before) h.0)
  still_numbered (log.Put a start anchor ts key value ∷ added) before h n = still_numbered added before h.1 n
  still_numbered (log.Resolve a key fate ∷ added) before h n = still_numbered added before h.1 n
  still_numbered (log.State a state ∷ added) before h n = still_numbered added before h.1 n
  still_numbered (log.Close ts ∷ added) before h n = still_numbered added before h.1 n
  still_numbered (log.Load ts key value ∷ added) before h n = still_numbered added before h.1 n

-- what a log grew by
pub added_one : (e : Entry) (entries after : List Entry) → after ≡ e ∷ entries → added_to entries after ≡ e ∷ []
added_one e entries after grown =
    let one : suc (length entries) - length entries ≡ 1 = omega arith in
    ap (λ (x : List Entry). added_to entries x) grown ∙ rw one

pub added_none : (entries after : List Entry) → after ≡ entries → added_to entries after ≡ []
added_none entries after same =
    let none : length entries - length entries ≡ 0 = omega arith in
    ap (λ (x : List Entry). added_to entries x) same ∙ rw none

-- a longer list has a lease where a shorter one has one
pub lease_kept : (entries : List Entry) (n : ℕ) → IsSome (lease_of (drop n entries)) → IsSome (lease_of entries)
lease_kept [] zero h = h
lease_kept [] (suc n) h = h
lease_kept (log.Lease m ∷ older) n h = refl
lease_kept (log.Put a start anchor ts key value ∷ older) zero h = h
lease_kept (log.Put a start anchor ts key value ∷ older) (suc n) h = lease_kept older n h
lease_kept (log.Resolve a key fate ∷ older) zero h = h
lease_kept (log.Resolve a key fate ∷ older) (suc n) h = lease_kept older n h
lease_kept (log.State a state ∷ older) zero h = h
lease_kept (log.State a state ∷ older) (suc n) h = lease_kept older n h
lease_kept (log.Close ts ∷ older) zero h = h
lease_kept (log.Close ts ∷ older) (suc n) h = lease_kept older n h
lease_kept (log.Load ts key value ∷ older) zero h = h
lease_kept (log.Load ts key value ∷ older) (suc n) h = lease_kept older n h

pub if_some_weaker : {A : Type 0} (o : Option A) (P Q : A → Type 0) → ((x : A) → P x → Q x) → IfSome o P → IfSome o Q
if_some_weaker None P Q f h = tt
if_some_weaker (Some x) P Q f h = f x h
