use Rattle.std.proofs.Common.{◌≡◌, ℕ, zero, suc, ◌<◌, ◌≤◌, ◌-◌, List, [], ◌∷◌, length, drop, inl, inr, ⊎_elim, refl, sym, ap, ◌∙◌, subst, arith}
use Rattle.std.specs.Prelude.{◌⊎◌, Option, Some}
use Rattle.std.proofs.lemmas.List.{length-drop}
use Rattle.mr_base.specs.declared.ids.AttemptId.{AttemptId}
use Rattle.mr_base.specs.declared.messages.Fate.{Fate}
use Rattle.mr_base.specs.declared.timestamps.Ts.{Ts}
use Rattle.range_log.specs.Facts.{first_entries, lease_of}
use Rattle.range_log.specs.declared.entries.Entry.{Entry}
use Rattle.range_log.specs.declared.entries.Entry.TheVariants as log
use Rattle.range_log.specs.declared.entries.Lease.{Lease}

-- an older part of a log
abbrev pub IsSuffix : List Entry → List Entry → Type 0
IsSuffix p [] = p ≡ []
IsSuffix p (e ∷ l) = (p ≡ e ∷ l) ⊎ IsSuffix p l

-- a put stands in a log
abbrev pub PutIn : AttemptId → Ts → List ℕ → Option (List ℕ) → List Entry → Type 0
PutIn a p key value [] = ⊥
PutIn a p key value (log.Put b start anchor ts k v ∷ l) = ((b ≡ a) × (ts ≡ p) × (k ≡ key) × (v ≡ value)) ⊎ PutIn a p key value l
PutIn a p key value (e ∷ l) = PutIn a p key value l

-- a put stands in a log behind an older part of it
abbrev pub PutAfter : List Entry → AttemptId → Ts → List ℕ → List Entry → Type 0
PutAfter o a p key [] = ⊥
PutAfter o a p key (log.Put b start anchor ts k v ∷ l) = ((b ≡ a) × (ts ≡ p) × (k ≡ key) × IsSuffix o l) ⊎ PutAfter o a p key l
PutAfter o a p key (e ∷ l) = PutAfter o a p key l

abbrev pub ResolveIn : AttemptId → List ℕ → Fate → List Entry → Type 0
ResolveIn a key fate [] = ⊥
ResolveIn a key fate (log.Resolve b k f ∷ l) = ((b ≡ a) × (k ≡ key) × (f ≡ fate)) ⊎ ResolveIn a key fate l
ResolveIn a key fate (e ∷ l) = ResolveIn a key fate l

abbrev pub LoadIn : Ts → List ℕ → List ℕ → List Entry → Type 0
LoadIn ts key value [] = ⊥
LoadIn ts key value (log.Load s k v ∷ l) = ((s ≡ ts) × (k ≡ key) × (v ≡ value)) ⊎ LoadIn ts key value l
LoadIn ts key value (e ∷ l) = LoadIn ts key value l

abbrev pub LeaseIn : Lease → List Entry → Type 0
LeaseIn x [] = ⊥
LeaseIn x (log.Lease y ∷ l) = (y ≡ x) ⊎ LeaseIn x l
LeaseIn x (e ∷ l) = LeaseIn x l

-- older parts
pub suffix_itself : (l : List Entry) → IsSuffix l l
suffix_itself [] = refl
suffix_itself (e ∷ l) = inl refl

pub suffix_none : (l : List Entry) → IsSuffix [] l
suffix_none [] = refl
suffix_none (e ∷ l) = inr (suffix_none l)

pub suffix_trans : (a b c : List Entry) → IsSuffix a b → IsSuffix b c → IsSuffix a c
suffix_trans a b [] p q = subst (λ (l : List Entry). IsSuffix a l) q p
suffix_trans a b (e ∷ l) p (inl q) = subst (λ (m : List Entry). IsSuffix a m) q p
suffix_trans a b (e ∷ l) p (inr q) = inr (suffix_trans a b l p q)

pub suffix_length : (a l : List Entry) → IsSuffix a l → length a ≤ length l
suffix_length a [] p = subst (λ (m : List Entry). length m ≤ 0) (sym p) (omega arith)
suffix_length a (e ∷ l) (inl p) = subst (λ (m : List Entry). length m ≤ length (e ∷ l)) (sym p) (omega arith)
suffix_length a (e ∷ l) (inr p) = let q : length a ≤ length l = suffix_length a l p in omega arith

-- as long as the whole
pub suffix_full : (a l : List Entry) → IsSuffix a l → length l ≤ length a → a ≡ l
suffix_full a [] p n = p
suffix_full a (e ∷ l) (inl p) n = p
suffix_full a (e ∷ l) (inr p) n = let q : length a ≤ length l = suffix_length a l p in absurd (omega arith)

-- of two older parts the shorter is one of the longer
pub suffix_in_suffix : (a b l : List Entry) → IsSuffix a l → IsSuffix b l → length a ≤ length b → IsSuffix a b
suffix_in_suffix a b [] p q n = subst (λ (m : List Entry). IsSuffix a m) (sym q) p
suffix_in_suffix a b (e ∷ l) (inl p) q n =
    let f : a ≡ b = longest q in subst (λ (m : List Entry). IsSuffix a m) f (suffix_itself a)
  where
    longest : IsSuffix b (e ∷ l) → a ≡ b
    longest (inl q) = p ∙ sym q
    longest (inr q) =
        let r : length b ≤ length l = suffix_length b l q in
        let s : length a ≡ suc (length l) = ap (λ (m : List Entry). length m) p in
        absurd (omega arith)
suffix_in_suffix a b (e ∷ l) (inr p) (inl q) n = subst (λ (m : List Entry). IsSuffix a m) (sym q) (inr p)
suffix_in_suffix a b (e ∷ l) (inr p) (inr q) n = suffix_in_suffix a b l p q n

drop_suffix : (n : ℕ) (l : List Entry) → IsSuffix (drop n l) l
drop_suffix zero l = suffix_itself l
drop_suffix (suc n) [] = refl
drop_suffix (suc n) (e ∷ l) = inr (drop_suffix n l)

-- the first entries are an older part, and as many
pub first_suffix : (n : ℕ) (l : List Entry) → IsSuffix (first_entries n l) l
first_suffix n l = drop_suffix (length l - n) l

pub first_length : (n : ℕ) (l : List Entry) → n ≤ length l → length (first_entries n l) ≡ n
first_length n l h =
    let e : length (drop (length l - n) l) ≡ length l - (length l - n) = length-drop (length l - n) l in
    omega arith

-- what stands in an older part stands in the whole
pub put_later : (o l : List Entry) (a : AttemptId) (p : Ts) (key : List ℕ) (value : Option (List ℕ)) → IsSuffix o l → PutIn a p key value o → PutIn a p key value l
put_later o [] a p key value s h = subst (λ (m : List Entry). PutIn a p key value m) s h
put_later o (e ∷ l) a p key value (inl s) h = subst (λ (m : List Entry). PutIn a p key value m) s h
put_later o (log.Put b start anchor ts k v ∷ l) a p key value (inr s) h = inr (put_later o l a p key value s h)
put_later o (e ∷ l) a p key value (inr s) h = put_later o l a p key value s h

pub load_later : (o l : List Entry) (ts : Ts) (key value : List ℕ) → IsSuffix o l → LoadIn ts key value o → LoadIn ts key value l
load_later o [] ts key value s h = subst (λ (m : List Entry). LoadIn ts key value m) s h
load_later o (e ∷ l) ts key value (inl s) h = subst (λ (m : List Entry). LoadIn ts key value m) s h
load_later o (log.Load t k v ∷ l) ts key value (inr s) h = inr (load_later o l ts key value s h)
load_later o (e ∷ l) ts key value (inr s) h = load_later o l ts key value s h

pub lease_later : (o l : List Entry) (x : Lease) → IsSuffix o l → LeaseIn x o → LeaseIn x l
lease_later o [] x s h = subst (λ (m : List Entry). LeaseIn x m) s h
lease_later o (e ∷ l) x (inl s) h = subst (λ (m : List Entry). LeaseIn x m) s h
lease_later o (log.Lease y ∷ l) x (inr s) h = inr (lease_later o l x s h)
lease_later o (e ∷ l) x (inr s) h = lease_later o l x s h

some_same : {X : Type 0} {u v : X} → Some u ≡ Some v → u ≡ v
some_same e = cc

-- the last lease stands in the log
pub last_lease_in : (l : List Entry) (x : Lease) → lease_of l ≡ Some x → LeaseIn x l
last_lease_in [] x e = absurd cc
last_lease_in (log.Lease y ∷ l) x e = inl (some_same e)
last_lease_in (e ∷ l) x h = last_lease_in l x h

-- a put stands behind an older part, or in it
pub put_split : (o l : List Entry) (a : AttemptId) (p : Ts) (key : List ℕ) (value : Option (List ℕ)) → IsSuffix o l → PutIn a p key value l
    → PutAfter o a p key l ⊎ PutIn a p key value o
put_split o [] a p key value s h = absurd h
put_split o (e ∷ l) a p key value (inl s) h = inr (subst (λ (m : List Entry). PutIn a p key value m) (sym s) h)
put_split o (log.Put b start anchor ts k v ∷ l) a p key value (inr s) (inl h) = inl (inl (h.0, h.1, h.2, s))
put_split o (log.Put b start anchor ts k v ∷ l) a p key value (inr s) (inr h) =
    ⊎_elim (λ q. inl (inr q)) (λ q. inr q) (put_split o l a p key value s h)
put_split o (e ∷ l) a p key value (inr s) h = put_split o l a p key value s h

-- behind the whole there is none
pub put_after_longer : (o l : List Entry) (a : AttemptId) (p : Ts) (key : List ℕ) → PutAfter o a p key l → length o < length l
put_after_longer o [] a p key h = absurd h
put_after_longer o (log.Put b start anchor ts k v ∷ l) a p key (inl h) = let q : length o ≤ length l = suffix_length o l h.3 in omega arith
put_after_longer o (log.Put b start anchor ts k v ∷ l) a p key (inr h) = let q : length o < length l = put_after_longer o l a p key h in omega arith
put_after_longer o (e ∷ l) a p key h = let q : length o < length l = put_after_longer o l a p key h in omega arith

pub none_after_all : (o l : List Entry) (a : AttemptId) (p : Ts) (key : List ℕ) → o ≡ l → PutAfter o a p key l → ⊥
none_after_all o l a p key e h =
    let q : length o < length l = put_after_longer o l a p key h in
    let r : length o ≡ length l = ap (λ (m : List Entry). length m) e in
    omega arith
