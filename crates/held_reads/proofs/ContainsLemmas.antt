use Rattle.std.proofs.Common.{◌≡◌, List, [], ◌∷◌, inl, inr, ⊎_elim, refl, sym, subst}
use Rattle.std.specs.Prelude.{Option}
use Rattle.std.specs.List.{Contains}
use Rattle.std.proofs.Common.{ℕ}
use Rattle.mr_base.specs.declared.ids.AttemptId.{AttemptId}
use Rattle.mr_base.specs.declared.ids.RangeId.{RangeId}
use Rattle.mr_base.specs.declared.timestamps.Ts.{Ts}
use Rattle.range_log.specs.declared.entries.Entry.{Entry}
use Rattle.range_log.specs.declared.entries.Entry.TheVariants as log
use Rattle.held_reads.proofs.LogWords.{LoadIn, PutIn}
use Rattle.run_words.proofs.MemberLemmas.{contains_cases, contains_first, contains_later, contains_none}

-- a put that an entry is
put_of : (e : Entry) (l : List Entry) (a : AttemptId) (start : Ts) (anchor : RangeId) (p : Ts) (key : List ℕ) (v : Option (List ℕ)) → e ≡ log.Put a start anchor p key v → PutIn a p key v (e ∷ l)
put_of e l a start anchor p key v q = subst (λ (x : Entry). PutIn a p key v (x ∷ l)) (sym q) (inl (refl, refl, refl, refl))

put_over : (e : Entry) (l : List Entry) (a : AttemptId) (p : Ts) (key : List ℕ) (v : Option (List ℕ)) → PutIn a p key v l → PutIn a p key v (e ∷ l)
put_over (log.Put b start anchor ts k x) l a p key v w = inr w
put_over e l a p key v w = w

-- a put that stands among the entries of a log
pub put_in : (l : List Entry) (a : AttemptId) (start : Ts) (anchor : RangeId) (p : Ts) (key : List ℕ) (v : Option (List ℕ)) → Contains l (log.Put a start anchor p key v) → PutIn a p key v l
put_in [] a start anchor p key v c = absurd (contains_none (log.Put a start anchor p key v) c)
put_in (e ∷ l) a start anchor p key v c =
    ⊎_elim (λ q. put_of e l a start anchor p key v q) (λ q. put_over e l a p key v (put_in l a start anchor p key v q)) (contains_cases e (log.Put a start anchor p key v) l c)

load_of_entry : (e : Entry) (l : List Entry) (ts : Ts) (key w : List ℕ) → e ≡ log.Load ts key w → LoadIn ts key w (e ∷ l)
load_of_entry e l ts key w q = subst (λ (x : Entry). LoadIn ts key w (x ∷ l)) (sym q) (inl (refl, refl, refl))

load_over : (e : Entry) (l : List Entry) (ts : Ts) (key w : List ℕ) → LoadIn ts key w l → LoadIn ts key w (e ∷ l)
load_over (log.Load s k x) l ts key w h = inr h
load_over e l ts key w h = h

-- the same of a load, and the other way round
pub load_in : (l : List Entry) (ts : Ts) (key w : List ℕ) → Contains l (log.Load ts key w) → LoadIn ts key w l
load_in [] ts key w c = absurd (contains_none (log.Load ts key w) c)
load_in (e ∷ l) ts key w c =
    ⊎_elim (λ q. load_of_entry e l ts key w q) (λ q. load_over e l ts key w (load_in l ts key w q)) (contains_cases e (log.Load ts key w) l c)

pub load_among : (l : List Entry) (ts : Ts) (key w : List ℕ) → LoadIn ts key w l → Contains l (log.Load ts key w)
load_among [] ts key w h = absurd h
load_among (log.Load s k x ∷ l) ts key w (inl h) =
    let p : s ≡ ts = h.0 in
    let q : k ≡ key = h.1 in
    let r : x ≡ w = h.2 in
    let e : log.Load s k x ≡ log.Load ts key w = λ i. log.Load (p i) (q i) (r i) in
    subst (λ (y : Entry). Contains (log.Load s k x ∷ l) y) e (contains_first (log.Load s k x) l)
load_among (log.Load s k x ∷ l) ts key w (inr h) = contains_later (log.Load s k x) (log.Load ts key w) l (load_among l ts key w h)
load_among (e ∷ l) ts key w h = contains_later e (log.Load ts key w) l (load_among l ts key w h)
