-- What a world tells, as tests on its lists.
use Rattle.std.proofs.Common.{◌≡◌, ℕ, Bool, true, false, List, [], ◌∷◌, get_or, refl, sym, ap, ◌∙◌, arith}
use Rattle.std.specs.Prelude.{◌↔◌, ◌==◌, ◌&&◌, IsTrue, Contains, Option, Some, None, IfSome, IfNone, is_some}
use Rattle.std.specs.List.{list_any}
use Rattle.std.proofs.lemmas.Bool.{eqb-true, eq-eqb}
use Rattle.std.proofs.lemmas.List.Elements.{Contains-append_right}
use Rattle.std.proofs.lemmas.List.Folds.{list_any_at}
use Rattle.std.proofs.lemmas.Map.Views.{Contains-from_any}
use Rattle.mr_base.specs.declared.ids.MsgId.{MsgId}
use Rattle.mr_base.specs.declared.ids.NodeId.{NodeId}
use Rattle.mr_base.specs.declared.ids.RangeId.{RangeId}
use Rattle.mr_base.specs.declared.ids.TxnId.{TxnId}
use Rattle.scenario.specs.Judgements.{is_message, is_range, is_replica, waits}

same_bool : (b c : Bool) → (b ≡ true → c ≡ true) → (c ≡ true → b ≡ true) → b ≡ c
same_bool true c f g = sym (f refl)
same_bool false true f g = g refl
same_bool false false f g = refl

-- what is told of an element of a list is a test on the list, where the test tells elements apart
told : {K : Type 0} (eq : K → K → Bool) → ((x y : K) → eq x y ≡ true → x ≡ y) → ((x y : K) → x ≡ y → eq x y ≡ true) → (b : Bool) (ks : List K) (k : K) → (IsTrue b ↔ Contains ks k) → b ≡ list_any (eq k) ks
told eq exact same b ks k h = same_bool b (list_any (eq k) ks)
    (λ e. let c : Contains ks k = h.0 e in list_any_at (eq k) ks c.0 k c.1 (same k (get_or ks c.0 k) (sym c.2)))
    (λ e. h.1 (Contains-from_any exact k ks e))

both : (a b : Bool) → (a && b) ≡ true → (a ≡ true) × (b ≡ true)
both true b h = (refl, h)
both false b h = (h, cc)

pub exact_message : (x y : MsgId) → is_message x y ≡ true → x ≡ y
exact_message x y e = ap (λ (n : ℕ). let id : MsgId = record { 0 = n } in id) (eqb-true x.0 y.0 e)

pub exact_range : (x y : RangeId) → is_range x y ≡ true → x ≡ y
exact_range x y e = ap (λ (n : ℕ). let id : RangeId = record { 0 = n } in id) (eqb-true x.0 y.0 e)

pub message_told : (b : Bool) (flight : List MsgId) (m : MsgId) → (IsTrue b ↔ Contains flight m) → b ≡ list_any (is_message m) flight
message_told b flight m h = told is_message exact_message (λ x y e. eq-eqb x.0 y.0 (ap (λ (i : MsgId). i.0) e)) b flight m h

pub range_told : (b : Bool) (live : List RangeId) (r : RangeId) → (IsTrue b ↔ Contains live r) → b ≡ list_any (is_range r) live
range_told b live r h = told is_range exact_range (λ x y e. eq-eqb x.0 y.0 (ap (λ (i : RangeId). i.0) e)) b live r h

pub exact_replica : (x y : NodeId × RangeId) → is_replica x y ≡ true → x ≡ y
exact_replica x y e =
    let parts = both (x.0.0 == y.0.0) (x.1.0 == y.1.0) e in
    let n : x.0.0 ≡ y.0.0 = eqb-true x.0.0 y.0.0 parts.0 in
    let r : x.1.0 ≡ y.1.0 = eqb-true x.1.0 y.1.0 parts.1 in
    let p : ℕ → ℕ → NodeId × RangeId = λ a b. (record { 0 = a }, record { 0 = b }) in
    ap (λ (a : ℕ). p a x.1.0) n ∙ ap (λ (b : ℕ). p y.0.0 b) r

same_replica : (x y : NodeId × RangeId) → x ≡ y → is_replica x y ≡ true
same_replica x y e = rw (eq-eqb x.0.0 y.0.0 (ap (λ (p : NodeId × RangeId). p.0.0) e), eq-eqb x.1.0 y.1.0 (ap (λ (p : NodeId × RangeId). p.1.0) e)) refl

pub replica_told : (b : Bool) (replicas : List (NodeId × RangeId)) (n : NodeId) (r : RangeId) → (IsTrue b ↔ Contains replicas (n, r)) → b ≡ list_any (is_replica (n, r)) replicas
replica_told b replicas n r h = told is_replica exact_replica same_replica b replicas (n, r) h

-- a transaction that passes the test waits for something
pub found : (awaited : List (TxnId × MsgId)) (t : TxnId) → list_any (waits t.0) awaited ≡ true → (m : MsgId) × Contains awaited (t, m)
found [] t h = absurd cc
found (p ∷ ps) t h =
    elim (waits t.0 p) as (λ b. waits t.0 p ≡ b → (m : MsgId) × Contains (p ∷ ps) (t, m)) [
      | true ↦ λ e.
          let n : t.0 ≡ p.0.0 = eqb-true t.0 p.0.0 e in
          let same : p ≡ (t, p.1) = ap (λ (k : ℕ). let q : TxnId × MsgId = (record { 0 = k }, p.1) in q) (sym n) in
          (p.1, (0, omega arith, same))
      | false ↦ λ e.
          let rest : list_any (waits t.0) ps ≡ true = rw e at h in
          let r = found ps t rest in
          (r.0, Contains-append_right (p ∷ []) ps (t, r.0) r.1)
    ] refl

waiting : (awaited : List (TxnId × MsgId)) (t : TxnId) (m : MsgId) → Contains awaited (t, m) → list_any (waits t.0) awaited ≡ true
waiting awaited t m c = list_any_at (waits t.0) awaited c.0 (t, m) c.1 (eq-eqb t.0 (get_or awaited c.0 (t, m)).0.0 (ap (λ (p : TxnId × MsgId). p.0.0) (sym c.2)))

pub wait_told : (o : Option MsgId) (awaited : List (TxnId × MsgId)) (t : TxnId) → IfSome o (λ m. Contains awaited (t, m)) → IfNone o ((m : MsgId) → ¬ Contains awaited (t, m)) → is_some o ≡ list_any (waits t.0) awaited
wait_told (Some m) awaited t some none = sym (waiting awaited t m some)
wait_told None awaited t some none = same_bool false (list_any (waits t.0) awaited) (λ e. absurd cc) (λ e. let r = found awaited t e in absurd (none r.0 r.1))
