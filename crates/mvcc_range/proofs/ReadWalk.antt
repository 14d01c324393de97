-- A read over the keys of its span, one after the other.
use Rattle.std.proofs.Common.{◌≡◌, ◌⊎◌, ℕ, List, [], ◌∷◌, ◌++◌, Option, None, Some, All, Contains, inl, inr, refl, sym, subst, ap, arith, ◌∙◌}
use Rattle.std.proofs.lemmas.List.Elements.{All-head, All-nil, All-push, All-tail, All-weaker, Contains-append_left, Contains-push, Contains-push_cases}
use Rattle.std.specs.Borrow.{Bor}
use Rattle.mr_base.proofs.SpanLemmas.{not_below_itself}
use Rattle.mr_base.specs.Spans.{InSpan, IsKeyBelow}
use Rattle.mr_base.specs.declared.spans.Pair.{Pair}
use Rattle.mvcc_range.proofs.KeyOrder.{AreKeysOf, AreRising, Has, key_trans}
use Rattle.mvcc_range.proofs.OtherLemmas.{none_other}
use Rattle.mvcc_range.proofs.RowLemmas.{one_row}
use Rattle.mvcc_range.proofs.SeenLemmas.{to_seen}
use Rattle.mvcc_range.specs.Answer.{IsClear, IsFirstObstacle, IsRow, Read, Sees}
use Rattle.mvcc_range.specs.KeyFacts.{kept_at, nothing, state_in}
use Rattle.mvcc_range.specs.KeyValue.{KeyValue}
use Rattle.mvcc_range.specs.KeyView.{IsObstacleAt, IsTheRow, Stands}
use Rattle.mvcc_range.specs.Lookups.{laid_as}
use Rattle.mvcc_range.specs.ReadAnswers.{AreInKeyOrder, IsReadAnswer, pair_of}
use Rattle.mvcc_range.specs.Walks.{AllStand, answer_of, pairs_of}
use Rattle.mvcc_range.specs.declared.answers.ReadAnswer.{ReadAnswer}
use Rattle.mvcc_range.specs.declared.answers.ReadAnswer.TheVariants as reads
use Rattle.mvcc_range.specs.declared.key_view.Obstacle.{Obstacle}
use Rattle.mvcc_range.specs.declared.key_view.Obstacle.TheVariants as obstacles
use Rattle.range_log.specs.Facts.{Version}
use Rattle.range_log.specs.declared.entries.Entry.{Entry}

-- at a key at which nothing is kept nothing is seen
module _ (entries : List Entry) (read : Read) (key : List ℕ) (st : Stands entries key nothing) where
  pub nothing_seen : (v : Version) → Sees entries read v → ¬ (v.key ≡ key)
  nothing_seen v sees k = elim (to_seen entries read key nothing st v sees k) [
    | inl h ↦ let is : None ≡ Some v.value = h in cc
    | inr h ↦ none_other entries read key st.intent h.1 h.2.0
  ]

  pub nothing_clear : IsClear entries read key
  nothing_clear = (λ i u. none_other entries read key st.intent i (u.0, u.1, u.2), λ ts u. nothing_seen u.0 u.1 u.2)

  pub nothing_row : (value : List ℕ) → ¬ IsRow entries read key value
  nothing_row value row = nothing_seen (record { key = key; ts = row.0; value = Some value }) row.1.seen refl

pub nothing_stands : (entries : List Entry) (keys : List (List ℕ × KeyValue)) (key : List ℕ) → AllStand entries keys → kept_at key keys ≡ None → Stands entries key nothing
nothing_stands entries keys key stand none = subst (λ (o : Option KeyValue). Stands entries key (state_in o)) none (stand key)

-- one pair more in key order
order_push : (ps : List Pair) (p : Pair) → AreInKeyOrder ps → All (λ q. IsKeyBelow q.key p.key) ps → AreInKeyOrder (ps ++ p ∷ [])
order_push [] p o a = (All-nil (λ (q : Pair). IsKeyBelow p.key q.key), tt)
order_push (q ∷ qs) p o a =
    (All-push (λ (r : Pair). IsKeyBelow q.key r.key) qs p o.0 (All-head (λ (r : Pair). IsKeyBelow r.key p.key) q qs a), order_push qs p o.1 (All-tail (λ (r : Pair). IsKeyBelow r.key p.key) q qs a))

none_contained : (p : Pair) → ¬ Contains [] p
none_contained p (k, l, e) = absurd (omega (arith, l))

append_nil : (ps : List Pair) → ps ++ [] ≡ ps
append_nil [] = refl
append_nil (p ∷ ps) = ap (λ (more : List Pair). p ∷ more) (append_nil ps)

module _ (entries : List Entry) (read : Read) where
  -- from the rows so far and the keys that are left to the answer
  abbrev pub AnswerFrom : List Pair → List (List ℕ) → ReadAnswer → Type 0
  AnswerFrom rows [] answer = answer ≡ reads.Rows rows
  AnswerFrom rows (k ∷ ks) answer =
      ((o : Obstacle) × IsObstacleAt entries read k o × (answer ≡ answer_of k o))
      ⊎ (IsClear entries read k × (v : Option (Bor (List ℕ))) × IsTheRow entries read k v × AnswerFrom (rows ++ pairs_of k v) ks answer)

  -- what is so on the way
  record IsSoFar (rows : List Pair) (ks : List (List ℕ)) : Type 0 where
    sound : (key value : List ℕ) → Contains rows (pair_of key value) → InSpan read.span key × IsRow entries read key value
    complete : (key value : List ℕ) → InSpan read.span key → IsRow entries read key value → Contains rows (pair_of key value) ⊎ Has key ks
    clear : (key : List ℕ) → InSpan read.span key → IsClear entries read key ⊎ Has key ks
    inside : (key : List ℕ) → Has key ks → InSpan read.span key
    left : AreRising ks
    order : AreInKeyOrder rows
    below : All (λ p. (key : List ℕ) → Has key ks → IsKeyBelow p.key key) rows

  at_first : (keys : List (List ℕ × KeyValue)) (ks : List (List ℕ)) → AllStand entries keys → AreKeysOf keys read.span ks → IsSoFar [] ks
  at_first keys ks stand are = record {
    sound = λ key value h. absurd (none_contained (pair_of key value) h);
    complete = λ key value i row. elim (are.whole key i) as (λ _. Contains [] (pair_of key value) ⊎ Has key ks) [ inl h ↦ inr h | inr none ↦ absurd (nothing_row entries read key (nothing_stands entries keys key stand none) value row) ];
    clear = λ key i. elim (are.whole key i) as (λ _. IsClear entries read key ⊎ Has key ks) [ inl h ↦ inr h | inr none ↦ inl (nothing_clear entries read key (nothing_stands entries keys key stand none)) ];
    inside = are.inside;
    left = are.order;
    order = tt;
    below = All-nil (λ (p : Pair). (key : List ℕ) → Has key ks → IsKeyBelow p.key key);
  }

  -- a clear key further
  further : (rows : List Pair) (k : List ℕ) (ks : List (List ℕ)) → IsSoFar rows (k ∷ ks) → IsClear entries read k → (v : Option (Bor (List ℕ))) → IsTheRow entries read k v → IsSoFar (rows ++ pairs_of k v) ks
  further rows k ks so clear None row = subst (λ (ps : List Pair). IsSoFar ps ks) (sym (append_nil rows)) (record {
    sound = so.sound;
    complete = λ key value i is. elim (so.complete key value i is) as (λ _. Contains rows (pair_of key value) ⊎ Has key ks) [
      | inl h ↦ inl h
      | inr (inl e) ↦ absurd (row value (subst (λ (q : List ℕ). IsRow entries read q value) e is))
      | inr (inr h) ↦ inr h
    ];
    clear = λ key i. elim (so.clear key i) as (λ _. IsClear entries read key ⊎ Has key ks) [
      | inl h ↦ inl h
      | inr (inl e) ↦ inl (subst (λ (q : List ℕ). IsClear entries read q) (sym e) clear)
      | inr (inr h) ↦ inr h
    ];
    inside = λ key h. so.inside key (inr h);
    left = so.left.1;
    order = so.order;
    below = All-weaker (λ (p : Pair). (key : List ℕ) → Has key (k ∷ ks) → IsKeyBelow p.key key) (λ (p : Pair). (key : List ℕ) → Has key ks → IsKeyBelow p.key key) (λ p h key t. h key (inr t)) rows so.below;
  })
  further rows k ks so clear (Some v) row = record {
    sound = λ key value h. elim (Contains-push_cases rows (pair_of k v.now) (pair_of key value) h) as (λ _. InSpan read.span key × IsRow entries read key value) [
      | inl old ↦ so.sound key value old
      | inr e ↦ (
        subst (λ (p : Pair). InSpan read.span p.key) e (so.inside k (inl refl)),
        subst (λ (p : Pair). IsRow entries read p.key p.value) e row,
      )
    ];
    complete = λ key value i is. elim (so.complete key value i is) as (λ _. Contains (rows ++ pair_of k v.now ∷ []) (pair_of key value) ⊎ Has key ks) [
      | inl h ↦ inl (Contains-append_left rows (pair_of k v.now ∷ []) (pair_of key value) h)
      | inr (inl e) ↦
          let here : IsRow entries read k value = subst (λ (q : List ℕ). IsRow entries read q value) e is in
          let same : pair_of k v.now ≡ pair_of key value = ap (pair_of k) (one_row entries read k v.now value row here) ∙ ap (λ (q : List ℕ). pair_of q value) (sym e) in
          inl (subst (λ (p : Pair). Contains (rows ++ pair_of k v.now ∷ []) p) same (Contains-push rows (pair_of k v.now)))
      | inr (inr h) ↦ inr h
    ];
    clear = λ key i. elim (so.clear key i) as (λ _. IsClear entries read key ⊎ Has key ks) [
      | inl h ↦ inl h
      | inr (inl e) ↦ inl (subst (λ (q : List ℕ). IsClear entries read q) (sym e) clear)
      | inr (inr h) ↦ inr h
    ];
    inside = λ key h. so.inside key (inr h);
    left = so.left.1;
    order = order_push rows (pair_of k v.now) so.order (All-weaker (λ (p : Pair). (key : List ℕ) → Has key (k ∷ ks) → IsKeyBelow p.key key) (λ (p : Pair). IsKeyBelow p.key k) (λ p h. h k (inl refl)) rows so.below);
    below = All-push (λ (p : Pair). (key : List ℕ) → Has key ks → IsKeyBelow p.key key) rows (pair_of k v.now)
        (All-weaker (λ (p : Pair). (key : List ℕ) → Has key (k ∷ ks) → IsKeyBelow p.key key) (λ (p : Pair). (key : List ℕ) → Has key ks → IsKeyBelow p.key key) (λ p h key t. h key (inr t)) rows so.below)
        so.left.0;
  }

  -- the first key that is left is the first that isn't clear
  is_first : (rows : List Pair) (k : List ℕ) (ks : List (List ℕ)) → IsSoFar rows (k ∷ ks) → ¬ IsClear entries read k → IsFirstObstacle entries read k
  is_first rows k ks so n = (
    so.inside k (inl refl),
    n,
    λ other i below. elim (so.clear other i) as (λ _. IsClear entries read other) [
      | inl h ↦ h
      | inr (inl e) ↦ absurd (not_below_itself k (subst (λ (q : List ℕ). IsKeyBelow q k) e below))
      | inr (inr h) ↦ absurd (not_below_itself k (key_trans k other k (so.left.0 other h) below))
    ],
  )

  -- an obstacle there is the answer
  met : (k : List ℕ) (o : Obstacle) → IsObstacleAt entries read k o → (¬ IsClear entries read k → IsFirstObstacle entries read k) → IsReadAnswer entries read (answer_of k o)
  met k (obstacles.Unknown i) is first = (i.ts, is.0, (first (λ clear. clear.0 (laid_as i is.0) is.1), is.1))
  met k (obstacles.Uncertain ts) is first = (first (λ clear. clear.1 ts is.1), is.0, is.1, is.2)

  walked : (rows : List Pair) (ks : List (List ℕ)) (answer : ReadAnswer) → IsSoFar rows ks → AnswerFrom rows ks answer → IsReadAnswer entries read answer
  walked rows [] answer so is = subst (λ (a : ReadAnswer). IsReadAnswer entries read a) (sym is) (
    λ key i. all_clear (so.clear key i),
    record { each = λ key value. (λ h. so.sound key value h, λ h. all_there (so.complete key value h.0 h.1)); order = so.order },
  )
    where
      all_clear : {P : Type 0} → P ⊎ ⊥ → P
      all_clear (inl p) = p
      all_clear (inr n) = absurd n

      all_there : {P : Type 0} → P ⊎ ⊥ → P
      all_there (inl p) = p
      all_there (inr n) = absurd n
  walked rows (k ∷ ks) answer so (inl (o, is, e)) = subst (λ (a : ReadAnswer). IsReadAnswer entries read a) (sym e) (met k o is (is_first rows k ks so))
  walked rows (k ∷ ks) answer so (inr (clear, v, row, rest)) = walked (rows ++ pairs_of k v) ks answer (further rows k ks so clear v row) rest

  -- the answer over the keys of the span is the read's
  pub read_walked : (keys : List (List ℕ × KeyValue)) (ks : List (List ℕ)) (answer : ReadAnswer) → AllStand entries keys → AreKeysOf keys read.span ks → AnswerFrom [] ks answer →
      IsReadAnswer entries read answer
  read_walked keys ks answer stand are from = walked [] ks answer (at_first keys ks stand are) from
