-- A refresh over the keys of its span, one after the other.
use Rattle.std.proofs.Common.{◌≡◌, ◌⊎◌, ℕ, List, [], ◌∷◌, Option, None, Some, inl, inr, refl, sym, subst}
use Rattle.mr_base.proofs.SpanLemmas.{not_below_itself}
use Rattle.mr_base.specs.Spans.{InSpan, IsKeyBelow}
use Rattle.mr_base.specs.declared.timestamps.Ts.{Ts}
use Rattle.mvcc_range.proofs.KeyOrder.{AreKeysOf, AreRising, Has, key_trans}
use Rattle.mvcc_range.proofs.LeastWalk as least
use Rattle.mvcc_range.proofs.ObstacleLemmas.{clear_without}
use Rattle.mvcc_range.proofs.ReadWalk.{nothing_clear, nothing_seen, nothing_stands}
use Rattle.mvcc_range.specs.Answer.{GivesRows, IsClear, IsFirstObstacle, IsUnknown, Read, Sees}
use Rattle.mvcc_range.specs.KeyValue.{KeyValue}
use Rattle.mvcc_range.specs.KeyView.{HasNoUnknown, IsLeast, IsNewerAt, IsTheUnknown, lesser_of}
use Rattle.mvcc_range.specs.Lookups.{laid_as}
use Rattle.mvcc_range.specs.ReadAnswers.{IsRefreshAnswer}
use Rattle.mvcc_range.specs.RefreshAnswer.{IsNewerWrite, later_read}
use Rattle.mvcc_range.specs.Walks.{AllStand, newer_of, refresh_of, unknown_of}
use Rattle.mvcc_range.specs.declared.answers.RefreshAnswer.{RefreshAnswer}
use Rattle.mvcc_range.specs.declared.key_state.Intent.{Intent}
use Rattle.range_log.specs.declared.entries.Entry.{Entry}

module _ (entries : List Entry) (read : Read) (from : Ts) where
  -- from the least so far and the keys that are left to the answer
  abbrev pub RefreshFrom : Option Ts → List (List ℕ) → RefreshAnswer → Type 0
  RefreshFrom found [] answer = answer ≡ newer_of found
  RefreshFrom found (k ∷ ks) answer =
      ((i : Intent) × IsTheUnknown entries read k (Some i) × (answer ≡ unknown_of k i))
      ⊎ (HasNoUnknown entries read k × (o : Option Ts) × IsLeast (IsNewerAt entries read from k) o × RefreshFrom (lesser_of found o) ks answer)

  -- what is so on the way
  record IsSoFar (found : Option Ts) (ks : List (List ℕ)) : Type 0 where
    clear : (key : List ℕ) → InSpan read.span key → HasNoUnknown entries read key ⊎ Has key ks
    inside : (key : List ℕ) → Has key ks → InSpan read.span key
    left : AreRising ks
    newest : least.IsLeastSoFar (IsNewerAt entries read from) read.span found ks

  at_first : (keys : List (List ℕ × KeyValue)) (ks : List (List ℕ)) → AllStand entries keys → AreKeysOf keys read.span ks → IsSoFar None ks
  at_first keys ks stand are = record {
    clear = λ key i. elim (are.whole key i) as (λ _. HasNoUnknown entries read key ⊎ Has key ks) [ inl h ↦ inr h | inr none ↦ inl (nothing_clear entries read key (nothing_stands entries keys key stand none)).0 ];
    inside = are.inside;
    left = are.order;
    newest = least.at_first (IsNewerAt entries read from) read.span keys ks are (λ q none t n. nothing_seen entries read q (nothing_stands entries keys q stand none) n.0.0 n.0.1 n.0.2);
  }

  further : (found o : Option Ts) (k : List ℕ) (ks : List (List ℕ)) → IsSoFar found (k ∷ ks) → HasNoUnknown entries read k → IsLeast (IsNewerAt entries read from k) o → IsSoFar (lesser_of found o) ks
  further found o k ks so none is = record {
    clear = λ key i. elim (so.clear key i) as (λ _. HasNoUnknown entries read key ⊎ Has key ks) [
      | inl h ↦ inl h
      | inr (inl e) ↦ inl (subst (λ (q : List ℕ). HasNoUnknown entries read q) (sym e) none)
      | inr (inr h) ↦ inr h
    ];
    inside = λ key h. so.inside key (inr h);
    left = so.left.1;
    newest = least.further (IsNewerAt entries read from) read.span found o k ks (so.inside k (inl refl)) so.newest is;
  }

  module _ (none : read.limit ≡ None) where
    same_read : read ≡ later_read (refresh_of read from)
    same_read = λ i. record { attempt = read.attempt; span = read.span; at = read.at; limit = none i; known = read.known }

    -- a newer write is one at a key of the span
    to_write : (t : Ts) → least.InAll (IsNewerAt entries read from) read.span t → IsNewerWrite entries (refresh_of read from) t
    to_write t (q, i, n) =
        (n.0.0, subst (λ (r : Read). Sees entries r n.0.0) same_read n.0.1, subst (λ (k : List ℕ). InSpan read.span k) (sym n.0.2) i, n.0.3, n.0.4, n.1)

    from_write : (t : Ts) → IsNewerWrite entries (refresh_of read from) t → least.InAll (IsNewerAt entries read from) read.span t
    from_write t w = (w.0.key, w.2, ((w.0, subst (λ (r : Read). Sees entries r w.0) (sym same_read) w.1, refl, w.3, w.4), w.5))

    is_first : (found : Option Ts) (k : List ℕ) (ks : List (List ℕ)) → IsSoFar found (k ∷ ks) → ¬ IsClear entries read k → IsFirstObstacle entries read k
    is_first found k ks so n = (
      so.inside k (inl refl),
      n,
      λ other i below. elim (so.clear other i) as (λ _. IsClear entries read other) [
        | inl h ↦ clear_without entries read other h none
        | inr (inl e) ↦ absurd (not_below_itself k (subst (λ (q : List ℕ). IsKeyBelow q k) e below))
        | inr (inr h) ↦ absurd (not_below_itself k (key_trans k other k (so.left.0 other h) below))
      ],
    )

    all_clear : (found : Option Ts) → IsSoFar found [] → GivesRows entries read
    all_clear found so key i = clear_without entries read key (passed (so.clear key i)) none
      where
        passed : {P : Type 0} → P ⊎ ⊥ → P
        passed (inl p) = p
        passed (inr n) = absurd n

    ended : (found : Option Ts) → GivesRows entries (later_read (refresh_of read from)) → IsLeast (least.InAll (IsNewerAt entries read from) read.span) found → IsRefreshAnswer entries (refresh_of read from) (newer_of found)
    ended None rows is = (rows, λ t w. is t (from_write t w))
    ended (Some m) rows is = (rows, to_write m is.0, λ t w. is.1 t (from_write t w))

    walked : (found : Option Ts) (ks : List (List ℕ)) (answer : RefreshAnswer) → IsSoFar found ks → RefreshFrom found ks answer → IsRefreshAnswer entries (refresh_of read from) answer
    walked found [] answer so is =
        subst (λ (a : RefreshAnswer). IsRefreshAnswer entries (refresh_of read from) a) (sym is)
        (ended found (subst (λ (r : Read). GivesRows entries r) same_read (all_clear found so)) (least.at_last (IsNewerAt entries read from) read.span found so.newest))
    walked found (k ∷ ks) answer so (inl (i, u, e)) =
        subst (λ (a : RefreshAnswer). IsRefreshAnswer entries (refresh_of read from) a) (sym e) (
          i.ts,
          u.0,
          (
            subst (λ (r : Read). IsFirstObstacle entries r k) same_read (is_first found k ks so (λ clear. clear.0 (laid_as i u.0) u.1)),
            subst (λ (r : Read). IsUnknown entries r k (laid_as i u.0)) same_read u.1,
          ),
        )
    walked found (k ∷ ks) answer so (inr (clear, o, is, rest)) = walked (lesser_of found o) ks answer (further found o k ks so clear is) rest

    -- the answer over the keys of the span is the refresh's
    pub refresh_walked : (keys : List (List ℕ × KeyValue)) (ks : List (List ℕ)) (answer : RefreshAnswer) → AllStand entries keys → AreKeysOf keys read.span ks → RefreshFrom None ks answer →
        IsRefreshAnswer entries (refresh_of read from) answer
    refresh_walked keys ks answer stand are is = walked None ks answer (at_first keys ks stand are) is
