-- Where a put is laid.
use Rattle.std.proofs.Common.{◌≡◌, ◌≤◌, ◌⊎◌, ℕ, Bool, true, false, List, Option, None, Some, inl, inr, refl, sym, ap, subst, ◌∙◌, arith}
use Rattle.closed_ts.specs.Targets.{at_wall}
use Rattle.mr_base.specs.Timestamps.{IsBelow, later}
use Rattle.mr_base.specs.declared.ids.AttemptId.{AttemptId}
use Rattle.mr_base.specs.declared.timestamps.Ts.{Ts}
use Rattle.mvcc_range.specs.Lookups.{IsNewestTs, IsVersionTs}
use Rattle.range_log.specs.Facts.{HasIntent, Laid, closed_of}
use Rattle.range_log.specs.declared.entries.Entry.{Entry}
use Rattle.range_rules.specs.Puts.{IsInTheWay, just_above}
use Rattle.range_server.proofs.OrderLemmas.{IsUpTo, later_left, later_one, later_right, not_below_up_to, up_to_not_below, up_to_trans}
use Rattle.range_server.specs.Puts.{IsPutOf}
use Rattle.range_server.specs.Ways.{IsFloor, IsMoved, with_newest}

module _ (high : Ts) (is_global : Bool) (ahead : ℕ) (key : List ℕ) (entries : List Entry) where
  abbrev InWay : Ts → Type 0
  InWay f = IsInTheWay (λ read. read ≡ high) entries key is_global ahead f

  -- the greatest of what was read, closed and written
  pub record IsBase (f : Ts) : Type 0 where
    pub one : InWay f
    pub read : IsUpTo high f
    pub closed : IsUpTo (closed_of entries) f
    pub versions : (version : Ts) → IsVersionTs entries key version → IsUpTo version f

  pub base_of : (newest : Option Ts) → IsNewestTs entries key newest → IsBase (with_newest (later high (closed_of entries)) newest)
  base_of None none =
      record {
        one = later_one InWay high (closed_of entries) (inl refl) (inr (inl refl));
        read = later_left high (closed_of entries);
        closed = later_right high (closed_of entries);
        versions = λ version h. absurd (none version h);
      }
  base_of (Some ts) (is, greatest) =
      let below = later high (closed_of entries) in
      record {
        one = later_one InWay below ts (later_one InWay high (closed_of entries) (inl refl) (inr (inl refl))) (inr (inr (inl is)));
        read = up_to_trans high below (later below ts) (later_left high (closed_of entries)) (later_left below ts);
        closed = up_to_trans (closed_of entries) below (later below ts) (later_right high (closed_of entries)) (later_left below ts);
        versions = λ version h. up_to_trans version ts (later below ts) (not_below_up_to version ts (greatest version h)) (later_right below ts);
      }

  pub based : (h closed read floor : Ts) (newest : Option Ts) → h ≡ high → closed ≡ closed_of entries → read ≡ later h closed
      → floor ≡ with_newest read newest → IsNewestTs entries key newest → IsBase floor
  based h closed read floor newest a b c d n =
      let whole : floor ≡ with_newest (later high (closed_of entries)) newest
      = d ∙ ap (λ (t : Ts). with_newest t newest) (c ∙ ap (λ (x : Ts). later x closed) a ∙ ap (λ (x : Ts). later high x) b) in
      subst (λ (x : Ts). IsBase x) (sym whole) (base_of newest n)

  pub floor_here : is_global ≡ false → (f : Ts) → IsBase f → IsFloor high is_global ahead key entries f
  floor_here here f b =
      record {
        one = b.one;
        read = up_to_not_below high f b.read;
        closed = up_to_not_below (closed_of entries) f b.closed;
        versions = λ version h. up_to_not_below version f (b.versions version h);
        lead = λ g. absurd (let no : ⊥ = cc in no);
      }

  pub floor_ahead : is_global ≡ true → (f : Ts) → IsBase f → IsFloor high is_global ahead key entries (later f (at_wall ahead))
  floor_ahead g f b =
      let to = later f (at_wall ahead) in
      let up = later_left f (at_wall ahead) in
      record {
        one = later_one InWay f (at_wall ahead) b.one (inr (inr (inr (g, refl))));
        read = up_to_not_below high to (up_to_trans high f to b.read up);
        closed = up_to_not_below (closed_of entries) to (up_to_trans (closed_of entries) f to b.closed up);
        versions = λ version h. up_to_not_below version to (up_to_trans version f to (b.versions version h) up);
        lead = λ _. wall_up to (later_right f (at_wall ahead));
      }
    where
      wall_up : (to : Ts) → IsUpTo (at_wall ahead) to → ahead ≤ to.wall
      wall_up to h = grind arith

  moved_up : (asked f ts : Ts) (attempt : AttemptId) → IsMoved asked f attempt ts → IsUpTo f ts
  moved_up asked f ts attempt (inl (not_below, e)) = rw e (not_below_up_to f asked not_below)
  moved_up asked f ts attempt (inr (below, e)) = rw e (up_just f)
    where
      up_just : (f : Ts) → IsUpTo f (just_above f attempt)
      up_just f = inr (refl, inl (omega arith))

  wall_of : (a b : Ts) → IsUpTo a b → a.wall ≤ b.wall
  wall_of a b h = grind arith

  pub put_is : (asked f : Ts) (laid : Laid) → IsFloor high is_global ahead key entries f → IsMoved asked f laid.attempt laid.ts
      → ((i : Laid) → HasIntent key i entries → i.attempt ≡ laid.attempt) → IsPutOf high is_global ahead asked key laid entries
  put_is asked f laid floor moved alone =
      let up = moved_up asked f laid.ts laid.attempt moved in
      let above : (t : Ts) → ¬ IsBelow f t → ¬ IsBelow laid.ts t
      = λ t h. up_to_not_below t laid.ts (up_to_trans t f laid.ts (not_below_up_to t f h) up)
      in
      record {
        placed = record {
          alone = alone;
          at = at_of moved;
          lead = λ g. omega (arith, floor.lead g, wall_of f laid.ts up);
        };
        not_below = record {
          closed = above (closed_of entries) floor.closed;
          versions = λ version h. above version (floor.versions version h);
        };
        not_read = above high floor.read;
      }
    where
      at_of : IsMoved asked f laid.attempt laid.ts
          → (laid.ts ≡ asked) ⊎ ((g : Ts) × InWay g × IsBelow asked g × (laid.ts ≡ just_above g laid.attempt))
      at_of (inl (not_below, e)) = inl e
      at_of (inr (below, e)) = inr (f, floor.one, below, e)
