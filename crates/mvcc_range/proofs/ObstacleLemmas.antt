-- What stands in the way of a read at a key.
use Rattle.std.proofs.Common.{◌≡◌, ◌<◌, ◌≤◌, ℕ, List, None, Some, sym, ◌∙◌, arith}
use Rattle.mr_base.specs.Timestamps.{IsBelow}
use Rattle.mr_base.specs.declared.timestamps.Ts.{Ts}
use Rattle.mvcc_range.specs.Answer.{IsClear, IsUncertain, Read}
use Rattle.mvcc_range.specs.KeyView.{HasNoUnknown, IsLeast, IsNewerAt, IsSeenAbove}
use Rattle.range_log.specs.declared.entries.Entry.{Entry}

wall_up : (a b : Ts) → ¬ IsBelow b a → a.wall ≤ b.wall
wall_up a b n = grind arith

below_up : (a b c : Ts) → ¬ IsBelow b a → IsBelow b c → IsBelow a c
below_up a b c n l = grind arith

module _ (entries : List Entry) (read : Read) (key : List ℕ) where
  no_limit_same : (limit : ℕ) → read.limit ≡ None → ¬ (read.limit ≡ Some limit)
  no_limit_same limit n is = let no : None ≡ Some limit = sym n ∙ is in cc

  same_limit : (a b : ℕ) → read.limit ≡ Some a → read.limit ≡ Some b → b ≡ a
  same_limit a b x y = let same : Some b ≡ Some a = sym y ∙ x in cc

  -- a read without a limit
  pub clear_without : HasNoUnknown entries read key → read.limit ≡ None → IsClear entries read key
  clear_without n none = (n, λ ts u. no_limit_same u.5 none u.6)

  -- nothing is seen above it
  pub clear_none : HasNoUnknown entries read key → IsLeast (IsSeenAbove entries read read.at key) None → IsClear entries read key
  clear_none n h = (n, λ ts u. h ts (u.0, u.1, u.2, u.3, u.4))

  -- the least that is seen above it is past its limit
  pub clear_past : (limit : ℕ) (least : Ts) → HasNoUnknown entries read key → read.limit ≡ Some limit → IsLeast (IsSeenAbove entries read read.at key) (Some least) → limit < least.wall →
      IsClear entries read key
  clear_past limit least n is h past = (n, λ ts u. let up = wall_up least ts (h.1 ts (u.0, u.1, u.2, u.3, u.4)) in let within = u.7 in let same = same_limit limit u.5 is u.6 in omega arith)

  -- it is within it
  pub uncertain_at : (limit : ℕ) (least : Ts) → read.limit ≡ Some limit → IsLeast (IsSeenAbove entries read read.at key) (Some least) → least.wall ≤ limit →
      IsUncertain entries read key least × ((other : Ts) → IsUncertain entries read key other → ¬ IsBelow other least)
  uncertain_at limit least is h within =
      ((h.0.0, h.0.1, h.0.2, h.0.3, h.0.4, limit, is, within), λ other u. h.1 other (u.0, u.1, u.2, u.3, u.4))

  -- the least that is seen above another is below the read, or isn't
  pub newer_as : (from least : Ts) → IsLeast (IsSeenAbove entries read from key) (Some least) → IsBelow least read.at → IsLeast (IsNewerAt entries read from key) (Some least)
  newer_as from least h b = ((h.0, b), λ other n. h.1 other n.0)

  pub newer_past : (from least : Ts) → IsLeast (IsSeenAbove entries read from key) (Some least) → ¬ IsBelow least read.at → IsLeast (IsNewerAt entries read from key) None
  newer_past from least h past = λ other n. past (below_up least other read.at (h.1 other n.0) n.1)

  pub newer_none : (from : Ts) → IsLeast (IsSeenAbove entries read from key) None → IsLeast (IsNewerAt entries read from key) None
  newer_none from h = λ other n. h other n.0
