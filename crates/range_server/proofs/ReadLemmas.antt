-- By what right a server serves.
use Rattle.std.proofs.Common.{◌≡◌, ◌∙◌, ◌↔◌, ℕ, Bool, false, true, IsTrue, List, Option, Some, sym, subst}
use Rattle.closed_ts.specs.Serving.{ServesByClosure, ServesByLease}
use Rattle.mr_base.specs.declared.timestamps.Ts.{Ts}
use Rattle.range_log.specs.Facts.{closed_of, lease_of}
use Rattle.range_log.specs.declared.entries.Entry.{Entry}
use Rattle.range_log.specs.declared.entries.Lease.{Lease}
use Rattle.range_server.specs.Reads.{MayByLease, ServesBy, ServesByNone}
use Rattle.range_server.specs.declared.reads.Right.TheVariants as rights
use Rattle.range_server.specs.declared.standing.Standing.{Standing}

module _ (s : Standing) (entries : List Entry) (lease : Lease) (at : Ts) (limit : Option ℕ) (last : lease_of entries ≡ Some lease)
    (b : Bool) (tested : IsTrue b ↔ ServesByLease lease s.node s.boot at limit) where
  pub right_by_lease : b ≡ true → ServesBy s entries at limit rights.Lease
  right_by_lease h = (lease, last, tested.0 h)

  not_by_lease : b ≡ false → ¬ MayByLease s entries at limit
  not_by_lease h (other, e, serves) =
      let same : other ≡ lease = (let x : Some other ≡ Some lease = sym e ∙ last in cc) in
      let is : b ≡ true = tested.1 (subst (λ (l : Lease). ServesByLease l s.node s.boot at limit) same serves) in
      cc

  module _ (closed : Ts) (is_closed : closed ≡ closed_of entries) (d : Bool) (asked : IsTrue d ↔ ServesByClosure closed at limit) where
    pub right_by_closure : b ≡ false → d ≡ true → ServesBy s entries at limit rights.Closure
    right_by_closure h k = (not_by_lease h, subst (λ (x : Ts). ServesByClosure x at limit) is_closed (asked.0 k))

    pub right_by_none : b ≡ false → d ≡ false → ServesByNone s entries at limit
    right_by_none h k =
        (not_by_lease h, (λ serves. let is : d ≡ true = asked.1 (subst (λ (x : Ts). ServesByClosure x at limit) (sym is_closed) serves) in cc))
