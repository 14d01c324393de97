use Rattle.std.proofs.Common.{ℕ, List, ◌<◌, length, arith, subst, sym}
use Rattle.std.specs.Prelude.{IsUtf8}
use Rattle.zone_compile.proofs.json_form.counts_object.Goals as goal

pub put_count-requires : goal.put_count-requires
put_count-requires c =
    let P : (List ℕ × ℕ) → Type 0 = λ x. IsUtf8 x.0 in
    let within : c.loop-count.count-index < length c.args.counts.now = omega arith in
    subst P (sym c.count-item.is) (c.requires c.loop-count.count-index c.count-item.result within)
