use Rattle.std.proofs.Common.{rules, ◌<◌, ◌≡◌, List, ℕ, [], ◌∷◌, ◌++◌, length, ap, sym, ◌∙◌}
use Rattle.std.specs.Map.{lookup}
use Rattle.std.specs.Str.{bytes_eq}
use Rattle.scenario.specs.NamePlaces.{place_of}
use Rattle.scenario.proofs.NameLookups.{few_more, lookup-numbered, pushed_with_place}
use Rattle.scenario.proofs.txn_names.TxnNames.push.Goals as goal

pub insert-requires : goal.insert-requires
insert-requires c = record {
  absent = ap (λ (key : List ℕ). lookup (bytes_eq key) c.self.inside.places) c.as_slice.ensures ∙ ap (lookup (bytes_eq c.args.name)) c.self.invariant.0
      ∙ lookup-numbered (bytes_eq c.args.name) 0 c.self.inside.names.items ∙ ap (λ (names : List (List ℕ)). place_of names c.args.name) c.self.view_is ∙ c.requires.absent;
}

pub invariant_of-self-2 : goal.invariant_of-self-2
invariant_of-self-2 c =
    let small : c.args.place < 4294967296 = search rules in
    let items : c.push.new.self.items ≡ c.self.inside.names.items ++ c.args.name ∷ [] = cc (c.in-Ok.ensures.items, c.in_ok-reserve.ensures.items) in (
      pushed_with_place c.self.inside.places c.insert.new.self c.self.inside.names.items c.push.new.self.items c.args.name c.as_slice.result.now c.args.place
          c.self.invariant.0 c.in_ok-insert.ensures.ok c.as_slice.ensures (c.requires.next ∙ ap length (sym c.self.view_is)) items,
      few_more c.self.inside.names.items c.push.new.self.items c.args.self.now c.args.name c.args.place c.self.view_is c.requires.next small items,
    )
