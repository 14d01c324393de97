use Rattle.std.proofs.Common.{◌≡◌, ◌∙◌, ◌++◌, ◌∷◌, ◌+◌, List, [], refl, sym, ap, ap₂, subst, map, get_or, length}
use Rattle.std.specs.Vec.{with_items}
use Rattle.mr_base.specs.declared.ids.RangeId.{RangeId}
use Rattle.node_states.specs.declared.states.NodeState.{NodeState}
use Rattle.range_log.specs.Facts.{lease_of}
use Rattle.range_log.specs.LogValue.{LogValue}
use Rattle.range_replicas.specs.Beginning.{BeginsWith}
use Rattle.replica_states.proofs.MakingLemmas.{first_item, making_next}
use Rattle.replica_states.specs.FirstRange.{boot_in, first_wall}
use Rattle.replica_states.specs.Making.{IsMaking}
use Rattle.run_words.specs.History.{History}
use Rattle.cluster_state.proofs.MakingLemmas.{one_longer, range_made, range_number, with_range}
use Rattle.cluster_state.proofs.Written.{made_entry, written}
use Rattle.cluster_state.specs.Tied.{IsTiedTo, past, the_setup}
use Rattle.cluster_state.proofs.state.State.make_range.Goals as goal

pushed : (c : goal.After-write) → c.push.new.self.items ≡ c.args.self.now.ranges.items ++ c.in_ok-range.range ∷ []
pushed c = c.in_ok-push.ensures.items

planned_at : (c : goal.After-write) → c.index-as_slice-place.result ≡ get_or c.args.self.now.stage.ranges (length c.args.self.now.ranges.items) c.index-as_slice-place.result
planned_at c = c.index-as_slice-place.is ∙ ap₂ (λ xs k. get_or xs k c.index-as_slice-place.result) c.as_slice.ensures c.requires.next

pub returns-clause-made : goal.returns-clause-made
returns-clause-made c =
    record {
      range = c.number-number.result;
      lease = c.lease-lease.result;
      made = made_entry c.args.self.now (with_range c.args.self.now c.push.new.self (with_items c.args.self.now.hints c.add_first.new.hints)) refl c.reserve.new.self c.write.new.self _ _ c.in_ok-reserve.ensures.history c.write.ensures
          (subst (λ (j : RangeId). IsTiedTo (first_item j c.lease-lease.result ∷ past c.args.self.now) (with_range c.args.self.now c.push.new.self (with_items c.args.self.now.hints c.add_first.new.hints))) (sym c.number-number.ensures)
          (range_made c.args.self.now c.push.new.self (with_items c.args.self.now.hints c.add_first.new.hints) c.index-as_slice-place.result (record { wall = 0; logical = 0; owner = 0 }) c.in_ok-range.range c.lease-lease.result refl c.requires.tied c.requires.making c.requires.within (planned_at c)
          (record {
            planned_is = c.in_ok-range.ensures.planned;
            boots = c.in_ok-range.ensures.boots ∙ ap (λ (ns : List NodeState). map (boot_in ns) (c.index-as_slice-place.result.voters ++ c.index-as_slice-place.result.others)) c.as_slice-2.ensures.value;
            first = subst (λ (ns : List NodeState). BeginsWith c.index-as_slice-place.result.voters (map (boot_in ns) (c.index-as_slice-place.result.voters ++ c.index-as_slice-place.result.others)) (first_wall ns c.index-as_slice-place.result.voters)
                c.args.self.now.stage.settings.lease (record { wall = 0; logical = 0; owner = 0 }) c.in_ok-range.range.log.entries) c.as_slice-2.ensures.value c.in_ok-range.ensures.first;
            begun = c.in_ok-range.ensures.begun;
            sound = c.in_ok-range.ensures.sound;
            last = ap (λ (l : LogValue). lease_of l.entries) (sym c.log.ensures) ∙ c.lease-lease.ensures;
          }) (pushed c)));
      count = one_longer c.args.self.now.ranges.items c.push.new.self.items c.in_ok-range.range (pushed c);
      making = subst (λ (h : History). IsMaking (the_setup c.args.self.now) h (length c.args.self.now.ranges.items + 1)) (sym (written c.args.self.now.ledger c.reserve.new.self c.write.new.self _ _ c.in_ok-reserve.ensures.history c.write.ensures))
          (making_next (the_setup c.args.self.now) (past c.args.self.now) (length c.args.self.now.ranges.items) c.number-number.result c.lease-lease.result c.requires.making
          (ap (λ (j : RangeId). j.0) c.number-number.ensures ∙ range_number c.args.self.now c.index-as_slice-place.result c.in_ok-range.range c.in_ok-range.ensures.planned c.requires.tied c.requires.within (planned_at c)));
    }
