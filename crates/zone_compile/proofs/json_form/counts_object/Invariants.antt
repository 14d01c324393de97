use Rattle.std.proofs.Common.{◌≡◌, take}
use Rattle.serde_json.specs.View.{members_view}
use Rattle.zone_compile.specs.Json.{counts_members}
use Rattle.zone_compile.proofs.json_form.counts_object.Given as goal

abbrev pub invariant-loop-count : goal.invariant-loop-count
invariant-loop-count l = members_view l.members.entries ≡ counts_members (take l.count-index l.counts)
