use Rattle.std.specs.Prelude.{ℕ, ◌+◌, ◌==◌, Bool, true, false, if◌then◌else◌, [], ◌∷◌}
use Rattle.mr_base.specs.declared.ids.NodeId.{NodeId}
use Rattle.journal.specs.declared.events.Event.TheVariants as events
use Rattle.std.specs.Option.{option_map_or}
use Rattle.run_words.specs.History.{Item, Ran, History}
use Rattle.run_words.specs.Setup.{Setup, node_of}

-- Which nodes run, and at which boot. (This project's profile.)

abbrev pub is_running_after : Item → NodeId → Bool → Bool
is_running_after (Ran line (events.Stop m)) n old = if m.0 == n.0 then false else old
is_running_after (Ran line (events.Start m)) n old = if m.0 == n.0 then true else old
is_running_after _ n old = old

-- A node runs: it wasn't stopped, or started since.
abbrev pub is_running : Setup → History → NodeId → Bool
is_running setup [] n = option_map_or (λ node. node.runs) (node_of setup n) false
is_running setup (x ∷ h) n = is_running_after x n (is_running setup h n)

abbrev pub boot_after : Item → NodeId → ℕ → ℕ
boot_after (Ran line (events.Start m)) n old = if m.0 == n.0 then old + 1 else old
boot_after _ n old = old

-- The boot of a node: 1 in the beginning of a run, and one more with each start.
abbrev pub boot : Setup → History → NodeId → ℕ
boot setup [] n = option_map_or (λ node. node.boot) (node_of setup n) 1
boot setup (x ∷ h) n = boot_after x n (boot setup h n)
