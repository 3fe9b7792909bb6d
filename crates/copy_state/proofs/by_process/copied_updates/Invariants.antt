use Rattle.std.proofs.Common.{◌≡◌, take}
use Rattle.copy_state.proofs.by_process.copied_updates.Given as goal

abbrev pub invariant-processes : goal.invariant-processes
invariant-processes l = l.entries.items ≡ take l.own-index l.own-items
