use Rattle.std.proofs.Common.{ℕ, map, take, length}
use Rattle.v_design.specs.PlainDesigns.{design_of}
use Rattle.causal_monitor.specs.Notes.{noted_access}
use Rattle.causal_monitor.specs.Counted.{Adds, held_at}
use Rattle.causal_monitor.proofs.accesses.push_held.Given as goal

abbrev pub invariant-entries : goal.invariant-entries
invariant-entries l = (events : ℕ) →
    Adds (length (design_of l.design).objects) events l.initial.list.items l.list.items (map held_at (take l.noted-index (map noted_access l.held)))
