use Rattle.std.proofs.Common.{◌≡◌, ◌++◌, map, take}
use Rattle.causal_monitor.specs.Notes.{noted_access}
use Rattle.trace_window.specs.Occurring.{below}
use Rattle.trace_window.specs.Touched.{touches_in}
use Rattle.trace_window.proofs.list.push_touches.Given as goal

abbrev pub invariant-accesses : goal.invariant-accesses
invariant-accesses l = l.touches.items ≡ l.fn.touches.items ++ below l.objects (touches_in l.moment (map noted_access (take l.noted-index l.accesses)))
