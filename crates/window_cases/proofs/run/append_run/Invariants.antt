-- The run may be used.
use Rattle.std.specs.Prelude.{◌≡◌, true}
use Rattle.window_cases.proofs.run.append_run.Given as goal

abbrev pub invariant-windows : goal.invariant-windows
invariant-windows g l = l.run.usable ≡ true
