-- So many slots begin by the time.
use Rattle.std.proofs.Common.{◌+◌, ◌≤◌}
use Rattle.window_strobes.specs.Slots.{BeginsBy}
use Rattle.window_strobes.proofs.slots.slots_by.Given as goal

abbrev pub invariant-slots : goal.invariant-slots
invariant-slots g l = record {
  fits : l.window.before + l.slot ≤ l.window.through;
  begun : BeginsBy g.N.World.design g.N.World.plan (l.window.before + l.slot) l.time;
}
