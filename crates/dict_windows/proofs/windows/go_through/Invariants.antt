-- All stand behind so many windows.
use Rattle.std.proofs.Common.{◌≡◌, ◌-◌, length, true}
use Rattle.copy_laws.specs.Windows.{good_slots}
use Rattle.dict_windows.specs.Faults.{faults_in}
use Rattle.dict_windows.specs.Windows.{RisesBeside, StandsBeside}
use Rattle.dict_windows.proofs.windows.go_through.Given as goal

abbrev pub invariant-windows : goal.invariant-windows
invariant-windows g l = record {
  usable : l.ahead.run.usable ≡ true;
  stands : StandsBeside g.N.World.design g.N.World.plan l.ahead.run.gone l.beside;
  faults : faults_in l.beside.shards.items ≡ faults_in l.initial.beside.shards.items;
  ticks :
      RisesBeside g.N.World.design g.N.World.plan l.initial.ahead.run.ran l.initial.beside.shards.items l.fn.steps l.ahead.run.ran l.beside.shards.items l.steps;
}

abbrev pub decreases-windows : goal.decreases-windows
decreases-windows g l = length (good_slots g.N.World.design g.N.World.plan) - l.ahead.run.gone
