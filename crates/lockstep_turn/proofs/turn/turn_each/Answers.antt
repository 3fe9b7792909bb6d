-- One fault more has turned.
use Rattle.std.proofs.Common.{arith}
use Rattle.phase_faults.proofs.Lists.{changed-all, changed-length, changed-more, changed-none, unchanged-holds}
use Rattle.lockstep_turn.specs.Turning.{MayTurnBeside, TurnsBeside}
use Rattle.lockstep_turn.proofs.turn.turn_each.Goals as goal

pub faults-init : goal.faults-init
faults-init g c = changed-none (TurnsBeside c.args.now c.args.good.now) c.args.faults.now.items

pub index_mut-each-requires : goal.index_mut-each-requires
index_mut-each-requires g c =
    let same = changed-length (TurnsBeside c.args.now c.args.good.now) c.faults.place c.args.faults.now.items c.faults.faults.items c.faults.invariant in
    omega (arith, c.faults-test.true, c.len-place-end.ensures, same)

pub turn_fault-requires-clause-there : goal.turn_fault-requires-clause-there
turn_fault-requires-clause-there g c κs within =
    unchanged-holds (TurnsBeside c.args.now c.args.good.now) (MayTurnBeside g.N.World.design) c.faults.place c.args.faults.now.items c.faults.faults.items c.index_mut-each.result.now
    c.faults.invariant c.requires.there (omega (arith, c.faults-test.true, c.len-place-end.ensures)) c.index_mut-each.ensures.value

pub faults-preserved : goal.faults-preserved
faults-preserved g c =
    changed-more (TurnsBeside c.args.now c.args.good.now) c.faults.place c.args.faults.now.items c.faults.faults.items c.index_mut-each.result.now c.turn_fault.new.each c.faults.invariant
    (omega (arith, c.faults-test.true, c.len-place-end.ensures)) c.index_mut-each.ensures.value c.in_ok-turn_fault.ensures

pub returns : goal.returns
returns g c =
    changed-all (TurnsBeside c.args.now c.args.good.now) c.faults.place c.args.faults.now.items c.faults.faults.items c.faults.invariant
    (omega (arith, c.faults-test.false, c.len-place-end.ensures))
