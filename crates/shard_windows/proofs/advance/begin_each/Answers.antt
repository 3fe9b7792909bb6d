-- One fault more came through the window.
use Rattle.std.proofs.Common.{arith}
use Rattle.shard_slots.specs.window_strobes.Strobes.{passed_behind}
use Rattle.shard_slots.specs.copy_window.ShardFaults.{IsShardFault}
use Rattle.shard_slots.specs.window_faults.Steps.{steps_of_fault}
use Rattle.shard_slots.specs.window_faults.Within.{ComesThrough}
use Rattle.shard_slots.proofs.window_faults.Lists.{mixed-all, mixed-more, mixed-none}
use Rattle.shard_windows.proofs.Lists.{changed-all, changed-length, changed-more, changed-none, unchanged-holds}
use Rattle.shard_windows.proofs.advance.begin_each.Goals as goal

pub faults-init : goal.faults-init
faults-init g c = record {
  changed = changed-none (ComesThrough g.N.World.design g.N.World.plan c.args.window.now.through (passed_behind c.args.strobes.now)) c.args.faults.now.items;
  ticks = λ tally.
      (let none = mixed-none (steps_of_fault tally c.args.window.now.before) (steps_of_fault tally c.args.window.now.through) c.args.faults.now.items in
      omega (arith, none));
}

pub index_mut-own-requires : goal.index_mut-own-requires
index_mut-own-requires g c =
    let R = ComesThrough g.N.World.design g.N.World.plan c.args.window.now.through (passed_behind c.args.strobes.now) in
    let same = changed-length R c.faults.place c.args.faults.now.items c.faults.faults.items c.faults.invariant.changed in
    omega (arith, c.faults-test.true, c.len-place-end.ensures, same)

pub begin_one-requires-clause-fault : goal.begin_one-requires-clause-fault
begin_one-requires-clause-fault g c κs within =
    let R = ComesThrough g.N.World.design g.N.World.plan c.args.window.now.through (passed_behind c.args.strobes.now) in
    unchanged-holds R (IsShardFault g.N.World.design g.N.World.plan c.args.window.now.before c.args.strobes.now.passed) c.faults.place c.args.faults.now.items c.faults.faults.items
    c.index_mut-own.result.now c.faults.invariant.changed c.requires.faults (omega (arith, c.faults-test.true, c.len-place-end.ensures)) c.index_mut-own.ensures.value

pub faults-preserved : goal.faults-preserved
faults-preserved g c =
    let R = ComesThrough g.N.World.design g.N.World.plan c.args.window.now.through (passed_behind c.args.strobes.now) in
    let same = changed-length R c.faults.place c.args.faults.now.items c.faults.faults.items c.faults.invariant.changed in
    record {
      changed = changed-more R c.faults.place c.args.faults.now.items c.faults.faults.items c.index_mut-own.result.now c.begin_one.new.own c.faults.invariant.changed
          (omega (arith, c.faults-test.true, c.len-place-end.ensures)) c.index_mut-own.ensures.value c.in_ok-begin_one.ensures.fault;
      ticks = λ tally.
          (let more = mixed-more (steps_of_fault tally c.args.window.now.before) (steps_of_fault tally c.args.window.now.through) c.faults.place c.faults.faults.items c.index_mut-own.result.now
          c.begin_one.new.own (omega (arith, c.faults-test.true, c.len-place-end.ensures, same)) c.index_mut-own.ensures.value in
          let so_far = c.faults.invariant.ticks tally in
          let one = c.in_ok-begin_one.ensures.ticks tally in
          omega (arith, more, so_far, one));
    }

pub returns-clause-faults : goal.returns-clause-faults
returns-clause-faults g c =
    let R = ComesThrough g.N.World.design g.N.World.plan c.args.window.now.through (passed_behind c.args.strobes.now) in
    changed-all R c.faults.place c.args.faults.now.items c.faults.faults.items c.faults.invariant.changed (omega (arith, c.faults-test.false, c.len-place-end.ensures))

pub returns-clause-ticks : goal.returns-clause-ticks
returns-clause-ticks g c tally =
    let R = ComesThrough g.N.World.design g.N.World.plan c.args.window.now.through (passed_behind c.args.strobes.now) in
    let same = changed-length R c.faults.place c.args.faults.now.items c.faults.faults.items c.faults.invariant.changed in
    let all = mixed-all (steps_of_fault tally c.args.window.now.before) (steps_of_fault tally c.args.window.now.through) c.faults.place
    c.faults.faults.items (omega (arith, c.faults-test.false, c.len-place-end.ensures, same)) in
    let so_far = c.faults.invariant.ticks tally in
    omega (arith, all, so_far)
