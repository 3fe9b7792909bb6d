-- Stretch by stretch and block by block.
use Rattle.std.proofs.Common.{◌-◌, arith}
use Rattle.lockstep_turn.proofs.phase_faults.Again.{gone-further, gone-nowhere, may-again}
use Rattle.lockstep_phase.proofs.phase.go_to_end.Goals as goal

pub moments-init : goal.moments-init
moments-init g c =
    let design = g.N.World.design in
    let plan = g.N.World.plan in
    let room = c.args.room.now in
    let window = c.args.view.now.window.now in
    let may = c.requires.may in
    record {
      on =
          gone-nowhere design plan window.before window.through c.args.view.now.blocks.now.moments c.args.end room.runner room.before room.behind room.counts c.args.faults.now.items c.args.time may;
      stops = c.requires.stops;
      ticks = omega arith;
    }

pub go_further-requires-clause-may : goal.go_further-requires-clause-may
go_further-requires-clause-may g c κs within =
    let design = g.N.World.design in
    let plan = g.N.World.plan in
    let room = c.args.room.now in
    let window = c.args.view.now.window.now in
    let may = c.requires.may in
    may-again design plan window.before window.through c.args.view.now.blocks.now.moments c.args.end room.runner room.before room.behind room.counts c.args.faults.now.items c.moments.room.runner c.moments.room.before c.moments.room.behind c.moments.room.counts c.moments.faults.items c.moments.invariant.on c.args.time may

pub go_further-requires-clause-stops : goal.go_further-requires-clause-stops
go_further-requires-clause-stops g c κs within = c.moments.invariant.stops

pub go_further-requires-clause-more : goal.go_further-requires-clause-more
go_further-requires-clause-more g c κs within =
    let less = c.moments-test.true in
    let at = c.moment.ensures in
    omega (arith, less, at)

pub moments-preserved : goal.moments-preserved
moments-preserved g c =
    let design = g.N.World.design in
    let plan = g.N.World.plan in
    let room = c.args.room.now in
    let window = c.args.view.now.window.now in
    let new = c.go_further.new.room in
    let so_far = c.moments.invariant.ticks in
    let rises = c.in_ok-go_further.ensures.ticks in
    record {
      on =
          gone-further design plan window.before window.through c.args.view.now.blocks.now.moments c.args.end room.runner room.before room.behind room.counts c.args.faults.now.items c.moments.room.runner c.moments.room.before c.moments.room.behind c.moments.room.counts c.moments.faults.items c.moments.invariant.on new.runner new.before new.behind new.counts c.go_further.new.faults.items c.in_ok-go_further.ensures.on;
      stops = c.in_ok-go_further.ensures.stops;
      ticks = omega (arith, so_far, rises);
    }

pub moments-smaller : goal.moments-smaller
moments-smaller g c =
    let less = c.moments-test.true in
    let at = c.moment.ensures in
    let rise = c.in_ok-go_further.ensures.more in
    omega (arith, less, at, rise)

pub returns-clause-on : goal.returns-clause-on
returns-clause-on g c =
    c.moments.invariant.on

pub returns-clause-past : goal.returns-clause-past
returns-clause-past g c =
    let past = c.moments-test.false in
    let at = c.moment.ensures in
    omega (arith, past, at)

pub returns-clause-ticks : goal.returns-clause-ticks
returns-clause-ticks g c = c.moments.invariant.ticks
