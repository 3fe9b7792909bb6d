-- Block by block.
use Rattle.std.proofs.Common.{◌<◌, refl, sym, subst, ◌∙◌, arith}
use Rattle.lockstep_turn.specs.lockstep_room.Rooms.{AreCounts}
use Rattle.lockstep_turn.specs.slot_laws.Slots.{further}
use Rattle.lockstep_turn.proofs.slot_laws.Further.{way-at, way-behind, way-ends}
use Rattle.lockstep_phase.proofs.pass.pass_until.Goals as goal

pub stretch-init : goal.stretch-init
stretch-init g c = record {
  counts = refl;
  way = λ number place count room stops. record { place = place; count = count; room = room; stops = stops; leads = refl };
}

pub pass_block-requires-clause-counts : goal.pass_block-requires-clause-counts
pass_block-requires-clause-counts g c κs within = subst (AreCounts g.N.World.design) (sym c.stretch.invariant.counts) c.requires.counts

pub pass_block-requires-clause-next : goal.pass_block-requires-clause-next
pass_block-requires-clause-next g c κs within =
    let may = c.requires.target in
    let way = c.stretch.invariant.way may.number may.place may.count may.room may.stops in
    let is = way.stops.until_is in
    let within = way.stops.within in
    let more = c.stretch-test.true in
    let at = c.moment.ensures in
    record { number = may.number; place = way.place; room = way.room; some = omega (arith, is, within, more, at) }

pub stretch-preserved : goal.stretch-preserved
stretch-preserved g c =
    let design = g.N.World.design in
    let plan = g.N.World.plan in
    let window = c.args.view.now.window.now in
    let room = c.stretch.room in
    let new = c.pass_block.new.room in
    record {
      counts = c.in_ok-pass_block.ensures.counts ∙ c.stretch.invariant.counts;
      way = λ number place count at stops.
          let way = c.stretch.invariant.way number place count at stops in
          let is = way.stops.until_is in
          let within = way.stops.within in
          let more = c.stretch-test.true in
          let here = c.moment.ensures in
          let low : room.before.moment < c.args.target = omega (arith, more, here) in
          way-behind c.blocks_are_told.ensures.join design plan window.before window.through number (further count place) c.args.target room.runner new.runner room.before room.behind new.before new.behind
          way low (c.in_ok-pass_block.ensures.over number way.place way.room (omega (arith, is, within, low)));
    }

pub stretch-smaller : goal.stretch-smaller
stretch-smaller g c =
    let may = c.requires.target in
    let way = c.stretch.invariant.way may.number may.place may.count may.room may.stops in
    let is = way.stops.until_is in
    let within = way.stops.within in
    let more = c.stretch-test.true in
    let here = c.moment.ensures in
    let over = c.in_ok-pass_block.ensures.over may.number way.place way.room (omega (arith, is, within, more, here)) in
    let moment = over.moment_is in
    let some = over.whole.some in
    omega (arith, moment, some, more, here)

pub returns-clause-room : goal.returns-clause-room
returns-clause-room g c = λ number place count at stops.
    let window = c.args.view.now.window.now in
    let room = c.stretch.room in
    let past = c.stretch-test.false in
    let here = c.moment.ensures in
    way-ends g.N.World.design g.N.World.plan window.before window.through number (further count place) c.args.target room.runner room.before room.behind
    (c.stretch.invariant.way number place count at stops) (omega (arith, past, here))

pub returns-clause-moment : goal.returns-clause-moment
returns-clause-moment g c =
    let may = c.requires.target in
    let window = c.args.view.now.window.now in
    let room = c.stretch.room in
    let past = c.stretch-test.false in
    let here = c.moment.ensures in
    way-at g.N.World.design g.N.World.plan window.before window.through may.number (further may.count may.place) c.args.target room.runner room.before room.behind
    (c.stretch.invariant.way may.number may.place may.count may.room may.stops) (omega (arith, past, here))

pub returns-clause-counts : goal.returns-clause-counts
returns-clause-counts g c = c.stretch.invariant.counts
