-- Over a stretch up to the least stop, and the block behind it.
use Rattle.std.proofs.Common.{◌≡◌, ◌-◌, ap, ◌∙◌, arith}
use Rattle.std.specs.List.{fold}
use Rattle.lockstep_turn.proofs.slot_laws.Stops.{moments-there, stop-at}
use Rattle.lockstep_turn.specs.phase_faults.Beside.{sooner, sooner_of}
use Rattle.lockstep_turn.proofs.phase_faults.Again.{gone-further, may-again}
use Rattle.lockstep_turn.proofs.phase_faults.Sooner.{least-stops}
use Rattle.lockstep_turn.proofs.phase_faults.Moving.{PhaseLaws, least-stop, over-least, phase-laws}
use Rattle.lockstep_phase.proofs.phase.go_further.Goals as goal

pub pass_until-requires-clause-counts : goal.pass_until-requires-clause-counts
pass_until-requires-clause-counts g c κs within =
    let may = c.requires.may in
    may.counts_are

pub pass_until-requires-clause-target : goal.pass_until-requires-clause-target
pass_until-requires-clause-target g c κs within =
    let design = g.N.World.design in
    let plan = g.N.World.plan in
    let room = c.args.room.now in
    let window = c.args.view.now.window.now in
    let may = c.requires.may in
    let blocks = c.args.view.now.blocks.now in
    let ends = may.ends in
    let more = c.requires.more in
    let laws : PhaseLaws =
    phase-laws c.places_are_told.ensures c.phases_follow.ensures.phases c.blocks_are_told.ensures.end c.blocks_are_told.ensures.join c.steps_go_on.ensures c.limits_tell.ensures
    c.own_steps_go_on.ensures in
    let are = moments-there design plan window.before window.through blocks c.requires.window.blocks_begin c.requires.window.blocks_end c.stands.ensures in
    let least : c.least_stop-least.result ≡ fold sooner_of c.args.end c.args.faults.now.items =
    c.least_stop-least.ensures ∙ ap (fold sooner c.args.end) (c.deref.ensures.value ∙ c.requires.stops) ∙ least-stops c.args.end c.args.end c.args.faults.now.items (omega arith) in
    let stop =
    least-stop laws design plan window.before window.through blocks.moments c.args.end room.runner room.before room.behind room.runner room.before room.behind c.args.time room.counts room.counts
    c.args.faults.now.items may are c.least_stop-least.result least (omega (arith, more)) in
    record {
      number = may.at.number;
      place = may.at.place;
      count = c.least_stop-least.result - room.before.moment;
      room = may.at.room;
      stops =
          stop-at laws.told design plan window.before window.through may.at.number may.at.place room.runner room.before room.behind may.at.room laws.follow laws.rest blocks.moments c.args.end
          c.least_stop-least.result are may.ends stop;
    }

pub take_block-requires-clause-may : goal.take_block-requires-clause-may
take_block-requires-clause-may g c κs within =
    let design = g.N.World.design in
    let plan = g.N.World.plan in
    let room = c.args.room.now in
    let window = c.args.view.now.window.now in
    let may = c.requires.may in
    let blocks = c.args.view.now.blocks.now in
    let ends = may.ends in
    let more = c.requires.more in
    let laws : PhaseLaws =
    phase-laws c.places_are_told.ensures c.phases_follow.ensures.phases c.blocks_are_told.ensures.end c.blocks_are_told.ensures.join c.steps_go_on.ensures c.limits_tell.ensures
    c.own_steps_go_on.ensures in
    let new = c.pass_until.new.room in
    let are = moments-there design plan window.before window.through blocks c.requires.window.blocks_begin c.requires.window.blocks_end c.stands.ensures in
    let least : c.least_stop-least.result ≡ fold sooner_of c.args.end c.args.faults.now.items =
    c.least_stop-least.ensures ∙ ap (fold sooner c.args.end) (c.deref.ensures.value ∙ c.requires.stops) ∙ least-stops c.args.end c.args.end c.args.faults.now.items (omega arith) in
    let gone =
    over-least laws design plan window.before window.through blocks.moments c.args.end room.runner room.before room.behind new.runner new.before new.behind c.args.time room.counts new.counts
    c.args.faults.now.items may are c.least_stop-least.result least (omega (arith, more)) c.in_ok-pass_until.ensures.room c.in_ok-pass_until.ensures.moment c.in_ok-pass_until.ensures.counts in
    may-again design plan window.before window.through blocks.moments c.args.end room.runner room.before room.behind room.counts c.args.faults.now.items new.runner new.before new.behind new.counts c.args.faults.now.items gone c.args.time may

pub take_block-requires-clause-more : goal.take_block-requires-clause-more
take_block-requires-clause-more g c κs within =
    let at = c.in_ok-pass_until.ensures.moment in
    let less = c.if-least-end.true in
    omega (arith, at, less)

pub returns-then-least-end-clause-on : goal.returns-then-least-end-clause-on
returns-then-least-end-clause-on g c =
    let design = g.N.World.design in
    let plan = g.N.World.plan in
    let room = c.args.room.now in
    let window = c.args.view.now.window.now in
    let may = c.requires.may in
    let blocks = c.args.view.now.blocks.now in
    let ends = may.ends in
    let more = c.requires.more in
    let laws : PhaseLaws =
    phase-laws c.places_are_told.ensures c.phases_follow.ensures.phases c.blocks_are_told.ensures.end c.blocks_are_told.ensures.join c.steps_go_on.ensures c.limits_tell.ensures
    c.own_steps_go_on.ensures in
    let new = c.pass_until.new.room in
    let are = moments-there design plan window.before window.through blocks c.requires.window.blocks_begin c.requires.window.blocks_end c.stands.ensures in
    let least : c.least_stop-least.result ≡ fold sooner_of c.args.end c.args.faults.now.items =
    c.least_stop-least.ensures ∙ ap (fold sooner c.args.end) (c.deref.ensures.value ∙ c.requires.stops) ∙ least-stops c.args.end c.args.end c.args.faults.now.items (omega arith) in
    let gone =
    over-least laws design plan window.before window.through blocks.moments c.args.end room.runner room.before room.behind new.runner new.before new.behind c.args.time room.counts new.counts
    c.args.faults.now.items may are c.least_stop-least.result least (omega (arith, more)) c.in_ok-pass_until.ensures.room c.in_ok-pass_until.ensures.moment c.in_ok-pass_until.ensures.counts in
    let last = c.take_block.new.room in
    gone-further design plan window.before window.through blocks.moments c.args.end room.runner room.before room.behind room.counts c.args.faults.now.items new.runner new.before new.behind new.counts c.args.faults.now.items gone last.runner last.before last.behind last.counts c.take_block.new.faults.items
    c.in_ok-take_block.ensures.on

pub returns-then-least-end-clause-more : goal.returns-then-least-end-clause-more
returns-then-least-end-clause-more g c =
    let design = g.N.World.design in
    let plan = g.N.World.plan in
    let room = c.args.room.now in
    let window = c.args.view.now.window.now in
    let may = c.requires.may in
    let blocks = c.args.view.now.blocks.now in
    let ends = may.ends in
    let more = c.requires.more in
    let laws : PhaseLaws =
    phase-laws c.places_are_told.ensures c.phases_follow.ensures.phases c.blocks_are_told.ensures.end c.blocks_are_told.ensures.join c.steps_go_on.ensures c.limits_tell.ensures
    c.own_steps_go_on.ensures in
    let are = moments-there design plan window.before window.through blocks c.requires.window.blocks_begin c.requires.window.blocks_end c.stands.ensures in
    let least : c.least_stop-least.result ≡ fold sooner_of c.args.end c.args.faults.now.items =
    c.least_stop-least.ensures ∙ ap (fold sooner c.args.end) (c.deref.ensures.value ∙ c.requires.stops) ∙ least-stops c.args.end c.args.end c.args.faults.now.items (omega arith) in
    let stop =
    least-stop laws design plan window.before window.through blocks.moments c.args.end room.runner room.before room.behind room.runner room.before room.behind c.args.time room.counts room.counts
    c.args.faults.now.items may are c.least_stop-least.result least (omega (arith, more)) in
    let low = stop.low in
    let at = c.in_ok-pass_until.ensures.moment in
    let rise = c.in_ok-take_block.ensures.more in
    omega (arith, low, at, rise)

pub returns-clause-on : goal.returns-clause-on
returns-clause-on g c =
    let design = g.N.World.design in
    let plan = g.N.World.plan in
    let room = c.args.room.now in
    let window = c.args.view.now.window.now in
    let may = c.requires.may in
    let blocks = c.args.view.now.blocks.now in
    let ends = may.ends in
    let more = c.requires.more in
    let laws : PhaseLaws =
    phase-laws c.places_are_told.ensures c.phases_follow.ensures.phases c.blocks_are_told.ensures.end c.blocks_are_told.ensures.join c.steps_go_on.ensures c.limits_tell.ensures
    c.own_steps_go_on.ensures in
    let new = c.pass_until.new.room in
    let are = moments-there design plan window.before window.through blocks c.requires.window.blocks_begin c.requires.window.blocks_end c.stands.ensures in
    let least : c.least_stop-least.result ≡ fold sooner_of c.args.end c.args.faults.now.items =
    c.least_stop-least.ensures ∙ ap (fold sooner c.args.end) (c.deref.ensures.value ∙ c.requires.stops) ∙ least-stops c.args.end c.args.end c.args.faults.now.items (omega arith) in
    let gone =
    over-least laws design plan window.before window.through blocks.moments c.args.end room.runner room.before room.behind new.runner new.before new.behind c.args.time room.counts new.counts
    c.args.faults.now.items may are c.least_stop-least.result least (omega (arith, more)) c.in_ok-pass_until.ensures.room c.in_ok-pass_until.ensures.moment c.in_ok-pass_until.ensures.counts in
    gone

pub returns-clause-more : goal.returns-clause-more
returns-clause-more g c =
    let more = c.requires.more in
    let at = c.in_ok-pass_until.ensures.moment in
    let past = c.if-least-end.false in
    omega (arith, at, past, more)

pub returns-then-least-end-clause-ticks : goal.returns-then-least-end-clause-ticks
returns-then-least-end-clause-ticks g c = c.in_ok-take_block.ensures.ticks

pub take_block-requires-clause-stops : goal.take_block-requires-clause-stops
take_block-requires-clause-stops g c κs within = c.requires.stops

pub returns-then-least-end-clause-stops : goal.returns-then-least-end-clause-stops
returns-then-least-end-clause-stops g c = c.in_ok-take_block.ensures.stops

pub returns-clause-stops : goal.returns-clause-stops
returns-clause-stops g c = c.requires.stops
