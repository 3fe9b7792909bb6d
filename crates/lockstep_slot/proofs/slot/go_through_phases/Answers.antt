-- Phase by phase, up to the last one.
use Rattle.std.proofs.Common.{◌+◌, ◌<◌, ◌≤◌, true, false, length, sym, ap, subst, ◌∙◌, arith}
use Rattle.std.specs.List.{list_any}
use Rattle.vf_base.specs.Lists.{AllHold}
use Rattle.lockstep_phase.specs.lockstep_room.Rooms.{AreCounts}
use Rattle.lockstep_phase.specs.slot_laws.Slots.{further}
use Rattle.lockstep_phase.proofs.slot_laws.Rooms.{room-whole}
use Rattle.lockstep_slot.specs.Beside.{KeepsAscending, still_goes}
use Rattle.lockstep_slot.proofs.Begun.{plan-early}
use Rattle.lockstep_slot.proofs.Coming.{all-behind, all-go-on, all-leave, all-sites, all-there, all-turn, first-come, lanes-there, next-come, next-phase-is, room-through, ticked-same}
use Rattle.lockstep_slot.proofs.slot.go_through_phases.Goals as goal

pub overflow_add-phase : goal.overflow_add-phase
overflow_add-phase g c =
    let all = c.phases.invariant.come.count_is in
    let few = c.ranges.last in
    let at = c.phase.ensures in
    omega (arith, all, few, at)

pub phases-init : goal.phases-init
phases-init g c =
    let window = c.args.view.now.window.now in
    let room = c.args.room.now in
    record {
      counts = c.requires.counts;
      come = first-come g.N.World.design g.N.World.plan window.before window.through c.args.slot c.args.now c.args.last c.args.faults.now.items c.requires.begins c.steps_go_on.ensures
          c.first_slot_goes_on.ensures c.own_steps_go_on.ensures
          c.moments_stand.ensures c.slots_are_counted.ensures (plan-early g.N.World.plan c.plan-plan.result.now c.plan-plan.ensures.world) room.runner room.before room.behind c.requires.at
          c.requires.time c.requires.last;
      ticks = omega arith;
    }

pub all_through_phase-requires-clause-counts : goal.all_through_phase-requires-clause-counts
all_through_phase-requires-clause-counts g c κs within =
    c.phases.invariant.counts

pub all_through_phase-requires-clause-sites : goal.all_through_phase-requires-clause-sites
all_through_phase-requires-clause-sites g c κs within =
    let design = g.N.World.design in
    let plan = g.N.World.plan in
    let window = c.args.view.now.window.now in
    let room = c.phases.room in
    let come = c.phases.invariant.come in
    all-sites design plan window.before window.through c.args.slot c.args.now c.args.last c.args.faults.now.items c.requires.begins room.runner room.before room.behind c.phases.faults.items come
    c.requires.sites

pub all_through_phase-requires-clause-room : goal.all_through_phase-requires-clause-room
all_through_phase-requires-clause-room g c κs within =
    let come = c.phases.invariant.come in
    record { number = c.args.slot; place = come.place; room = come.room }

pub all_through_phase-requires-clause-time : goal.all_through_phase-requires-clause-time
all_through_phase-requires-clause-time g c κs within =
    c.phases.invariant.come.time_is

pub all_through_phase-requires-clause-goes : goal.all_through_phase-requires-clause-goes
all_through_phase-requires-clause-goes g c κs within =
    let design = g.N.World.design in
    let plan = g.N.World.plan in
    let window = c.args.view.now.window.now in
    let room = c.phases.room in
    let come = c.phases.invariant.come in
    all-go-on design plan window.before window.through c.args.slot c.args.now c.args.last c.args.faults.now.items c.requires.begins room.runner room.before room.behind c.phases.faults.items come

pub returns-then-not-some_goes-clause-faults : goal.returns-then-not-some_goes-clause-faults
returns-then-not-some_goes-clause-faults g c =
    let design = g.N.World.design in
    let plan = g.N.World.plan in
    let window = c.args.view.now.window.now in
    let room = c.phases.room in
    let come = c.phases.invariant.come in
    let through = c.all_through_phase.new.room in
    let some = sym (c.some_goes.ensures ∙ ap (list_any still_goes) c.deref.ensures.value) ∙ c.if-not-some_goes.true in
    all-leave design plan window.before window.through c.args.slot c.args.now c.args.last c.args.faults.now.items c.requires.begins room.runner room.before room.behind c.phases.faults.items come
    through.runner through.before through.behind c.all_through_phase.new.faults.items c.in_ok-all_through_phase.ensures.room c.in_ok-all_through_phase.ensures.faults some

pub returns-then-not-some_goes-clause-room : goal.returns-then-not-some_goes-clause-room
returns-then-not-some_goes-clause-room g c =
    let design = g.N.World.design in
    let plan = g.N.World.plan in
    let window = c.args.view.now.window.now in
    let room = c.phases.room in
    let come = c.phases.invariant.come in
    let through = c.all_through_phase.new.room in
    room-whole design plan window.before window.through c.args.slot (further (length come.place.left) come.place) through.runner through.before through.behind through.counts
    (room-through design plan window.before window.through c.args.slot c.args.now c.args.last c.args.faults.now.items c.requires.begins room.runner room.before room.behind c.phases.faults.items come
    through.runner through.before through.behind c.all_through_phase.new.faults.items c.in_ok-all_through_phase.ensures.room c.in_ok-all_through_phase.ensures.faults)
    (subst (AreCounts design) (sym c.in_ok-all_through_phase.ensures.counts) c.phases.invariant.counts)

pub returns-then-not-some_goes-clause-ticks : goal.returns-then-not-some_goes-clause-ticks
returns-then-not-some_goes-clause-ticks g c =
    let before = c.phases.invariant.ticks in
    let phase = c.in_ok-all_through_phase.ensures.ticks in
    omega (arith, before, phase)

pub take_turn-requires-clause-turn : goal.take_turn-requires-clause-turn
take_turn-requires-clause-turn g c κs within =
    let design = g.N.World.design in
    let plan = g.N.World.plan in
    let window = c.args.view.now.window.now in
    let room = c.phases.room in
    let come = c.phases.invariant.come in
    let through = c.all_through_phase.new.room in
    let some = sym (c.some_goes.ensures ∙ ap (list_any still_goes) c.deref.ensures.value) ∙ c.if-not-some_goes.false in
    let test = c.phases-test.true in
    let at = c.phase.ensures in
    let more : room.before.phase + 1 < c.args.last = omega (arith, test, at) in
    all-turn design plan window.before window.through c.args.slot c.args.now c.args.last c.args.faults.now.items c.requires.begins room.runner room.before room.behind c.phases.faults.items come
    through.runner through.before through.behind c.all_through_phase.new.faults.items c.in_ok-all_through_phase.ensures.room c.in_ok-all_through_phase.ensures.faults more some

pub turn_each-requires-clause-lanes : goal.turn_each-requires-clause-lanes
turn_each-requires-clause-lanes g c κs within =
    let design = g.N.World.design in
    let plan = g.N.World.plan in
    let window = c.args.view.now.window.now in
    let room = c.phases.room in
    let come = c.phases.invariant.come in
    let through = c.all_through_phase.new.room in
    let some = sym (c.some_goes.ensures ∙ ap (list_any still_goes) c.deref.ensures.value) ∙ c.if-not-some_goes.false in
    let test = c.phases-test.true in
    let at = c.phase.ensures in
    let more : room.before.phase + 1 < c.args.last = omega (arith, test, at) in
    let turned = c.take_turn.new.room in
    lanes-there design plan window.before window.through c.args.slot c.args.now c.args.last c.args.faults.now.items c.requires.begins room.runner room.before room.behind c.phases.faults.items come
    through.runner through.before through.behind c.all_through_phase.new.faults.items c.in_ok-all_through_phase.ensures.room c.in_ok-all_through_phase.ensures.faults more some turned.runner
    turned.before turned.behind c.in_ok-take_turn.ensures.turns

pub turn_each-requires-clause-there : goal.turn_each-requires-clause-there
turn_each-requires-clause-there g c κs within =
    let design = g.N.World.design in
    let plan = g.N.World.plan in
    let window = c.args.view.now.window.now in
    let room = c.phases.room in
    let come = c.phases.invariant.come in
    let through = c.all_through_phase.new.room in
    let some = sym (c.some_goes.ensures ∙ ap (list_any still_goes) c.deref.ensures.value) ∙ c.if-not-some_goes.false in
    let test = c.phases-test.true in
    let at = c.phase.ensures in
    let more : room.before.phase + 1 < c.args.last = omega (arith, test, at) in
    all-there design plan window.before window.through c.args.slot c.args.now c.args.last c.args.faults.now.items c.requires.begins room.runner room.before room.behind c.phases.faults.items come
    through.runner through.before through.behind c.all_through_phase.new.faults.items c.in_ok-all_through_phase.ensures.room c.in_ok-all_through_phase.ensures.faults more some

pub phases-preserved : goal.phases-preserved
phases-preserved g c =
    let design = g.N.World.design in
    let plan = g.N.World.plan in
    let window = c.args.view.now.window.now in
    let room = c.phases.room in
    let come = c.phases.invariant.come in
    let through = c.all_through_phase.new.room in
    let some = sym (c.some_goes.ensures ∙ ap (list_any still_goes) c.deref.ensures.value) ∙ c.if-not-some_goes.false in
    let test = c.phases-test.true in
    let at = c.phase.ensures in
    let more : room.before.phase + 1 < c.args.last = omega (arith, test, at) in
    let turned = c.take_turn.new.room in
    record {
      counts = subst (AreCounts design) (sym (c.in_ok-take_turn.ensures.counts ∙ c.in_ok-all_through_phase.ensures.counts)) c.phases.invariant.counts;
      come = next-come design plan window.before window.through c.args.slot c.args.now c.args.last c.args.faults.now.items c.requires.begins room.runner room.before room.behind c.phases.faults.items
          come through.runner through.before through.behind c.all_through_phase.new.faults.items c.in_ok-all_through_phase.ensures.room c.in_ok-all_through_phase.ensures.faults more some
          turned.runner turned.before turned.behind c.in_ok-take_turn.ensures.turns c.steps_go_on.ensures c.own_steps_go_on.ensures c.phases_follow.ensures.phases c.lanes_tell_turns.ensures
          c.requires.now
          c.turn_each.new.faults.items c.in_ok-turn_each.ensures;
      ticks =
          (let before = c.phases.invariant.ticks in
          let phase = c.in_ok-all_through_phase.ensures.ticks in
          let turn = ticked-same c.args.now turned.before c.all_through_phase.new.faults.items c.turn_each.new.faults.items c.in_ok-turn_each.ensures in
          omega (arith, before, phase, turn));
    }

pub phases-smaller : goal.phases-smaller
phases-smaller g c =
    let design = g.N.World.design in
    let plan = g.N.World.plan in
    let window = c.args.view.now.window.now in
    let room = c.phases.room in
    let come = c.phases.invariant.come in
    let through = c.all_through_phase.new.room in
    let some = sym (c.some_goes.ensures ∙ ap (list_any still_goes) c.deref.ensures.value) ∙ c.if-not-some_goes.false in
    let test = c.phases-test.true in
    let at = c.phase.ensures in
    let more : room.before.phase + 1 < c.args.last = omega (arith, test, at) in
    let turned = c.take_turn.new.room in
    let next = next-phase-is design plan window.before window.through c.args.slot c.args.now c.args.last c.args.faults.now.items c.requires.begins room.runner room.before room.behind
    c.phases.faults.items come through.runner through.before through.behind c.all_through_phase.new.faults.items c.in_ok-all_through_phase.ensures.room c.in_ok-all_through_phase.ensures.faults more
    some turned.runner turned.before turned.behind c.in_ok-take_turn.ensures.turns in
    omega (arith, next, more)

pub all_through_phase-requires-2-clause-counts : goal.all_through_phase-requires-2-clause-counts
all_through_phase-requires-2-clause-counts g c κs within =
    c.phases.invariant.counts

pub all_through_phase-requires-2-clause-sites : goal.all_through_phase-requires-2-clause-sites
all_through_phase-requires-2-clause-sites g c κs within =
    let design = g.N.World.design in
    let plan = g.N.World.plan in
    let window = c.args.view.now.window.now in
    let room = c.phases.room in
    let come = c.phases.invariant.come in
    all-sites design plan window.before window.through c.args.slot c.args.now c.args.last c.args.faults.now.items c.requires.begins room.runner room.before room.behind c.phases.faults.items come
    c.requires.sites

pub all_through_phase-requires-2-clause-room : goal.all_through_phase-requires-2-clause-room
all_through_phase-requires-2-clause-room g c κs within =
    let come = c.phases.invariant.come in
    record { number = c.args.slot; place = come.place; room = come.room }

pub all_through_phase-requires-2-clause-time : goal.all_through_phase-requires-2-clause-time
all_through_phase-requires-2-clause-time g c κs within =
    c.phases.invariant.come.time_is

pub all_through_phase-requires-2-clause-goes : goal.all_through_phase-requires-2-clause-goes
all_through_phase-requires-2-clause-goes g c κs within =
    let design = g.N.World.design in
    let plan = g.N.World.plan in
    let window = c.args.view.now.window.now in
    let room = c.phases.room in
    let come = c.phases.invariant.come in
    all-go-on design plan window.before window.through c.args.slot c.args.now c.args.last c.args.faults.now.items c.requires.begins room.runner room.before room.behind c.phases.faults.items come

pub returns-clause-faults : goal.returns-clause-faults
returns-clause-faults g c =
    let design = g.N.World.design in
    let plan = g.N.World.plan in
    let window = c.args.view.now.window.now in
    let room = c.phases.room in
    let come = c.phases.invariant.come in
    let through = c.all_through_phase-2.new.room in
    let test = c.phases-test.false in
    let at = c.phase.ensures in
    let few : c.args.last ≤ room.before.phase + 1 = omega (arith, test, at) in
    all-behind design plan window.before window.through c.args.slot c.args.now c.args.last c.args.faults.now.items c.requires.begins room.runner room.before room.behind c.phases.faults.items come
    through.runner through.before through.behind c.all_through_phase-2.new.faults.items c.in_ok-all_through_phase-2.ensures.room c.in_ok-all_through_phase-2.ensures.faults
    c.steps_go_on.ensures c.first_slot_goes_on.ensures c.own_steps_go_on.ensures
    c.kept_ends.ensures few (subst (AllHold KeepsAscending) c.deref-2.ensures.value c.ascending_each.ensures)

pub returns-clause-room : goal.returns-clause-room
returns-clause-room g c =
    let design = g.N.World.design in
    let plan = g.N.World.plan in
    let window = c.args.view.now.window.now in
    let room = c.phases.room in
    let come = c.phases.invariant.come in
    let through = c.all_through_phase-2.new.room in
    room-whole design plan window.before window.through c.args.slot (further (length come.place.left) come.place) through.runner through.before through.behind through.counts
    (room-through design plan window.before window.through c.args.slot c.args.now c.args.last c.args.faults.now.items c.requires.begins room.runner room.before room.behind c.phases.faults.items come
    through.runner through.before through.behind c.all_through_phase-2.new.faults.items c.in_ok-all_through_phase-2.ensures.room c.in_ok-all_through_phase-2.ensures.faults)
    (subst (AreCounts design) (sym c.in_ok-all_through_phase-2.ensures.counts) c.phases.invariant.counts)

pub returns-clause-ticks : goal.returns-clause-ticks
returns-clause-ticks g c =
    let before = c.phases.invariant.ticks in
    let phase = c.in_ok-all_through_phase-2.ensures.ticks in
    omega (arith, before, phase)
