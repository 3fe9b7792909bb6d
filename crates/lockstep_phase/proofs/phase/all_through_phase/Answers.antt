-- It is looked ahead, room and faults go to the phase's end, and the filter is asked.
use Rattle.std.proofs.Common.{◌≡◌, ℕ, ◌<◌, length, get_or, map, refl, ap, subst, ◌∙◌, arith}
use Rattle.std.specs.List.{AllZip}
use Rattle.lockstep_turn.proofs.slot_laws.Stops.{end-within}
use Rattle.lockstep_turn.specs.phase_faults.Beside.{LooksAhead, stop_of}
use Rattle.lockstep_turn.proofs.phase_faults.Through.{all-there, all-through, end-there, ends-at, may-begin, room-through, ticks-through, time-through}
use Rattle.lockstep_phase.proofs.phase.all_through_phase.Goals as goal

pub bounds-ends-phase : goal.bounds-ends-phase
bounds-ends-phase g c =
    let design = g.N.World.design in
    let plan = g.N.World.plan in
    let room = c.args.room.now in
    let window = c.args.view.now.window.now in
    let blocks = c.args.view.now.blocks.now in
    let at = c.requires.room in
    let low =
    end-there c.places_are_told.ensures design plan window.before window.through room.runner room.before room.behind blocks c.requires.window.blocks_begin c.requires.window.blocks_end
    c.stands.ensures at.number at.place at.room in
    let all : length c.phase_ends-ends.result.now ≡ length blocks.ends = ap length c.phase_ends-ends.ensures in
    let here = c.phase-phase.ensures in
    omega (arith, low, all, here)

pub look_ahead_all-requires-clause-kept : goal.look_ahead_all-requires-clause-kept
look_ahead_all-requires-clause-kept g c κs within =
    let design = g.N.World.design in
    let plan = g.N.World.plan in
    let room = c.args.room.now in
    let window = c.args.view.now.window.now in
    let blocks = c.args.view.now.blocks.now in
    all-there design plan window.before window.through blocks.moments 0 room.runner room.before room.behind c.args.faults.now.items c.requires.goes

pub look_ahead_all-requires-clause-order : goal.look_ahead_all-requires-clause-order
look_ahead_all-requires-clause-order g c κs within =
    let design = g.N.World.design in
    let plan = g.N.World.plan in
    let room = c.args.room.now in
    let window = c.args.view.now.window.now in
    let blocks = c.args.view.now.blocks.now in
    let at = c.requires.room in
    let end : ℕ = get_or c.phase_ends-ends.result.now c.phase-phase.result 0 in
    let ends =
    ends-at c.places_are_told.ensures design plan window.before window.through room.runner room.before room.behind blocks c.requires.window.blocks_begin c.requires.window.blocks_end
    c.stands.ensures c.phase_ends-ends.result.now end c.phase-phase.result c.phase_ends-ends.ensures c.phase-phase.ensures refl in
    let there = ends at.number at.place at.room in
    let now = c.moment-moment.ensures in
    omega (arith, there, now)

pub look_ahead_all-requires-clause-end : goal.look_ahead_all-requires-clause-end
look_ahead_all-requires-clause-end g c κs within =
    let design = g.N.World.design in
    let plan = g.N.World.plan in
    let room = c.args.room.now in
    let window = c.args.view.now.window.now in
    let blocks = c.args.view.now.blocks.now in
    let at = c.requires.room in
    let end : ℕ = get_or c.phase_ends-ends.result.now c.phase-phase.result 0 in
    let ends =
    ends-at c.places_are_told.ensures design plan window.before window.through room.runner room.before room.behind blocks c.requires.window.blocks_begin c.requires.window.blocks_end
    c.stands.ensures c.phase_ends-ends.result.now end c.phase-phase.result c.phase_ends-ends.ensures c.phase-phase.ensures refl in
    λ more.
    end-within c.places_are_told.ensures design plan window.before window.through at.number at.place room.runner room.before room.behind at.room end (ends at.number at.place at.room)
    (subst (λ m. m < end) c.moment-moment.ensures more)

pub go_to_end-requires-clause-stops : goal.go_to_end-requires-clause-stops
go_to_end-requires-clause-stops g c κs within =
    let end : ℕ = get_or c.phase_ends-ends.result.now c.phase-phase.result 0 in
    c.in_ok-stops.ensures ∙ ap (map (stop_of end)) c.deref.ensures.value

pub go_to_end-requires-clause-may : goal.go_to_end-requires-clause-may
go_to_end-requires-clause-may g c κs within =
    let design = g.N.World.design in
    let plan = g.N.World.plan in
    let room = c.args.room.now in
    let window = c.args.view.now.window.now in
    let blocks = c.args.view.now.blocks.now in
    let at = c.requires.room in
    let end : ℕ = get_or c.phase_ends-ends.result.now c.phase-phase.result 0 in
    let ends =
    ends-at c.places_are_told.ensures design plan window.before window.through room.runner room.before room.behind blocks c.requires.window.blocks_begin c.requires.window.blocks_end
    c.stands.ensures c.phase_ends-ends.result.now end c.phase-phase.result c.phase_ends-ends.ensures c.phase-phase.ensures refl in
    let looked = c.look_ahead_all.new.faults in
    let looks =
    subst (λ m. AllZip (LooksAhead design plan window.before window.through blocks.moments m end) c.args.faults.now.items looked.items) c.moment-moment.ensures c.look_ahead_all.ensures in
    may-begin design plan window.before window.through blocks.moments end room.runner room.before room.behind ends c.args.time room.counts c.args.faults.now.items looked.items at c.requires.time
    c.requires.counts c.requires.sites c.requires.goes looks

pub returns-clause-faults : goal.returns-clause-faults
returns-clause-faults g c =
    let design = g.N.World.design in
    let plan = g.N.World.plan in
    let room = c.args.room.now in
    let window = c.args.view.now.window.now in
    let blocks = c.args.view.now.blocks.now in
    let end : ℕ = get_or c.phase_ends-ends.result.now c.phase-phase.result 0 in
    let ends =
    ends-at c.places_are_told.ensures design plan window.before window.through room.runner room.before room.behind blocks c.requires.window.blocks_begin c.requires.window.blocks_end
    c.stands.ensures c.phase_ends-ends.result.now end c.phase-phase.result c.phase_ends-ends.ensures c.phase-phase.ensures refl in
    let looked = c.look_ahead_all.new.faults in
    let looks =
    subst (λ m. AllZip (LooksAhead design plan window.before window.through blocks.moments m end) c.args.faults.now.items looked.items) c.moment-moment.ensures c.look_ahead_all.ensures in
    let new = c.go_to_end.new.room in
    let gone = c.go_to_end.new.faults in
    all-through design plan window.before window.through blocks.moments end room.runner room.before room.behind ends new.runner new.before new.behind c.steps_go_on.ensures
    c.in_ok-go_to_end.ensures.past
    room.counts new.counts c.args.faults.now.items looked.items gone.items c.ask_all.new.faults.items looks c.in_ok-go_to_end.ensures.on c.ask_all.ensures

pub returns-clause-room : goal.returns-clause-room
returns-clause-room g c =
    let design = g.N.World.design in
    let plan = g.N.World.plan in
    let room = c.args.room.now in
    let window = c.args.view.now.window.now in
    let blocks = c.args.view.now.blocks.now in
    let end : ℕ = get_or c.phase_ends-ends.result.now c.phase-phase.result 0 in
    let ends =
    ends-at c.places_are_told.ensures design plan window.before window.through room.runner room.before room.behind blocks c.requires.window.blocks_begin c.requires.window.blocks_end
    c.stands.ensures c.phase_ends-ends.result.now end c.phase-phase.result c.phase_ends-ends.ensures c.phase-phase.ensures refl in
    let new = c.go_to_end.new.room in
    let gone = c.go_to_end.new.faults in
    room-through design plan window.before window.through blocks.moments end room.runner room.before room.behind ends new.runner new.before new.behind c.steps_go_on.ensures
    c.in_ok-go_to_end.ensures.past
    room.counts new.counts c.look_ahead_all.new.faults.items gone.items c.in_ok-go_to_end.ensures.on

pub returns-clause-counts : goal.returns-clause-counts
returns-clause-counts g c =
    c.in_ok-go_to_end.ensures.on.counts_is

pub returns-clause-time : goal.returns-clause-time
returns-clause-time g c =
    let design = g.N.World.design in
    let plan = g.N.World.plan in
    let room = c.args.room.now in
    let window = c.args.view.now.window.now in
    let blocks = c.args.view.now.blocks.now in
    let at = c.requires.room in
    let end : ℕ = get_or c.phase_ends-ends.result.now c.phase-phase.result 0 in
    let ends =
    ends-at c.places_are_told.ensures design plan window.before window.through room.runner room.before room.behind blocks c.requires.window.blocks_begin c.requires.window.blocks_end
    c.stands.ensures c.phase_ends-ends.result.now end c.phase-phase.result c.phase_ends-ends.ensures c.phase-phase.ensures refl in
    let new = c.go_to_end.new.room in
    let gone = c.go_to_end.new.faults in
    time-through design plan window.before window.through blocks.moments end room.runner room.before room.behind ends new.runner new.before new.behind c.steps_go_on.ensures
    c.in_ok-go_to_end.ensures.past
    room.counts new.counts c.look_ahead_all.new.faults.items gone.items c.in_ok-go_to_end.ensures.on at

pub returns-clause-ticks : goal.returns-clause-ticks
returns-clause-ticks g c =
    let window = c.args.view.now.window.now in
    ticks-through g.N.World.design g.N.World.plan window.before window.through c.args.view.now.blocks.now.moments c.moment-moment.result
    (get_or c.phase_ends-ends.result.now c.phase-phase.result 0) c.args.faults.now.items c.look_ahead_all.new.faults.items c.go_to_end.new.faults.items c.ask_all.new.faults.items
    c.args.steps.now c.go_to_end.new.steps c.look_ahead_all.ensures c.ask_all.ensures c.in_ok-go_to_end.ensures.ticks
