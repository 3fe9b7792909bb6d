-- The later moment goes ahead, the faults take their blocks, then runner and earlier moment follow.
use Rattle.std.proofs.Common.{◌≡◌, ◌<◌, ℕ, List, length, get_or, set, refl, sym, ap, subst, ◌∙◌, arith}
use Rattle.std.specs.List.{sum_by}
use Rattle.std.proofs.lemmas.List.{get_or-map, length-map, map-set}
use Rattle.v_design.specs.Plain.{fault_of}
use Rattle.lockstep_turn.specs.lockstep_block.Rooms.{CanFollow, IsRunnerAt, MayStandThere}
use Rattle.lockstep_turn.specs.lockstep_room.Rooms.{AreCounts}
use Rattle.lockstep_turn.specs.lockstep_slots.Places.{Place, behind_events}
use Rattle.lockstep_turn.specs.moment_laws.Passing.{HasBlock, PassesBlock}
use Rattle.lockstep_turn.specs.moment_laws.Places.{IsInWindow, IsShownAt}
use Rattle.lockstep_turn.specs.moment_laws.Shown.{MomentKept}
use Rattle.lockstep_turn.proofs.slot_laws.Own.{may-run-own}
use Rattle.lockstep_turn.proofs.slot_laws.Rooms.{before-block, before-within, behind-block, behind-within, follows-at}
use Rattle.lockstep_turn.proofs.slot_laws.Stops.{end-within, moments-there}
use Rattle.lockstep_turn.specs.phase_faults.Beside.{HasSite, HaveGoneOn, PhaseGoesOnIf, TakesOwn, stop_of, ticked_of}
use Rattle.lockstep_turn.proofs.phase_faults.Lists.{changed-all, changed-length, changed-more, changed-none, sum-more, unchanged-holds}
use Rattle.lockstep_turn.proofs.phase_faults.Moving.{BlockIsTaken, PhaseLaws, ahead-low, block-more, over-block, phase-laws}
use Rattle.lockstep_turn.proofs.phase_faults.Waiting.{may-stand-at, own-again, takes-first, waits-first, waits-joined}
use Rattle.lockstep_phase.proofs.own.take_block.Goals as goal

pub pass_block-requires-clause-window : goal.pass_block-requires-clause-window
pass_block-requires-clause-window g c κs within =
    let design = g.N.World.design in
    let plan = g.N.World.plan in
    let room = c.args.room.now in
    let window = c.args.view.now.window.now in
    let may = c.requires.may in
    behind-within design plan window.before window.through may.at.number may.at.place room.runner room.before room.behind may.at.room _ _ refl refl

pub pass_block-requires-clause-blocks : goal.pass_block-requires-clause-blocks
pass_block-requires-clause-blocks g c κs within =
    let design = g.N.World.design in
    let plan = g.N.World.plan in
    let room = c.args.room.now in
    let window = c.args.view.now.window.now in
    let may = c.requires.may in
    behind-within design plan window.before window.through may.at.number may.at.place room.runner room.before room.behind may.at.room _ _ c.requires.window.blocks_begin c.requires.window.blocks_end

pub pass_block-requires-clause-wakes : goal.pass_block-requires-clause-wakes
pass_block-requires-clause-wakes g c κs within =
    let design = g.N.World.design in
    let plan = g.N.World.plan in
    let room = c.args.room.now in
    let window = c.args.view.now.window.now in
    let may = c.requires.may in
    behind-within design plan window.before window.through may.at.number may.at.place room.runner room.before room.behind may.at.room _ _ c.requires.window.wakes_begin c.requires.window.wakes_end

pub pass_block-requires-clause-place : goal.pass_block-requires-clause-place
pass_block-requires-clause-place g c κs within =
    let design = g.N.World.design in
    let plan = g.N.World.plan in
    let room = c.args.room.now in
    let window = c.args.view.now.window.now in
    let may = c.requires.may in
    let ends = may.ends in
    let more = c.requires.more in
    behind-block design plan window.before window.through may.at.number may.at.place room.runner room.before room.behind may.at.room (omega (arith, ends, more))

pub faults-init : goal.faults-init
faults-init g c =
    let design = g.N.World.design in
    let plan = g.N.World.plan in
    let room = c.args.room.now in
    let window = c.args.view.now.window.now in
    let R = TakesOwn design plan window.before window.through c.args.view.now.blocks.now.moments c.args.end room.runner room.before c.pass_block.new.self room.counts in
    record {
      changed = changed-none R c.args.faults.now.items;
      waits = waits-first design plan c.args.time room.runner room.before c.pass_block.new.self room.counts;
      stops = c.requires.stops;
      ticks = omega arith;
    }

pub index_mut-each-requires : goal.index_mut-each-requires
index_mut-each-requires g c =
    let design = g.N.World.design in
    let plan = g.N.World.plan in
    let room = c.args.room.now in
    let window = c.args.view.now.window.now in
    let R = TakesOwn design plan window.before window.through c.args.view.now.blocks.now.moments c.args.end room.runner room.before c.pass_block.new.self room.counts in
    let same = changed-length R c.faults.place c.args.faults.now.items c.faults.faults.items c.faults.invariant.changed in
    omega (arith, c.faults-test.true, c.len-place-end.ensures, same)

pub index_mut-stop-requires : goal.index_mut-stop-requires
index_mut-stop-requires g c =
    let design = g.N.World.design in
    let plan = g.N.World.plan in
    let room = c.args.room.now in
    let window = c.args.view.now.window.now in
    let R = TakesOwn design plan window.before window.through c.args.view.now.blocks.now.moments c.args.end room.runner room.before c.pass_block.new.self room.counts in
    let same = changed-length R c.faults.place c.args.faults.now.items c.faults.faults.items c.faults.invariant.changed in
    let count : length c.faults.stops.items ≡ length c.faults.faults.items = ap length c.faults.invariant.stops ∙ length-map c.faults.faults.items (stop_of c.args.end) in
    omega (arith, c.faults-test.true, c.len-place-end.ensures, same, count)

pub take_at_stop-requires-clause-stop : goal.take_at_stop-requires-clause-stop
take_at_stop-requires-clause-stop g c κs within =
    let design = g.N.World.design in
    let plan = g.N.World.plan in
    let room = c.args.room.now in
    let window = c.args.view.now.window.now in
    let R = TakesOwn design plan window.before window.through c.args.view.now.blocks.now.moments c.args.end room.runner room.before c.pass_block.new.self room.counts in
    let same = changed-length R c.faults.place c.args.faults.now.items c.faults.faults.items c.faults.invariant.changed in
    let f = stop_of c.args.end in
    let ys = c.faults.faults.items in
    let each = c.index_mut-each.result.now in
    let stop = c.index_mut-stop.result.now in
    c.index_mut-stop.ensures.value
    ∙ ap (λ (l : List ℕ). get_or l c.faults.place stop) c.faults.invariant.stops
    ∙ get_or-map f ys c.faults.place each stop (omega (arith, c.faults-test.true, c.len-place-end.ensures, same))
    ∙ ap f (sym c.index_mut-each.ensures.value)

pub take_at_stop-requires-clause-counts : goal.take_at_stop-requires-clause-counts
take_at_stop-requires-clause-counts g c κs within =
    let design = g.N.World.design in
    let may = c.requires.may in
    subst (AreCounts design) (sym c.faults.invariant.waits.counts_is) may.counts_are

pub take_at_stop-requires-clause-site : goal.take_at_stop-requires-clause-site
take_at_stop-requires-clause-site g c κs within =
    let design = g.N.World.design in
    let plan = g.N.World.plan in
    let room = c.args.room.now in
    let window = c.args.view.now.window.now in
    let may = c.requires.may in
    let R = TakesOwn design plan window.before window.through c.args.view.now.blocks.now.moments c.args.end room.runner room.before c.pass_block.new.self room.counts in
    unchanged-holds R (HasSite design) c.faults.place c.args.faults.now.items c.faults.faults.items c.index_mut-each.result.now c.faults.invariant.changed may.sites
    (omega (arith, c.faults-test.true, c.len-place-end.ensures)) c.index_mut-each.ensures.value

pub take_at_stop-requires-clause-stands : goal.take_at_stop-requires-clause-stands
take_at_stop-requires-clause-stands g c κs within =
    let design = g.N.World.design in
    let plan = g.N.World.plan in
    let room = c.args.room.now in
    let may = c.requires.may in
    subst (MayStandThere design plan c.args.time) (sym c.faults.invariant.waits.before_is)
    (may-stand-at design plan c.args.time may.at.place room.runner room.before may.at.room.at.before_at may.time_is may.at.room.at.runs)

pub take_at_stop-requires-clause-order : goal.take_at_stop-requires-clause-order
take_at_stop-requires-clause-order g c κs within =
    let design = g.N.World.design in
    let plan = g.N.World.plan in
    let room = c.args.room.now in
    let window = c.args.view.now.window.now in
    let may = c.requires.may in
    let ends = may.ends in
    let more = c.requires.more in
    let low =
    ahead-low design plan window.before window.through may.at.number c.args.end may.at.place room.runner room.before room.behind c.pass_block.new.self may.at.room may.ends
    (c.in_ok-pass_block.ensures may.at.place may.at.room.at.behind_at (omega (arith, ends, more))) in
    let same = ap (λ (m : MomentKept). m.moment) c.faults.invariant.waits.behind_is in
    omega (arith, low, same)

pub take_at_stop-requires-clause-end : goal.take_at_stop-requires-clause-end
take_at_stop-requires-clause-end g c κs within =
    let design = g.N.World.design in
    let plan = g.N.World.plan in
    let room = c.args.room.now in
    let window = c.args.view.now.window.now in
    let may = c.requires.may in
    end-within c.places_are_told.ensures design plan window.before window.through may.at.number may.at.place room.runner room.before room.behind may.at.room c.args.end may.ends c.requires.more

pub take_at_stop-requires-clause-goes : goal.take_at_stop-requires-clause-goes
take_at_stop-requires-clause-goes g c κs within =
    let design = g.N.World.design in
    let plan = g.N.World.plan in
    let room = c.args.room.now in
    let window = c.args.view.now.window.now in
    let may = c.requires.may in
    let R = TakesOwn design plan window.before window.through c.args.view.now.blocks.now.moments c.args.end room.runner room.before c.pass_block.new.self room.counts in
    let each = c.index_mut-each.result.now in
    λ goes.
    let on =
    unchanged-holds R (PhaseGoesOnIf design plan window.before window.through c.args.end room.runner room.before room.behind) c.faults.place c.args.faults.now.items c.faults.faults.items each
    c.faults.invariant.changed may.go (omega (arith, c.faults-test.true, c.len-place-end.ensures)) c.index_mut-each.ensures.value goes in
    let ends = on.ends in
    let more = c.requires.more in
    own-again design plan c.args.time room.runner room.before c.pass_block.new.self room.counts c.faults.room.runner c.faults.room.before c.faults.room.behind c.faults.room.counts
    c.faults.invariant.waits window.before window.through may.time_is (fault_of each.fault) each.one.notes each.one.own each.one.spare each.one.tried.items each.one.apart.items
    (may-run-own design plan (fault_of each.fault) on.may.slot on.may.begins window.before window.through on.may.number on.may.place room.runner room.before room.behind c.pass_block.new.self
    each.one.notes each.one.own each.one.spare each.one.tried.items each.one.apart.items on.may.on (c.in_ok-pass_block.ensures on.may.place on.may.on.room.at.behind_at (omega (
      arith,
      ends,
      more,
    ))) room.counts may.counts_are)

pub faults-preserved : goal.faults-preserved
faults-preserved g c =
    let design = g.N.World.design in
    let plan = g.N.World.plan in
    let room = c.args.room.now in
    let window = c.args.view.now.window.now in
    let may = c.requires.may in
    let R = TakesOwn design plan window.before window.through c.args.view.now.blocks.now.moments c.args.end room.runner room.before c.pass_block.new.self room.counts in
    let now = c.take_at_stop.new.room in
    record {
      changed = changed-more R c.faults.place c.args.faults.now.items c.faults.faults.items c.index_mut-each.result.now c.take_at_stop.new.each c.faults.invariant.changed
          (omega (arith, c.faults-test.true, c.len-place-end.ensures)) c.index_mut-each.ensures.value
          (takes-first design plan c.args.time room.runner room.before c.pass_block.new.self room.counts c.faults.room.runner c.faults.room.before c.faults.room.behind c.faults.room.counts c.faults.invariant.waits
          window.before window.through may.time_is c.args.view.now.blocks.now.moments c.args.end c.index_mut-each.result.now c.take_at_stop.new.each c.in_ok-take_at_stop.ensures.own);
      waits =
          waits-joined design plan c.args.time room.runner room.before c.pass_block.new.self room.counts c.faults.room.runner c.faults.room.before c.faults.room.behind c.faults.room.counts c.faults.invariant.waits
          now.runner now.before now.behind now.counts c.in_ok-take_at_stop.ensures.room;
      stops =
          (λ i. set (c.faults.invariant.stops i) c.faults.place (c.in_ok-take_at_stop.ensures.stop i))
          ∙ sym (map-set (stop_of c.args.end) c.faults.faults.items c.faults.place c.take_at_stop.new.each);
      ticks =
          (let same = changed-length R c.faults.place c.args.faults.now.items c.faults.faults.items c.faults.invariant.changed in
          sum-more ticked_of c.faults.faults.items c.faults.place c.index_mut-each.result.now c.take_at_stop.new.each (sum_by ticked_of c.args.faults.now.items) c.args.steps.now c.faults.steps
          c.take_at_stop.new.steps (omega (arith, c.faults-test.true, c.len-place-end.ensures, same)) c.index_mut-each.ensures.value c.faults.invariant.ticks c.in_ok-take_at_stop.ensures.ticks);
    }

pub follow_block-requires-clause-counts : goal.follow_block-requires-clause-counts
follow_block-requires-clause-counts g c κs within =
    let design = g.N.World.design in
    let may = c.requires.may in
    subst (AreCounts design) (sym c.faults.invariant.waits.counts_is) may.counts_are

pub follow_block-requires-clause-here : goal.follow_block-requires-clause-here
follow_block-requires-clause-here g c κs within =
    let design = g.N.World.design in
    let plan = g.N.World.plan in
    let room = c.args.room.now in
    let window = c.args.view.now.window.now in
    let may = c.requires.may in
    let ends = may.ends in
    let more = c.requires.more in
    let waits = c.faults.invariant.waits in
    subst (CanFollow design plan c.faults.room.runner) (sym waits.behind_is)
    (follows-at design plan window.before window.through may.at.number may.at.place room.runner room.before room.behind c.pass_block.new.self may.at.room
    (c.in_ok-pass_block.ensures may.at.place may.at.room.at.behind_at (omega (arith, ends, more))) c.faults.room.runner
    (waits.runs may.at.place may.at.room.at.before_at may.time_is may.at.room.at.runs))

pub pass_block-requires-2-clause-window : goal.pass_block-requires-2-clause-window
pass_block-requires-2-clause-window g c κs within =
    let design = g.N.World.design in
    let plan = g.N.World.plan in
    let room = c.args.room.now in
    let window = c.args.view.now.window.now in
    let may = c.requires.may in
    subst (IsInWindow window.before window.through) (sym c.faults.invariant.waits.before_is)
    (before-within design plan window.before window.through may.at.number may.at.place room.runner room.before room.behind may.at.room _ _ refl refl)

pub pass_block-requires-2-clause-blocks : goal.pass_block-requires-2-clause-blocks
pass_block-requires-2-clause-blocks g c κs within =
    let design = g.N.World.design in
    let plan = g.N.World.plan in
    let room = c.args.room.now in
    let window = c.args.view.now.window.now in
    let may = c.requires.may in
    let blocks = c.args.view.now.blocks.now in
    subst (IsInWindow blocks.before blocks.through) (sym c.faults.invariant.waits.before_is)
    (before-within design plan window.before window.through may.at.number may.at.place room.runner room.before room.behind may.at.room _ _ c.requires.window.blocks_begin c.requires.window.blocks_end)

pub pass_block-requires-2-clause-wakes : goal.pass_block-requires-2-clause-wakes
pass_block-requires-2-clause-wakes g c κs within =
    let design = g.N.World.design in
    let plan = g.N.World.plan in
    let room = c.args.room.now in
    let window = c.args.view.now.window.now in
    let may = c.requires.may in
    let wakes = c.args.view.now.wakes.now in
    subst (IsInWindow wakes.before wakes.through) (sym c.faults.invariant.waits.before_is)
    (before-within design plan window.before window.through may.at.number may.at.place room.runner room.before room.behind may.at.room _ _ c.requires.window.wakes_begin c.requires.window.wakes_end)

pub pass_block-requires-2-clause-place : goal.pass_block-requires-2-clause-place
pass_block-requires-2-clause-place g c κs within =
    let design = g.N.World.design in
    let plan = g.N.World.plan in
    let room = c.args.room.now in
    let window = c.args.view.now.window.now in
    let may = c.requires.may in
    let ends = may.ends in
    let more = c.requires.more in
    subst (HasBlock design plan) (sym c.faults.invariant.waits.before_is)
    (before-block design plan window.before window.through may.at.number may.at.place room.runner room.before room.behind may.at.room (omega (arith, ends, more)))

pub returns-clause-on : goal.returns-clause-on
returns-clause-on g c =
    let design = g.N.World.design in
    let plan = g.N.World.plan in
    let room = c.args.room.now in
    let window = c.args.view.now.window.now in
    let may = c.requires.may in
    let R = TakesOwn design plan window.before window.through c.args.view.now.blocks.now.moments c.args.end room.runner room.before c.pass_block.new.self room.counts in
    let blocks = c.args.view.now.blocks.now in
    let waits = c.faults.invariant.waits in
    let laws : PhaseLaws =
    phase-laws c.places_are_told.ensures c.phases_follow.ensures.phases c.blocks_are_told.ensures.end c.blocks_are_told.ensures.join c.steps_go_on.ensures c.limits_tell.ensures
    c.own_steps_go_on.ensures in
    let next = c.pass_block-2.new.self in
    let runner = c.follow_block.new.runner in
    let taken : BlockIsTaken design plan room.runner room.before room.behind c.pass_block.new.self c.faults.room.runner runner next =
    record {
      ahead = c.in_ok-pass_block.ensures;
      waits = λ place shown runs. waits.runs place shown may.time_is runs;
      follows =
          subst (λ (m : MomentKept). (of : CanFollow design plan c.faults.room.runner m) → IsRunnerAt design (behind_events of.block of.rest of.place) runner) waits.behind_is
          c.in_ok-follow_block.ensures;
      passes =
          subst (λ (m : MomentKept). (place : Place) → IsShownAt design plan place m → 0 < length place.left → PassesBlock design plan place m next) waits.before_is
          c.in_ok-pass_block-2.ensures;
    } in
    let are = moments-there design plan window.before window.through blocks c.requires.window.blocks_begin c.requires.window.blocks_end c.stands.ensures in
    subst
    (λ (m : MomentKept). HaveGoneOn design plan window.before window.through blocks.moments c.args.end room.runner room.before room.behind room.counts c.args.faults.now.items runner next m
    c.faults.room.counts c.faults.faults.items)
    (sym waits.behind_is)
    (over-block laws design plan window.before window.through blocks.moments c.args.end room.runner room.before room.behind c.pass_block.new.self c.faults.room.runner runner next taken are c.requires.more c.args.time
    room.counts c.faults.room.counts c.args.faults.now.items c.faults.faults.items may waits.counts_is
    (changed-all R c.faults.place c.args.faults.now.items c.faults.faults.items c.faults.invariant.changed (omega (arith, c.faults-test.false, c.len-place-end.ensures))))

pub returns-clause-more : goal.returns-clause-more
returns-clause-more g c =
    let design = g.N.World.design in
    let plan = g.N.World.plan in
    let room = c.args.room.now in
    let window = c.args.view.now.window.now in
    let may = c.requires.may in
    let blocks = c.args.view.now.blocks.now in
    let waits = c.faults.invariant.waits in
    let laws : PhaseLaws =
    phase-laws c.places_are_told.ensures c.phases_follow.ensures.phases c.blocks_are_told.ensures.end c.blocks_are_told.ensures.join c.steps_go_on.ensures c.limits_tell.ensures
    c.own_steps_go_on.ensures in
    let next = c.pass_block-2.new.self in
    let runner = c.follow_block.new.runner in
    let taken : BlockIsTaken design plan room.runner room.before room.behind c.pass_block.new.self c.faults.room.runner runner next =
    record {
      ahead = c.in_ok-pass_block.ensures;
      waits = λ place shown runs. waits.runs place shown may.time_is runs;
      follows =
          subst (λ (m : MomentKept). (of : CanFollow design plan c.faults.room.runner m) → IsRunnerAt design (behind_events of.block of.rest of.place) runner) waits.behind_is
          c.in_ok-follow_block.ensures;
      passes =
          subst (λ (m : MomentKept). (place : Place) → IsShownAt design plan place m → 0 < length place.left → PassesBlock design plan place m next) waits.before_is
          c.in_ok-pass_block-2.ensures;
    } in
    let are = moments-there design plan window.before window.through blocks c.requires.window.blocks_begin c.requires.window.blocks_end c.stands.ensures in
    block-more laws design plan window.before window.through blocks.moments c.args.end room.runner room.before room.behind c.pass_block.new.self c.faults.room.runner runner next taken are c.requires.more c.args.time
    room.counts c.faults.room.counts c.args.faults.now.items c.faults.faults.items may

pub returns-clause-ticks : goal.returns-clause-ticks
returns-clause-ticks g c = c.faults.invariant.ticks

pub returns-clause-stops : goal.returns-clause-stops
returns-clause-stops g c = c.faults.invariant.stops
