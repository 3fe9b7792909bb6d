-- A block of its own, compared and noted.
use Rattle.std.proofs.Common.{ℕ, ◌+◌, ◌-◌, ◌<◌, ◌≤◌, List, drop, length, map, refl, subst, sym, ◌∙◌, arith}
use Rattle.std.specs.Prelude.{IfSome, Option}
use Rattle.vf_base.specs.Base.{process_number}
use Rattle.vf_base.specs.declared.ids.ProcId.{ProcId}
use Rattle.v_design.specs.Designs.{good_machine, faulty_machine}
use Rattle.v_design.specs.OwnSteps.{ProcessRun}
use Rattle.v_design.specs.Plain.{fault_of}
use Rattle.run_ends.specs.RunEnds.{enders_in}
use Rattle.window_runs.specs.RunsByProcess.{run_process}
use Rattle.faulty_block.specs.block_events.Runners.{machine_of, state_of}
use Rattle.faulty_block.specs.block_runner.Beside.{TellsBeside}
use Rattle.lockstep_steps.specs.lockstep_slots.Places.{state_there, behind_events}
use Rattle.faulty_block.specs.Runs.{MayRun, RanBlock}
use Rattle.faulty_block.specs.moment_shown.Shown.{Shows}
use Rattle.run_numbers.specs.declared.numbers.RunApart.{RunApart}
use Rattle.lockstep_block.specs.Beside.{acts_beside}
use Rattle.lockstep_block.specs.Runs.{IsGoodPhase, NotesEnded}
use Rattle.lockstep_block.proofs.OwnBlocks.{BlockLaws, goes-there, may-compare, may-run, noted-goes, ran-beside, spent, ticks-told, tried-there}
use Rattle.lockstep_block.proofs.OwnRuns.{RunLaws, few-goods, goods, numbers, tells-goods}
use Rattle.lockstep_block.proofs.own.take_own_block.Goals as goal

pub good_phase-goods-requires-clause-slot : goal.good_phase-goods-requires-clause-slot
good_phase-goods-requires-clause-slot g c κs within =
    let run = c.requires.run in
    let low = run.beside.before_at.within in
    let from = run.within.before_is in
    let to = run.within.through_is in
    omega (arith, low, from, to)

pub good_phase-goods-requires-clause-shown : goal.good_phase-goods-requires-clause-shown
good_phase-goods-requires-clause-shown g c κs within =
    let run = c.requires.run in record { place = run.place; within = run.within; shown = run.beside.before_at }

pub run_beside-requires-clause-whole : goal.run_beside-requires-clause-whole
run_beside-requires-clause-whole g c κs within = c.requires.run.beside.runs.whole

pub run_beside-requires-clause-run : goal.run_beside-requires-clause-run
run_beside-requires-clause-run g c κs within = may-run c.requires.run c.phases_fit.ensures c.lockstep_is_beside.ensures.beside c.writes_stay.ensures.stay

pub run_beside-requires-clause-goods : goal.run_beside-requires-clause-goods
run_beside-requires-clause-goods g c κs within =
    let run = c.requires.run in
    let laws : RunLaws = record {
      time = c.own_runs.ensures.time;
      runs = c.blocks_are_told.ensures.runs;
      join = c.blocks_are_told.ensures.join;
      whole = c.run_blocks_are_whole.ensures;
      are = c.shared_runs.ensures.runs;
      steps = c.slot_steps_go_on.ensures;
      slots = c.own_steps_of_slots.ensures.slots;
      numbers = c.run_numbers_go_on.ensures;
      tried = c.tried_steps_go_on.ensures;
      event = c.stretches_go_on.ensures.event;
    } in
    record {
      runs = goods run laws;
      numbers = numbers run laws;
      tells = tells-goods run laws c.good_phase-goods.result (subst (λ (l : List RunApart). IsGoodPhase g.N.World.design run.place c.args.room.now.before l c.good_phase-goods.result) c.deref.ensures.value
          (c.good_phase-goods.ensures run.place run.beside.before_at));
    }

pub run_beside-requires-clause-few : goal.run_beside-requires-clause-few
run_beside-requires-clause-few g c κs within =
    let run = c.requires.run in
    let laws : RunLaws = record {
      time = c.own_runs.ensures.time;
      runs = c.blocks_are_told.ensures.runs;
      join = c.blocks_are_told.ensures.join;
      whole = c.run_blocks_are_whole.ensures;
      are = c.shared_runs.ensures.runs;
      steps = c.slot_steps_go_on.ensures;
      slots = c.own_steps_of_slots.ensures.slots;
      numbers = c.run_numbers_go_on.ensures;
      tried = c.tried_steps_go_on.ensures;
      event = c.stretches_go_on.ensures.event;
    } in
    few-goods run laws c.good_phase-goods.result (subst (λ (l : List RunApart). IsGoodPhase g.N.World.design run.place c.args.room.now.before l c.good_phase-goods.result) c.deref.ensures.value
    (c.good_phase-goods.ensures run.place run.beside.before_at))

pub returns-in_default-clause-room : goal.returns-in_default-clause-room
returns-in_default-clause-room g c = record { before_is = refl; behind_is = refl; counts_is = refl; whole = c.in_ok-ran.ensures.whole; machine_is = c.in_ok-ran.ensures.machine }

pub returns-in_default-clause-ticks : goal.returns-in_default-clause-ticks
returns-in_default-clause-ticks g c = ticks-told c.args.one.now.tried.items c.run_beside.new.tried.items c.args.steps.now c.run_beside.new.steps c.in_ok-ran.ensures.ticks

pub returns-in_default-clause-most : goal.returns-in_default-clause-most
returns-in_default-clause-most g c = λ of.
    let kept = c.good_phase-goods.result in
    let run_laws : RunLaws = record {
      time = c.own_runs.ensures.time;
      runs = c.blocks_are_told.ensures.runs;
      join = c.blocks_are_told.ensures.join;
      whole = c.run_blocks_are_whole.ensures;
      are = c.shared_runs.ensures.runs;
      steps = c.slot_steps_go_on.ensures;
      slots = c.own_steps_of_slots.ensures.slots;
      numbers = c.run_numbers_go_on.ensures;
      tried = c.tried_steps_go_on.ensures;
      event = c.stretches_go_on.ensures.event;
    } in
    tried-there of c.phases_fit.ensures c.lockstep_is_beside.ensures.beside c.writes_stay.ensures.stay run_laws kept c.run_beside.new.tried.items c.args.steps.now c.run_beside.new.steps
    c.in_ok-ran.ensures.ticks (subst (λ (l : List RunApart). IsGoodPhase g.N.World.design of.place c.args.room.now.before l c.good_phase-goods.result) c.deref.ensures.value
    (c.good_phase-goods.ensures of.place of.beside.before_at)) c.in_ok-ran.ensures.most

pub compare_beside-requires-clause-whole : goal.compare_beside-requires-clause-whole
compare_beside-requires-clause-whole g c κs within = c.in_ok-ran.ensures.whole

pub compare_beside-requires-clause-counts : goal.compare_beside-requires-clause-counts
compare_beside-requires-clause-counts g c κs within = c.requires.run.counts_are

pub compare_beside-requires-clause-compare : goal.compare_beside-requires-clause-compare
compare_beside-requires-clause-compare g c κs within = may-compare c.requires.run c.phases_fit.ensures (machine_of c.run_beside.new.runner) c.in_ok-ran.ensures.machine

pub returns-then-not-branch-clause-room : goal.returns-then-not-branch-clause-room
returns-then-not-branch-clause-room g c = record { before_is = refl; behind_is = refl; counts_is = refl; whole = c.in_ok-ran.ensures.whole; machine_is = c.in_ok-ran.ensures.machine }

pub returns-then-not-branch-clause-ticks : goal.returns-then-not-branch-clause-ticks
returns-then-not-branch-clause-ticks g c = ticks-told c.args.one.now.tried.items c.run_beside.new.tried.items c.args.steps.now c.run_beside.new.steps c.in_ok-ran.ensures.ticks

pub returns-then-not-branch-clause-most : goal.returns-then-not-branch-clause-most
returns-then-not-branch-clause-most g c = λ of.
    let kept = c.good_phase-goods.result in
    let run_laws : RunLaws = record {
      time = c.own_runs.ensures.time;
      runs = c.blocks_are_told.ensures.runs;
      join = c.blocks_are_told.ensures.join;
      whole = c.run_blocks_are_whole.ensures;
      are = c.shared_runs.ensures.runs;
      steps = c.slot_steps_go_on.ensures;
      slots = c.own_steps_of_slots.ensures.slots;
      numbers = c.run_numbers_go_on.ensures;
      tried = c.tried_steps_go_on.ensures;
      event = c.stretches_go_on.ensures.event;
    } in
    tried-there of c.phases_fit.ensures c.lockstep_is_beside.ensures.beside c.writes_stay.ensures.stay run_laws kept c.run_beside.new.tried.items c.args.steps.now c.run_beside.new.steps
    c.in_ok-ran.ensures.ticks (subst (λ (l : List RunApart). IsGoodPhase g.N.World.design of.place c.args.room.now.before l c.good_phase-goods.result) c.deref.ensures.value
    (c.good_phase-goods.ensures of.place of.beside.before_at)) c.in_ok-ran.ensures.most

pub note_block-requires-after_bounds : goal.note_block-requires-after_bounds
note_block-requires-after_bounds g c κs within = c.show-good.ensures.design

pub good_ended-ended-requires-clause-slot : goal.good_ended-ended-requires-clause-slot
good_ended-ended-requires-clause-slot g c κs within =
    let run = c.requires.run in
    let low = run.beside.before_at.within in
    let from = run.within.before_is in
    let to = run.within.through_is in
    omega (arith, low, from, to)

pub good_ended-ended-requires-clause-shown : goal.good_ended-ended-requires-clause-shown
good_ended-ended-requires-clause-shown g c κs within =
    let run = c.requires.run in
    record {
      place = run.place;
      block = run.block;
      rest = run.rest;
      within = run.within;
      parts = run.beside.parts;
      before_at = run.beside.before_at;
      behind_at = run.beside.behind_at;
      same = run.beside.same;
    }

pub overflow_sub-one : goal.overflow_sub-one
overflow_sub-one g c =
    let few : c.in-Some.taken ≤ c.args.one.now.spare = subst (λ (r : Option ℕ). IfSome r (λ t. t ≤ c.args.one.now.spare)) c.in-Some.is c.in_ok-ran.ensures.few in omega (arith, few)

pub returns-clause-took : goal.returns-clause-took
returns-clause-took g c = λ yes of.
    let design = g.N.World.design in
    let fault = fault_of c.args.fault in
    let room = c.args.room.now in
    let one = c.args.one.now in
    let taken = c.in-Some.taken in
    let runner = c.run_beside.new.runner in
    let told = c.run_beside.new.told in
    let new = c.compare_beside.new.own in
    let later = c.note_block.new.notes in
    let fit = c.phases_fit.ensures in
    let side = c.lockstep_is_beside.ensures.beside in
    let shown = of.beside.behind_at.shows in
    let there = state_there (good_machine design) (behind_events of.block of.rest of.place) in
    let few : taken ≤ one.spare = subst (λ (r : Option ℕ). IfSome r (λ t. t ≤ one.spare)) c.in-Some.is c.in_ok-ran.ensures.few in
    let kept = c.good_phase-goods.result in
    let ended = map process_number c.run_beside.new.beside.ended.items in
    let tried_new = c.run_beside.new.tried.items in
    let more = drop (length one.tried.items) tried_new in
    let good_ended = map run_process c.good_ended-ended.result.now in
    let laws : BlockLaws = record {
      compares = c.comparisons_tell.ensures;
      adds = c.lockstep_blocks.ensures.changes;
      causes = c.causes_agree.ensures;
      steps = c.steps_go_on.ensures;
    } in
    let run_laws : RunLaws = record {
      time = c.own_runs.ensures.time;
      runs = c.blocks_are_told.ensures.runs;
      join = c.blocks_are_told.ensures.join;
      whole = c.run_blocks_are_whole.ensures;
      are = c.shared_runs.ensures.runs;
      steps = c.slot_steps_go_on.ensures;
      slots = c.own_steps_of_slots.ensures.slots;
      numbers = c.run_numbers_go_on.ensures;
      tried = c.tried_steps_go_on.ensures;
      event = c.stretches_go_on.ensures.event;
    } in
    let is = subst (λ (l : List RunApart). IsGoodPhase g.N.World.design of.place c.args.room.now.before l c.good_phase-goods.result) c.deref.ensures.value
    (c.good_phase-goods.ensures of.place of.beside.before_at) in
    let beside = tells-goods of run_laws kept is in
    let ran = ran-beside of fit side c.writes_stay.ensures.stay taken runner told (goods of run_laws) (numbers of run_laws) kept.phase ended more
    (λ run.
    (subst
    (λ (r : Option ℕ).
    IfSome r (λ t.
    (run : MayRun (acts_beside room.behind) one.own room.runner) (runs : ℕ → List ProcessRun) (counts : ℕ → ℕ) → TellsBeside (machine_of room.runner) (state_of room.runner) runs counts kept →
    RanBlock (faulty_machine (machine_of room.runner).design fault) (acts_beside room.behind) run.put.faulty (state_of room.runner) runs counts kept.phase t runner told ended more)) c.in-Some.is
    c.in_ok-ran.ensures.ran) run (goods of run_laws) (numbers of run_laws) beside) in
    let compared = c.in_ok-compare_beside.ensures.compares c.if-not-branch.false there shown in
    let going = noted-goes of laws run_laws taken runner told kept ended more ran new compared later (one.spare - taken) c.moment-first.result c.moment-end.result c.changed.result.now
    (Shows c.show-good.result) c.moment-first.ensures c.moment-end.ensures c.changed.ensures (c.show-good.ensures.shows there shown) (spent taken one.spare few) c.in_ok-note_block.ensures.wider
    (c.in_ok-note_block.ensures.taken fault) (c.in_ok-note_block.ensures.told fault) in
    goes-there of laws run_laws taken runner told kept ended more ran new compared fit side c.own_runs.ensures.time later (one.spare - taken) tried_new c.note_ended.new.apart.items good_ended is
    (sym c.in_ok-ran.ensures.ticks.more)
    (c.good_ended-ended.ensures of.place of.block of.rest of.beside.before_at of.beside.parts of.beside.behind_at) (subst (λ (l : List ProcId). NotesEnded one.apart.items c.note_ended.new.apart.items (map process_number l) good_ended) c.as_slice.ensures.value c.in_ok-note_ended.ensures) going

pub returns-clause-fault : goal.returns-clause-fault
returns-clause-fault g c = λ yes. c.in_ok-compare_beside.ensures.fault c.if-not-branch.false

pub returns-clause-states : goal.returns-clause-states
returns-clause-states g c = λ yes. c.in_ok-compare_beside.ensures.states c.if-not-branch.false

pub returns-clause-room : goal.returns-clause-room
returns-clause-room g c = record { before_is = refl; behind_is = refl; counts_is = refl; whole = c.in_ok-ran.ensures.whole; machine_is = c.in_ok-ran.ensures.machine }

pub returns-clause-ticks : goal.returns-clause-ticks
returns-clause-ticks g c = ticks-told c.args.one.now.tried.items c.run_beside.new.tried.items c.args.steps.now c.run_beside.new.steps c.in_ok-ran.ensures.ticks

pub returns-clause-most : goal.returns-clause-most
returns-clause-most g c = λ of.
    let kept = c.good_phase-goods.result in
    let run_laws : RunLaws = record {
      time = c.own_runs.ensures.time;
      runs = c.blocks_are_told.ensures.runs;
      join = c.blocks_are_told.ensures.join;
      whole = c.run_blocks_are_whole.ensures;
      are = c.shared_runs.ensures.runs;
      steps = c.slot_steps_go_on.ensures;
      slots = c.own_steps_of_slots.ensures.slots;
      numbers = c.run_numbers_go_on.ensures;
      tried = c.tried_steps_go_on.ensures;
      event = c.stretches_go_on.ensures.event;
    } in
    tried-there of c.phases_fit.ensures c.lockstep_is_beside.ensures.beside c.writes_stay.ensures.stay run_laws kept c.run_beside.new.tried.items c.args.steps.now c.run_beside.new.steps
    c.in_ok-ran.ensures.ticks (subst (λ (l : List RunApart). IsGoodPhase g.N.World.design of.place c.args.room.now.before l c.good_phase-goods.result) c.deref.ensures.value
    (c.good_phase-goods.ensures of.place of.beside.before_at)) c.in_ok-ran.ensures.most
