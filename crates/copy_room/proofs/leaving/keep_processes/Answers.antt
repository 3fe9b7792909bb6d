-- One process more.
use Rattle.std.proofs.Common.{◌+◌, refl, ap, ◌∙◌}
use Rattle.v_design.specs.States.{process_at}
use Rattle.copy_state.specs.Kept.{CopyKept}
use Rattle.between_slots.specs.Between.{state_through}
use Rattle.copy_between.specs.Differing.{IsDifference}
use Rattle.copy_between.specs.DifferingLaws.{kept-first, kept-more}
use Rattle.copy_between.specs.Beside.{TellsOwn}
use Rattle.machine.specs.Standing.{state_kept}
use Rattle.copy_room.proofs.leaving.keep_processes.Goals as goal

pub processes-init : goal.processes-init
processes-init g c =
    let good = state_through g.N.World.design g.N.World.plan (c.args.window.now.before + c.args.slot) in
    let own = state_kept c.args.room.now in
    record {
      rest = refl;
      states = kept-first (λ process. TellsOwn g.N.World.design process (process_at good process).activity (process_at own process).activity) c.args.copy.now.states;
      updates = kept-first (λ process. IsDifference (process_at good process).later (process_at own process).later) c.args.copy.now.updates;
    }

pub processes-preserved : goal.processes-preserved
processes-preserved g c =
    let good = state_through g.N.World.design g.N.World.plan (c.args.window.now.before + c.args.slot) in
    let own = state_kept c.args.room.now in
    let old = c.args.copy.now in
    let now = c.processes.copy in
    let new = c.keep_process.new.copy in
    let n = c.processes.number in
    record {
      rest = c.in_ok-keep_process.ensures.rest ∙ ap (λ (k : CopyKept). record k { states = new.states; updates = new.updates }) c.processes.invariant.rest;
      states = kept-more (λ process. TellsOwn g.N.World.design process (process_at good process).activity (process_at own process).activity) n old.states now.states new.states
          c.processes.invariant.states c.in_ok-keep_process.ensures.states;
      updates = kept-more (λ process. IsDifference (process_at good process).later (process_at own process).later) n old.updates now.updates new.updates c.processes.invariant.updates
          c.in_ok-keep_process.ensures.updates;
    }
