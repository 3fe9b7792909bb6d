-- A run that is found is told of; past the last phase there is none.
use Rattle.std.proofs.Common.{◌+◌, sym, subst, arith}
use Rattle.std.specs.Prelude.{Option, Some, slice_get}
use Rattle.std.specs.Option.{option_map}
use Rattle.vf_base.specs.Base.{process_number}
use Rattle.v_design.specs.Designs.{good_machine}
use Rattle.v_design.specs.Grades.{Phase}
use Rattle.v_design.specs.OwnSteps.{process_runs}
use Rattle.window_runs.specs.OfPhase.{TellsGoodRun}
use Rattle.window_runs.specs.OfSlot.{run_in}
use Rattle.window_runs.proofs.Slots.{has-runs, none-past, number-fits, phase-tells}
use Rattle.window_runs.proofs.slot.SlotRuns.run.Goals as goal

pub run-requires : goal.run-requires
run-requires c = has-runs (process_number c.args.process) c.args.phase c.args.self.now c.requires c.if-phase-self.false

pub returns : goal.returns
returns c = λ design time phases tells.
    let found = phase-tells design time phases c.args.self.now tells c.args.phase c.if-phase-self.false in
    subst (λ (o : Option Phase). TellsGoodRun design time (process_number c.args.process) (run_in (good_machine design) o (process_number c.args.process) c.args.number) (option_map (λ run. run.now) c.run.result))
    (sym found.1) (c.run.ensures design time (λ process. process_runs (good_machine design) process found.0) found.2)
