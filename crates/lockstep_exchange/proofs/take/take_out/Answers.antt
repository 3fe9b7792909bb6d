-- The state is the good one.
use Rattle.std.proofs.Common.{ap, ◌∙◌}
use Rattle.std.specs.Prelude.{None}
use Rattle.v_design.specs.Designs.{Machine}
use Rattle.block_events.specs.Runners.{machine_of, state_of}
use Rattle.lockstep_exchange.proofs.Fits.{shown-fits}
use Rattle.lockstep_exchange.proofs.Whole.{taken-out}
use Rattle.lockstep_exchange.proofs.take.take_out.Goals as goal

pub restore_values-requires-clause-fits : goal.restore_values-requires-clause-fits
restore_values-requires-clause-fits g c =
    shown-fits (machine_of c.args.runner.now).design (g.S.ShownState.shows c.args.good.now) c.args.own.now (state_of c.args.runner.now) c.requires.taken

pub returns-clause-machine : goal.returns-clause-machine
returns-clause-machine g c = c.set_fault.ensures.machine ∙ ap (λ (m : Machine). record m { fault = None }) c.restore_values.ensures.machine

pub returns-clause-state : goal.returns-clause-state
unfolding shown-fits
returns-clause-state g c = λ of.
    let now = state_of c.args.runner.now in
    let shows = g.S.ShownState.shows c.args.good.now in
    let design = (machine_of c.args.runner.now).design in
    c.set_fault.ensures.state
    ∙ taken-out c.differences_are_one.ensures design shows c.args.own.now now (state_of c.restore_values.new.runner) of
    (c.restore_values.ensures.state (shown-fits design shows c.args.own.now now of))
