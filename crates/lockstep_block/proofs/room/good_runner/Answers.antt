-- Nets and processes are of one design.
use Rattle.std.proofs.Common.{sym, ap, ◌∙◌}
use Rattle.v_design.specs.Designs.{Machine, good_machine}
use Rattle.net_state.specs.States.{machine_in}
use Rattle.lockstep_block.proofs.room.good_runner.Goals as goal

pub new-runner-requires : goal.new-runner-requires
new-runner-requires g c = record {
  kept = c.in_ok-table.ensures.kept;
  design = (c.in_ok-table.ensures.does (machine_in c.in_ok-nets.nets) (sym (ap (λ (m : Machine). m.design) c.in_ok-nets.ensures.machine))).design;
}

pub returns-clause-machine : goal.returns-clause-machine
returns-clause-machine g c = c.new-runner.ensures.machine ∙ c.in_ok-nets.ensures.machine ∙ ap good_machine (sym c.design-design.ensures.world)

pub returns-clause-whole : goal.returns-clause-whole
returns-clause-whole g c = c.new-runner.ensures.whole
