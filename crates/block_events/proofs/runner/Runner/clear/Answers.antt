-- The parts agree when they are cleared.
use Rattle.std.proofs.Common.{◌∙◌, map, sym, ap}
use Rattle.v_design.specs.Designs.{FlatDesign, FlatProcess, Machine}
use Rattle.v_design.specs.States.{idle_process}
use Rattle.process_table.specs.Tables.{TableState}
use Rattle.block_events.proofs.runner.Runner.clear.Goals as goal

pub returns-clause-state : goal.returns-clause-state
returns-clause-state c =
    let processes = ap (λ (t : TableState). t.processes) c.clear.ensures.table ∙ ap (λ (d : FlatDesign). map (λ (process : FlatProcess). idle_process) d.processes) c.requires.design in
    λ i. record { time = (c.clear.ensures.table i).time; values = c.unmark_all.ensures.values i; nodes = c.unmark_all.ensures.nodes i; processes = processes i }

pub returns-clause-whole : goal.returns-clause-whole
returns-clause-whole c = record {
  kept = c.clear.ensures.kept;
  design = ap (λ (t : TableState). t.design) c.clear.ensures.table ∙ c.requires.design ∙ sym (ap (λ (k : Machine). k.design) c.unmark_all.ensures.machine);
}
