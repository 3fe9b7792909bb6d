use Rattle.std.proofs.Common.{◌∙◌, length, ap}
use Rattle.v_design.specs.Designs.{FlatDesign}
use Rattle.block_events.proofs.runner.Runner.processes.Goals as goal

pub returns : goal.returns
returns c = c.processes.ensures ∙ ap (λ (d : FlatDesign). length d.processes) c.requires.design
