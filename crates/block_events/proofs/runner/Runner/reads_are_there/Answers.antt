-- A value is there for each object.
use Rattle.std.proofs.Common.{◌∙◌, ◌<◌, ℕ, length, sym, ap, subst}
use Rattle.std.specs.Prelude.{IfSome}
use Rattle.v_design.specs.Designs.{FlatDesign}
use Rattle.v_design.specs.States.{step_of}
use Rattle.process_table.specs.Deeds.{read_of}
use Rattle.block_events.specs.Runners.{machine_of, state_of}
use Rattle.block_events.proofs.Nodes.{both-of, object-count}
use Rattle.block_events.proofs.runner.Runner.reads_are_there.Goals as goal

pub returns : goal.returns
returns c = λ process.
    let runner = c.args.self.now in
    subst (λ (n : ℕ). IfSome (read_of (step_of (machine_of runner) (state_of runner) process).action) (λ (object : ℕ). object < n))
    (ap (λ (d : FlatDesign). length d.objects) c.requires.design ∙ sym (object-count runner))
    (c.reads_are_there.ensures (machine_of runner) (state_of runner) (both-of runner c.requires).table_is process)
