use Rattle.std.proofs.Common.{subst}
use Rattle.vf_base.specs.Base.{process_number}
use Rattle.v_design.specs.Designs.{FlatDesign}
use Rattle.run_ends.specs.RunEnds.{IsCodeAt}
use Rattle.block_events.proofs.runner.Runner.has_code.Goals as goal

pub returns : goal.returns
returns c =
    let found = c.has_code.ensures in
    (found.0, subst (λ (d : FlatDesign). IsCodeAt d (process_number c.args.process) found.0) c.requires.whole.design found.1)
