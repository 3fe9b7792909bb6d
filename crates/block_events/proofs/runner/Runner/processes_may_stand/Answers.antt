-- The table's processes are the state's.
use Rattle.std.proofs.Common.{subst}
use Rattle.v_design.specs.Designs.{FlatDesign}
use Rattle.process_table.specs.Arranged.{table_of}
use Rattle.process_table.specs.Puts.{MayStand}
use Rattle.process_table.specs.Tables.{process_in}
use Rattle.block_events.proofs.runner.Runner.processes_may_stand.Goals as goal

pub returns : goal.returns
returns c = λ number.
    let table = table_of c.args.self.now.table in
    subst (λ (design : FlatDesign). MayStand design table.time number (process_in table number)) c.requires.design (c.processes_may_stand.ensures number)
