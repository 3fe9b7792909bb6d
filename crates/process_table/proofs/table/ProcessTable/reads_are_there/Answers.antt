use Rattle.process_table.proofs.Readings.{reads-there}
use Rattle.process_table.proofs.table.ProcessTable.reads_are_there.Goals as goal

pub returns : goal.returns
returns c = λ machine state of process. reads-there c.args.self.now c.requires machine state of process
