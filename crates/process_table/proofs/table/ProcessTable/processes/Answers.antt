use Rattle.std.proofs.Common.{length, ap, arith}
use Rattle.std.proofs.lemmas.List.{length-map}
use Rattle.v_design.specs.Plain.{process_of}
use Rattle.process_table.proofs.table.ProcessTable.processes.Goals as goal

pub returns : goal.returns
returns c = omega (arith, ap length c.as_slice.ensures, length-map c.args.self.now.design.now.processes process_of)
