use Rattle.expr_sizes.proofs.reading.ExprReading.first_fault.Goals as goal

pub returns : goal.returns
returns c reading h = c.first_fault.ensures reading.here reading.inside h.faults_are
