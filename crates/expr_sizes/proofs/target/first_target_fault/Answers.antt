use Rattle.expr_sizes.proofs.target.first_target_fault.Goals as goal

pub returns : goal.returns
returns c reading h = c.first_fault.ensures reading.here reading.inside h.faults_are
