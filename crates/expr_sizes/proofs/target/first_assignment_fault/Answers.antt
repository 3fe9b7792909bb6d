use Rattle.expr_sizes.proofs.target.first_assignment_fault.Goals as goal

pub returns : goal.returns
returns c reading of_value h k =
    c.first_fault.ensures _ _ (c.together.ensures reading.here reading.inside of_value.here of_value.inside h.faults_are k.faults_are)
