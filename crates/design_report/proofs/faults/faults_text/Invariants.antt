use Rattle.std.proofs.Common.{◌≡◌, take}
use Rattle.v_design.specs.PlainDesigns.{design_of}
use Rattle.fault_list.specs.Listed.{stuck}
use Rattle.design_report.specs.Texts.{class_lines}
use Rattle.design_report.proofs.faults.faults_text.Given as goal

abbrev pub invariant-faults : goal.invariant-faults
invariant-faults l = l.out.items ≡ class_lines (design_of l.design) (stuck (take l.number l.faults)) (take l.number l.places)
