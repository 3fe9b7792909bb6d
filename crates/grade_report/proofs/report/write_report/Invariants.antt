use Rattle.std.proofs.Common.{◌≡◌, ◌++◌, ◌∷◌, [], map, take, codes}
use Rattle.v_design.specs.Plain.{fault_of}
use Rattle.v_design.specs.PlainDesigns.{design_of}
use Rattle.grade_report.specs.Report.{fault_lines}
use Rattle.v_design.specs.Findings.{grades_of}
use Rattle.grade_report.proofs.report.write_report.Given as goal

abbrev pub invariant-findings : goal.invariant-findings
invariant-findings l = l.out.items ≡ (codes "vfault 1" ++ 10 ∷ []) ++ fault_lines (design_of l.design) (map fault_of (take l.number l.faults)) (grades_of (take l.number l.findings))
