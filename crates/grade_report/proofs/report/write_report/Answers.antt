use Rattle.std.proofs.Common.{◌≡◌, ◌<◌, ◌≤◌, ◌++◌, ◌∷◌, [], ap, length, arith, codes}
use Rattle.v_design.specs.PlainDesigns.{design_of}
use Rattle.grade_report.specs.Report.{total_line}
use Rattle.v_design.specs.Findings.{grades_of}
use Rattle.grade_report.proofs.Lines.{lines-more, lines-done, in-order-count}
use Rattle.grade_report.proofs.report.write_report.Goals as goal

pub bounds-faults-number : goal.bounds-faults-number
bounds-faults-number c =
    let count : length c.args.findings.now ≡ length c.args.plan.now.faults = in-order-count c.args.plan.now.faults c.args.findings.now c.requires in
    let same : length c.as_slice-faults.result.now ≡ length c.args.plan.now.faults = ap length c.as_slice-faults.ensures in
    omega arith

pub findings-preserved : goal.findings-preserved
findings-preserved c =
    let count : length c.args.findings.now ≡ length c.args.plan.now.faults = in-order-count c.args.plan.now.faults c.args.findings.now c.requires in
    let same : length c.as_slice-faults.result.now ≡ length c.args.plan.now.faults = ap length c.as_slice-faults.ensures in
    lines-more (design_of c.args.design.now) c.as_slice-faults.result.now c.args.findings.now c.findings.number _ _ (codes "vfault 1" ++ 10 ∷ []) c.findings.out.items c.write_line.new.out.items
    (omega arith) c.findings-test.true c.findings.invariant c.in_ok-write_line.ensures

pub returns : goal.returns
returns c =
    let count : length c.args.findings.now ≡ length c.args.plan.now.faults = in-order-count c.args.plan.now.faults c.args.findings.now c.requires in
    let same : length c.as_slice-faults.result.now ≡ length c.args.plan.now.faults = ap length c.as_slice-faults.ensures in
    let past : length c.args.findings.now ≤ c.findings.number = c.findings-test.false in
    lines-done (design_of c.args.design.now) c.args.plan.now.faults c.as_slice-faults.result.now c.args.findings.now c.findings.number
    (codes "vfault 1" ++ 10 ∷ []) c.findings.out.items c.append_total.new.out.items
    (total_line (grades_of c.args.findings.now)) c.as_slice-faults.ensures (omega arith) past c.findings.invariant c.in_ok-append_total.ensures
