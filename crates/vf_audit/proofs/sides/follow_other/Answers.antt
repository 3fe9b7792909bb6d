-- Nothing is asked of this run.
use Rattle.v_design.specs.Views.{machine_with}
use Rattle.text_lines.specs.Plain.{plain_texts}
use Rattle.cert_laws.specs.Valid.{lines_said}
use Rattle.cert_text.specs.Views.{access_said}
use Rattle.cert_runs.specs.declared.asked.Asked.TheVariants as asks
use Rattle.vf_audit.specs.Cases.{case_design, case_plan, case_fault}
use Rattle.vf_audit.proofs.Sections.{section-for, other-section}
use Rattle.vf_audit.proofs.sides.follow_other.Goals as goal

pub returns : goal.returns
returns g c =
    let case = c.args.case.now in
    let race = c.args.race.now in
    let machine = machine_with case.design.now c.fault_on-fault.result in
    let lines = lines_said (plain_texts c.args.lines.now) in
    other-section (case_design case) (case_plan case) (case_fault case) race.side c.args.side machine race.time race.phase (access_said race.first) (access_said race.second) lines
    c.in_ok-section.section (c.fault_on-fault.ensures case.design.now) c.requires.other
    (section-for asks.Nothing machine lines c.in_ok-section.section (λ run found. Unit {0}) (λ run found s. tt) c.in_ok-section.ensures)
