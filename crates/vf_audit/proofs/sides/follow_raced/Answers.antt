-- What is shown of a race is what is claimed of it.
use Rattle.std.proofs.Common.{◌∙◌}
use Rattle.v_design.specs.Views.{machine_with}
use Rattle.text_lines.specs.Plain.{plain_texts}
use Rattle.cert_laws.specs.Valid.{moves_of, lines_said}
use Rattle.cert_text.specs.Views.{access_said}
use Rattle.cert_runs.specs.Asking.{TellsConflict}
use Rattle.cert_runs.specs.declared.asked.Asked.TheVariants as asks
use Rattle.vf_audit.specs.Cases.{case_design, case_plan, case_fault}
use Rattle.vf_audit.proofs.Sections.{section-for, raced-section, accesses-told}
use Rattle.vf_audit.proofs.sides.follow_raced.Goals as goal

pub returns : goal.returns
returns g c =
    let case = c.args.case.now in
    let race = c.args.race.now in
    let machine = machine_with case.design.now c.fault_on-fault.result in
    let lines = lines_said (plain_texts c.args.lines.now) in
    let first = access_said race.first in
    let second = access_said race.second in
    raced-section (case_design case) (case_plan case) (case_fault case) race.side machine race.time race.phase first second lines c.in_ok-section.section (c.fault_on-fault.ensures case.design.now)
    (section-for (asks.Conflict race.time race.phase c.as_slice.result c.as_slice-2.result) machine lines c.in_ok-section.section
    (λ run found. TellsConflict machine race.time race.phase first second (moves_of run) found)
    (λ run found t. accesses-told machine race.time race.phase first second c.as_slice.result.now c.as_slice-2.result.now (moves_of run) found
    (c.as_slice.ensures.value ∙ c.in_ok-first.ensures) (c.as_slice-2.ensures.value ∙ c.in_ok-second.ensures) t) c.in_ok-section.ensures)
