-- What is asked is of the plan, and what is shown is what is claimed of it.
use Rattle.std.proofs.Common.{◌<◌, sym, ap, subst, map}
use Rattle.vf_base.specs.Base.{WatchedBit, watched_bit}
use Rattle.vf_base.specs.Lists.{AllHold}
use Rattle.v_design.specs.Designs.{width_in}
use Rattle.v_design.specs.RulesHold.{plan_rules_hold}
use Rattle.v_design.specs.Views.{machine_with}
use Rattle.v_design.specs.WellFormed.{IsAscending}
use Rattle.text_lines.specs.Plain.{plain_texts}
use Rattle.cert_laws.specs.Valid.{moves_of, lines_said}
use Rattle.cert_runs.specs.Asking.{AreSamples}
use Rattle.cert_runs.specs.declared.asked.Asked.TheVariants as asks
use Rattle.vf_audit.specs.Cases.{case_design, case_plan, case_fault}
use Rattle.vf_audit.proofs.Sections.{section-for, judged-section, samples-shown}
use Rattle.vf_audit.proofs.sides.follow_judged.Goals as goal

pub follow_section-requires-clause-asked : goal.follow_section-requires-clause-asked
follow_section-requires-clause-asked g c =
    let case = c.args.case.now in
    let plan = case_plan case in (
      subst (λ watched. AllHold (λ (w : WatchedBit). w.bit < width_in (case_design case) w.object) (map watched_bit watched)) (sym c.as_slice.ensures) c.requires.case.plan.watched,
      subst IsAscending (sym c.as_slice-2.ensures) (plan_rules_hold plan case.plan.now.rules).ascending,
    )

pub returns : goal.returns
returns g c = λ given low.
    let case = c.args.case.now in
    let plan = case_plan case in
    let machine = machine_with case.design.now c.fault_on-fault.result in
    let lines = lines_said (plain_texts c.args.lines.now) in
    judged-section (case_design case) plan (case_fault case) given c.args.side machine c.args.bound lines c.in_ok-section.section (c.fault_on-fault.ensures case.design.now) low
    (section-for (asks.Samples c.args.bound c.as_slice.result c.as_slice-2.result) machine lines c.in_ok-section.section
    (λ run found. AreSamples machine plan.watched plan.strobes c.args.bound (moves_of run) found)
    (λ run found s. samples-shown machine plan.watched (map watched_bit c.as_slice.result.now) plan.strobes c.as_slice-2.result.now c.args.bound (moves_of run) found
    (ap (map watched_bit) c.as_slice.ensures) c.as_slice-2.ensures s) c.in_ok-section.ensures)
