-- The section of a run, with a bound or without one.
use Rattle.std.proofs.Common.{None, sym, subst}
use Rattle.v_design.specs.Views.{machine_with}
use Rattle.text_lines.specs.Plain.{plain_texts}
use Rattle.cert_laws.specs.Valid.{lines_said}
use Rattle.cert_runs.specs.Sections.{SectionBy}
use Rattle.cert_runs.proofs.Standing.{asked-rules}
use Rattle.cert_runs.proofs.section.follow_section.Goals as goal

pub no_section-requires : goal.no_section-requires
no_section-requires g c = sym c.in_default.ensures

pub new-requires-clause-bound : goal.new-requires-clause-bound
new-requires-clause-bound g c = sym c.in-Some.ensures

pub returns-in_default : goal.returns-in_default
returns-in_default g c = c.no_section.ensures (machine_with c.args.design.now c.args.fault)

pub bounded_section-requires-clause-run : goal.bounded_section-requires-clause-run
bounded_section-requires-clause-run g c =
    let machine = machine_with c.args.design.now c.args.fault in
    let keeps = c.in_ok-run.ensures.before in
    record { machine = machine; run = None; keeps = keeps; times = c.times_grow.ensures.begins machine (asked-rules machine None c.in_ok-run.run' keeps) }

pub returns : goal.returns
returns g c =
    let machine = machine_with c.args.design.now c.args.fault in
    subst (λ asked. SectionBy asked machine (lines_said (plain_texts c.args.lines.now)) None c.in_ok-section.section) c.in_ok-run.ensures.asked
    (c.in_ok-section.ensures machine None c.in_ok-run.ensures.before)
