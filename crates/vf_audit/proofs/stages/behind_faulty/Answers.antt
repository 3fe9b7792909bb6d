-- The faulty run breaks off, or stops.
use Rattle.std.proofs.Common.{arith}
use Rattle.text_lines.specs.Plain.{plain_texts}
use Rattle.vf_base.specs.declared.finding.Side.TheVariants.{Faulty}
use Rattle.cert_laws.specs.Valid.{lines_said}
use Rattle.vf_audit.specs.Cases.{case_design, case_plan, case_fault, case_claim}
use Rattle.vf_audit.proofs.Staging.{breaks-low, stops-low, faulty-breaks, faulty-stops}
use Rattle.vf_audit.proofs.stages.behind_faulty.Goals as goal

pub number_behind-requires : goal.number_behind-requires
number_behind-requires c =
    let case = c.args.case.now in
    let low = breaks-low (case_design case) (case_plan case) (case_fault case) (case_claim case) Faulty c.args.lines.now c.args.section.now c.in-Breaks.count c.requires.section c.in-Breaks.is in
    omega (arith, low, c.requires.room)

pub lines_from-rest-requires : goal.lines_from-rest-requires
lines_from-rest-requires c =
    let case = c.args.case.now in
    stops-low (case_design case) (case_plan case) (case_fault case) (case_claim case) Faulty c.args.lines.now c.args.section.now c.in-Stops.count c.in-Stops.shown c.requires.section c.in-Stops.is

pub returns-in-Breaks : goal.returns-in-Breaks
returns-in-Breaks c = λ good_run shows.
    let case = c.args.case.now in
    faulty-breaks (case_design case) (case_plan case) (case_fault case) (case_claim case) c.runs_tell.ensures.faulty good_run c.args.number c.in-Breaks.count c.number_behind.result
    (lines_said (plain_texts c.args.lines.now)) c.args.section.now c.requires.section c.in-Breaks.is c.number_behind.ensures

pub returns-in-Stops : goal.returns-in-Stops
returns-in-Stops c = λ good_run shows.
    let case = c.args.case.now in
    faulty-stops (case_design case) (case_plan case) (case_fault case) (case_claim case) c.runs_tell.ensures.faulty good_run c.args.number c.in-Stops.count c.number_behind-in-Stops.result
    (lines_said (plain_texts c.args.lines.now)) (lines_said (plain_texts c.lines_from-rest.result.now)) c.args.section.now c.in-Stops.shown c.follow_end.result c.requires.section c.in-Stops.is
    c.lines_from-rest.ensures.said c.number_behind-in-Stops.ensures (λ run none leaves. c.follow_end.ensures good_run run none shows leaves)
