-- After the last strobe.
use Rattle.std.proofs.Common.{◌≤◌, Option, Some, None, ap, sym, subst, ◌∙◌}
use Rattle.v_design.specs.Grades.{Judged}
use Rattle.v_design.specs.Plain.{grade_of}
use Rattle.vf_base.specs.declared.finding.Pair.{Pair}
use Rattle.grade_laws.specs.Grading.{StopsWithin}
use Rattle.machine.specs.Standing.{machine_kept}
use Rattle.fault_grade.specs.Stops.{race_if}
use Rattle.fault_grade.specs.Gradings.{last_before}
use Rattle.fault_grade.specs.Ticks.{last_bound}
use Rattle.fault_grade.specs.Beside.{advanced-to}
use Rattle.fault_grade.proofs.Gradings.{ends-stopped, ends-race, ends-judged}
use Rattle.fault_grade.proofs.Ticks.{late-stops, late-race, late-ends, ticked-to, stopped-before, judged-before}
use Rattle.fault_grade.proofs.fault.finish.Goals as goal

pub returns-in-Some-clause-grade : goal.returns-in-Some-clause-grade
returns-in-Some-clause-grade g c = λ design plan fault same_end at stops within.
    ends-stopped design plan fault c.args.machine.now c.advance_to.new.machine c.args.grader.now at c.args.race c.in-Some.stop c.end_by_faulty.result
    (advanced-to c.last_time.result (last_before c.args.race plan.end) c.args.machine.now c.advance_to.new.machine c.in_ok-stop.field-0 (Some c.in-Some.stop)
    (c.last_time.ensures ∙ ap (last_before c.args.race) (sym same_end)) c.in-Some.is c.in_ok-stop.ensures.advanced)
    stops within c.end_by_faulty.ensures

pub returns-in-Some-race-clause-grade : goal.returns-in-Some-race-clause-grade
returns-in-Some-race-clause-grade g c = λ design plan fault same_end at stops within.
    let pair = c.in-Some-race.pair in
    ends-race design plan fault c.args.machine.now c.advance_to.new.machine c.args.grader.now at pair
    (advanced-to c.last_time.result (last_before (Some pair) plan.end) c.args.machine.now c.advance_to.new.machine c.in_ok-stop.field-0 None
    (c.last_time.ensures ∙ ap (λ (race : Option Pair). last_before race c.args.end) c.in-Some-race.is ∙ ap (last_before (Some pair)) (sym same_end)) c.in_default.is c.in_ok-stop.ensures.advanced)
    (stops ∙ ap race_if c.in-Some-race.is) (subst (λ (race : Option Pair). StopsWithin plan.end (race_if race)) c.in-Some-race.is within)

pub returns-in-None-clause-grade : goal.returns-in-None-clause-grade
returns-in-None-clause-grade g c = λ design plan fault same_end at stops within.
    ends-judged design plan fault c.args.machine.now c.advance_to.new.machine c.args.grader.now at
    (advanced-to c.last_time.result (last_before None plan.end) c.args.machine.now c.advance_to.new.machine c.in_ok-stop.field-0 None
    (c.last_time.ensures ∙ ap (λ (race : Option Pair). last_before race c.args.end) c.in-None.is ∙ ap (last_before None) (sym same_end)) c.in_default.is c.in_ok-stop.ensures.advanced)
    (stops ∙ ap race_if c.in-None.is)
    ∙ sym (ap (λ line. Some line) (c.end_by_strobes.ensures ∙ ap Judged c.verdict.ensures.state))

pub returns-in-Some-clause-ticks : goal.returns-in-Some-clause-ticks
returns-in-Some-clause-ticks g c = λ start since h within none t.
    let race = c.args.race in
    let last = last_before race c.args.end in
    stopped-before start c.args.end c.advance_to.new.steps (machine_kept c.args.machine.now) c.in-Some.stop (grade_of c.end_by_faulty.result) c.end_by_faulty.ensures
    (late-stops start since c.args.end c.args.steps.now c.advance_to.new.steps race c.args.machine.now c.advance_to.new.machine c.in-Some.stop h within t
    (advanced-to c.last_time.result last c.args.machine.now c.advance_to.new.machine c.in_ok-stop.field-0 (Some c.in-Some.stop) c.last_time.ensures c.in-Some.is c.in_ok-stop.ensures.advanced)
    (ticked-to start c.last_time.result last c.args.machine.now c.advance_to.new.machine c.args.steps.now c.advance_to.new.steps c.in_ok-stop.field-0 (Some c.in-Some.stop) c.last_time.ensures
    c.in-Some.is (c.in_ok-stop.ensures.ticks start)))

pub returns-in-Some-race-clause-ticks : goal.returns-in-Some-race-clause-ticks
returns-in-Some-race-clause-ticks g c = λ start since h within none t.
    let pair = c.in-Some-race.pair in
    late-race start since c.args.end c.args.steps.now c.advance_to.new.steps pair c.args.machine.now c.advance_to.new.machine
    (subst (λ (race : Option Pair). since ≤ last_bound race c.args.end) c.in-Some-race.is h) t
    (ticked-to start c.last_time.result (last_before (Some pair) c.args.end) c.args.machine.now c.advance_to.new.machine c.args.steps.now c.advance_to.new.steps c.in_ok-stop.field-0 None
    (c.last_time.ensures ∙ ap (λ (race : Option Pair). last_before race c.args.end) c.in-Some-race.is) c.in_default.is (c.in_ok-stop.ensures.ticks start))

pub returns-in-None-clause-ticks : goal.returns-in-None-clause-ticks
returns-in-None-clause-ticks g c = λ start since h within none t.
    let grader = c.args.grader.now in
    judged-before start c.args.end c.advance_to.new.steps (machine_kept c.args.machine.now) grader.hard grader.possible (grade_of c.end_by_strobes.result) none
    (c.end_by_strobes.ensures ∙ ap Judged c.verdict.ensures.state)
    (late-ends start since c.args.end c.args.steps.now c.advance_to.new.steps c.args.machine.now c.advance_to.new.machine
    (subst (λ (race : Option Pair). since ≤ last_bound race c.args.end) c.in-None.is h) t
    (ticked-to start c.last_time.result (Some c.args.end) c.args.machine.now c.advance_to.new.machine c.args.steps.now c.advance_to.new.steps c.in_ok-stop.field-0 None
    (c.last_time.ensures ∙ ap (λ (race : Option Pair). last_before race c.args.end) c.in-None.is) c.in_default.is (c.in_ok-stop.ensures.ticks start)))
