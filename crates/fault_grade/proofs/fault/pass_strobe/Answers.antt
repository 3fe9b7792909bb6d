-- The faulty machine at a strobe.
use Rattle.std.proofs.Common.{Some, None, ap, sym, subst, ◌∙◌}
use Rattle.vf_base.specs.Lists.{AllHold}
use Rattle.v_design.specs.Designs.{Machine}
use Rattle.v_design.specs.Grades.{samples}
use Rattle.v_design.specs.Plain.{grade_of}
use Rattle.strobe_detect.specs.Graders.{shown_at}
use Rattle.machine.specs.Standing.{machine_kept, state_kept}
use Rattle.fault_grade.specs.Benches.{IsObjectOf}
use Rattle.kept_samples.specs.Plain.{sample_of}
use Rattle.fault_grade.specs.Beside.{answered, values-watched}
use Rattle.fault_grade.proofs.Gradings.{passes-stopped, passes-hard, passes-on}
use Rattle.fault_grade.proofs.Ticks.{ticked-known, stopped-before}
use Rattle.fault_grade.proofs.fault.pass_strobe.Goals as goal

pub returns-in-Some-clause-passes : goal.returns-in-Some-clause-passes
returns-in-Some-clause-passes g c = λ design plan fault next at.
    passes-stopped design plan fault c.args.machine.now c.advance.new.machine (sample_of c.args.sample.now) next c.args.grader.now at c.in-Some.stop c.end_by_faulty.result
    (answered c.args.sample.now.time c.args.machine.now c.advance.new.machine c.in_ok-stop.field-0 (Some c.in-Some.stop) c.in-Some.is c.in_ok-stop.ensures.advanced) c.end_by_faulty.ensures

pub strobe_kept-hard-requires-clause-faulty : goal.strobe_kept-hard-requires-clause-faulty
strobe_kept-hard-requires-clause-faulty g c =
    let advanced = answered c.args.sample.now.time c.args.machine.now c.advance.new.machine c.in_ok-stop.field-0 None c.in_default.is c.in_ok-stop.ensures.advanced in
    values-watched c.advance.new.machine c.args.grader.now.watched advanced.1.2.standing.values
    (subst (λ (machine : Machine). AllHold (IsObjectOf machine.design) c.args.grader.now.watched) (sym advanced.0) c.requires.watched)

pub returns-then-hard-clause-passes : goal.returns-then-hard-clause-passes
returns-then-hard-clause-passes g c = λ design plan fault next at.
    passes-hard design plan fault c.args.machine.now c.advance.new.machine (sample_of c.args.sample.now) next c.args.grader.now at c.strobe_kept-hard.new.self
    (answered c.args.sample.now.time c.args.machine.now c.advance.new.machine c.in_ok-stop.field-0 None c.in_default.is c.in_ok-stop.ensures.advanced)
    (c.strobe_kept-hard.ensures.state ∙ ap (λ bits. shown_at c.args.sample.now.time bits (samples c.args.grader.now.watched (state_kept c.advance.new.machine).values) c.args.grader.now)
    c.as_slice.ensures)
    (c.strobe_kept-hard.ensures.stands.0 c.if-hard.true)

pub returns-clause-passes : goal.returns-clause-passes
returns-clause-passes g c = λ design plan fault next at.
    passes-on design plan fault c.args.machine.now c.advance.new.machine (sample_of c.args.sample.now) next c.args.grader.now at c.strobe_kept-hard.new.self
    (answered c.args.sample.now.time c.args.machine.now c.advance.new.machine c.in_ok-stop.field-0 None c.in_default.is c.in_ok-stop.ensures.advanced)
    (c.strobe_kept-hard.ensures.state ∙ ap (λ bits. shown_at c.args.sample.now.time bits (samples c.args.grader.now.watched (state_kept c.advance.new.machine).values) c.args.grader.now)
    c.as_slice.ensures)
    (λ some. let h = c.strobe_kept-hard.ensures.stands.1 some in let f = c.if-hard.false in cc)

pub returns-in-Some-clause-ticks : goal.returns-in-Some-clause-ticks
returns-in-Some-clause-ticks g c = λ start t last h.
    stopped-before start last c.advance.new.steps (machine_kept c.args.machine.now) c.in-Some.stop (grade_of c.end_by_faulty.result) c.end_by_faulty.ensures
    (ticked-known start c.args.sample.now.time c.advance.new.steps c.args.machine.now c.advance.new.machine c.in_ok-stop.field-0 (Some c.in-Some.stop) c.in-Some.is (c.in_ok-stop.ensures.ticks start t) last h)

pub returns-then-hard-clause-ticks : goal.returns-then-hard-clause-ticks
returns-then-hard-clause-ticks g c = λ start t last h.
    (ticked-known start c.args.sample.now.time c.advance.new.steps c.args.machine.now c.advance.new.machine c.in_ok-stop.field-0 None c.in_default.is (c.in_ok-stop.ensures.ticks start t)).0

pub returns-clause-ticks : goal.returns-clause-ticks
returns-clause-ticks g c = λ start t.
    (ticked-known start c.args.sample.now.time c.advance.new.steps c.args.machine.now c.advance.new.machine c.in_ok-stop.field-0 None c.in_default.is (c.in_ok-stop.ensures.ticks start t)).1
