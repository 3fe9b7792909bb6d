-- The grading begins with its machine's start.
use Rattle.std.proofs.Common.{◌≡◌, ℕ, List, None, map, refl, ap, sym, subst, ◌∙◌}
use Rattle.std.specs.Prelude.{Some}
use Rattle.vf_base.specs.Base.{watched_bit}
use Rattle.v_design.specs.Designs.{Machine, StuckAt, faulty_machine}
use Rattle.v_design.specs.States.{start}
use Rattle.v_design.specs.Plain.{fault_of}
use Rattle.v_design.specs.RulesHold.{rules_hold, plan_rules_hold}
use Rattle.v_design.specs.WellFormed.{KeepsRules}
use Rattle.order_laws.specs.FirstRuns.{FirstRunsGoOn}
use Rattle.strobe_detect.specs.Graders.{GraderState}
use Rattle.grade_laws.specs.Grading.{IsGoodRun}
use Rattle.machine.specs.Standing.{IsStanding, machine_kept, begins_next}
use Rattle.machine.specs.declared.parts.Machine.{Machine as Simulated}
use Rattle.fault_grade.specs.declared.bench.Bench.{Bench}
use Rattle.fault_grade.specs.declared.good.GoodSamples.{GoodSamples}
use Rattle.fault_grade.specs.Benches.{IsBench, bench_design, bench_plan}
use Rattle.fault_grade.specs.Stops.{race_if}
use Rattle.fault_grade.specs.Samples.{samples_kept}
use Rattle.fault_grade.specs.Gradings.{IsGradable}
use Rattle.fault_grade.specs.Ticks.{IsTicked}
use Rattle.fault_grade.specs.Beside.{objects-watched}
use Rattle.fault_grade.proofs.Gradings.{grading-begins}
use Rattle.fault_grade.proofs.Ticks.{begins-ticked}
use Rattle.fault_grade.proofs.fault.grade_fault.Goals as goal

gradable : FirstRunsGoOn → (bench : Bench) (good : GoodSamples) (fault : StuckAt) (m : Simulated) (grader : GraderState) → IsBench bench →
    IsGoodRun (bench_design bench) (bench_plan bench) (samples_kept good) (race_if good.race) → machine_kept m ≡ faulty_machine (bench_design bench) fault →
    begins_next m ≡ Some (start (faulty_machine (bench_design bench) fault)) → IsStanding m → grader ≡ record { watched = (bench_plan bench).watched; hard = None; possible = None } →
    IsGradable good bench.plan.now.end m grader
gradable law bench good fault m grader of_bench run same begins standing is =
    let design = bench_design bench in
    let plan = bench_plan bench in
    record {
      design = design;
      plan = plan;
      fault = fault;
      rules = plan_rules_hold plan bench.plan.now.rules;
      watched = objects-watched design plan.watched of_bench.plan.watched;
      end_is = refl;
      at = grading-begins law design plan fault m (samples_kept good) (race_if good.race) grader (rules_hold design bench.design.now.rules) (plan_rules_hold plan bench.plan.now.rules) same begins
          standing run is;
      stop_is = run.stop_is;
      within = run.within;
    }

-- a machine at its start has run nothing
started : FirstRunsGoOn → (bench : Bench) (fault : StuckAt) (m : Simulated) (counter : ℕ) → machine_kept m ≡ faulty_machine (bench_design bench) fault →
    begins_next m ≡ Some (start (faulty_machine (bench_design bench) fault)) → IsTicked counter 0 m counter
started law bench fault m counter same begins =
    begins-ticked law m counter (subst (λ (k : Machine). KeepsRules k.design) (sym same) (rules_hold (bench_design bench) bench.design.now.rules)) (begins ∙ ap (λ k. Some (start k)) (sym same))

pub grade_on-requires : goal.grade_on-requires
grade_on-requires g c =
    gradable c.first_run_goes_on.ensures c.args.bench.now c.args.good.now (fault_of c.args.fault) c.in_ok-machine.machine c.new-grader.result c.requires.bench c.requires.good
    c.in_ok-machine.ensures.machine c.in_ok-machine.ensures.begins c.in_ok-machine.ensures.standing
    (let State : List _ → GraderState = λ watched. record { watched = map watched_bit watched; hard = None; possible = None } in c.new-grader.ensures.state ∙ ap State c.as_slice.ensures)

pub returns-clause-grade : goal.returns-clause-grade
unfolding gradable
returns-clause-grade g c =
    c.in_ok-end.ensures.grade
    (gradable c.first_run_goes_on.ensures c.args.bench.now c.args.good.now (fault_of c.args.fault) c.in_ok-machine.machine c.new-grader.result c.requires.bench c.requires.good
    c.in_ok-machine.ensures.machine c.in_ok-machine.ensures.begins c.in_ok-machine.ensures.standing
    (let State : List _ → GraderState = λ watched. record { watched = map watched_bit watched; hard = None; possible = None } in c.new-grader.ensures.state ∙ ap State c.as_slice.ensures))

pub returns-clause-ticks : goal.returns-clause-ticks
unfolding gradable
returns-clause-ticks g c =
    c.in_ok-end.ensures.ticks
    (gradable c.first_run_goes_on.ensures c.args.bench.now c.args.good.now (fault_of c.args.fault) c.in_ok-machine.machine c.new-grader.result c.requires.bench c.requires.good
    c.in_ok-machine.ensures.machine c.in_ok-machine.ensures.begins c.in_ok-machine.ensures.standing
    (let State : List _ → GraderState = λ watched. record { watched = map watched_bit watched; hard = None; possible = None } in c.new-grader.ensures.state ∙ ap State c.as_slice.ensures))
    c.args.steps.now
    (started c.first_run_goes_on.ensures c.args.bench.now (fault_of c.args.fault) c.in_ok-machine.machine c.args.steps.now c.in_ok-machine.ensures.machine c.in_ok-machine.ensures.begins)
