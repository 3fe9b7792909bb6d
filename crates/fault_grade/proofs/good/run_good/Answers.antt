-- The good machine stands at its start.
use Rattle.std.proofs.Common.{◌≡◌, ℕ, ap, sym, subst, ◌∙◌}
use Rattle.std.specs.Prelude.{Some}
use Rattle.v_design.specs.Designs.{Machine, good_machine}
use Rattle.v_design.specs.States.{start}
use Rattle.v_design.specs.RulesHold.{rules_hold, plan_rules_hold}
use Rattle.v_design.specs.WellFormed.{KeepsRules}
use Rattle.order_laws.specs.FirstRuns.{FirstRunsGoOn}
use Rattle.machine.specs.Standing.{IsStanding, machine_kept, begins_next}
use Rattle.machine.specs.declared.parts.Machine.{Machine as Simulated}
use Rattle.fault_grade.specs.declared.bench.Bench.{Bench}
use Rattle.fault_grade.specs.Benches.{IsBench, bench_design, bench_plan}
use Rattle.fault_grade.specs.Gradings.{IsShowable}
use Rattle.fault_grade.specs.Ticks.{IsTicked}
use Rattle.fault_grade.proofs.Strobes.{samples-start}
use Rattle.fault_grade.proofs.Ticks.{begins-ticked}
use Rattle.fault_grade.proofs.good.run_good.Goals as goal

showable : FirstRunsGoOn → (bench : Bench) (m : Simulated) → IsBench bench → machine_kept m ≡ good_machine (bench_design bench) → begins_next m ≡ Some (start (good_machine (bench_design bench))) →
    IsStanding m → IsShowable (bench_plan bench) m
showable law bench m of_bench same begins standing = record {
  design = bench_design bench;
  of_design = of_bench.plan;
  at = samples-start law (bench_design bench) (bench_plan bench) m (rules_hold (bench_design bench) bench.design.now.rules)
      (plan_rules_hold (bench_plan bench) bench.plan.now.rules) same begins standing;
}

-- a machine at its start has run nothing
started : FirstRunsGoOn → (bench : Bench) (m : Simulated) (counter : ℕ) → machine_kept m ≡ good_machine (bench_design bench) → begins_next m ≡ Some (start (good_machine (bench_design bench))) →
    IsTicked counter 0 m counter
started law bench m counter same begins =
    begins-ticked law m counter (subst (λ (k : Machine). KeepsRules k.design) (sym same) (rules_hold (bench_design bench) bench.design.now.rules)) (begins ∙ ap (λ k. Some (start k)) (sym same))

pub show_on-requires : goal.show_on-requires
show_on-requires g c =
    showable c.first_run_goes_on.ensures c.args.bench.now c.in_ok-machine.machine c.requires c.in_ok-machine.ensures.machine c.in_ok-machine.ensures.begins c.in_ok-machine.ensures.standing

pub returns-clause-good : goal.returns-clause-good
unfolding showable
returns-clause-good g c =
    c.in_ok-shown.ensures.good
    (showable c.first_run_goes_on.ensures c.args.bench.now c.in_ok-machine.machine c.requires c.in_ok-machine.ensures.machine c.in_ok-machine.ensures.begins c.in_ok-machine.ensures.standing)

pub returns-clause-ticks : goal.returns-clause-ticks
unfolding showable
returns-clause-ticks g c =
    c.in_ok-shown.ensures.ticks
    (showable c.first_run_goes_on.ensures c.args.bench.now c.in_ok-machine.machine c.requires c.in_ok-machine.ensures.machine c.in_ok-machine.ensures.begins c.in_ok-machine.ensures.standing)
    c.args.steps.now (started c.first_run_goes_on.ensures c.args.bench.now c.in_ok-machine.machine c.args.steps.now c.in_ok-machine.ensures.machine c.in_ok-machine.ensures.begins)
