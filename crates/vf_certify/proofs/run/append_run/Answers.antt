-- The machine stands at its start, and all slots of its first run are left.
use Rattle.std.proofs.Common.{refl, sym, ap, subst, ◌∙◌, Some, arith}
use Rattle.v_design.specs.Designs.{Machine}
use Rattle.v_design.specs.States.{start}
use Rattle.v_design.specs.Runs.{first_run}
use Rattle.v_design.specs.WellFormed.{KeepsRules}
use Rattle.v_design.specs.RulesHold.{rules_hold, plan_rules_hold}
use Rattle.order_laws.specs.EveryRun.{slots_by}
use Rattle.machine.specs.Standing.{machine_kept}
use Rattle.fault_grade.specs.Benches.{bench_design, bench_plan}
use Rattle.fault_grade.specs.Beside.{early}
use Rattle.cert_laws.specs.Written.{run_lines}
use Rattle.vf_certify.specs.Runs.{AddsLines}
use Rattle.vf_certify.proofs.SlotsLeft.{left-start}
use Rattle.vf_certify.proofs.Texts.{adds-runs}
use Rattle.v_design.specs.Views.{machine_with}
use Rattle.vf_certify.proofs.run.append_run.Goals as goal

pub append_slots-requires-clause-limit : goal.append_slots-requires-clause-limit
append_slots-requires-clause-limit g c =
    let bench = c.args.bench.now in early (bench_plan bench) bench.plan.now.end (plan_rules_hold (bench_plan bench) bench.plan.now.rules) (omega arith)

pub append_slots-requires-clause-left : goal.append_slots-requires-clause-left
append_slots-requires-clause-left g c =
    let bench = c.args.bench.now in
    let m = c.in_ok-machine.machine in
    left-start c.first_run_goes_on.ensures m (machine_kept m) bench.plan.now.end
    (subst (λ (machine : Machine). KeepsRules machine.design) (sym c.in_ok-machine.ensures.machine) (rules_hold (bench_design bench) bench.design.now.rules)) refl
    (c.in_ok-machine.ensures.begins ∙ ap (λ (machine : Machine). Some (start machine)) (sym c.in_ok-machine.ensures.machine)) c.in_ok-machine.ensures.standing

pub returns : goal.returns
returns g c =
    let bench = c.args.bench.now in
    let end = bench.plan.now.end in
    adds-runs (run_lines (slots_by c.args.bound (first_run (machine_with bench.design.now c.args.fault) end))) c.args.out.now.items c.append_slots.new.out.items
    (subst (λ (machine : Machine). AddsLines (run_lines (slots_by c.args.bound (first_run machine end))) c.args.out.now.items c.append_slots.new.out.items) c.in_ok-machine.ensures.machine
    c.in_ok-append_slots.ensures)
