-- The machine stands at the start of the good first run.
use Rattle.std.proofs.Common.{◌≡◌, ◌≤◌, ◌^◌, sym, ap, subst, ◌∙◌, arith}
use Rattle.v_design.specs.Designs.{TestPlan}
use Rattle.v_design.specs.PlainDesigns.{design_of, plan_of}
use Rattle.v_design.specs.RulesHold.{rules_hold, plan_rules_hold}
use Rattle.v_design.specs.WellFormed.{KeepsRules}
use Rattle.v_design.specs.declared.plan.Plan.{Plan}
use Rattle.run_ends.specs.RunEnds.{AreCodesOf}
use Rattle.good_windows.specs.Stages.{StandsAfter}
use Rattle.good_windows.proofs.Ahead.{stands-start}
use Rattle.good_windows.proofs.run.GoodRun.new.Goals as goal

-- a plan ends early
early : (plan : TestPlan) (kept : Plan) → plan ≡ plan_of kept → plan.end ≤ 2 ^ 63
early plan kept is = subst (λ (p : TestPlan). p.end ≤ 2 ^ 63) (sym is) (let end : (plan_of kept).end ≤ 1000000000000 = (plan_rules_hold (plan_of kept) kept.rules).end in omega (arith, end))

pub invariant_of-result : goal.invariant_of-result
invariant_of-result g c =
    let design = g.N.World.design in
    let plan = g.N.World.plan in
    let kept = c.design-design.result.now in
    record {
      end_is = ap (λ (p : TestPlan). p.end) c.plan-plan.ensures.world;
      early = early plan c.plan-plan.result.now c.plan-plan.ensures.world;
      usable = λ _. record {
        codes = subst (AreCodesOf design) (c.codes-codes.ensures.codes ∙ sym c.in_ok-run.ensures.codes) c.codes-codes.ensures.world;
        all_closed = c.in_ok-run.ensures.none.0 ∙ sym c.in_ok-run.ensures.none.1;
        goes_on =
            subst (λ n. StandsAfter design plan n c.in_ok-machine.machine) (sym c.in_ok-run.ensures.none.1)
            (stands-start c.first_run_goes_on.ensures design plan c.in_ok-machine.machine
            (subst KeepsRules (sym c.design-design.ensures.world) (rules_hold (design_of kept) kept.rules)) c.in_ok-machine.ensures);
      };
      beside = λ _. c.in_ok-run.ensures.beside;
    }
