use Rattle.std.proofs.Common.{◌≡◌, ◌<◌, ◌≤◌, ◌∙◌, ℕ, length, true, sym, rules, arith, subst, inl, inr}
use Rattle.std.specs.Prelude.{nat_eq}
use Rattle.std.proofs.lemmas.Bool.{ne_eqb, eq-eqb, cases_eq}
use Rattle.v_design.specs.Logs.{LoggedPhase, orders}
use Rattle.causal_monitor.specs.Phases.{CausesComeBefore}
use Rattle.causal_monitor.proofs.OrderLaws.{jump_orders, orders_through, orders-cause, orders-same, orders_later}
use Rattle.causal_monitor.proofs.order.orders.Goals as goal

pub back-preserved-then-jump-at : goal.back-preserved-then-jump-at
back-preserved-then-jump-at c = record {
  noted = omega (arith, c.if-jump-at.true, c.back.invariant.noted);
  same =
      sym (orders_through c.args.log.now.log c.requires.earlier c.args.first c.index-jump.result.now c.back.at c.if-first-jump.true (omega (arith, c.back.invariant.noted))
      (jump_orders c.args.log.now.log c.args.jumps.now.items c.requires.jumps c.back.at c.index-jump.result.now (omega (arith, c.back.invariant.noted, c.requires.count)) c.index-jump.ensures))
      ∙ c.back.invariant.same;
}

pub back-preserved : goal.back-preserved
back-preserved c =
    let cause_before : c.in-Some.cause < c.back.at = search rules in
    record {
      noted = omega (arith, c.back.invariant.noted);
      same =
          sym (orders-cause c.args.log.now.log c.requires.earlier c.args.first c.back.at c.in-Some.cause (omega (arith, c.back.invariant.noted)) (λ same. omega (arith, c.back-test.true, same))
          (search rules))
          ∙ c.back.invariant.same;
    }

-- at an event that comes no later
stopped : (log : LoggedPhase) → CausesComeBefore log → (first at : ℕ) → at < length log.events → at ≤ first → nat_eq at first ≡ orders log first at
stopped log before first at within le =
    elim (cases_eq at first) [
      | inl same ↦ eq-eqb at first same ∙ sym (subst (λ n. orders log n at ≡ true) same (orders-same log before at (omega arith)))
      | inr other ↦ ne_eqb at first other ∙ sym (orders_later log before first at (omega arith) (omega arith))
    ]

pub returns : goal.returns
returns c = stopped c.args.log.now.log c.requires.earlier c.args.first c.back.at c.back.invariant.noted c.back-test.false ∙ c.back.invariant.same
