use Rattle.std.proofs.Common.{◌≡◌, ◌+◌, ◌≤◌, ℕ, cond, sym, ap, ◌∙◌, arith}
use Rattle.std.specs.Prelude.{count_by, sum_by}
use Rattle.std.proofs.lemmas.List.{take_all}
use Rattle.std.proofs.lemmas.List.Sums.{sum_by_more, sum_by_more_le}
use Rattle.causal_monitor.specs.declared.slot.Actor.{Actor}
use Rattle.causal_monitor.specs.declared.slot.Actor.TheVariants.{Step}
use Rattle.good_trace.specs.Counted.{is_step}
use Rattle.good_trace.proofs.slot.count_in.Goals as goal

-- one for a step, else none
abbrev one_if : Actor → ℕ
one_if actor = cond (is_step actor) 1 0

pub overflow_add-steps : goal.overflow_add-steps
overflow_add-steps c =
    let most = sum_by_more_le one_if c.args.actors.now c.actors.actor-index (Step (record { 0 = 0 })) c.actors-test.true in
    omega (arith, most, c.steps_of-steps.ensures, c.requires, c.actors.invariant)

pub actors-preserved : goal.actors-preserved
actors-preserved c =
    (λ i. c.actors.invariant i + c.steps_of-steps.ensures i) ∙ sym (sum_by_more one_if c.args.actors.now c.actors.actor-index (Step (record { 0 = 0 })) c.actors-test.true)

pub returns : goal.returns
returns c = c.actors.invariant ∙ ap (count_by is_step) (take_all c.actors.actor-index c.args.actors.now c.actors-test.false)
