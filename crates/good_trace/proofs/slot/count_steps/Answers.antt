use Rattle.std.proofs.Common.{◌≡◌, ◌+◌, ◌<◌, ◌≤◌, ℕ, List, length, take, get_or, sym, ap, ◌∙◌, arith}
use Rattle.std.specs.Prelude.{count_by, sum_by}
use Rattle.std.proofs.lemmas.List.{take_all}
use Rattle.std.proofs.lemmas.List.Sums.{sum_by_more, sum_by_more_le}
use Rattle.causal_monitor.specs.declared.slot.Actor.{Actor}
use Rattle.good_trace.specs.Counted.{is_step}
use Rattle.good_trace.proofs.slot.count_steps.Goals as goal

-- the steps of some phases
abbrev steps_of : List Actor → ℕ
steps_of actors = count_by is_step actors

-- those so far and those of one phase more are few
fits : (all phases : List (List Actor)) (i : ℕ) (actors own : List Actor) → phases ≡ all → sum_by steps_of all ≤ 100000 → i < length phases → actors ≡ get_or phases i actors → own ≡ actors →
    sum_by steps_of (take i phases) + steps_of own ≤ 100000
fits all phases i actors own same few low read is =
    let most = sum_by_more_le steps_of phases i actors low in
    let whole : sum_by steps_of phases ≡ sum_by steps_of all = ap (λ l. sum_by steps_of l) same in
    let one : steps_of own ≡ steps_of (get_or phases i actors) = ap steps_of (is ∙ read) in
    omega (arith, most, whole, one, few)

pub count_in-steps-requires : goal.count_in-steps-requires
count_in-steps-requires c =
    let few = fits c.args.log.now.actors c.as_slice-phases.result.now c.phases.actors-index c.actors-item.result c.as_slice.result.now c.as_slice-phases.ensures c.requires c.phases-test.true
    c.actors-item.is c.as_slice.ensures in
    omega (arith, few)

pub overflow_add-steps : goal.overflow_add-steps
overflow_add-steps c =
    let few = fits c.args.log.now.actors c.as_slice-phases.result.now c.phases.actors-index c.actors-item.result c.as_slice.result.now c.as_slice-phases.ensures c.requires c.phases-test.true
    c.actors-item.is c.as_slice.ensures in
    omega (arith, few, c.phases.invariant, c.count_in-steps.ensures)

pub phases-preserved : goal.phases-preserved
phases-preserved c =
    (λ i. c.phases.invariant i + (c.count_in-steps.ensures ∙ ap steps_of (c.as_slice.ensures ∙ c.actors-item.is)) i)
    ∙ sym (sum_by_more steps_of c.as_slice-phases.result.now c.phases.actors-index c.actors-item.result c.phases-test.true)

pub returns : goal.returns
returns c =
    c.phases.invariant ∙ ap (λ l. sum_by steps_of l) (take_all c.phases.actors-index c.as_slice-phases.result.now c.phases-test.false ∙ c.as_slice-phases.ensures)
