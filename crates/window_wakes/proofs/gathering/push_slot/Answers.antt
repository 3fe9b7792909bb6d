-- Phase by phase.
use Rattle.std.proofs.Common.{◌≡◌, ℕ, ◌+◌, ◌<◌, ◌≤◌, ◌++◌, List, length, map, get_or, sym, ap, subst, ◌∙◌, arith}
use Rattle.causal_monitor.specs.Phases.{PhaseOfSlot}
use Rattle.causal_monitor.specs.declared.slot.Actor.{Actor as Acting}
use Rattle.slot_record.specs.Records.{event_of}
use Rattle.window_wakes.specs.Gathered.{phase_wakes}
use Rattle.window_wakes.specs.Wakes.{wake_of}
use Rattle.window_wakes.proofs.Phases.{gathered-none, gathered-more, gathered-all, acted-long, acted-at}
use Rattle.window_wakes.proofs.gathering.push_slot.Goals as goal

pub phases-init : goal.phases-init
phases-init c = gathered-none c.args.first c.args.log.now.actors c.args.log.now.phases (map wake_of c.args.wakes.now.items)

pub bounds-actors-number : goal.bounds-actors-number
bounds-actors-number c =
    let logs : length c.as_slice-phases.result.now ≡ length c.args.log.now.phases = ap (λ (l : List PhaseOfSlot). length l) c.as_slice-phases.ensures in
    let actors : length c.as_slice-actors.result.now ≡ length c.args.log.now.actors = ap (λ (l : List (List Acting)). length l) c.as_slice-actors.ensures in
    let same : length c.args.log.now.actors ≡ length c.args.log.now.phases = acted-long c.args.log.now.phases c.args.log.now.actors c.requires in
    omega (arith, logs, actors, same, c.phases-test.true)

pub push_phase-requires : goal.push_phase-requires
push_phase-requires c =
    let n = c.phases.number in
    let logs : length c.as_slice-phases.result.now ≡ length c.args.log.now.phases = ap (λ (l : List PhaseOfSlot). length l) c.as_slice-phases.ensures in
    let low : n < length c.args.log.now.phases = omega (arith, logs, c.phases-test.true) in
    ap (λ (l : List Acting). length l) c.as_slice-own.ensures
    ∙ acted-at c.args.log.now.phases c.args.log.now.actors n c.index-phases-number.result c.index-actors-number.result c.requires low
    (c.index-phases-number.is ∙ ap (λ l. get_or l n c.index-phases-number.result) c.as_slice-phases.ensures)
    (c.index-actors-number.is ∙ ap (λ l. get_or l n c.index-actors-number.result) c.as_slice-actors.ensures)

pub phases-preserved : goal.phases-preserved
phases-preserved c =
    let n = c.phases.number in
    let logs : length c.as_slice-phases.result.now ≡ length c.args.log.now.phases = ap (λ (l : List PhaseOfSlot). length l) c.as_slice-phases.ensures in
    let low : n < length c.args.log.now.phases = omega (arith, logs, c.phases-test.true) in
    gathered-more c.args.first c.phases.moment n c.in_ok-moment.moment c.args.log.now.actors c.args.log.now.phases c.index-actors-number.result c.index-phases-number.result
    (map wake_of c.args.wakes.now.items) (map wake_of c.phases.wakes.items) (map wake_of c.push_phase.new.wakes.items) low (acted-long c.args.log.now.phases c.args.log.now.actors c.requires)
    (c.index-actors-number.is ∙ ap (λ l. get_or l n c.index-actors-number.result) c.as_slice-actors.ensures)
    (c.index-phases-number.is ∙ ap (λ l. get_or l n c.index-phases-number.result) c.as_slice-phases.ensures) c.phases.invariant
    (c.in_ok-push_phase.ensures
    ∙ ap (λ (l : List Acting). map wake_of c.phases.wakes.items ++ phase_wakes c.phases.moment (map event_of l) c.index-phases-number.result.log) c.as_slice-own.ensures)
    (c.in_ok-moment.ensures ∙ ap (λ (l : List Acting). c.phases.moment + length l) c.as_slice-own.ensures)

pub returns-clause-wakes : goal.returns-clause-wakes
returns-clause-wakes c =
    let logs : length c.as_slice-phases.result.now ≡ length c.args.log.now.phases = ap (λ (l : List PhaseOfSlot). length l) c.as_slice-phases.ensures in
    (gathered-all c.args.first c.phases.moment c.phases.number c.args.log.now.actors c.args.log.now.phases (map wake_of c.args.wakes.now.items) (map wake_of c.phases.wakes.items)
    (omega (arith, logs, c.phases-test.false)) (acted-long c.args.log.now.phases c.args.log.now.actors c.requires) c.phases.invariant).0

pub returns-clause-moment : goal.returns-clause-moment
returns-clause-moment c =
    let logs : length c.as_slice-phases.result.now ≡ length c.args.log.now.phases = ap (λ (l : List PhaseOfSlot). length l) c.as_slice-phases.ensures in
    (gathered-all c.args.first c.phases.moment c.phases.number c.args.log.now.actors c.args.log.now.phases (map wake_of c.args.wakes.now.items) (map wake_of c.phases.wakes.items)
    (omega (arith, logs, c.phases-test.false)) (acted-long c.args.log.now.phases c.args.log.now.actors c.requires) c.phases.invariant).1
