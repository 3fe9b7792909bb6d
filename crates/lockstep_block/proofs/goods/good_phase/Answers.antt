-- The phase is one of the window's.
use Rattle.std.proofs.Common.{◌≡◌, ◌+◌, ◌≤◌, length, refl, sym, ap, ◌∙◌, arith}
use Rattle.between_slots.specs.Between.{window_phases}
use Rattle.lockstep_block.proofs.EndedRuns.{phase-at, phase-low}
use Rattle.lockstep_block.proofs.goods.good_phase.Goals as goal

pub overflow_add-phase : goal.overflow_add-phase
overflow_add-phase g c =
    let is = c.requires.shown in
    let low = phase-low g.N.World.design g.N.World.plan c.args.window.now.before c.args.window.now.through is.place c.args.before.now is.within is.shown in
    let all = c.phases-phases.ensures in
    let phase = c.phase-phase.ensures in
    let fits : c.phase-phase.result + 1 ≤ c.phases-phases.result = omega (arith, low, all, phase) in
    omega (arith, fits)

pub overflow_sub-result : goal.overflow_sub-result
overflow_sub-result g c =
    let is = c.requires.shown in
    let at = is.shown.phase_is in
    let phase = c.phase-phase.ensures in
    let first = c.phases_before-first.ensures ∙ (λ i. length (window_phases g.N.World.design g.N.World.plan (sym is.within.before_is i) (sym is.within.before_is i + c.slot-slot.ensures i))) in
    omega (arith, at, phase, first)

pub returns : goal.returns
returns g c = λ place shown.
    let is = c.requires.shown in
    let at = shown.phase_is in
    let phase = c.phase-phase.ensures in
    let first = c.phases_before-first.ensures ∙ (λ i. length (window_phases g.N.World.design g.N.World.plan (sym is.within.before_is i) (sym is.within.before_is i + c.slot-slot.ensures i))) in
    record {
      tells = c.phase_runs.ensures c.args.before.now.phase place.phase (ap (λ n. n + 1) phase)
          (phase-at g.N.World.design g.N.World.plan c.args.window.now.before c.args.window.now.through place c.args.before.now is.within shown);
      ran_is = c.as_slice-ran.ensures.value ∙ c.standing.ensures.ran;
      apart_is = refl;
      phase_is = omega (arith, at, phase, first);
    }
