-- One process more.
use Rattle.std.proofs.Common.{◌≡◌, ◌+◌, ◌<◌, ◌≤◌, Vec, Global, length, sym, ap, subst, ◌∙◌, arith}
use Rattle.process_code.specs.declared.state.ProcState.{ProcState as StateKept}
use Rattle.moment_parts.specs.Turned.{at_postponed}
use Rattle.moment_parts.proofs.Woken.{AreWokenBelow, woken-all, woken-skip, woken-more}
use Rattle.moment_parts.proofs.turning.resume.Goals as goal
use Rattle.moment_parts.proofs.turning.resume.Goals.{then-is_postponed, else-is_postponed}

pub states-preserved : goal.states-preserved
states-preserved c =
    let same : length c.states.states.items ≡ length c.args.states.now.items = c.states.invariant.count in
    let low : c.states.place < length c.states.states.items = omega (arith, same) in
    elim c.if-is_postponed.branch [
      | then-is_postponed w ↦
          subst (AreWokenBelow at_postponed (c.states.place + 1) c.args.states.now.items) (sym (ap (λ (v : Vec StateKept Global). v.items) w.states-is))
          (woken-more at_postponed c.states.place c.args.states.now.items c.states.states.items c.index.result.now w.index_mut.result.now w.wake.new.self low c.index.ensures w.index_mut.ensures.value
          (sym c.is_postponed.ensures ∙ w.if-is_postponed.true) (record { point = w.wake.ensures.point; state_of = w.wake.ensures.state }) c.states.invariant)
      | else-is_postponed w ↦
          subst (AreWokenBelow at_postponed (c.states.place + 1) c.args.states.now.items) (sym (ap (λ (v : Vec StateKept Global). v.items) w.states-is))
          (woken-skip at_postponed c.states.place c.args.states.now.items c.states.states.items c.index.result.now c.index.ensures (sym c.is_postponed.ensures ∙ w.if-is_postponed.false) c.states.invariant)
    ]

pub returns : goal.returns
returns c =
    let all : length c.args.states.now.items ≤ c.states.place = omega arith in
    woken-all at_postponed c.states.place c.args.states.now.items c.states.states.items all c.states.invariant
