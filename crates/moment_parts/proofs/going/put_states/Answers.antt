-- One state more.
use Rattle.std.proofs.Common.{◌≡◌, ◌+◌, ◌<◌, length, refl, arith}
use Rattle.between_slots.specs.Between.{activity_through}
use Rattle.process_code.specs.declared.state.ProcState.{ProcState as StateKept}
use Rattle.good_trace.specs.RunsKept.{Stands}
use Rattle.moment_parts.proofs.Below.{below-none, below-more, below-all, stand-copied, states-stay}
use Rattle.moment_parts.proofs.going.put_states.Goals as goal

pub processes-init : goal.processes-init
processes-init g c = record {
  each =
      below-none StateKept (λ process own. Stands g.N.World.design process (activity_through g.N.World.design g.N.World.plan (c.args.window.now.before + c.args.slot) process) own)
      (length g.N.World.design.processes) c.args.states.now.items c.requires.count;
  states = c.requires.states;
}

pub processes-preserved : goal.processes-preserved
processes-preserved g c =
    let design = g.N.World.design in
    let same : length c.processes.states.items ≡ length design.processes = c.processes.invariant.each.count_is in
    let low : c.processes.number < length c.processes.states.items = omega (arith, same, c.requires.count, c.processes-test.true, c.len-number-end.ensures) in
    let stands : Stands design c.processes.number (activity_through design g.N.World.plan (c.args.window.now.before + c.args.slot) c.processes.number) c.copy_from.new.self =
    stand-copied design c.processes.number (activity_through design g.N.World.plan (c.args.window.now.before + c.args.slot) c.processes.number) c.index_mut.result.now c.state_before.result.now
    c.copy_from.new.self c.processes.states.items low c.index_mut.ensures.value c.processes.invariant.states c.state_before.ensures c.in_ok-copy_from.ensures.point c.in_ok-copy_from.ensures.state in
    record {
      each =
          below-more StateKept (λ process own. Stands design process (activity_through design g.N.World.plan (c.args.window.now.before + c.args.slot) process) own) c.processes.number
          (length design.processes) c.processes.states.items _ c.copy_from.new.self low stands refl c.processes.invariant.each;
      states =
          states-stay design c.processes.number (activity_through design g.N.World.plan (c.args.window.now.before + c.args.slot) c.processes.number) c.copy_from.new.self c.processes.states.items _ low
          stands refl c.processes.invariant.states;
    }

pub returns-clause-stand : goal.returns-clause-stand
returns-clause-stand g c process own here =
    below-all StateKept (λ p o. Stands g.N.World.design p (activity_through g.N.World.design g.N.World.plan (c.args.window.now.before + c.args.slot) p) o) c.processes.number
    (length g.N.World.design.processes) c.processes.states.items process own (omega (arith, c.requires.count, c.processes-test.false, c.len-number-end.ensures)) c.processes.invariant.each here
