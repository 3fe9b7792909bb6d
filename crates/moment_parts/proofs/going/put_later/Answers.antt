-- One list more.
use Rattle.std.proofs.Common.{◌≡◌, ◌+◌, ◌<◌, length, map, Vec, Global, refl, arith}
use Rattle.v_design.specs.Plain.{due_of}
use Rattle.v_design.specs.declared.plan.Due.{Due}
use Rattle.between_slots.specs.Updates.{updates_through}
use Rattle.moment_parts.proofs.Below.{below-none, below-more, later-all}
use Rattle.moment_parts.proofs.going.put_later.Goals as goal

pub processes-init : goal.processes-init
processes-init g c =
    below-none (Vec Due Global) (λ process list. map due_of list.items ≡ updates_through g.N.World.design g.N.World.plan (c.args.window.now.before + c.args.slot) process)
    (length g.N.World.design.processes) c.args.later.now.items c.requires.count

pub processes-preserved : goal.processes-preserved
processes-preserved g c =
    let same : length c.processes.later.items ≡ length g.N.World.design.processes = c.processes.invariant.count_is in
    let low : c.processes.number < length c.processes.later.items = omega (arith, same, c.requires.count, c.processes-test.true, c.len-number-end.ensures) in
    below-more (Vec Due Global) (λ process list. map due_of list.items ≡ updates_through g.N.World.design g.N.World.plan (c.args.window.now.before + c.args.slot) process) c.processes.number
    (length g.N.World.design.processes) c.processes.later.items _ _ low c.in_ok-later.ensures refl c.processes.invariant

pub returns-clause-later : goal.returns-clause-later
returns-clause-later g c process low =
    later-all (λ k. updates_through g.N.World.design g.N.World.plan (c.args.window.now.before + c.args.slot) k) c.processes.number (length g.N.World.design.processes) c.processes.later.items process
    (omega (arith, c.requires.count, c.processes-test.false, c.len-number-end.ensures)) c.processes.invariant low
