-- What is remembered holds from a later moment on; else it is found and remembered.
use Rattle.std.proofs.Common.{◌<◌, length, arith}
use Rattle.std.proofs.lemmas.List.{get_or_read}
use Rattle.vf_base.specs.Base.{process_number}
use Rattle.copy_skip.specs.Limits.{NoneBetween}
use Rattle.trace_window.specs.Acted.{stepped_at}
use Rattle.trace_window.specs.Moments.{window_events}
use Rattle.next_touches.specs.Touches.{no_stretch}
use Rattle.next_touches.proofs.Known.{stretch-at, stretches-set}
use Rattle.next_touches.proofs.limits.step_until.Goals as goal

pub index-known-requires : goal.index-known-requires
index-known-requires g c = omega (arith, c.requires.there, c.requires.known.count_is)

pub index_mut-requires : goal.index_mut-requires
index_mut-requires g c = omega (arith, c.requires.there, c.requires.known.count_is)

pub returns-then-has_moment-clause-steps : goal.returns-then-has_moment-clause-steps
returns-then-has_moment-clause-steps g c = λ number since before.
    let events = window_events g.N.World.design g.N.World.plan c.args.window.now.before c.args.window.now.through in
    let process = process_number c.args.process in
    let stretches = c.args.processes.now.items in
    let low : process < length stretches = omega (arith, c.requires.there, c.requires.known.count_is) in
    let from = c.has_moment.ensures.from c.if-has_moment.true in
    stretch-at (λ p. NoneBetween (stepped_at events p)) (length g.N.World.design.processes) stretches process c.index-known.result.now c.requires.there
    (get_or_read stretches process c.index-known.result.now low c.index-known.ensures no_stretch) c.requires.known number (omega (arith, since, from)) before

pub returns-clause-known : goal.returns-clause-known
returns-clause-known g c =
    let events = window_events g.N.World.design g.N.World.plan c.args.window.now.before c.args.window.now.through in
    stretches-set (λ p. NoneBetween (stepped_at events p)) (length g.N.World.design.processes) c.args.processes.now.items (process_number c.args.process)
    (record { from = c.args.first; until = c.step_limit-until.result }) c.requires.there c.requires.known c.step_limit-until.ensures
