-- What is found is remembered.
use Rattle.std.proofs.Common.{◌<◌, length, arith}
use Rattle.vf_base.specs.Base.{object_number}
use Rattle.copy_skip.specs.Limits.{IsLeftAlone}
use Rattle.trace_window.specs.Moments.{window_events}
use Rattle.next_touches.proofs.Known.{stretches-set}
use Rattle.next_touches.proofs.limits.found_until.Goals as goal

pub index_mut-requires : goal.index_mut-requires
index_mut-requires g c = omega (arith, c.requires.there, c.requires.known.count_is)

pub returns-clause-known : goal.returns-clause-known
returns-clause-known g c =
    let events = window_events g.N.World.design g.N.World.plan c.args.window.now.before c.args.window.now.through in
    stretches-set (IsLeftAlone g.N.World.design events) (length g.N.World.design.objects) c.args.objects.now.items (object_number c.args.object)
    (record { from = c.args.first; until = c.object_limit-until.result }) c.requires.there c.requires.known c.object_limit-until.ensures
