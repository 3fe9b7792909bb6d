-- What is remembered holds from a later moment on.
use Rattle.std.proofs.Common.{◌<◌, length, arith}
use Rattle.std.proofs.lemmas.List.{get_or_read}
use Rattle.vf_base.specs.Base.{object_number}
use Rattle.copy_skip.specs.Limits.{IsLeftAlone}
use Rattle.trace_window.specs.Moments.{window_events}
use Rattle.next_touches.specs.Touches.{no_stretch}
use Rattle.next_touches.proofs.Known.{alone-later, stretch-at}
use Rattle.next_touches.proofs.limits.object_until.Goals as goal

pub index-known-requires : goal.index-known-requires
index-known-requires g c = omega (arith, c.requires.there, c.requires.known.count_is)

pub returns-then-has_moment-clause-alone : goal.returns-then-has_moment-clause-alone
returns-then-has_moment-clause-alone g c =
    let events = window_events g.N.World.design g.N.World.plan c.args.window.now.before c.args.window.now.through in
    let object = object_number c.args.object in
    let stretches = c.args.objects.now.items in
    let low : object < length stretches = omega (arith, c.requires.there, c.requires.known.count_is) in
    alone-later g.N.World.design events object c.index-known.result.now.from c.args.first c.index-known.result.now.until (c.has_moment.ensures.from c.if-has_moment.true)
    (stretch-at (IsLeftAlone g.N.World.design events) (length g.N.World.design.objects) stretches object c.index-known.result.now c.requires.there
    (get_or_read stretches object c.index-known.result.now low c.index-known.ensures no_stretch) c.requires.known)
