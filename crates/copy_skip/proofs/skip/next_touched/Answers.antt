-- The slots up to the one that is found end before the moment up to which all events leave the copy alone.
use Rattle.std.proofs.Common.{◌+◌, arith}
use Rattle.v_design.specs.Plain.{fault_of}
use Rattle.trace_window.specs.Moments.{window_events}
use Rattle.copy_state.specs.Kept.{differences_of}
use Rattle.copy_skip.proofs.Limited.{reads-lower}
use Rattle.copy_skip.proofs.Passed.{slots-alone}
use Rattle.copy_skip.proofs.skip.next_touched.Goals as goal

pub returns-clause-alone : goal.returns-clause-alone
returns-clause-alone g c =
    let window = c.args.window.now in
    let events = window_events g.N.World.design g.N.World.plan c.args.window.now.before c.args.window.now.through in
    slots-alone g.N.World.design g.N.World.plan (fault_of c.args.fault) (differences_of c.args.setup.now.codes c.args.copy.now) window.before window.through (window.before + c.args.slot)
    (window.before + c.slot_through.result) c.first_moment-first.result c.site_limit-limit.result c.requires.objects
    (λ object below own.
    reads-lower g.N.World.design events object c.first_moment-first.result c.values_limit-own.result c.site_limit-limit.result c.site_limit-limit.ensures.low
    (c.values_limit-own.ensures.alone object below own))
    c.site_limit-limit.ensures.alone (omega arith) c.slot_through.ensures.within c.first_moment-first.ensures.moment (λ h. c.slot_through.ensures.before (omega (arith, h)))
