-- The writes of the slot between both moments are all of the good machine's there.
use Rattle.std.proofs.Common.{◌≡◌, ◌+◌, ◌<◌, ◌≤◌, map, length, ap, subst, ◌∙◌, arith}
use Rattle.v_design.specs.Designs.{FlatDesign}
use Rattle.trace_window.specs.Moments.{window_events}
use Rattle.trace_window.specs.Writes.{written_of}
use Rattle.phase_reach.specs.Reached.{WritesAreReached}
use Rattle.phase_reach.proofs.Written.{moments-reached}
use Rattle.phase_reach.proofs.reach.reach_between.Goals as goal

pub returns-clause-all : goal.returns-clause-all
returns-clause-all g c = λ yes.
    let design = g.N.World.design in
    let plan = g.N.World.plan in
    let begins = c.args.window.now.before in
    let number = begins + c.args.slot in
    let ends = c.args.window.now.through in
    let writes = map written_of c.changes_in.result.now in
    let slots = c.slots.ensures in
    let within = c.if-slots-slot.false in
    let high : number < ends = omega (arith, slots, within) in
    let begins_at = c.first_moment.ensures.moment in
    let not_before = c.if-first-first_moment.false in
    let since : length (window_events design plan begins number) ≤ c.args.first = omega (arith, begins_at, not_before) in
    let next : begins + (c.args.slot + 1) ≡ number + 1 = omega arith in
    let ends_at : c.first_moment-2.result ≡ length (window_events design plan begins (number + 1)) = c.first_moment-2.ensures.moment ∙ ap (λ n. length (window_events design plan begins n)) next in
    let not_behind = c.if-first_moment-end.false in
    let before : c.args.end ≤ length (window_events design plan begins (number + 1)) = omega (arith, ends_at, not_behind) in
    moments-reached design plan begins number ends c.args.first c.args.end writes c.reach_written.new.reached (omega arith) high since before c.changes_in.ensures.changes
    (subst (λ (d : FlatDesign). WritesAreReached d c.args.first c.args.end writes c.reach_written.new.reached) c.requires (c.reach_written.ensures.all yes))
