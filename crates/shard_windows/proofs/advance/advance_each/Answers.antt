-- The first window, or a later one.
use Rattle.std.proofs.Common.{◌≡◌, sym, ap, subst, ◌∙◌, arith}
use Rattle.std.specs.List.{AllZip}
use Rattle.vf_base.specs.Lists.{AllHold}
use Rattle.good_trace.specs.Slots.{end_of}
use Rattle.good_trace.specs.Traces.{WindowKept}
use Rattle.shard_slots.specs.graded_steps.Behind.{RisesWithin}
use Rattle.shard_slots.specs.window_strobes.Strobes.{AreStrobesOf, passed_behind}
use Rattle.shard_slots.specs.copy_window.ShardFaults.{IsShardFault}
use Rattle.shard_slots.specs.window_faults.Steps.{steps_of_faults}
use Rattle.shard_slots.specs.window_faults.Within.{ComesThrough}
use Rattle.shard_windows.proofs.Through.{more-behind}
use Rattle.shard_windows.proofs.advance.advance_each.Goals as goal

pub advance_first-requires-clause-first : goal.advance_first-requires-clause-first
advance_first-requires-clause-first g c κs within =
    ap (λ (w : WindowKept). w.before) (sym c.window-trace.ensures) ∙ c.has_first_alone.ensures.first c.if-has_first_alone.true

pub advance_first-requires-clause-one : goal.advance_first-requires-clause-one
advance_first-requires-clause-one g c κs within =
    ap (λ (w : WindowKept). w.through) (sym c.window-trace.ensures) ∙ c.has_first_alone.ensures.one c.if-has_first_alone.true

pub advance_first-requires-clause-more : goal.advance_first-requires-clause-more
advance_first-requires-clause-more g c κs within =
    let one = ap (λ (w : WindowKept). w.through) (sym c.window-trace.ensures) ∙ c.has_first_alone.ensures.one c.if-has_first_alone.true in
    let more = more-behind g.N.World.design g.N.World.plan c.args.window.now.through (end_of c.args.strobes.now.ending) c.args.strobes.now.until c.requires.strobes.leads.ends
    (c.has_first_alone.ensures.open c.if-has_first_alone.true) in
    omega (arith, one, more)

pub begin_each-requires-clause-first : goal.begin_each-requires-clause-first
begin_each-requires-clause-first g c κs within = sym c.begins.ensures.number ∙ c.if-begins-eq0.true

pub begin_each-requires-clause-strobes : goal.begin_each-requires-clause-strobes
begin_each-requires-clause-strobes g c κs within =
    subst (λ (w : WindowKept). AreStrobesOf g.N.World.design g.N.World.plan w.before w.through c.args.strobes.now) (sym c.window-trace.ensures) c.requires.strobes

pub begin_each-requires-clause-faults : goal.begin_each-requires-clause-faults
begin_each-requires-clause-faults g c κs within =
    subst (λ (w : WindowKept). AllHold (IsShardFault g.N.World.design g.N.World.plan w.before c.args.strobes.now.passed) c.args.faults.now.items) (sym c.window-trace.ensures) c.requires.faults

pub returns-then-begins-eq0-clause-faults : goal.returns-then-begins-eq0-clause-faults
returns-then-begins-eq0-clause-faults g c =
    subst (λ (w : WindowKept). AllZip (ComesThrough g.N.World.design g.N.World.plan w.through (passed_behind c.args.strobes.now)) c.args.faults.now.items c.begin_each.new.faults.items)
    c.window-trace.ensures c.in_ok-begin_each.ensures.faults

pub returns-then-begins-eq0-clause-ticks : goal.returns-then-begins-eq0-clause-ticks
returns-then-begins-eq0-clause-ticks g c tally =
    subst (λ (w : WindowKept). RisesWithin (steps_of_faults tally w.before c.args.faults.now.items)
    (steps_of_faults tally w.through c.begin_each.new.faults.items) c.args.steps.now c.begin_each.new.steps) c.window-trace.ensures (c.in_ok-begin_each.ensures.ticks tally)

pub go_through_window-requires-clause-some : goal.go_through_window-requires-clause-some
go_through_window-requires-clause-some g c κs within =
    let here : c.begins.result ≡ c.args.window.now.before = c.begins.ensures.number ∙ ap (λ (w : WindowKept). w.before) c.window-trace.ensures in
    omega (arith, here, c.if-begins-eq0.false)

pub go_through_window-requires-clause-now : goal.go_through_window-requires-clause-now
go_through_window-requires-clause-now g c κs within =
    let here : c.begins.result ≡ c.args.window.now.before = c.begins.ensures.number ∙ ap (λ (w : WindowKept). w.before) c.window-trace.ensures in
    c.requires.now (omega (arith, here, c.if-begins-eq0.false))
