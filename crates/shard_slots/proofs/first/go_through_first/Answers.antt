-- The window of the view is the run's.
use Rattle.std.proofs.Common.{◌≡◌, ℕ, sym, ap, subst, ◌∙◌}
use Rattle.std.specs.List.{AllZip}
use Rattle.vf_base.specs.Lists.{AllHold}
use Rattle.good_trace.specs.Traces.{WindowKept}
use Rattle.copy_lockstep.specs.graded_steps.Behind.{RisesWithin}
use Rattle.copy_lockstep.specs.window_strobes.Passed.{HasPassed}
use Rattle.copy_lockstep.specs.window_strobes.Strobes.{AreStrobesOf, passed_behind}
use Rattle.copy_lockstep.specs.copy_window.ShardFaults.{IsShardFault}
use Rattle.copy_lockstep.specs.window_faults.Steps.{steps_of_faults}
use Rattle.copy_lockstep.specs.window_faults.Within.{ComesThrough}
use Rattle.shard_slots.proofs.first.go_through_first.Goals as goal

pub through_first-requires-clause-first : goal.through_first-requires-clause-first
through_first-requires-clause-first g c κs within = ap (λ (w : WindowKept). w.before) c.view_of-view.ensures.window ∙ c.requires.first

pub through_first-requires-clause-one : goal.through_first-requires-clause-one
through_first-requires-clause-one g c κs within = ap (λ (w : WindowKept). w.through) c.view_of-view.ensures.window ∙ c.requires.one

pub through_first-requires-clause-machine : goal.through_first-requires-clause-machine
through_first-requires-clause-machine g c κs within = c.room.invariant.0

pub through_first-requires-clause-lockstep : goal.through_first-requires-clause-lockstep
through_first-requires-clause-lockstep g c κs within = c.room.invariant.1

pub through_first-requires-clause-room : goal.through_first-requires-clause-room
through_first-requires-clause-room g c κs within = c.room.invariant.2

pub through_first-requires-clause-strobes : goal.through_first-requires-clause-strobes
through_first-requires-clause-strobes g c κs within =
    subst (λ (w : WindowKept). AreStrobesOf g.N.World.design g.N.World.plan w.before w.through c.args.strobes.now) (sym c.view_of-view.ensures.window) c.requires.strobes

pub through_first-requires-clause-behind : goal.through_first-requires-clause-behind
through_first-requires-clause-behind g c κs within =
    subst (λ (w : WindowKept). HasPassed g.N.World.design g.N.World.plan w.through (passed_behind c.args.strobes.now)) (sym c.view_of-view.ensures.window) c.requires.behind

pub through_first-requires-clause-faults : goal.through_first-requires-clause-faults
through_first-requires-clause-faults g c κs within =
    subst (λ (w : WindowKept). AllHold (IsShardFault g.N.World.design g.N.World.plan w.before c.args.strobes.now.passed) c.args.faults.now.items) (sym c.view_of-view.ensures.window) c.requires.faults

pub invariant_of-result : goal.invariant_of-result
invariant_of-result g c = (c.in_ok-through_first.ensures.machine, c.in_ok-through_first.ensures.lockstep, c.in_ok-through_first.ensures.room)

pub returns-clause-faults : goal.returns-clause-faults
returns-clause-faults g c =
    subst (λ (w : WindowKept). AllZip (ComesThrough g.N.World.design g.N.World.plan w.through (passed_behind c.args.strobes.now)) c.args.faults.now.items c.through_first.new.faults.items)
    c.view_of-view.ensures.window c.in_ok-through_first.ensures.faults

pub returns-clause-ticks : goal.returns-clause-ticks
returns-clause-ticks g c tally =
    subst (λ (w : WindowKept). RisesWithin (steps_of_faults tally w.before c.args.faults.now.items)
    (steps_of_faults tally w.through c.through_first.new.faults.items) c.args.steps.now c.through_first.new.steps) c.view_of-view.ensures.window (c.in_ok-through_first.ensures.ticks tally)
