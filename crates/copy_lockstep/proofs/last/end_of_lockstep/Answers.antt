-- How the good first run goes on behind the window says which of its slots may be its stop.
use Rattle.std.proofs.Common.{◌≡◌, ◌+◌, ◌<◌, length, sym, subst, arith, inl, inr}
use Rattle.copy_laws.specs.Windows.{good_slots}
use Rattle.good_trace.specs.Slots.{end_of}
use Rattle.good_trace.specs.declared.ending.GoodEnd.{GoodEnd}
use Rattle.lockstep_due.specs.window_strobes.Leading.{EndsSo}
use Rattle.copy_lockstep.specs.Stops.{EndsWithoutStop}
use Rattle.copy_lockstep.proofs.last.end_of_lockstep.Goals as goal

pub returns-in-Open-clause-within : goal.returns-in-Open-clause-within
returns-in-Open-clause-within g c = omega (arith, c.slots-slots.ensures)

pub returns-in-Open-clause-fine : goal.returns-in-Open-clause-fine
returns-in-Open-clause-fine g c =
    let ends =
    subst (λ (e : GoodEnd). EndsSo g.N.World.design g.N.World.plan c.args.window.now.through (end_of e) c.args.strobes.now.until) c.in-Open.is c.requires.leads.ends in
    let more : c.args.window.now.through < length (good_slots g.N.World.design g.N.World.plan) = ends.2.more in
    inl (omega (arith, more, c.slots-slots.ensures))

pub returns-in-Through-clause-within : goal.returns-in-Through-clause-within
returns-in-Through-clause-within g c = omega (arith, c.slots-slots.ensures)

pub returns-in-Through-clause-fine : goal.returns-in-Through-clause-fine
returns-in-Through-clause-fine g c =
    let ends =
    subst (λ (e : GoodEnd). EndsSo g.N.World.design g.N.World.plan c.args.window.now.through (end_of e) c.args.strobes.now.until) c.in-Through.is c.requires.leads.ends in
    inr (subst (EndsWithoutStop g.N.World.design g.N.World.plan) (sym c.slots-slots.ensures) (record { all = ends.0; never = ends.1 }))

pub returns-in-Raced-clause-within : goal.returns-in-Raced-clause-within
returns-in-Raced-clause-within g c = omega (arith, c.slots-slots.ensures)

pub returns-in-Raced-clause-fine : goal.returns-in-Raced-clause-fine
returns-in-Raced-clause-fine g c =
    let ends =
    subst (λ (e : GoodEnd). EndsSo g.N.World.design g.N.World.plan c.args.window.now.through (end_of e) c.args.strobes.now.until) c.in-Raced.is c.requires.leads.ends in
    let all : length (good_slots g.N.World.design g.N.World.plan) ≡ c.args.window.now.through = ends.0.all in
    let some : c.args.window.now.before < c.args.window.now.through = c.begins-first.ensures.window.some in
    inl (omega (arith, all, some, c.slots-slots.ensures))
