-- There is a first window.
use Rattle.std.proofs.Common.{◌≡◌, refl, ap, subst, arith}
use Rattle.good_windows.specs.Next.{GivesNext, steps_of_slots}
use Rattle.good_windows.specs.declared.next.NextWindow.{NextWindow}
use Rattle.shard_rounds.proofs.Going.{goes-on, loops-at}
use Rattle.shard_rounds.proofs.rounds.first_window.Goals as goal

pub returns-in-Window-clause-first : goal.returns-in-Window-clause-first
returns-in-Window-clause-first g c =
    goes-on g.N.World.design g.N.World.plan 0 c.run_on.new.ahead.run.gone c.run_on.new.ahead.run c.in-Window.window refl c.in_ok-next.ensures.next.usable
    (subst (λ (next : NextWindow _). GivesNext g.N.World.design g.N.World.plan 0 next c.run_on.new.ahead.run.gone) c.in-Window.is
    (subst (λ n. GivesNext g.N.World.design g.N.World.plan n c.in_ok-next.next c.run_on.new.ahead.run.gone) c.requires.none.0 c.in_ok-next.ensures.next.gives))

pub returns-in-Loops-clause-first : goal.returns-in-Loops-clause-first
returns-in-Loops-clause-first g c =
    loops-at g.N.World.design g.N.World.plan 0 c.run_on.new.ahead.run.gone c.in-Loops.time
    (subst (λ (next : NextWindow _). GivesNext g.N.World.design g.N.World.plan 0 next c.run_on.new.ahead.run.gone) c.in-Loops.is
    (subst (λ n. GivesNext g.N.World.design g.N.World.plan n c.in_ok-next.next c.run_on.new.ahead.run.gone) c.requires.none.0 c.in_ok-next.ensures.next.gives))

pub returns-in-Window-clause-ticks : goal.returns-in-Window-clause-ticks
returns-in-Window-clause-ticks g c =
    let nothing : steps_of_slots g.N.World.design g.N.World.plan c.args.ahead.now.run.ran ≡ 0 = ap (steps_of_slots g.N.World.design g.N.World.plan) c.requires.none.1 in
    omega (arith, nothing, c.in_ok-next.ensures.ticks.rises)

pub returns-in-Loops-clause-ticks : goal.returns-in-Loops-clause-ticks
returns-in-Loops-clause-ticks g c =
    let nothing : steps_of_slots g.N.World.design g.N.World.plan c.args.ahead.now.run.ran ≡ 0 = ap (steps_of_slots g.N.World.design g.N.World.plan) c.requires.none.1 in
    omega (arith, nothing, c.in_ok-next.ensures.ticks.rises)
