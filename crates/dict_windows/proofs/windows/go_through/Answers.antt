-- Windows end since each has slots of the good first run.
use Rattle.std.proofs.Common.{◌<◌, ◌≤◌, length, subst, ◌∙◌, arith}
use Rattle.copy_laws.specs.Windows.{good_slots}
use Rattle.dict_windows.specs.Windows.{GoesOn}
use Rattle.dict_windows.specs.declared.windows.Next.{Next}
use Rattle.dict_windows.proofs.Going.{rises-more}
use Rattle.dict_windows.proofs.windows.go_through.Goals as goal

pub windows-preserved : goal.windows-preserved
windows-preserved g c =
    let went =
    subst (λ (next : Next). GoesOn g.N.World.design g.N.World.plan c.windows.ahead.run.gone c.go_further.new.ahead.run c.go_further.new.beside next) c.in-Window.is c.in_ok-next.ensures.next in
    record {
      usable = went.usable;
      stands = went.stands;
      faults = c.in_ok-next.ensures.faults ∙ c.windows.invariant.faults;
      ticks =
          rises-more g.N.World.design g.N.World.plan c.args.ahead.now.run.ran c.windows.ahead.run.ran c.go_further.new.ahead.run.ran c.args.steps.now c.windows.steps c.go_further.new.steps
          c.args.beside.now.shards.items c.windows.beside.shards.items c.go_further.new.beside.shards.items c.windows.invariant.ticks c.in_ok-next.ensures.ticks;
    }

pub windows-smaller : goal.windows-smaller
windows-smaller g c =
    let went =
    subst (λ (next : Next). GoesOn g.N.World.design g.N.World.plan c.windows.ahead.run.gone c.go_further.new.ahead.run c.go_further.new.beside next) c.in-Window.is c.in_ok-next.ensures.next in
    let further : c.windows.ahead.run.gone < c.go_further.new.ahead.run.gone = went.further in
    let within : c.go_further.new.ahead.run.gone ≤ length (good_slots g.N.World.design g.N.World.plan) = went.within in
    omega (arith, further, within)

pub returns-in-Over-clause-through : goal.returns-in-Over-clause-through
returns-in-Over-clause-through g c =
    subst (λ (next : Next). GoesOn g.N.World.design g.N.World.plan c.windows.ahead.run.gone c.go_further.new.ahead.run c.go_further.new.beside next) c.in-Over.is c.in_ok-next.ensures.next

pub returns-in-Over-clause-faults : goal.returns-in-Over-clause-faults
returns-in-Over-clause-faults g c = c.in_ok-next.ensures.faults ∙ c.windows.invariant.faults

pub returns-in-Over-clause-ticks : goal.returns-in-Over-clause-ticks
returns-in-Over-clause-ticks g c =
    rises-more g.N.World.design g.N.World.plan c.args.ahead.now.run.ran c.windows.ahead.run.ran c.go_further.new.ahead.run.ran c.args.steps.now c.windows.steps c.go_further.new.steps
    c.args.beside.now.shards.items c.windows.beside.shards.items c.go_further.new.beside.shards.items c.windows.invariant.ticks c.in_ok-next.ensures.ticks

pub returns-in-Loops-clause-through : goal.returns-in-Loops-clause-through
returns-in-Loops-clause-through g c =
    subst (λ (next : Next). GoesOn g.N.World.design g.N.World.plan c.windows.ahead.run.gone c.go_further.new.ahead.run c.go_further.new.beside next) c.in-Loops.is c.in_ok-next.ensures.next

pub returns-in-Loops-clause-faults : goal.returns-in-Loops-clause-faults
returns-in-Loops-clause-faults g c = c.in_ok-next.ensures.faults ∙ c.windows.invariant.faults

pub returns-in-Loops-clause-ticks : goal.returns-in-Loops-clause-ticks
returns-in-Loops-clause-ticks g c =
    rises-more g.N.World.design g.N.World.plan c.args.ahead.now.run.ran c.windows.ahead.run.ran c.go_further.new.ahead.run.ran c.args.steps.now c.windows.steps c.go_further.new.steps
    c.args.beside.now.shards.items c.windows.beside.shards.items c.go_further.new.beside.shards.items c.windows.invariant.ticks c.in_ok-next.ensures.ticks
