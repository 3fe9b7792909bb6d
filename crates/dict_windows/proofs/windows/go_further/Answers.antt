-- What comes next, and where all stand then.
use Rattle.std.proofs.Common.{refl, sym, subst}
use Rattle.good_windows.specs.Next.{GivesNext}
use Rattle.good_windows.specs.declared.next.NextWindow.{NextWindow}
use Rattle.dict_windows.specs.Windows.{StandsBeside}
use Rattle.dict_windows.proofs.Going.{has-gone-on, is-over, loops-at, rises-by}
use Rattle.dict_windows.proofs.windows.go_further.Goals as goal

pub pass_window-requires-after_bounds : goal.pass_window-requires-after_bounds
pass_window-requires-after_bounds g c κs within =
    let gives =
    subst (λ (next : NextWindow _). GivesNext g.N.World.design g.N.World.plan c.args.ahead.now.run.gone next c.next_window.new.self.gone) c.in-Window.is c.in_ok-next.ensures.next in
    subst (λ n. StandsBeside g.N.World.design g.N.World.plan n c.args.beside.now) (sym gives.0.before_is) c.requires.stands

pub returns-in-Over-clause-next : goal.returns-in-Over-clause-next
returns-in-Over-clause-next g c =
    is-over g.N.World.design g.N.World.plan c.args.ahead.now.run.gone c.next_window.new.self.gone c.args.beside.now
    (subst (λ (next : NextWindow _). GivesNext g.N.World.design g.N.World.plan c.args.ahead.now.run.gone next c.next_window.new.self.gone) c.in-Over.is c.in_ok-next.ensures.next)
    c.requires.stands

pub returns-in-Loops-clause-next : goal.returns-in-Loops-clause-next
returns-in-Loops-clause-next g c =
    loops-at g.N.World.design g.N.World.plan c.args.ahead.now.run.gone c.next_window.new.self.gone c.in-Loops.time
    (subst (λ (next : NextWindow _). GivesNext g.N.World.design g.N.World.plan c.args.ahead.now.run.gone next c.next_window.new.self.gone) c.in-Loops.is c.in_ok-next.ensures.next)

pub returns-in_ok-pass_window-in-Window-clause-next : goal.returns-in_ok-pass_window-in-Window-clause-next
returns-in_ok-pass_window-in-Window-clause-next g c =
    has-gone-on g.N.World.design g.N.World.plan c.args.ahead.now.run.gone c.next_window.new.self.gone c.next_window.new.self c.in-Window.window c.pass_window.new.beside refl
    c.in_ok-next.ensures.usable
    (subst (λ (next : NextWindow _). GivesNext g.N.World.design g.N.World.plan c.args.ahead.now.run.gone next c.next_window.new.self.gone) c.in-Window.is c.in_ok-next.ensures.next)
    c.in_ok-pass_window-in-Window.ensures.stands

pub returns-in_ok-pass_window-in-Window-clause-ticks : goal.returns-in_ok-pass_window-in-Window-clause-ticks
returns-in_ok-pass_window-in-Window-clause-ticks g c =
    rises-by g.N.World.design g.N.World.plan c.args.ahead.now.run.ran c.next_window.new.self.ran c.args.steps.now c.next_window.new.steps c.pass_window.new.steps c.args.beside.now.shards.items
    c.pass_window.new.beside.shards.items c.in_ok-next.ensures.ticks c.in_ok-pass_window-in-Window.ensures.ticks
