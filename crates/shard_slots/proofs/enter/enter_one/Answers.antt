-- One that rests stays as it is.
use Rattle.std.proofs.Common.{◌≡◌, ℕ, ◌+◌, sym, subst, ◌∙◌, arith}
use Rattle.copy_lockstep.proofs.window_faults.Steps.{stays-open, stays-same}
use Rattle.copy_lockstep.proofs.window_faults.Within.{is-listed, none-end}
use Rattle.shard_slots.specs.Slots.{EntersIf}
use Rattle.shard_slots.proofs.enter.enter_one.Goals as goal

pub listed_fault-fault-requires-after_bounds : goal.listed_fault-fault-requires-after_bounds
listed_fault-fault-requires-after_bounds g c κs within =
    is-listed g.N.World.design g.N.World.plan (c.args.view.now.window.now.before + c.args.at.now.slot) c.args.at.now.passed c.args.own.now c.requires.within.stands

pub returns-then-is_some-clause-enters : goal.returns-then-is_some-clause-enters
returns-then-is_some-clause-enters g c = record { later = c.requires.some; within = c.requires.within; come = c.requires.come }

pub returns-then-is_some-clause-stays : goal.returns-then-is_some-clause-stays
returns-then-is_some-clause-stays g c = stays-same c.args.own.now

pub returns-then-slot-at-clause-enters : goal.returns-then-slot-at-clause-enters
returns-then-slot-at-clause-enters g c = record { later = c.requires.some; within = c.requires.within; come = c.requires.come }

pub returns-then-slot-at-clause-stays : goal.returns-then-slot-at-clause-stays
returns-then-slot-at-clause-stays g c = stays-same c.args.own.now

pub enter_open-requires-clause-none : goal.enter_open-requires-clause-none
enter_open-requires-clause-none g c κs within = none-end c.args.own.now.end (sym c.is_some.ensures ∙ c.if-is_some.false)

pub returns-clause-enters : goal.returns-clause-enters
returns-clause-enters g c =
    let window = c.args.view.now.window.now in
    let same : c.args.at.now.slot ≡ c.args.slot = omega (arith, c.if-slot-at.false, c.requires.come (none-end c.args.own.now.end (sym c.is_some.ensures ∙ c.if-is_some.false))) in
    subst (λ (n : ℕ). EntersIf g.N.World.design g.N.World.plan window.before window.through n c.enter_open.new.own c.enter_open.new.at c.in_ok-found.found) same c.in_ok-found.ensures.enters

pub returns-clause-stays : goal.returns-clause-stays
returns-clause-stays g c =
    stays-open c.args.own.now c.enter_open.new.own c.in_ok-found.ensures.place (none-end c.args.own.now.end (sym c.is_some.ensures ∙ c.if-is_some.false))
