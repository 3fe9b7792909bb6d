-- One wake more.
use Rattle.std.proofs.Common.{get_or, refl, arith}
use Rattle.passed_blocks.specs.window_wakes.declared.wake.Wake.{Wake}
use Rattle.good_moment.proofs.Waking.{so-far-none, so-far-more, so-far-all}
use Rattle.good_moment.proofs.passing.wake_all.Goals as goal

abbrev none : Wake
none = record { moment = 0; process = record { 0 = 0 } }

pub wakes-init : goal.wakes-init
wakes-init c = so-far-none c.args.wakes.now c.args.states.now.items c.args.acted.now.items

pub wakes-preserved : goal.wakes-preserved
wakes-preserved c =
    so-far-more c.wakes.wake-index c.args.wakes.now (get_or c.args.wakes.now c.wakes.wake-index none) c.args.states.now.items c.wakes.states.items c.wake_one.new.states.items
    c.args.acted.now.items c.wakes.acted.items c.push.new.self.items none c.wakes-test.true refl c.wake_one.ensures c.in_ok-push.ensures.items c.wakes.invariant

pub returns-clause-states : goal.returns-clause-states
returns-clause-states c =
    (so-far-all c.wakes.wake-index c.args.wakes.now c.args.states.now.items c.wakes.states.items c.args.acted.now.items c.wakes.acted.items (omega (arith, c.wakes-test.false)) c.wakes.invariant).0

pub returns-clause-acted : goal.returns-clause-acted
returns-clause-acted c =
    (so-far-all c.wakes.wake-index c.args.wakes.now c.args.states.now.items c.wakes.states.items c.args.acted.now.items c.wakes.acted.items (omega (arith, c.wakes-test.false)) c.wakes.invariant).1
