-- A stop that is ahead is that of a fault which goes no longer, or it is ahead of the fault.
use Rattle.std.proofs.Common.{◌≡◌, ℕ, Bool, true, false, refl, arith}
use Rattle.std.specs.Prelude.{if◌then◌else◌}
use Rattle.lockstep_turn.proofs.phase_faults.Moving.{stays-same}
use Rattle.lockstep_turn.proofs.phase_faults.Waiting.{waits-first}
use Rattle.lockstep_phase.proofs.own.take_at_stop.Goals as goal

stop-goes : (goes : Bool) (until end stop : ℕ) → stop ≡ (if goes then until else end) → goes ≡ true → stop ≡ until
stop-goes true until end stop is e = is
stop-goes false until end stop is e = cc

pub returns-then-moment-at-clause-own : goal.returns-then-moment-at-clause-own
returns-then-moment-at-clause-own g c =
    let each = c.args.each.now in
    let here = c.moment-moment.ensures in
    let later = c.if-moment-at.true in
    let own = stop-goes each.goes each.until c.args.end c.args.stop.now c.requires.stop in
    record {
      stays = stays-same each;
      late = λ late. refl;
      took = λ now goes. absurd (let same = own goes in omega (arith, here, later, now, same));
      most = λ now goes. absurd (let same = own goes in omega (arith, here, later, now, same));
      ahead = λ now goes. absurd (let same = own goes in omega (arith, here, later, now, same));
    }

pub returns-then-moment-at-clause-room : goal.returns-then-moment-at-clause-room
returns-then-moment-at-clause-room g c =
    let room = c.args.room.now in
    waits-first g.N.World.design g.N.World.plan c.args.time room.runner room.before room.behind room.counts

pub returns-clause-own : goal.returns-clause-own
returns-clause-own g c = c.in_ok-take_own.ensures.own

pub returns-clause-room : goal.returns-clause-room
returns-clause-room g c = c.in_ok-take_own.ensures.room
