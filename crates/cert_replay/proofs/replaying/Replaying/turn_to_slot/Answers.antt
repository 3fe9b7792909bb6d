-- The next slot begins.
use Rattle.std.proofs.Common.{◌&&◌, refl}
use Rattle.std.specs.Prelude.{nat_le}
use Rattle.std.proofs.lemmas.Bool.{ne_eqb}
use Rattle.cert_replay.proofs.Turning.{turn-quiet, slot-starting, slot-goes, slot-none, slot-other}
use Rattle.cert_replay.proofs.replaying.Replaying.turn_to_slot.Goals as goal

pub later_time-requires : goal.later_time-requires
later_time-requires c = c.requires.ended.arranged

pub turn-requires-clause-kept : goal.turn-requires-clause-kept
turn-requires-clause-kept c = c.requires.ended.arranged

pub turn-requires-clause-quiet : goal.turn-requires-clause-quiet
turn-requires-clause-quiet c = turn-quiet c.args.self.now c.requires

pub returns-in_default : goal.returns-in_default
returns-in_default c = slot-none c.args.self.now c.args.time c.in_default.ensures

pub returns-then-later-time : goal.returns-then-later-time
returns-then-later-time c =
    slot-other c.args.self.now c.in-Some.later c.args.time c.in-Some.ensures
    (λ i. ne_eqb c.in-Some.later c.args.time c.if-later-time.true i && nat_le c.in-Some.later c.args.self.now.bound)

pub begin_slot-requires : goal.begin_slot-requires
begin_slot-requires c =
    slot-starting c.writes_stay.ensures.stay c.args.self.now _ c.in-Some.later c.requires c.in-Some.ensures c.in_ok-turn.ensures.turned c.in_ok-turn.ensures.kept refl

pub returns : goal.returns
returns c =
    slot-goes c.writes_stay.ensures.stay c.args.self.now (record c.args.self.now { table = c.turn.new.self }) c.begin_slot.new.self c.in-Some.later c.args.time c.in-Some.ensures
    c.if-later-time.false c.if-self-later.false c.in_ok-turn.ensures.turned c.in_ok-turn.ensures.kept refl (record { race = refl; bound = refl }) c.in_ok-begin_slot.ensures
