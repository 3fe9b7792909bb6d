-- Whether a further turn is possible.
use Rattle.cert_replay.proofs.Turning.{through-turn, through-none, through-later}
use Rattle.cert_replay.proofs.replaying.Replaying.is_through.Goals as goal

pub slot_turn-requires : goal.slot_turn-requires
slot_turn-requires c = c.requires.ended.arranged

pub returns-in-Some : goal.returns-in-Some
returns-in-Some c = through-turn c.args.self.now c.in-Some.field-0 c.in-Some.ensures

pub returns-in-Some-later_time : goal.returns-in-Some-later_time
returns-in-Some-later_time c = through-later c.args.self.now c.in-Some-later_time.later c.in-Some-later_time.ensures

pub returns-in-None-later_time : goal.returns-in-None-later_time
returns-in-None-later_time c = through-none c.args.self.now c.in-None.ensures c.in-None-later_time.ensures
