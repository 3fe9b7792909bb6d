-- Both moments, and the runner, one after the other.
use Rattle.std.proofs.Common.{refl}
use Rattle.phase_faults.proofs.slot_laws.Rooms.{before-within, behind-within}
use Rattle.phase_faults.proofs.slot_laws.Turns.{before-turn, behind-turn, runner-quiet}
use Rattle.lockstep_turn.proofs.turn.take_turn.Goals as goal

pub pass_turn-requires-clause-window : goal.pass_turn-requires-clause-window
pass_turn-requires-clause-window g c κs within =
    let of = c.requires.turn in
    let room = c.args.room.now in
    let window = c.args.view.now.window.now in
    before-within g.N.World.design g.N.World.plan window.before window.through of.number of.place room.runner room.before room.behind of.room _ _ refl refl

pub pass_turn-requires-clause-place : goal.pass_turn-requires-clause-place
pass_turn-requires-clause-place g c κs within =
    let of = c.requires.turn in
    let room = c.args.room.now in
    let window = c.args.view.now.window.now in
    before-turn c.phases_follow.ensures.phases g.N.World.design g.N.World.plan window.before window.through of.number of.slot of.place room.runner room.before room.behind of.next of.later of.room
    of.fine of.place_is of.through of.later_is

pub pass_turn-requires-2-clause-window : goal.pass_turn-requires-2-clause-window
pass_turn-requires-2-clause-window g c κs within =
    let of = c.requires.turn in
    let room = c.args.room.now in
    let window = c.args.view.now.window.now in
    behind-within g.N.World.design g.N.World.plan window.before window.through of.number of.place room.runner room.before room.behind of.room _ _ refl refl

pub pass_turn-requires-2-clause-place : goal.pass_turn-requires-2-clause-place
pass_turn-requires-2-clause-place g c κs within =
    let of = c.requires.turn in
    let room = c.args.room.now in
    let window = c.args.view.now.window.now in
    behind-turn c.phases_follow.ensures.phases g.N.World.design g.N.World.plan window.before window.through of.number of.slot of.place room.runner room.before room.behind of.next of.later of.room
    of.fine of.place_is of.through of.later_is

pub turn-requires-clause-whole : goal.turn-requires-clause-whole
turn-requires-clause-whole g c = c.requires.turn.room.at.runs.whole

pub turn-requires-clause-quiet : goal.turn-requires-clause-quiet
turn-requires-clause-quiet g c =
    let of = c.requires.turn in
    let room = c.args.room.now in
    let window = c.args.view.now.window.now in
    runner-quiet c.phases_follow.ensures.phases g.N.World.design g.N.World.plan window.before window.through of.number of.slot of.place room.runner room.before room.behind of.next of.later of.room
    of.fine of.place_is of.through of.later_is

pub returns-clause-turns : goal.returns-clause-turns
returns-clause-turns g c = λ number place next later room through follows. record {
  whole = c.in_ok-_turn.ensures.whole;
  machine_is = c.in_ok-_turn.ensures.machine;
  state_is = c.in_ok-_turn.ensures.state;
  before_turns = c.in_ok-pass_turn.ensures place next later room.at.before_at through follows;
  behind_turns = c.in_ok-pass_turn-2.ensures place next later room.at.behind_at through follows;
}
