-- The time is that at which the next slot begins.
use Rattle.std.proofs.Common.{◌≡◌, ◌∙◌, Some, None, refl, sym, ap}
use Rattle.std.specs.Prelude.{Option}
use Rattle.std.specs.Option.{option_map}
use Rattle.v_design.specs.States.{State, TurnKind, PostponedTurn, UpdatesTurn, TimeTurn, turn_of}
use Rattle.machine.specs.Standing.{machine_kept, state_kept, slot_after, begins_at}
use Rattle.machine_events.specs.Turns.{time_in}
use Rattle.machine.proofs.Beginnings.{begins-table}
use Rattle.machine.proofs.parts.Machine.next_time.Goals as goal

pub later_time-requires : goal.later_time-requires
later_time-requires c = c.requires.table

after-time : (state : State) (o : Option TurnKind) → time_in o ≡ option_map (λ (s : State). s.time) (slot_after state o)
after-time state None = refl
after-time state (Some PostponedTurn) = refl
after-time state (Some UpdatesTurn) = refl
after-time state (Some (TimeTurn time)) = refl

pub returns-in-Start : goal.returns-in-Start
returns-in-Start c = ap Some c.time.ensures ∙ sym (ap (λ g. option_map (λ (s : State). s.time) (begins_at g (state_kept c.args.self.now))) c.in-Start.is)

pub returns-in-Between : goal.returns-in-Between
returns-in-Between c =
    c.later_time.ensures (machine_kept c.args.self.now) (state_kept c.args.self.now) (begins-table c.args.self.now c.requires)
    ∙ after-time (state_kept c.args.self.now) (turn_of (state_kept c.args.self.now))
    ∙ sym (ap (λ g. option_map (λ (s : State). s.time) (begins_at g (state_kept c.args.self.now))) c.in-Between.is)

pub returns-in-Over : goal.returns-in-Over
returns-in-Over c = sym (ap (λ g. option_map (λ (s : State). s.time) (begins_at g (state_kept c.args.self.now))) c.in-Over.is)
