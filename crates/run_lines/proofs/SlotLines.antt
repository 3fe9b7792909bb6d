-- The lines of a slot are those of its phases.
use Rattle.std.proofs.Common.{◌≡◌, ℕ, zero, suc, ◌+◌, Bool, true, false, List, [], ◌∷◌, ◌++◌, map, refl, sym, ap, ◌∙◌, arith, append-nil}
use Rattle.std.specs.Prelude.{Option, None, nat_eq}
use Rattle.v_design.specs.Designs.{Machine}
use Rattle.v_design.specs.States.{State, Event, Step, LaneStep, Evaluation, NetUpdate, TurnKind, after, turn_of}
use Rattle.v_design.specs.Runs.{Move, Happens, Turns, FirstSlot, made}
use Rattle.v_design.specs.Grades.{Phase, cut, phases}
use Rattle.cert_laws.specs.Replays.{RunLine, SlotAt, PhaseNumber, StepsOf, UpdatesOf}
use Rattle.cert_laws.specs.Written.{with_step, with_update, moves_lines, slot_lines}
use Rattle.run_lines.specs.Open.{with_event, with_events, onto}
use Rattle.run_lines.specs.Slots.{first_line, phase_lines, phases_lines}

-- the line with which a phase begins is never joined with what is behind it
pub first-onto : (time place : ℕ) (lines : List RunLine) → onto (first_line time place) lines ≡ first_line time place ∷ lines
first-onto time zero lines = refl
first-onto time (suc place) lines = refl

-- Events

step-before : (process number : ℕ) (lines behind : List RunLine) → with_step process (lines ++ PhaseNumber number ∷ behind) ≡ with_step process lines ++ PhaseNumber number ∷ behind
step-before process number [] behind = refl
step-before process number (SlotAt time ∷ lines) behind = refl
step-before process number (PhaseNumber other ∷ lines) behind = refl
step-before process number (UpdatesOf other count ∷ lines) behind = refl
step-before process number (StepsOf other count ∷ lines) behind = go (nat_eq other process)
  where
    go : (b : Bool) → elim b [
      | true ↦ StepsOf process (count + 1) ∷ (lines ++ PhaseNumber number ∷ behind)
      | false ↦ StepsOf process 1 ∷ StepsOf other count ∷ (lines ++ PhaseNumber number ∷ behind)
    ] ≡ elim b [ true ↦ StepsOf process (count + 1) ∷ lines | false ↦ StepsOf process 1 ∷ StepsOf other count ∷ lines ] ++ PhaseNumber number ∷ behind
    go true = refl
    go false = refl

update-before : (process number : ℕ) (lines behind : List RunLine) → with_update process (lines ++ PhaseNumber number ∷ behind) ≡ with_update process lines ++ PhaseNumber number ∷ behind
update-before process number [] behind = refl
update-before process number (SlotAt time ∷ lines) behind = refl
update-before process number (PhaseNumber other ∷ lines) behind = refl
update-before process number (StepsOf other count ∷ lines) behind = refl
update-before process number (UpdatesOf other count ∷ lines) behind = go (nat_eq other process)
  where
    go : (b : Bool) → elim b [
      | true ↦ UpdatesOf process (count + 1) ∷ (lines ++ PhaseNumber number ∷ behind)
      | false ↦ UpdatesOf process 1 ∷ UpdatesOf other count ∷ (lines ++ PhaseNumber number ∷ behind)
    ] ≡ elim b [ true ↦ UpdatesOf process (count + 1) ∷ lines | false ↦ UpdatesOf process 1 ∷ UpdatesOf other count ∷ lines ] ++ PhaseNumber number ∷ behind
    go true = refl
    go false = refl

event-before : (event : Event) (number : ℕ) (lines behind : List RunLine) → with_event event (lines ++ PhaseNumber number ∷ behind) ≡ with_event event lines ++ PhaseNumber number ∷ behind
event-before (Step process) number lines behind = step-before process number lines behind
event-before (LaneStep process) number lines behind = update-before process number lines behind
event-before (Evaluation node) number lines behind = refl
event-before (NetUpdate node) number lines behind = refl

-- the lines of a phase stand before the number of the next one
events-before : (events : List Event) (number : ℕ) (behind : List RunLine) → with_events events (PhaseNumber number ∷ behind) ≡ with_events events [] ++ PhaseNumber number ∷ behind
events-before [] number behind = refl
events-before (event ∷ events) number behind = ap (with_event event) (events-before events number behind) ∙ event-before event number (with_events events []) behind

events-push : (events : List Event) (event : Event) (lines : List RunLine) → with_events (events ++ event ∷ []) lines ≡ with_events events (with_event event lines)
events-push [] event lines = refl
events-push (first ∷ events) event lines = ap (with_event first) (events-push events event lines)

-- Moves

event-moves : (event : Event) (number : ℕ) (moves : List Move) → with_event event (moves_lines number moves) ≡ moves_lines number (Happens event ∷ moves)
event-moves (Step process) number moves = refl
event-moves (LaneStep process) number moves = refl
event-moves (Evaluation node) number moves = refl
event-moves (NetUpdate node) number moves = refl

later-line : (time place : ℕ) → first_line time (place + 1) ≡ PhaseNumber (place + 1 + 1)
later-line time place = let e : place + 1 ≡ suc place = omega arith in ap (first_line time) e ∙ ap (λ n. PhaseNumber (n + 1)) (sym e)

cut-lines : (machine : Machine) (time place : ℕ) (turn : Option TurnKind) (begins : State) (events : List Event) (state : State) (moves : List Move) →
    phases_lines time place (map (λ (phase : Phase). phase.events) (cut machine turn begins events state moves)) ≡ first_line time place ∷ with_events events (moves_lines (place + 1) moves)
cut-lines machine time place turn begins events state [] = append-nil (phase_lines time place events)
cut-lines machine time place turn begins events state (Happens event ∷ moves) =
    cut-lines machine time place turn begins (events ++ event ∷ []) (after machine state event) moves
    ∙ ap (λ l. first_line time place ∷ l) (events-push events event (moves_lines (place + 1) moves) ∙ ap (with_events events) (event-moves event (place + 1) moves))
cut-lines machine time place turn begins events state (Turns ∷ moves) =
    ap (λ l. phase_lines time place events ++ l)
    (cut-lines machine time (place + 1) (turn_of state) (made machine state Turns) [] (made machine state Turns) moves
    ∙ ap (λ line. line ∷ moves_lines (place + 1 + 1) moves) (later-line time place))
    ∙ ap (λ l. first_line time place ∷ l) (sym (events-before events (place + 1 + 1) (moves_lines (place + 1 + 1) moves)))

-- the lines of a slot
pub slot-lines : (machine : Machine) (slot : FirstSlot) → phases_lines slot.begins.time 0 (map (λ (phase : Phase). phase.events) (phases machine slot)) ≡ slot_lines slot
slot-lines machine slot = cut-lines machine slot.begins.time 0 None slot.begins [] slot.begins slot.moves
