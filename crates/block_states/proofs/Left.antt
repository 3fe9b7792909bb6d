-- A process that took a step in a block isn't ready behind it, and does what its last run left it doing.
use Rattle.std.proofs.Common.{◌≡◌, ℕ, List, [], ◌∷◌, ◌++◌, map, false, refl, sym, ap, ◌∙◌, append_assoc, append-nil}
use Rattle.std.specs.Prelude.{Option, None}
use Rattle.v_design.specs.Designs.{Machine}
use Rattle.v_design.specs.States.{State, Event, after, process_at, is_ready, TurnKind}
use Rattle.v_design.specs.Runs.{Happens, happened, all_made}
use Rattle.v_design.specs.Grades.{cut}
use Rattle.v_design.specs.OwnSteps.{steps_in, runs_of}
use Rattle.between_slots.specs.Between.{activity_after_runs, runs_in, SlotsLeave}
use Rattle.phase_blocks.proofs.Going.{RunLaws}
use Rattle.phase_blocks.proofs.Stopped.{stepped-rest}
use Rattle.block_states.specs.Leaving.{BlocksLeave}
use Rattle.block_states.proofs.Woken.{stays-so, becomes-ready}

-- Events as the moves of a slot with one phase

made-so : (machine : Machine) (state : State) (events : List Event) → all_made machine state (map Happens events) ≡ happened machine state events
made-so machine state [] = refl
made-so machine state (event ∷ events) = made-so machine (after machine state event) events

cut-so : (machine : Machine) (turn : Option TurnKind) (begins : State) (done events : List Event) (state : State) →
    cut machine turn begins done state (map Happens events) ≡ record { turn = turn; begins = begins; events = done ++ events } ∷ []
cut-so machine turn begins done [] state = ap (λ l. record { turn = turn; begins = begins; events = l } ∷ []) (sym (append-nil done))
cut-so machine turn begins done (event ∷ events) state =
    cut-so machine turn begins (done ++ event ∷ []) events (after machine state event)
    ∙ ap (λ l. record { turn = turn; begins = begins; events = l } ∷ []) (append_assoc done (event ∷ []) events)

-- a process that isn't ready does what its last run left it doing
pub runs-leave : SlotsLeave → (machine : Machine) (state : State) (events : List Event) (p : ℕ) → is_ready (process_at (happened machine state events) p).activity ≡ false →
    (process_at (happened machine state events) p).activity ≡ activity_after_runs (process_at state p).activity (runs_of (steps_in machine p state events))
runs-leave law machine state events p stops =
    ap (λ (s : State). (process_at s p).activity) (sym (made-so machine state events))
    ∙ law machine (record { begins = state; moves = map Happens events }) p (ap (λ (s : State). is_ready (process_at s p).activity) (made-so machine state events) ∙ stops)
    ∙ ap (λ l. activity_after_runs (process_at state p).activity (runs_in machine p l)) (cut-so machine None state [] events state)
    ∙ ap (activity_after_runs (process_at state p).activity) (append-nil (runs_of (steps_in machine p state events)))

pub blocks_leave : RunLaws → SlotsLeave → BlocksLeave
blocks_leave laws law machine begins first events p rests whole = record {
  stepped = λ steps.
      let stops = stepped-rest laws machine begins (first ∷ events) p whole steps in
      (stops, runs-leave law machine begins (first ∷ events) p stops);
  stays = λ steps waits. stays-so machine begins (first ∷ events) p steps waits;
  woken = λ steps waits. becomes-ready machine begins (first ∷ events) p steps waits;
}
