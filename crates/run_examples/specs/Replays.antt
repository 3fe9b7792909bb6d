-- Legal orders that aren't the first.
use Rattle.std.specs.Prelude.{◌≡◌, refl, ℕ, zero, suc, Bool, true, false, List, [], ◌∷◌, Option, Some, None, map}
use Rattle.four_value.specs.Values.{number_of}
use Rattle.v_design.specs.Designs.{FlatDesign, Machine, good_machine, faulty_machine}
use Rattle.v_design.specs.States.{State, Step, LaneStep, Evaluation, NetUpdate, start}
use Rattle.v_design.specs.Runs.{Move, Happens, Turns, replayed, ends_by, first_run}
use Rattle.v_design.specs.Laws.{run_moves}
use Rattle.run_examples.specs.Build.{variable_fault}
use Rattle.run_examples.specs.Glitch
use Rattle.run_examples.specs.SharedRead
use Rattle.run_examples.specs.GatedClock

abbrev pub numbers : Option State → Option (List (Option ℕ))
numbers None = None
numbers (Some state) = Some (map number_of state.values)

abbrev pub finished : ℕ → Option State → Bool
finished time None = false
finished time (Some state) = ends_by time state

abbrev pub steps : ℕ → ℕ → List Move → List Move
steps process zero moves = moves
steps process (suc count) moves = Happens (Step process) ∷ steps process count moves

abbrev pub node_events : List Move → List Move
node_events moves = Happens (Evaluation 0) ∷ Happens (NetUpdate 0) ∷ moves

abbrev pub run_on : Machine → ℕ → List Move → Option State
run_on machine time moves = replayed machine time (start machine) moves

abbrev pub run_of : FlatDesign → ℕ → List Move → Option State
run_of design time moves = run_on (good_machine design) time moves

abbrev pub first_moves_on : Machine → ℕ → List Move
first_moves_on machine time = run_moves (first_run machine time)

-- the second process first
abbrev pub shared_second_first : List Move
shared_second_first = steps 0 1 (steps 1 1 (Turns ∷ steps 1 3 (steps 0 3 [])))

-- the same design with s held at 0
abbrev pub shared_held : Machine
shared_held = faulty_machine SharedRead.design (variable_fault 0 0 false)

-- the node evaluated once after both updates
abbrev pub glitch_unseen : List Move
glitch_unseen = steps 0 1 (steps 1 1 (Turns ∷ steps 0 3 (Turns ∷ Happens (LaneStep 0) ∷ Happens (LaneStep 0) ∷ node_events [])))

-- the node evaluated after each update
abbrev pub glitch_seen : List Move
glitch_seen =
    steps 0 1 (steps 1 1 (Turns ∷ steps 0 3 (Turns
    ∷ Happens (LaneStep 0) ∷ node_events (Happens (LaneStep 0) ∷ node_events (steps 1 4 (Turns ∷ Happens (LaneStep 1) ∷ []))))))

-- each node event put off to the phase's last moment
abbrev pub gated_late : List Move
gated_late =
    steps 0 1 (steps 1 1 (Turns ∷ steps 0 4 (node_events (steps 1 4 (Turns ∷ Happens (LaneStep 1) ∷ Turns ∷ steps 0 4 (node_events []))))))

-- what other legal orders than the first come to
pub record OtherOrders : Type 0 where
  -- the second process first, good and with s held: the same end
  pub shared_ends_alike : run_of SharedRead.design 30 shared_second_first ≡ run_of SharedRead.design 30 (first_moves_on (good_machine SharedRead.design) 30)
  pub shared_is_legal : finished 30 (run_of SharedRead.design 30 shared_second_first) ≡ true
  pub shared_held_ends_alike : run_on shared_held 30 shared_second_first ≡ run_on shared_held 30 (first_moves_on shared_held 30)
  pub shared_held_is_legal : finished 30 (run_on shared_held 30 shared_second_first) ≡ true
  -- the net never pulses: n stays 0
  pub glitch_unseen_ends : numbers (run_of Glitch.design 20 glitch_unseen) ≡ Some (Some 1 ∷ Some 1 ∷ Some 0 ∷ Some 0 ∷ [])
  pub glitch_unseen_is_legal : finished 20 (run_of Glitch.design 20 glitch_unseen) ≡ true
  -- the net pulses: n is 1
  pub glitch_seen_ends : numbers (run_of Glitch.design 20 glitch_seen) ≡ Some (Some 1 ∷ Some 1 ∷ Some 1 ∷ Some 0 ∷ [])
  pub glitch_seen_is_legal : finished 20 (run_of Glitch.design 20 glitch_seen) ≡ true
  -- node events that are put off: the same end
  pub gated_late_ends : numbers (run_of GatedClock.design 12 gated_late) ≡ Some (Some 0 ∷ Some 1 ∷ Some 1 ∷ Some 0 ∷ [])
  pub gated_first_ends : numbers (run_of GatedClock.design 12 (first_moves_on (good_machine GatedClock.design) 12)) ≡ Some (Some 0 ∷ Some 1 ∷ Some 1 ∷ Some 0 ∷ [])
  pub gated_is_legal : finished 12 (run_of GatedClock.design 12 gated_late) ≡ true
  -- a step that isn't possible is refused, and so is a turn before the phase's end
  pub step_is_refused : run_of GatedClock.design 12 (steps 0 2 []) ≡ None
  pub turn_is_refused : run_of GatedClock.design 12 (steps 0 1 (Turns ∷ [])) ≡ None

pub other_orders : OtherOrders
other_orders = record {
  shared_ends_alike = refl;
  shared_is_legal = refl;
  shared_held_ends_alike = refl;
  shared_held_is_legal = refl;
  glitch_unseen_ends = refl;
  glitch_unseen_is_legal = refl;
  glitch_seen_ends = refl;
  glitch_seen_is_legal = refl;
  gated_late_ends = refl;
  gated_first_ends = refl;
  gated_is_legal = refl;
  step_is_refused = refl;
  turn_is_refused = refl;
}
