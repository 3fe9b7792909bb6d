-- What stands beside a place of a slot goes on.
use Rattle.std.proofs.Common.{◌≡◌, ℕ, ◌+◌, List, [], ◌∷◌, ◌++◌, length, refl, sym, ap, subst, ◌∙◌, arith}
use Rattle.std.specs.Prelude.{Option, Some, None}
use Rattle.std.proofs.lemmas.List.{length-append}
use Rattle.v_design.specs.Designs.{FlatDesign, Machine, StuckAt, TestPlan, good_machine, faulty_machine}
use Rattle.v_design.specs.Grades.{Phase, cut, phases}
use Rattle.v_design.specs.OwnSteps.{StepSeen, runs_of, steps_in}
use Rattle.v_design.specs.Processes.{Activity}
use Rattle.v_design.specs.Runs.{FirstSlot, Move, Happens, Turns, happened, work_of}
use Rattle.v_design.specs.States.{State, NodeState, Event, TurnKind, after}
use Rattle.machine_laws.specs.SlotLoop.{Moment, ComesTo, NoNodeWorks, present_phase, first_moment, after_events, after_turn}
use Rattle.block_filter.specs.Blocks.{BlockPair}
use Rattle.copy_laws.specs.OwnRuns.{last_goes_on}
use Rattle.phase_blocks.specs.Blocks.{BlocksJoin, IsBetweenRuns}
use Rattle.phase_order.specs.Order.{FirstEventsSplit, PhasesFollow}
use Rattle.race_notes.specs.Notes.{NotesKept}
use Rattle.trace_window.specs.Moments.{window_events}
use Rattle.good_runs.specs.declared.tried.TriedStep.{TriedStep}
use Rattle.own_counts.specs.Slots.{NumbersAre, NumbersGoOn, OwnStepsOfSlots}
use Rattle.own_counts.specs.Slots as counted
use Rattle.own_slots.specs.Slots.{TriedStepsGoOn}
use Rattle.run_numbers.specs.Numbers.{good_more, own_more}
use Rattle.run_numbers.specs.declared.numbers.RunApart.{RunApart}
use Rattle.lockstep_index.specs.Alone.{IndexTellsFree, apart_values}
use Rattle.lockstep_index.specs.Writes.{WritesPass}
use Rattle.lockstep_laws.specs.Lockstep.{LockstepIsBeside}
use Rattle.lockstep_laws.specs.Passing.{AreFree}
use Rattle.lockstep_laws.specs.Phases.{IsInPhase}
use Rattle.lockstep_block.specs.Blocks.{passed_phase}
use Rattle.lockstep_block.specs.lockstep_slots.Kept.{LockstepKept, kept_within}
use Rattle.lockstep_block.specs.lockstep_slots.Places.{Place, behind_events, first_place, moment_there, next_phase, state_there}
use Rattle.lockstep_block.specs.lockstep_steps.Going.{IsGoing}
use Rattle.lockstep_block.proofs.lockstep_steps.Events.{behind-state, next-first}
use Rattle.lockstep_block.specs.window_places.Windows.{PlacesInWindows, TablesLeave}
use Rattle.beside_phases.specs.Laws.{OwnStepsGoOn, StandsBeside}
use Rattle.beside_phases.proofs.Shared.{steps-same}

pub record Laws : Type 0 where
  pub index : IndexTellsFree
  pub pass : WritesPass
  pub side : LockstepIsBeside
  pub slots : OwnStepsOfSlots
  pub numbers : NumbersGoOn
  pub tried : TriedStepsGoOn
  pub join : BlocksJoin
  pub follow : PhasesFollow
  pub split : FirstEventsSplit
  pub windows : PlacesInWindows

-- the first phase of a slot begins with no turn
abbrev turn_first : Option TurnKind → List Phase → Option TurnKind
turn_first turn [] = turn
turn_first turn (phase ∷ phases) = phase.turn

cut-turn : (machine : Machine) (turn : Option TurnKind) (begins : State) (events : List Event) (state : State) (moves : List Move) → turn_first turn (cut machine turn begins events state moves) ≡ turn
cut-turn machine turn begins events state [] = refl
cut-turn machine turn begins events state (Happens event ∷ moves) = cut-turn machine turn begins (events ++ event ∷ []) (after machine state event) moves
cut-turn machine turn begins events state (Turns ∷ moves) = refl

first-turn : (machine : Machine) (slot : FirstSlot) (phase : Phase) (later : List Phase) → phases machine slot ≡ phase ∷ later → None ≡ phase.turn
first-turn machine slot phase later are = sym (cut-turn machine None slot.begins [] slot.begins slot.moves) ∙ ap (turn_first None) are

in-phase : (machine : Machine) (at : Moment) → ComesTo machine at → IsInPhase machine at.state
in-phase machine at comes = record { begins = at.phase_begins; events = at.events; asked = comes.phase_asked; is = comes.happened_so_far }

module _ (laws : Laws) (design : FlatDesign) (plan : TestPlan) (fault : StuckAt) (slot : FirstSlot) (begins : State) (from until : ℕ) where
  -- no node of the faulty machine works between blocks
  own-rests : (moment : ℕ) (place : Place) (own : Moment) (pairs : List BlockPair) (notes : NotesKept) (kept : LockstepKept) (spare : ℕ) →
      IsGoing design plan fault slot begins from until moment place own pairs notes kept spare → NoNodeWorks own.state
  own-rests moment place own pairs notes kept spare g =
      let good = state_there (good_machine design) place in
      subst (λ (nodes : List NodeState). work_of 0 nodes ≡ None) (laws.side (kept_within kept good) good own.state g.stands.lockstep.lockstep).beside.nodes g.stands.between.nodes

  begins-beside : (moment : ℕ) (phase : Phase) (later : List Phase) (pairs : List BlockPair) (notes : NotesKept) (kept : LockstepKept) (spare : ℕ) →
      phases (good_machine design) slot ≡ phase ∷ later → IsGoing design plan fault slot begins from until moment (first_place phase later) (first_moment begins) pairs notes kept spare →
      StandsBeside design fault slot (first_place phase later) (first_moment begins) [] []
  begins-beside moment phase later pairs notes kept spare are g = record {
    so_far = laws.tried.begins (good_machine design) (faulty_machine design fault) (phases (good_machine design) slot) begins;
    beside = record {
      number_is = refl;
      turn_is = first-turn (good_machine design) slot phase later are;
      between = record { nodes = own-rests moment (first_place phase later) (first_moment begins) pairs notes kept spare g; runs = λ process. refl };
      numbers = λ process. refl;
    };
  }

  turns-beside : (moment : ℕ) (place : Place) (own : Moment) (pairs : List BlockPair) (notes : NotesKept) (kept : LockstepKept) (spare : ℕ) (tried : List TriedStep) (apart : List RunApart)
      (next : Phase) (later : List Phase) (turn : TurnKind) → next.turn ≡ Some turn →
      IsGoing design plan fault slot begins from until moment (next_phase next later place) (after_turn turn own) pairs notes kept spare →
      StandsBeside design fault slot place own tried apart → StandsBeside design fault slot (next_phase next later place) (after_turn turn own) tried []
  turns-beside moment place own pairs notes kept spare tried apart next later turn is g stands =
      let number = stands.beside.number_is in
      let one : length (own.ended ++ present_phase own ∷ []) ≡ length own.ended + 1 = length-append own.ended (present_phase own ∷ []) in
      let other : length (place.ended ++ place.phase ∷ []) ≡ length place.ended + 1 = length-append place.ended (place.phase ∷ []) in
      record {
        so_far = laws.tried.turns (good_machine design) (faulty_machine design fault) (phases (good_machine design) slot) own turn tried stands.so_far;
        beside = record {
          number_is = omega (arith, number, one, other);
          turn_is = sym is;
          between = record { nodes = own-rests moment (next_phase next later place) (after_turn turn own) pairs notes kept spare g; runs = λ process. refl };
          numbers = λ process. refl;
        };
      }

  module _ (moment : ℕ) (place : Place) (own : Moment) (pairs other_pairs : List BlockPair) (notes : NotesKept) (kept : LockstepKept) (spare : ℕ) (tried : List TriedStep) (apart : List RunApart)
      (events more : List Event) (g : IsGoing design plan fault slot begins from until moment place own pairs notes kept spare) (left : place.left ≡ events ++ more)
      (between : IsBetweenRuns (good_machine design) place.phase.begins (place.passed ++ events))
      (tables : TablesLeave design fault kept (window_events design plan from until) moment (moment + length events)) where
    -- each process takes the same steps
    steps-alike : (process : ℕ) →
        steps_in (good_machine design) process (state_there (good_machine design) place) events
        ≡ steps_in (faulty_machine design fault) process (happened (faulty_machine design fault) own.phase_begins own.events) events
    steps-alike process =
        let good = good_machine design in
        let there = state_there (good_machine design) place in
        let rules = g.stands.good_slot.rules in
        let alone = laws.windows.tables design plan fault from until moment place kept events more g.at left tables in
        let first = next-first laws.follow laws.split good slot place events more g.stands.good_slot g.stands.place_is left in
        let good_in = in-phase good (moment_there good slot place) g.stands.lockstep.good_comes in
        let own_in = in-phase (faulty_machine design fault) own g.stands.lockstep.own_comes in
        let free : AreFree design fault (apart_values kept.values) there events =
        laws.index design fault (kept_within kept there) there own.state events rules g.stands.lockstep.lockstep g.stands.nothing_same good_in own_in g.stands.between.nodes first alone.values in
        subst (λ (state : State). steps_in good process there events ≡ steps_in (faulty_machine design fault) process state events) g.stands.lockstep.own_comes.happened_so_far
        (steps-same design fault kept.values kept.writes laws.pass rules there own.state events g.stands.lockstep.lockstep good_in own_in first free alone.elsewhere process)

    pub passes-beside :
        IsGoing design plan fault slot begins from until (moment + length events) (behind_events events more place) (after_events (faulty_machine design fault) events own) other_pairs notes kept
        spare →
        StandsBeside design fault slot place own tried apart →
        StandsBeside design fault slot (behind_events events more place) (after_events (faulty_machine design fault) events own) tried apart
    passes-beside on stands =
        let good = good_machine design in
        let faulty = faulty_machine design fault in
        let behind = after_events faulty events own in
        let present = laws.slots.present faulty events own in
        let here = happened faulty own.phase_begins own.events in
        let state : behind.state ≡ happened faulty here events =
        behind-state faulty events own ∙ ap (λ (s : State). happened faulty s events) g.stands.lockstep.own_comes.happened_so_far in
        let alone : IsBetweenRuns good (state_there good place) events = (laws.join good place.phase.begins place.passed events g.stands.between).1 between in
        let own_alone : IsBetweenRuns faulty here events = record {
          nodes =
              subst NoNodeWorks state
              (own-rests (moment + length events) (behind_events events more place) behind other_pairs notes kept spare on);
          runs = λ process. ap (λ (l : List (Activity × StepSeen)). last_goes_on (runs_of l)) (sym (steps-alike process)) ∙ alone.runs process;
        } in
        let own_between : IsBetweenRuns faulty own.phase_begins (own.events ++ events) = (laws.join faulty own.phase_begins own.events events stands.beside.between).0 own_alone in
        record {
          so_far = laws.tried.passes good faulty (phases good slot) own events tried stands.so_far;
          beside = record {
            number_is = ap length (laws.slots.ended faulty events own) ∙ stands.beside.number_is;
            turn_is = ap (λ (phase : Phase). phase.turn) present ∙ stands.beside.turn_is;
            between = subst (λ (phase : Phase). IsBetweenRuns faulty phase.begins phase.events) (sym present) own_between;
            numbers =
                subst (λ (phase : Phase). NumbersAre good faulty (passed_phase (behind_events events more place)) phase (own_more apart) (good_more apart)) (sym present)
                (laws.numbers.passes good faulty (passed_phase place) (present_phase own) events (own_more apart) (good_more apart) g.stands.between stands.beside.between steps-alike
                stands.beside.numbers);
          };
        }

pub own_steps_go_on : Laws → OwnStepsGoOn
own_steps_go_on laws = record {
  begins = λ design plan fault slot begins from until moment phase later pairs notes kept spare are g.
      begins-beside laws design plan fault slot begins from until moment phase later pairs notes kept spare are g;
  passes = λ design plan fault slot begins from until moment place own pairs other_pairs notes kept spare tried apart events more g left between tables on stands.
      passes-beside laws design plan fault slot begins from until moment place own pairs other_pairs notes kept spare tried apart events more g left between tables on stands;
  turns = λ design plan fault slot begins from until moment place own pairs notes kept spare tried apart next later turn is g stands.
      turns-beside laws design plan fault slot begins from until moment place own pairs notes kept spare tried apart next later turn is g stands;
}
