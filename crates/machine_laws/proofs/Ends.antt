-- The end of a slot, the first race of its phases, and the notes of its events.
use Rattle.std.proofs.Common.{◌≡◌, ℕ, zero, suc, ◌+◌, List, [], ◌∷◌, ◌++◌, length, Bool, true, false, refl, sym, ap, ◌∙◌, arith}
use Rattle.std.specs.Prelude.{Option, Some, None}
use Rattle.std.specs.Option.{option_map}
use Rattle.std.proofs.lemmas.Bool.{lt-ltb, le-ltb}
use Rattle.v_design.specs.Designs.{Machine}
use Rattle.v_design.specs.States.{State, Event, after, turn_of}
use Rattle.v_design.specs.Runs.{event_or_turn, all_made, counted_steps, slot_moves, most_steps, first_moves, is_hyper, happened}
use Rattle.v_design.specs.Logs.{PhaseAccess}
use Rattle.v_design.specs.PhaseLogs.{NotedEvent, note_of, noted_from, phase_race}
use Rattle.v_design.specs.Grades.{Phase, Hyper, cut, phases, race_of, first_race, race_or_fine}
use Rattle.machine_laws.specs.SlotLoop.{Moment, ComesTo, EndsAt, slot_from, phases_so_far, or_race, QuietSlotsEnd, HyperSlotsEnd, RacesGoOn, NotesGoOn}
use Rattle.machine_laws.proofs.Moments.{append-nothing, on_move, none-first}

-- Ends

-- where no move is left the slot ends
no-moves-left : (machine : Machine) (hyper : Bool) (at : Moment) (r : ComesTo machine at) → slot_moves r.most_left r.steps_left machine at.state ≡ [] →
    is_hyper (slot_from machine at.begins) ≡ hyper → EndsAt machine hyper at
no-moves-left machine hyper at r none is = record {
  end_is = ap (all_made machine at.begins) all ∙ sym r.made_so_far;
  phases_are = parts;
  hyper_is = is;
  outcome_is = λ i. elim (is i) [ true ↦ Hyper | false ↦ race_or_fine (first_race machine 1 (parts i)) ];
}
  where
    all : first_moves machine at.begins ≡ r.moves
    all = r.goes_on ∙ ap (λ l. r.moves ++ l) none ∙ append-nothing r.moves

    parts : phases machine (slot_from machine at.begins) ≡ phases_so_far at
    parts = ap (cut machine None at.begins [] at.begins) (r.goes_on ∙ ap (λ l. r.moves ++ l) none) ∙ r.cuts []

-- all moves are made
steps-made : (machine : Machine) (at : Moment) (r : ComesTo machine at) → slot_moves r.most_left r.steps_left machine at.state ≡ [] → counted_steps (first_moves machine at.begins) ≡ at.steps
steps-made machine at r none = ap counted_steps (r.goes_on ∙ ap (λ l. r.moves ++ l) none ∙ append-nothing r.moves) ∙ sym r.counted

pub quiet_slots_end : QuietSlotsEnd
quiet_slots_end machine at r few idle quiet =
    let none = nothing r.most_left r.steps_left in
    let count : counted_steps (first_moves machine at.begins) ≡ at.steps = steps-made machine at r none in
    no-moves-left machine false at r none (le-ltb most_steps (counted_steps (first_moves machine at.begins)) (omega (arith, count, few)))
  where
    nothing : (most steps : ℕ) → slot_moves most steps machine at.state ≡ []
    nothing zero steps = refl
    nothing (suc most) zero = refl
    nothing (suc most) (suc steps) = ap (on_move most (suc steps) machine at.state) (ap (λ f. event_or_turn f (turn_of at.state)) (none-first at.state idle) ∙ quiet)

pub hyper_slots_end : HyperSlotsEnd
hyper_slots_end machine at r many =
    let none = nothing r.most_left r.steps_left (let e = r.room in omega (arith, e, many)) in
    let count : counted_steps (first_moves machine at.begins) ≡ at.steps = steps-made machine at r none in
    no-moves-left machine true at r none (lt-ltb most_steps (counted_steps (first_moves machine at.begins)) (omega (arith, count, many)))
  where
    nothing : (most steps : ℕ) → steps ≡ 0 → slot_moves most steps machine at.state ≡ []
    nothing zero steps e = refl
    nothing (suc most) zero e = refl
    nothing (suc most) (suc steps) e = absurd (omega (arith, e))

-- Races

race-more : (machine : Machine) (number : ℕ) (before : List Phase) (phase : Phase) →
    first_race machine number (before ++ phase ∷ []) ≡ or_race (first_race machine number before)
    (option_map (race_of phase.begins.time (length before + number)) (phase_race machine phase.begins phase.events))
race-more machine number [] phase = go (phase_race machine phase.begins phase.events)
  where
    go : (found : Option (PhaseAccess × PhaseAccess)) → elim found [ None ↦ None | Some pair ↦ Some (race_of phase.begins.time number pair) ] ≡ option_map
        (race_of phase.begins.time (0 + number)) found
    go None = refl
    go (Some pair) = let z : number ≡ 0 + number = omega arith in ap (λ n. Some (race_of phase.begins.time n pair)) z
race-more machine number (first ∷ before) phase = go (phase_race machine first.begins first.events) (race-more machine (number + 1) before phase)
  where
    go : (found : Option (PhaseAccess × PhaseAccess)) →
        first_race machine (number + 1) (before ++ phase ∷ [])
        ≡ or_race (first_race machine (number + 1) before) (option_map (race_of phase.begins.time (length before + (number + 1))) (phase_race machine phase.begins phase.events)) →
        elim found [ None ↦ first_race machine (number + 1) (before ++ phase ∷ []) | Some pair ↦ Some (race_of first.begins.time number pair) ]
        ≡ or_race (elim found [ None ↦ first_race machine (number + 1) before | Some pair ↦ Some (race_of first.begins.time number pair) ])
        (option_map (race_of phase.begins.time (length (first ∷ before) + number)) (phase_race machine phase.begins phase.events))
    go None rest =
        rest
        ∙ (let z : length before + (number + 1) ≡ length (first ∷ before) + number = omega arith in
        ap (λ n. or_race (first_race machine (number + 1) before) (option_map (race_of phase.begins.time n) (phase_race machine phase.begins phase.events))) z)
    go (Some pair) rest = refl

pub races_go_on : RacesGoOn
races_go_on machine before phase = race-more machine 1 before phase

-- Notes

notes-more : (machine : Machine) (earlier : List NotedEvent) (state : State) (events : List Event) (event : Event) →
    noted_from machine earlier state (events ++ event ∷ []) ≡ noted_from machine earlier state events
    ++ note_of machine (noted_from machine earlier state events) (happened machine state events) event ∷ []
notes-more machine earlier state [] event = refl
notes-more machine earlier state (first ∷ events) event = notes-more machine (earlier ++ note_of machine earlier state first ∷ []) (after machine state first) events event

pub notes_go_on : NotesGoOn
notes_go_on machine begins events event = notes-more machine [] begins events event
