-- Own steps of a phase and of a slot so far.
use Rattle.std.proofs.Common.{◌≡◌, ℕ, ◌+◌, ◌<◌, ◌≤◌, Bool, true, false, List, [], ◌∷◌, ◌++◌, length, nat_eq, refl, sym, ap, subst, ◌∙◌, arith}
use Rattle.std.specs.Prelude.{Option, None, if◌then◌else◌, find, slice_get}
use Rattle.std.proofs.lemmas.List.{append_assoc, append-nil}
use Rattle.v_design.specs.Designs.{Machine}
use Rattle.v_design.specs.Grades.{Phase, cut, phases}
use Rattle.v_design.specs.OwnSteps.{good_runs, phases_if, process_runs, slot_beside}
use Rattle.v_design.specs.Runs.{FirstSlot, Move, Happens, Turns, made, slot_moves}
use Rattle.v_design.specs.States.{State, TurnKind, Event, Step, LaneStep, Evaluation, NetUpdate, after, turn_of}
use Rattle.machine_laws.specs.SlotLoop.{Moment, ComesTo, present_phase, phases_so_far, slot_from, first_moment, after_event, after_events, after_turn}
use Rattle.copy_laws.specs.OwnRuns.{last_goes_on}
use Rattle.own_counts.specs.Counts.{AtMostOwn, OwnLast, OwnStepsCount, PhaseTicks, ProcessTicks, behind_event, with_answer}
use Rattle.own_counts.specs.Joins.{OwnStepsJoin, phases_beside}
use Rattle.own_counts.specs.Slots.{OwnCountSoFar, OwnStepsOfPhases, OwnStepsOfSlots, OwnTicks, SlotGoesOn, behind_events}

-- A phase

-- with answers that are the same
answers-same : (good faulty : Machine) (other : Option Phase) (phase : Phase) (one two : ℕ → Bool) (ticked : ℕ) → ((process : ℕ) → one process ≡ two process) →
    PhaseTicks good faulty other phase one ticked → PhaseTicks good faulty other phase two ticked
answers-same good faulty other phase one two ticked same so_far = record {
  parts = so_far.parts;
  each = λ process low.
      subst (λ (b : Bool). ProcessTicks (good_runs good process phase.turn other) (process_runs faulty process phase) b (so_far.parts process)) (same process) (so_far.each process low);
  total = so_far.total;
}

either-false : (b : Bool) → (if b then false else false) ≡ false
either-false true = refl
either-false false = refl

none-followed : (good faulty : Machine) (other : Option Phase) (phase : Phase) (process ticked : ℕ) →
    PhaseTicks good faulty other phase (with_answer process false (λ q. false)) ticked → OwnTicks good faulty other phase ticked
none-followed good faulty other phase process ticked =
    answers-same good faulty other phase (with_answer process false (λ q. false)) (λ q. false) ticked (λ q. either-false (nat_eq q process))

module _ (count : OwnStepsCount) where
  -- a step that doesn't tick, of a run that goes on or of a new one
  silent : (good faulty : Machine) (other : Option Phase) (phase : Phase) (process ticked : ℕ) (on : Bool) → last_goes_on (process_runs faulty process phase) ≡ on →
      OwnTicks good faulty other phase ticked → OwnTicks good faulty other (behind_event phase (Step process)) ticked
  silent good faulty other phase process ticked true is so_far = count.goes_on good faulty other phase process (λ q. false) ticked is so_far
  silent good faulty other phase process ticked false is so_far =
      none-followed good faulty other (behind_event phase (Step process)) process ticked (count.new good faulty other phase process false (λ q. false) ticked is so_far)

  one-later : (good faulty : Machine) (other : Option Phase) (phase : Phase) (event : Event) (ticked : ℕ) → OwnTicks good faulty other phase ticked →
      OwnTicks good faulty other (behind_event phase event) ticked
  one-later good faulty other phase (Step process) ticked so_far =
      silent good faulty other phase process ticked (last_goes_on (process_runs faulty process phase)) refl so_far
  one-later good faulty other phase (LaneStep process) ticked so_far = count.passes good faulty other phase (LaneStep process) (λ q. false) ticked (λ q. refl) so_far
  one-later good faulty other phase (Evaluation node) ticked so_far = count.passes good faulty other phase (Evaluation node) (λ q. false) ticked (λ q. refl) so_far
  one-later good faulty other phase (NetUpdate node) ticked so_far = count.passes good faulty other phase (NetUpdate node) (λ q. false) ticked (λ q. refl) so_far

  later : (good faulty : Machine) (other : Option Phase) (phase : Phase) (events : List Event) (ticked : ℕ) → OwnTicks good faulty other phase ticked →
      OwnTicks good faulty other (behind_events phase events) ticked
  later good faulty other phase [] ticked so_far =
      subst (λ (l : List Event). OwnTicks good faulty other (record phase { events = l }) ticked) (sym (append-nil phase.events)) so_far
  later good faulty other phase (event ∷ events) ticked so_far =
      subst (λ (l : List Event). OwnTicks good faulty other (record phase { events = l }) ticked) (append_assoc phase.events (event ∷ []) events)
      (later good faulty other (behind_event phase event) events ticked (one-later good faulty other phase event ticked so_far))

  own : (good faulty : Machine) (other : Option Phase) (phase : Phase) (process : ℕ) (ticked : ℕ) → process < length faulty.design.processes →
      OwnLast (good_runs good process phase.turn other) (process_runs faulty process (behind_event phase (Step process))) → OwnTicks good faulty other phase ticked →
      OwnTicks good faulty other (behind_event phase (Step process)) (ticked + 1)
  own good faulty other phase process ticked low last so_far =
      none-followed good faulty other (behind_event phase (Step process)) process (ticked + 1) (count.own good faulty other phase process (λ q. false) ticked low last so_far)

  fewer-ticks : (good faulty : Machine) (other : Option Phase) (phase : Phase) (ticked few : ℕ) → few ≤ ticked → OwnTicks good faulty other phase ticked → OwnTicks good faulty other phase few
  fewer-ticks good faulty other phase ticked few low so_far = let total = so_far.total in record { parts = so_far.parts; each = so_far.each; total = omega (arith, low, total) }

  pub own_steps_of_phases : OwnStepsOfPhases
  own_steps_of_phases = record {
    begins = λ good faulty other turn begins. count.begins good faulty other turn begins (λ q. false);
    later = later;
    own = own;
    fewer = fewer-ticks;
    ends = λ good faulty other phase ticked so_far. count.ends good faulty other phase (λ q. false) ticked so_far;
  }

-- Moments

present-behind : (machine : Machine) (events : List Event) (at : Moment) → present_phase (after_events machine events at) ≡ behind_events (present_phase at) events
present-behind machine [] at = ap (λ (l : List Event). record { turn = at.turn; begins = at.phase_begins; events = l }) (sym (append-nil at.events))
present-behind machine (event ∷ events) at =
    present-behind machine events (after_event machine event at)
    ∙ ap (λ (l : List Event). record { turn = at.turn; begins = at.phase_begins; events = l }) (append_assoc at.events (event ∷ []) events)

ended-behind : (machine : Machine) (events : List Event) (at : Moment) → (after_events machine events at).ended ≡ at.ended
ended-behind machine [] at = refl
ended-behind machine (event ∷ events) at = ended-behind machine events (after_event machine event at)

-- The phases of a slot

-- its first phase goes on with the events so far
record CutFirst (turn : Option TurnKind) (begins : State) (events : List Event) (all : List Phase) : Type 0 where
  more : List Event
  later : List Phase
  are : all ≡ record { turn = turn; begins = begins; events = events ++ more } ∷ later

cut-first : (machine : Machine) (turn : Option TurnKind) (begins : State) (events : List Event) (state : State) (moves : List Move) →
    CutFirst turn begins events (cut machine turn begins events state moves)
cut-first machine turn begins events state [] = record {
  more = [];
  later = [];
  are = ap (λ (l : List Event). record { turn = turn; begins = begins; events = l } ∷ []) (sym (append-nil events));
}
cut-first machine turn begins events state (Happens event ∷ moves) =
    let rest = cut-first machine turn begins (events ++ event ∷ []) (after machine state event) moves in
    record {
      more = event ∷ rest.more;
      later = rest.later;
      are = rest.are ∙ ap (λ (l : List Event). record { turn = turn; begins = begins; events = l } ∷ rest.later) (append_assoc events (event ∷ []) rest.more);
    }
cut-first machine turn begins events state (Turns ∷ moves) =
    let others = cut machine (turn_of state) (made machine state Turns) [] (made machine state Turns) moves in
    record { more = []; later = others; are = ap (λ (l : List Event). record { turn = turn; begins = begins; events = l } ∷ others) (sym (append-nil events)) }

goes-on : (machine : Machine) (at : Moment) → ComesTo machine at → SlotGoesOn machine at
goes-on machine at comes =
    let rest = slot_moves comes.most_left comes.steps_left machine at.state in
    let first = cut-first machine at.turn at.phase_begins at.events at.state rest in
    record {
      more = first.more;
      later = first.later;
      are =
          ap (λ (moves : List Move). cut machine None at.begins [] at.begins moves) comes.goes_on ∙ comes.cuts rest ∙ ap (λ (l : List Phase). at.ended ++ l) first.are;
    }

-- A slot

module _ (count : OwnStepsCount) (join : OwnStepsJoin) where
  -- phases that come later count no less
  more-phases : (good faulty : Machine) (others before later : List Phase) (ticked : ℕ) → AtMostOwn (phases_beside good faulty others before) ticked →
      AtMostOwn (phases_beside good faulty others (before ++ later)) ticked
  more-phases good faulty others before [] ticked bound =
      subst (λ (l : List Phase). AtMostOwn (phases_beside good faulty others l) ticked) (sym (append-nil before)) bound
  more-phases good faulty others before (phase ∷ later) ticked bound =
      subst (λ (l : List Phase). AtMostOwn (phases_beside good faulty others l) ticked) (append_assoc before (phase ∷ []) later)
      (more-phases good faulty others (before ++ phase ∷ []) later ticked
      (count.less (phases_beside good faulty others (before ++ phase ∷ [])) (ticked + 0) ticked (omega arith)
      (join.phases good faulty others before phase ticked 0 bound (λ counts all. omega arith))))

  begins : (good faulty : Machine) (others : List Phase) (begins : State) → OwnCountSoFar good faulty others (first_moment begins) 0
  begins good faulty others state = record {
    before = 0;
    now = 0;
    ended = count.none;
    present = count.begins good faulty (slice_get others 0) None state (λ q. false);
    total = omega arith;
  }

  -- behind some events the phases that ended are the same
  onward : (good faulty : Machine) (others : List Phase) (at : Moment) (events : List Event) (before now ticked : ℕ) → AtMostOwn (phases_beside good faulty others at.ended) before →
      OwnTicks good faulty (slice_get others (length at.ended)) (behind_events (present_phase at) events) now → ticked ≤ before + now →
      OwnCountSoFar good faulty others (after_events faulty events at) ticked
  onward good faulty others at events before now ticked ended present total = record {
    before = before;
    now = now;
    ended = subst (λ (l : List Phase). AtMostOwn (phases_beside good faulty others l) before) (sym (ended-behind faulty events at)) ended;
    present =
        subst (λ (l : List Phase). OwnTicks good faulty (slice_get others (length l)) (present_phase (after_events faulty events at)) now) (sym (ended-behind faulty events at))
        (subst (λ (phase : Phase). OwnTicks good faulty (slice_get others (length at.ended)) phase now) (sym (present-behind faulty events at)) present);
    total = total;
  }

  goes : (good faulty : Machine) (others : List Phase) (at : Moment) (events : List Event) (ticked more : ℕ) →
      ((now : ℕ) → OwnTicks good faulty (slice_get others (length at.ended)) (present_phase at) now →
      OwnTicks good faulty (slice_get others (length at.ended)) (behind_events (present_phase at) events) (now + more)) →
      OwnCountSoFar good faulty others at ticked → OwnCountSoFar good faulty others (after_events faulty events at) (ticked + more)
  goes good faulty others at events ticked more step so_far =
      let total = so_far.total in
      onward good faulty others at events so_far.before (so_far.now + more) (ticked + more) so_far.ended (step so_far.now so_far.present) (omega (arith, total))

  passes : (good faulty : Machine) (others : List Phase) (at : Moment) (events : List Event) (ticked : ℕ) → OwnCountSoFar good faulty others at ticked →
      OwnCountSoFar good faulty others (after_events faulty events at) ticked
  passes good faulty others at events ticked so_far =
      onward good faulty others at events so_far.before so_far.now ticked so_far.ended
      (later count good faulty (slice_get others (length at.ended)) (present_phase at) events so_far.now so_far.present) so_far.total

  turns : (good faulty : Machine) (others : List Phase) (at : Moment) (turn : TurnKind) (ticked : ℕ) → OwnCountSoFar good faulty others at ticked →
      OwnCountSoFar good faulty others (after_turn turn at) ticked
  turns good faulty others at turn ticked so_far =
      let total = so_far.total in
      let after_it = after_turn turn at in
      record {
        before = so_far.before + so_far.now;
        now = 0;
        ended =
            join.phases good faulty others at.ended (present_phase at) so_far.before so_far.now so_far.ended
            (count.ends good faulty (slice_get others (length at.ended)) (present_phase at) (λ q. false) so_far.now so_far.present);
        present = count.begins good faulty (slice_get others (length (phases_so_far at))) after_it.turn after_it.phase_begins (λ q. false);
        total = omega (arith, total);
      }

  fewer : (good faulty : Machine) (others : List Phase) (at : Moment) (ticked few : ℕ) → few ≤ ticked → OwnCountSoFar good faulty others at ticked → OwnCountSoFar good faulty others at few
  fewer good faulty others at ticked few low so_far =
      let total = so_far.total in
      record { before = so_far.before; now = so_far.now; ended = so_far.ended; present = so_far.present; total = omega (arith, low, total) }

  within : (good faulty : Machine) (good_slots : List FirstSlot) (found : Option FirstSlot) (at : Moment) (ticked : ℕ) → ComesTo faulty at →
      find (λ (other : FirstSlot). nat_eq other.begins.time at.begins.time) good_slots ≡ found → OwnCountSoFar good faulty (phases_if good found) at ticked →
      AtMostOwn (slot_beside good faulty good_slots (slot_from faulty at.begins)) ticked
  within good faulty good_slots found at ticked comes is so_far =
      let first = goes-on faulty at comes in
      let phase = behind_events (present_phase at) first.more in
      let others = phases_if good found in
      let all : phases faulty (slot_from faulty at.begins) ≡ (at.ended ++ phase ∷ []) ++ first.later =
      first.are ∙ sym (append_assoc at.ended (phase ∷ []) first.later) in
      let here = later count good faulty (slice_get others (length at.ended)) (present_phase at) first.more so_far.now so_far.present in
      let through =
      join.phases good faulty others at.ended phase so_far.before so_far.now so_far.ended
      (count.ends good faulty (slice_get others (length at.ended)) phase (λ q. false) so_far.now here) in
      let bound = more-phases good faulty others (at.ended ++ phase ∷ []) first.later (so_far.before + so_far.now) through in
      count.less (slot_beside good faulty good_slots (slot_from faulty at.begins)) (so_far.before + so_far.now) ticked so_far.total
      (subst
      (λ (f : Option FirstSlot). AtMostOwn (phases_beside good faulty (phases_if good f) (phases faulty (slot_from faulty at.begins))) (so_far.before + so_far.now)) (sym is)
      (subst (λ (l : List Phase). AtMostOwn (phases_beside good faulty others l) (so_far.before + so_far.now)) (sym all) bound))

  pub own_steps_of_slots : OwnStepsOfSlots
  own_steps_of_slots = record {
    present = present-behind;
    ended = ended-behind;
    goes_on = goes-on;
    begins = begins;
    goes = goes;
    passes = passes;
    turns = turns;
    fewer = fewer;
    within = within;
  }
