-- A slot in lockstep from step to step.
use Rattle.std.proofs.Common.{◌≡◌, ℕ, suc, ◌+◌, ◌<◌, ◌≤◌, List, [], ◌∷◌, ◌++◌, length, refl, sym, ap, subst, ◌∙◌, arith}
use Rattle.std.specs.Prelude.{Some, None, slice_get, sum_by}
use Rattle.v_design.specs.Designs.{FlatDesign, Machine, StuckAt, TestPlan, good_machine, faulty_machine}
use Rattle.v_design.specs.States.{State, Event, TimeTurn}
use Rattle.v_design.specs.Runs.{FirstSlot, first_event, first_run, happened, most_steps}
use Rattle.v_design.specs.Grades.{Phase, Fine, phases, slot_outcome}
use Rattle.v_design.specs.PhaseLogs.{phase_race}
use Rattle.machine_laws.specs.SlotLoop.{Moment, ComesTo, first_moment, after_events, after_turn, steps_of}
use Rattle.copy_laws.specs.Beside.{AreFirst}
use Rattle.copy_laws.specs.Differences.{Differences}
use Rattle.copy_laws.specs.Moves.{Parts}
use Rattle.copy_laws.specs.QuietPhases.{AllDoAlike}
use Rattle.copy_laws.specs.Windows.{good_slots, state_at}
use Rattle.between_slots.proofs.Leading.{through-get}
use Rattle.beside_laws.specs.Stands.{RunsStand}
use Rattle.block_filter.specs.Blocks.{BlockPair, Alike, good_phase, faulty_phase}
use Rattle.block_filter.specs.Likes.{AreWider}
use Rattle.block_told.specs.Blocks.{AreBlock}
use Rattle.phase_blocks.specs.Blocks.{IsBetweenRuns, IsWholeBlock}
use Rattle.phase_order.specs.Order.{FirstEventsSplit, PhasesFollow}
use Rattle.race_laws.specs.Writes.{WritesAreOf, WritesStay}
use Rattle.trace_window.specs.Moments.{window_events}
use Rattle.own_blocks.specs.Whole.{RunBlocksAreWhole}
use Rattle.own_told.specs.Told.{MayCauseAlike}
use Rattle.lockstep_index.specs.Alone.{IndexTellsFree, apart_values}
use Rattle.lockstep_index.specs.Writes.{PassWithWrites, WritesPass}
use Rattle.lockstep_laws.specs.Lockstep.{LockstepIsBeside}
use Rattle.lockstep_laws.specs.Passing.{AreFree}
use Rattle.lockstep_laws.specs.Phases.{IsInPhase}
use Rattle.lockstep_race.specs.Alike.{AlikeGoesOn, AreAlike}
use Rattle.lockstep_notes.specs.lockstep_slots.Kept.{LockstepKept, kept_of, kept_within}
use Rattle.lockstep_notes.specs.lockstep_slots.Pairs.{unlike_pair}
use Rattle.lockstep_notes.specs.lockstep_slots.Places.{Place, state_there, moment_there, steps_left, first_place, behind_events, next_phase}
use Rattle.lockstep_notes.specs.lockstep_slots.Standing.{BlocksDiffer, SlotsInLockstep}
use Rattle.lockstep_notes.proofs.lockstep_slots.Followed.{first-phase}
use Rattle.lockstep_copies.specs.Copies.{CopiesGoInLockstep, IsCopyInLockstep, own_begins}
use Rattle.lockstep_waits.specs.Texts.{WaitsGoOn}
use Rattle.wait_index.specs.Waits.{WaitsAreOfBodies}
use Rattle.lockstep_notes.specs.window_places.Windows.{PlacesInWindows, TablesLeave}
use Rattle.race_notes.specs.Notes.{NotesKept, HasNoNotes}
use Rattle.lockstep_notes.specs.Beside.{BeginAlike, TakesIn}
use Rattle.lockstep_notes.specs.Laws.{NotesGoOn}
use Rattle.lockstep_notes.specs.Notes.{NotesTell, marks_of}
use Rattle.moments_stand.specs.Standing.{AllMayStand, MomentsStand}
use Rattle.lockstep_steps.specs.Going.{IsGoing}
use Rattle.lockstep_steps.specs.Laws.{GoesOverTurn, StepsGoOn}
use Rattle.lockstep_steps.proofs.Events.{behind-begins, behind-state, behind-steps, place-behind, left-behind, left-turned, next-first, turns-to}

pub record StepLaws : Type 0 where
  pub stand : RunsStand
  pub copies : CopiesGoInLockstep
  pub index : IndexTellsFree
  pub pass : WritesPass
  pub side : LockstepIsBeside
  pub notes : NotesGoOn
  pub alike : AlikeGoesOn
  pub slots : SlotsInLockstep
  pub waits : WaitsGoOn
  pub moments : MomentsStand
  pub blocks : RunBlocksAreWhole
  pub phases : PhasesFollow
  pub split : FirstEventsSplit
  pub writes : WritesStay
  pub windows : PlacesInWindows

-- A state within a phase

in-phase : (machine : Machine) (at : Moment) → ComesTo machine at → IsInPhase machine at.state
in-phase machine at comes = record { begins = at.phase_begins; events = at.events; asked = comes.phase_asked; is = comes.happened_so_far }

-- The slot begins

begun-writes : StepLaws → (design : FlatDesign) (plan : TestPlan) (fault : StuckAt) (number time : ℕ) (d : Differences) (slot : FirstSlot) → IsCopyInLockstep design plan fault number time d →
    WritesAreOf design (own_begins design plan fault time slot)
begun-writes laws design plan fault number time d slot copy =
    let machine = faulty_machine design fault in
    let s = laws.stand.slot machine plan.end time copy.rules copy.own_on in
    laws.writes.after_turn design (state_at machine plan.end time) (TimeTurn slot.begins.time)
    (subst (WritesAreOf design) (sym s.state_is)
    (laws.writes.after_moves machine s.slot.begins s.slot.moves copy.rules (laws.writes.slots_begin machine plan.end s.number s.slot copy.rules s.stands)))

begins : StepLaws → (design : FlatDesign) (plan : TestPlan) (fault : StuckAt) (number time from until : ℕ) (d : Differences) (slot : FirstSlot) (phase : Phase) (later : List Phase)
    (notes : NotesKept) (spare : ℕ) → IsCopyInLockstep design plan fault number time d → slice_get (good_slots design plan) (suc number) ≡ Some slot →
    slot_outcome (good_machine design) slot ≡ Fine → phases (good_machine design) slot ≡ phase ∷ later → from ≤ suc number → suc number < until →
    HasNoNotes (length (window_events design plan from (suc number))) notes → steps_left (first_place phase later) + spare ≤ most_steps →
    IsGoing design plan fault slot (own_begins design plan fault time slot) from until (length (window_events design plan from (suc number))) (first_place phase later)
    (first_moment (own_begins design plan fault time slot)) [] notes (kept_of d) spare
begins laws design plan fault number time from until d slot phase later notes spare copy here fine are since before none room =
    let own = own_begins design plan fault time slot in
    let stands = (laws.copies.begins design plan fault number time d slot copy here).stands phase later (marks_of design notes) fine are in
    let at = laws.windows.begins design plan from until (suc number) slot phase later since before here are in
    let phase_is = (first-phase laws.phases (good_machine design) slot phase later stands.good_slot are).begins_is in
    record {
      stands = stands;
      at = at;
      alike = tt;
      noted = laws.notes.begins design plan fault from until (length (window_events design plan from (suc number))) (first_place phase later) (first_moment own) notes at refl refl refl none;
      may =
          subst (AllMayStand design) (sym phase_is)
          (laws.moments.slots (good_machine design) plan.end (suc number) slot copy.rules (through-get (good_machine design) (first_run (good_machine design) plan.end) (suc number) slot here));
      writes = begun-writes laws design plan fault number time d slot copy;
      room = omega (arith, room);
    }

waits : StepLaws → (design : FlatDesign) (plan : TestPlan) (fault : StuckAt) (time : ℕ) (slot : FirstSlot) → WaitsAreOfBodies (faulty_machine design fault) (own_begins design plan fault time slot)
waits laws design plan fault time slot =
    laws.waits.after_turn (faulty_machine design fault) (state_at (faulty_machine design fault) plan.end time) (TimeTurn slot.begins.time)
    (laws.waits.states_stand (faulty_machine design fault) plan.end time)

-- Events

module _ (laws : StepLaws) (design : FlatDesign) (plan : TestPlan) (fault : StuckAt) (slot : FirstSlot) (begun : State) (from until moment : ℕ) (place : Place) (own : Moment) (pairs : List BlockPair)
    (notes : NotesKept) (kept : LockstepKept) (spare : ℕ) (g : IsGoing design plan fault slot begun from until moment place own pairs notes kept spare) where
  -- the present phase so far leads to the place, and to the moment
  pairs-lead : (events : List Event) → AllDoAlike design fault (state_there (good_machine design) place) own.state events →
      AllDoAlike design fault (happened (good_machine design) place.phase.begins (good_phase pairs)) (happened (faulty_machine design fault) own.phase_begins (faulty_phase pairs)) events
  pairs-lead events alike =
      subst (λ (x : State). AllDoAlike design fault x (happened (faulty_machine design fault) own.phase_begins (faulty_phase pairs)) events)
      (ap (happened (good_machine design) place.phase.begins) (sym g.stands.good_pairs))
      (subst (λ (x : State). AllDoAlike design fault (state_there (good_machine design) place) x events)
      (g.stands.lockstep.own_comes.happened_so_far ∙ ap (happened (faulty_machine design fault) own.phase_begins) (sym g.stands.own_pairs)) alike)

  -- behind some events of the good machine, and others of the faulty one
  behind-may : (events more : List Event) → AllMayStand design (state_there (good_machine design) (behind_events events more place))
  behind-may events more =
      subst (AllMayStand design) (sym (place-behind (good_machine design) place events more))
      (laws.moments.events (good_machine design) (state_there (good_machine design) place) events g.stands.good_slot.rules g.may)

  behind-writes : (others : List Event) → WritesAreOf design (after_events (faulty_machine design fault) others own).state
  behind-writes others =
      subst (WritesAreOf design) (sym (behind-state (faulty_machine design fault) others own))
      (laws.writes.after_events (faulty_machine design fault) own.state others g.stands.good_slot.rules g.writes)

  behind-alike : (others : List Event) (more : List BlockPair) → AreAlike design fault place.phase.begins own.phase_begins more →
      AreAlike design fault place.phase.begins (after_events (faulty_machine design fault) others own).phase_begins more
  behind-alike others more alike = subst (λ (x : State). AreAlike design fault place.phase.begins x more) (sym (behind-begins (faulty_machine design fault) others own)) alike

  passes : (events more : List Event) → place.left ≡ events ++ more → IsBetweenRuns (good_machine design) place.phase.begins (place.passed ++ events) →
      TablesLeave design fault kept (window_events design plan from until) moment (moment + length events) →
      IsGoing design plan fault slot begun from until (moment + length events) (behind_events events more place) (after_events (faulty_machine design fault) events own)
      (pairs ++ Alike events ∷ []) notes kept spare
  passes events more left between tables =
      let good = good_machine design in
      let there = state_there (good_machine design) place in
      let rules = g.stands.good_slot.rules in
      let alone = laws.windows.tables design plan fault from until moment place kept events more g.at left tables in
      let first : AreFirst (good_machine design) there events = next-first laws.phases laws.split good slot place events more g.stands.good_slot g.stands.place_is left in
      let good_in : IsInPhase (good_machine design) there = in-phase good (moment_there good slot place) g.stands.lockstep.good_comes in
      let own_in : IsInPhase (faulty_machine design fault) own.state = in-phase (faulty_machine design fault) own g.stands.lockstep.own_comes in
      let free : AreFree design fault (apart_values kept.values) there events =
      laws.index design fault (kept_within kept there) there own.state events rules g.stands.lockstep.lockstep g.stands.nothing_same good_in own_in g.stands.between.nodes first alone.values in
      let pass : PassWithWrites design fault kept.values kept.writes there own.state events =
      laws.pass design fault kept.values kept.writes there own.state events rules g.stands.lockstep.lockstep good_in own_in first free alone.elsewhere in
      let steps = behind-steps (faulty_machine design fault) events own in
      let rest = left-behind place events more left in
      record {
        stands = laws.slots.passes design fault slot begun place own pairs (marks_of design notes) kept events more g.stands left between alone.values alone.elsewhere;
        at = laws.windows.goes_on design plan from until moment place events more g.at left;
        alike = behind-alike events (pairs ++ Alike events ∷ []) (laws.alike.stretch design fault place.phase.begins own.phase_begins pairs events g.alike (pairs-lead events pass.alike));
        noted = laws.notes.passes design plan fault from until moment place own pairs notes events more g.noted left;
        may = behind-may events more;
        writes = behind-writes events;
        room = omega (arith, g.room, steps, rest);
      }

  -- the first events of both machines' blocks are one
  begin-alike : (ones others : List Event) → IsWholeBlock (good_machine design) (state_there (good_machine design) place) ones → AreBlock (faulty_machine design fault) own.state others →
      BeginAlike ones others
  begin-alike [] others whole block = absurd (omega (arith, whole.some))
  begin-alike (one ∷ ones) others whole block =
      let same : first_event own.state ≡ first_event (state_there (good_machine design) place) =
      (laws.side (kept_within kept (state_there (good_machine design) place)) (state_there (good_machine design) place) own.state g.stands.lockstep.lockstep).first in
      let event : Some one ≡ Some block.first = sym whole.first.0 ∙ sym same ∙ block.block.in_order.0 in
      let is : one ≡ block.first = cc in
      record { first = one; good_rest = ones; own_rest = block.rest; good_is = refl; own_is = block.are ∙ ap (λ (e : Event). e ∷ block.rest) (sym is) }

  -- own blocks ask nothing of the stretches
  own-alike : (ones others : List Event) → BeginAlike ones others → AreAlike design fault place.phase.begins own.phase_begins (pairs ++ unlike_pair ones others ∷ [])
  own-alike ones others b =
      subst (λ (l : List Event). AreAlike design fault place.phase.begins own.phase_begins (pairs ++ unlike_pair l others ∷ [])) (sym b.good_is)
      (subst (λ (l : List Event). AreAlike design fault place.phase.begins own.phase_begins (pairs ++ unlike_pair (b.first ∷ b.good_rest) l ∷ [])) (sym b.own_is)
      (laws.alike.own design fault place.phase.begins own.phase_begins pairs b.first b.good_rest b.own_rest g.alike))

  runs : (later : NotesKept) (new : LockstepKept) (less : ℕ) (parts : Parts) (ones more others : List Event) → place.left ≡ ones ++ more →
      IsWholeBlock (good_machine design) (state_there (good_machine design) place) ones → AreBlock (faulty_machine design fault) own.state others →
      BlocksDiffer design fault parts (state_there (good_machine design) place) own.state ones others kept new → AreWider (marks_of design notes) (marks_of design later) →
      TakesIn design fault (marks_of design later) (state_there (good_machine design) place) own.state ones others →
      MayCauseAlike design fault (state_there (good_machine design) place) own.state ones others →
      NotesTell design plan fault from until (moment + length ones) (behind_events ones more place) (after_events (faulty_machine design fault) others own)
      (pairs ++ unlike_pair ones others ∷ []) later →
      sum_by steps_of others + less ≡ spare →
      IsGoing design plan fault slot begun from until (moment + length ones) (behind_events ones more place) (after_events (faulty_machine design fault) others own)
      (pairs ++ unlike_pair ones others ∷ []) later new less
  runs later new less parts ones more others left whole block differ wider takes causes noted spared =
      let steps = behind-steps (faulty_machine design fault) others own in
      let rest = left-behind place ones more left in
      let room : own.steps + sum_by steps_of others + steps_left (behind_events ones more place) ≤ most_steps = omega (arith, g.room, rest, spared) in
      record {
        stands =
            laws.slots.runs design fault slot begun place own pairs (marks_of design later) kept new parts ones more others
            (laws.slots.widens design fault slot begun place own pairs (marks_of design notes) (marks_of design later) kept g.stands wider) left whole
            (laws.blocks.blocks (faulty_machine design fault) own.state others block) differ
            (record { good_reaches = takes.good_reaches; own_reaches = takes.own_reaches; steps = causes.steps; lanes = causes.lanes; accesses = takes.accesses }) room;
        at = laws.windows.goes_on design plan from until moment place ones more g.at left;
        alike = behind-alike others (pairs ++ unlike_pair ones others ∷ []) (own-alike ones others (begin-alike ones others whole block));
        noted = noted;
        may = behind-may ones more;
        writes = behind-writes others;
        room = omega (arith, g.room, steps, rest, spared);
      }

  turns : (cleared : NotesKept) (next : Phase) (later : List Phase) → place.left ≡ [] → place.later ≡ next ∷ later →
      phase_race (faulty_machine design fault) own.phase_begins own.events ≡ None → HasNoNotes moment cleared →
      GoesOverTurn design plan fault slot begun from until moment place own cleared kept spare next later
  turns cleared next later none follows race clear =
      let to = turns-to laws.phases (good_machine design) slot place next later g.stands.good_slot g.stands.place_is none follows in
      let at = laws.windows.turns design plan from until moment place next later g.at none follows in
      let left = left-turned place next later none follows in
      record {
        turn = to.turn;
        turn_is = to.turn_is;
        going = record {
          stands = laws.slots.turns design fault slot begun place own pairs (marks_of design notes) (marks_of design cleared) kept next later to.turn g.stands none follows to.turn_is race;
          at = at;
          alike = tt;
          noted = laws.notes.begins design plan fault from until moment (next_phase next later place) (after_turn to.turn own) cleared at refl refl refl clear;
          may = subst (AllMayStand design) (sym to.begins) (laws.moments.turns (good_machine design) (state_there (good_machine design) place) to.turn to.comes g.may);
          writes = laws.writes.after_turn design own.state to.turn g.writes;
          room = omega (arith, g.room, left);
        };
      }

-- The law

pub steps_go_on : StepLaws → StepsGoOn
steps_go_on laws = record {
  begins = begins laws;
  waits = waits laws;
  passes = λ design plan fault slot begun from until moment place own pairs notes kept spare events more g left between tables.
      passes laws design plan fault slot begun from until moment place own pairs notes kept spare g events more left between tables;
  begin_alike = λ design plan fault slot begun from until moment place own pairs notes kept spare ones others g whole block.
      begin-alike laws design plan fault slot begun from until moment place own pairs notes kept spare g ones others whole block;
  runs = λ design plan fault slot begun from until moment place own pairs notes later old new spare less parts ones more others g left whole block differ wider takes causes noted spared.
      runs laws design plan fault slot begun from until moment place own pairs notes old spare g later new less parts ones more others left whole block differ wider takes causes noted spared;
  free = λ design plan fault slot begun from until moment place own pairs notes kept spare g none leaves.
      laws.slots.free design fault slot begun place own pairs (marks_of design notes) kept g.stands none leaves;
  turns = λ design plan fault slot begun from until moment place own pairs notes cleared kept spare next later g none follows race clear.
      turns laws design plan fault slot begun from until moment place own pairs notes kept spare g cleared next later none follows race clear;
  ends = λ design plan fault number time from until moment d new slot place own pairs notes kept spare copy here fine g none last race just.
      laws.copies.ends design plan fault number time d new slot own kept copy here fine
      (laws.slots.ends design fault slot (own_begins design plan fault time slot) place own pairs (marks_of design notes) kept g.stands none last race) just;
}
