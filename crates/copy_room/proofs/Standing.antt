-- Where the processes stand in the state for which a copy stands.
use Rattle.std.proofs.Common.{◌≡◌, ℕ, zero, suc, ◌<◌, List, [], ◌∷◌, length, Bool, true, false, ◌||◌, refl, sym, ap, subst, ◌∙◌, arith, inl, inr}
use Rattle.std.specs.Prelude.{Some, None, option_map, slice_get}
use Rattle.std.proofs.lemmas.Option.{slice_get_cases, same_Some}
use Rattle.four_value.specs.Values.{LogicValue}
use Rattle.v_design.specs.Assignments.{ValueUpdate, value_at}
use Rattle.v_design.specs.Designs.{FlatDesign}
use Rattle.v_design.specs.Plain.{process_of}
use Rattle.v_design.specs.Processes.{Activity}
use Rattle.v_design.specs.States.{State, ProcessState, LaterUpdate, process_at, found_or, idle_process, some_in, has_event, is_ready, is_any}
use Rattle.process_code.specs.OneCode.{AreCodesOfOne, CodesReadAlike}
use Rattle.process_code.specs.Points.{point_of, activity_at, activity_of}
use Rattle.process_code.specs.Positions.{rests_of}
use Rattle.process_code.specs.StatesOf.{IsStateOf}
use Rattle.process_code.specs.declared.code.Code.{Code}
use Rattle.process_code.specs.declared.state.ProcState.{ProcState}
use Rattle.run_ends.specs.RunEnds.{IsCodeAt, AreCodesOf}
use Rattle.copy_laws.specs.Differences.{own_of}
use Rattle.copy_state.specs.Kept.{CopyKept, done_by}
use Rattle.copy_state.specs.KeptLaws.{own-activities, state-own}
use Rattle.copy_between.specs.Beside.{IsCopyOf}
use Rattle.good_trace.specs.RunsKept.{Stands}

-- Codes

pub one-process : (design : FlatDesign) (process : ℕ) (one other : Code) → IsCodeAt design process one → IsCodeAt design process other → AreCodesOfOne one other
one-process design process one other first second = record {
  same = same_Some (process_of one.process.now) (process_of other.process.now) (sym first.process_is ∙ second.process_is);
  first = first.code_of;
  second = second.code_of;
}

pub some-code : (design : FlatDesign) (codes : List Code) (process : ℕ) → AreCodesOf design codes → process < length design.processes → (code : Code) × (slice_get codes process ≡ Some code)
some-code design codes process are low = elim (slice_get_cases codes process).1 [
  | inl found ↦ (found.0, found.2)
  | inr none ↦ absurd (omega (arith, none.0, low, are.count))
]

-- a copy of a state stands where it does
pub stands-copied : (design : FlatDesign) (process : ℕ) (activity : Activity) (state copied : ProcState) → Stands design process activity state → point_of copied ≡ point_of state →
    ((code : Code) → IsStateOf code state → IsStateOf code copied) → Stands design process activity copied
stands-copied design process activity state copied stands point states = record {
  state_of = λ code at. states code (stands.state_of code at);
  does = λ code at. ap (activity_at (rests_of code.spots.items)) point ∙ stands.does code at;
}

-- The copy's state

module _ (design : FlatDesign) (codes : List Code) (good faulty : State) (kept : CopyKept) (process : ℕ) (codes_are : AreCodesOf design codes) (copy : IsCopyOf codes good faulty kept) where
  -- no state is kept
  pub stands-good : (state : ProcState) → own_of kept.states process ≡ None → Stands design process (process_at good process).activity state →
      Stands design process (process_at faulty process).activity state
  stands-good state none stands =
      subst (λ activity. Stands design process activity state)
      (sym (copy.stands.activities process
      ∙ ap (found_or (process_at good process).activity) (own-activities codes process kept.states ∙ ap (option_map (done_by (slice_get codes process))) none)))
      stands

  -- a state is kept
  pub stands-own : CodesReadAlike → (state : ProcState) → process < length design.processes → own_of kept.states process ≡ Some state → Stands design process (process_at faulty process).activity state
  stands-own alike state low found =
      let code = some-code design codes process codes_are low in
      let of_code : IsStateOf code.0 state = state-own codes process code.0 state kept.states copy.states code.1 found in
      let does : (process_at faulty process).activity ≡ activity_of code.0 state =
      copy.stands.activities process
      ∙ ap (found_or (process_at good process).activity)
      (own-activities codes process kept.states ∙ (λ i. option_map (done_by (code.1 i)) (found i))) in
      record {
        state_of = λ other at. (alike code.0 other (one-process design process code.0 other (codes_are.each process code.0 code.1) at)).states state of_code;
        does = λ other at. sym ((alike code.0 other (one-process design process code.0 other (codes_are.each process code.0 code.1) at)).activity state) ∙ sym does;
      }

  -- the updates that are kept, and those that aren't
  pub later-own : (updates : List LaterUpdate) → own_of kept.updates process ≡ Some updates → updates ≡ (process_at faulty process).later
  later-own updates found = sym (copy.stands.updates process ∙ ap (found_or (process_at good process).later) found)

  pub later-good : (updates : List LaterUpdate) → own_of kept.updates process ≡ None → updates ≡ (process_at good process).later → updates ≡ (process_at faulty process).later
  later-good updates none is = is ∙ sym (copy.stands.updates process ∙ ap (found_or (process_at good process).later) none)

-- what an object holds
pub value-in : (codes : List Code) (good faulty : State) (kept : CopyKept) (values : List LogicValue) (object : ℕ) → IsCopyOf codes good faulty kept → values ≡ good.values →
    found_or (value_at values object) (own_of kept.values object) ≡ value_at faulty.values object
value-in codes good faulty kept values object copy same = ap (λ (l : List LogicValue). found_or (value_at l object) (own_of kept.values object)) same ∙ sym (copy.stands.values object)

-- Nothing is in a lane between slots

neither : (a b : Bool) → (a || b) ≡ false → (a ≡ false) × (b ≡ false)
neither true b e = cc
neither false b e = (refl, e)

empty-is : (lane : List ValueUpdate) → is_any lane ≡ false → lane ≡ []
empty-is [] e = refl
empty-is (update ∷ lane) e = cc

quiet-at : (processes : List ProcessState) (process : ℕ) → some_in has_event processes ≡ false → has_event (found_or idle_process (slice_get processes process)) ≡ false
quiet-at [] process quiet = refl
quiet-at (p ∷ processes) zero quiet = (neither (has_event p) (some_in has_event processes) quiet).0
quiet-at (p ∷ processes) (suc process) quiet = quiet-at processes process (neither (has_event p) (some_in has_event processes) quiet).1

pub lane-empty : (state : State) (process : ℕ) → some_in has_event state.processes ≡ false → (process_at state process).lane ≡ []
lane-empty state process quiet =
    let p = process_at state process in
    empty-is p.lane (neither (is_ready p.activity) (is_any p.lane) (quiet-at state.processes process quiet)).1
