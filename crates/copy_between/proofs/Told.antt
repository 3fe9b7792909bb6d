-- A copy that was gone through stands for the own state beside the good one, and nothing that is kept is equal.
use Rattle.std.proofs.Common.{◌≡◌, ◌≢◌, ℕ, ◌≤◌, List, [], length, refl, ap, sym, subst, ◌∙◌, arith, inl, inr}
use Rattle.std.specs.Prelude.{Option, Some, option_map, slice_get}
use Rattle.std.proofs.lemmas.Bool.{cases_lt}
use Rattle.std.proofs.lemmas.List.{get_or_past}
use Rattle.std.proofs.lemmas.Option.{slice_get_cases}
use Rattle.four_value.specs.Values.{LogicValue}
use Rattle.v_design.specs.Assignments.{value_at}
use Rattle.v_design.specs.Designs.{FlatDesign}
use Rattle.v_design.specs.Processes.{Activity}
use Rattle.v_design.specs.States.{State, ProcessState, LaterUpdate, process_at}
use Rattle.process_code.specs.StatesOf.{IsStateOf}
use Rattle.process_code.specs.declared.code.Code.{Code}
use Rattle.process_code.specs.declared.state.ProcState.{ProcState}
use Rattle.run_ends.specs.RunEnds.{AreCodesOf}
use Rattle.copy_laws.specs.Differences.{own_of, StandsFor, KeepsNothingEqual}
use Rattle.copy_state.specs.EntryLaws.{all-owned}
use Rattle.copy_state.specs.Kept.{CopyKept, activities_of, differences_of, done_by, AreStatesOf}
use Rattle.copy_state.specs.KeptLaws.{own-activities, activities-ascend}
use Rattle.copy_between.specs.Differing.{IsDifference}
use Rattle.copy_between.specs.DifferingLaws.{none-differs, two-same}
use Rattle.copy_between.specs.Beside.{IsCopyOf, KeepsWithin, AreKept, AreAlike, KeepsAscending, DifferencesStand}
use Rattle.copy_between.specs.BesideLaws.{past-process}

module _ (codes : List Code) (design : FlatDesign) (good own : State) (old new : CopyKept) (codes_are : AreCodesOf design codes) (alike : AreAlike design good own)
    (within : KeepsWithin (length design.objects) (length design.processes) old) (kept : AreKept design good own old new) (up : KeepsAscending new) where
  value-differs : (object : ℕ) → IsDifference (value_at good.values object) (value_at own.values object) (own_of new.values object)
  value-differs object = elim (cases_lt object (length design.objects)) [
    | inl low ↦ kept.values.each object low
    | inr past ↦
        subst (IsDifference (value_at good.values object) (value_at own.values object)) (sym (kept.values.others object past ∙ within.values object past))
        (none-differs (value_at good.values object) (value_at own.values object)
        (get_or_past own.values object [] (omega (arith, past, alike.own_values)) ∙ sym (get_or_past good.values object [] (omega (arith, past, alike.good_values)))))
  ]

  -- processes without a number do nothing in both
  both-past : (process : ℕ) → length design.processes ≤ process → process_at own process ≡ process_at good process
  both-past process past =
      past-process own process (omega (arith, past, alike.own_processes)) ∙ sym (past-process good process (omega (arith, past, alike.good_processes)))

  later-differs : (process : ℕ) → IsDifference (process_at good process).later (process_at own process).later (own_of new.updates process)
  later-differs process = elim (cases_lt process (length design.processes)) [
    | inl low ↦ kept.updates.each process low
    | inr past ↦
        subst (IsDifference (process_at good process).later (process_at own process).later) (sym (kept.updates.others process past ∙ within.updates process past))
        (none-differs (process_at good process).later (process_at own process).later (ap (λ (state : ProcessState). state.later) (both-past process past)))
  ]

  activity-differs : (process : ℕ) → IsDifference (process_at good process).activity (process_at own process).activity (own_of (activities_of codes new.states) process)
  activity-differs process =
      let before = (process_at good process).activity in
      let after = (process_at own process).activity in
      let found_is = own-activities codes process new.states in
      elim (cases_lt process (length design.processes)) [
        | inl low ↦ elim (slice_get_cases codes process).1 [
          | inl code ↦
              two-same before before after after _ _ refl refl (found_is ∙ ap (λ (c : Option Code). option_map (done_by c) (own_of new.states process)) code.2)
              ((kept.states.each process low).does code.0 (codes_are.each process code.0 code.2))
          | inr none ↦ absurd (omega (arith, none.0, low, codes_are.count))
        ]
        | inr past ↦
            subst (IsDifference before after)
            (sym (found_is ∙ ap (option_map (done_by (slice_get codes process))) (kept.states.others process past ∙ within.states process past)))
            (none-differs before after (ap (λ (state : ProcessState). state.activity) (both-past process past)))
      ]

  stands : StandsFor (differences_of codes new) good own
  stands = record {
    value_count = alike.own_values ∙ sym alike.good_values;
    process_count = alike.own_processes ∙ sym alike.good_processes;
    nodes = alike.nodes;
    values = λ object. (value-differs object).tells;
    activities = λ process. (activity-differs process).tells;
    updates = λ process. (later-differs process).tells;
  }

  nothing-equal : KeepsNothingEqual (differences_of codes new) good
  nothing-equal =
      let activities_up = activities-ascend codes new.states up.states in
      record {
        values = all-owned (λ (entry : ℕ × LogicValue). entry.1 ≢ value_at good.values entry.0) new.values up.values (λ object. (value-differs object).differs);
        activities = all-owned (λ (entry : ℕ × Activity). entry.1 ≢ (process_at good entry.0).activity) (activities_of codes new.states) activities_up
            (λ process. (activity-differs process).differs);
        updates = all-owned (λ (entry : ℕ × List LaterUpdate). entry.1 ≢ (process_at good entry.0).later) new.updates up.updates (λ process. (later-differs process).differs);
        values_ascend = up.values;
        activities_ascend = activities_up;
        updates_ascend = up.updates;
      }

  states-of : AreStatesOf codes new.states
  states-of =
      all-owned (λ (entry : ℕ × ProcState). (code : Code) → slice_get codes entry.0 ≡ Some code → IsStateOf code entry.1) new.states up.states
      (λ process state is code there. elim (cases_lt process (length design.processes)) [
        | inl low ↦ (kept.states.each process low).state_of code state (codes_are.each process code there) is
        | inr past ↦ let none = kept.states.others process past ∙ within.states process past in cc
      ])

  copy-stands : IsCopyOf codes good own new
  copy-stands = record { stands = stands; nothing_equal = nothing-equal; states = states-of }

pub differences_stand : DifferencesStand
differences_stand = copy-stands
