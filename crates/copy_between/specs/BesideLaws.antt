-- What a copy of a state can be of (nothing of the language).
use Rattle.std.proofs.Common.{◌≡◌, ◌≢◌, ℕ, ◌≤◌, List, [], length, refl, ap, sym, ◌∙◌, arith}
use Rattle.std.specs.Prelude.{Option, Some, None, option_map, slice_get}
use Rattle.std.proofs.lemmas.List.{get_or_past}
use Rattle.std.proofs.lemmas.Option.{slice_get_past}
use Rattle.four_value.specs.Values.{LogicValue}
use Rattle.v_design.specs.Assignments.{value_at}
use Rattle.v_design.specs.Processes.{Activity}
use Rattle.v_design.specs.States.{State, ProcessState, LaterUpdate, process_at, found_or, idle_process}
use Rattle.process_code.specs.declared.code.Code.{Code}
use Rattle.copy_laws.specs.Differences.{own_of}
use Rattle.copy_state.specs.EntryLaws.{all-own}
use Rattle.copy_state.specs.Kept.{CopyKept, activities_of, done_by}
use Rattle.copy_state.specs.KeptLaws.{own-activities}
use Rattle.copy_between.specs.Beside.{IsCopyOf, KeepsWithin}

-- where the good one and the own one are the same, nothing is kept
kept-none : {A : Type 0} (good own : A) (found : Option A) → own ≡ found_or good found → own ≡ good → ((kept : A) → found ≡ Some kept → kept ≢ good) → found ≡ None
kept-none good own None tells same differs = refl
kept-none good own (Some x) tells same differs = absurd (differs x refl (sym tells ∙ same))

none-mapped : {A B : Type 0} (f : A → B) (found : Option A) → option_map f found ≡ None → found ≡ None
none-mapped f None none = refl
none-mapped f (Some x) none = cc

-- a process with no number is done
pub past-process : (state : State) (process : ℕ) → length state.processes ≤ process → process_at state process ≡ idle_process
past-process state process past = ap (found_or idle_process) (slice_get_past state.processes process past)

-- a copy keeps nothing but of the objects and processes of the good state
pub copy-within : (codes : List Code) (good own : State) (kept : CopyKept) → IsCopyOf codes good own kept → KeepsWithin (length good.values) (length good.processes) kept
copy-within codes good own kept copy =
    let stands = copy.stands in
    let alike : (process : ℕ) → length good.processes ≤ process → process_at own process ≡ process_at good process =
    λ process past. past-process own process (omega (arith, past, stands.process_count)) ∙ sym (past-process good process past) in
    record {
      values = λ object past.
          kept-none (value_at good.values object) (value_at own.values object) (own_of kept.values object) (stands.values object)
          (get_or_past own.values object [] (omega (arith, past, stands.value_count)) ∙ sym (get_or_past good.values object [] past))
          (λ own is. all-own (λ (entry : ℕ × LogicValue). entry.1 ≢ value_at good.values entry.0) object own kept.values copy.nothing_equal.values is);
      states = λ process past.
          none-mapped (done_by (slice_get codes process)) (own_of kept.states process)
          (sym (own-activities codes process kept.states)
          ∙ kept-none (process_at good process).activity (process_at own process).activity (own_of (activities_of codes kept.states) process) (stands.activities process)
          (ap (λ (state : ProcessState). state.activity) (alike process past))
          (λ own is. all-own (λ (entry : ℕ × Activity). entry.1 ≢ (process_at good entry.0).activity) process own (activities_of codes kept.states) copy.nothing_equal.activities is));
      updates = λ process past.
          kept-none (process_at good process).later (process_at own process).later (own_of kept.updates process) (stands.updates process)
          (ap (λ (state : ProcessState). state.later) (alike process past))
          (λ own is. all-own (λ (entry : ℕ × List LaterUpdate). entry.1 ≢ (process_at good entry.0).later) process own kept.updates copy.nothing_equal.updates is);
    }
