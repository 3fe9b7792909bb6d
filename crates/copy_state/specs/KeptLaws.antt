-- What holds of what a copy keeps (nothing of the language).
use Rattle.std.proofs.Common.{◌≡◌, ◌≢◌, ℕ, Bool, true, false, cond, List, refl, ap, sym, subst, ◌∙◌}
use Rattle.std.specs.Prelude.{Some, option_map, slice_get}
use Rattle.four_value.specs.Values.{LogicValue, same_value}
use Rattle.four_value.specs.ValueLaws.{same_value-refl, from_same_value}
use Rattle.v_design.specs.States.{found_or}
use Rattle.process_code.specs.Points.{activity_of}
use Rattle.process_code.specs.StatesOf.{IsStateOf}
use Rattle.process_code.specs.declared.code.Code.{Code}
use Rattle.process_code.specs.declared.state.ProcState.{ProcState}
use Rattle.copy_laws.specs.Differences.{own_of, Ascend}
use Rattle.copy_state.specs.Entries.{with_entry, without_entry}
use Rattle.copy_state.specs.EntryLaws.{own-with_same, own-with_other, own-without_same, own-without_other, ascend-with, ascend-without, with-each, without-each, own-each, ascend-each, all-with}
use Rattle.copy_state.specs.EntryLaws.{all-without, all-own}
use Rattle.copy_state.specs.Kept.{CopyKept, with_own_value, done_by, activities_of, AreStatesOf, AreOfCode, StandsIn}

-- Own values

found-set_by : (same : Bool) (object : ℕ) (good own : LogicValue) (values : List (ℕ × LogicValue)) → same_value good own ≡ same →
    found_or good (own_of (cond same (without_entry object values) (with_entry object own values)) object) ≡ own
found-set_by true object good own values same = ap (found_or good) (own-without_same object values) ∙ from_same_value good own same
found-set_by false object good own values same = ap (found_or good) (own-with_same object own values)

-- what is set is the object's value then
pub found-set : (object : ℕ) (good own : LogicValue) (values : List (ℕ × LogicValue)) → found_or good (own_of (with_own_value object good own values) object) ≡ own
found-set object good own values = found-set_by (same_value good own) object good own values refl

own-set_other_by : (same : Bool) (object other : ℕ) (own : LogicValue) (values : List (ℕ × LogicValue)) → object ≢ other →
    own_of (cond same (without_entry object values) (with_entry object own values)) other ≡ own_of values other
own-set_other_by true object other own values differ = own-without_other object other values differ
own-set_other_by false object other own values differ = own-with_other object other own values differ

-- and what is kept of each other object is what was kept
pub own-set_other : (object other : ℕ) (good own : LogicValue) (values : List (ℕ × LogicValue)) → object ≢ other → own_of (with_own_value object good own values) other ≡ own_of values other
own-set_other object other good own values differ = own-set_other_by (same_value good own) object other own values differ

own-set_differs_by : (same : Bool) (object : ℕ) (good own kept : LogicValue) (values : List (ℕ × LogicValue)) → same_value good own ≡ same →
    own_of (cond same (without_entry object values) (with_entry object own values)) object ≡ Some kept → kept ≢ good
own-set_differs_by true object good own kept values same is equal = let none = own-without_same object values in cc
own-set_differs_by false object good own kept values same is equal =
    let with = own-with_same object own values in
    let found : own ≡ kept = cc in
    let alike : same_value good own ≡ true = subst (λ v. same_value good v ≡ true) (sym (found ∙ equal)) (same_value-refl good) in cc

-- what is kept of it isn't the good value
pub own-set_differs : (object : ℕ) (good own kept : LogicValue) (values : List (ℕ × LogicValue)) → own_of (with_own_value object good own values) object ≡ Some kept → kept ≢ good
own-set_differs object good own kept values is = own-set_differs_by (same_value good own) object good own kept values refl is

ascend-set_by : (same : Bool) (object : ℕ) (own : LogicValue) (values : List (ℕ × LogicValue)) → Ascend values → Ascend (cond same (without_entry object values) (with_entry object own values))
ascend-set_by true object own values up = ascend-without object values up
ascend-set_by false object own values up = ascend-with object own values up

pub ascend-set : (object : ℕ) (good own : LogicValue) (values : List (ℕ × LogicValue)) → Ascend values → Ascend (with_own_value object good own values)
ascend-set object good own values up = ascend-set_by (same_value good own) object own values up

-- Own states

-- what is kept of a process's activity is what it does in the state that is kept
pub own-activities : (codes : List Code) (process : ℕ) (states : List (ℕ × ProcState)) →
    own_of (activities_of codes states) process ≡ option_map (done_by (slice_get codes process)) (own_of states process)
own-activities codes process states = own-each (λ (process : ℕ) (state : ProcState). done_by (slice_get codes process) state) process states

pub activities-split : (codes : List Code) (process : ℕ) (state : ProcState) (states : List (ℕ × ProcState)) →
    activities_of codes (with_entry process state states) ≡ with_entry process (done_by (slice_get codes process) state) (activities_of codes states)
activities-split codes process state states = with-each (λ (process : ℕ) (state : ProcState). done_by (slice_get codes process) state) process state states

pub activities-rejoin : (codes : List Code) (process : ℕ) (states : List (ℕ × ProcState)) → activities_of codes (without_entry process states) ≡ without_entry process (activities_of codes states)
activities-rejoin codes process states = without-each (λ (process : ℕ) (state : ProcState). done_by (slice_get codes process) state) process states

pub activities-ascend : (codes : List Code) (states : List (ℕ × ProcState)) → Ascend states → Ascend (activities_of codes states)
activities-ascend codes states up = ascend-each (λ (process : ℕ) (state : ProcState). done_by (slice_get codes process) state) states up

-- states of their codes stay such
pub states-split : (codes : List Code) (process : ℕ) (state : ProcState) (states : List (ℕ × ProcState)) → ((code : Code) → slice_get codes process ≡ Some code → IsStateOf code state) →
    AreStatesOf codes states → AreStatesOf codes (with_entry process state states)
states-split codes process state states own all = all-with (λ (entry : ℕ × ProcState). (code : Code) → slice_get codes entry.0 ≡ Some code → IsStateOf code entry.1) process state states own all

pub states-rejoin : (codes : List Code) (process : ℕ) (states : List (ℕ × ProcState)) → AreStatesOf codes states → AreStatesOf codes (without_entry process states)
states-rejoin codes process states all = all-without (λ (entry : ℕ × ProcState). (code : Code) → slice_get codes entry.0 ≡ Some code → IsStateOf code entry.1) process states all

pub state-own : (codes : List Code) (process : ℕ) (code : Code) (state : ProcState) (states : List (ℕ × ProcState)) → AreStatesOf codes states → slice_get codes process ≡ Some code →
    own_of states process ≡ Some state → IsStateOf code state
state-own codes process code state states all there is =
    all-own (λ (entry : ℕ × ProcState). (code : Code) → slice_get codes entry.0 ≡ Some code → IsStateOf code entry.1) process state states all is code there

-- a state that does what the good one does isn't kept, and another is
pub stands-alike : (process : ℕ) (good own : ProcState) (old : CopyKept) → ((code : Code) → AreOfCode code good own → activity_of code own ≡ activity_of code good) →
    StandsIn process good own old (record old { states = without_entry process old.states })
stands-alike process good own old alike = record {
  rest = refl;
  others = λ other differ. own-without_other process other old.states differ;
  kept = λ state is. let none = own-without_same process old.states in cc;
  alike = λ code of none. alike code of;
  differs = λ code state of is same. let none = own-without_same process old.states in cc;
}

pub stands-apart : (process : ℕ) (good own : ProcState) (old : CopyKept) → ((code : Code) → AreOfCode code good own → activity_of code own ≢ activity_of code good) →
    StandsIn process good own old (record old { states = with_entry process own old.states })
stands-apart process good own old apart = record {
  rest = refl;
  others = λ other differ. own-with_other process other own old.states differ;
  kept = λ state is. let with = own-with_same process own old.states in cc;
  alike = λ code of none. let with = own-with_same process own old.states in cc;
  differs = λ code state of is. apart code of;
}
