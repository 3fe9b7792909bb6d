-- What is kept in lockstep fits the good machine's state, and what that has fits the faulty one's.
use Rattle.std.proofs.Common.{◌≡◌, ℕ, ◌<◌, ◌≤◌, List, [], ◌∷◌, length, map, sym, ap, subst, ◌∙◌, inl, inr, arith}
use Rattle.std.specs.Prelude.{Option, Some}
use Rattle.std.specs.Option.{option_map}
use Rattle.std.proofs.lemmas.Bool.{cases_lt}
use Rattle.std.proofs.lemmas.List.{get_or_past}
use Rattle.std.proofs.lemmas.Option.{slice_get_past}
use Rattle.four_value.specs.Values.{LogicValue}
use Rattle.vf_base.specs.Lists.{AllHold}
use Rattle.v_design.specs.Assignments.{value_at}
use Rattle.v_design.specs.Designs.{FlatDesign}
use Rattle.v_design.specs.Plain.{update_of}
use Rattle.v_design.specs.States.{State, LaterUpdate, process_at, found_or, idle_process}
use Rattle.copy_laws.specs.Differences.{own_of}
use Rattle.lockstep_laws.specs.Lockstep.{due_times}
use Rattle.lockstep_index.specs.Writes.{OwnWrites, with_writes}
use Rattle.lockstep_copy.specs.lockstep_slots.Kept.{kept_within}
use Rattle.lockstep_copy.specs.Kept.{kept_by}
use Rattle.lockstep_copy.specs.declared.own.LockstepCopy.{LockstepCopy}
use Rattle.lockstep_exchange.specs.Putting.{KeptFits, ShownFits}
use Rattle.lockstep_exchange.specs.Exchange.{MakesLockstep, MayPutIn, MayTakeOut}

-- Times

-- updates are due at some times or later by the times alone
pub due-alike : (now : ℕ) (one other : List LaterUpdate) → due_times one ≡ due_times other → AllHold (λ (update : LaterUpdate). now ≤ update.time) other →
    AllHold (λ (update : LaterUpdate). now ≤ update.time) one
due-alike now [] other same all = tt
due-alike now (update ∷ one) [] same all = cc
due-alike now (update ∷ one) (first ∷ other) same all =
    let here : update.time ≡ first.time = cc in
    let rest : due_times one ≡ due_times other = cc in
    (omega (arith, here, all.0), due-alike now one other rest all.1)

-- Parts past all

value-past : (state : State) (object : ℕ) → length state.values ≤ object → value_at state.values object ≡ []
value-past state object past = get_or_past state.values object [] past

process-past : (state : State) (process : ℕ) → length state.processes ≤ process → process_at state process ≡ idle_process
process-past state process past = ap (found_or idle_process) (slice_get_past state.processes process past)

-- Of a good state and one in lockstep with it

-- what is kept of a process of which updates are kept
abbrev writes-of : LockstepCopy → ℕ → List LaterUpdate → OwnWrites
writes-of own process later = record { later = later; lane = map update_of (found_or [] (own_of own.lanes process)) }

module _ (own : LockstepCopy) (good faulty : State) (makes : MakesLockstep own good faulty) where
  -- an object of which a value is kept is there, and holds it in the faulty state
  pub value-is : (object : ℕ) (value : LogicValue) → own_of own.copy.values object ≡ Some value → value_at faulty.values object ≡ value
  value-is object value is = makes.lockstep.within.values object ∙ ap (found_or (value_at good.values object)) is

  pub object-there : (object : ℕ) (value : LogicValue) → own_of own.copy.values object ≡ Some value → object < length good.values
  object-there object value is = elim (cases_lt object (length good.values)) [
    | inl low ↦ low
    | inr past ↦
        absurd
        (makes.nothing_same.values object value is
        (sym (value-is object value is) ∙ value-past faulty object (omega (arith, past, makes.lockstep.within.value_count)) ∙ sym (value-past good object past)))
  ]

  kept-process : (process : ℕ) (later : List LaterUpdate) → own_of own.copy.updates process ≡ Some later →
      (kept_within (kept_by own) good).processes process ≡ Some (with_writes (Some (writes-of own process later)) (process_at good process))
  kept-process process later is =
      ap
      (λ (found : Option (List LaterUpdate)). option_map (λ (w : OwnWrites). with_writes (Some w) (process_at good process))
      (option_map (λ (l : List LaterUpdate). record { later = l; lane = map update_of (found_or [] (own_of own.lanes process)) }) found)) is

  -- so is a process of which updates are kept, which has these in the faulty state
  process-is : (process : ℕ) (later : List LaterUpdate) → own_of own.copy.updates process ≡ Some later → process_at faulty process ≡ with_writes (Some (writes-of own process later)) (process_at good process)
  process-is process later is = makes.lockstep.within.processes process ∙ ap (found_or (process_at good process)) (kept-process process later is)

  pub process-there : (process : ℕ) (later : List LaterUpdate) → own_of own.copy.updates process ≡ Some later → process < length good.processes
  process-there process later is = elim (cases_lt process (length good.processes)) [
    | inl low ↦ low
    | inr past ↦
        absurd
        (makes.nothing_same.processes process (with_writes (Some (writes-of own process later)) (process_at good process)) (kept-process process later is)
        (sym (process-is process later is) ∙ process-past faulty process (omega (arith, past, makes.lockstep.within.process_count)) ∙ sym (process-past good process past)))
  ]

  -- they are due at the good ones' times
  pub times-are : (process : ℕ) (later : List LaterUpdate) → own_of own.copy.updates process ≡ Some later → due_times later ≡ due_times (process_at good process).later
  times-are process later is = (makes.lockstep.processes process (with_writes (Some (writes-of own process later)) (process_at good process)) (kept-process process later is)).due

-- in a state no update is due before its time
abbrev pub NoneDueBefore : State → Type 0
NoneDueBefore state = (process : ℕ) → AllHold (λ (update : LaterUpdate). state.time ≤ update.time) (process_at state process).later

pub kept-fits : (design : FlatDesign) (own : LockstepCopy) (good : State) → MayPutIn design own good → NoneDueBefore good → KeptFits design good own
kept-fits design own good of none = record {
  values = λ object value is.
      let low = object-there own good of.faulty of.makes object value is in
      record {
        there = low;
        width =
            ap (λ (v : LogicValue). length v) (sym (value-is own good of.faulty of.makes object value is))
            ∙ of.wide object (omega (arith, low, of.makes.lockstep.within.value_count));
      };
  updates = λ process later is. record {
    there = process-there own good of.faulty of.makes process later is;
    due = due-alike good.time later (process_at good process).later (times-are own good of.faulty of.makes process later is) (none process);
  };
}

unfoldable pub shown-fits : (design : FlatDesign) (shows : State → Type 0) (own : LockstepCopy) (now : State) → MayTakeOut design shows own now → ShownFits design shows now own.copy.values
shown-fits design shows own now of = record {
  good = of.good;
  shown = of.shown;
  value_count = sym of.but_for.value_count;
  each = λ object value is.
      let low = of.but_for.objects_there object value is in
      record { there = omega (arith, low, of.but_for.value_count); width = of.wide object low };
}

-- What fits a state fits another one of as many values and processes at its time

pub fits-again : (design : FlatDesign) (own : LockstepCopy) (old new : State) → length new.values ≡ length old.values → length new.processes ≡ length old.processes → new.time ≡ old.time →
    KeptFits design old own → KeptFits design new own
fits-again design own old new values processes time fits = record {
  values = λ object value is.
      let fit = fits.values object value is in
      record { there = omega (arith, fit.there, values); width = fit.width };
  updates = λ process later is.
      let fit = fits.updates process later is in
      record { there = omega (arith, fit.there, processes); due = subst (λ t. AllHold (λ (update : LaterUpdate). t ≤ update.time) later) (sym time) fit.due };
}
