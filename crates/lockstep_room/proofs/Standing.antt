-- One object, and one process, more that follows.
use Rattle.std.proofs.Common.{◌≡◌, ℕ, ◌+◌, ◌<◌, ◌≤◌, List, [], ◌∷◌, ◌++◌, length, map, get_or, take, cond, Bool, true, false, ◌||◌, refl, sym, ap, subst, ◌∙◌, inl, inr, arith}
use Rattle.std.specs.Prelude.{◌⊎◌, Option, Some, None, nat_lt}
use Rattle.std.proofs.lemmas.Bool.{cases_eq, cases_lt, eq-eqb, le-ltb, lt-ltb, ne_eqb}
use Rattle.std.proofs.lemmas.List.{get_or_past, take_more, map_push, length-map}
use Rattle.std.proofs.lemmas.Option.{slice_get_cases, slice_get_past}
use Rattle.graph_order.specs.ListLaws.{has-append}
use Rattle.four_value.specs.Values.{LogicValue}
use Rattle.vf_base.specs.Lists.{AllHold, has}
use Rattle.v_design.specs.Assignments.{value_at}
use Rattle.v_design.specs.Designs.{FlatDesign, FlatProcess, width_in}
use Rattle.v_design.specs.States.{State, ProcessState, LaterUpdate, process_at, found_or, idle_process}
use Rattle.process_code.specs.declared.code.Code.{Code}
use Rattle.process_code.specs.declared.state.ProcState.{ProcState}
use Rattle.process_table.specs.Puts.{MayStand, StandsAt}
use Rattle.process_table.specs.Waited.{IsWaitable, activity_entries, body_of}
use Rattle.event_queue.specs.Queues.{WakesAfter, holding_of}
use Rattle.run_ends.specs.RunEnds.{IsCodeAt, AreCodesOf}
use Rattle.good_trace.specs.RunsKept.{Stands}
use Rattle.lockstep_exchange.specs.block_events.Runners.{cleared_state}
use Rattle.lockstep_exchange.specs.Putting.{ValuesArePut, ProcessesArePut}
use Rattle.lockstep_room.specs.Rooms.{MayStandAt, MayStandSo, processes_among, values_among}

-- What is put in two turns

pub values-then : (first second more : ℕ → Option LogicValue) (old middle new : State) →
    ((object : ℕ) (value : LogicValue) → found_or (found_or value (first object)) (second object) ≡ found_or value (more object)) → ValuesArePut first old middle →
    ValuesArePut second middle new → ValuesArePut more old new
values-then first second more old middle new same put later = record {
  rest = later.rest ∙ ap (λ (s : State). record s { values = new.values }) put.rest;
  count = later.count ∙ put.count;
  values = λ object. later.values object ∙ ap (λ v. found_or v (second object)) (put.values object) ∙ same object (value_at old.values object);
}

pub processes-then : (first second more : ℕ → Option ProcessState) (old middle new : State) →
    ((process : ℕ) (own : ProcessState) → found_or (found_or own (first process)) (second process) ≡ found_or own (more process)) → ProcessesArePut first old middle →
    ProcessesArePut second middle new → ProcessesArePut more old new
processes-then first second more old middle new same put later = record {
  rest = later.rest ∙ ap (λ (s : State). record s { processes = new.processes }) put.rest;
  count = later.count ∙ put.count;
  processes = λ process. later.processes process ∙ ap (λ p. found_or p (second process)) (put.processes process) ∙ same process (process_at old process);
}

-- one of some numbers, or another one
pub among-then : {A : Type 0} (numbers : List ℕ) (one number : ℕ) (x found : A) →
    found_or (found_or x (cond (has numbers number) (Some found) None)) (cond (has (one ∷ []) number) (Some found) None) ≡ found_or x (cond (has (numbers ++ one ∷ []) number) (Some found) None)
among-then {A} numbers one number x found =
    go (has numbers number) (has (one ∷ []) number) ∙ ap (λ b. found_or x (cond b (Some found) None)) (sym (has-append numbers (one ∷ []) number))
  where
    go : (b c : Bool) → found_or (found_or x (cond b (Some found) None)) (cond c (Some found) None) ≡ found_or x (cond (b || c) (Some found) None)
    go true true = refl
    go true false = refl
    go false true = refl
    go false false = refl

-- all numbers below one, and it
pub below-then : {A : Type 0} (count number : ℕ) (x found : A) →
    found_or (found_or x (cond (nat_lt number count) (Some found) None)) (cond (has (count ∷ []) number) (Some found) None) ≡ found_or x (cond (nat_lt number (count + 1)) (Some found) None)
below-then {A} count number x found = elim (cases_eq count number) [
  | inl same ↦
      ap (λ b. found_or (found_or x (cond (nat_lt number count) (Some found) None)) (cond (b || false) (Some found) None)) (eq-eqb count number same)
      ∙ sym (ap (λ b. found_or x (cond b (Some found) None)) (lt-ltb number (count + 1) (omega (arith, same))))
  | inr differ ↦
      ap (λ b. found_or (found_or x (cond (nat_lt number count) (Some found) None)) (cond (b || false) (Some found) None)) (ne_eqb count number differ) ∙ go differ (cases_lt number count)
]
  where
    go : (count ≡ number → ⊥) → (number < count) ⊎ (count ≤ number) → found_or x (cond (nat_lt number count) (Some found) None) ≡ found_or x (cond (nat_lt number (count + 1)) (Some found) None)
    go differ (inl low) =
        ap (λ b. found_or x (cond b (Some found) None)) (lt-ltb number count low) ∙ sym (ap (λ b. found_or x (cond b (Some found) None)) (lt-ltb number (count + 1) (omega (arith, low))))
    go differ (inr past) =
        ap (λ b. found_or x (cond b (Some found) None)) (le-ltb number count past)
        ∙ sym (ap (λ b. found_or x (cond b (Some found) None)) (le-ltb number (count + 1) (omega (arith, past, differ))))

-- One number

pub one-here : {A : Type 0} (found : ℕ → Option A) (number : ℕ) → cond (has (number ∷ []) number) (found number) None ≡ found number
one-here found number = ap (λ b. cond (b || false) (found number) None) (eq-eqb number number refl)

pub one-other : {A : Type 0} (found : ℕ → Option A) (one number : ℕ) → (one ≡ number → ⊥) → cond (has (one ∷ []) number) (found number) None ≡ None
one-other found one number differ = ap (λ b. cond (b || false) (found number) None) (ne_eqb one number differ)

-- an object or a process that isn't there is put by nothing
pub value-absent : (good old : State) (object : ℕ) → length good.values ≡ length old.values → length old.values ≤ object → ValuesArePut (values_among (object ∷ []) good) old old
value-absent good old object count past = record {
  rest = refl;
  count = refl;
  values = λ other. elim (cases_eq object other) [
    | inl same ↦
        subst (λ o. value_at old.values o ≡ found_or (value_at old.values o) (values_among (object ∷ []) good o)) same
        (get_or_past old.values object [] past ∙ sym (get_or_past good.values object [] (omega (arith, past, count)))
        ∙ sym (ap (found_or (value_at old.values object)) (one-here (λ (o : ℕ). Some (value_at good.values o)) object)))
    | inr differ ↦ sym (ap (found_or (value_at old.values other)) (one-other (λ (o : ℕ). Some (value_at good.values o)) object other differ))
  ];
}

pub process-absent : (good old : State) (process : ℕ) → length good.processes ≡ length old.processes → length old.processes ≤ process →
    ProcessesArePut (processes_among (process ∷ []) good) old old
process-absent good old process count past = record {
  rest = refl;
  count = refl;
  processes = λ other. elim (cases_eq process other) [
    | inl same ↦
        subst (λ p. process_at old p ≡ found_or (process_at old p) (processes_among (process ∷ []) good p)) same
        (ap (found_or idle_process) (slice_get_past old.processes process past) ∙ sym (ap (found_or idle_process) (slice_get_past good.processes process (omega (arith, past, count))))
        ∙ sym (ap (found_or (process_at old process)) (one-here (λ (p : ℕ). Some (process_at good p)) process)))
    | inr differ ↦ sym (ap (found_or (process_at old other)) (one-other (λ (p : ℕ). Some (process_at good p)) process other differ))
  ];
}

-- Elements by place

pub map-more : {A : Type 0} (f : A → ℕ) (xs : List A) (i : ℕ) (default : A) → i < length xs → map f (take (i + 1) xs) ≡ map f (take i xs) ++ f (get_or xs i default) ∷ []
map-more f xs i default low = ap (map f) (take_more xs i default low) ∙ map_push f (take i xs) (get_or xs i default)

-- A process that is put

pub some-code : (design : FlatDesign) (codes : List Code) (process : ℕ) → AreCodesOf design codes → process < length design.processes → (code : Code) × IsCodeAt design process code
some-code design codes process are low = elim (slice_get_cases codes process).1 [
  | inl found ↦ (found.0, are.each process found.0 found.2)
  | inr none ↦ absurd (omega (arith, none.0, low, are.count))
]

-- it may stand where it is shown to
pub may-stand-there : (design : FlatDesign) (time process : ℕ) (own : ProcessState) (state : ProcState) (later : List LaterUpdate) → MayStand design time process own →
    Stands design process own.activity state → later ≡ own.later → (code : Code) → IsCodeAt design process code → StandsAt design time process state later code
may-stand-there design time process own state later may stands same code at =
    let does = stands.does code at in
    record {
      is_state = stands.state_of code at;
      may = record {
        waits = subst (λ activity. AllHold (IsWaitable design (body_of design process)) (activity_entries activity)) (sym does) may.waits;
        after = (
          subst (λ activity. WakesAfter time (holding_of activity)) (sym does) may.after.0,
          subst (AllHold (λ (update : LaterUpdate). time ≤ update.time)) (sym same) may.after.1,
        );
      };
    }

-- What may stand in a state may in one in which values, or processes, are put

unfoldable pub stands-values : (design other : FlatDesign) → other ≡ design → (shows : State → Type 0) (found : ℕ → Option LogicValue) (old new : State) → MayStandSo design shows old → ValuesArePut found old new → MayStandSo other shows new
stands-values design other same shows found old new of put =
    let time : new.time ≡ old.time = ap (λ (s : State). s.time) put.rest in
    record {
      good = of.good;
      shown = of.shown;
      codes = of.codes;
      codes_are = subst (λ (d : FlatDesign). AreCodesOf d of.codes) (sym same) of.codes_are;
      value_count = of.value_count ∙ sym put.count;
      process_count = of.process_count ∙ sym (ap (λ (s : State). length s.processes) put.rest);
      time_is = of.time_is ∙ sym time;
      wide = λ object low. of.wide object low ∙ ap (λ (d : FlatDesign). width_in d object) (sym same);
      may = λ process. subst (λ (d : FlatDesign). MayStand d new.time process (process_at of.good process)) (sym same)
          (subst (λ t. MayStand design t process (process_at of.good process)) (sym time) (of.may process));
    }

unfoldable pub stands-processes : (design other : FlatDesign) → other ≡ design → (shows : State → Type 0) (found : ℕ → Option ProcessState) (old new : State) → MayStandSo design shows old → ProcessesArePut found old new →
    MayStandSo other shows new
stands-processes design other same shows found old new of put =
    let time : new.time ≡ old.time = ap (λ (s : State). s.time) put.rest in
    record {
      good = of.good;
      shown = of.shown;
      codes = of.codes;
      codes_are = subst (λ (d : FlatDesign). AreCodesOf d of.codes) (sym same) of.codes_are;
      value_count = of.value_count ∙ sym (ap (λ (s : State). length s.values) put.rest);
      process_count = of.process_count ∙ sym put.count;
      time_is = of.time_is ∙ sym time;
      wide = λ object low. of.wide object low ∙ ap (λ (d : FlatDesign). width_in d object) (sym same);
      may = λ process. subst (λ (d : FlatDesign). MayStand d new.time process (process_at of.good process)) (sym same)
          (subst (λ t. MayStand design t process (process_at of.good process)) (sym time) (of.may process));
    }

-- a runner that is cleared may come into the state that is shown
unfoldable pub stands-cleared : (design other : FlatDesign) → other ≡ design → (shows : State → Type 0) (time : ℕ) (values : List LogicValue) (now : State) → MayStandAt design shows time →
    length values ≡ length design.objects → now ≡ cleared_state design time values → MayStandSo other shows now
stands-cleared design other same shows time values now of count is =
    let at : now.time ≡ time = ap (λ (s : State). s.time) is in
    record {
      good = of.good;
      shown = of.shown;
      codes = of.codes;
      codes_are = subst (λ (d : FlatDesign). AreCodesOf d of.codes) (sym same) of.codes_are;
      value_count = of.value_count ∙ sym count ∙ sym (ap (λ (s : State). length s.values) is);
      process_count =
          of.process_count ∙ sym (length-map design.processes (λ (process : FlatProcess). idle_process)) ∙ sym (ap (λ (s : State). length s.processes) is);
      time_is = of.time_is ∙ sym at;
      wide = λ object low. of.wide object low ∙ ap (λ (d : FlatDesign). width_in d object) (sym same);
      may = λ process.
          subst (λ (d : FlatDesign). MayStand d now.time process (process_at of.good process)) (sym same)
          (subst (λ t. MayStand design t process (process_at of.good process)) (sym at) (of.may process));
    }
