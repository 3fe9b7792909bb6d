-- A room comes to a state object by object and process by process.
use Rattle.std.proofs.Common.{◌≡◌, ℕ, zero, suc, ◌+◌, ◌<◌, List, [], ◌∷◌, length, map, set, refl, sym, ap, subst, ◌∙◌, arith, inl, inr}
use Rattle.std.specs.Prelude.{Some, slice_get, slice_set}
use Rattle.std.proofs.lemmas.Bool.{cases_eq}
use Rattle.std.proofs.lemmas.List.{ext_get_or, get_or-set_same, get_or-set_other, length-map, length-set}
use Rattle.vf_base.specs.Lists.{change_at}
use Rattle.four_value.specs.Values.{LogicValue}
use Rattle.v_design.specs.Assignments.{value_at}
use Rattle.v_design.specs.Designs.{FlatDesign, FlatProcess, Machine, StuckAt, faulty_machine}
use Rattle.v_design.specs.States.{State, ProcessState, process_at, found_or, idle_process}
use Rattle.machine_laws.specs.Waits.{changed-elsewhere}
use Rattle.copy_between.specs.OneState.{at-process}
use Rattle.machine.specs.declared.parts.Machine.{Machine as Simulated}
use Rattle.machine.specs.Standing.{IsCleared, StandsBetween, machine_kept, state_kept, notes_runs, idle_nodes, cleared_state}
use Rattle.copy_room.specs.Rooms.{IsRoom}
use Rattle.copy_room.specs.Putting.{IsPlaced}

-- Lists

put-here : {A : Type 0} (default : A) (xs : List A) (n : ℕ) (x : A) → n < length xs → found_or default (slice_get (change_at xs n (λ (old : A). x)) n) ≡ x
put-here default [] n x low = absurd (omega (arith, low))
put-here default (y ∷ xs) zero x low = refl
put-here default (y ∷ xs) (suc n) x low = put-here default xs n x (omega (arith, low))

length-put : {A : Type 0} (xs : List A) (n : ℕ) (x : A) → length (change_at xs n (λ (old : A). x)) ≡ length xs
length-put [] n x = refl
length-put (y ∷ xs) zero x = refl
length-put (y ∷ xs) (suc n) x = ap suc (length-put xs n x)

idle-at : (processes : List FlatProcess) (n : ℕ) → found_or idle_process (slice_get (map (λ (process : FlatProcess). idle_process) processes) n) ≡ idle_process
idle-at [] n = refl
idle-at (process ∷ processes) zero = refl
idle-at (process ∷ processes) (suc n) = idle-at processes n

-- Nothing is put yet

pub begins-placed : (design : FlatDesign) (fault : StuckAt) (faulty : State) (time : ℕ) (old new : Simulated) → IsRoom design old → StandsBetween (faulty_machine design fault) faulty →
    faulty.time ≡ time → machine_kept new ≡ record (machine_kept old) { fault = Some fault } →
    state_kept new ≡ cleared_state (machine_kept old).design time (state_kept old).values → IsCleared new → notes_runs new ≡ notes_runs old → IsPlaced (faulty_machine design fault) faulty 0 0 new
begins-placed design fault faulty time old new room between at machine state cleared notes =
    let same = room.design_is in
    record {
      machine_is = machine ∙ ap (λ (d : FlatDesign). faulty_machine d fault) same;
      cleared = cleared;
      no_notes = notes ∙ room.no_notes;
      time_is = ap (λ (s : State). s.time) state ∙ sym at;
      nodes_are = ap (λ (s : State). s.nodes) state ∙ ap idle_nodes same ∙ sym between.nodes;
      value_count = ap (λ (s : State). length s.values) state ∙ room.standing.values ∙ ap (λ (d : FlatDesign). length d.objects) same ∙ sym between.values;
      process_count =
          ap (λ (s : State). length s.processes) state ∙ length-map (machine_kept old).design.processes (λ (process : FlatProcess). idle_process)
          ∙ ap (λ (d : FlatDesign). length d.processes) same ∙ sym between.count;
      values = λ object low. absurd (omega (arith, low));
      placed = λ process low. absurd (omega (arith, low));
      others = λ process past. ap (λ (s : State). process_at s process) state ∙ idle-at (machine_kept old).design.processes process;
    }

-- One object more

pub value-placed : (machine : Machine) (state : State) (objects processes : ℕ) (old new : Simulated) (value : LogicValue) → IsPlaced machine state objects processes old →
    objects < length state.values → value ≡ value_at state.values objects → machine_kept new ≡ machine_kept old →
    state_kept new ≡ record (state_kept old) { values = slice_set (state_kept old).values objects value } → IsCleared new → notes_runs new ≡ notes_runs old →
    IsPlaced machine state (objects + 1) processes new
value-placed machine state objects processes old new value placed low is same changed cleared notes =
    let values : (state_kept new).values ≡ set (state_kept old).values objects value = ap (λ (s : State). s.values) changed in
    let there : (process : ℕ) → process_at (state_kept new) process ≡ process_at (state_kept old) process = λ process. ap (λ (s : State). process_at s process) changed in
    record {
      machine_is = same ∙ placed.machine_is;
      cleared = cleared;
      no_notes = notes ∙ placed.no_notes;
      time_is = ap (λ (s : State). s.time) changed ∙ placed.time_is;
      nodes_are = ap (λ (s : State). s.nodes) changed ∙ placed.nodes_are;
      value_count = ap length values ∙ length-set (state_kept old).values objects value ∙ placed.value_count;
      process_count = ap (λ (s : State). length s.processes) changed ∙ placed.process_count;
      values = λ object below. ap (λ (l : List LogicValue). value_at l object) values ∙ elim (cases_eq object objects) [
        | inl equal ↦
            subst (λ o. value_at (set (state_kept old).values objects value) o ≡ value_at state.values o) (sym equal)
            (get_or-set_same (state_kept old).values objects value [] (omega (arith, low, placed.value_count)) ∙ is)
        | inr other ↦ get_or-set_other (state_kept old).values objects object value [] other ∙ placed.values object (omega (arith, below, other))
      ];
      placed = λ process below. there process ∙ placed.placed process below;
      others = λ process past. there process ∙ placed.others process past;
    }

-- One process more

pub process-placed : (machine : Machine) (state : State) (objects processes : ℕ) (old new : Simulated) (process : ProcessState) → IsPlaced machine state objects processes old →
    processes < length state.processes → process ≡ process_at state processes → machine_kept new ≡ machine_kept old →
    state_kept new ≡ record (state_kept old) { processes = change_at (state_kept old).processes processes (λ (old : ProcessState). process) } → IsCleared new →
    notes_runs new ≡ notes_runs old → IsPlaced machine state objects (processes + 1) new
process-placed machine state objects processes old new process placed low is same changed cleared notes =
    let there : (number : ℕ) → process_at (state_kept new) number ≡ found_or idle_process (slice_get (change_at (state_kept old).processes processes (λ (old : ProcessState). process)) number) =
    λ number. ap (λ (s : State). process_at s number) changed in
    let elsewhere : (number : ℕ) → (processes ≡ number → ⊥) → process_at (state_kept new) number ≡ process_at (state_kept old) number =
    λ number other. there number ∙ changed-elsewhere idle_process (state_kept old).processes processes number (λ (old : ProcessState). process) other in
    record {
      machine_is = same ∙ placed.machine_is;
      cleared = cleared;
      no_notes = notes ∙ placed.no_notes;
      time_is = ap (λ (s : State). s.time) changed ∙ placed.time_is;
      nodes_are = ap (λ (s : State). s.nodes) changed ∙ placed.nodes_are;
      value_count = ap (λ (s : State). length s.values) changed ∙ placed.value_count;
      process_count = ap (λ (s : State). length s.processes) changed ∙ length-put (state_kept old).processes processes process ∙ placed.process_count;
      values = λ object below. ap (λ (s : State). value_at s.values object) changed ∙ placed.values object below;
      placed = λ number below. elim (cases_eq processes number) [
        | inl equal ↦
            subst (λ n. process_at (state_kept new) n ≡ process_at state n) equal
            (there processes ∙ put-here idle_process (state_kept old).processes processes process (omega (arith, low, placed.process_count)) ∙ is)
        | inr other ↦ elsewhere number other ∙ placed.placed number (omega (arith, below, other))
      ];
      others = λ number past. elsewhere number (λ equal. omega (arith, equal, past)) ∙ placed.others number (omega (arith, past));
    }

-- All is put

pub all-placed : (machine : Machine) (state : State) (m : Simulated) → IsPlaced machine state (length state.values) (length state.processes) m → state_kept m ≡ state
all-placed machine state m placed =
    let values = ext_get_or [] (state_kept m).values state.values placed.value_count (λ object low. placed.values object (omega (arith, low, placed.value_count))) in
    let processes = ext_get_or idle_process (state_kept m).processes state.processes placed.process_count
    (λ process low.
    let within : process < length state.processes = omega (arith, low, placed.process_count) in
    sym (at-process (state_kept m) process low) ∙ placed.placed process within ∙ at-process state process within) in
    λ i. record { time = placed.time_is i; values = values i; nodes = placed.nodes_are i; processes = processes i }
