-- What a write of an update does and tells (IEEE 1364-2001, clauses 5 and 9.7).
use Rattle.std.proofs.Common.{◌≡◌, ℕ, zero, suc, ◌<◌, List, [], ◌∷◌, map, length, Bool, true, false, not, ◌&&◌, ◌||◌, refl, sym, ap, subst, ◌∙◌, arith, ◌⊎◌, inl, inr}
use Rattle.std.specs.Prelude.{nat_eq, slice_get}
use Rattle.std.proofs.lemmas.Bool.{cases_eq, ne_eqb, eq-eqb}
use Rattle.four_value.specs.Values.{LogicValue, same_value}
use Rattle.four_value.specs.ValueLaws.{same_value-refl}
use Rattle.vf_base.specs.Lists.{has, joined, map_numbered, change_at}
use Rattle.v_design.specs.Designs.{Machine}
use Rattle.v_design.specs.Assignments.{ValueUpdate, value_at}
use Rattle.v_design.specs.States.{State, ProcessState, found_or, idle_process, process_at, written, value_written, is_ready, some_entry}
use Rattle.v_design.specs.Accesses.{ObjectAccess, is_waiting, waiting_entries, update_accesses}
use Rattle.value_change.specs.Changes.{ObjectChange, matches_one, woken_by, ended_by_changes}
use Rattle.value_change.specs.ChangeLaws.{write_of_change, wakes-by-change, ends-by-change, woken-waits}
use Rattle.event_queue.specs.Queues.{numbers_where}
use Rattle.machine_laws.specs.Waits.{numbered}

-- the change that a write of an update makes in a state
abbrev pub change_by : Machine → State → ValueUpdate → ObjectChange
change_by machine state update = record { object = update.object; old = value_at state.values update.object; new = value_written machine state update }

-- the changed object, where its value is another
abbrev pub object_if : Bool → ℕ → List ℕ
object_if true object = []
object_if false object = object ∷ []

-- what is told of a write of an update, in the state in which it is written: its accesses by a process and a line, the objects that it changed, and the processes whose waits it ended
pub record TellsWrite (machine : Machine) (state : State) (update : ValueUpdate) (process line : ℕ) (accesses : List ObjectAccess) (changed ended : List ℕ) : Type 0 where
  pub accesses_are : accesses ≡ update_accesses machine process line update state
  pub objects : (object : ℕ) → has changed object ≡ not (same_value (value_at state.values object) (value_at (written machine update state).values object))
  pub waits : (number : ℕ) → has ended number ≡ (is_waiting (process_at state number).activity && is_ready (process_at (written machine update state) number).activity)

-- the processes after a write are those that its change woke
pub written-processes : (machine : Machine) (state : State) (update : ValueUpdate) → map (woken_by (change_by machine state update ∷ [])) state.processes ≡ (written machine update state).processes
written-processes machine state update = sym (wakes-by-change (change_by machine state update) state.processes)

value-here : (values : List LogicValue) (object : ℕ) (new : LogicValue) → object < length values → value_at (change_at values object (λ old. new)) object ≡ new
value-here [] object new low = absurd (omega (arith, low))
value-here (v ∷ values) zero new low = refl
value-here (v ∷ values) (suc object) new low = value-here values object new (omega (arith, low))

value-elsewhere : (values : List LogicValue) (object other : ℕ) (new : LogicValue) → (object ≡ other → ⊥) → value_at (change_at values object (λ old. new)) other ≡ value_at values other
value-elsewhere [] object other new apart = refl
value-elsewhere (v ∷ values) zero zero new apart = absurd (apart refl)
value-elsewhere (v ∷ values) zero (suc other) new apart = refl
value-elsewhere (v ∷ values) (suc object) zero new apart = refl
value-elsewhere (v ∷ values) (suc object) (suc other) new apart = value-elsewhere values object other new (λ e. apart (ap suc e))

or-nothing : (b : Bool) → (b || false) ≡ b
or-nothing true = refl
or-nothing false = refl

-- the written object alone may have another value
written-objects : (machine : Machine) (state : State) (update : ValueUpdate) (object : ℕ) → update.object < length state.values →
    has (object_if (same_value (value_at state.values update.object) (value_written machine state update)) update.object) object
    ≡ not (same_value (value_at state.values object) (value_at (written machine update state).values object))
written-objects machine state update object low = go (cases_eq update.object object)
  where
    here : (b : Bool) → has (object_if b update.object) update.object ≡ not b
    here true = refl
    here false = ap (λ b. b || false) (eq-eqb update.object update.object refl)

    apart : (b : Bool) → nat_eq update.object object ≡ false → has (object_if b update.object) object ≡ false
    apart true e = refl
    apart false e = λ i. e i || false

    go : (update.object ≡ object) ⊎ (update.object ≡ object → ⊥) →
        has (object_if (same_value (value_at state.values update.object) (value_written machine state update)) update.object) object
        ≡ not (same_value (value_at state.values object) (value_at (written machine update state).values object))
    go (inl same) =
        subst
        (λ o. has (object_if (same_value (value_at state.values update.object) (value_written machine state update)) update.object) o
        ≡ not (same_value (value_at state.values o) (value_at (written machine update state).values o))) same
        (here (same_value (value_at state.values update.object) (value_written machine state update))
        ∙ ap (λ v. not (same_value (value_at state.values update.object) v)) (sym (value-here state.values update.object (value_written machine state update) low)))
    go (inr other) =
        apart (same_value (value_at state.values update.object) (value_written machine state update)) (ne_eqb update.object object other)
        ∙ sym
        (ap (λ v. not (same_value (value_at state.values object) v)) (value-elsewhere state.values update.object object (value_written machine state update) other)
        ∙ ap not (same_value-refl (value_at state.values object)))

found-map : {A : Type 0} (f : A → A) (default : A) (xs : List A) (n : ℕ) → f default ≡ default → found_or default (slice_get (map f xs) n) ≡ f (found_or default (slice_get xs n))
found-map f default [] n e = sym e
found-map f default (x ∷ xs) zero e = refl
found-map f default (x ∷ xs) (suc n) e = found-map f default xs n e

-- the processes whose waits some changes end are those that waited and are ready afterwards
pub woken-numbers : (changes : List ObjectChange) (processes : List ProcessState) (number : ℕ) →
    has (numbers_where (λ (p : ProcessState). some_entry (matches_one changes) (waiting_entries p.activity)) 0 processes) number
    ≡ (is_waiting (found_or idle_process (slice_get processes number)).activity && is_ready (found_or idle_process (slice_get (map (woken_by changes) processes) number)).activity)
woken-numbers changes processes number =
    numbered (λ (p : ProcessState). some_entry (matches_one changes) (waiting_entries p.activity)) idle_process number processes refl
    ∙ woken-waits changes (found_or idle_process (slice_get processes number))
    ∙ ap (λ (p : ProcessState). is_waiting (found_or idle_process (slice_get processes number)).activity && is_ready p.activity) (sym (found-map (woken_by changes) idle_process processes number refl))

-- a write is told by its change, the waits that this ends, and their processes
pub write-told : (machine : Machine) (state : State) (update : ValueUpdate) (process line : ℕ) → update.object < length state.values →
    TellsWrite machine state update process line
    (write_of_change process line (change_by machine state update) ∷ joined (map_numbered (ended_by_changes (change_by machine state update ∷ [])) 0 state.processes))
    (object_if (same_value (value_at state.values update.object) (value_written machine state update)) update.object)
    (numbers_where (λ (p : ProcessState). some_entry (matches_one (change_by machine state update ∷ [])) (waiting_entries p.activity)) 0 state.processes)
write-told machine state update process line low = record {
  accesses_are = ap (λ l. write_of_change process line (change_by machine state update) ∷ l) (sym (ends-by-change (change_by machine state update) state));
  objects = λ object. written-objects machine state update object low;
  waits = λ number. woken-numbers (change_by machine state update ∷ []) state.processes number
      ∙ ap (λ ps. is_waiting (process_at state number).activity && is_ready (found_or idle_process (slice_get ps number)).activity) (written-processes machine state update);
}
