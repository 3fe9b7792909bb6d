-- An event that touches no difference, whatever the faulty machine's state is but for what its kept processes wait for.
use Rattle.std.proofs.Common.{◌≡◌, ℕ, suc, ◌+◌, List, [], ◌∷◌, length, Bool, true, false, ◌||◌, refl, sym, ap, subst, ◌∙◌, inl, inr, arith}
use Rattle.std.specs.Prelude.{Option, Some, None, nat_eq, slice_get}
use Rattle.std.proofs.lemmas.Bool.{cases_eq, eq-eqb, ne_eqb}
use Rattle.vf_base.specs.Lists.{AllHold, has, joined, map_numbered}
use Rattle.v_design.specs.Trees.{Entry}
use Rattle.v_design.specs.Designs.{FlatDesign, StuckAt, good_machine, faulty_machine}
use Rattle.v_design.specs.Assignments.{ValueUpdate}
use Rattle.v_design.specs.Processes.{Action, ReadsObject, WritesObject, AppendsUpdate, TouchesNothing}
use Rattle.v_design.specs.States.{State, ProcessState, Event, Step, LaneStep, Evaluation, NetUpdate, process_at, found_or, idle_process, first_update, some_entry, step_of}
use Rattle.v_design.specs.Accesses.{ObjectAccess, waiting_entries, held_by, held_accesses}
use Rattle.copy_laws.specs.Beside.{Apart}
use Rattle.copy_laws.specs.QuietPhases.{NetsAreNotAwaited}
use Rattle.copy_laws.specs.Touches.{IsFree, UpdateIsFree, ActionIsFree, EventIsFree}

-- Another faulty state in which the kept processes are the same

-- the processes in which the machines are apart are the same in two states
abbrev pub SameApart : Apart → State → State → Type 0
SameApart apart one other = (process : ℕ) → apart.processes process ≡ true → process_at one process ≡ process_at other process

object-free : (apart : Apart) (good one other : State) → SameApart apart one other → (object : ℕ) → IsFree apart good one object → IsFree apart good other object
object-free apart good one other same object f = record {
  agrees = f.agrees;
  good_elsewhere = f.good_elsewhere;
  faulty_elsewhere = λ p h. ap (λ (s : ProcessState). some_entry (λ (entry : Entry). nat_eq entry.object object) (waiting_entries s.activity)) (sym (same p h)) ∙ f.faulty_elsewhere p h;
}

update-free : (design : FlatDesign) (fault : StuckAt) (apart : Apart) (good one other : State) → SameApart apart one other → (update : Option ValueUpdate) →
    UpdateIsFree design fault apart good one update → UpdateIsFree design fault apart good other update
update-free design fault apart good one other same None f = tt
update-free design fault apart good one other same (Some update) f = (f.0, object-free apart good one other same update.object f.1)

action-free : (design : FlatDesign) (fault : StuckAt) (apart : Apart) (good one other : State) → SameApart apart one other → (action : Action) →
    ActionIsFree design fault apart good one action → ActionIsFree design fault apart good other action
action-free design fault apart good one other same (ReadsObject object) f = f
action-free design fault apart good one other same (WritesObject update) f = (f.0, object-free apart good one other same update.object f.1)
action-free design fault apart good one other same (AppendsUpdate delay update) f = tt
action-free design fault apart good one other same TouchesNothing f = tt

all-free : (P Q : ℕ → Type 0) (xs : List ℕ) → ((x : ℕ) → P x → Q x) → AllHold P xs → AllHold Q xs
all-free P Q [] h all = tt
all-free P Q (x ∷ xs) h all = (h x all.0, all-free P Q xs h all.1)

pub event-free : (design : FlatDesign) (fault : StuckAt) (apart : Apart) (good one other : State) → SameApart apart one other → (event : Event) →
    EventIsFree design fault apart good one event → EventIsFree design fault apart good other event
event-free design fault apart good one other same (Step process) f = (f.0, action-free design fault apart good one other same (step_of (good_machine design) good process).action f.1)
event-free design fault apart good one other same (LaneStep process) f = (f.0, update-free design fault apart good one other same (first_update (process_at good process).lane) f.1)
event-free design fault apart good one other same (Evaluation number) f = f
event-free design fault apart good one other same (NetUpdate number) f =
    λ node at. all-free (IsFree apart good one) (IsFree apart good other) node.outputs (λ object h. object-free apart good one other same object h) (f node at)

-- No kept process waits for a net that an event updates

or-none : (b c : Bool) → b ≡ false → c ≡ false → (b || c) ≡ false
or-none true c e f = cc
or-none false c e f = f

eq-turned : (a b : ℕ) → nat_eq a b ≡ nat_eq b a
eq-turned a b = elim (cases_eq a b) [ inl e ↦ eq-eqb a b e ∙ sym (eq-eqb b a (sym e)) | inr other ↦ ne_eqb a b other ∙ sym (ne_eqb b a (λ e. other (sym e))) ]

parts-none : (b c : Bool) → (b || c) ≡ false → (b ≡ false) × (c ≡ false)
parts-none true c e = cc
parts-none false c e = (refl, e)

none-listed : (P : ℕ → Type 0) (entries : List Entry) → ((object : ℕ) → P object → some_entry (λ (entry : Entry). nat_eq entry.object object) entries ≡ false) → (objects : List ℕ) →
    AllHold P objects → (entry : Entry) (rest : List Entry) → entries ≡ entry ∷ rest → has objects entry.object ≡ false
none-listed P entries h [] all entry rest is = refl
none-listed P entries h (object ∷ objects) all entry rest is =
    or-none (nat_eq object entry.object) (has objects entry.object)
    (eq-turned object entry.object
    ∙ (parts-none (nat_eq entry.object object) (some_entry (λ (e : Entry). nat_eq e.object object) rest)
    (ap (some_entry (λ (e : Entry). nat_eq e.object object)) (sym is) ∙ h object all.0)).0)
    (none-listed P entries h objects all.1 entry rest is)

none-waits : (P : ℕ → Type 0) (objects : List ℕ) → AllHold P objects → (entries : List Entry) →
    ((object : ℕ) → P object → some_entry (λ (entry : Entry). nat_eq entry.object object) entries ≡ false) → some_entry (λ (entry : Entry). has objects entry.object) entries ≡ false
none-waits P objects all [] h = refl
none-waits P objects all (entry ∷ entries) h =
    or-none (has objects entry.object) (some_entry (λ (e : Entry). has objects e.object) entries) (none-listed P (entry ∷ entries) h objects all entry entries refl)
    (none-waits P objects all entries
    (λ object p. (parts-none (nat_eq entry.object object) (some_entry (λ (e : Entry). nat_eq e.object object) entries) (h object p)).1))

pub nets-elsewhere : (design : FlatDesign) (fault : StuckAt) (apart : Apart) (good faulty : State) (event : Event) → EventIsFree design fault apart good faulty event →
    NetsAreNotAwaited design apart good faulty event
nets-elsewhere design fault apart good faulty (Step process) f = tt
nets-elsewhere design fault apart good faulty (LaneStep process) f = tt
nets-elsewhere design fault apart good faulty (Evaluation number) f = tt
nets-elsewhere design fault apart good faulty (NetUpdate number) f = λ node at. (
  λ p h. none-waits (IsFree apart good faulty) node.outputs (f node at) (waiting_entries (process_at good p).activity) (λ object free. free.good_elsewhere p h),
  λ p h. none-waits (IsFree apart good faulty) node.outputs (f node at) (waiting_entries (process_at faulty p).activity) (λ object free. free.faulty_elsewhere p h),
)

-- Held entries

-- lists that give the same at each place
numbered-alike : (give : ℕ → ProcessState → List ObjectAccess) (n : ℕ) (xs ys : List ProcessState) → length xs ≡ length ys →
    ((p : ℕ) → give (n + p) (found_or idle_process (slice_get xs p)) ≡ give (n + p) (found_or idle_process (slice_get ys p))) → map_numbered give n xs ≡ map_numbered give n ys
numbered-alike give n [] [] e h = refl
numbered-alike give n [] (y ∷ ys) e h = absurd (omega (arith, e))
numbered-alike give n (x ∷ xs) [] e h = absurd (omega (arith, e))
numbered-alike give n (x ∷ xs) (y ∷ ys) e h =
    λ i. (subst (λ m. give m x ≡ give m y) (plus-none n) (h 0)) i
    ∷ numbered-alike give (n + 1) xs ys (omega (arith, e))
    (λ p. subst (λ m. give m (found_or idle_process (slice_get xs p)) ≡ give m (found_or idle_process (slice_get ys p))) (regroup n p) (h (suc p))) i
  where
    plus-none : (m : ℕ) → m + 0 ≡ m
    plus-none m = omega arith

    regroup : (m p : ℕ) → m + suc p ≡ m + 1 + p
    regroup m p = omega arith

pub held-alike : (design : FlatDesign) (fault : StuckAt) (good faulty : State) → length good.processes ≡ length faulty.processes →
    ((p : ℕ) → held_by design p (process_at good p) ≡ held_by design p (process_at faulty p)) → held_accesses (good_machine design) good ≡ held_accesses (faulty_machine design fault) faulty
held-alike design fault good faulty count h =
    ap joined
    (numbered-alike (held_by design) 0 good.processes faulty.processes count
    (λ p. subst (λ m. held_by design m (process_at good p) ≡ held_by design m (process_at faulty p)) (none-plus p) (h p)))
  where
    none-plus : (p : ℕ) → p ≡ 0 + p
    none-plus p = omega arith
