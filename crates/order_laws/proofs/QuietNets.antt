-- A net piece that no change reaches never changes, in any run.
use Rattle.std.proofs.Common.{◌≡◌, ℕ, ◌+◌, ◌≤◌, List, [], ◌∷◌, ◌++◌, Bool, true, false, not, ◌&&◌, ◌||◌, refl, sym, ap, subst, ◌∙◌, inl, inr, arith}
use Rattle.std.specs.Prelude.{Option, Some, None, slice_get, IsTrue, nat_eq, is_some}
use Rattle.std.proofs.lemmas.Bool.{eqb-true}
use Rattle.vf_base.specs.Lists.{has}
use Rattle.four_value.specs.Values.{LogicValue, same_value}
use Rattle.v_design.specs.Designs.{FlatNode, FlatDesign, Machine}
use Rattle.v_design.specs.Assignments.{ValueUpdate, value_at, node_outputs}
use Rattle.v_design.specs.Processes.{Action, ReadsObject, WritesObject, AppendsUpdate, TouchesNothing}
use Rattle.v_design.specs.States.{State, ProcessState, Event, Step, LaneStep, Evaluation, NetUpdate, possible, after, node_at, process_at, found_or, has_work, some_in, with_value, with_node}
use Rattle.v_design.specs.States.{with_process, written_if, value_written, write_of, first_update, after_lane_step, after_step, step_of, evaluated, nets_updated}
use Rattle.v_design.specs.Runs.{happened, all_possible}
use Rattle.v_design.specs.Paths.{net_pieces}
use Rattle.v_design.specs.Accesses.{ObjectAccess, Writing, accesses_of, action_accesses, await_accesses, lane_accesses}
use Rattle.v_design.specs.Logs.{change_of, changes_of}
use Rattle.v_design.specs.WellFormed.{KeepsRules}
use Rattle.v_design.specs.Laws.{BeginsPhase, change_if, changes_at}
use Rattle.order_laws.proofs.PathLaws.{decided, true-false, has-self, reached, reached-self, reached-input, reached-append}
use Rattle.order_laws.proofs.WritersStay.{AreClear, NotNet, after-clear, write-clear-of, bodies_clear, writers_clear}
use Rattle.order_laws.proofs.NetStates.{same_value-self, other_number, value-unchanged, value-other, values-other, node-untouched, node-values-untouched, node-other, all_idle}

-- The variables and memory words that an event changes, and those that a run changes

abbrev pub event_changes : Machine → State → Event → List ℕ
event_changes machine state event = changes_of machine.design (accesses_of machine 0 0 state event)

abbrev pub run_changes : Machine → State → List Event → List ℕ
run_changes machine state [] = []
run_changes machine state (event ∷ events) = event_changes machine state event ++ run_changes machine (after machine state event) events

-- what some changes don't reach is as at the beginning, and a node of which they reach no input has no work
pub record StaysQuiet (machine : Machine) (begin state : State) (changes : List ℕ) : Type 0 where
  pub values : (object : ℕ) → reached machine.design changes object ≡ 0 → value_at state.values object ≡ value_at begin.values object
  pub nodes : (number : ℕ) (node : FlatNode) → slice_get machine.design.nodes number ≡ Some node →
      ((input : ℕ) → has node.inputs input ≡ true → reached machine.design changes input ≡ 0) → has_work (node_at state number) ≡ false

pub quiet-begins : (machine : Machine) (state : State) → some_in has_work state.nodes ≡ false → StaysQuiet machine state state []
quiet-begins machine state h = record { values = λ object r. refl; nodes = λ number node e r. all_idle state.nodes h number }

both_none : (n m k : ℕ) → k ≡ n + m → k ≡ 0 → (n ≡ 0) × (m ≡ 0)
both_none n m k s z = (omega (arith, s, z), omega (arith, s, z))

pub reached-none : (design : FlatDesign) (changes more : List ℕ) (object : ℕ) → reached design (changes ++ more) object ≡ 0 → (reached design changes object ≡ 0) × (reached design more object ≡ 0)
reached-none design changes more object z = both_none (reached design changes object) (reached design more object) (reached design (changes ++ more) object)
    (reached-append design changes more object) z

one-none : {A : Type 0} (n : ℕ) → 1 ≤ n → n ≡ 0 → A
one-none n a b = absurd (omega (arith, a, b))

-- more changes reach no less
quiet-more : (machine : Machine) (begin state : State) (changes more : List ℕ) → StaysQuiet machine begin state changes → StaysQuiet machine begin state (changes ++ more)
quiet-more machine begin state changes more q = record {
  values = λ object r. q.values object (reached-none machine.design changes more object r).0;
  nodes = λ number node e r. q.nodes number node e (λ input i. (reached-none machine.design changes more input (r input i)).0);
}

-- a write, which is among the changes if it is one
quiet-write : (machine : Machine) (begin state : State) (changes more : List ℕ) (object : ℕ) (new : LogicValue) → KeepsRules machine.design →
    StaysQuiet machine begin state changes → (same_value (value_at state.values object) new ≡ false → has more object ≡ true) →
    StaysQuiet machine begin (with_value machine object new state) (changes ++ more)
quiet-write machine begin state changes more object new rules q told = record {
  values = λ x r. elim (decided (same_value (value_at state.values object) new)) [
    | inl same ↦ value-unchanged machine object new state same x ∙ q.values x (reached-none machine.design changes more x r).0
    | inr other ↦ elim (decided (nat_eq object x)) [
      | inl here ↦
          one-none (reached machine.design more x) (reached-self machine.design rules.ranked more x (subst (λ y. has more y ≡ true) (eqb-true object x here) (told other)))
          (reached-none machine.design changes more x r).1
      | inr there ↦ value-other machine object new state x (other_number object x there) ∙ q.values x (reached-none machine.design changes more x r).0
    ]
  ];
  nodes = λ number node e r.
      ap has_work (node-untouched machine object new state number node e (unread number node r))
      ∙ q.nodes number node e (λ input i. (reached-none machine.design changes more input (r input i)).0);
}
  where
    go : (b c : Bool) → (b ≡ false → c ≡ true → ⊥) → (not b && c) ≡ false
    go true c h = refl
    go false true h = absurd (h refl refl)
    go false false h = refl

    unread : (number : ℕ) (node : FlatNode) → ((input : ℕ) → has node.inputs input ≡ true → reached machine.design (changes ++ more) input ≡ 0) →
        (not (same_value (value_at state.values object) new) && has node.inputs object) ≡ false
    unread number node r =
        go (same_value (value_at state.values object) new) (has node.inputs object)
        (λ other i. one-none (reached machine.design more object) (reached-self machine.design rules.ranked more object (told other)) (reached-none machine.design changes more object (r object i)).1)

quiet-written_if : (machine : Machine) (begin state : State) (changes more : List ℕ) (write : Option ValueUpdate) → KeepsRules machine.design →
    StaysQuiet machine begin state changes →
    ((u : ValueUpdate) → write ≡ Some u → same_value (value_at state.values u.object) (value_written machine state u) ≡ false → has more u.object ≡ true) →
    StaysQuiet machine begin (written_if machine write state) (changes ++ more)
quiet-written_if machine begin state changes more None rules q told = quiet-more machine begin state changes more q
quiet-written_if machine begin state changes more (Some u) rules q told = quiet-write machine begin state changes more u.object (value_written machine state u) rules q (told u refl)

quiet-process : (machine : Machine) (begin state : State) (changes : List ℕ) (number : ℕ) (own : ProcessState → ProcessState) → StaysQuiet machine begin state changes →
    StaysQuiet machine begin (with_process number own state) changes
quiet-process machine begin state changes number own q = record { values = q.values; nodes = q.nodes }

-- a write that changes a variable is among the changes of its event
listed : (design : FlatDesign) (old new : LogicValue) (object : ℕ) (rest : List ℕ) → same_value old new ≡ false → has (net_pieces design) object ≡ false →
    has (change_of design (Writing old new) object ++ rest) object ≡ true
listed design old new object rest a b =
    ap (λ c. has (elim c [ true ↦ [] | false ↦ object ∷ [] ] ++ rest) object) (ap (λ c. c || has (net_pieces design) object) a ∙ b) ∙ has-self object rest

some_same : {A : Type 0} (x y : A) → Some x ≡ Some y → x ≡ y
some_same x y e = ap (found_or x) e

pub action-listed : (machine : Machine) (state : State) (process line : ℕ) (action : Action) (rest : List ObjectAccess) (u : ValueUpdate) → write_of action ≡ Some u →
    same_value (value_at state.values u.object) (value_written machine state u) ≡ false → NotNet machine u.object →
    has (changes_of machine.design (action_accesses machine process line action state ++ rest)) u.object ≡ true
action-listed machine state process line (ReadsObject object) rest u e a b = cc
action-listed machine state process line (WritesObject w) rest u e a b =
    subst (λ (v : ValueUpdate). has (changes_of machine.design (action_accesses machine process line (WritesObject w) state ++ rest)) v.object ≡ true) (some_same w u e)
    (listed machine.design (value_at state.values w.object) (value_written machine state w) w.object _
    (subst (λ (v : ValueUpdate). same_value (value_at state.values v.object) (value_written machine state v) ≡ false) (sym (some_same w u e)) a)
    (subst (λ (v : ValueUpdate). NotNet machine v.object) (sym (some_same w u e)) b))
action-listed machine state process line (AppendsUpdate delay w) rest u e a b = cc
action-listed machine state process line TouchesNothing rest u e a b = cc

pub lane-listed : (machine : Machine) (state : State) (process : ℕ) (lane : List ValueUpdate) (u : ValueUpdate) → first_update lane ≡ Some u →
    same_value (value_at state.values u.object) (value_written machine state u) ≡ false → NotNet machine u.object →
    has (changes_of machine.design (lane_accesses machine process lane state)) u.object ≡ true
lane-listed machine state process [] u e a b = cc
lane-listed machine state process (first ∷ rest) u e a b =
    subst (λ (v : ValueUpdate). has (changes_of machine.design (lane_accesses machine process (first ∷ rest) state)) v.object ≡ true) (some_same first u e)
    (listed machine.design (value_at state.values first.object) (value_written machine state first) first.object _
    (subst (λ (v : ValueUpdate). same_value (value_at state.values v.object) (value_written machine state v) ≡ false) (sym (some_same first u e)) a)
    (subst (λ (v : ValueUpdate). NotNet machine v.object) (sym (some_same first u e)) b))

-- an evaluation of a node that has work
quiet-evaluated : (machine : Machine) (begin state : State) (changes : List ℕ) (number : ℕ) (found : Option FlatNode) → slice_get machine.design.nodes number ≡ found →
    StaysQuiet machine begin state changes → has_work (node_at state number) ≡ true → StaysQuiet machine begin (evaluated machine number found state) changes
quiet-evaluated machine begin state changes number None f q h = q
quiet-evaluated machine begin state changes number (Some node) f q h = record {
  values = q.values;
  nodes = λ other reader e r. elim (decided (nat_eq number other)) [
    | inl same ↦ true-false (has_work (node_at state other)) (subst (λ n. has_work (node_at state n) ≡ true) (eqb-true number other same) h) (q.nodes other reader e r)
    | inr apart ↦
        ap has_work (node-other state other number (λ old. record { marked = false; pending = Some (node_outputs machine number node state.values) }) (other_number number other apart))
        ∙ q.nodes other reader e r
  ];
}

-- an update of a node that has work
quiet-nets : (machine : Machine) (begin state : State) (changes : List ℕ) (number : ℕ) (found : Option FlatNode) (pending : Option (List LogicValue)) → KeepsRules machine.design →
    slice_get machine.design.nodes number ≡ found → StaysQuiet machine begin state changes → has_work (node_at state number) ≡ true →
    StaysQuiet machine begin (nets_updated machine number found pending state) changes
quiet-nets machine begin state changes number None pending rules f q h = q
quiet-nets machine begin state changes number (Some node) None rules f q h = q
quiet-nets machine begin state changes number (Some node) (Some values) rules f q h = record {
  values = λ object r. elim (decided (has node.outputs object)) [
    | inl i ↦
        true-false (has_work (node_at state number)) h
        (q.nodes number node f (λ input k. no-more (reached machine.design changes input) (reached machine.design changes object)
        (reached-input machine.design rules.ranked changes object number node f i input k) r))
    | inr i ↦ values-other machine node.outputs values (with_node number (λ old. record old { pending = None }) state) object i ∙ q.values object r
  ];
  nodes = λ other reader e r.
      ap has_work
      (node-values-untouched machine node.outputs values (with_node number (λ old. record old { pending = None }) state) other reader e
      (λ x i. unread other reader e r x i)
      ∙ node-other state other number (λ old. record old { pending = None })
      (λ same. true-false (has_work (node_at state other)) (subst (λ n. has_work (node_at state n) ≡ true) same h) (q.nodes other reader e r)))
      ∙ q.nodes other reader e r;
}
  where
    no-more : (n m : ℕ) → n ≤ m → m ≡ 0 → n ≡ 0
    no-more n m a b = omega (arith, a, b)

    -- the node has work, so a change reaches its outputs
    unread : (other : ℕ) (reader : FlatNode) → slice_get machine.design.nodes other ≡ Some reader →
        ((input : ℕ) → has reader.inputs input ≡ true → reached machine.design changes input ≡ 0) → (x : ℕ) → has node.outputs x ≡ true → has reader.inputs x ≡ false
    unread other reader e r x i = elim (decided (has reader.inputs x)) [
      | inl k ↦
          true-false (has_work (node_at state number)) h
          (q.nodes number node f (λ input j. no-more (reached machine.design changes input) (reached machine.design changes x)
          (reached-input machine.design rules.ranked changes x number node f i input j) (r x k)))
      | inr k ↦ k
    ]

or-true : (b c : Bool) → b ≡ true → (b || c) ≡ true
or-true true c e = refl
or-true false c e = cc

or-true-right : (b c : Bool) → c ≡ true → (b || c) ≡ true
or-true-right true c e = refl
or-true-right false c e = e

-- each event keeps it
pub quiet-after : (machine : Machine) (begin state : State) (changes : List ℕ) (event : Event) → KeepsRules machine.design → AreClear (NotNet machine) state →
    IsTrue (possible state event) → StaysQuiet machine begin state changes → StaysQuiet machine begin (after machine state event) (changes ++ event_changes machine state event)
quiet-after machine begin state changes (Step number) rules clear p q =
    quiet-written_if machine begin (with_process number (after_step state (step_of machine state number)) state) changes (event_changes machine state (Step number))
    (write_of (step_of machine state number).action) rules
    (quiet-process machine begin state changes number (after_step state (step_of machine state number)) q)
    (λ u e other. action-listed machine state number (step_of machine state number).line (step_of machine state number).action
    (await_accesses number (step_of machine state number).line (step_of machine state number).next) u e other
    (write-clear-of (NotNet machine) machine state (Step number) u (bodies_clear machine rules) clear e))
quiet-after machine begin state changes (LaneStep number) rules clear p q =
    quiet-written_if machine begin (with_process number after_lane_step state) changes (event_changes machine state (LaneStep number))
    (first_update (process_at state number).lane) rules
    (quiet-process machine begin state changes number after_lane_step q)
    (λ u e other. lane-listed machine state number (process_at state number).lane u e other
    (write-clear-of (NotNet machine) machine state (LaneStep number) u (bodies_clear machine rules) clear e))
quiet-after machine begin state changes (Evaluation number) rules clear p q =
    quiet-more machine begin _ changes (event_changes machine state (Evaluation number))
    (quiet-evaluated machine begin state changes number (slice_get machine.design.nodes number) refl q (or-true (node_at state number).marked (is_some (node_at state number).pending) p))
quiet-after machine begin state changes (NetUpdate number) rules clear p q =
    quiet-more machine begin _ changes (event_changes machine state (NetUpdate number))
    (quiet-nets machine begin state changes number (slice_get machine.design.nodes number) (node_at state number).pending rules refl q
    (or-true-right (node_at state number).marked (is_some (node_at state number).pending) p))

pub and-first : (b c : Bool) → (b && c) ≡ true → (b ≡ true) × (c ≡ true)
and-first true c e = (refl, e)
and-first false c e = cc

pub append_assoc' : {A : Type 0} (xs ys zs : List A) → (xs ++ ys) ++ zs ≡ xs ++ (ys ++ zs)
append_assoc' [] ys zs = refl
append_assoc' (x ∷ xs) ys zs = ap (λ v. x ∷ v) (append_assoc' xs ys zs)

-- and so does a run
pub quiet-run : (machine : Machine) (begin state : State) (changes : List ℕ) (events : List Event) → KeepsRules machine.design → AreClear (NotNet machine) state →
    IsTrue (all_possible machine state events) → StaysQuiet machine begin state changes → StaysQuiet machine begin (happened machine state events) (changes ++ run_changes machine state events)
quiet-run machine begin state changes [] rules clear p q = quiet-more machine begin state changes [] q
quiet-run machine begin state changes (event ∷ events) rules clear p q =
    let may : (possible state event ≡ true) × (all_possible machine (after machine state event) events ≡ true) =
    and-first (possible state event) (all_possible machine (after machine state event) events) p in
    subst (λ cs. StaysQuiet machine begin (happened machine (after machine state event) events) cs)
    (append_assoc' changes (event_changes machine state event) (run_changes machine (after machine state event) events))
    (quiet-run machine begin (after machine state event) (changes ++ event_changes machine state event) events rules
    (after-clear (NotNet machine) machine state event (bodies_clear machine rules) clear) may.1 (quiet-after machine begin state changes event rules clear may.0 q))

-- an object that the changes of the whole run don't reach never changes in it
unchanged-from : (machine : Machine) (begin state : State) (changes : List ℕ) (events : List Event) (object : ℕ) → KeepsRules machine.design → AreClear (NotNet machine) state →
    IsTrue (all_possible machine state events) → StaysQuiet machine begin state changes → reached machine.design (changes ++ run_changes machine state events) object ≡ 0 →
    changes_at machine state events object ≡ []
unchanged-from machine begin state changes [] object rules clear p q r = refl
unchanged-from machine begin state changes (event ∷ events) object rules clear p q r =
    let may : (possible state event ≡ true) × (all_possible machine (after machine state event) events ≡ true) =
    and-first (possible state event) (all_possible machine (after machine state event) events) p in
    let next : StaysQuiet machine begin (after machine state event) (changes ++ event_changes machine state event) = quiet-after machine begin state changes event rules clear may.0 q in
    let all : reached machine.design ((changes ++ event_changes machine state event) ++ run_changes machine (after machine state event) events) object ≡ 0 =
    ap (λ cs. reached machine.design cs object) (append_assoc' changes (event_changes machine state event) (run_changes machine (after machine state event) events)) ∙ r in
    let one : reached machine.design (changes ++ event_changes machine state event) object ≡ 0 =
    (reached-none machine.design (changes ++ event_changes machine state event) (run_changes machine (after machine state event) events) object all).0 in
    let same : value_at (after machine state event).values object ≡ value_at state.values object =
    next.values object one ∙ sym (q.values object (reached-none machine.design changes (event_changes machine state event) object one).0) in
    ap (λ b. change_if (not b) (value_at state.values object) (value_at (after machine state event).values object) (changes_at machine (after machine state event) events object))
    (ap (same_value (value_at state.values object)) same ∙ same_value-self (value_at state.values object))
    ∙ unchanged-from machine begin (after machine state event) (changes ++ event_changes machine state event) events object rules
    (after-clear (NotNet machine) machine state event (bodies_clear machine rules) clear) may.1 next all

pub unreached_never_change : (machine : Machine) (state : State) (events : List Event) (object : ℕ) → KeepsRules machine.design → BeginsPhase machine state →
    IsTrue (all_possible machine state events) → reached machine.design (run_changes machine state events) object ≡ 0 → changes_at machine state events object ≡ []
unreached_never_change machine state events object rules begins p r =
    unchanged-from machine state state [] events object rules (writers_clear machine state begins.writers) p (quiet-begins machine state begins.idle) r
