-- The writes among an event's accesses are what the event changes of the values (IEEE 1364-2001, clause 5).
use Rattle.std.proofs.Common.{◌≡◌, ℕ, zero, suc, ◌+◌, ◌<◌, Bool, true, false, cond, ◌&&◌, ◌||◌, List, [], ◌∷◌, ◌++◌, map, length, refl, sym, ap, subst, ◌∙◌, ◌⊎◌, inl, inr, arith}
use Rattle.std.specs.Prelude.{Option, Some, None, filter, nat_eq, slice_get, IsTrue}
use Rattle.std.proofs.lemmas.Bool.{cases_Bool, cases_eq, eqb-true, eq-eqb, ne_eqb}
use Rattle.four_value.specs.Values.{LogicValue, same_value}
use Rattle.four_value.specs.ValueLaws.{from_same_value}
use Rattle.vf_base.specs.Lists.{joined, map_numbered, change_at, has, AllHold}
use Rattle.v_design.specs.Trees.{Entry}
use Rattle.v_design.specs.Paths.{net_pieces}
use Rattle.v_design.specs.Designs.{FlatNode, FlatDesign, Machine}
use Rattle.v_design.specs.Assignments.{ValueUpdate, value_at}
use Rattle.v_design.specs.Processes.{Action, ReadsObject, WritesObject, AppendsUpdate, TouchesNothing}
use Rattle.v_design.specs.States.{State, ProcessState, Event, Step, LaneStep, Evaluation, NetUpdate, after, step_of, process_at, node_at, write_of, first_update, value_written, with_value}
use Rattle.v_design.specs.States.{with_values, with_process, with_node, written_if, after_step, after_lane_step, evaluated, nets_updated, lane_stepped, some_entry, entry_matches}
use Rattle.v_design.specs.Accesses.{AccessAct, Reading, Writing, Awaiting, Ending, Holding, Settling, ObjectAccess, waiting_entries, waiting_line, without_first, ended_of, ended_by, update_accesses}
use Rattle.v_design.specs.Accesses.{await_accesses, action_accesses, lane_accesses, net_write, net_ended_by, net_accesses, some_change_matches, accesses_of}
use Rattle.v_design.specs.WellFormed.{KeepsRules, IsNodeOf}
use Rattle.value_change.specs.ChangeLaws.{has-filter}

-- a value, and in its place that of an access where it writes the object
abbrev pub written_or : ℕ → ℕ → AccessAct → LogicValue → LogicValue
written_or object other Reading value = value
written_or object other (Writing old new) value = cond (nat_eq other object) new value
written_or object other (Awaiting entry) value = value
written_or object other (Ending entry) value = value
written_or object other (Holding entry) value = value
written_or object other Settling value = value

-- what an object holds after some accesses
abbrev pub last_written : ℕ → List ObjectAccess → LogicValue → LogicValue
last_written object [] value = value
last_written object (access ∷ rest) value = last_written object rest (written_or object access.object access.act value)

last_written-append : (object : ℕ) (xs ys : List ObjectAccess) (value : LogicValue) → last_written object (xs ++ ys) value ≡ last_written object ys (last_written object xs value)
last_written-append object [] ys value = refl
last_written-append object (x ∷ xs) ys value = last_written-append object xs ys (written_or object x.object x.act value)

-- Accesses that write nothing

awaits-nothing : (object process line : ℕ) (entries : List Entry) (value : LogicValue) →
    last_written object (map (λ (entry : Entry). record { act = Awaiting entry; object = entry.object; process = process; line = line }) entries) value ≡ value
awaits-nothing object process line [] value = refl
awaits-nothing object process line (entry ∷ entries) value = awaits-nothing object process line entries value

ends-nothing : (object process line : ℕ) (entries : List Entry) (value : LogicValue) →
    last_written object (map (λ (entry : Entry). record { act = Ending entry; object = entry.object; process = process; line = line }) entries) value ≡ value
ends-nothing object process line [] value = refl
ends-nothing object process line (entry ∷ entries) value = ends-nothing object process line entries value

ended_of-nothing : (object : ℕ) (b : Bool) (test : Entry → Bool) (process line : ℕ) (entries : List Entry) (value : LogicValue) →
    last_written object (ended_of b test process line entries) value ≡ value
ended_of-nothing object false test process line entries value = refl
ended_of-nothing object true test process line entries value = ends-nothing object process line (without_first test entries) value

ended-nothing : (object : ℕ) (f : ℕ → ProcessState → List ObjectAccess) → ((process : ℕ) (state : ProcessState) (value : LogicValue) → last_written object (f process state) value ≡ value) →
    (number : ℕ) (processes : List ProcessState) (value : LogicValue) → last_written object (joined (map_numbered f number processes)) value ≡ value
ended-nothing object f each number [] value = refl
ended-nothing object f each number (state ∷ processes) value =
    last_written-append object (f number state) (joined (map_numbered f (number + 1) processes)) value
    ∙ ap (λ v. last_written object (joined (map_numbered f (number + 1) processes)) v) (each number state value) ∙ ended-nothing object f each (number + 1) processes value

-- A write of a variable

-- a value put into one object
pub value_at-put : (values : List LogicValue) (object : ℕ) (new : LogicValue) (x : ℕ) → x < length values →
    value_at (change_at values object (λ old. new)) x ≡ cond (nat_eq object x) new (value_at values x)
value_at-put [] object new x low = absurd (omega arith)
value_at-put (v ∷ values) zero new zero low = sym (ap (λ b. cond b new v) (eq-eqb 0 0 refl))
value_at-put (v ∷ values) zero new (suc x) low = sym (ap (λ b. cond b new (value_at values x)) (ne_eqb 0 (suc x) (λ e. omega (arith, e))))
value_at-put (v ∷ values) (suc object) new zero low = sym (ap (λ b. cond b new v) (ne_eqb (suc object) 0 (λ e. omega (arith, e))))
value_at-put (v ∷ values) (suc object) new (suc x) low =
    value_at-put values object new x (omega arith) ∙ ap (λ b. cond b new (value_at values x)) (same (cases_eq object x))
  where
    same : (object ≡ x) ⊎ (object ≡ x → ⊥) → nat_eq object x ≡ nat_eq (suc object) (suc x)
    same (inl e) = eq-eqb object x e ∙ sym (eq-eqb (suc object) (suc x) (ap suc e))
    same (inr ne) = ne_eqb object x ne ∙ sym (ne_eqb (suc object) (suc x) (λ e. ne (omega (arith, e))))

put-length : (values : List LogicValue) (object : ℕ) (new : LogicValue) → length (change_at values object (λ old. new)) ≡ length values
put-length [] object new = refl
put-length (v ∷ values) zero new = refl
put-length (v ∷ values) (suc object) new = ap suc (put-length values object new)

update-writes : (machine : Machine) (process line : ℕ) (update : ValueUpdate) (state state' : State) (x : ℕ) → state'.values ≡ state.values → x < length state.values →
    value_at (with_value machine update.object (value_written machine state update) state').values x ≡ last_written x (update_accesses machine process line update state) (value_at state.values x)
update-writes machine process line update state state' x same low =
    ap (λ vs. value_at (change_at vs update.object (λ old. value_written machine state update)) x) same
    ∙ value_at-put state.values update.object (value_written machine state update) x low
    ∙ sym (ended-nothing x (ended_by update.object (value_at state.values update.object) (value_written machine state update))
    (λ p s v. ended_of-nothing x (some_entry (entry_matches update.object (value_at state.values update.object) (value_written machine state update)) (waiting_entries s.activity))
    (entry_matches update.object (value_at state.values update.object) (value_written machine state update)) p (waiting_line s.activity) (waiting_entries s.activity) v)
    0 state.processes (cond (nat_eq update.object x) (value_written machine state update) (value_at state.values x)))

action-writes : (machine : Machine) (process line : ℕ) (action : Action) (change : ProcessState → ProcessState) (state : State) (x : ℕ) → x < length state.values →
    value_at (written_if machine (write_of action) (with_process process change state)).values x ≡ last_written x (action_accesses machine process line action state) (value_at state.values x)
action-writes machine process line (ReadsObject object) change state x low = refl
action-writes machine process line (WritesObject update) change state x low = update-writes machine process line update state (with_process process change state) x refl low
action-writes machine process line (AppendsUpdate delay update) change state x low = refl
action-writes machine process line TouchesNothing change state x low = refl

lane-writes : (machine : Machine) (process : ℕ) (lane : List ValueUpdate) (state : State) (x : ℕ) → x < length state.values →
    value_at (lane_stepped machine process lane state).values x ≡ last_written x (lane_accesses machine process lane state) (value_at state.values x)
lane-writes machine process [] state x low = refl
lane-writes machine process (first ∷ rest) state x low = update-writes machine process first.line first state (with_process process after_lane_step state) x refl low

-- An update of nets

-- a write of a piece, if it changed
abbrev write_if : Bool → ObjectAccess → List ObjectAccess
write_if true access = []
write_if false access = access ∷ []

net_write-is : (process line : ℕ) (state next : State) (object : ℕ) → net_write process line state next object
    ≡ write_if (same_value (value_at state.values object) (value_at next.values object)) (record {
      act = Writing (value_at state.values object) (value_at next.values object);
      object = object;
      process = process;
      line = line;
    })
net_write-is process line state next object = go (same_value (value_at state.values object) (value_at next.values object))
  where
    access : ObjectAccess
    access = record { act = Writing (value_at state.values object) (value_at next.values object); object = object; process = process; line = line }

    go : (b : Bool) → elim b as (λ _. List ObjectAccess) [ true ↦ [] | false ↦ access ∷ [] ] ≡ write_if b access
    go true = refl
    go false = refl

-- the write of a piece leaves what the piece holds afterwards
stays-next : (process line : ℕ) (state next : State) (x object : ℕ) (value : LogicValue) → value ≡ value_at next.values x →
    last_written x (net_write process line state next object) value ≡ value_at next.values x
stays-next process line state next x object value e =
    ap (λ l. last_written x l value) (net_write-is process line state next object) ∙ go (same_value (value_at state.values object) (value_at next.values object)) (cases_eq object x)
  where
    access : ObjectAccess
    access = record { act = Writing (value_at state.values object) (value_at next.values object); object = object; process = process; line = line }

    go : (b : Bool) → (object ≡ x) ⊎ (object ≡ x → ⊥) → last_written x (write_if b access) value ≡ value_at next.values x
    go true c = e
    go false (inl same) = ap (λ t. cond t (value_at next.values object) value) (eq-eqb object x same) ∙ ap (λ o. value_at next.values o) same
    go false (inr other) = ap (λ t. cond t (value_at next.values object) value) (ne_eqb object x other) ∙ e

all-stay : (process line : ℕ) (state next : State) (x : ℕ) (objects : List ℕ) (value : LogicValue) → value ≡ value_at next.values x →
    last_written x (joined (map (net_write process line state next) objects)) value ≡ value_at next.values x
all-stay process line state next x [] value e = e
all-stay process line state next x (object ∷ objects) value e =
    last_written-append x (net_write process line state next object) (joined (map (net_write process line state next) objects)) value
    ∙ all-stay process line state next x objects (last_written x (net_write process line state next object) value) (stays-next process line state next x object value e)

-- the write of the piece itself
own-write : (process line : ℕ) (state next : State) (x : ℕ) → last_written x (net_write process line state next x) (value_at state.values x) ≡ value_at next.values x
own-write process line state next x =
    ap (λ l. last_written x l (value_at state.values x)) (net_write-is process line state next x) ∙ go (same_value (value_at state.values x) (value_at next.values x)) refl
  where
    access : ObjectAccess
    access = record { act = Writing (value_at state.values x) (value_at next.values x); object = x; process = process; line = line }

    go : (b : Bool) → same_value (value_at state.values x) (value_at next.values x) ≡ b → last_written x (write_if b access) (value_at state.values x) ≡ value_at next.values x
    go true e = from_same_value (value_at state.values x) (value_at next.values x) e
    go false e = ap (λ t. cond t (value_at next.values x) (value_at state.values x)) (eq-eqb x x refl)

-- the write of another piece
other-write : (process line : ℕ) (state next : State) (x object : ℕ) (value : LogicValue) → nat_eq object x ≡ false → last_written x (net_write process line state next object) value ≡ value
other-write process line state next x object value ne =
    ap (λ l. last_written x l value) (net_write-is process line state next object) ∙ go (same_value (value_at state.values object) (value_at next.values object))
  where
    access : ObjectAccess
    access = record { act = Writing (value_at state.values object) (value_at next.values object); object = object; process = process; line = line }

    go : (b : Bool) → last_written x (write_if b access) value ≡ value
    go true = refl
    go false = ap (λ t. cond t (value_at next.values object) value) ne

none-written : (process line : ℕ) (state next : State) (x : ℕ) (objects : List ℕ) (value : LogicValue) → has objects x ≡ false →
    last_written x (joined (map (net_write process line state next) objects)) value ≡ value
none-written process line state next x [] value h = refl
none-written process line state next x (object ∷ objects) value h =
    let parts = or-none (nat_eq object x) (has objects x) h in
    last_written-append x (net_write process line state next object) (joined (map (net_write process line state next) objects)) value
    ∙ ap (λ v. last_written x (joined (map (net_write process line state next) objects)) v) (other-write process line state next x object value parts.0)
    ∙ none-written process line state next x objects value parts.1
  where
    or-none : (b c : Bool) → (b || c) ≡ false → (b ≡ false) × (c ≡ false)
    or-none true c e = cc
    or-none false c e = (refl, e)

pieces-written : (process line : ℕ) (state next : State) (x : ℕ) (objects : List ℕ) → has objects x ≡ true →
    last_written x (joined (map (net_write process line state next) objects)) (value_at state.values x) ≡ value_at next.values x
pieces-written process line state next x [] h = cc
pieces-written process line state next x (object ∷ objects) h =
    last_written-append x (net_write process line state next object) (joined (map (net_write process line state next) objects)) (value_at state.values x)
    ∙ go (cases_eq object x) (pieces-written process line state next x objects)
  where
    go : (object ≡ x) ⊎ (object ≡ x → ⊥) → (has objects x ≡ true → last_written x (joined (map (net_write process line state next) objects)) (value_at state.values x) ≡ value_at next.values x) →
        last_written x (joined (map (net_write process line state next) objects)) (last_written x (net_write process line state next object) (value_at state.values x)) ≡ value_at next.values x
    go (inl same) rest =
        all-stay process line state next x objects (last_written x (net_write process line state next object) (value_at state.values x))
        (ap (λ o. last_written x (net_write process line state next o) (value_at state.values x)) same ∙ own-write process line state next x)
    go (inr other) rest =
        ap (λ v. last_written x (joined (map (net_write process line state next) objects)) v) (other-write process line state next x object (value_at state.values x) (ne_eqb object x other))
        ∙ rest (subst (λ b. (b || has objects x) ≡ true) (ne_eqb object x other) h)

-- values put into other objects
unchanged : (machine : Machine) (objects : List ℕ) (values : List LogicValue) (state : State) (x : ℕ) → has objects x ≡ false → x < length state.values →
    value_at (with_values machine objects values state).values x ≡ value_at state.values x
unchanged machine [] values state x h low = refl
unchanged machine (object ∷ objects) [] state x h low = refl
unchanged machine (object ∷ objects) (value ∷ values) state x h low =
    let parts = or-none (nat_eq object x) (has objects x) h in
    unchanged machine objects values (with_value machine object value state) x parts.1 (subst (λ n. x < n) (sym (put-length state.values object value)) low)
    ∙ value_at-put state.values object value x low ∙ ap (λ b. cond b value (value_at state.values x)) parts.0
  where
    or-none : (b c : Bool) → (b || c) ≡ false → (b ≡ false) × (c ≡ false)
    or-none true c e = cc
    or-none false c e = (refl, e)

-- an update of a node whose outputs are net pieces
net-writes : (design : FlatDesign) (process line : ℕ) (node : FlatNode) (state next : State) (x : ℕ) → ((object : ℕ) → has node.outputs object ≡ true → has (net_pieces design) object ≡ true) →
    (has node.outputs x ≡ false → value_at next.values x ≡ value_at state.values x) → value_at next.values x ≡ last_written x (net_accesses design process line (Some node) state next)
    (value_at state.values x)
net-writes design process line node state next x nets same =
    sym (last_written-append x (joined (map (net_write process line state next) pieces)) (joined (map_numbered (net_ended_by state next node.outputs) 0 state.processes)) (value_at state.values x)
    ∙ ended-nothing x (net_ended_by state next node.outputs)
    (λ p s v. ended_of-nothing x (some_entry (some_change_matches state next node.outputs) (waiting_entries s.activity)) (some_change_matches state next node.outputs) p (waiting_line s.activity)
    (waiting_entries s.activity) v)
    0 state.processes (last_written x (joined (map (net_write process line state next) pieces)) (value_at state.values x))
    ∙ written (cases_Bool (has node.outputs x)))
  where
    pieces : List ℕ
    pieces = filter (has node.outputs) (net_pieces design)

    member : has pieces x ≡ (has (net_pieces design) x && has node.outputs x)
    member = has-filter (has node.outputs) (net_pieces design) x

    and-false : (b : Bool) → (b && false) ≡ false
    and-false true = refl
    and-false false = refl

    written : (has node.outputs x ≡ true) ⊎ (has node.outputs x ≡ false) → last_written x (joined (map (net_write process line state next) pieces)) (value_at state.values x) ≡ value_at next.values x
    written (inl h) = pieces-written process line state next x pieces (member ∙ (λ i. nets x h i && h i))
    written (inr h) =
        none-written process line state next x pieces (value_at state.values x) (member ∙ ap (λ b. has (net_pieces design) x && b) h ∙ and-false (has (net_pieces design) x)) ∙ sym (same h)

-- the outputs of a node are net pieces
outputs-nets : (design : FlatDesign) (nodes : List FlatNode) → AllHold (IsNodeOf design) nodes → (number : ℕ) (node : FlatNode) → slice_get nodes number ≡ Some node → (object : ℕ) →
    has node.outputs object ≡ true →
    has (net_pieces design) object ≡ true
outputs-nets design [] all number node at object h = cc
outputs-nets design (first ∷ nodes) all zero node at object h = listed node.outputs (subst (λ (n : FlatNode). AllHold (λ o. IsTrue (has (net_pieces design) o)) n.outputs)
    (some_is first node at) all.0.outputs_nets) h
  where
    some_is : (a b : FlatNode) → Some a ≡ Some b → a ≡ b
    some_is a b e = cc

    or-cases : (a b : Bool) → (a || b) ≡ true → (a ≡ true) ⊎ (b ≡ true)
    or-cases true b e = inl refl
    or-cases false b e = inr e

    listed : (outputs : List ℕ) → AllHold (λ o. IsTrue (has (net_pieces design) o)) outputs → has outputs object ≡ true → has (net_pieces design) object ≡ true
    listed [] each e = cc
    listed (o ∷ outputs) each e = go (or-cases (nat_eq o object) (has outputs object) e) (listed outputs each.1)
      where
        go : (nat_eq o object ≡ true) ⊎ (has outputs object ≡ true) → (has outputs object ≡ true → has (net_pieces design) object ≡ true) → has (net_pieces design) object ≡ true
        go (inl same) rest = ap (has (net_pieces design)) (sym (eqb-true o object same)) ∙ each.0
        go (inr later) rest = rest later
outputs-nets design (first ∷ nodes) all (suc number) node at object h = outputs-nets design nodes all.1 number node at object h

-- The law

written-count : (machine : Machine) (update : Option ValueUpdate) (state : State) → length (written_if machine update state).values ≡ length state.values
written-count machine None state = refl
written-count machine (Some update) state = put-length state.values update.object (value_written machine state update)

nets-count : (machine : Machine) (objects : List ℕ) (values : List LogicValue) (state : State) → length (with_values machine objects values state).values ≡ length state.values
nets-count machine [] values state = refl
nets-count machine (object ∷ objects) [] state = refl
nets-count machine (object ∷ objects) (value ∷ values) state = nets-count machine objects values (with_value machine object value state) ∙ put-length state.values object value

node-evaluated : (machine : Machine) (number : ℕ) (node : Option FlatNode) (state : State) → (evaluated machine number node state).values ≡ state.values
node-evaluated machine number None state = refl
node-evaluated machine number (Some node) state = refl

-- an event leaves as many values as there were
pub after-count : (machine : Machine) (state : State) (event : Event) → length (after machine state event).values ≡ length state.values
after-count machine state (Step number) = written-count machine (write_of (step_of machine state number).action) (with_process number (after_step state (step_of machine state number)) state)
after-count machine state (LaneStep number) = written-count machine (first_update (process_at state number).lane) (with_process number after_lane_step state)
after-count machine state (Evaluation number) = ap (λ (vs : List LogicValue). length vs) (node-evaluated machine number (slice_get machine.design.nodes number) state)
after-count machine state (NetUpdate number) = go (slice_get machine.design.nodes number) (node_at state number).pending
  where
    go : (node : Option FlatNode) (pending : Option (List LogicValue)) → length (nets_updated machine number node pending state).values ≡ length state.values
    go None pending = refl
    go (Some node) None = refl
    go (Some node) (Some values) = nets-count machine node.outputs values (with_node number (λ old. record old { pending = None }) state)

-- what an object holds after an event is what the event's accesses write, and else what it held
pub writes-are : (machine : Machine) → KeepsRules machine.design → (process line : ℕ) (state : State) (event : Event) (object : ℕ) → object < length state.values →
    value_at (after machine state event).values object ≡ last_written object (accesses_of machine process line state event) (value_at state.values object)
writes-are machine rules process line state (Step number) object low =
    action-writes machine number (step_of machine state number).line (step_of machine state number).action (after_step state (step_of machine state number)) state object low
    ∙ sym (last_written-append object (action_accesses machine number (step_of machine state number).line (step_of machine state number).action state)
    (await_accesses number (step_of machine state number).line (step_of machine state number).next) (value_at state.values object)
    ∙ awaits-nothing object number (step_of machine state number).line (waiting_entries (step_of machine state number).next)
    (last_written object (action_accesses machine number (step_of machine state number).line (step_of machine state number).action state) (value_at state.values object)))
writes-are machine rules process line state (LaneStep number) object low = lane-writes machine number (process_at state number).lane state object low
writes-are machine rules process line state (Evaluation number) object low = ap (λ vs. value_at vs object) (node-evaluated machine number (slice_get machine.design.nodes number) state)
writes-are machine rules process line state (NetUpdate number) object low = go (slice_get machine.design.nodes number) refl (node_at state number).pending
  where
    go : (node : Option FlatNode) → slice_get machine.design.nodes number ≡ node → (pending : Option (List LogicValue)) →
        value_at (nets_updated machine number node pending state).values object
        ≡ last_written object (net_accesses machine.design process line node state (nets_updated machine number node pending state)) (value_at state.values object)
    go None at pending = refl
    go (Some node) at None = net-writes machine.design process line node state state object (outputs-nets machine.design machine.design.nodes rules.nodes number node at) (λ h. refl)
    go (Some node) at (Some values) =
        net-writes machine.design process line node state (with_values machine node.outputs values (with_node number (λ old. record old { pending = None }) state)) object
        (outputs-nets machine.design machine.design.nodes rules.nodes number node at)
        (λ h. unchanged machine node.outputs values (with_node number (λ old. record old { pending = None }) state) object h low)
