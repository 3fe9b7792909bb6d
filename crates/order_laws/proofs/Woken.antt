-- What an event makes of the processes that don't take it: it wakes those that wait on an entry which its changes match.
use Rattle.std.proofs.Common.{◌≡◌, ℕ, zero, suc, List, [], ◌∷◌, map, length, Bool, true, false, not, ◌&&◌, ◌||◌, refl, sym, ap, subst, ◌∙◌, ◌⊎◌, inl, inr, arith}
use Rattle.std.specs.Prelude.{◌≢◌, Option, Some, None, slice_get, nat_eq}
use Rattle.std.proofs.lemmas.Bool.{eqb-true, eq-eqb}
use Rattle.vf_base.specs.Lists.{has, change_at}
use Rattle.four_value.specs.Values.{LogicValue, with_part, part_of, edge_matches, bit_at}
use Rattle.four_value.specs.Bits.{is_posedge, is_negedge}
use Rattle.v_design.specs.Trees.{Entry}
use Rattle.v_design.specs.Designs.{FlatNode, Machine}
use Rattle.v_design.specs.Assignments.{ValueUpdate, value_at, object_width}
use Rattle.v_design.specs.Processes.{Activity, Ready, Waiting, Asleep, Postponed, Done}
use Rattle.v_design.specs.States.{State, ProcessState, Event, Step, LaneStep, Evaluation, NetUpdate, after, possible, found_or, idle_process, process_at, node_at, is_ready, is_any, entry_matches}
use Rattle.v_design.specs.States.{some_entry, ready_if, woken, woken_process, with_value, with_values, with_process, with_node, written_if, value_written, write_of, step_of, after_step}
use Rattle.v_design.specs.States.{after_lane_step, first_update, evaluated, nets_updated, next_activity}
use Rattle.v_design.specs.Accesses.{waiting_entries, is_waiting}
use Rattle.v_design.specs.WellFormed.{KeepsRules}
use Rattle.v_design.specs.PhaseLogs.{may_cause, ends_wait, is_step_of}
use Rattle.four_value.specs.declared.logic.Bit.{Bit}
use Rattle.four_value.specs.declared.logic.Bit.TheVariants.{Zero, One, X, Z}
use Rattle.four_value.specs.declared.logic.Edge.{Edge}
use Rattle.four_value.specs.declared.logic.Edge.TheVariants.{Any, Pos, Neg}
use Rattle.order_laws.proofs.Rules.{node_rules}
use Rattle.order_laws.proofs.Conflicts.{In}
use Rattle.order_laws.proofs.Unaffected.{own_of, awaits_by, part-with_process}
use Rattle.order_laws.proofs.Exchange.{entries-next_activity}
use Rattle.order_laws.proofs.MayCause.{activity_at, woken_if, activity-after}
use Rattle.order_laws.proofs.PathLaws.{decided, true-false, or-either, or-second}
use Rattle.order_laws.proofs.NetStates.{same_value-self, other_number, value-other, values-other}
use Rattle.order_laws.proofs.SettledNets.{Fit, Follows, Everywhere, Distinct, distinct, put-width, first_or, rest_list, length-with_part, length-forced}
use Rattle.order_laws.proofs.RunStates.{bare}

-- Entries that a change matches

edge-same : (edge : Edge) (v : LogicValue) → edge_matches edge v v ≡ false
edge-same Any v = ap not (same_value-self v)
edge-same Pos v = rises (bit_at v 0)
  where
    rises : (b : Bit) → is_posedge b b ≡ false
    rises Zero = refl
    rises One = refl
    rises X = refl
    rises Z = refl
edge-same Neg v = falls (bit_at v 0)
  where
    falls : (b : Bit) → is_negedge b b ≡ false
    falls Zero = refl
    falls One = refl
    falls X = refl
    falls Z = refl

-- whether the change of its object between two states matches an entry
abbrev pub changed_entry : State → State → Entry → Bool
changed_entry before next entry =
    edge_matches entry.edge (part_of (value_at before.values entry.object) entry.low entry.width) (part_of (value_at next.values entry.object) entry.low entry.width)

pub unchanged_entry : (before next : State) (entry : Entry) → value_at next.values entry.object ≡ value_at before.values entry.object → changed_entry before next entry ≡ false
unchanged_entry before next entry e =
    ap (λ v. edge_matches entry.edge (part_of (value_at before.values entry.object) entry.low entry.width) (part_of v entry.low entry.width)) e
    ∙ edge-same entry.edge (part_of (value_at before.values entry.object) entry.low entry.width)

-- a waiting process is woken where one of its entries passes a test
abbrev pub woken_by : (Entry → Bool) → Activity → Activity
woken_by test (Ready tasks operands) = Ready tasks operands
woken_by test (Waiting place entries tasks) = ready_if (some_entry test entries) (Waiting place entries tasks) tasks
woken_by test (Asleep time tasks) = Asleep time tasks
woken_by test (Postponed tasks) = Postponed tasks
woken_by test Done = Done

woken-is : (object : ℕ) (old new : LogicValue) (act : Activity) → woken object old new act ≡ woken_by (entry_matches object old new) act
woken-is object old new (Ready tasks operands) = refl
woken-is object old new (Waiting place entries tasks) = refl
woken-is object old new (Asleep time tasks) = refl
woken-is object old new (Postponed tasks) = refl
woken-is object old new Done = refl

woken_by-same : (one other : Entry → Bool) (act : Activity) → ((entry : Entry) → one entry ≡ other entry) → woken_by one act ≡ woken_by other act
woken_by-same one other act h = λ i. woken_by (λ entry. h entry i) act

pub woken_by-none : (test : Entry → Bool) (act : Activity) → some_entry test (waiting_entries act) ≡ false → woken_by test act ≡ act
woken_by-none test (Ready tasks operands) e = refl
woken_by-none test (Waiting place entries tasks) e = ap (λ b. ready_if b (Waiting place entries tasks) tasks) e
woken_by-none test (Asleep time tasks) e = refl
woken_by-none test (Postponed tasks) e = refl
woken_by-none test Done e = refl

pub none-passes : (test : Entry → Bool) (entries : List Entry) → ((entry : Entry) → test entry ≡ false) → some_entry test entries ≡ false
none-passes test [] h = refl
none-passes test (entry ∷ entries) h = λ i. h entry i || none-passes test entries h i

some-or : (t u w : Entry → Bool) (entries : List Entry) → ((entry : Entry) → t entry ≡ (u entry || w entry)) → some_entry t entries ≡ (some_entry u entries || some_entry w entries)
some-or t u w [] h = refl
some-or t u w (entry ∷ entries) h = (λ i. h entry i || some-or t u w entries h i) ∙ turned (u entry) (w entry) (some_entry u entries) (some_entry w entries)
  where
    turned : (a b c d : Bool) → ((a || b) || (c || d)) ≡ ((a || c) || (b || d))
    turned true b c d = refl
    turned false true true d = refl
    turned false true false d = refl
    turned false false c d = refl

woken_by-twice : (t u w : Entry → Bool) (act : Activity) → ((entry : Entry) → t entry ≡ (u entry || w entry)) → woken_by w (woken_by u act) ≡ woken_by t act
woken_by-twice t u w (Ready tasks operands) h = refl
woken_by-twice t u w (Waiting place entries tasks) h = go (some_entry u entries) ∙ ap (λ b. ready_if b (Waiting place entries tasks) tasks) (sym (some-or t u w entries h))
  where
    go : (b : Bool) → woken_by w (ready_if b (Waiting place entries tasks) tasks) ≡ ready_if (b || some_entry w entries) (Waiting place entries tasks) tasks
    go true = refl
    go false = refl
woken_by-twice t u w (Asleep time tasks) h = refl
woken_by-twice t u w (Postponed tasks) h = refl
woken_by-twice t u w Done h = refl

-- a process that still waits afterwards is as before
pub woken_by-waits : (test : Entry → Bool) (act : Activity) (entry : Entry) → In entry (waiting_entries (woken_by test act)) → woken_by test act ≡ act
woken_by-waits test (Ready tasks operands) entry i = refl
woken_by-waits test (Waiting place entries tasks) entry i = go (some_entry test entries) i
  where
    go : (b : Bool) → In entry (waiting_entries (ready_if b (Waiting place entries tasks) tasks)) → ready_if b (Waiting place entries tasks) tasks ≡ Waiting place entries tasks
    go true j = absurd j
    go false j = refl
woken_by-waits test (Asleep time tasks) entry i = refl
woken_by-waits test (Postponed tasks) entry i = refl
woken_by-waits test Done entry i = refl

-- a process that is woken is ready
pub woken_by-ready : (test : Entry → Bool) (act : Activity) → some_entry test (waiting_entries act) ≡ true → (is_waiting act ≡ true) × (is_ready (woken_by test act) ≡ true)
woken_by-ready test (Ready tasks operands) e = cc
woken_by-ready test (Waiting place entries tasks) e = (refl, ap (λ b. is_ready (ready_if b (Waiting place entries tasks) tasks)) e)
woken_by-ready test (Asleep time tasks) e = cc
woken_by-ready test (Postponed tasks) e = cc
woken_by-ready test Done e = cc

-- and a ready one was woken
pub ready-woken_by : (test : Entry → Bool) (act : Activity) → is_waiting act ≡ true → is_ready (woken_by test act) ≡ true → some_entry test (waiting_entries act) ≡ true
ready-woken_by test (Ready tasks operands) w r = cc
ready-woken_by test (Waiting place entries tasks) w r = go (some_entry test entries) r
  where
    go : (b : Bool) → is_ready (ready_if b (Waiting place entries tasks) tasks) ≡ true → b ≡ true
    go true e = refl
    go false e = cc
ready-woken_by test (Asleep time tasks) w r = cc
ready-woken_by test (Postponed tasks) w r = cc
ready-woken_by test Done w r = cc

pub woken_by-of-ready : (test : Entry → Bool) (act : Activity) → is_ready act ≡ true → woken_by test act ≡ act
woken_by-of-ready test (Ready tasks operands) r = refl
woken_by-of-ready test (Waiting place entries tasks) r = cc
woken_by-of-ready test (Asleep time tasks) r = cc
woken_by-of-ready test (Postponed tasks) r = cc
woken_by-of-ready test Done r = cc

-- Writes

pub put-new : (values : List LogicValue) (object : ℕ) (new : LogicValue) → length new ≡ length (value_at values object) → value_at (change_at values object (λ old. new)) object ≡ new
put-new [] object [] e = refl
put-new [] object (b ∷ new) e = absurd (omega (arith, e))
put-new (v ∷ values) zero new e = refl
put-new (v ∷ values) (suc object) new e = put-new values object new e

-- one write changes the entries of its object alone
pub entry-written : (machine : Machine) (object : ℕ) (new : LogicValue) (state : State) → length new ≡ length (value_at state.values object) → (entry : Entry) →
    entry_matches object (value_at state.values object) new entry ≡ changed_entry state (with_value machine object new state) entry
entry-written machine object new state w entry = elim (decided (nat_eq entry.object object)) [
  | inl same ↦
      ap (λ b. b && edge_matches entry.edge (part_of (value_at state.values object) entry.low entry.width) (part_of new entry.low entry.width)) same
      ∙ (λ i. edge_matches entry.edge (part_of (value_at state.values (sym (eqb-true entry.object object same) i)) entry.low entry.width)
      (part_of ((sym (put-new state.values object new w) ∙ ap (value_at (with_value machine object new state).values) (sym (eqb-true entry.object object same))) i) entry.low entry.width))
  | inr other ↦
      ap (λ b. b && edge_matches entry.edge (part_of (value_at state.values object) entry.low entry.width) (part_of new entry.low entry.width)) other
      ∙ sym (unchanged_entry state (with_value machine object new state) entry (value-other machine object new state entry.object (λ e. other_number entry.object object other (sym e))))
]

pub length-written : (machine : Machine) (state : State) (u : ValueUpdate) → length (value_written machine state u) ≡ length (value_at state.values u.object)
length-written machine state u = length-forced machine.fault u.object (with_part (value_at state.values u.object) u.low u.value) ∙ length-with_part (value_at state.values u.object) u.value u.low

wakes-written : (machine : Machine) (state : State) (q : ℕ) (own : ProcessState → ProcessState) (write : Option ValueUpdate) (act : Activity) →
    woken_if machine state write act ≡ woken_by (changed_entry state (written_if machine write (with_process q own state))) act
wakes-written machine state q own None act =
    sym (woken_by-none (changed_entry state (with_process q own state)) act
    (none-passes (changed_entry state (with_process q own state)) (waiting_entries act) (λ entry. unchanged_entry state (with_process q own state) entry refl)))
wakes-written machine state q own (Some u) act =
    woken-is u.object (value_at state.values u.object) (value_written machine state u) act
    ∙ woken_by-same (entry_matches u.object (value_at state.values u.object) (value_written machine state u)) _ act
    (entry-written machine u.object (value_written machine state u) (with_process q own state) (length-written machine state u))

-- Processes by number

mapped-process : (xs : List ProcessState) (p : ℕ) (f : ProcessState → ProcessState) → f idle_process ≡ idle_process →
    found_or idle_process (slice_get (map f xs) p) ≡ f (found_or idle_process (slice_get xs p))
mapped-process [] p f e = sym e
mapped-process (x ∷ xs) zero f e = refl
mapped-process (x ∷ xs) (suc p) f e = mapped-process xs p f e

pub process-with_value : (machine : Machine) (object : ℕ) (new : LogicValue) (state : State) (p : ℕ) →
    process_at (with_value machine object new state) p ≡ woken_process object (value_at state.values object) new (process_at state p)
process-with_value machine object new state p = mapped-process state.processes p (woken_process object (value_at state.values object) new) refl

-- several writes wake by the values before and after all of them
values-woken : (machine : Machine) (objects : List ℕ) (values : List LogicValue) (state : State) (p : ℕ) → Distinct objects → Fit machine state.values →
    map (λ (v : LogicValue). length v) values ≡ map (object_width machine) objects →
    activity_at (with_values machine objects values state) p ≡ woken_by (changed_entry state (with_values machine objects values state)) (activity_at state p)
values-woken machine [] values state p d f w =
    sym (woken_by-none (changed_entry state state) (activity_at state p) (none-passes (changed_entry state state) (waiting_entries (activity_at state p))
    (λ entry. unchanged_entry state state entry refl)))
values-woken machine (object ∷ objects) [] state p d f w =
    sym (woken_by-none (changed_entry state state) (activity_at state p) (none-passes (changed_entry state state) (waiting_entries (activity_at state p))
    (λ entry. unchanged_entry state state entry refl)))
values-woken machine (object ∷ objects) (value ∷ values) state p d f w =
    values-woken machine objects values middle p d.1 (λ x. put-width state.values object value long x ∙ f x) (ap rest_list w)
    ∙ ap (woken_by (changed_entry middle end)) (ap (λ (x : ProcessState). x.activity) (process-with_value machine object value state p)
    ∙ woken-is object (value_at state.values object) value (activity_at state p))
    ∙ woken_by-twice (changed_entry state end) (entry_matches object (value_at state.values object) value) (changed_entry middle end) (activity_at state p) both
  where
    long : length value ≡ length (value_at state.values object)
    long = ap (first_or 0) w ∙ sym (f object)

    middle : State
    middle = with_value machine object value state

    end : State
    end = with_values machine objects values (with_value machine object value state)

    or-none : (b c : Bool) → c ≡ false → b ≡ (b || c)
    or-none true c e = refl
    or-none false c e = sym e

    both : (entry : Entry) → changed_entry state (with_values machine objects values (with_value machine object value state)) entry
        ≡ (entry_matches object (value_at state.values object) value entry || changed_entry (with_value machine object value state)
        (with_values machine objects values (with_value machine object value state)) entry)
    both entry = elim (decided (nat_eq object entry.object)) [
      | inl same ↦
          (let last : value_at (with_values machine objects values (with_value machine object value state)).values entry.object ≡ value_at (with_value machine object value state).values entry.object =
          values-other machine objects values (with_value machine object value state) entry.object (subst (λ x. has objects x ≡ false) (eqb-true object entry.object same) d.0) in
          ap (λ v. edge_matches entry.edge (part_of (value_at state.values entry.object) entry.low entry.width) (part_of v entry.low entry.width)) last
          ∙ sym (entry-written machine object value state long entry)
          ∙ or-none (entry_matches object (value_at state.values object) value entry) _ (unchanged_entry (with_value machine object value state)
          (with_values machine objects values (with_value machine object value state)) entry last))
      | inr other ↦
          (let here : value_at (with_value machine object value state).values entry.object ≡ value_at state.values entry.object =
          value-other machine object value state entry.object (other_number object entry.object other) in
          ap (λ v. edge_matches entry.edge (part_of v entry.low entry.width) (part_of (value_at (with_values machine objects values (with_value machine object value state)).values entry.object)
          entry.low entry.width)) (sym here)
          ∙ ap (λ b. b || changed_entry (with_value machine object value state) (with_values machine objects values (with_value machine object value state)) entry)
          (sym (entry-written machine object value state long entry ∙ unchanged_entry state (with_value machine object value state) entry here)))
    ]

-- An event wakes by the values before and after it

still : (state next : State) (p : ℕ) → ((x : ℕ) → value_at next.values x ≡ value_at state.values x) → activity_at next p ≡ activity_at state p →
    activity_at next p ≡ woken_by (changed_entry state next) (activity_at state p)
still state next p values same =
    same ∙ sym (woken_by-none (changed_entry state next) (activity_at state p) (none-passes (changed_entry state next) (waiting_entries (activity_at state p))
    (λ entry. unchanged_entry state next entry (values entry.object))))

evaluated-woken : (machine : Machine) (number : ℕ) (found : Option FlatNode) (state : State) (p : ℕ) →
    activity_at (evaluated machine number found state) p ≡ woken_by (changed_entry state (evaluated machine number found state)) (activity_at state p)
evaluated-woken machine number None state p = still state state p (λ x. refl) refl
evaluated-woken machine number (Some node) state p = still state (evaluated machine number (Some node) state) p (λ x. refl) refl

nets-woken : (machine : Machine) (number : ℕ) (found : Option FlatNode) (pending : Option (List LogicValue)) (state : State) (p : ℕ) → KeepsRules machine.design →
    slice_get machine.design.nodes number ≡ found →
    (node_at state number).pending ≡ pending → Follows machine Everywhere state →
    activity_at (nets_updated machine number found pending state) p ≡ woken_by (changed_entry state (nets_updated machine number found pending state)) (activity_at state p)
nets-woken machine number None pending state p rules e g f = still state state p (λ x. refl) refl
nets-woken machine number (Some node) None state p rules e g f = still state state p (λ x. refl) refl
nets-woken machine number (Some node) (Some values) state p rules e g f =
    values-woken machine node.outputs values (with_node number (λ old. record old { pending = None }) state) p (distinct [] node.outputs (node_rules rules number node e).outputs_once).0 f.fit
    (f.pending_widths number node values e g)

pub woken_after : (machine : Machine) (state : State) (event : Event) (p : ℕ) → KeepsRules machine.design → Follows machine Everywhere state → Step p ≢ event →
    activity_at (after machine state event) p ≡ woken_by (changed_entry state (after machine state event)) (activity_at state p)
woken_after machine state (Step q) p rules f d =
    activity-after machine state (Step q) p refl d ∙ wakes-written machine state q (own_of machine state (Step q)) (write_of (step_of machine state q).action) (activity_at state p)
woken_after machine state (LaneStep q) p rules f d =
    activity-after machine state (LaneStep q) p refl d ∙ wakes-written machine state q after_lane_step (first_update (process_at state q).lane) (activity_at state p)
woken_after machine state (Evaluation n) p rules f d = evaluated-woken machine n (slice_get machine.design.nodes n) state p
woken_after machine state (NetUpdate n) p rules f d = nets-woken machine n (slice_get machine.design.nodes n) (node_at state n).pending state p rules refl refl f

-- Lists of later updates and lanes

part-values : {B : Type 0} (part : ProcessState → B) → ((object : ℕ) (old new : LogicValue) (x : ProcessState) → part (woken_process object old new x) ≡ part x) →
    (machine : Machine) (objects : List ℕ) (values : List LogicValue) (state : State) (p : ℕ) → part (process_at (with_values machine objects values state) p) ≡ part (process_at state p)
part-values part h machine [] values state p = refl
part-values part h machine (object ∷ objects) [] state p = refl
part-values part h machine (object ∷ objects) (value ∷ values) state p =
    part-values part h machine objects values (with_value machine object value state) p ∙ ap part (process-with_value machine object value state p)
    ∙ h object (value_at state.values object) value (process_at state p)

part-written : {B : Type 0} (part : ProcessState → B) → ((object : ℕ) (old new : LogicValue) (x : ProcessState) → part (woken_process object old new x) ≡ part x) →
    (machine : Machine) (write : Option ValueUpdate) (state : State) (p : ℕ) → part (process_at (written_if machine write state) p) ≡ part (process_at state p)
part-written part h machine None state p = refl
part-written part h machine (Some u) state p = ap part (process-with_value machine u.object (value_written machine state u) state p)
    ∙ h u.object (value_at state.values u.object) (value_written machine state u) (process_at state p)

part-nets : {B : Type 0} (part : ProcessState → B) → ((object : ℕ) (old new : LogicValue) (x : ProcessState) → part (woken_process object old new x) ≡ part x) →
    (machine : Machine) (number : ℕ) (found : Option FlatNode) (pending : Option (List LogicValue)) (state : State) (p : ℕ) →
    part (process_at (nets_updated machine number found pending state) p) ≡ part (process_at state p)
part-nets part h machine number None pending state p = refl
part-nets part h machine number (Some node) None state p = refl
part-nets part h machine number (Some node) (Some values) state p = part-values part h machine node.outputs values (with_node number (λ old. record old { pending = None }) state) p

part-evaluated : {B : Type 0} (part : ProcessState → B) (machine : Machine) (number : ℕ) (found : Option FlatNode) (state : State) (p : ℕ) →
    part (process_at (evaluated machine number found state) p) ≡ part (process_at state p)
part-evaluated part machine number None state p = refl
part-evaluated part machine number (Some node) state p = refl

pub later_after : (machine : Machine) (state : State) (event : Event) (p : ℕ) → Step p ≢ event → (process_at (after machine state event) p).later ≡ (process_at state p).later
later_after machine state (Step q) p d =
    part-written (λ (x : ProcessState). x.later) (λ o a b x. refl) machine (write_of (step_of machine state q).action) (with_process q (own_of machine state (Step q)) state) p
    ∙ part-with_process (λ (x : ProcessState). x.later) state p q (own_of machine state (Step q)) (inl (λ e. d (ap Step e)))
later_after machine state (LaneStep q) p d =
    part-written (λ (x : ProcessState). x.later) (λ o a b x. refl) machine (first_update (process_at state q).lane) (with_process q after_lane_step state) p
    ∙ part-with_process (λ (x : ProcessState). x.later) state p q after_lane_step (inr (λ x. refl))
later_after machine state (Evaluation n) p d = part-evaluated (λ (x : ProcessState). x.later) machine n (slice_get machine.design.nodes n) state p
later_after machine state (NetUpdate n) p d = part-nets (λ (x : ProcessState). x.later) (λ o a b x. refl) machine n (slice_get machine.design.nodes n) (node_at state n).pending state p

pub lane_after_other : (machine : Machine) (state : State) (event : Event) (p : ℕ) → LaneStep p ≢ event → (process_at (after machine state event) p).lane ≡ (process_at state p).lane
lane_after_other machine state (Step q) p d =
    part-written (λ (x : ProcessState). x.lane) (λ o a b x. refl) machine (write_of (step_of machine state q).action) (with_process q (own_of machine state (Step q)) state) p
    ∙ part-with_process (λ (x : ProcessState). x.lane) state p q (own_of machine state (Step q)) (inr (λ x. refl))
lane_after_other machine state (LaneStep q) p d =
    part-written (λ (x : ProcessState). x.lane) (λ o a b x. refl) machine (first_update (process_at state q).lane) (with_process q after_lane_step state) p
    ∙ part-with_process (λ (x : ProcessState). x.lane) state p q after_lane_step (inl (λ e. d (ap LaneStep e)))
lane_after_other machine state (Evaluation n) p d = part-evaluated (λ (x : ProcessState). x.lane) machine n (slice_get machine.design.nodes n) state p
lane_after_other machine state (NetUpdate n) p d = part-nets (λ (x : ProcessState). x.lane) (λ o a b x. refl) machine n (slice_get machine.design.nodes n) (node_at state n).pending state p

-- A process's own step

-- a process after a write
abbrev pub woken_if_process : Machine → State → Option ValueUpdate → ProcessState → ProcessState
woken_if_process machine state None x = x
woken_if_process machine state (Some u) x = woken_process u.object (value_at state.values u.object) (value_written machine state u) x

pub process-written : (machine : Machine) (write : Option ValueUpdate) (state : State) (p : ℕ) →
    process_at (written_if machine write state) p ≡ woken_if_process machine state write (process_at state p)
process-written machine None state p = refl
process-written machine (Some u) state p = process-with_value machine u.object (value_written machine state u) state p

ready-there : (xs : List ProcessState) (p : ℕ) (h : ProcessState → ProcessState) → is_ready (found_or idle_process (slice_get xs p)).activity ≡ true →
    found_or idle_process (slice_get (change_at xs p h) p) ≡ h (found_or idle_process (slice_get xs p))
ready-there [] p h r = cc
ready-there (x ∷ xs) zero h r = refl
ready-there (x ∷ xs) (suc p) h r = ready-there xs p h r

lane-there : (xs : List ProcessState) (p : ℕ) (h : ProcessState → ProcessState) → is_any (found_or idle_process (slice_get xs p)).lane ≡ true →
    found_or idle_process (slice_get (change_at xs p h) p) ≡ h (found_or idle_process (slice_get xs p))
lane-there [] p h r = cc
lane-there (x ∷ xs) zero h r = refl
lane-there (x ∷ xs) (suc p) h r = lane-there xs p h r

pub own_step : (machine : Machine) (state : State) (p : ℕ) → possible state (Step p) ≡ true →
    process_at (after machine state (Step p)) p ≡ woken_if_process machine state (write_of (step_of machine state p).action) (after_step state (step_of machine state p) (process_at state p))
own_step machine state p r =
    process-written machine (write_of (step_of machine state p).action) (with_process p (after_step state (step_of machine state p)) state) p
    ∙ go (write_of (step_of machine state p).action) (ready-there state.processes p (after_step state (step_of machine state p)) r)
  where
    go : (write : Option ValueUpdate) → process_at (with_process p (after_step state (step_of machine state p)) state) p ≡ after_step state (step_of machine state p) (process_at state p) →
        woken_if_process machine (with_process p (after_step state (step_of machine state p)) state) write (process_at (with_process p (after_step state (step_of machine state p)) state) p)
        ≡ woken_if_process machine state write (after_step state (step_of machine state p) (process_at state p))
    go None e = e
    go (Some u) e = ap (woken_process u.object (value_at state.values u.object) (value_written machine state u)) e

pub own_lane : (machine : Machine) (state : State) (p : ℕ) → possible state (LaneStep p) ≡ true →
    process_at (after machine state (LaneStep p)) p ≡ woken_if_process machine state (first_update (process_at state p).lane) (after_lane_step (process_at state p))
own_lane machine state p r =
    process-written machine (first_update (process_at state p).lane) (with_process p after_lane_step state) p
    ∙ go (first_update (process_at state p).lane) (lane-there state.processes p after_lane_step r)
  where
    go : (write : Option ValueUpdate) → process_at (with_process p after_lane_step state) p ≡ after_lane_step (process_at state p) →
        woken_if_process machine (with_process p after_lane_step state) write (process_at (with_process p after_lane_step state) p) ≡ woken_if_process machine state write
        (after_lane_step (process_at state p))
    go None e = e
    go (Some u) e = ap (woken_process u.object (value_at state.values u.object) (value_written machine state u)) e

-- a process that waits after its own step waits on entries of that step
pub own_waits : (machine : Machine) (state : State) (p : ℕ) (entry : Entry) → possible state (Step p) ≡ true → In entry (waiting_entries (activity_at (after machine state (Step p)) p)) →
    In entry (awaits_by machine state (Step p))
own_waits machine state p entry r i =
    subst (λ es. In entry es) (entries-next_activity state.values (step_of machine state p).action (step_of machine state p).next)
    (go (write_of (step_of machine state p).action) (subst (λ (x : ProcessState). In entry (waiting_entries x.activity)) (own_step machine state p r) i))
  where
    go : (write : Option ValueUpdate) → In entry (waiting_entries (woken_if_process machine state write (after_step state (step_of machine state p) (process_at state p))).activity) →
        In entry (waiting_entries (next_activity state.values (step_of machine state p).action (step_of machine state p).next))
    go None j = j
    go (Some u) j =
        let act : Activity = next_activity state.values (step_of machine state p).action (step_of machine state p).next in
        let k : In entry (waiting_entries (woken_by (entry_matches u.object (value_at state.values u.object) (value_written machine state u)) act)) =
        subst (λ a. In entry (waiting_entries a)) (woken-is u.object (value_at state.values u.object) (value_written machine state u) act) j in
        subst (λ a. In entry (waiting_entries a)) (woken_by-waits (entry_matches u.object (value_at state.values u.object) (value_written machine state u)) act entry k) k

-- Touching a process

-- an event touches a process's activity if it is its step or ends its wait: that is, if it may cause its next step
abbrev pub touches_process : Machine → ℕ → State → Event → Bool
touches_process machine p state event = may_cause machine (Step p) (bare state event)

pub step_or_not : (p : ℕ) (event : Event) → (event ≡ Step p) ⊎ (Step p ≢ event)
step_or_not p (Step q) = elim (decided (nat_eq p q)) [ inl e ↦ inl (ap Step (sym (eqb-true p q e))) | inr e ↦ inr (λ same. true-false (nat_eq p q) (eq-eqb p q (ap number_of same)) e) ]
  where
    number_of : Event → ℕ
    number_of (Step n) = n
    number_of (LaneStep n) = n
    number_of (Evaluation n) = n
    number_of (NetUpdate n) = n
step_or_not p (LaneStep q) = inr (λ e. cc)
step_or_not p (Evaluation n) = inr (λ e. cc)
step_or_not p (NetUpdate n) = inr (λ e. cc)

is_step_of-self : (p : ℕ) → is_step_of p (Step p) ≡ true
is_step_of-self p = eq-eqb p p refl

pub step_touches : (machine : Machine) (p : ℕ) (state : State) → touches_process machine p state (Step p) ≡ true
step_touches machine p state = ap (λ b. b || ends_wait machine p (bare state (Step p))) (eq-eqb p p refl)

-- what touches a process is its step, or wakes it
pub touches-how : (machine : Machine) (p : ℕ) (state : State) (event : Event) → KeepsRules machine.design → Follows machine Everywhere state → touches_process machine p state event ≡ true →
    (event ≡ Step p) ⊎ ((Step p ≢ event) × (some_entry (changed_entry state (after machine state event)) (waiting_entries (activity_at state p)) ≡ true))
touches-how machine p state event rules f t = elim (step_or_not p event) [
  | inl e ↦ inl e
  | inr d ↦ inr (d, wakes d (or-either (is_step_of p event) (ends_wait machine p (bare state event)) t))
]
  where
    and-both : (b c : Bool) → (b && c) ≡ true → (b ≡ true) × (c ≡ true)
    and-both true c e = (refl, e)
    and-both false c e = cc

    not_step : (event : Event) → Step p ≢ event → is_step_of p event ≡ true → ⊥
    not_step (Step q) d h = d (ap Step (eqb-true p q h))
    not_step (LaneStep q) d h = cc
    not_step (Evaluation n) d h = cc
    not_step (NetUpdate n) d h = cc

    wakes : Step p ≢ event → (is_step_of p event ≡ true) ⊎ (ends_wait machine p (bare state event) ≡ true) →
        some_entry (changed_entry state (after machine state event)) (waiting_entries (activity_at state p)) ≡ true
    wakes d (inl h) = absurd (not_step event d h)
    wakes d (inr h) =
        let both : (is_waiting (activity_at state p) ≡ true) × (is_ready (activity_at (after machine state event) p) ≡ true) =
        and-both (is_waiting (activity_at state p)) (is_ready (activity_at (after machine state event) p)) h in
        ready-woken_by (changed_entry state (after machine state event)) (activity_at state p) both.0 (ap is_ready (sym (woken_after machine state event p rules f d)) ∙ both.1)

-- and what wakes it touches it
pub wakes-touches : (machine : Machine) (p : ℕ) (state : State) (event : Event) → KeepsRules machine.design → Follows machine Everywhere state → Step p ≢ event →
    some_entry (changed_entry state (after machine state event)) (waiting_entries (activity_at state p)) ≡ true → touches_process machine p state event ≡ true
wakes-touches machine p state event rules f d s =
    let both = woken_by-ready (changed_entry state (after machine state event)) (activity_at state p) s in
    or-second (is_step_of p event) (ends_wait machine p (bare state event)) (λ i. both.0 i && (ap is_ready (woken_after machine state event p rules f d) ∙ both.1) i)

-- what doesn't touch it leaves it
pub untouched_process : (machine : Machine) (p : ℕ) (state : State) (event : Event) → KeepsRules machine.design → Follows machine Everywhere state → touches_process machine p state event ≡ false →
    (Step p ≢ event) × (activity_at (after machine state event) p ≡ activity_at state p) × ((process_at (after machine state event) p).later ≡ (process_at state p).later)
untouched_process machine p state event rules f t =
    let d : Step p ≢ event = λ e. true-false (touches_process machine p state event) (subst (λ ev. touches_process machine p state ev ≡ true) e (step_touches machine p state)) t in (
      d,
      woken_after machine state event p rules f d ∙ woken_by-none (changed_entry state (after machine state event)) (activity_at state p)
          (quiet d (some_entry (changed_entry state (after machine state event)) (waiting_entries (activity_at state p))) refl),
      later_after machine state event p d,
    )
  where
    quiet : Step p ≢ event → (b : Bool) → some_entry (changed_entry state (after machine state event)) (waiting_entries (activity_at state p)) ≡ b →
        some_entry (changed_entry state (after machine state event)) (waiting_entries (activity_at state p)) ≡ false
    quiet d true e = true-false (touches_process machine p state event) (wakes-touches machine p state event rules f d e) t
    quiet d false e = e
