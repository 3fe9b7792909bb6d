-- The nodes that a fault reaches, from what it holds itself to the last one.
use Rattle.std.proofs.Common.{◌≡◌, ◌≢◌, ℕ, zero, suc, ◌<◌, ◌≤◌, Bool, true, false, not, ◌&&◌, List, [], ◌∷◌, map, length, set, refl, sym, ap, subst, ◌∙◌, arith, inl, inr}
use Rattle.std.specs.Prelude.{Option, Some, None, option_map, nat_eq, slice_get}
use Rattle.std.proofs.lemmas.Bool.{cases_eq, cases_lt, ne_eqb, eq-eqb, false≢true}
use Rattle.std.proofs.lemmas.List.{get_or-set_same, get_or-set_other, get_or_past}
use Rattle.vf_base.specs.Lists.{has}
use Rattle.four_value.specs.Values.{LogicValue}
use Rattle.v_design.specs.Designs.{FlatDesign, FlatNode, VariableBit, Machine, StuckAt, good_machine, faulty_machine, forced_variable}
use Rattle.v_design.specs.Assignments.{value_at, node_outputs}
use Rattle.v_design.specs.Laws.{AreSettledBut, input_differs, marks_after, worked_on, is_driven, BeginsPhase, NetsSettle, SettledValuesAreOne, PhasesBegin}
use Rattle.v_design.specs.Plain.{fault_of}
use Rattle.v_design.specs.States.{start, found_or}
use Rattle.v_design.specs.Views.{machine_of}
use Rattle.v_design.specs.WellFormed.{KeepsRules}
use Rattle.v_design.specs.declared.plan.Fault.{Fault}
use Rattle.v_design.specs.declared.view.View.{View}
use Rattle.copy_laws.specs.Differences.{own_of, Ascend}
use Rattle.copy_laws.specs.Touches.{site_is_object, site_is_node, OtherSitesAreFree}
use Rattle.copy_state.specs.Kept.{CopyKept}
use Rattle.copy_overlay.specs.Faulty.{faulty_values}
use Rattle.copy_overlay.specs.FaultyLaws.{length-faulty, value-faulty, faulty-are}
use Rattle.net_graph.specs.Tables.{reads, node_reads_at}
use Rattle.net_settle.specs.Marked.{marked_at, NoneMarked, TakesLeast}
use Rattle.net_state.specs.OutputLaws.{length-forced_variable}
use Rattle.node_eval.specs.ValuesOf.{AreValuesOf}
use Rattle.order_laws.specs.NodesRest.{NodesRestOnInputs}
use Rattle.start_copy.specs.Reached.{AreOwnValues, MarksReached, ComesToHold, StartsSo}
use Rattle.start_copy.specs.Start.{KeepsStart}
use Rattle.start_copy.proofs.Words.{both-false, outputs-elsewhere, map-agree, none-differs, undriven-node, are-from, are-to, has-widths}
use Rattle.start_copy.proofs.Contents.{undriven-start}

-- where nothing is kept the good machine's values are shown
pub shown-none : (good : List LogicValue) (values : List (ℕ × LogicValue)) → values ≡ [] → faulty_values good values ≡ good
shown-none good values none = faulty-are good good values refl (λ object within. ap (λ (vs : List (ℕ × LogicValue)). found_or (value_at good object) (own_of vs object)) (sym none))

none-own : (good : List LogicValue) (values : List (ℕ × LogicValue)) → values ≡ [] → AreOwnValues good values
none-own good values none = subst (AreOwnValues good) (sym none) (record {
  there = λ object own is. (let no : ⊥ = cc in absurd no);
  differ = λ object own is. (let no : ⊥ = cc in absurd no);
})

-- no node up to one reads what that one drives
pub reads-none : (design : FlatDesign) (number : ℕ) (node : FlatNode) → KeepsRules design → slice_get design.nodes number ≡ Some node → (k : ℕ) → k ≤ number → (object : ℕ) →
    has node.outputs object ≡ true → node_reads_at design object k ≡ false
reads-none design number node rules at k low object drives = by (slice_get design.nodes k) refl
  where
    by : (found : Option FlatNode) → slice_get design.nodes k ≡ found → reads object found ≡ false
    by None is = refl
    by (Some reader) is = rules.ranked k number reader node is at low object drives

-- a node that isn't marked behind the work on one has no input that differs
unmarked-after : (machine : Machine) (marked : ℕ → Bool) (taken later : List Bool) (number : ℕ) (objects : List ℕ) (values after : List LogicValue) (k : ℕ) (node : FlatNode) →
    ((n : ℕ) → marked_at taken n ≡ false → (marked n && not (nat_eq n number)) ≡ false) → MarksReached machine.design objects values after taken later → marked_at later k ≡ false →
    slice_get machine.design.nodes k ≡ Some node → marks_after machine number marked values after k ≡ false
unmarked-after machine marked taken later number objects values after k node left marks none found =
    both-false (marked k && not (nat_eq k number)) (input_differs values after (slice_get machine.design.nodes k)) (left k (marks.stays k none))
    (ap (input_differs values after) found
    ∙ none-differs values after node.inputs (λ input reads_it. marks.readers k input none (ap (reads input) found ∙ reads_it)))

-- the work on a node keeps all others settled but for those that it marks
pub worked-settled : (machine : Machine) (marked : ℕ → Bool) (taken later : List Bool) (number : ℕ) (node : FlatNode) (values after : List LogicValue) → NetsSettle → KeepsRules machine.design →
    AreValuesOf machine.design values → slice_get machine.design.nodes number ≡ Some node → AreSettledBut machine marked values →
    ((n : ℕ) → marked_at taken n ≡ false → (marked n && not (nat_eq n number)) ≡ false) → after ≡ worked_on machine number node values →
    MarksReached machine.design node.outputs values after taken later → AreSettledBut machine (marked_at later) after
worked-settled machine marked taken later number node values after settles rules are at settled left is marks =
    let reached : MarksReached machine.design node.outputs values (worked_on machine number node values) taken later =
    subst (λ vs. MarksReached machine.design node.outputs values vs taken later) is marks in
    subst (AreSettledBut machine (marked_at later)) (sym is)
    (λ k other found none. settles.goes_on machine marked values number node rules (are-to machine values are) at settled k other found
    (unmarked-after machine marked taken later number node.outputs values (worked_on machine number node values) k other left reached none found))

-- one node more
pub starts-on : (design : FlatDesign) (fault : StuckAt) (good : List LogicValue) (old one new : CopyKept) (before taken later : List Bool) (number : ℕ) (node : FlatNode) → NetsSettle →
    KeepsRules design → slice_get design.nodes number ≡ Some node → StartsSo design fault good old one before → TakesLeast number before taken →
    ComesToHold design good node.outputs (worked_on (faulty_machine design fault) number node (faulty_values good one.values)) one new taken later → StartsSo design fault good old new later
starts-on design fault good old one new before taken later number node settles rules at so takes comes = record {
  rest = comes.rest ∙ ap (λ (k : CopyKept). record k { values = new.values }) so.rest;
  own = comes.own so.own;
  are = comes.are;
  undriven = λ object none.
      ap (λ vs. value_at vs object) comes.values
      ∙ outputs-elsewhere node.outputs (node_outputs (faulty_machine design fault) number node (faulty_values good one.values)) (faulty_values good one.values) object
      (undriven-node design.nodes number node object none at)
      ∙ so.undriven object none;
  settled =
      worked-settled (faulty_machine design fault) (marked_at before) taken later number node (faulty_values good one.values) (faulty_values good new.values) settles rules so.are at so.settled
      (λ n e. sym (takes.taken n) ∙ e) comes.values comes.marks;
}

-- The site of the fault

good-undriven : (design : FlatDesign) (fault : StuckAt) (x : ℕ) → OtherSitesAreFree → KeepsRules design → PhasesBegin → site_is_object fault.site x ≡ false → is_driven design x ≡ false →
    value_at (start (good_machine design)).values x ≡ value_at (start (faulty_machine design fault)).values x
good-undriven design fault x free rules begin other none =
    let good = are-from (good_machine design) (start (good_machine design)).values (begin.first (good_machine design) rules).widths in
    let own = are-from (faulty_machine design fault) (start (faulty_machine design fault)).values (begin.first (faulty_machine design fault) rules).widths in
    let good_count : length (start (good_machine design)).values ≡ length design.objects = good.count in
    let own_count : length (start (faulty_machine design fault)).values ≡ length design.objects = own.count in
    elim (cases_lt x (length design.objects)) [
      | inl low ↦ sym (undriven-start design fault x none low ∙ free.objects fault x (value_at (start (good_machine design)).values x) other)
      | inr past ↦
          get_or_past (start (good_machine design)).values x [] (omega arith) ∙ sym (get_or_past (start (faulty_machine design fault)).values x [] (omega arith))
    ]

-- a fault that holds a bit of a node's output, or a terminal
pub starts-node : (design : FlatDesign) (fault : StuckAt) (good : List LogicValue) (old new : CopyKept) (before later : List Bool) (number : ℕ) (node : FlatNode) → NetsSettle → PhasesBegin →
    OtherSitesAreFree → KeepsRules design → slice_get design.nodes number ≡ Some node → ((k : ℕ) → site_is_node fault.site k ≡ nat_eq number k) →
    ((x : ℕ) → site_is_object fault.site x ≡ false) → good ≡ (start (good_machine design)).values → old.values ≡ [] → NoneMarked before →
    ComesToHold design good node.outputs (worked_on (faulty_machine design fault) number node (faulty_values good old.values)) old new before later → StartsSo design fault good old new later
starts-node design fault good old new before later number node settles begin free rules at nodes objects good_is empty none comes =
    let begins = begin.first (good_machine design) rules in
    let shown : faulty_values good old.values ≡ (start (good_machine design)).values = shown-none good old.values empty ∙ good_is in
    record {
      rest = comes.rest;
      own = comes.own (none-own good old.values empty);
      are = comes.are;
      undriven = λ object undriven.
          ap (λ vs. value_at vs object) comes.values
          ∙ outputs-elsewhere node.outputs (node_outputs (faulty_machine design fault) number node (faulty_values good old.values)) (faulty_values good old.values) object
          (undriven-node design.nodes number node object undriven at)
          ∙ ap (λ vs. value_at vs object) shown
          ∙ good-undriven design fault object free rules begin (objects object) undriven;
      settled =
          worked-settled (faulty_machine design fault) (λ k. nat_eq number k) before later number node (faulty_values good old.values) (faulty_values good new.values) settles rules
          (subst (AreValuesOf design) (sym shown) (are-from (good_machine design) (start (good_machine design)).values begins.widths)) at
          (subst (AreSettledBut (faulty_machine design fault) (λ k. nat_eq number k)) (sym shown)
          (λ k other found apart. begins.settled k other found ∙ free.nodes design fault k other (start (good_machine design)).values (nodes k ∙ apart)))
          (λ n e. left number n) comes.values comes.marks;
    }
  where
    left : (number n : ℕ) → (nat_eq number n && not (nat_eq n number)) ≡ false
    left number n = elim (cases_eq number n) [
      | inl same ↦ ap (λ m. nat_eq number n && not (nat_eq m number)) (sym same) ∙ ap (λ b. nat_eq number n && not b) (eq-eqb number number refl) ∙ and-false (nat_eq number n)
      | inr other ↦ ap (λ b. b && not (nat_eq n number)) (ne_eqb number n other)
    ]
      where
        and-false : (b : Bool) → (b && false) ≡ false
        and-false true = refl
        and-false false = refl

-- a fault that holds a bit of a variable
pub starts-variable : (design : FlatDesign) (fault : StuckAt) (good : List LogicValue) (old new : CopyKept) (before later : List Bool) (object bit : ℕ) (own : LogicValue) → NodesRestOnInputs →
    PhasesBegin → OtherSitesAreFree → KeepsRules design → fault.site ≡ VariableBit object bit → object < length design.objects → is_driven design object ≡ false →
    good ≡ (start (good_machine design)).values → old.values ≡ [] → NoneMarked before → own ≡ forced_variable (Some fault) object (value_at good object) →
    ComesToHold design good (object ∷ []) (set (faulty_values good old.values) object own) old new before later → StartsSo design fault good old new later
starts-variable design fault good old new before later object bit own rests begin free rules site there apart good_is empty none is comes = record {
  rest = comes.rest;
  own = comes.own (none-own good old.values empty);
  are = comes.are;
  undriven = λ x undriven. elim (cases_eq x object) [
    | inl same ↦ subst (λ o. value_at (faulty_values good new.values) o ≡ value_at (start (faulty_machine design fault)).values o) (sym same)
        (ap (λ vs. value_at vs object) comes.values
        ∙ get_or-set_same (faulty_values good old.values) object own [] inside
        ∙ is
        ∙ ap (λ vs. forced_variable (Some fault) object (value_at vs object)) good_is
        ∙ sym (undriven-start design fault object apart there))
    | inr other ↦
        ap (λ vs. value_at vs x) comes.values
        ∙ get_or-set_other (faulty_values good old.values) object x own [] other
        ∙ ap (λ vs. value_at vs x) shown
        ∙ good-undriven design fault x free rules begin (ap (λ s. site_is_object s x) site ∙ ne_eqb object x (λ e. other (sym e))) undriven
  ];
  settled = λ k node found unmarked.
      map-agree (faulty_values good new.values) (faulty_values good old.values) node.outputs
      (λ x drives. ap (λ vs. value_at vs x) comes.values
      ∙ get_or-set_other (faulty_values good old.values) object x own []
      (λ same. false≢true (sym (undriven-node design.nodes k node object apart found) ∙ ap (has node.outputs) (sym same) ∙ drives)))
      ∙ subst (λ vs. map (value_at vs) node.outputs ≡ node_outputs (faulty_machine design fault) k node vs) (sym shown)
      (begins.settled k node found ∙ free.nodes design fault k node (start (good_machine design)).values (ap (λ s. site_is_node s k) site))
      ∙ rests (faulty_machine design fault) k node (faulty_values good old.values) (faulty_values good new.values) rules found (has-widths (faulty_machine design fault) (faulty_values good old.values) was)
      (has-widths (faulty_machine design fault) (faulty_values good new.values) comes.are) (λ input reads_it. sym (comes.marks.readers k input unmarked (ap (reads input) found ∙ reads_it)));
}
  where
    begins : BeginsPhase (good_machine design) (start (good_machine design))
    begins = begin.first (good_machine design) rules

    shown : faulty_values good old.values ≡ (start (good_machine design)).values
    shown = shown-none good old.values empty ∙ good_is

    was : AreValuesOf design (faulty_values good old.values)
    was = subst (AreValuesOf design) (sym shown) (are-from (good_machine design) (start (good_machine design)).values begins.widths)

    inside : object < length (faulty_values good old.values)
    inside = omega (arith, there, was.count)

-- Where no node is marked any more

pub starts-end : (design : FlatDesign) (fault : StuckAt) (good : List LogicValue) (old new : CopyKept) (marks : List Bool) → NetsSettle → SettledValuesAreOne → PhasesBegin → KeepsRules design →
    good ≡ (start (good_machine design)).values → StartsSo design fault good old new marks → NoneMarked marks → Ascend new.values → KeepsStart design fault old new
starts-end design fault good old new marks settles one begin rules good_is so none up = record {
  rest = so.rest;
  value_count = sym (ap length same) ∙ length-faulty good new.values ∙ ap length good_is;
  values = λ object. subst (λ g. value_at (start (faulty_machine design fault)).values object ≡ found_or (value_at g object) (own_of new.values object)) good_is
      (elim (cases_lt object (length good)) [
        | inl low ↦ ap (λ vs. value_at vs object) (sym same) ∙ value-faulty good new.values object low
        | inr past ↦
            get_or_past (start (faulty_machine design fault)).values object [] (past-own object past)
            ∙ sym (get_or_past good object [] past)
            ∙ ap (found_or (value_at good object)) (sym (unkept object past (own_of new.values object) refl))
      ]);
  differ = λ object own e. subst (λ g. own ≢ value_at g object) good_is (so.own.differ object own e);
  ascend = up;
}
  where
    begins : BeginsPhase (faulty_machine design fault) (start (faulty_machine design fault))
    begins = begin.first (faulty_machine design fault) rules

    same : faulty_values good new.values ≡ (start (faulty_machine design fault)).values
    same =
        one (faulty_machine design fault) (faulty_values good new.values) (start (faulty_machine design fault)).values rules (are-to (faulty_machine design fault) (faulty_values good new.values) so.are)
        begins.widths so.undriven (settles.ends (faulty_machine design fault) (marked_at marks) (faulty_values good new.values) none so.settled) begins.settled

    past-own : (object : ℕ) → length good ≤ object → length (start (faulty_machine design fault)).values ≤ object
    past-own object past = omega (arith, past, ap length same, length-faulty good new.values)

    unkept : (object : ℕ) → length good ≤ object → (found : Option LogicValue) → own_of new.values object ≡ found → own_of new.values object ≡ None
    unkept object past None e = e
    unkept object past (Some own) e = absurd (omega (arith, past, so.own.there object own e))

-- Values

-- the good machine's values at the start are values of the design
pub good-values : (design : FlatDesign) (good : List LogicValue) → PhasesBegin → KeepsRules design → good ≡ (start (good_machine design)).values → AreValuesOf design good
good-values design good begin rules is =
    subst (AreValuesOf design) (sym is) (are-from (good_machine design) (start (good_machine design)).values (begin.first (good_machine design) rules).widths)

-- and so are they with nothing over them
pub shown-values : (design : FlatDesign) (good : List LogicValue) (values : List (ℕ × LogicValue)) → values ≡ [] → AreValuesOf design good → AreValuesOf design (faulty_values good values)
shown-values design good values empty are = subst (AreValuesOf design) (sym (shown-none good values empty)) are

-- a node that is there
pub node-below : (nodes : List FlatNode) (k : ℕ) → k < length nodes → (node : FlatNode) × (slice_get nodes k ≡ Some node)
node-below [] k low = absurd (omega (arith, low))
node-below (node ∷ nodes) zero low = (node, refl)
node-below (node ∷ nodes) (suc k) low = node-below nodes k (omega (arith, low))

-- what the view makes of the good machine's value
pub forced-shown : (view : View) (fault : Fault) (own shown : LogicValue) (good : List LogicValue) (object : ℕ) → view.fault ≡ Some fault →
    own ≡ forced_variable (machine_of view).fault object shown → shown ≡ value_at good object → own ≡ forced_variable (Some (fault_of fault)) object (value_at good object)
forced-shown view fault own shown good object has is same = is ∙ (λ j. forced_variable (option_map fault_of (has j)) object (same j))

pub forced-wide : (view : View) (own shown : LogicValue) (good : List LogicValue) (object : ℕ) → own ≡ forced_variable (machine_of view).fault object shown → shown ≡ value_at good object →
    length own ≡ length (value_at good object)
forced-wide view own shown good object is same = ap length is ∙ length-forced_variable (machine_of view).fault object shown ∙ ap length same
