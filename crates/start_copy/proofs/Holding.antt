-- Objects come to hold values of the faulty machine.
use Rattle.std.proofs.Common.{◌≡◌, ◌≢◌, ℕ, ◌<◌, Bool, true, false, ◌||◌, List, [], length, set, refl, sym, ap, subst, ◌∙◌, arith, inl, inr}
use Rattle.std.specs.Prelude.{Some}
use Rattle.std.proofs.lemmas.Bool.{cases_eq, false≢true}
use Rattle.std.proofs.lemmas.List.{get_or-set_same, get_or-set_other, length-set}
use Rattle.vf_base.specs.Lists.{has}
use Rattle.four_value.specs.Values.{LogicValue}
use Rattle.v_design.specs.Designs.{FlatDesign, width_in}
use Rattle.v_design.specs.Assignments.{value_at}
use Rattle.v_design.specs.States.{found_or}
use Rattle.copy_laws.specs.Differences.{own_of}
use Rattle.copy_state.specs.Kept.{CopyKept, with_own_value}
use Rattle.copy_state.specs.KeptLaws.{found-set, own-set_other, own-set_differs}
use Rattle.copy_overlay.specs.Faulty.{faulty_values}
use Rattle.copy_overlay.specs.FaultyLaws.{length-faulty, value-faulty, faulty-are}
use Rattle.graph_order.specs.ListLaws.{or-false}
use Rattle.net_graph.specs.Tables.{node_reads_at}
use Rattle.net_settle.specs.Marked.{marked_at, MarksReaders}
use Rattle.net_state.specs.HeldLaws.{values-set}
use Rattle.node_eval.specs.ValuesOf.{AreValuesOf}
use Rattle.start_copy.specs.Reached.{AreOwnValues, ComesToHold}
use Rattle.start_copy.proofs.Words.{neither}

-- what is shown once one object holds a value
shown-set : (good : List LogicValue) (old new : List (ℕ × LogicValue)) (object : ℕ) (own : LogicValue) → object < length good →
    found_or (value_at good object) (own_of new object) ≡ own → ((other : ℕ) → object ≢ other → own_of new other ≡ own_of old other) →
    faulty_values good new ≡ set (faulty_values good old) object own
shown-set good old new object own there here others =
    let long : length (faulty_values good old) ≡ length good = length-faulty good old in
    faulty-are good (set (faulty_values good old) object own) new (length-set (faulty_values good old) object own ∙ long)
    (λ x within. elim (cases_eq x object) [
      | inl same ↦
          subst (λ o. value_at (set (faulty_values good old) object own) o ≡ found_or (value_at good o) (own_of new o)) (sym same)
          (get_or-set_same (faulty_values good old) object own [] (omega arith) ∙ sym here)
      | inr other ↦
          get_or-set_other (faulty_values good old) object x own [] other
          ∙ value-faulty good old x within
          ∙ ap (found_or (value_at good x)) (sym (others x (λ e. other (sym e))))
    ])

-- what is kept over the value that is shown
pub found-shown : (good : List LogicValue) (values : List (ℕ × LogicValue)) (object : ℕ) (old shown : LogicValue) → old ≡ found_or shown (own_of values object) → shown ≡ value_at good object →
    old ≡ found_or (value_at good object) (own_of values object)
found-shown good values object old shown is same = is ∙ ap (λ v. found_or v (own_of values object)) same

-- nothing has changed
pub comes-none : (design : FlatDesign) (good : List LogicValue) (objects : List ℕ) (held : List LogicValue) (kept : CopyKept) (marks : List Bool) → faulty_values good kept.values ≡ held →
    AreValuesOf design (faulty_values good kept.values) → ComesToHold design good objects held kept kept marks marks
comes-none design good objects held kept marks is are = record {
  rest = refl;
  own = λ h. h;
  values = is;
  are = are;
  marks = record { stays = λ node e. e; readers = λ node object e r. refl; only = λ node h. refl };
}

-- one change after another
pub comes-more : (design : FlatDesign) (good : List LogicValue) (objects : List ℕ) (first held : List LogicValue) (old one new : CopyKept) (before between later : List Bool) →
    ComesToHold design good objects first old one before between → ComesToHold design good objects held one new between later → ComesToHold design good objects held old new before later
comes-more design good objects first held old one new before between later a b = record {
  rest = b.rest ∙ ap (λ (k : CopyKept). record k { values = new.values }) a.rest;
  own = λ h. b.own (a.own h);
  values = b.values;
  are = b.are;
  marks = record {
    stays = λ node e. a.marks.stays node (b.marks.stays node e);
    readers = λ node object e r. b.marks.readers node object e r ∙ a.marks.readers node object (b.marks.stays node e) r;
    only = λ node h. b.marks.only node h ∙ a.marks.only node h;
  };
}

-- an object that holds the value already
pub holds-already : (design : FlatDesign) (good : List LogicValue) (objects : List ℕ) (object : ℕ) (own : LogicValue) (kept : CopyKept) (marks : List Bool) → object < length good →
    AreValuesOf design (faulty_values good kept.values) → found_or (value_at good object) (own_of kept.values object) ≡ own →
    ComesToHold design good objects (set (faulty_values good kept.values) object own) kept kept marks marks
holds-already design good objects object own kept marks there are is =
    comes-none design good objects (set (faulty_values good kept.values) object own) kept marks (shown-set good kept.values kept.values object own there is (λ other differ. refl)) are

or-left : (b c : Bool) → (b || c) ≡ false → b ≡ false
or-left b c e = (neither b c e).0

-- an object that comes to hold another one
pub holds-set : (design : FlatDesign) (good : List LogicValue) (objects : List ℕ) (object : ℕ) (own shown : LogicValue) (old new : CopyKept) (before later : List Bool) → object < length good →
    AreValuesOf design (faulty_values good old.values) → length own ≡ width_in design object → has objects object ≡ true →
    new ≡ record old { values = with_own_value object shown own old.values } → shown ≡ value_at good object → MarksReaders design object before later →
    ComesToHold design good objects (set (faulty_values good old.values) object own) old new before later
holds-set design good objects object own shown old new before later there are width among set_to same marks = record {
  rest = rest;
  own = λ h. record { there = stands h; differ = differs h };
  values = holds;
  are = subst (AreValuesOf design) (sym holds) (values-set design (faulty_values good old.values) object own are width);
  marks = record {
    stays = λ node e. or-left (marked_at before node) (node_reads_at design object node) (sym (marks node) ∙ e);
    readers = λ node other e reads. elim (cases_eq other object) [
      | inl same ↦
          (let no : true ≡ false =
          sym reads ∙ ap (λ o. node_reads_at design o node) same ∙ (neither (marked_at before node) (node_reads_at design object node) (sym (marks node) ∙ e)).1 in absurd (false≢true (sym no)))
      | inr apart ↦ ap (λ vs. value_at vs other) holds ∙ get_or-set_other (faulty_values good old.values) object other own [] apart
    ];
    only = λ node none. marks node ∙ ap (λ b. marked_at before node || b) (none object among) ∙ or-false (marked_at before node);
  };
}
  where
    is : new ≡ record old { values = with_own_value object (value_at good object) own old.values }
    is = set_to ∙ ap (λ v. record old { values = with_own_value object v own old.values }) same

    values_are : new.values ≡ with_own_value object (value_at good object) own old.values
    values_are = ap (λ (k : CopyKept). k.values) is

    rest : new ≡ record old { values = new.values }
    rest = is ∙ ap (λ vs. record old { values = vs }) (sym values_are)

    here : found_or (value_at good object) (own_of new.values object) ≡ own
    here = ap (λ vs. found_or (value_at good object) (own_of vs object)) values_are ∙ found-set object (value_at good object) own old.values

    others : (other : ℕ) → object ≢ other → own_of new.values other ≡ own_of old.values other
    others other differ = ap (λ vs. own_of vs other) values_are ∙ own-set_other object other (value_at good object) own old.values differ

    holds : faulty_values good new.values ≡ set (faulty_values good old.values) object own
    holds = shown-set good old.values new.values object own there here others

    stands : AreOwnValues good old.values → (x : ℕ) (kept : LogicValue) → own_of new.values x ≡ Some kept → x < length good
    stands h x kept e = elim (cases_eq x object) [
      | inl same ↦ subst (λ o. o < length good) (sym same) there
      | inr other ↦ h.there x kept (sym (others x (λ s. other (sym s))) ∙ e)
    ]

    differs : AreOwnValues good old.values → (x : ℕ) (kept : LogicValue) → own_of new.values x ≡ Some kept → kept ≢ value_at good x
    differs h x kept e = elim (cases_eq x object) [
      | inl same ↦
          subst (λ o. kept ≢ value_at good o) (sym same)
          (own-set_differs object (value_at good object) own kept old.values (sym (ap (λ vs. own_of vs object) values_are) ∙ ap (own_of new.values) (sym same) ∙ e))
      | inr other ↦ h.differ x kept (sym (others x (λ s. other (sym s))) ∙ e)
    ]
