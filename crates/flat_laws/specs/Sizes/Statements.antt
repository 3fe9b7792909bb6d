-- Statements of which nothing is wrong are sized over the objects that hold their names (IEEE 1364-2001, clause 9.2 for assignments, clause 9.5 for cases, clause 9.7 for delays).
use Rattle.std.proofs.Common.{◌≡◌, ℕ, max, ◌<◌, ◌≤◌, Bool, true, false, ◌&&◌, [], ◌∷◌, ◌++◌, Option, Some, None, nat_le, refl, sym, ap, ap₂, ◌∙◌, subst, arith}
use Rattle.std.specs.Prelude.{◌||◌, option_map}
use Rattle.std.proofs.lemmas.Bool.{leb-true, ltb-false}
use Rattle.vf_base.specs.Base.{SourcePlace}
use Rattle.four_value.specs.Values.{number_of}
use Rattle.vf_base.specs.Lists.{AllHold}
use Rattle.v_design.specs.Expressions.{width_of, sign_of}
use Rattle.v_design.specs.Assignments.{targets_width}
use Rattle.v_design.specs.Sized.{most_bits, own_width, IsSized, IsSizedTarget, IsSizedAssignment, greatest_own, greatest_label, AreLabels, IsDelay, IsDelayIf, IsSizedStatement, AreSizedStatements}
use Rattle.v_design.specs.Sized.{AreSizedItems}
use Rattle.v_tree.specs.Trees.{SourceExpression, SourceExpressions, no_parts, more_parts, place_of_expression, SourceTarget, OneSelect, JoinedSelects, SourceStatement, NullStatement, BlockStatement}
use Rattle.v_tree.specs.Trees.{IfStatement, IfElseStatement, CaseStatement, ForStatement, WhileStatement, RepeatStatement, ForeverStatement, WaitStatement, EventStatement, DelayStatement}
use Rattle.v_tree.specs.Trees.{BlockingStatement, NonblockingStatement, IgnoredTask, FinishTask, SourceStatements, no_source_statements, more_source_statements, SourceCaseItems, no_source_items}
use Rattle.v_tree.specs.Trees.{labelled, otherwise}
use Rattle.v_names.specs.Faults.{NoConstant, BadWidth, fault_at}
use Rattle.v_names.specs.Scopes.{SignedValue}
use Rattle.v_names.specs.SizedTrees.{over_objects}
use Rattle.v_names.specs.Readings.{Size, size_or_bit, larger_size, tree_at, tree_in, reading_of, constant_of, number_or}
use Rattle.v_names.specs.Constants.{DelayValue, most_delay, exceeds, is_unfit_if_some, all_parameters, some_waiting, value_faults, constant_name_faults, constant_faults, name_faults, part_faults}
use Rattle.v_names.specs.Constants.{optional_faults}
use Rattle.v_names.specs.Names.{entry_faults, target_faults, statement_name_faults, statements_name_faults, case_name_faults}
use Rattle.v_names.specs.SizedLaws.{IsSizedTo, HasSize, and-left, and-right}
use Rattle.v_width.specs.Targets.{ByProcess, TargetReading, selects_reading, within_most, target_reading, target_width_in}
use Rattle.v_elab.specs.ItemFaults.{size_faults, assigned_faults, memory_faults, wait_faults, waits_faults, GroupFaults, labels_faults, items_labels_faults, case_faults, statement_faults}
use Rattle.v_elab.specs.ItemFaults.{statements_faults, items_faults}
use Rattle.v_elab.specs.Statements.{Meaning, assigned_expression, targets_over, unsigned_number, delay_number, delay_or_zero, labels_size, items_size, label_expressions, statement_over}
use Rattle.v_elab.specs.Statements.{statements_over, items_over, default_over}
use Rattle.flat_laws.specs.Sizes.Complete.{append-none, group-none, expression-full, fault_if-none, or-none, and-none, all-parameters}
use Rattle.flat_laws.specs.Sizes.Sized.{IsMeant, complete-size, complete-alone, alone-sound, selects-fit, some-bits, one-few}

-- Targets

-- a target in braces has a select at least
abbrev pub HasSelects : SourceTarget → Type 0
HasSelects (OneSelect select) = Unit {0}
HasSelects (JoinedSelects place []) = ⊥
HasSelects (JoinedSelects place (select ∷ selects)) = Unit {0}

-- a target fits, with the width that it is read with
record WholeTarget (meaning : Meaning) (target : SourceTarget) : Type 0 where
  width : targets_width (targets_over meaning target) ≡ target_width_in ByProcess meaning.scope target
  few : target_width_in ByProcess meaning.scope target ≤ most_bits
  some : 1 ≤ targets_width (targets_over meaning target)
  sized : AllHold IsSizedTarget (targets_over meaning target)

pub within-few : (place : SourcePlace) (reading : TargetReading) (total : ℕ) → reading.width ≡ Some total → (within_most place reading).here ≡ [] →
    (total ≤ most_bits) × ((within_most place reading).width ≡ Some total) × (reading.here ≡ []) × ((within_most place reading).inside ≡ reading.inside)
within-few place reading total is h = by_test (nat_le total most_bits) refl
  where
    moved : within_most place reading ≡ within_most place (record reading { width = Some total })
    moved = ap (λ w. within_most place (record reading { width = w })) is

    by_test : (test : Bool) → nat_le total most_bits ≡ test → (total ≤ most_bits) × ((within_most place reading).width ≡ Some total) × (reading.here ≡ [])
        × ((within_most place reading).inside ≡ reading.inside)
    by_test true e =
        let fits : within_most place (record reading { width = Some total }) ≡ record reading { width = Some total } = rw e refl in
        let all = moved ∙ fits in
        (leb-true total most_bits e, ap (λ (r : TargetReading). r.width) all, sym (ap (λ (r : TargetReading). r.here) all) ∙ h, ap (λ (r : TargetReading). r.inside) all)
    by_test false e =
        let wide : (within_most place (record reading { width = Some total })).here ≡ fault_at place BadWidth ∷ reading.here = rw e refl in
        let none : fault_at place BadWidth ∷ reading.here ≡ [] = sym wide ∙ sym (ap (λ (r : TargetReading). r.here) moved) ∙ h in
        absurd (cc)

whole-target : (meaning : Meaning) → IsMeant meaning → (target : SourceTarget) → HasSelects target → target_faults meaning.scope target ≡ [] →
    (target_reading ByProcess meaning.scope target).here ≡ [] →
    (target_reading ByProcess meaning.scope target).inside ≡ [] → WholeTarget meaning target
whole-target meaning meant (OneSelect select) there names h i =
    let fit = selects-fit meaning meant (select ∷ []) names h i in
    let width : target_width_in ByProcess meaning.scope (OneSelect select) ≡ fit.total = ap (number_or 0) fit.width_is in
    let is = fit.targets_is in
    let few = one-few meaning meant select names h i in
    record { width = fit.targets_is ∙ sym width; few = omega (arith, width, is, few); some = some-bits meaning meant select [] names h i; sized = fit.sized }
whole-target meaning meant (JoinedSelects place []) there names h i = absurd there
whole-target meaning meant (JoinedSelects place (select ∷ selects)) there names h i =
    let reading = selects_reading ByProcess meaning.scope (select ∷ selects) in
    let readable = within-width place reading h in
    let inside : reading.inside ≡ [] = sym readable.1 ∙ i in
    let fit = selects-fit meaning meant (select ∷ selects) names readable.0 inside in
    let few = within-few place reading fit.total fit.width_is h in
    let width : target_width_in ByProcess meaning.scope (JoinedSelects place (select ∷ selects)) ≡ fit.total = ap (number_or 0) few.1 in
    let low = few.0 in
    record { width = fit.targets_is ∙ sym width; few = omega (arith, width, low); some = some-bits meaning meant select selects names readable.0 inside; sized = fit.sized }
  where
    -- nothing is wrong inside braces where nothing is wrong with them
    within-width : (place : SourcePlace) (reading : TargetReading) → (within_most place reading).here ≡ [] → (reading.here ≡ []) × ((within_most place reading).inside ≡ reading.inside)
    within-width place reading e = by_width reading.width refl
      where
        by_width : (width : Option ℕ) → reading.width ≡ width → (reading.here ≡ []) × ((within_most place reading).inside ≡ reading.inside)
        by_width None is =
            let all : within_most place reading ≡ record reading { width = None } = ap (λ w. within_most place (record reading { width = w })) is in
            (sym (ap (λ (r : TargetReading). r.here) all) ∙ e, ap (λ (r : TargetReading). r.inside) all)
        by_width (Some total) is = let few = within-few place reading total is e in (few.2, few.3)

-- Assignments

-- a value in a context of a width
pub value-in : (meaning : Meaning) → IsMeant meaning → (e : SourceExpression) (width : ℕ) → (reading_of meaning.scope e).complete ≡ true → width ≤ most_bits →
    (size : Size) × IsSizedTo (over_objects meaning.holders (tree_in width (reading_of meaning.scope e))) size.width (max width size.width) size.signed
value-in meaning meant e width complete few =
    let reading = reading_of meaning.scope e in
    let h = complete-size meaning meant e complete in
    let most = h.most in
    let P : Option Size → Type 0 = λ z. IsSizedTo (over_objects meaning.holders (reading.tree (max width (size_or_bit z).width) (size_or_bit z).signed)) h.size.width
    (max width h.size.width) h.size.signed in
    (h.size, subst P (sym h.size_is) (h.gives (max width h.size.width) h.size.signed (omega arith) (omega (arith, few, most)) (λ s. s)))

-- an assignment of which nothing is wrong
pub assignment-sound : (meaning : Meaning) → IsMeant meaning → (target : SourceTarget) (value : SourceExpression) → HasSelects target → target_faults meaning.scope target ≡ [] →
    name_faults meaning.scope value ≡ [] →
    assigned_faults ByProcess meaning.scope target value ≡ [] → IsSizedAssignment (targets_over meaning target) (assigned_expression meaning target value)
assignment-sound meaning meant target value there names value_names faults =
    let t = target_reading ByProcess meaning.scope target in
    let reading = reading_of meaning.scope value in
    let none = group-none (t.here ++ reading.here) (t.inside ++ reading.inside) faults in
    let here = append-none t.here reading.here none.0 in
    let inside = append-none t.inside reading.inside none.1 in
    let complete = expression-full meaning.scope meant.settled value value_names here.1 inside.1 in
    let whole = whole-target meaning meant target there names here.0 inside.0 in
    let x = value-in meaning meant value (target_width_in ByProcess meaning.scope target) complete whole.few in
    let s = x.1 in
    (whole.sized, whole.some, s.width_is ∙ sym (ap₂ max whole.width s.own_is), s.sized)

-- Delays

number-fits : (number : Option ℕ) → exceeds most_delay number ≡ false → number_or 0 number < 4294967296
number-fits None e = absurd (cc)
number-fits (Some n) e = let low : n ≤ 4294967295 = ltb-false most_delay n e in omega (arith, low)

constant-fits : (c : Option SignedValue) → is_unfit_if_some DelayValue c ≡ false → number_or 0 (unsigned_number c) < 4294967296
constant-fits None e = omega arith
constant-fits (Some c) e = number-fits (number_of c.value) e

-- a delay of which nothing is wrong is one
pub delay-sound : (meaning : Meaning) → IsMeant meaning → (e : SourceExpression) → constant_faults meaning.scope DelayValue e ≡ [] → IsDelay (delay_number meaning e)
delay-sound meaning meant e faults =
    let scope = meaning.scope in
    let split = append-none (constant_name_faults scope e) (value_faults scope DelayValue e) faults in
    let parameters = all-parameters scope meant.settled e split.0 in
    let test = fault_if-none (all_parameters scope e && (some_waiting scope e || is_unfit_if_some DelayValue (constant_of scope 0 e))) (place_of_expression e) NoConstant split.1 in
    constant-fits (constant_of scope 0 e)
    (or-none (some_waiting scope e) (is_unfit_if_some DelayValue (constant_of scope 0 e)) (and-none (all_parameters scope e)
    (some_waiting scope e || is_unfit_if_some DelayValue (constant_of scope 0 e)) parameters test))

delay_if-sound : (meaning : Meaning) → IsMeant meaning → (delay : Option SourceExpression) → optional_faults (constant_faults meaning.scope DelayValue) delay ≡ [] →
    IsDelayIf (option_map (delay_number meaning) delay)
delay_if-sound meaning meant None e = tt
delay_if-sound meaning meant (Some delay) e = delay-sound meaning meant delay e

delay_or-sound : (meaning : Meaning) → IsMeant meaning → (delay : Option SourceExpression) → optional_faults (constant_faults meaning.scope DelayValue) delay ≡ [] →
    IsDelay (delay_or_zero meaning delay)
delay_or-sound meaning meant None e = omega arith
delay_or-sound meaning meant (Some delay) e = delay-sound meaning meant delay e

-- Cases

-- the labels have sizes
abbrev LabelsHave : Meaning → SourceExpressions → Type 0
LabelsHave meaning no_parts = Unit {0}
LabelsHave meaning (more_parts label rest) = HasSize meaning.holders (reading_of meaning.scope label) × LabelsHave meaning rest

-- the width of some labels and of what is sized with them
abbrev width_with : (meaning : Meaning) (labels : SourceExpressions) → LabelsHave meaning labels → ℕ → ℕ
width_with meaning no_parts h width = width
width_with meaning (more_parts label rest) h width = max h.0.size.width (width_with meaning rest h.1 width)

abbrev sign_with : (meaning : Meaning) (labels : SourceExpressions) → LabelsHave meaning labels → Bool → Bool
sign_with meaning no_parts h signed = signed
sign_with meaning (more_parts label rest) h signed = h.0.size.signed && sign_with meaning rest h.1 signed

labels-sized : (meaning : Meaning) (labels : SourceExpressions) (h : LabelsHave meaning labels) (size : Size) →
    labels_size meaning.scope labels (Some size) ≡ Some (record { width = width_with meaning labels h size.width; signed = sign_with meaning labels h size.signed })
labels-sized meaning no_parts h size = refl
labels-sized meaning (more_parts label rest) h size = ap₂ larger_size h.0.size_is (labels-sized meaning rest h.1 size)

labels-above : (meaning : Meaning) (labels : SourceExpressions) (h : LabelsHave meaning labels) (width : ℕ) → width ≤ width_with meaning labels h width
labels-above meaning no_parts h width = omega arith
labels-above meaning (more_parts label rest) h width = let low = labels-above meaning rest h.1 width in omega (arith, low)

labels-few : (meaning : Meaning) (labels : SourceExpressions) (h : LabelsHave meaning labels) (width : ℕ) → width ≤ most_bits → width_with meaning labels h width ≤ most_bits
labels-few meaning no_parts h width few = few
labels-few meaning (more_parts label rest) h width few = let low = labels-few meaning rest h.1 width few in let most = h.0.most in omega (arith, low, most)

labels-sign : (meaning : Meaning) (labels : SourceExpressions) (h : LabelsHave meaning labels) (signed : Bool) → sign_with meaning labels h signed ≡ true → signed ≡ true
labels-sign meaning no_parts h signed e = e
labels-sign meaning (more_parts label rest) h signed e = labels-sign meaning rest h.1 signed (and-right h.0.size.signed (sign_with meaning rest h.1 signed) e)

-- labels at a size that is theirs at least
labels-are : (meaning : Meaning) (labels : SourceExpressions) (h : LabelsHave meaning labels) (width : ℕ) (signed : Bool) (z : Size) → z.width ≤ most_bits →
    width_with meaning labels h width ≤ z.width →
    (z.signed ≡ true → sign_with meaning labels h signed ≡ true) → AreLabels z.width z.signed (label_expressions meaning (Some z) labels)
    × (width_with meaning labels h width ≡ max (greatest_own (label_expressions meaning (Some z) labels)) width)
labels-are meaning no_parts h width signed z few below sign = (tt, omega arith)
labels-are meaning (more_parts label rest) h width signed z few below sign =
    let own = h.0 in
    let low : own.size.width ≤ z.width = omega (arith, below) in
    let s = own.gives z.width z.signed low few (λ e. and-left own.size.signed (sign_with meaning rest h.1 signed) (sign e)) in
    let later = labels-are meaning rest h.1 width signed z few (omega (arith, below)) (λ e. and-right own.size.signed (sign_with meaning rest h.1 signed) (sign e)) in
    let top = later.1 in
    let own_is = s.own_is in
    (((s.width_is, s.sign_is), s.sized, later.0), omega (arith, top, own_is))

-- and so have those of all items
abbrev ItemsHave : Meaning → SourceCaseItems → Type 0
ItemsHave meaning no_source_items = Unit {0}
ItemsHave meaning (labelled labels statement rest) = LabelsHave meaning labels × ItemsHave meaning rest
ItemsHave meaning (otherwise statement rest) = ItemsHave meaning rest

abbrev items_width : (meaning : Meaning) (items : SourceCaseItems) → ItemsHave meaning items → ℕ → ℕ
items_width meaning no_source_items h width = width
items_width meaning (labelled labels statement rest) h width = width_with meaning labels h.0 (items_width meaning rest h.1 width)
items_width meaning (otherwise statement rest) h width = items_width meaning rest h width

abbrev items_sign : (meaning : Meaning) (items : SourceCaseItems) → ItemsHave meaning items → Bool → Bool
items_sign meaning no_source_items h signed = signed
items_sign meaning (labelled labels statement rest) h signed = sign_with meaning labels h.0 (items_sign meaning rest h.1 signed)
items_sign meaning (otherwise statement rest) h signed = items_sign meaning rest h signed

items-sized : (meaning : Meaning) (items : SourceCaseItems) (h : ItemsHave meaning items) (size : Size) →
    items_size meaning.scope items (Some size) ≡ Some (record { width = items_width meaning items h size.width; signed = items_sign meaning items h size.signed })
items-sized meaning no_source_items h size = refl
items-sized meaning (labelled labels statement rest) h size =
    ap (labels_size meaning.scope labels) (items-sized meaning rest h.1 size) ∙ labels-sized meaning labels h.0
    (record { width = items_width meaning rest h.1 size.width; signed = items_sign meaning rest h.1 size.signed })
items-sized meaning (otherwise statement rest) h size = items-sized meaning rest h size

items-above : (meaning : Meaning) (items : SourceCaseItems) (h : ItemsHave meaning items) (width : ℕ) → width ≤ items_width meaning items h width
items-above meaning no_source_items h width = omega arith
items-above meaning (labelled labels statement rest) h width =
    let low = items-above meaning rest h.1 width in let more = labels-above meaning labels h.0 (items_width meaning rest h.1 width) in omega (arith, low, more)
items-above meaning (otherwise statement rest) h width = items-above meaning rest h width

items-few : (meaning : Meaning) (items : SourceCaseItems) (h : ItemsHave meaning items) (width : ℕ) → width ≤ most_bits → items_width meaning items h width ≤ most_bits
items-few meaning no_source_items h width few = few
items-few meaning (labelled labels statement rest) h width few = labels-few meaning labels h.0 (items_width meaning rest h.1 width) (items-few meaning rest h.1 width few)
items-few meaning (otherwise statement rest) h width few = items-few meaning rest h width few

items-sign : (meaning : Meaning) (items : SourceCaseItems) (h : ItemsHave meaning items) (signed : Bool) → items_sign meaning items h signed ≡ true → signed ≡ true
items-sign meaning no_source_items h signed e = e
items-sign meaning (labelled labels statement rest) h signed e = items-sign meaning rest h.1 signed (labels-sign meaning labels h.0 (items_sign meaning rest h.1 signed) e)
items-sign meaning (otherwise statement rest) h signed e = items-sign meaning rest h signed e

labels-have : (meaning : Meaning) → IsMeant meaning → (labels : SourceExpressions) (group : GroupFaults) → part_faults meaning.scope labels ≡ [] →
    (labels_faults meaning.scope labels group).here ≡ [] →
    (labels_faults meaning.scope labels group).inside ≡ [] → LabelsHave meaning labels × (group.here ≡ []) × (group.inside ≡ [])
labels-have meaning meant no_parts group names h i = (tt, h, i)
labels-have meaning meant (more_parts label rest) group names h i =
    let reading = reading_of meaning.scope label in
    let none = append-none (name_faults meaning.scope label) (part_faults meaning.scope rest) names in
    let here = append-none reading.here (labels_faults meaning.scope rest group).here h in
    let inside = append-none reading.inside (labels_faults meaning.scope rest group).inside i in
    let later = labels-have meaning meant rest group none.1 here.1 inside.1 in
    ((complete-size meaning meant label (expression-full meaning.scope meant.settled label none.0 here.0 inside.0), later.0), later.1, later.2)

items-have : (meaning : Meaning) → IsMeant meaning → (items : SourceCaseItems) → case_name_faults meaning.scope items ≡ [] → (items_labels_faults meaning.scope items).here ≡ [] →
    (items_labels_faults meaning.scope items).inside ≡ [] →
    ItemsHave meaning items
items-have meaning meant no_source_items names h i = tt
items-have meaning meant (labelled labels statement rest) names h i =
    let none = append-none (part_faults meaning.scope labels) (statement_name_faults meaning.scope statement ++ case_name_faults meaning.scope rest) names in
    let other = append-none (statement_name_faults meaning.scope statement) (case_name_faults meaning.scope rest) none.1 in
    let first = labels-have meaning meant labels (items_labels_faults meaning.scope rest) none.0 h i in
    (first.0, items-have meaning meant rest other.1 first.1 first.2)
items-have meaning meant (otherwise statement rest) names h i =
    let none = append-none (statement_name_faults meaning.scope statement) (case_name_faults meaning.scope rest) names in items-have meaning meant rest none.1 h i

-- Statements

-- the targets of a statement's assignments have selects
abbrev mutual
  pub HaveSelects : SourceStatement → Type 0
  HaveSelects (NullStatement place) = Unit {0}
  HaveSelects (BlockStatement place statements) = AllHaveSelects statements
  HaveSelects (IfStatement place condition first) = HaveSelects first
  HaveSelects (IfElseStatement place condition first second) = HaveSelects first × HaveSelects second
  HaveSelects (CaseStatement place kind value items) = ItemsHaveSelects items
  HaveSelects (ForStatement place first_target first condition next_target next body) = HasSelects first_target × HasSelects next_target × HaveSelects body
  HaveSelects (WhileStatement place condition body) = HaveSelects body
  HaveSelects (RepeatStatement place count body) = HaveSelects body
  HaveSelects (ForeverStatement place body) = HaveSelects body
  HaveSelects (WaitStatement place condition body) = HaveSelects body
  HaveSelects (EventStatement place waits body) = HaveSelects body
  HaveSelects (DelayStatement place delay body) = HaveSelects body
  HaveSelects (BlockingStatement place target delay value) = HasSelects target
  HaveSelects (NonblockingStatement place target delay value) = HasSelects target
  HaveSelects (IgnoredTask place) = Unit {0}
  HaveSelects (FinishTask place) = Unit {0}

  pub AllHaveSelects : SourceStatements → Type 0
  AllHaveSelects no_source_statements = Unit {0}
  AllHaveSelects (more_source_statements first rest) = HaveSelects first × AllHaveSelects rest

  pub ItemsHaveSelects : SourceCaseItems → Type 0
  ItemsHaveSelects no_source_items = Unit {0}
  ItemsHaveSelects (labelled labels statement rest) = HaveSelects statement × ItemsHaveSelects rest
  ItemsHaveSelects (otherwise statement rest) = HaveSelects statement × ItemsHaveSelects rest

-- the items of a case at a size that is theirs at least
record CaseFits (meaning : Meaning) (value : SourceExpression) (items : SourceCaseItems) : Type 0 where
  own : HasSize meaning.holders (reading_of meaning.scope value)
  have : ItemsHave meaning items

case-fits : (meaning : Meaning) → IsMeant meaning → (value : SourceExpression) (items : SourceCaseItems) → name_faults meaning.scope value ≡ [] → case_name_faults meaning.scope items ≡ [] →
    case_faults meaning.scope value items ≡ [] →
    CaseFits meaning value items
case-fits meaning meant value items names item_names faults =
    let reading = reading_of meaning.scope value in
    let group = items_labels_faults meaning.scope items in
    let none = group-none (reading.here ++ group.here) (reading.inside ++ group.inside) faults in
    let here = append-none reading.here group.here none.0 in
    let inside = append-none reading.inside group.inside none.1 in
    record { own = complete-size meaning meant value (expression-full meaning.scope meant.settled value names here.0 inside.0); have = items-have meaning meant items item_names here.1 inside.1 }

recast : (Q : ℕ → Bool → Type 0) {width other : ℕ} {signed whole : Bool} → width ≡ other → signed ≡ whole → Q width signed → Q other whole
recast Q {width = width} {other = other} {signed = signed} {whole = whole} e d q = subst (λ w. Q w whole) e (subst (λ b. Q width b) d q)

mutual
  -- a statement of which nothing is wrong is sized
  pub statement-sound : (meaning : Meaning) → IsMeant meaning → (s : SourceStatement) → HaveSelects s → statement_name_faults meaning.scope s ≡ [] → statement_faults meaning.scope s ≡ [] →
      IsSizedStatement (statement_over meaning s)
  statement-sound meaning meant (NullStatement place) there names sizes = tt
  statement-sound meaning meant (BlockStatement place statements) there names sizes = statements-sound meaning meant statements there names sizes
  statement-sound meaning meant (IfStatement place condition first) there names sizes =
      let n = append-none (name_faults meaning.scope condition) (statement_name_faults meaning.scope first) names in
      let s = append-none (size_faults meaning.scope condition) (statement_faults meaning.scope first) sizes in
      (alone-sound meaning meant condition n.0 s.0, statement-sound meaning meant first there n.1 s.1, tt)
  statement-sound meaning meant (IfElseStatement place condition first second) there names sizes =
      let n = append-none (name_faults meaning.scope condition) (statement_name_faults meaning.scope first ++ statement_name_faults meaning.scope second) names in
      let s = append-none (size_faults meaning.scope condition) (statement_faults meaning.scope first ++ statement_faults meaning.scope second) sizes in
      let m = append-none (statement_name_faults meaning.scope first) (statement_name_faults meaning.scope second) n.1 in
      let t = append-none (statement_faults meaning.scope first) (statement_faults meaning.scope second) s.1 in
      (alone-sound meaning meant condition n.0 s.0, statement-sound meaning meant first there.0 m.0 t.0, statement-sound meaning meant second there.1 m.1 t.1)
  statement-sound meaning meant (CaseStatement place kind value items) there names sizes =
      let n = append-none (name_faults meaning.scope value) (case_name_faults meaning.scope items) names in
      let s = append-none (case_faults meaning.scope value items) (items_faults meaning.scope items) sizes in
      let fits = case-fits meaning meant value items n.0 n.1 s.0 in
      let own = fits.own in
      let reading = reading_of meaning.scope value in
      let z : Size = record { width = items_width meaning items fits.have own.size.width; signed = items_sign meaning items fits.have own.size.signed } in
      let size : items_size meaning.scope items reading.size ≡ Some z = ap (items_size meaning.scope items) own.size_is ∙ items-sized meaning items fits.have own.size in
      let few : z.width ≤ most_bits = items-few meaning items fits.have own.size.width own.most in
      let above : own.size.width ≤ z.width = items-above meaning items fits.have own.size.width in
      let x = own.gives z.width z.signed above few (λ e. items-sign meaning items fits.have own.size.signed e) in
      let rest = items-sound meaning meant items fits.have own.size.width own.size.signed z few (omega arith) (λ e. e) there n.1 s.1 in
      let P : Option Size → Type 0 = λ all.
      IsSized (over_objects meaning.holders (tree_at reading all)) × (width_of (over_objects meaning.holders (tree_at reading all)) ≡ max
      (own_width (over_objects meaning.holders (tree_at reading all))) (greatest_label (items_over meaning all items)))
      × AreSizedItems (width_of (over_objects meaning.holders (tree_at reading all))) (sign_of (over_objects meaning.holders (tree_at reading all))) (items_over meaning all items)
      × IsSizedStatement (default_over meaning items) in
      let top = rest.1 in
      let own_is = x.own_is in
      let width_is = x.width_is in
      let Q : ℕ → Bool → Type 0 = λ w b. AreSizedItems w b (items_over meaning (Some z) items) in
      subst P (sym size) (x.sized, omega (arith, width_is, own_is, top), recast Q (sym x.width_is) (sym x.sign_is) rest.0, default-sound meaning meant items there n.1 s.1)
  statement-sound meaning meant (ForStatement place first_target first condition next_target next body) there names sizes =
      let scope = meaning.scope in
      let n1 = append-none (target_faults scope first_target) (name_faults scope first ++ (name_faults scope condition
      ++ (target_faults scope next_target ++ (name_faults scope next ++ statement_name_faults scope body)))) names in
      let n2 = append-none (name_faults scope first) (name_faults scope condition ++ (target_faults scope next_target ++ (name_faults scope next ++ statement_name_faults scope body))) n1.1 in
      let n3 = append-none (name_faults scope condition) (target_faults scope next_target ++ (name_faults scope next ++ statement_name_faults scope body)) n2.1 in
      let n4 = append-none (target_faults scope next_target) (name_faults scope next ++ statement_name_faults scope body) n3.1 in
      let n5 = append-none (name_faults scope next) (statement_name_faults scope body) n4.1 in
      let s1 = append-none (assigned_faults ByProcess scope first_target first) (size_faults scope condition ++ (assigned_faults ByProcess scope next_target next ++ statement_faults scope body))
      sizes in
      let s2 = append-none (size_faults scope condition) (assigned_faults ByProcess scope next_target next ++ statement_faults scope body) s1.1 in
      let s3 = append-none (assigned_faults ByProcess scope next_target next) (statement_faults scope body) s2.1 in (
        assignment-sound meaning meant first_target first there.0 n1.0 n2.0 s1.0,
        alone-sound meaning meant condition n3.0 s2.0,
        assignment-sound meaning meant next_target next there.1 n4.0 n5.0 s3.0,
        statement-sound meaning meant body there.2 n5.1 s3.1,
      )
  statement-sound meaning meant (WhileStatement place condition body) there names sizes =
      let n = append-none (name_faults meaning.scope condition) (statement_name_faults meaning.scope body) names in
      let s = append-none (size_faults meaning.scope condition) (statement_faults meaning.scope body) sizes in
      (alone-sound meaning meant condition n.0 s.0, statement-sound meaning meant body there n.1 s.1)
  statement-sound meaning meant (RepeatStatement place count body) there names sizes =
      let n = append-none (name_faults meaning.scope count) (statement_name_faults meaning.scope body) names in
      let s = append-none (size_faults meaning.scope count) (statement_faults meaning.scope body) sizes in
      (alone-sound meaning meant count n.0 s.0, statement-sound meaning meant body there n.1 s.1)
  statement-sound meaning meant (ForeverStatement place body) there names sizes = statement-sound meaning meant body there names sizes
  statement-sound meaning meant (WaitStatement place condition body) there names sizes =
      let reading = reading_of meaning.scope condition in
      let n = append-none (name_faults meaning.scope condition) (statement_name_faults meaning.scope body) names in
      let s = append-none (wait_faults meaning.scope condition) (statement_faults meaning.scope body) sizes in
      let none = group-none (memory_faults meaning.scope condition ++ reading.here) reading.inside s.0 in
      let here = append-none (memory_faults meaning.scope condition) reading.here none.0 in
      (complete-alone meaning meant condition (expression-full meaning.scope meant.settled condition n.0 here.1 none.1), statement-sound meaning meant body there n.1 s.1)
  statement-sound meaning meant (EventStatement place waits body) there names sizes =
      let n = append-none (entry_faults meaning.scope waits) (statement_name_faults meaning.scope body) names in
      let s = append-none (waits_faults meaning.scope waits) (statement_faults meaning.scope body) sizes in
      (meant.entries waits body n.0 s.0, statement-sound meaning meant body there n.1 s.1)
  statement-sound meaning meant (DelayStatement place delay body) there names sizes =
      let n = append-none (constant_faults meaning.scope DelayValue delay) (statement_name_faults meaning.scope body) names in
      let s = append-none (size_faults meaning.scope delay) (statement_faults meaning.scope body) sizes in
      (delay-sound meaning meant delay n.0, statement-sound meaning meant body there n.1 s.1)
  statement-sound meaning meant (BlockingStatement place target delay value) there names sizes =
      let n = append-none (target_faults meaning.scope target) (optional_faults (constant_faults meaning.scope DelayValue) delay ++ name_faults meaning.scope value) names in
      let m = append-none (optional_faults (constant_faults meaning.scope DelayValue) delay) (name_faults meaning.scope value) n.1 in
      let s = append-none (assigned_faults ByProcess meaning.scope target value) (optional_faults (size_faults meaning.scope) delay) sizes in
      (assignment-sound meaning meant target value there n.0 m.1 s.0, delay_if-sound meaning meant delay m.0)
  statement-sound meaning meant (NonblockingStatement place target delay value) there names sizes =
      let n = append-none (target_faults meaning.scope target) (optional_faults (constant_faults meaning.scope DelayValue) delay ++ name_faults meaning.scope value) names in
      let m = append-none (optional_faults (constant_faults meaning.scope DelayValue) delay) (name_faults meaning.scope value) n.1 in
      let s = append-none (assigned_faults ByProcess meaning.scope target value) (optional_faults (size_faults meaning.scope) delay) sizes in
      (assignment-sound meaning meant target value there n.0 m.1 s.0, delay_or-sound meaning meant delay m.0)
  statement-sound meaning meant (IgnoredTask place) there names sizes = tt
  statement-sound meaning meant (FinishTask place) there names sizes = tt

  statements-sound : (meaning : Meaning) → IsMeant meaning → (statements : SourceStatements) → AllHaveSelects statements → statements_name_faults meaning.scope statements ≡ [] →
      statements_faults meaning.scope statements ≡ [] →
      AreSizedStatements (statements_over meaning statements)
  statements-sound meaning meant no_source_statements there names sizes = tt
  statements-sound meaning meant (more_source_statements first rest) there names sizes =
      let n = append-none (statement_name_faults meaning.scope first) (statements_name_faults meaning.scope rest) names in
      let s = append-none (statement_faults meaning.scope first) (statements_faults meaning.scope rest) sizes in
      (statement-sound meaning meant first there.0 n.0 s.0, statements-sound meaning meant rest there.1 n.1 s.1)

  items-sound : (meaning : Meaning) → IsMeant meaning → (items : SourceCaseItems) (h : ItemsHave meaning items) (width : ℕ) (signed : Bool) (z : Size) → z.width ≤ most_bits →
      items_width meaning items h width ≤ z.width →
      (z.signed ≡ true → items_sign meaning items h signed ≡ true) → ItemsHaveSelects items → case_name_faults meaning.scope items ≡ [] → items_faults meaning.scope items ≡ [] →
      AreSizedItems z.width z.signed (items_over meaning (Some z) items) × (items_width meaning items h width ≡ max (greatest_label (items_over meaning (Some z) items)) width)
  items-sound meaning meant no_source_items h width signed z few below sign there names sizes = (tt, omega arith)
  items-sound meaning meant (labelled labels statement rest) h width signed z few below sign there names sizes =
      let n = append-none (part_faults meaning.scope labels) (statement_name_faults meaning.scope statement ++ case_name_faults meaning.scope rest) names in
      let m = append-none (statement_name_faults meaning.scope statement) (case_name_faults meaning.scope rest) n.1 in
      let s = append-none (statement_faults meaning.scope statement) (items_faults meaning.scope rest) sizes in
      let inner = items_width meaning rest h.1 width in
      let all = labels-are meaning labels h.0 inner (items_sign meaning rest h.1 signed) z few below sign in
      let more = labels-above meaning labels h.0 inner in
      let later = items-sound meaning meant rest h.1 width signed z few (omega (arith, more, below))
      (λ e. labels-sign meaning labels h.0 (items_sign meaning rest h.1 signed) (sign e)) there.1 m.1 s.1 in
      let one = all.1 in
      let other = later.1 in
      ((all.0, statement-sound meaning meant statement there.0 m.0 s.0, later.0), omega (arith, one, other))
  items-sound meaning meant (otherwise statement rest) h width signed z few below sign there names sizes =
      let m = append-none (statement_name_faults meaning.scope statement) (case_name_faults meaning.scope rest) names in
      let s = append-none (statement_faults meaning.scope statement) (items_faults meaning.scope rest) sizes in
      items-sound meaning meant rest h width signed z few below sign there.1 m.1 s.1

  default-sound : (meaning : Meaning) → IsMeant meaning → (items : SourceCaseItems) → ItemsHaveSelects items → case_name_faults meaning.scope items ≡ [] → items_faults meaning.scope items ≡ [] →
      IsSizedStatement (default_over meaning items)
  default-sound meaning meant no_source_items there names sizes = tt
  default-sound meaning meant (labelled labels statement rest) there names sizes =
      let n = append-none (part_faults meaning.scope labels) (statement_name_faults meaning.scope statement ++ case_name_faults meaning.scope rest) names in
      let m = append-none (statement_name_faults meaning.scope statement) (case_name_faults meaning.scope rest) n.1 in
      let s = append-none (statement_faults meaning.scope statement) (items_faults meaning.scope rest) sizes in
      default-sound meaning meant rest there.1 m.1 s.1
  default-sound meaning meant (otherwise statement rest) there names sizes =
      let m = append-none (statement_name_faults meaning.scope statement) (case_name_faults meaning.scope rest) names in
      let s = append-none (statement_faults meaning.scope statement) (items_faults meaning.scope rest) sizes in
      statement-sound meaning meant statement there.0 m.0 s.0
