-- Laws on changes in the order of their objects (nothing of the language).
use Rattle.std.proofs.Common.{◌≡◌, ℕ, zero, suc, ◌+◌, ◌<◌, ◌≤◌, List, [], ◌∷◌, map, length, get_or, Bool, true, false, ◌||◌, refl, sym, ap, subst, ◌∙◌, inl, inr, arith}
use Rattle.std.specs.Prelude.{filter, cond}
use Rattle.std.specs.List.{insert}
use Rattle.std.proofs.lemmas.Bool.{cases_eq, ne_eqb, false≢true, lt-ltb, le-ltb}
use Rattle.std.proofs.lemmas.List.{get_or-map, length-map}
use Rattle.vf_base.specs.Base.{object_number}
use Rattle.four_value.specs.Values.{LogicValue, same_value}
use Rattle.vf_base.specs.Lists.{has, AllHold}
use Rattle.v_design.specs.Designs.{FlatObject, FlatDesign}
use Rattle.v_design.specs.Paths.{is_net, numbers_of, net_pieces}
use Rattle.v_design.specs.WellFormed.{IsAscending}
use Rattle.v_design.specs.Assignments.{value_at}
use Rattle.value_change.specs.declared.change.Change.{Change}
use Rattle.value_change.specs.Changes.{ObjectChange, change_seen, changed_before, changes_between}
use Rattle.value_change.specs.ChangeLaws.{net_changes}
use Rattle.net_state.specs.InOrder.{AreInOrder, put_in_order, with_change, IsPlaceFor}

-- a fact of each element, of one
pub held-at : {A : Type 0} (P : A → Type 0) (xs : List A) (i : ℕ) (d : A) → AllHold P xs → i < length xs → P (get_or xs i d)
held-at P [] i d h low = absurd (omega (arith, low))
held-at P (x ∷ xs) zero d h low = h.0
held-at P (x ∷ xs) (suc i) d h low = held-at P xs i d h.1 (omega (arith, low))

-- A change among others in code

place-further : (object place : ℕ) (x : Change) (changes : List Change) → IsPlaceFor object (suc place) (x ∷ changes) → IsPlaceFor object place changes
place-further object place x changes p = record {
  within = omega (arith, p.within);
  later = λ k d from low. p.later (suc k) d (omega (arith, from)) (omega (arith, low));
  before = λ k d e. p.before (suc k) d (ap suc e);
}

-- what stands before the place isn't of a later object
first-before : (object place : ℕ) (x : Change) (changes : List Change) → AreInOrder (map change_seen (x ∷ changes)) → IsPlaceFor object (suc place) (x ∷ changes) → object_number x.object ≤ object
first-before object zero x changes order p = p.before 0 x refl
first-before object (suc k) x changes order p =
    let low : k < length changes = omega (arith, p.within) in
    let above : object_number x.object ≤ (get_or (map change_seen changes) k (change_seen x)).object =
    held-at (λ (later : ObjectChange). object_number x.object ≤ later.object) (map change_seen changes) k (change_seen x) order.0 (omega (arith, low, length-map changes change_seen)) in
    let itself : get_or (map change_seen changes) k (change_seen x) ≡ change_seen (get_or changes k x) = get_or-map change_seen changes k x (change_seen x) low in
    let here : object_number (get_or changes k x).object ≤ object = p.before (suc k) x refl in
    let same : (get_or (map change_seen changes) k (change_seen x)).object ≡ object_number (get_or changes k x).object = ap (λ (c : ObjectChange). c.object) itself in
    omega (arith, above, same, here)

-- a change that is inserted at its place stands in order
pub insert-in_order : (x : Change) (changes : List Change) (place : ℕ) → AreInOrder (map change_seen changes) → IsPlaceFor (object_number x.object) place changes →
    map change_seen (insert changes place x) ≡ put_in_order (change_seen x) (map change_seen changes)
insert-in_order x [] zero order p = refl
insert-in_order x [] (suc place) order p = absurd (omega (arith, p.within))
insert-in_order x (y ∷ changes) zero order p =
    let low : object_number x.object < object_number y.object = p.later 0 y (omega arith) (omega arith) in
    sym
    (ap (λ b. cond b (change_seen x ∷ change_seen y ∷ map change_seen changes) (change_seen y ∷ put_in_order (change_seen x) (map change_seen changes)))
    (lt-ltb (object_number x.object) (object_number y.object) low))
insert-in_order x (y ∷ changes) (suc place) order p =
    ap (λ rest. change_seen y ∷ rest) (insert-in_order x changes place order.1 (place-further (object_number x.object) place y changes p))
    ∙ sym
    (ap (λ b. cond b (change_seen x ∷ change_seen y ∷ map change_seen changes) (change_seen y ∷ put_in_order (change_seen x) (map change_seen changes)))
    (le-ltb (object_number x.object) (object_number y.object) (first-before (object_number x.object) place y changes order p)))

-- Ascending numbers

pub AllHold-more : (P Q : ℕ → Type 0) (xs : List ℕ) → ((x : ℕ) → P x → Q x) → AllHold P xs → AllHold Q xs
AllHold-more P Q [] f h = tt
AllHold-more P Q (x ∷ xs) f h = (f x h.0, AllHold-more P Q xs f h.1)

numbers-from : (test : FlatObject → Bool) (from n : ℕ) (objects : List FlatObject) → from ≤ n → AllHold (λ x. from ≤ x) (numbers_of test n objects)
numbers-from test from n [] low = tt
numbers-from test from n (object ∷ objects) low = one (test object) (numbers-from test from (n + 1) objects (omega (arith, low)))
  where
    one : (b : Bool) → AllHold (λ x. from ≤ x) (numbers_of test (n + 1) objects) →
        AllHold (λ x. from ≤ x) (elim b [ true ↦ n ∷ numbers_of test (n + 1) objects | false ↦ numbers_of test (n + 1) objects ])
    one true rest = (low, rest)
    one false rest = rest

numbers-ascend : (test : FlatObject → Bool) (n : ℕ) (objects : List FlatObject) → IsAscending (numbers_of test n objects)
numbers-ascend test n [] = tt
numbers-ascend test n (object ∷ objects) = one (test object) (numbers-ascend test (n + 1) objects)
  where
    one : (b : Bool) → IsAscending (numbers_of test (n + 1) objects) → IsAscending (elim b [ true ↦ n ∷ numbers_of test (n + 1) objects | false ↦ numbers_of test (n + 1) objects ])
    one true rest = (AllHold-more (λ x. n + 1 ≤ x) (λ x. n < x) (numbers_of test (n + 1) objects) (λ x low. omega (arith, low)) (numbers-from test (n + 1) (n + 1) objects (omega arith)), rest)
    one false rest = rest

-- the net pieces of a design ascend
pub nets-ascend : (design : FlatDesign) → IsAscending (net_pieces design)
nets-ascend design = numbers-ascend (λ object. is_net object.kind) 0 design.objects

pub AllHold-filter : (P : ℕ → Type 0) (test : ℕ → Bool) (xs : List ℕ) → AllHold P xs → AllHold P (filter test xs)
AllHold-filter P test [] h = tt
AllHold-filter P test (x ∷ xs) h = one (test x) (AllHold-filter P test xs h.1)
  where
    one : (b : Bool) → AllHold P (filter test xs) → AllHold P (cond b (x ∷ filter test xs) (filter test xs))
    one true rest = (h.0, rest)
    one false rest = rest

filter-ascends : (test : ℕ → Bool) (xs : List ℕ) → IsAscending xs → IsAscending (filter test xs)
filter-ascends test [] h = tt
filter-ascends test (x ∷ xs) h = one (test x) (filter-ascends test xs h.1)
  where
    one : (b : Bool) → IsAscending (filter test xs) → IsAscending (cond b (x ∷ filter test xs) (filter test xs))
    one true rest = (AllHold-filter (λ later. x < later) test xs h.0, rest)
    one false rest = rest

-- Changes of ascending objects

between-above : (old new : List LogicValue) (object : ℕ) (xs : List ℕ) → AllHold (λ x. object < x) xs → AllHold (λ (change : ObjectChange). object < change.object) (changes_between old new xs)
between-above old new object [] h = tt
between-above old new object (x ∷ xs) h = one (same_value (value_at old x) (value_at new x)) (between-above old new object xs h.1)
  where
    one : (b : Bool) → AllHold (λ (change : ObjectChange). object < change.object) (changes_between old new xs) →
        AllHold (λ (change : ObjectChange). object < change.object)
        (elim b [ true ↦ changes_between old new xs | false ↦ record { object = x; old = value_at old x; new = value_at new x } ∷ changes_between old new xs ])
    one true rest = rest
    one false rest = (h.0, rest)

above-le : (object : ℕ) (changes : List ObjectChange) → AllHold (λ (change : ObjectChange). object < change.object) changes → AllHold (λ (change : ObjectChange). object ≤ change.object) changes
above-le object [] h = tt
above-le object (change ∷ changes) h = (let low : object < change.object = h.0 in omega (arith, low), above-le object changes h.1)

between-in_order : (old new : List LogicValue) (xs : List ℕ) → IsAscending xs → AreInOrder (changes_between old new xs)
between-in_order old new [] h = tt
between-in_order old new (x ∷ xs) h = one (same_value (value_at old x) (value_at new x)) (between-in_order old new xs h.1)
  where
    one : (b : Bool) → AreInOrder (changes_between old new xs) →
        AreInOrder (elim b [ true ↦ changes_between old new xs | false ↦ record { object = x; old = value_at old x; new = value_at new x } ∷ changes_between old new xs ])
    one true rest = rest
    one false rest = (above-le x (changes_between old new xs) (between-above old new x xs h.0), rest)

-- the changes of a node's nets stand in order
pub nets-in_order : (design : FlatDesign) (outputs : List ℕ) (old new : List LogicValue) → AreInOrder (net_changes design outputs old new)
nets-in_order design outputs old new = between-in_order old new (filter (has outputs) (net_pieces design)) (filter-ascends (has outputs) (net_pieces design) (nets-ascend design))

-- One object more

put-first : (change : ObjectChange) (changes : List ObjectChange) → AllHold (λ (later : ObjectChange). change.object < later.object) changes → put_in_order change changes ≡ change ∷ changes
put-first change [] h = refl
put-first change (first ∷ rest) h = ap (λ b. cond b (change ∷ first ∷ rest) (first ∷ put_in_order change rest)) (lt-ltb change.object first.object h.0)

-- the change of an object below all others
with-first : (object : ℕ) (old new : LogicValue) (changes : List ObjectChange) → AllHold (λ (later : ObjectChange). object < later.object) changes →
    changed_before object old new changes ≡ with_change (record { object = object; old = old; new = new }) changes
with-first object old new changes h = one (same_value old new)
  where
    one : (b : Bool) → ◌≡◌ {A = List ObjectChange} (elim b [ true ↦ changes | false ↦ record { object = object; old = old; new = new } ∷ changes ])
        (elim b [ true ↦ changes | false ↦ put_in_order (record { object = object; old = old; new = new }) changes ])
    one true = refl
    one false = sym (put-first (record { object = object; old = old; new = new }) changes h)

-- the change of an object above another
with-further : (change : ObjectChange) (object : ℕ) (old new : LogicValue) (changes : List ObjectChange) → object ≤ change.object →
    changed_before object old new (with_change change changes) ≡ with_change change (changed_before object old new changes)
with-further change object old new changes low = one (same_value old new) (same_value change.old change.new)
  where
    one : (b c : Bool) → ◌≡◌ {A = List ObjectChange}
        (elim b [
          | true ↦ elim c [ true ↦ changes | false ↦ put_in_order change changes ]
          | false ↦ record { object = object; old = old; new = new } ∷
              elim c [ true ↦ changes | false ↦ put_in_order change changes ]
        ])
        (elim c [
          | true ↦ elim b [ true ↦ changes | false ↦ record { object = object; old = old; new = new } ∷ changes ]
          | false ↦ put_in_order change (elim b [ true ↦ changes | false ↦ record { object = object; old = old; new = new } ∷ changes ])
        ])
    one true true = refl
    one true false = refl
    one false true = refl
    one false false =
        sym
        (ap (λ b. cond b (change ∷ record { object = object; old = old; new = new } ∷ changes) (record { object = object; old = old; new = new } ∷ put_in_order change changes))
        (le-ltb change.object object low))

-- what changes besides when one object more is looked at, whose value alone is another
pub record OneMore (object : ℕ) (before after : List LogicValue) (test more : ℕ → Bool) : Type 0 where
  pub was_not : test object ≡ false
  pub is : more object ≡ true
  pub others : (x : ℕ) → (object ≡ x → ⊥) → more x ≡ test x
  pub same : (x : ℕ) → (object ≡ x → ⊥) → value_at after x ≡ value_at before x

apart-above : (object : ℕ) (xs : List ℕ) (old before after : List LogicValue) (test more : ℕ → Bool) → OneMore object before after test more → AllHold (λ x. object < x) xs →
    changes_between old after (filter more xs) ≡ changes_between old before (filter test xs)
apart-above object [] old before after test more one h = refl
apart-above object (x ∷ xs) old before after test more one h =
    let other : object ≡ x → ⊥ = λ e. (let low : object < x = h.0 in omega (arith, low, e)) in
    ap (λ b. changes_between old after (cond b (x ∷ filter more xs) (filter more xs))) (one.others x other)
    ∙ both (test x) other (apart-above object xs old before after test more one h.1)
  where
    both : (b : Bool) → (object ≡ x → ⊥) → changes_between old after (filter more xs) ≡ changes_between old before (filter test xs) →
        changes_between old after (cond b (x ∷ filter more xs) (filter more xs)) ≡ changes_between old before (cond b (x ∷ filter test xs) (filter test xs))
    both true other rest = (λ i. changed_before x (value_at old x) (one.same x other i) (rest i))
    both false other rest = rest

between-here : (object x : ℕ) (xs : List ℕ) (old before after : List LogicValue) (test more : ℕ → Bool) → object ≡ x → OneMore object before after test more → AllHold (λ later. x < later) xs →
    changes_between old after (filter more (x ∷ xs)) ≡ with_change (record { object = object; old = value_at old object; new = value_at after object })
    (changes_between old before (filter test (x ∷ xs)))
between-here object x xs old before after test more same one h =
    ap (λ b. changes_between old after (cond b (x ∷ filter more xs) (filter more xs))) (ap more (sym same) ∙ one.is)
    ∙ ap (λ o. changed_before o (value_at old o) (value_at after o) (changes_between old after (filter more xs))) (sym same)
    ∙ ap (changed_before object (value_at old object) (value_at after object)) (apart-above object xs old before after test more one above)
    ∙ with-first object (value_at old object) (value_at after object) (changes_between old before (filter test xs))
    (between-above old before object (filter test xs) (AllHold-filter (λ later. object < later) test xs above))
    ∙ ap (λ b. with_change (record { object = object; old = value_at old object; new = value_at after object }) (changes_between old before (cond b (x ∷ filter test xs) (filter test xs))))
    (sym (ap test (sym same) ∙ one.was_not))
  where
    above : AllHold (λ later. object < later) xs
    above = subst (λ o. AllHold (λ later. o < later) xs) (sym same) h

between-further : (object x : ℕ) (xs : List ℕ) (old before after : List LogicValue) (test more : ℕ → Bool) → (object ≡ x → ⊥) → x ≤ object → OneMore object before after test more →
    changes_between old after (filter more xs) ≡ with_change (record { object = object; old = value_at old object; new = value_at after object }) (changes_between old before (filter test xs)) →
    changes_between old after (filter more (x ∷ xs)) ≡ with_change (record { object = object; old = value_at old object; new = value_at after object })
    (changes_between old before (filter test (x ∷ xs)))
between-further object x xs old before after test more other low one rest =
    ap (λ b. changes_between old after (cond b (x ∷ filter more xs) (filter more xs))) (one.others x other) ∙ both (test x)
  where
    both : (b : Bool) → changes_between old after (cond b (x ∷ filter more xs) (filter more xs))
        ≡ with_change (record { object = object; old = value_at old object; new = value_at after object }) (changes_between old before (cond b (x ∷ filter test xs) (filter test xs)))
    both true =
        (λ i. changed_before x (value_at old x) (one.same x other i) (rest i))
        ∙ with-further (record { object = object; old = value_at old object; new = value_at after object }) x (value_at old x) (value_at before x) (changes_between old before (filter test xs)) low
    both false = rest

below-has : (object x : ℕ) (xs : List ℕ) → AllHold (λ later. x < later) xs → has xs object ≡ true → x ≤ object
below-has object x [] h e = absurd (false≢true e)
below-has object x (y ∷ xs) h e =
    elim (cases_eq y object) [
      | inl same ↦ (let low : x < y = h.0 in omega (arith, low, same))
      | inr other ↦ below-has object x xs h.1 (sym (ap (λ b. b || has xs object) (ne_eqb y object other)) ∙ e)
    ]

-- one object more among ascending ones
pub between-more : (object : ℕ) (xs : List ℕ) (old before after : List LogicValue) (test more : ℕ → Bool) → IsAscending xs → has xs object ≡ true → OneMore object before after test more →
    changes_between old after (filter more xs) ≡ with_change (record { object = object; old = value_at old object; new = value_at after object }) (changes_between old before (filter test xs))
between-more object [] old before after test more ascend there one = absurd (false≢true there)
between-more object (x ∷ xs) old before after test more ascend there one =
    elim (cases_eq object x) [
      | inl same ↦ between-here object x xs old before after test more same one ascend.0
      | inr other ↦
          (let rest : has xs object ≡ true = sym (ap (λ b. b || has xs object) (ne_eqb x object (λ e. other (sym e)))) ∙ there in
          between-further object x xs old before after test more other (below-has object x xs ascend.0 rest) one (between-more object xs old before after test more ascend.1 rest one))
    ]

-- where the values differ the change is one
pub changed-with : (change : ObjectChange) (changes : List ObjectChange) → same_value change.old change.new ≡ false → put_in_order change changes ≡ with_change change changes
changed-with change changes differ = one (same_value change.old change.new) differ
  where
    one : (b : Bool) → b ≡ false → ◌≡◌ {A = List ObjectChange} (put_in_order change changes) (elim b [ true ↦ changes | false ↦ put_in_order change changes ])
    one true e = absurd (false≢true (sym e))
    one false e = refl
