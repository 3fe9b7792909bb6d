-- Where no two statements of a process stand at one place, no two spots of its code have one mark.
use Rattle.std.proofs.Common.{◌≡◌, ◌≤◌, ◌+◌, ℕ, zero, suc, Bool, true, false, ◌&&◌, List, [], ◌∷◌, ◌++◌, Some, option_map, refl, sym, ap, ◌∙◌, arith, nat_eq}
use Rattle.std.specs.List.{IsDistinct, AllByRecursion, slice_get}
use Rattle.std.proofs.lemmas.Bool.{eqb-true, eq-eqb}
use Rattle.std.proofs.lemmas.Option.{slice_get-map}
use Rattle.vf_base.specs.Base.{SourcePlace}
use Rattle.v_design.specs.Trees.{Statement, Null, Block, If, Case, For, While, Repeat, Forever, Delay, EventControl, Wait, Blocking, Nonblocking, Finish, Statements, no_statements, more_statements}
use Rattle.v_design.specs.Trees.{CaseItems, no_items, more_items}
use Rattle.v_design.specs.Places.{same_place, places_in, places_in_all, places_in_items, PlacesDiffer}
use Rattle.process_code.specs.Marks.{Form, Whole, Loop, Assignment, TurnsOf, Mark, mark_of_spot, marks_at, marks_of, marks_of_all, marks_of_items}
use Rattle.process_code.specs.declared.code.Spot.{Spot}
use Rattle.process_code.proofs.Equalities.{and-left, and-right}
use Rattle.process_code.proofs.Growing.{some-same}

-- Counting

abbrev one : Bool → ℕ
one true = 1
one false = 0

-- how many elements of a list pass a test
abbrev times : {A : Type 0} → (A → Bool) → List A → ℕ
times test [] = 0
times test (x ∷ xs) = one (test x) + times test xs

times-append : {A : Type 0} (test : A → Bool) (xs ys : List A) → times test (xs ++ ys) ≡ times test xs + times test ys
times-append test [] ys = omega arith
times-append test (x ∷ xs) ys = let h = times-append test xs ys in omega (arith, h)

one-passes : {A : Type 0} (test : A → Bool) (x : A) → test x ≡ true → one (test x) ≡ 1
one-passes test x h = ap one h

at-least : {A : Type 0} (test : A → Bool) (xs : List A) (i : ℕ) (x : A) → slice_get xs i ≡ Some x → test x ≡ true → 1 ≤ times test xs
at-least test [] i x here passes = absurd (cc)
at-least test (y ∷ ys) zero x here passes = let a = one-passes test y (ap test (some-same here) ∙ passes) in omega (arith, a)
at-least test (y ∷ ys) (suc i) x here passes = let h = at-least test ys i x here passes in omega (arith, h)

-- where one element at most passes a test, all that pass stand at one place
one-place : {A : Type 0} (test : A → Bool) (xs : List A) (i j : ℕ) (x y : A) → slice_get xs i ≡ Some x → slice_get xs j ≡ Some y → test x ≡ true → test y ≡ true → times test xs ≤ 1 → i ≡ j
one-place test [] i j x y here there px py few = absurd (cc)
one-place test (z ∷ zs) zero zero x y here there px py few = refl
one-place test (z ∷ zs) zero (suc j) x y here there px py few =
    let a = one-passes test z (ap test (some-same here) ∙ px) in
    let b = at-least test zs j y there py in
    absurd (omega (arith, a, b, few))
one-place test (z ∷ zs) (suc i) zero x y here there px py few =
    let a = one-passes test z (ap test (some-same there) ∙ py) in
    let b = at-least test zs i x here px in
    absurd (omega (arith, a, b, few))
one-place test (z ∷ zs) (suc i) (suc j) x y here there px py few = ap suc (one-place test zs i j x y here there px py (omega (arith, few)))

-- Places

same_place-equal : (p q : SourcePlace) → same_place p q ≡ true → p ≡ q
same_place-equal p q h =
    let line = eqb-true p.line q.line (and-left (nat_eq p.line q.line) (nat_eq p.column q.column) h) in
    let column = eqb-true p.column q.column (and-right (nat_eq p.line q.line) (nat_eq p.column q.column) h) in
    ap (λ n. record { line = n; column = p.column }) line ∙ ap (λ n. record { line = q.line; column = n }) column

same_place-refl : (p : SourcePlace) → same_place p p ≡ true
same_place-refl p = ap (λ b. b && nat_eq p.column p.column) (eq-eqb p.line p.line refl) ∙ eq-eqb p.column p.column refl

none-after : (q : SourcePlace) (qs : List SourcePlace) → AllByRecursion (λ y. same_place q y ≡ false) qs → times (same_place q) qs ≡ 0
none-after q [] h = refl
none-after q (y ∷ ys) h =
    let a : one (same_place q y) ≡ 0 = ap one h.0 in
    let b = none-after q ys h.1 in
    omega (arith, a, b)

more-once : (p q : SourcePlace) (qs : List SourcePlace) (b : Bool) → same_place p q ≡ b → AllByRecursion (λ y. same_place q y ≡ false) qs → times (same_place p) qs ≤ 1 →
    one b + times (same_place p) qs ≤ 1
more-once p q qs true e none few = let n : times (same_place p) qs ≡ 0 = ap (λ x. times (same_place x) qs) (same_place-equal p q e) ∙ none-after q qs none in omega (arith, n)
more-once p q qs false e none few = omega (arith, few)

-- a place stands once at most among places that differ
at-most_once : (p : SourcePlace) (qs : List SourcePlace) → IsDistinct same_place qs → times (same_place p) qs ≤ 1
unfolding IsDistinct
at-most_once p [] h = omega arith
at-most_once p (q ∷ qs) h = more-once p q qs (same_place p q) refl h.0 (at-most_once p qs h.1)

-- Marks

abbrev same_form : Form → Form → Bool
same_form Whole Whole = true
same_form Loop Loop = true
same_form Assignment Assignment = true
same_form TurnsOf TurnsOf = true
same_form form other = false

abbrev same_mark : Mark → Mark → Bool
same_mark m n = same_place m.place n.place && same_form m.form n.form

same_form-refl : (f : Form) → same_form f f ≡ true
same_form-refl Whole = refl
same_form-refl Loop = refl
same_form-refl Assignment = refl
same_form-refl TurnsOf = refl

same_mark-refl : (m : Mark) → same_mark m m ≡ true
same_mark-refl m = ap (λ b. b && same_form m.form m.form) (same_place-refl m.place) ∙ same_form-refl m.form

one-both : (b c : Bool) → one (b && c) ≤ one b
one-both true true = omega arith
one-both true false = omega arith
one-both false c = omega arith

-- a form is one of two, or of three, at most once
one-of_two : (b : Bool) (f : Form) → one (b && same_form f Whole) + one (b && same_form f TurnsOf) ≤ one b
one-of_two false f = omega arith
one-of_two true Whole = omega arith
one-of_two true Loop = omega arith
one-of_two true Assignment = omega arith
one-of_two true TurnsOf = omega arith

one-of_three : (b : Bool) (f : Form) → one (b && same_form f Whole) + (one (b && same_form f Loop) + one (b && same_form f Assignment)) ≤ one b
one-of_three false f = omega arith
one-of_three true Whole = omega arith
one-of_three true Loop = omega arith
one-of_three true Assignment = omega arith
one-of_three true TurnsOf = omega arith

-- one mark more at one place more
body-few : (m : Mark) (place : SourcePlace) (form : Form) (marks : List Mark) (places : List SourcePlace) → times (same_mark m) marks ≤ times (same_place m.place) places →
    times (same_mark m) (record { place = place; form = form } ∷ marks) ≤ times (same_place m.place) (place ∷ places)
body-few m place form marks places h = let a = one-both (same_place m.place place) (same_form m.form form) in omega (arith, a, h)

both-few : (m : Mark) (one_marks other_marks : List Mark) (one_places other_places : List SourcePlace) →
    times (same_mark m) one_marks ≤ times (same_place m.place) one_places → times (same_mark m) other_marks ≤ times (same_place m.place) other_places →
    times (same_mark m) (one_marks ++ other_marks) ≤ times (same_place m.place) (one_places ++ other_places)
both-few m one_marks other_marks one_places other_places h k =
    let a = times-append (same_mark m) one_marks other_marks in
    let b = times-append (same_place m.place) one_places other_places in
    omega (arith, a, b, h, k)

swapped-few : (m : Mark) (one_marks other_marks : List Mark) (one_places other_places : List SourcePlace) →
    times (same_mark m) one_marks ≤ times (same_place m.place) one_places → times (same_mark m) other_marks ≤ times (same_place m.place) other_places →
    times (same_mark m) (other_marks ++ one_marks) ≤ times (same_place m.place) (one_places ++ other_places)
swapped-few m one_marks other_marks one_places other_places h k =
    let a = times-append (same_mark m) other_marks one_marks in
    let b = times-append (same_place m.place) one_places other_places in
    omega (arith, a, b, h, k)

mutual
  -- no more parts of a statement have one mark than statements in it stand at its place
  marks-few : (m : Mark) (s : Statement) → times (same_mark m) (marks_of s) ≤ times (same_place m.place) (places_in s)
  marks-few m Null = omega arith
  marks-few m (Block statements) = marks_all-few m statements
  marks-few m (If place condition first second) =
      body-few m place Whole (marks_of first ++ marks_of second) (places_in first ++ places_in second)
      (both-few m (marks_of first) (marks_of second) (places_in first) (places_in second) (marks-few m first) (marks-few m second))
  marks-few m (Case place kind value items default) =
      body-few m place Whole (marks_of_items items ++ marks_of default) (places_in_items items ++ places_in default)
      (both-few m (marks_of_items items) (marks_of default) (places_in_items items) (places_in default) (marks_items-few m items) (marks-few m default))
  marks-few m (For place first_targets first condition next_targets next body) =
      let a = one-of_three (same_place m.place place) m.form in
      let b = marks-few m body in
      omega (arith, a, b)
  marks-few m (While place condition body) = body-few m place Loop (marks_of body) (places_in body) (marks-few m body)
  marks-few m (Repeat place count body) =
      let a = one-of_two (same_place m.place place) m.form in
      let b = marks-few m body in
      omega (arith, a, b)
  marks-few m (Forever place body) = body-few m place Whole (marks_of body) (places_in body) (marks-few m body)
  marks-few m (Delay place delay body) = body-few m place Whole (marks_of body) (places_in body) (marks-few m body)
  marks-few m (EventControl place entries body) = body-few m place Whole (marks_of body) (places_in body) (marks-few m body)
  marks-few m (Wait place condition body) = body-few m place Whole (marks_of body) (places_in body) (marks-few m body)
  marks-few m (Blocking place targets delay value) = body-few m place Assignment [] [] (omega arith)
  marks-few m (Nonblocking place targets delay value) = body-few m place Whole [] [] (omega arith)
  marks-few m (Finish place) = body-few m place Whole [] [] (omega arith)

  marks_all-few : (m : Mark) (ss : Statements) → times (same_mark m) (marks_of_all ss) ≤ times (same_place m.place) (places_in_all ss)
  marks_all-few m no_statements = omega arith
  marks_all-few m (more_statements first others) =
      swapped-few m (marks_of first) (marks_of_all others) (places_in first) (places_in_all others) (marks-few m first) (marks_all-few m others)

  marks_items-few : (m : Mark) (items : CaseItems) → times (same_mark m) (marks_of_items items) ≤ times (same_place m.place) (places_in_items items)
  marks_items-few m no_items = omega arith
  marks_items-few m (more_items labels statement others) =
      both-few m (marks_of statement) (marks_of_items others) (places_in statement) (places_in_items others) (marks-few m statement) (marks_items-few m others)

-- spots with one mark are one
pub spots-apart : (spots : List Spot) (body : Statement) (i j : ℕ) (one_spot other : Spot) → PlacesDiffer body → marks_at spots ≡ marks_of body →
    slice_get spots i ≡ Some one_spot → slice_get spots j ≡ Some other → mark_of_spot one_spot ≡ mark_of_spot other → i ≡ j
spots-apart spots body i j one_spot other differ marks here there same =
    let m = mark_of_spot one_spot in
    let a : times (same_mark m) (marks_at spots) ≡ times (same_mark m) (marks_of body) = ap (times (same_mark m)) marks in
    let b = marks-few m body in
    let c = at-most_once m.place (places_in body) differ in
    one-place (same_mark m) (marks_at spots) i j m (mark_of_spot other) (slice_get-map mark_of_spot spots i ∙ ap (option_map mark_of_spot) here)
    (slice_get-map mark_of_spot spots j ∙ ap (option_map mark_of_spot) there) (same_mark-refl m) (ap (same_mark m) (sym same) ∙ same_mark-refl m) (omega (arith, a, b, c))
