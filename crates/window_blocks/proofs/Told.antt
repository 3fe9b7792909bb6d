-- What is gathered of phases of the first order are just the moments with which their blocks begin.
use Rattle.std.proofs.Common.{◌≡◌, ℕ, zero, suc, ◌+◌, ◌<◌, ◌≤◌, List, [], ◌∷◌, ◌++◌, length, take, get_or, Bool, true, false, ◌||◌, refl, sym, ap, subst, ◌∙◌, ◌⊎◌, inl, inr, arith}
use Rattle.std.specs.Prelude.{Some, nat_eq, slice_get}
use Rattle.std.specs.List.{AllZip}
use Rattle.std.specs.List.Sorted.{IsNonDecreasing}
use Rattle.std.proofs.lemmas.Bool.{eq-eqb, eqb-true}
use Rattle.std.proofs.lemmas.List.{append-nil, append_assoc, length-append}
use Rattle.vf_base.specs.Lists.{has, AllHold}
use Rattle.v_design.specs.Designs.{Machine}
use Rattle.v_design.specs.Grades.{Phase}
use Rattle.v_design.specs.Laws.{place_if}
use Rattle.v_design.specs.States.{State, Event}
use Rattle.copy_laws.specs.Beside.{AreFirst}
use Rattle.phase_blocks.specs.Blocks.{IsBetweenRuns, begins_block, BlocksBegin}
use Rattle.phase_blocks.proofs.Lists.{first-before}
use Rattle.window_blocks.specs.Blocks.{events_in, events_of, AreFirstEvents, BlockBeginsIn, AscendFrom, AreBlockMoments, ArePhaseEnds}
use Rattle.window_blocks.specs.Gathered.{one_if, beginnings_from, firsts_from, all_beginnings, all_firsts, all_ends, phase_events}
use Rattle.window_blocks.specs.Kept.{IsInOrder}

-- Numbers in lists

or-left : (a b : Bool) → a ≡ true → (a || b) ≡ true
or-left true b e = refl
or-left false b e = cc

or-right : (a b : Bool) → b ≡ true → (a || b) ≡ true
or-right true b e = refl
or-right false b e = e

or-parts : (a b : Bool) → (a || b) ≡ true → (a ≡ true) ⊎ (b ≡ true)
or-parts true b e = inl refl
or-parts false b e = inr e

has-append : (xs ys : List ℕ) (n : ℕ) → has (xs ++ ys) n ≡ (has xs n || has ys n)
has-append [] ys n = refl
has-append (x ∷ xs) ys n = ap (λ b. nat_eq x n || b) (has-append xs ys n) ∙ assoc (nat_eq x n) (has xs n) (has ys n)
  where
    assoc : (a b c : Bool) → (a || (b || c)) ≡ ((a || b) || c)
    assoc true b c = refl
    assoc false b c = refl

has-placed : (b : Bool) (moment n : ℕ) (rest : List ℕ) → has rest n ≡ true → has (place_if b moment rest) n ≡ true
has-placed true moment n rest e = or-right (nat_eq moment n) (has rest n) e
has-placed false moment n rest e = e

ascend-weaken : (least more : ℕ) (numbers : List ℕ) → least ≤ more → AscendFrom more numbers → AscendFrom least numbers
ascend-weaken least more [] low h = tt
ascend-weaken least more (number ∷ numbers) low h = (let z : more ≤ number = h.0 in omega (arith, low, z), h.1)

-- A phase

-- a block begins with the event of a number behind some earlier ones
record BeginsBehind (machine : Machine) (begins : State) (earlier rest : List Event) (number : ℕ) : Type 0 where
  within : number < length rest
  between : IsBetweenRuns machine begins (earlier ++ take number rest)

one-later : (machine : Machine) (begins : State) (earlier : List Event) (event : Event) (rest : List Event) (number : ℕ) → BeginsBehind machine begins (earlier ++ event ∷ []) rest number →
    BeginsBehind machine begins earlier (event ∷ rest) (suc number)
one-later machine begins earlier event rest number h = record {
  within = (let z : length (event ∷ rest) ≡ suc (length rest) = refl in let w : number < length rest = h.within in omega (arith, z, w));
  between = subst (IsBetweenRuns machine begins) (append_assoc earlier (event ∷ []) (take number rest)) h.between;
}

one-earlier : (machine : Machine) (begins : State) (earlier : List Event) (event : Event) (rest : List Event) (number : ℕ) → BeginsBehind machine begins earlier (event ∷ rest) (suc number) →
    BeginsBehind machine begins (earlier ++ event ∷ []) rest number
one-earlier machine begins earlier event rest number h = record {
  within = (let z : length (event ∷ rest) ≡ suc (length rest) = refl in let w : suc number < length (event ∷ rest) = h.within in omega (arith, z, w));
  between = subst (IsBetweenRuns machine begins) (sym (append_assoc earlier (event ∷ []) (take number rest))) h.between;
}

-- events of the first order behind one more
shifted : (machine : Machine) (begins : State) (earlier : List Event) (event : Event) (rest : List Event) → AreFirst machine begins (earlier ++ (event ∷ rest)) →
    AreFirst machine begins ((earlier ++ event ∷ []) ++ rest)
shifted machine begins earlier event rest f = subst (AreFirst machine begins) (sym (append_assoc earlier (event ∷ []) rest)) f

first-of : (machine : Machine) (begins : State) (earlier : List Event) (event : Event) (rest : List Event) → AreFirst machine begins (earlier ++ (event ∷ rest)) →
    AreFirst machine begins (earlier ++ event ∷ [])
first-of machine begins earlier event rest f = first-before machine begins (earlier ++ event ∷ []) rest (shifted machine begins earlier event rest f)

found : BlocksBegin → (machine : Machine) (begins : State) (earlier rest : List Event) (moment at : ℕ) → AreFirst machine begins (earlier ++ rest) →
    has (beginnings_from earlier moment rest) at ≡ true → (number : ℕ) × (at ≡ moment + number) × BeginsBehind machine begins earlier rest number
found law machine begins earlier [] moment at f h = cc
found law machine begins earlier (event ∷ rest) moment at f h =
    go (begins_block earlier event) refl h (found law machine begins (earlier ++ event ∷ []) rest (moment + 1) at (shifted machine begins earlier event rest f))
  where
    later : (number : ℕ) × (at ≡ moment + 1 + number) × BeginsBehind machine begins (earlier ++ event ∷ []) rest number →
        (number : ℕ) × (at ≡ moment + number) × BeginsBehind machine begins earlier (event ∷ rest) number
    later one = (suc one.0, (let z : at ≡ moment + 1 + one.0 = one.1 in omega (arith, z)), one-later machine begins earlier event rest one.0 one.2)

    here : begins_block earlier event ≡ true → nat_eq moment at ≡ true → (number : ℕ) × (at ≡ moment + number) × BeginsBehind machine begins earlier (event ∷ rest) number
    here told same = (
      0,
      (let z : moment ≡ at = eqb-true moment at same in omega (arith, z)),
      record {
        within = (let z : length (event ∷ rest) ≡ suc (length rest) = refl in omega (arith, z));
        between = subst (IsBetweenRuns machine begins) (sym (append-nil earlier)) ((law machine begins earlier event (first-of machine begins earlier event rest f)).0 told);
      },
    )

    go : (b : Bool) → begins_block earlier event ≡ b → has (place_if b moment (beginnings_from (earlier ++ event ∷ []) (moment + 1) rest)) at ≡ true →
        (has (beginnings_from (earlier ++ event ∷ []) (moment + 1) rest) at ≡ true → (number : ℕ) × (at ≡ moment + 1 + number) × BeginsBehind machine begins (earlier ++ event ∷ []) rest number) →
        (number : ℕ) × (at ≡ moment + number) × BeginsBehind machine begins earlier (event ∷ rest) number
    go false told h rest_found = later (rest_found h)
    go true told h rest_found =
        elim (or-parts (nat_eq moment at) (has (beginnings_from (earlier ++ event ∷ []) (moment + 1) rest) at) h) [ inl same ↦ here told same | inr more ↦ later (rest_found more) ]

listed : BlocksBegin → (machine : Machine) (begins : State) (earlier rest : List Event) (moment number : ℕ) → AreFirst machine begins (earlier ++ rest) →
    BeginsBehind machine begins earlier rest number → has (beginnings_from earlier moment rest) (moment + number) ≡ true
listed law machine begins earlier [] moment number f h = let z : length {A = Event} [] ≡ 0 = refl in let w : number < length {A = Event} [] = h.within in absurd (omega (arith, z, w))
listed law machine begins earlier (event ∷ rest) moment zero f h =
    ap (λ b. has (place_if b moment (beginnings_from (earlier ++ event ∷ []) (moment + 1) rest)) (moment + 0)) told
    ∙ or-left (nat_eq moment (moment + 0)) (has (beginnings_from (earlier ++ event ∷ []) (moment + 1) rest) (moment + 0)) (eq-eqb moment (moment + 0) (omega arith))
  where
    told : begins_block earlier event ≡ true
    told = (law machine begins earlier event (first-of machine begins earlier event rest f)).1 (subst (IsBetweenRuns machine begins) (append-nil earlier) h.between)
listed law machine begins earlier (event ∷ rest) moment (suc number) f h =
    has-placed (begins_block earlier event) moment (moment + suc number) (beginnings_from (earlier ++ event ∷ []) (moment + 1) rest)
    ((let z : moment + suc number ≡ moment + 1 + number = omega arith in ap (has (beginnings_from (earlier ++ event ∷ []) (moment + 1) rest)) z)
    ∙ listed law machine begins (earlier ++ event ∷ []) rest (moment + 1) number (shifted machine begins earlier event rest f) (one-earlier machine begins earlier event rest number h))

-- they ascend, and so do those behind them
ascends : (earlier rest : List Event) (moment : ℕ) (behind : List ℕ) → AscendFrom (moment + length rest) behind → AscendFrom moment (beginnings_from earlier moment rest ++ behind)
ascends earlier [] moment behind h = let z : moment + length {A = Event} [] ≡ moment = omega arith in subst (λ m. AscendFrom m behind) z h
ascends earlier (event ∷ rest) moment behind h = go (begins_block earlier event) (ascends (earlier ++ event ∷ []) rest (moment + 1) behind (subst (λ m. AscendFrom m behind) same h))
  where
    same : moment + length (event ∷ rest) ≡ moment + 1 + length rest
    same = omega arith

    go : (b : Bool) → AscendFrom (moment + 1) (beginnings_from (earlier ++ event ∷ []) (moment + 1) rest ++ behind) →
        AscendFrom moment (place_if b moment (beginnings_from (earlier ++ event ∷ []) (moment + 1) rest) ++ behind)
    go true more = (omega arith, more)
    go false more = ascend-weaken moment (moment + 1) (beginnings_from (earlier ++ event ∷ []) (moment + 1) rest ++ behind) (omega arith) more

-- Several phases

all-found : BlocksBegin → (machine : Machine) (first : ℕ) (phases : List Phase) (at : ℕ) → AllHold (IsInOrder machine) phases → has (all_beginnings first (phase_events phases)) at ≡ true →
    BlockBeginsIn machine first phases at
all-found law machine first [] at all h = cc
all-found law machine first (phase ∷ phases) at all h =
    elim (or-parts (has (beginnings_from [] first phase.events) at) (has (all_beginnings (first + length phase.events) (phase_events phases)) at)
    (sym (has-append (beginnings_from [] first phase.events) (all_beginnings (first + length phase.events) (phase_events phases)) at) ∙ h)) [
      | inl own ↦
          (let one : (number : ℕ) × (at ≡ first + number) × BeginsBehind machine phase.begins [] phase.events number = found law machine phase.begins [] phase.events first at all.0 own in
          inl (one.0, one.1, record { within = one.2.within; between = one.2.between }))
      | inr more ↦ inr (all-found law machine (first + length phase.events) phases at all.1 more)
    ]

all-listed : BlocksBegin → (machine : Machine) (first : ℕ) (phases : List Phase) (at : ℕ) → AllHold (IsInOrder machine) phases → BlockBeginsIn machine first phases at →
    has (all_beginnings first (phase_events phases)) at ≡ true
all-listed law machine first [] at all h = absurd h
all-listed law machine first (phase ∷ phases) at all (inl own) =
    has-append (beginnings_from [] first phase.events) (all_beginnings (first + length phase.events) (phase_events phases)) at
    ∙ or-left (has (beginnings_from [] first phase.events) at) (has (all_beginnings (first + length phase.events) (phase_events phases)) at)
    (ap (has (beginnings_from [] first phase.events)) own.1
    ∙ listed law machine phase.begins [] phase.events first own.0 all.0 (record { within = own.2.within; between = own.2.between }))
all-listed law machine first (phase ∷ phases) at all (inr more) =
    has-append (beginnings_from [] first phase.events) (all_beginnings (first + length phase.events) (phase_events phases)) at
    ∙ or-right (has (beginnings_from [] first phase.events) at) (has (all_beginnings (first + length phase.events) (phase_events phases)) at)
    (all-listed law machine (first + length phase.events) phases at all.1 more)

all-ascend : (first : ℕ) (phases : List Phase) → AscendFrom first (all_beginnings first (phase_events phases))
all-ascend first [] = tt
all-ascend first (phase ∷ phases) =
    ascends [] phase.events first (all_beginnings (first + length phase.events) (phase_events phases)) (all-ascend (first + length phase.events) phases)

-- ascending moments don't fall
ascend-least : (least : ℕ) (numbers : List ℕ) (place default : ℕ) → AscendFrom least numbers → place < length numbers → least ≤ get_or numbers place default
ascend-least least [] place default h within = absurd (omega arith)
ascend-least least (number ∷ numbers) zero default h within = h.0
ascend-least least (number ∷ numbers) (suc place) default h within =
    let rest : number + 1 ≤ get_or numbers place default = ascend-least (number + 1) numbers place default h.1 (omega (arith, within)) in
    let first : least ≤ number = h.0 in
    omega (arith, rest, first)

ascend-rise : (least : ℕ) (numbers : List ℕ) → AscendFrom least numbers → IsNonDecreasing numbers
ascend-rise least [] h i j default order within = absurd (omega arith)
ascend-rise least (number ∷ numbers) h zero zero default order within = omega arith
ascend-rise least (number ∷ numbers) h zero (suc j) default order within =
    let rest : number + 1 ≤ get_or numbers j default = ascend-least (number + 1) numbers j default h.1 (omega (arith, within)) in
    omega (arith, rest)
ascend-rise least (number ∷ numbers) h (suc i) zero default order within = absurd (omega (arith, order))
ascend-rise least (number ∷ numbers) h (suc i) (suc j) default order within = ascend-rise (number + 1) numbers h.1 i j default (omega (arith, order)) (omega (arith, within))

pub beginnings-rise : (first : ℕ) (phases : List Phase) → IsNonDecreasing (all_beginnings first (phase_events phases))
beginnings-rise first phases = ascend-rise first (all_beginnings first (phase_events phases)) (all-ascend first phases)

pub block-moments : BlocksBegin → (machine : Machine) (phases : List Phase) → AllHold (IsInOrder machine) phases → AreBlockMoments machine phases (all_beginnings 0 (phase_events phases))
block-moments law machine phases all = record {
  ascend = all-ascend 0 phases;
  begins = λ at h. all-found law machine 0 phases at all h;
  all = λ at h. all-listed law machine 0 phases at all h;
}

-- First events

events-behind : (xs ys : List Event) (y : Event) → slice_get (xs ++ (y ∷ ys)) (length xs) ≡ Some y
events-behind [] ys y = refl
events-behind (x ∷ xs) ys y = events-behind xs ys y

-- of a phase, behind some events of the window
firsts-are : (all done earlier rest behind : List Event) (moment : ℕ) → all ≡ done ++ (rest ++ behind) → moment ≡ length done →
    AllZip (λ at event. slice_get all at ≡ Some event) (beginnings_from earlier moment rest) (firsts_from earlier rest)
firsts-are all done earlier [] behind moment parts at = tt
firsts-are all done earlier (event ∷ rest) behind moment parts at =
    go (begins_block earlier event)
    (firsts-are all (done ++ event ∷ []) (earlier ++ event ∷ []) rest behind (moment + 1) (parts ∙ sym (append_assoc done (event ∷ []) (rest ++ behind)))
    (let l : length (done ++ event ∷ []) ≡ length done + length (event ∷ []) = length-append done (event ∷ []) in
    let o : length (event ∷ []) ≡ 1 = refl in
    omega (arith, at, l, o)))
  where
    here : slice_get all moment ≡ Some event
    here = (λ i. slice_get (parts i) (at i)) ∙ events-behind done (rest ++ behind) event

    go : (b : Bool) → AllZip (λ at event. slice_get all at ≡ Some event) (beginnings_from (earlier ++ event ∷ []) (moment + 1) rest) (firsts_from (earlier ++ event ∷ []) rest) →
        AllZip (λ at event. slice_get all at ≡ Some event) (place_if b moment (beginnings_from (earlier ++ event ∷ []) (moment + 1) rest))
        (one_if b event (firsts_from (earlier ++ event ∷ []) rest))
    go true more = (here, more)
    go false more = more

zip-append : {A B : Type 0} (P : A → B → Type 0) (xs more : List A) (ys others : List B) → AllZip P xs ys → AllZip P more others → AllZip P (xs ++ more) (ys ++ others)
zip-append P [] more [] others h k = k
zip-append P [] more (y ∷ ys) others h k = absurd h
zip-append P (x ∷ xs) more [] others h k = absurd h
zip-append P (x ∷ xs) more (y ∷ ys) others h k = (h.0, zip-append P xs more ys others h.1 k)

-- of several phases
all-firsts-are : (all done : List Event) (phases : List Phase) (first : ℕ) → all ≡ done ++ events_of phases → first ≡ length done →
    AllZip (λ at event. slice_get all at ≡ Some event) (all_beginnings first (phase_events phases)) (all_firsts (phase_events phases))
all-firsts-are all done [] first parts at = tt
all-firsts-are all done (phase ∷ phases) first parts at =
    zip-append (λ at event. slice_get all at ≡ Some event) (beginnings_from [] first phase.events) (all_beginnings (first + length phase.events) (phase_events phases))
    (firsts_from [] phase.events) (all_firsts (phase_events phases)) (firsts-are all done [] phase.events (events_of phases) first parts at)
    (all-firsts-are all (done ++ phase.events) phases (first + length phase.events) (parts ∙ sym (append_assoc done phase.events (events_of phases)))
    (let l : length (done ++ phase.events) ≡ length done + length phase.events = length-append done phase.events in omega (arith, at, l)))

pub block-firsts : (phases : List Phase) → AreFirstEvents phases (all_beginnings 0 (phase_events phases)) (all_firsts (phase_events phases))
block-firsts phases = all-firsts-are (events_of phases) [] phases 0 refl refl

-- Ends

ends-count : (first : ℕ) (phases : List Phase) → length (all_ends first (phase_events phases)) ≡ length phases
ends-count first [] = refl
ends-count first (phase ∷ phases) = ap suc (ends-count (first + length phase.events) phases)

some-is : (x y : ℕ) → Some x ≡ Some y → x ≡ y
some-is x y e = cc

ends-each : (first : ℕ) (phases : List Phase) (place end : ℕ) → slice_get (all_ends first (phase_events phases)) place ≡ Some end → end ≡ first + events_in (take (suc place) phases)
ends-each first [] place end e = cc
ends-each first (phase ∷ phases) zero end e =
    let z : first + length phase.events ≡ end = some-is (first + length phase.events) end e in
    let n : events_in (phase ∷ []) ≡ length phase.events + 0 = refl in
    omega (arith, z, n)
ends-each first (phase ∷ phases) (suc place) end e =
    let z : end ≡ first + length phase.events + events_in (take (suc place) phases) = ends-each (first + length phase.events) phases place end e in
    let n : events_in (phase ∷ take (suc place) phases) ≡ length phase.events + events_in (take (suc place) phases) = refl in
    omega (arith, z, n)

pub phase-ends : (phases : List Phase) → ArePhaseEnds phases (all_ends 0 (phase_events phases))
phase-ends phases = record {
  count = ends-count 0 phases;
  each = λ place end e.
      let z : end ≡ 0 + events_in (take (suc place) phases) = ends-each 0 phases place end e in
      let s : suc place ≡ place + 1 = omega arith in
      let n : events_in (take (suc place) phases) ≡ events_in (take (place + 1) phases) = ap (λ k. events_in (take k phases)) s in
      omega (arith, z, n);
}
