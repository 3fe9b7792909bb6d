-- The values of a design's objects with those of some objects put in front (nothing of the language).
use Rattle.std.proofs.Common.{◌≡◌, ℕ, zero, suc, ◌+◌, ◌<◌, ◌≤◌, Bool, true, false, ◌||◌, List, [], ◌∷◌, length, get_or, set, map, take, refl, ap, sym, ◌∙◌, subst, arith}
use Rattle.std.specs.Prelude.{nat_eq}
use Rattle.std.proofs.lemmas.Bool.{both_ways, or_left, eq-eqb}
use Rattle.std.proofs.lemmas.List.{length-map, length-take-le, get_or-take, get_or-map, ext_get_or}
use Rattle.vf_base.specs.declared.ids.ObjectId.{ObjectId}
use Rattle.vf_base.specs.Base.{object_number}
use Rattle.four_value.specs.Values.{LogicValue}
use Rattle.vf_base.specs.Lists.{has, change_at, without_repeats, fresh_only}
use Rattle.v_design.specs.Assignments.{value_at, with_outputs}

-- the values with those of some objects in front
unfoldable pub overlaid : List ObjectId → List LogicValue → List LogicValue → List LogicValue
overlaid objects held values = with_outputs (map object_number objects) held values

-- Changes at a place

pub changed-other : (xs : List LogicValue) (i j : ℕ) (f : LogicValue → LogicValue) → (i ≡ j → ⊥) → value_at (change_at xs i f) j ≡ value_at xs j
changed-other [] i j f h = refl
changed-other (x ∷ xs) zero zero f h = absurd (h refl)
changed-other (x ∷ xs) zero (suc j) f h = refl
changed-other (x ∷ xs) (suc i) zero f h = refl
changed-other (x ∷ xs) (suc i) (suc j) f h = changed-other xs i j f (λ e. h (ap suc e))

changed-here : (xs : List LogicValue) (i : ℕ) (v : LogicValue) → i < length xs → value_at (change_at xs i (λ old. v)) i ≡ v
changed-here [] i v h = absurd (omega arith)
changed-here (x ∷ xs) zero v h = refl
changed-here (x ∷ xs) (suc i) v h = changed-here xs i v (omega arith)

pub length-change_at : (xs : List LogicValue) (i : ℕ) (f : LogicValue → LogicValue) → length (change_at xs i f) ≡ length xs
length-change_at [] i f = refl
length-change_at (x ∷ xs) zero f = refl
length-change_at (x ∷ xs) (suc i) f = ap suc (length-change_at xs i f)

changed-apart : (xs : List LogicValue) (i j : ℕ) (f g : LogicValue → LogicValue) → (i ≡ j → ⊥) → change_at (change_at xs i f) j g ≡ change_at (change_at xs j g) i f
changed-apart [] i j f g h = refl
changed-apart (x ∷ xs) zero zero f g h = absurd (h refl)
changed-apart (x ∷ xs) zero (suc j) f g h = refl
changed-apart (x ∷ xs) (suc i) zero f g h = refl
changed-apart (x ∷ xs) (suc i) (suc j) f g h = ap (λ ys. x ∷ ys) (changed-apart xs i j f g (λ e. h (ap suc e)))

changed-twice : (xs : List LogicValue) (i : ℕ) (v : LogicValue) (f : LogicValue → LogicValue) → change_at (change_at xs i f) i (λ old. v) ≡ change_at xs i (λ old. v)
changed-twice [] i v f = refl
changed-twice (x ∷ xs) zero v f = refl
changed-twice (x ∷ xs) (suc i) v f = ap (λ ys. x ∷ ys) (changed-twice xs i v f)

-- a change to what follows from the old value
pub changed-to : (xs : List LogicValue) (i : ℕ) (f : LogicValue → LogicValue) → change_at xs i (λ old. f (value_at xs i)) ≡ change_at xs i f
changed-to [] i f = refl
changed-to (x ∷ xs) zero f = refl
changed-to (x ∷ xs) (suc i) f = ap (λ ys. x ∷ ys) (changed-to xs i f)

changed-same : (xs : List LogicValue) (i : ℕ) (v : LogicValue) → v ≡ value_at xs i → change_at xs i (λ old. v) ≡ xs
changed-same [] i v h = refl
changed-same (x ∷ xs) zero v h = ap (λ y. y ∷ xs) h
changed-same (x ∷ xs) (suc i) v h = ap (λ ys. x ∷ ys) (changed-same xs i v h)

-- Objects, each its own place

-- an object isn't among some objects
abbrev pub IsNone : List ℕ → ℕ → Type 0
IsNone objects object = (k : ℕ) → k < length objects → get_or objects k 0 ≡ object → ⊥

-- no object stands twice
abbrev pub StandOnce : List ℕ → Type 0
StandOnce [] = Unit {0}
StandOnce (object ∷ objects) = IsNone objects object × StandOnce objects

out_of : (objects : List ℕ) (held : List LogicValue) (values : List LogicValue) (object : ℕ) → IsNone objects object → value_at (with_outputs objects held values) object ≡ value_at values object
out_of [] held values object none = refl
out_of (o ∷ objects) [] values object none = refl
out_of (o ∷ objects) (v ∷ held) values object none =
    out_of objects held (change_at values o (λ old. v)) object (λ k low e. none (suc k) (omega arith) e)
    ∙ changed-other values o object (λ old. v) (λ e. none 0 (omega arith) e)

within : (objects : List ℕ) (held : List LogicValue) (values : List LogicValue) (k : ℕ) → StandOnce objects → length objects ≤ length held → k < length objects → get_or objects k 0 < length values →
    value_at (with_outputs objects held values) (get_or objects k 0) ≡ get_or held k []
within [] held values k once enough low there = absurd (omega arith)
within (o ∷ objects) [] values k once enough low there = absurd (omega arith)
within (o ∷ objects) (v ∷ held) values zero once enough low there = out_of objects held (change_at values o (λ old. v)) o once.0 ∙ changed-here values o v there
within (o ∷ objects) (v ∷ held) values (suc k) once enough low there =
    within objects held (change_at values o (λ old. v)) k once.1 (omega arith) (omega arith) (omega (arith, length-change_at values o (λ old. v)))

changed-below : (objects : List ℕ) (held : List LogicValue) (values : List LogicValue) (object : ℕ) (f : LogicValue → LogicValue) → IsNone objects object →
    change_at (with_outputs objects held values) object f ≡ with_outputs objects held (change_at values object f)
changed-below [] held values object f none = refl
changed-below (o ∷ objects) [] values object f none = refl
changed-below (o ∷ objects) (v ∷ held) values object f none =
    changed-below objects held (change_at values o (λ old. v)) object f (λ k low e. none (suc k) (omega arith) e)
    ∙ ap (with_outputs objects held) (changed-apart values o object (λ old. v) f (λ e. none 0 (omega arith) e))

put-in : (objects : List ℕ) (held : List LogicValue) (values : List LogicValue) (k : ℕ) (v : LogicValue) → StandOnce objects → length objects ≤ length held → k < length objects →
    with_outputs objects (set held k v) values ≡ change_at (with_outputs objects held values) (get_or objects k 0) (λ old. v)
put-in [] held values k v once enough low = absurd (omega arith)
put-in (o ∷ objects) [] values k v once enough low = absurd (omega arith)
put-in (o ∷ objects) (w ∷ held) values zero v once enough low =
    ap (with_outputs objects held) (sym (changed-twice values o v (λ old. w))) ∙ sym (changed-below objects held (change_at values o (λ old. w)) o (λ old. v) once.0)
put-in (o ∷ objects) (w ∷ held) values (suc k) v once enough low = put-in objects held (change_at values o (λ old. w)) k v once.1 (omega arith) (omega arith)

length-with_outputs : (objects : List ℕ) (held values : List LogicValue) → length (with_outputs objects held values) ≡ length values
length-with_outputs [] held values = refl
length-with_outputs (o ∷ objects) [] values = refl
length-with_outputs (o ∷ objects) (v ∷ held) values = length-with_outputs objects held (change_at values o (λ old. v)) ∙ length-change_at values o (λ old. v)

-- each held value is the object's own
abbrev pub HoldOwn : List ℕ → List LogicValue → List LogicValue → Type 0
HoldOwn objects held values = (k : ℕ) → k < length objects → get_or held k [] ≡ value_at values (get_or objects k 0)

same-own : (objects : List ℕ) (held values : List LogicValue) → HoldOwn objects held values → with_outputs objects held values ≡ values
same-own [] held values own = refl
same-own (o ∷ objects) [] values own = refl
same-own (o ∷ objects) (v ∷ held) values own =
    ap (with_outputs objects held) (changed-same values o v (own 0 (omega arith))) ∙ same-own objects held values (λ k low. own (suc k) (omega arith))

-- The overlaid values

-- there are as many values as before
pub length-overlaid : (objects : List ObjectId) (held values : List LogicValue) → length (overlaid objects held values) ≡ length values
unfolding overlaid
length-overlaid objects held values = length-with_outputs (map object_number objects) held values

-- what isn't in front shows the value behind
pub overlaid-behind : (objects : List ObjectId) (held values : List LogicValue) (object : ℕ) → IsNone (map object_number objects) object →
    value_at (overlaid objects held values) object ≡ value_at values object
unfolding overlaid
overlaid-behind objects held values object none = out_of (map object_number objects) held values object none

-- what is in front shows
pub overlaid-front : (objects : List ObjectId) (held values : List LogicValue) (k object : ℕ) → StandOnce (map object_number objects) → length objects ≤ length held → k < length objects →
    get_or (map object_number objects) k 0 ≡ object → object < length values → value_at (overlaid objects held values) object ≡ get_or held k []
unfolding overlaid
overlaid-front objects held values k object once enough low is there =
    ap (value_at (with_outputs (map object_number objects) held values)) (sym is)
    ∙ within (map object_number objects) held values k once (omega (arith, length-map objects object_number)) (omega (arith, length-map objects object_number))
    (subst (λ n. n < length values) (sym is) there)

-- a write in front is a change of the values
pub overlaid-put : (objects : List ObjectId) (held values : List LogicValue) (k object : ℕ) (v : LogicValue) → StandOnce (map object_number objects) → length objects ≤ length held →
    k < length objects →
    get_or (map object_number objects) k 0 ≡ object → overlaid objects (set held k v) values ≡ change_at (overlaid objects held values) object (λ old. v)
unfolding overlaid
overlaid-put objects held values k object v once enough low is =
    put-in (map object_number objects) held values k v once (omega (arith, length-map objects object_number)) (omega (arith, length-map objects object_number))
    ∙ ap (λ n. change_at (with_outputs (map object_number objects) held values) n (λ old. v)) is

-- their own values in front change nothing
pub overlaid-own : (objects : List ObjectId) (held values : List LogicValue) → HoldOwn (map object_number objects) held values → overlaid objects held values ≡ values
unfolding overlaid
overlaid-own objects held values own = same-own (map object_number objects) held values own

-- Objects that stand once

-- objects whose places a table has stand once
pub once-tabled : (objects : List ℕ) (places : List ℕ) (from : ℕ) → ((k : ℕ) → k < length objects → get_or places (get_or objects k 0) 0 ≡ from + k) → StandOnce objects
once-tabled [] places from tabled = tt
once-tabled (o ∷ objects) places from tabled = (
  λ k low e.
      let here : get_or places o 0 ≡ from + 0 = tabled 0 (omega arith) in
      let there : get_or places o 0 ≡ from + suc k = ap (λ n. get_or places n 0) (sym e) ∙ tabled (suc k) (omega arith) in
      omega arith,
  once-tabled objects places (suc from) (λ k low. tabled (suc k) (omega arith) ∙ (let e : from + suc k ≡ suc from + k = omega arith in e)),
)

-- two of objects that stand once differ
pub once-apart : (objects : List ℕ) (j k : ℕ) → StandOnce objects → j < k → k < length objects → get_or objects j 0 ≡ get_or objects k 0 → ⊥
once-apart [] j k once less low e = omega arith
once-apart (o ∷ objects) zero zero once less low e = omega arith
once-apart (o ∷ objects) zero (suc k) once less low e = once.0 k (omega arith) (sym e)
once-apart (o ∷ objects) (suc j) zero once less low e = omega arith
once-apart (o ∷ objects) (suc j) (suc k) once less low e = once-apart objects j k once.1 (omega arith) (omega arith) e

-- what is held is what the objects show
pub overlaid-all : (objects : List ObjectId) (held values : List LogicValue) → StandOnce (map object_number objects) → length objects ≤ length held →
    ((k : ℕ) → k < length objects → get_or (map object_number objects) k 0 < length values) →
    take (length objects) held ≡ map (value_at (overlaid objects held values)) (map object_number objects)
overlaid-all objects held values once enough there =
    let count : length (map (value_at (overlaid objects held values)) (map object_number objects)) ≡ length objects = length-map (map object_number objects) (value_at (overlaid objects held values))
    ∙ length-map objects object_number in
    let taken : length (take (length objects) held) ≡ length objects = length-take-le (length objects) held enough in
    ext_get_or [] (take (length objects) held) (map (value_at (overlaid objects held values)) (map object_number objects)) (taken ∙ sym count)
    (λ k low.
    let inside : k < length objects = omega (arith, low, taken) in
    get_or-take (length objects) held k [] inside
    ∙ sym (overlaid-front objects held values k (get_or (map object_number objects) k 0) once enough inside refl (there k inside))
    ∙ sym (get_or-map (value_at (overlaid objects held values)) (map object_number objects) k 0 [] (omega (arith, inside, length-map objects object_number))))

-- objects none of which is left out as a repetition stand once
fresh-tail : (b : Bool) (x : ℕ) (rest xs : List ℕ) → length rest ≤ length xs → fresh_only b x rest ≡ x ∷ xs → (b ≡ false) × (rest ≡ xs)
fresh-tail true x rest xs few e = let n : length rest ≡ suc (length xs) = ap length e in absurd (omega arith)
fresh-tail false x rest xs few e = (refl, cc)

no_longer : (seen xs : List ℕ) → length (without_repeats seen xs) ≤ length xs
no_longer seen [] = omega arith
no_longer seen (x ∷ xs) = fresh-length (has seen x) x (without_repeats (x ∷ seen) xs) xs (no_longer (x ∷ seen) xs)
  where
    fresh-length : (b : Bool) (x : ℕ) (rest xs : List ℕ) → length rest ≤ length xs → length (fresh_only b x rest) ≤ suc (length xs)
    fresh-length true x rest xs h = omega (arith, h)
    fresh-length false x rest xs h = omega (arith, h)

-- what is seen before isn't among what is kept whole
unseen : (seen xs : List ℕ) (k : ℕ) → without_repeats seen xs ≡ xs → k < length xs → has seen (get_or xs k 0) ≡ false
unseen seen [] k e low = absurd (omega arith)
unseen seen (x ∷ xs) zero e low = (fresh-tail (has seen x) x (without_repeats (x ∷ seen) xs) xs (no_longer (x ∷ seen) xs) e).0
unseen seen (x ∷ xs) (suc k) e low =
    behind (nat_eq x (get_or xs k 0)) (has seen (get_or xs k 0)) (unseen (x ∷ seen) xs k (fresh-tail (has seen x) x (without_repeats (x ∷ seen) xs) xs (no_longer (x ∷ seen) xs) e).1 (omega arith))
  where
    behind : (b c : Bool) → (b || c) ≡ false → c ≡ false
    behind true c h = absurd (both_ways true h refl)
    behind false c h = h

pub once-distinct : (seen objects : List ℕ) → without_repeats seen objects ≡ objects → StandOnce objects
once-distinct seen [] e = tt
once-distinct seen (o ∷ objects) e =
    let tail = (fresh-tail (has seen o) o (without_repeats (o ∷ seen) objects) objects (no_longer (o ∷ seen) objects) e).1 in (
      λ k low same. both_ways (has (o ∷ seen) (get_or objects k 0)) (unseen (o ∷ seen) objects k tail low)
          (or_left (nat_eq o (get_or objects k 0)) (has seen (get_or objects k 0)) (eq-eqb o (get_or objects k 0) (sym same))),
      once-distinct (o ∷ seen) objects tail,
    )
