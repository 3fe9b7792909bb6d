-- The variables that drive an object, and the two that come first by depth, found by one pass in the order of the walk (that the outermost variable drives is own).
use Rattle.std.proofs.Common.{◌≡◌, Bool, true, false, ◌&&◌, List, [], ◌∷◌, ◌++◌, Option, Some, None, refl, ap, ◌∙◌, arith}
use Rattle.std.specs.Prelude.{nat_le, nat_lt, filter, cond}
use Rattle.std.proofs.lemmas.Bool.{leb-true, leb-false, ltb-true, ltb-false}
use Rattle.v_tree.specs.Trees.{Identifier, same_name}
use Rattle.v_elab.specs.Parts.{Signal}
use Rattle.v_elab.specs.Drivers.{outermost, WalkedNode, is_driving, insert_here, insert_by_depth, by_depth, driving_variables}
use Rattle.key_index.specs.Groups.{item_if, items_under}
use Rattle.elab_wires.specs.Keyed.{key-name}

-- Driving variables by name

abbrev pub driving_if : Bool → Identifier → Signal → List (Identifier × Signal) → List (Identifier × Signal)
driving_if true object signal rest = (object, signal) ∷ rest
driving_if false object signal rest = rest

-- the variables that drive, each under the name that it is at last joined into, in the order of the walk
abbrev pub all_driving : List Signal → List WalkedNode → List Signal → List (Identifier × Signal)
all_driving signals nodes [] = []
all_driving signals nodes (s ∷ rest) = driving_if (is_driving nodes s) (outermost signals s.name) s (all_driving signals nodes rest)

pub driving-under : (signals : List Signal) (nodes : List WalkedNode) (object : Identifier) (some : List Signal) →
    items_under (all_driving signals nodes some) object ≡ filter (λ (s : Signal). is_driving nodes s && same_name (outermost signals s.name) object) some
driving-under signals nodes object [] = refl
driving-under signals nodes object (s ∷ rest) = by_driving (is_driving nodes s) (driving-under signals nodes object rest)
  where
    by_same : (same : Bool) → items_under (all_driving signals nodes rest) object ≡ filter (λ (t : Signal). is_driving nodes t && same_name (outermost signals t.name) object) rest →
        item_if same s (items_under (all_driving signals nodes rest) object) ≡ cond same (s ∷ filter (λ (t : Signal). is_driving nodes t && same_name (outermost signals t.name) object) rest)
        (filter (λ (t : Signal). is_driving nodes t && same_name (outermost signals t.name) object) rest)
    by_same true e = ap (λ l. s ∷ l) e
    by_same false e = e

    by_driving : (driving : Bool) → items_under (all_driving signals nodes rest) object ≡ filter (λ (t : Signal). is_driving nodes t && same_name (outermost signals t.name) object) rest →
        items_under (driving_if driving (outermost signals s.name) s (all_driving signals nodes rest)) object
        ≡ cond (driving && same_name (outermost signals s.name) object) (s ∷ filter (λ (t : Signal). is_driving nodes t && same_name (outermost signals t.name) object) rest)
        (filter (λ (t : Signal). is_driving nodes t && same_name (outermost signals t.name) object) rest)
    by_driving true e = ap (λ t. item_if t s (items_under (all_driving signals nodes rest) object)) (key-name object (outermost signals s.name))
        ∙ by_same (same_name (outermost signals s.name) object) e
    by_driving false e = e

-- the variables that drive an object are those under its name, by depth
pub driving-by-depth : (signals : List Signal) (nodes : List WalkedNode) (object : Identifier) →
    by_depth (items_under (all_driving signals nodes signals) object) ≡ driving_variables signals nodes object
driving-by-depth signals nodes object = ap by_depth (driving-under signals nodes object signals)

-- One more behind those so far

abbrev pub before_here : Bool → Signal → Signal → List Signal → List Signal → List Signal
before_here true signal other others inserted = signal ∷ other ∷ others
before_here false signal other others inserted = other ∷ inserted

-- a signal put behind those that stand less deep, or as deep
abbrev pub insert_behind : Signal → List Signal → List Signal
insert_behind signal [] = signal ∷ []
insert_behind signal (other ∷ others) = before_here (nat_lt signal.depth other.depth) signal other others (insert_behind signal others)

one-behind : (a s : Signal) → insert_by_depth a (s ∷ []) ≡ insert_behind s (a ∷ [])
one-behind a s = by_test (nat_le a.depth s.depth) refl (nat_lt s.depth a.depth) refl
  where
    by_test : (le : Bool) → nat_le a.depth s.depth ≡ le → (lt : Bool) → nat_lt s.depth a.depth ≡ lt → insert_here le a s [] (a ∷ []) ≡ before_here lt s a [] (s ∷ [])
    by_test true e true d = absurd (omega (arith, leb-true a.depth s.depth e, ltb-true s.depth a.depth d))
    by_test true e false d = refl
    by_test false e true d = refl
    by_test false e false d = absurd (omega (arith, leb-false a.depth s.depth e, ltb-false s.depth a.depth d))

-- both sides of what follows, by how the depths compare
abbrev left_by : (sx le ax : Bool) (a s x : Signal) (xs first behind both : List Signal) → List Signal
left_by true le ax a s x xs first behind both = insert_here le a s (x ∷ xs) (insert_here ax a x xs first)
left_by false le ax a s x xs first behind both = insert_here ax a x behind both

abbrev right_by : (ax sa sx : Bool) (a s x : Signal) (xs first behind both : List Signal) → List Signal
right_by true sa sx a s x xs first behind both = before_here sa s a (x ∷ xs) (before_here sx s x xs behind)
right_by false sa sx a s x xs first behind both = before_here sx s x first both

sides-meet : (a s x : Signal) (xs first behind one other : List Signal) → one ≡ other → (sx : Bool) → nat_lt s.depth x.depth ≡ sx → (ax : Bool) → nat_le a.depth x.depth ≡ ax → (le : Bool) →
    nat_le a.depth s.depth ≡ le →
    (lt : Bool) → nat_lt s.depth a.depth ≡ lt → left_by sx le ax a s x xs first behind one ≡ right_by ax lt sx a s x xs first behind other
sides-meet a s x xs first behind one other e true sx true ax true le true lt = absurd (omega (arith, leb-true a.depth s.depth le, ltb-true s.depth a.depth lt))
sides-meet a s x xs first behind one other e true sx true ax true le false lt = refl
sides-meet a s x xs first behind one other e true sx true ax false le true lt = refl
sides-meet a s x xs first behind one other e true sx true ax false le false lt = absurd (omega (arith, leb-false a.depth s.depth le, ltb-false s.depth a.depth lt))
sides-meet a s x xs first behind one other e true sx false ax true le lesser lt = absurd (omega (arith, ltb-true s.depth x.depth sx, leb-false a.depth x.depth ax, leb-true a.depth s.depth le))
sides-meet a s x xs first behind one other e true sx false ax false le lesser lt = refl
sides-meet a s x xs first behind one other e false sx true ax true le true lt = absurd (omega (arith, leb-true a.depth s.depth le, ltb-true s.depth a.depth lt))
sides-meet a s x xs first behind one other e false sx true ax true le false lt = refl
sides-meet a s x xs first behind one other e false sx true ax false le lesser lt = absurd (omega (arith, ltb-false s.depth x.depth sx, leb-true a.depth x.depth ax, leb-false a.depth s.depth le))
sides-meet a s x xs first behind one other e false sx false ax le d lesser lt = ap (λ l. x ∷ l) e

-- putting an earlier signal in and a later one behind don't hinder each other
inserts-commute : (a s : Signal) (l : List Signal) → insert_by_depth a (insert_behind s l) ≡ insert_behind s (insert_by_depth a l)
inserts-commute a s [] = one-behind a s
inserts-commute a s (x ∷ xs) =
    let first = insert_by_depth a xs in
    let behind = insert_behind s xs in
    left (nat_lt s.depth x.depth)
    ∙ sides-meet a s x xs first behind (insert_by_depth a behind) (insert_behind s first) (inserts-commute a s xs) (nat_lt s.depth x.depth) refl (nat_le a.depth x.depth) refl
    (nat_le a.depth s.depth) refl (nat_lt s.depth a.depth) refl
    ∙ right (nat_le a.depth x.depth)
  where
    left : (sx : Bool) → insert_by_depth a (before_here sx s x xs (insert_behind s xs)) ≡ left_by sx (nat_le a.depth s.depth) (nat_le a.depth x.depth) a s x xs (insert_by_depth a xs)
        (insert_behind s xs) (insert_by_depth a (insert_behind s xs))
    left true = refl
    left false = refl

    right : (ax : Bool) → right_by ax (nat_lt s.depth a.depth) (nat_lt s.depth x.depth) a s x xs (insert_by_depth a xs) (insert_behind s xs)
        (insert_behind s (insert_by_depth a xs)) ≡ insert_behind s (insert_here ax a x xs (insert_by_depth a xs))
    right true = refl
    right false = refl

-- a signal that comes later in the walk stands behind those of its depth
pub by_depth-more : (signals : List Signal) (s : Signal) → by_depth (signals ++ s ∷ []) ≡ insert_behind s (by_depth signals)
by_depth-more [] s = refl
by_depth-more (a ∷ signals) s = ap (insert_by_depth a) (by_depth-more signals s) ∙ inserts-commute a s (by_depth signals)

-- The two that come first

-- the first of a list and the one behind it
abbrev pub FirstTwo : Type 0
FirstTwo = Option (Signal × Option Signal)

abbrev pub first_two : List Signal → FirstTwo
first_two [] = None
first_two (x ∷ []) = Some (x, None)
first_two (x ∷ y ∷ rest) = Some (x, Some y)

abbrev pub sooner_if : Bool → Signal → Signal → Signal
sooner_if true signal other = signal
sooner_if false signal other = other

-- the one of two that stands less deep; the other one, where they stand as deep
abbrev pub sooner : Signal → Option Signal → Signal
sooner signal None = signal
sooner signal (Some other) = sooner_if (nat_lt signal.depth other.depth) signal other

abbrev pub second_with : Bool → Signal → Signal × Option Signal → FirstTwo
second_with true signal two = Some (signal, Some two.0)
second_with false signal two = Some (two.0, Some (sooner signal two.1))

-- the first two with one more that comes later in the walk
abbrev pub with_one : FirstTwo → Signal → FirstTwo
with_one None signal = Some (signal, None)
with_one (Some two) signal = second_with (nat_lt signal.depth two.0.depth) signal two

first-behind : (s : Signal) (l : List Signal) → first_two (insert_behind s l) ≡ with_one (first_two l) s
first-behind s [] = refl
first-behind s (x ∷ []) = by_test (nat_lt s.depth x.depth)
  where
    by_test : (test : Bool) → first_two (before_here test s x [] (s ∷ [])) ≡ second_with test s (x, None)
    by_test true = refl
    by_test false = refl
first-behind s (x ∷ y ∷ rest) = by_test (nat_lt s.depth x.depth) (nat_lt s.depth y.depth) ∙ meant (nat_lt s.depth x.depth)
  where
    by_second : Bool → Bool → FirstTwo
    by_second true other = Some (s, Some x)
    by_second false other = Some (x, Some (sooner_if other s y))

    by_test : (test other : Bool) → first_two (before_here test s x (y ∷ rest) (before_here other s y rest (insert_behind s rest))) ≡ by_second test other
    by_test true other = refl
    by_test false true = refl
    by_test false false = refl

    meant : (test : Bool) → by_second test (nat_lt s.depth y.depth) ≡ second_with test s (x, Some y)
    meant true = refl
    meant false = refl

-- the first two by depth, by one pass
pub first_two-more : (signals : List Signal) (s : Signal) → first_two (by_depth (signals ++ s ∷ [])) ≡ with_one (first_two (by_depth signals)) s
first_two-more signals s = ap first_two (by_depth-more signals s) ∙ first-behind s (by_depth signals)
