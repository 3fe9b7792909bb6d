-- Two drivers among parts, one part more at a time.
use Rattle.std.proofs.Common.{◌≡◌, ℕ, suc, ◌+◌, ◌<◌, List, [], ◌∷◌, ◌++◌, length, get_or, take, drop, map, filter, Option, Some, None, refl, sym, ap, ap₂, ◌∙◌, arith, drop-cons}
use Rattle.std.proofs.lemmas.List.{map-append, take-append-drop}
use Rattle.std.proofs.lemmas.List.Elements.{filter-append}
use Rattle.vf_base.specs.Base.{SourcePlace, source_place}
use Rattle.v_tree.specs.Trees.{Identifier}
use Rattle.v_elab.specs.Refusals as refusals
use Rattle.v_elab.specs.Refusals.{Refusal}
use Rattle.v_elab.specs.Parts as plain
use Rattle.v_elab.specs.Parts.{refusal_or}
use Rattle.v_ports.specs.Pieces.{second_driver}
use Rattle.v_names.specs.Scopes.{range_width}
use Rattle.v_elab.specs.Drivers.{signals_of, is_unjoined, ObjectDrive, by_depth, join_place, taken_bits, run_of, refusal_of}
use Rattle.key_index.specs.Groups.{items_under}
use Rattle.elab_parts.specs.PartViews.{part_of}
use Rattle.elab_parts.specs.declared.part.Part.{Part}
use Rattle.elab_wires.specs.Turns.{taken-more}
use Rattle.elab_wires.specs.PartLists.{signals-append}
use Rattle.driver_checks.specs.declared.fault.DriverFault.{DriverFault}
use Rattle.driver_checks.specs.declared.fault.DriverFault.TheVariants.{TwoDrivers, NoMemory}
use Rattle.driver_checks.specs.Seconds.{second_by_depth, second_refusal, second-refused}
use Rattle.driver_checks.specs.TwoDrivers.{two_among, signal_two_by, first_two_by, two_drivers_by, FaultGives}

-- The drivers of one object

-- a second variable that drives
pub second-found : (drives : List (Identifier × ObjectDrive)) (driving : List (Identifier × plain.Signal)) (s second : plain.Signal) (variables : List plain.Signal) (place : SourcePlace) →
    Some second ≡ second_by_depth variables →
    variables ≡ items_under driving s.name → place ≡ join_place second → signal_two_by drives driving s ≡ Some (refusals.TwoDrivers place 0)
second-found drives driving s second variables place e found at =
    ap (λ vs. two_among s (items_under drives s.name) (by_depth vs)) (sym found)
    ∙ ap (λ r. refusal_or r (refusal_of (second_driver (taken_bits (range_width s.range) (by_depth variables)) (map run_of (items_under drives s.name)))))
    (second-refused (by_depth variables) ∙ ap second_refusal (sym e))
    ∙ ap (λ p. Some (refusals.TwoDrivers p 0)) (sym at)

-- where there is none, the selects are what is left
pub selects-left : (drives : List (Identifier × ObjectDrive)) (driving : List (Identifier × plain.Signal)) (s : plain.Signal) (variables : List plain.Signal) (selects : List ObjectDrive) →
    None ≡ second_by_depth variables →
    variables ≡ items_under driving s.name → selects ≡ items_under drives s.name → signal_two_by drives driving s ≡ refusal_of
    (second_driver (taken_bits (range_width s.range) (by_depth variables)) (map run_of selects))
selects-left drives driving s variables selects none found under =
    ap₂ (λ ds vs. two_among s ds (by_depth vs)) (sym under) (sym found)
    ∙ ap (λ r. refusal_or r (refusal_of (second_driver (taken_bits (range_width s.range) (by_depth variables)) (map run_of selects))))
    (second-refused (by_depth variables) ∙ ap second_refusal (sym none))

-- Lists of objects

or-assoc : (one two three : Option Refusal) → refusal_or (refusal_or one two) three ≡ refusal_or one (refusal_or two three)
or-assoc None two three = refl
or-assoc (Some refusal) two three = refl

first-append : (drives : List (Identifier × ObjectDrive)) (driving : List (Identifier × plain.Signal)) (xs ys : List plain.Signal) →
    first_two_by drives driving (xs ++ ys) ≡ refusal_or (first_two_by drives driving xs) (first_two_by drives driving ys)
first-append drives driving [] ys = refl
first-append drives driving (s ∷ xs) ys =
    ap (refusal_or (signal_two_by drives driving s)) (first-append drives driving xs ys) ∙ sym
    (or-assoc (signal_two_by drives driving s) (first_two_by drives driving xs) (first_two_by drives driving ys))

-- two drivers among some parts
abbrev pub parts_two_by : List (Identifier × ObjectDrive) → List (Identifier × plain.Signal) → List plain.Part → Option Refusal
parts_two_by drives driving parts = two_drivers_by drives driving (signals_of parts)

parts-append : (drives : List (Identifier × ObjectDrive)) (driving : List (Identifier × plain.Signal)) (xs ys : List plain.Part) →
    parts_two_by drives driving (xs ++ ys) ≡ refusal_or (parts_two_by drives driving xs) (parts_two_by drives driving ys)
parts-append drives driving xs ys =
    ap (first_two_by drives driving) (ap (filter is_unjoined) (signals-append xs ys) ∙ filter-append is_unjoined (signals_of xs) (signals_of ys))
    ∙ first-append drives driving (filter is_unjoined (signals_of xs)) (filter is_unjoined (signals_of ys))

-- a part that has none
pub part-turn : (drives : List (Identifier × ObjectDrive)) (driving : List (Identifier × plain.Signal)) (xs : List Part) (i : ℕ) (x : Part) → i < length xs → x ≡ get_or xs i x →
    parts_two_by drives driving (map part_of (take i xs)) ≡ None →
    parts_two_by drives driving (part_of x ∷ []) ≡ None → parts_two_by drives driving (map part_of (take (i + 1) xs)) ≡ None
part-turn drives driving xs i x low is before here =
    ap (parts_two_by drives driving) (taken-more part_of xs i x low is) ∙ parts-append drives driving (map part_of (take i xs)) (part_of x ∷ []) ∙ ap₂ refusal_or before here

-- the first part that has two
parts-split : (xs : List Part) (i : ℕ) (x : Part) → i < length xs → x ≡ get_or xs i x → map part_of xs ≡ map part_of (take i xs) ++ ((part_of x ∷ []) ++ map part_of (drop (i + 1) xs))
parts-split xs i x low is =
    ap (map part_of) (sym (take-append-drop i xs)) ∙ map-append part_of (take i xs) (drop i xs)
    ∙ ap (λ l. map part_of (take i xs) ++ map part_of l) (drop-cons xs i x low ∙ ap₂ (λ y k. y ∷ drop k xs) (sym is) (let e : suc i ≡ i + 1 = omega arith in e))

from-part : (drives : List (Identifier × ObjectDrive)) (driving : List (Identifier × plain.Signal)) (xs : List Part) (i : ℕ) (x : Part) (refusal : Refusal) → i < length xs → x ≡ get_or xs i x →
    parts_two_by drives driving (map part_of (take i xs)) ≡ None → parts_two_by drives driving (part_of x ∷ []) ≡ Some refusal → parts_two_by drives driving (map part_of xs) ≡ Some refusal
from-part drives driving xs i x refusal low is before here =
    let rest = map part_of (drop (i + 1) xs) in
    ap (parts_two_by drives driving) (parts-split xs i x low is)
    ∙ parts-append drives driving (map part_of (take i xs)) ((part_of x ∷ []) ++ rest)
    ∙ ap₂ refusal_or before (parts-append drives driving (part_of x ∷ []) rest ∙ ap (λ one. refusal_or one (parts_two_by drives driving rest)) here)

pub fault-from : (drives : List (Identifier × ObjectDrive)) (driving : List (Identifier × plain.Signal)) (xs : List Part) (i : ℕ) (x : Part) (fault : DriverFault) → i < length xs → x ≡ get_or xs i x →
    parts_two_by drives driving (map part_of (take i xs)) ≡ None → FaultGives (parts_two_by drives driving (part_of x ∷ [])) fault → FaultGives (parts_two_by drives driving (map part_of xs)) fault
fault-from drives driving xs i x (TwoDrivers place bit) low is before here = from-part drives driving xs i x (refusals.TwoDrivers (source_place place) bit) low is before here
fault-from drives driving xs i x NoMemory low is before here = tt
