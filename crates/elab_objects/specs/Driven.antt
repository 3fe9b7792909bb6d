-- The objects of parts, from the drives and the driving variables under the names of objects (IEEE 1364-2001, clause 6.1).
use Rattle.std.proofs.Common.{◌≡◌, ℕ, Bool, true, false, List, [], ◌∷◌, ◌++◌, map, Option, Some, None, refl, sym, ap, ap₂, ◌∙◌}
use Rattle.std.specs.Prelude.{nat_lt, flat_map, filter, cond}
use Rattle.std.specs.Borrow.{Bor}
use Rattle.vf_base.specs.Lists.{AllHold}
use Rattle.v_names.specs.Scopes.{range_width}
use Rattle.v_elab.specs.Refusals.{Refusal}
use Rattle.v_tree.specs.Trees.{Identifier}
use Rattle.v_ports.specs.Pieces.{second_driver, SecondDriver}
use Rattle.v_elab.specs.Parts.{Signal, Part, SignalPart, MemoryPart, AssignPart, GatePart, ProcessPart, InstancePart, refusal_or}
use Rattle.v_elab.specs.Drivers.{signals_of, is_unjoined, WalkedNode, by_depth, driving_variables, ObjectDrive, object_drives, run_of, taken_bits, refusal_of, second_variable, signal_two_drivers}
use Rattle.v_elab.specs.Drivers.{first_two_drivers, two_drivers}
use Rattle.v_elab.specs.Objects.{HeldObject, pieces_or_variable, variable_object, signal_objects, word_objects, part_objects, objects_of_parts}
use Rattle.key_index.specs.Groups.{items_under, first_of}
use Rattle.elab_wires.specs.Drives.{all_drives, object-under}
use Rattle.elab_wires.specs.Depths.{all_driving, driving-by-depth, before_here, insert_behind, by_depth-more, sooner_if, sooner}
use Rattle.elab_parts.specs.PartViews.{signal_of}
use Rattle.elab_parts.specs.declared.signal.Signal as code

-- The first by depth

-- a variable under its object's name, of the code
abbrev pub driving_keyed : List ℕ × Bor code.Signal → Identifier × Signal
driving_keyed p = (p.0, signal_of p.1.now)

abbrev pub first_by_depth : List Signal → Option Signal
first_by_depth signals = first_of (by_depth signals)

first-behind : (s : Signal) (l : List Signal) → first_of (insert_behind s l) ≡ Some (sooner s (first_of l))
first-behind s [] = refl
first-behind s (x ∷ l) = by_test (nat_lt s.depth x.depth)
  where
    by_test : (test : Bool) → first_of (before_here test s x l (insert_behind s l)) ≡ Some (sooner_if test s x)
    by_test true = refl
    by_test false = refl

-- one signal more
pub first-more : (signals : List Signal) (s : Signal) → first_by_depth (signals ++ s ∷ []) ≡ Some (sooner s (first_by_depth signals))
first-more signals s = ap first_of (by_depth-more signals s) ∙ first-behind s (by_depth signals)

-- Objects of a name

-- the objects of a name: that of the variable that drives it first, else the pieces of a net
abbrev pub objects_by : List (Identifier × ObjectDrive) → List (Identifier × Signal) → Signal → List HeldObject
objects_by drives driving signal = pieces_or_variable signal (items_under drives signal.name) (by_depth (items_under driving signal.name))

-- of a net no bit has two drivers
abbrev pub HasOneDriver : List (Identifier × ObjectDrive) → List (Identifier × Signal) → Signal → Type 0
HasOneDriver drives driving signal = first_by_depth (items_under driving signal.name) ≡ None → second_driver [] (map run_of (items_under drives signal.name)) ≡ None

pub variable-is : (signal first : Signal) (drives : List ObjectDrive) (driving : List Signal) → Some first ≡ first_by_depth driving →
    variable_object signal first ∷ [] ≡ pieces_or_variable signal drives (by_depth driving)
variable-is signal first drives driving e = by_list (by_depth driving) e
  where
    by_list : (l : List Signal) → Some first ≡ first_of l → variable_object signal first ∷ [] ≡ pieces_or_variable signal drives l
    by_list [] d = absurd (cc)
    by_list (x ∷ l) d = let same : first ≡ x = cc in ap (λ f. variable_object signal f ∷ []) same

pub net-is : (signal : Signal) (drives : List ObjectDrive) (driving : List Signal) → None ≡ first_by_depth driving →
    pieces_or_variable signal drives [] ≡ pieces_or_variable signal drives (by_depth driving)
net-is signal drives driving e = by_list (by_depth driving) e
  where
    by_list : (l : List Signal) → None ≡ first_of l → pieces_or_variable signal drives [] ≡ pieces_or_variable signal drives l
    by_list [] d = refl
    by_list (x ∷ l) d = absurd (cc)

-- Objects of parts

abbrev pub objects_if : Bool → List HeldObject → List HeldObject
objects_if true objects = objects
objects_if false objects = []

abbrev pub part_objects_by : List (Identifier × ObjectDrive) → List (Identifier × Signal) → Part → List HeldObject
part_objects_by drives driving (SignalPart signal) = objects_if (is_unjoined signal) (objects_by drives driving signal)
part_objects_by drives driving (MemoryPart memory) = word_objects memory
part_objects_by drives driving _ = []

-- a part that is a net with pieces of its own has one driver for each bit
abbrev pub PartHasOneDriver : List (Identifier × ObjectDrive) → List (Identifier × Signal) → Part → Type 0
PartHasOneDriver drives driving (SignalPart signal) = is_unjoined signal ≡ true → HasOneDriver drives driving signal
PartHasOneDriver drives driving _ = Unit {0}

-- with the drives and the driving variables of a walk these are the objects of the definition
part-by : (signals : List Signal) (nodes : List WalkedNode) (part : Part) → part_objects_by (all_drives signals 0 nodes) (all_driving signals nodes signals) part ≡ part_objects signals nodes part
part-by signals nodes (SignalPart signal) =
    ap₂ (λ drives driving. objects_if (is_unjoined signal) (pieces_or_variable signal drives driving)) (object-under signals nodes signal.name) (driving-by-depth signals nodes signal.name)
    ∙ by_test (is_unjoined signal)
  where
    by_test : (test : Bool) → objects_if test (pieces_or_variable signal (object_drives signals nodes signal.name) (driving_variables signals nodes signal.name)) ≡ signal_objects signals nodes test
        signal
    by_test true = refl
    by_test false = refl
part-by signals nodes (MemoryPart memory) = refl
part-by signals nodes (AssignPart drives value) = refl
part-by signals nodes (GatePart name kind drives path terminals) = refl
part-by signals nodes (ProcessPart process) = refl
part-by signals nodes InstancePart = refl

all-by : (signals : List Signal) (nodes : List WalkedNode) (parts : List Part) → flat_map (part_objects_by (all_drives signals 0 nodes) (all_driving signals nodes signals)) parts ≡ flat_map
    (part_objects signals nodes) parts
all-by signals nodes [] = refl
all-by signals nodes (part ∷ parts) = ap₂ (λ a b. a ++ b) (part-by signals nodes part) (all-by signals nodes parts)

pub objects-by : (parts : List Part) (nodes : List WalkedNode) →
    flat_map (part_objects_by (all_drives (signals_of parts) 0 nodes) (all_driving (signals_of parts) nodes (signals_of parts))) parts ≡ objects_of_parts parts nodes
objects-by parts nodes = all-by (signals_of parts) nodes parts

-- Walks in which no object has two drivers

refusal-none : (one other : Option Refusal) → refusal_or one other ≡ None → (one ≡ None) × (other ≡ None)
refusal-none None other e = (refl, e)
refusal-none (Some refusal) other e = absurd (cc)

second-none : (second : Option SecondDriver) → refusal_of second ≡ None → second ≡ None
second-none None e = refl
second-none (Some second) e = absurd (cc)

-- where no variable drives, no bit is taken
none-taken : (width : ℕ) (driving : List Signal) → first_of driving ≡ None → taken_bits width driving ≡ []
none-taken width [] e = refl
none-taken width (first ∷ rest) e = absurd (cc)

signal-driven : (signals : List Signal) (nodes : List WalkedNode) (signal : Signal) → signal_two_drivers signals nodes signal ≡ None →
    HasOneDriver (all_drives signals 0 nodes) (all_driving signals nodes signals) signal
signal-driven signals nodes signal e none =
    let driving = driving_variables signals nodes signal.name in
    let runs = map run_of (object_drives signals nodes signal.name) in
    let second : second_driver (taken_bits (range_width signal.range) driving) runs ≡ None =
    second-none _ (refusal-none (second_variable driving) (refusal_of (second_driver (taken_bits (range_width signal.range) driving) runs)) e).1 in
    let taken : taken_bits (range_width signal.range) driving ≡ [] = none-taken (range_width signal.range) driving (ap first_of (sym (driving-by-depth signals nodes signal.name)) ∙ none) in
    ap (λ ds. second_driver [] (map run_of ds)) (object-under signals nodes signal.name) ∙ (ap (λ bits. second_driver bits runs) (sym taken) ∙ second)

some-driven : (signals : List Signal) (nodes : List WalkedNode) (parts : List Part) → first_two_drivers signals nodes (filter is_unjoined (signals_of parts)) ≡ None →
    AllHold (PartHasOneDriver (all_drives signals 0 nodes) (all_driving signals nodes signals)) parts
some-driven signals nodes [] e = tt
some-driven signals nodes (SignalPart signal ∷ parts) e = by_test (is_unjoined signal) refl e (λ d. some-driven signals nodes parts d)
  where
    by_test : (test : Bool) → is_unjoined signal ≡ test → first_two_drivers signals nodes (cond test (signal ∷ filter is_unjoined (signals_of parts)) (filter is_unjoined (signals_of parts))) ≡ None →
        (first_two_drivers signals nodes (filter is_unjoined (signals_of parts)) ≡ None → AllHold (PartHasOneDriver (all_drives signals 0 nodes) (all_driving signals nodes signals)) parts) →
        (is_unjoined signal ≡ true → HasOneDriver (all_drives signals 0 nodes) (all_driving signals nodes signals) signal)
        × AllHold (PartHasOneDriver (all_drives signals 0 nodes) (all_driving signals nodes signals)) parts
    by_test true is d rest = let none = refusal-none (signal_two_drivers signals nodes signal) (first_two_drivers signals nodes (filter is_unjoined (signals_of parts))) d in
        ((λ t. signal-driven signals nodes signal none.0), rest none.1)
    by_test false is d rest = ((λ t. absurd (cc)), rest d)
some-driven signals nodes (MemoryPart memory ∷ parts) e = (tt, some-driven signals nodes parts e)
some-driven signals nodes (AssignPart drives value ∷ parts) e = (tt, some-driven signals nodes parts e)
some-driven signals nodes (GatePart name kind drives path terminals ∷ parts) e = (tt, some-driven signals nodes parts e)
some-driven signals nodes (ProcessPart process ∷ parts) e = (tt, some-driven signals nodes parts e)
some-driven signals nodes (InstancePart ∷ parts) e = (tt, some-driven signals nodes parts e)

-- with the drives and the driving variables of a walk in which no object has two drivers, each part has one driver
pub parts-driven : (parts : List Part) (nodes : List WalkedNode) → two_drivers (signals_of parts) nodes ≡ None →
    AllHold (PartHasOneDriver (all_drives (signals_of parts) 0 nodes) (all_driving (signals_of parts) nodes (signals_of parts))) parts
parts-driven parts nodes none = some-driven (signals_of parts) nodes parts none
