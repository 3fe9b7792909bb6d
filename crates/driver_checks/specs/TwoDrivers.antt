-- Two drivers of a bit, from the drives and the driving variables under the names of objects (IEEE 1364-2001, clause 6.1; that a bit has one driver at most is own).
use Rattle.std.proofs.Common.{◌≡◌, List, [], ◌∷◌, map, Option, Some, None, refl, ap, ap₂, ◌∙◌}
use Rattle.std.specs.Prelude.{filter}
use Rattle.vf_base.specs.Base.{source_place}
use Rattle.v_tree.specs.Trees.{Identifier}
use Rattle.v_names.specs.Scopes.{range_width}
use Rattle.v_ports.specs.Pieces.{second_driver}
use Rattle.v_elab.specs.Refusals as refusals
use Rattle.v_elab.specs.Refusals.{Refusal}
use Rattle.v_elab.specs.Parts.{Signal, refusal_or}
use Rattle.v_elab.specs.Drivers.{is_unjoined, WalkedNode, by_depth, ObjectDrive, run_of, taken_bits, refusal_of, second_variable, signal_two_drivers, first_two_drivers, two_drivers}
use Rattle.key_index.specs.Groups.{items_under}
use Rattle.elab_wires.specs.Drives.{all_drives, object-under}
use Rattle.elab_wires.specs.Depths.{all_driving, driving-by-depth}
use Rattle.driver_checks.specs.declared.fault.DriverFault.{DriverFault}
use Rattle.driver_checks.specs.declared.fault.DriverFault.TheVariants.{TwoDrivers, NoMemory}

-- two drivers among some drives and some variables of an object
abbrev pub two_among : Signal → List ObjectDrive → List Signal → Option Refusal
two_among signal drives variables = refusal_or (second_variable variables) (refusal_of (second_driver (taken_bits (range_width signal.range) variables) (map run_of drives)))

-- two drivers of the object that a signal is
abbrev pub signal_two_by : List (Identifier × ObjectDrive) → List (Identifier × Signal) → Signal → Option Refusal
signal_two_by drives driving signal = two_among signal (items_under drives signal.name) (by_depth (items_under driving signal.name))

abbrev pub first_two_by : List (Identifier × ObjectDrive) → List (Identifier × Signal) → List Signal → Option Refusal
first_two_by drives driving [] = None
first_two_by drives driving (signal ∷ rest) = refusal_or (signal_two_by drives driving signal) (first_two_by drives driving rest)

-- two drivers of the first object that has them
abbrev pub two_drivers_by : List (Identifier × ObjectDrive) → List (Identifier × Signal) → List Signal → Option Refusal
two_drivers_by drives driving signals = first_two_by drives driving (filter is_unjoined signals)

signal-by : (signals : List Signal) (nodes : List WalkedNode) (signal : Signal) → signal_two_by (all_drives signals 0 nodes)
    (all_driving signals nodes signals) signal ≡ signal_two_drivers signals nodes signal
signal-by signals nodes signal = ap₂ (two_among signal) (object-under signals nodes signal.name) (driving-by-depth signals nodes signal.name)

some-by : (signals : List Signal) (nodes : List WalkedNode) (some : List Signal) → first_two_by (all_drives signals 0 nodes)
    (all_driving signals nodes signals) some ≡ first_two_drivers signals nodes some
some-by signals nodes [] = refl
some-by signals nodes (signal ∷ rest) = ap₂ refusal_or (signal-by signals nodes signal) (some-by signals nodes rest)

-- with the drives and the driving variables of a walk these are the two drivers of the definition
pub two-drivers-by : (signals : List Signal) (nodes : List WalkedNode) → two_drivers_by (all_drives signals 0 nodes) (all_driving signals nodes signals) signals ≡ two_drivers signals nodes
two-drivers-by signals nodes = some-by signals nodes (filter is_unjoined signals)

-- the code's fault is the two drivers, or there was no memory
abbrev pub FaultGives : Option Refusal → DriverFault → Type 0
FaultGives refusal (TwoDrivers place bit) = refusal ≡ Some (refusals.TwoDrivers (source_place place) bit)
FaultGives refusal NoMemory = Unit {0}
