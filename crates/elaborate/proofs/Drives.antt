-- What the tables of drives and driving variables say of the parts (IEEE 1364-2001, clause 6.1).
use Rattle.std.proofs.Common.{◌≡◌, List, None, sym, ap, ap₂, subst, ◌∙◌}
use Rattle.std.specs.Prelude.{flat_map}
use Rattle.vf_base.specs.Lists.{AllHold}
use Rattle.v_tree.specs.Trees.{Identifier}
use Rattle.v_elab.specs.Parts.{Signal, Part}
use Rattle.v_elab.specs.Drivers.{signals_of, WalkedNode, ObjectDrive, two_drivers}
use Rattle.v_elab.specs.Objects.{objects_of_parts}
use Rattle.elab_wires.specs.Drives.{all_drives}
use Rattle.elab_wires.specs.Depths.{all_driving}
use Rattle.elab_objects.specs.Driven.{PartHasOneDriver, part_objects_by, parts-driven, objects-by}
use Rattle.driver_checks.specs.TwoDrivers.{two_drivers_by, two-drivers-by}

-- the tables of the parts and of some nodes
pub record AreDrives (parts : List Part) (nodes : List WalkedNode) (drives : List (Identifier × ObjectDrive)) (driving : List (Identifier × Signal)) : Type 0 where
  pub drives_are : drives ≡ all_drives (signals_of parts) 0 nodes
  pub driving_are : driving ≡ all_driving (signals_of parts) nodes (signals_of parts)

pub are-drives : (parts : List Part) (nodes : List WalkedNode) (signals : List Signal) (drives : List (Identifier × ObjectDrive)) (driving : List (Identifier × Signal)) →
    signals ≡ signals_of parts → drives ≡ all_drives signals 0 nodes →
    driving ≡ all_driving signals nodes signals → AreDrives parts nodes drives driving
are-drives parts nodes signals drives driving are listed found =
    record { drives_are = listed ∙ ap (λ s. all_drives s 0 nodes) are; driving_are = found ∙ ap (λ s. all_driving s nodes s) are }

pub two-by : (parts : List Part) (nodes : List WalkedNode) (drives : List (Identifier × ObjectDrive)) (driving : List (Identifier × Signal)) → AreDrives parts nodes drives driving →
    two_drivers_by drives driving (signals_of parts) ≡ two_drivers (signals_of parts) nodes
two-by parts nodes drives driving are = ap₂ (λ d g. two_drivers_by d g (signals_of parts)) are.drives_are are.driving_are ∙ two-drivers-by (signals_of parts) nodes

pub driven-by : (parts : List Part) (nodes : List WalkedNode) (drives : List (Identifier × ObjectDrive)) (driving : List (Identifier × Signal)) → AreDrives parts nodes drives driving →
    two_drivers (signals_of parts) nodes ≡ None →
    AllHold (PartHasOneDriver drives driving) parts
driven-by parts nodes drives driving are once =
    subst (λ d. AllHold (PartHasOneDriver d driving) parts) (sym are.drives_are)
    (subst (λ g. AllHold (PartHasOneDriver (all_drives (signals_of parts) 0 nodes) g) parts) (sym are.driving_are) (parts-driven parts nodes once))

pub held-by : (parts : List Part) (nodes : List WalkedNode) (drives : List (Identifier × ObjectDrive)) (driving : List (Identifier × Signal)) → AreDrives parts nodes drives driving →
    flat_map (part_objects_by drives driving) parts ≡ objects_of_parts parts nodes
held-by parts nodes drives driving are = ap₂ (λ d g. flat_map (part_objects_by d g) parts) are.drives_are are.driving_are ∙ objects-by parts nodes
