-- Objects of the code as those of a walk.
use Rattle.std.specs.Prelude.{List, map, option_map}
use Rattle.vf_base.specs.Base.{source_place}
use Rattle.v_design.specs.Plain.{object_of}
use Rattle.v_ports.specs.Pieces.{DriveOfRun}
use Rattle.v_elab.specs.Objects as plain
use Rattle.elab_wires.specs.declared.object_drive.ObjectDrive.{ObjectDrive}
use Rattle.elab_objects.specs.declared.object.PieceDriver.{PieceDriver}
use Rattle.elab_objects.specs.declared.object.HeldObject.{HeldObject}

abbrev pub driver_of : PieceDriver → plain.PieceDriver
driver_of d = record { node = d.node; place = d.place }

-- an object has the name whose bits it holds
abbrev pub held_of : HeldObject → plain.HeldObject
held_of h = record { holder = h.object.name; object = object_of h.object; driver = option_map driver_of h.driver }

abbrev pub held_objects : List HeldObject → List plain.HeldObject
held_objects objects = map held_of objects

-- the run of bits that a select drives
abbrev pub run_drive : ObjectDrive → DriveOfRun
run_drive d = record { low = d.bits.low; width = d.bits.width; place = source_place d.place }
