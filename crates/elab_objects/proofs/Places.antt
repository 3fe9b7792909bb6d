-- The place of a bit in a drive's value.
use Rattle.std.proofs.Common.{◌≡◌, ℕ, ◌+◌, ◌-◌, ◌<◌, ◌≤◌, List, [], ◌∷◌, ◌++◌, length, map, get_or, take, Option, Some, None, Result, Ok, Err, sym, ap, ◌∙◌, subst, ◌⊎◌}
use Rattle.std.specs.Prelude.{option_and_then, option_map}
use Rattle.std.specs.declared.alloc.Global.{Global}
use Rattle.std.specs.declared.vec.Vec.{Vec}
use Rattle.std.proofs.lemmas.Option.{slice_get-map, slice_get-get_or}
use Rattle.vf_base.specs.Lists.{AllHold}
use Rattle.graph_order.specs.ListLaws.{AllHold-slice_get}
use Rattle.v_ports.specs.Pieces.{CutPiece, DrivenRun, second_driver, pieces_of, DriveOfRun, cut_pieces}
use Rattle.v_ports.specs.Cuts.{piece_of, PiecesGive}
use Rattle.v_ports.specs.declared.cut.Piece.{Piece}
use Rattle.v_ports.specs.declared.fault.PortFault.{PortFault}
use Rattle.v_ports.specs.declared.fault.PortFault.TheVariants.{TwoDrivers}
use Rattle.vf_base.specs.declared.ids.Place.{Place}
use Rattle.v_elab.specs.Drivers.{run_of}
use Rattle.v_elab.specs.Objects.{HeldObject, PieceDriver, value_place, piece_driver, drive_numbered}
use Rattle.elab_wires.specs.DriveViews.{object_drive_of}
use Rattle.elab_wires.specs.declared.object_drive.ObjectDrive.{ObjectDrive}
use Rattle.std.proofs.lemmas.List.{map-append}
use Rattle.elab_wires.specs.Turns.{turn}
use Rattle.elab_wires.specs.Clipped.{clipped, bit-place, no-place, EndsBy, pieces-within}
use Rattle.elab_objects.specs.ObjectViews.{run_drive}
use Rattle.elab_objects.specs.PieceLaws.{drive-at, drive-past, cut-is}

pub placed : (drive : ObjectDrive) (bit place : ℕ) → drive.bits.low ≤ bit → bit < drive.bits.low + drive.bits.width → place ≡ drive.offset + (drive.bits.outside_below + (bit - drive.bits.low)) →
    Some place ≡ value_place bit (object_drive_of drive)
placed drive bit place low high is = ap Some is ∙ ap (λ found. option_and_then (λ at. Some (drive.offset + at)) found)
    (sym (bit-place bit drive.bits.outside_below drive.bits.low drive.bits.width drive.bits.outside_above low high))

pub no_place : (drive : ObjectDrive) (bit : ℕ) → (bit < drive.bits.low) ⊎ (drive.bits.low + drive.bits.width ≤ bit) → None ≡ value_place bit (object_drive_of drive)
no_place drive bit apart = ap (λ found. option_and_then (λ at. Some (drive.offset + at)) found)
    (sym (no-place bit drive.bits.outside_below drive.bits.low drive.bits.width drive.bits.outside_above apart))

-- The driver of a piece

driver-by : (drives : List ObjectDrive) (bit number : ℕ) (driver : Option ℕ) → driver ≡ Some number →
    piece_driver bit (option_and_then (drive_numbered (map object_drive_of drives)) driver) ≡ piece_driver bit (drive_numbered (map object_drive_of drives) number)
driver-by drives bit number driver is = ap (λ d. piece_driver bit (option_and_then (drive_numbered (map object_drive_of drives)) d)) is

pub driver-none : (drives : List ObjectDrive) (bit number : ℕ) (driver : Option ℕ) → driver ≡ Some number → length drives ≤ number →
    None ≡ piece_driver bit (option_and_then (drive_numbered (map object_drive_of drives)) driver)
driver-none drives bit number driver is past = sym (driver-by drives bit number driver is ∙ ap (piece_driver bit) (drive-past drives number past))

-- the node that drives a bit, with the bit's place in its value
abbrev pub driver_at : ObjectDrive → Option ℕ → Option PieceDriver
driver_at drive place = option_and_then (λ at. Some (record { node = drive.node; place = at })) place

pub driver-of : (drives : List ObjectDrive) (bit number : ℕ) (driver : Option ℕ) (drive : ObjectDrive) (place : Option ℕ) → driver ≡ Some number → number < length drives →
    drive ≡ get_or drives number drive →
    place ≡ value_place bit (object_drive_of drive) → driver_at drive place ≡ piece_driver bit (option_and_then (drive_numbered (map object_drive_of drives)) driver)
driver-of drives bit number driver drive place is low at found =
    ap (driver_at drive) found ∙ sym (driver-by drives bit number driver is ∙ ap (piece_driver bit) (drive-at drives number drive low at))

-- A net that is cut

pub pieces-given : (width : ℕ) (drives : List ObjectDrive) (cut : Vec Piece Global) (result : Result (Vec Piece Global) PortFault) (left : List DriveOfRun) →
    second_driver [] (map run_of (map object_drive_of drives)) ≡ None →
    left ≡ map (clipped width) (map run_drive drives) → result ≡ Ok cut → PiecesGive (cut_pieces width left) result → map piece_of cut.items ≡ pieces_of width (map run_of (map object_drive_of drives))
pieces-given width drives cut result left none is ok gives =
    let given : PiecesGive (cut_pieces width left) (Ok cut) = subst (PiecesGive (cut_pieces width left)) ok gives in
    subst (λ r. PiecesGive r (Ok cut)) (ap (cut_pieces width) is ∙ cut-is width drives none) given

-- where no bit has two drivers, none is told of
pub never-twice : (width : ℕ) (drives : List ObjectDrive) (result : Result (Vec Piece Global) PortFault) (left : List DriveOfRun) (fault : PortFault) (place : Place) (bit : ℕ) →
    second_driver [] (map run_of (map object_drive_of drives)) ≡ None →
    left ≡ map (clipped width) (map run_drive drives) → result ≡ Err fault → fault ≡ TwoDrivers place bit → PiecesGive (cut_pieces width left) result → ⊥
never-twice width drives result left fault place bit none is at which gives =
    let given : PiecesGive (cut_pieces width left) (Err (TwoDrivers place bit)) = subst (λ (f : PortFault). PiecesGive (cut_pieces width left) (Err f)) which
    (subst (PiecesGive (cut_pieces width left)) at gives) in
    subst (λ r. PiecesGive r (Err (TwoDrivers place bit))) (ap (cut_pieces width) is ∙ cut-is width drives none) given

-- Going through the pieces

pub piece-ends : (width : ℕ) (runs : List DrivenRun) (pieces : List Piece) (i : ℕ) (default : Piece) → map piece_of pieces ≡ pieces_of width runs → i < length pieces →
    EndsBy width (piece_of (get_or pieces i default))
piece-ends width runs pieces i default cut low =
    AllHold-slice_get (EndsBy width) (map piece_of pieces) i (piece_of (get_or pieces i default)) (subst (AllHold (EndsBy width)) (sym cut) (pieces-within width runs))
    (slice_get-map piece_of pieces i ∙ ap (option_map piece_of) (slice_get-get_or pieces i default low))

-- one piece more
pub pieces-turn : (f : CutPiece → HeldObject) (xs : List Piece) (i : ℕ) (default : Piece) (start old more : List HeldObject) → i < length xs → old ≡ start ++ map f (map piece_of (take i xs)) →
    more ≡ old ++ f (piece_of (get_or xs i default)) ∷ [] → more ≡ start ++ map f (map piece_of (take (i + 1) xs))
pieces-turn f xs i default start old more low had pushed =
    let x = get_or xs i default in
    let same : Some x ≡ Some (get_or xs i x) = sym (slice_get-get_or xs i default low) ∙ slice_get-get_or xs i x low in
    let is : x ≡ get_or xs i x = cc in
    turn piece_of (map f) (map-append f) xs i x start old more low is had pushed
