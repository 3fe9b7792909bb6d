-- A net of the code is cut into pieces as the definition cuts it (IEEE 1364-2001, clause 6.1).
use Rattle.std.proofs.Common.{◌≡◌, ℕ, ◌<◌, ◌≤◌, List, [], ◌∷◌, length, map, get_or, Some, None, Ok, refl, sym, ap, ap₂, ◌∙◌}
use Rattle.std.specs.Prelude.{option_map}
use Rattle.std.proofs.lemmas.Option.{slice_get-map, slice_get-get_or, slice_get_past}
use Rattle.vf_base.specs.Base.{source_place}
use Rattle.v_ports.specs.Pieces.{second_driver, pieces_of, run_of_drive, cut_pieces}
use Rattle.v_elab.specs.Drivers.{run_of}
use Rattle.v_elab.specs.Objects.{drive_numbered}
use Rattle.elab_wires.specs.DriveViews.{object_drive_of}
use Rattle.elab_wires.specs.declared.object_drive.ObjectDrive.{ObjectDrive}
use Rattle.elab_wires.specs.Clipped.{run-bits, clipped, pieces-are, numbered-at}
use Rattle.elab_objects.specs.ObjectViews.{run_drive}

run-is : (d : ObjectDrive) → run_of (object_drive_of d) ≡ run_of_drive (run_drive d)
run-is d = ap (λ bits. record { bits = bits; place = source_place d.place }) (run-bits d.bits.outside_below d.bits.low d.bits.width d.bits.outside_above)

-- the runs of drives
pub runs-are : (drives : List ObjectDrive) → map run_of (map object_drive_of drives) ≡ map run_of_drive (map run_drive drives)
runs-are [] = refl
runs-are (d ∷ drives) = ap₂ (λ r rest. r ∷ rest) (run-is d) (runs-are drives)

-- where no bit has two drivers, what is left of the drives cuts the net
pub cut-is : (width : ℕ) (drives : List ObjectDrive) → second_driver [] (map run_of (map object_drive_of drives)) ≡ None →
    cut_pieces width (map (clipped width) (map run_drive drives)) ≡ Ok (pieces_of width (map run_of (map object_drive_of drives)))
cut-is width drives none =
    pieces-are width (map run_drive drives) (ap (second_driver []) (sym (runs-are drives)) ∙ none) ∙ ap (λ runs. Ok (pieces_of width runs)) (sym (runs-are drives))

-- a drive of the code by its number
pub drive-at : (drives : List ObjectDrive) (number : ℕ) (d : ObjectDrive) → number < length drives → d ≡ get_or drives number d →
    drive_numbered (map object_drive_of drives) number ≡ Some (object_drive_of d)
drive-at drives number d low is =
    numbered-at (map object_drive_of drives) number ∙ (slice_get-map object_drive_of drives number ∙ (ap (option_map object_drive_of) (slice_get-get_or drives number d low ∙ ap Some (sym is))))

pub drive-past : (drives : List ObjectDrive) (number : ℕ) → length drives ≤ number → drive_numbered (map object_drive_of drives) number ≡ None
drive-past drives number past = numbered-at (map object_drive_of drives) number ∙ (slice_get-map object_drive_of drives number ∙ ap (option_map object_drive_of) (slice_get_past drives number past))
