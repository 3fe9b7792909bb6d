-- A net's bits with their drivers as the code keeps them (nothing of the language).
use Rattle.std.specs.Prelude.{◌≡◌, ℕ, suc, ◌+◌, cond, Bool, true, false, List, [], ◌∷◌, ◌++◌, map, Option, Some, None, Result, Ok, Err, get_or, slice_set, is_some}
use Rattle.std.specs.declared.alloc.Global.{Global}
use Rattle.std.specs.declared.vec.Vec.{Vec}
use Rattle.vf_base.specs.Base.{source_place}
use Rattle.v_design.specs.Expressions.{up_from}
use Rattle.v_ports.specs.Pieces.{DrivenRun, SecondDriver, second_driver, driver_of_bit, CutPiece, same_driver, bit_before, DriveOfRun}
use Rattle.v_ports.specs.declared.cut.Drive.{Drive}
use Rattle.v_ports.specs.declared.cut.Piece.{Piece}
use Rattle.v_ports.specs.declared.fault.PortFault.{PortFault}
use Rattle.v_ports.specs.declared.fault.PortFault.TheVariants.{PortMismatch, TwoDrivers, NoMemory}

-- a drive of the code
abbrev pub drive_of : Drive → DriveOfRun
drive_of d = record { low = d.low; width = d.width; place = source_place d.place }

-- a piece of the code
abbrev pub piece_of : Piece → CutPiece
piece_of p = record { low = p.low; width = p.width; driver = p.driver }

-- the driver of a bit, by the drivers of all bits
abbrev pub owner_at : List (Option ℕ) → ℕ → Option ℕ
owner_at owners bit = get_or owners bit None

-- the first of some bits that has a driver
abbrev pub first_owned : List (Option ℕ) → List ℕ → Option ℕ
first_owned owners [] = None
first_owned owners (bit ∷ bits) = cond (is_some (owner_at owners bit)) (Some bit) (first_owned owners bits)

-- the drivers of all bits, where some bits get a driver
abbrev pub owned_after : ℕ → List (Option ℕ) → List ℕ → List (Option ℕ)
owned_after number owners [] = owners
owned_after number owners (bit ∷ bits) = owned_after number (slice_set owners bit (Some number)) bits

-- how many bits from the first on have the same driver as one in front of them
abbrev pub leading : Option ℕ → List (Option ℕ) → ℕ
leading driver [] = 0
leading driver (owner ∷ owners) = cond (same_driver driver owner) (suc (leading driver owners)) 0

-- how many bits the first run has
abbrev pub first_run : List (Option ℕ) → ℕ
first_run [] = 0
first_run (owner ∷ owners) = suc (leading owner owners)

-- the pieces of bits with these drivers, the first of which is a bit of a number
abbrev pub cut_from : ℕ → List (Option ℕ) → List CutPiece
cut_from bit [] = []
cut_from bit (owner ∷ owners) = bit_before bit owner (cut_from (bit + 1) owners)

-- the code's owners are the drivers of the bits, where no bit has two; else the fault is the second driver
abbrev pub OwnersGive : ℕ → List DrivenRun → Result (Vec (Option ℕ) Global) PortFault → Type 0
OwnersGive width runs (Ok owners) = (second_driver [] runs ≡ None) × (owners.items ≡ map (driver_of_bit 0 runs) (up_from 0 width))
OwnersGive width runs (Err NoMemory) = Unit {0}
OwnersGive width runs (Err (TwoDrivers place bit)) = second_driver [] runs ≡ Some (record { place = source_place place; bit = bit })
OwnersGive width runs (Err (PortMismatch place)) = ⊥

-- the code's answer is the list of pieces, or the second driver and the bit, or there was no memory
abbrev pub PiecesGive : Result (List CutPiece) SecondDriver → Result (Vec Piece Global) PortFault → Type 0
PiecesGive (Ok pieces) (Ok answer) = map piece_of answer.items ≡ pieces
PiecesGive (Ok pieces) (Err NoMemory) = Unit {0}
PiecesGive (Ok pieces) (Err (PortMismatch place)) = ⊥
PiecesGive (Ok pieces) (Err (TwoDrivers place bit)) = ⊥
PiecesGive (Err second) (Ok answer) = ⊥
PiecesGive (Err second) (Err NoMemory) = Unit {0}
PiecesGive (Err second) (Err (PortMismatch place)) = ⊥
PiecesGive (Err second) (Err (TwoDrivers place bit)) = second ≡ record { place = source_place place; bit = bit }
