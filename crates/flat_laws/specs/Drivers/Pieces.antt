-- Laws on the pieces of a net: they stand behind one another from its least bit to its last (IEEE 1364-2001, clause 6.1; that a net is cut by its drivers is own).
use Rattle.std.proofs.Common.{◌≡◌, ℕ, zero, suc, ◌+◌, ◌≤◌, Bool, true, false, List, [], ◌∷◌, Option, refl, subst, arith}
use Rattle.std.specs.Prelude.{sum_by}
use Rattle.std.proofs.lemmas.List.Sums.{sum_by-cons}
use Rattle.vf_base.specs.Lists.{AllHold}
use Rattle.v_design.specs.Expressions.{up_from}
use Rattle.v_ports.specs.Pieces.{DrivenRun, driver_of_bit, CutPiece, same_driver, grown_or_new, bit_before, pieces_from, pieces_of}

-- pieces from one bit up to another, each with a bit at least
abbrev pub Tile : ℕ → ℕ → List CutPiece → Type 0
Tile from to [] = from ≡ to
Tile from to (piece ∷ pieces) = (piece.low ≡ from) × (1 ≤ piece.width) × Tile (from + piece.width) to pieces

grown-tile : (same : Bool) (bit to : ℕ) (driver : Option ℕ) (next : CutPiece) (pieces : List CutPiece) → Tile (bit + 1) to (next ∷ pieces) → Tile bit to (grown_or_new same bit driver next pieces)
grown-tile true bit to driver next pieces h =
    let moved : (bit + 1) + next.width ≡ bit + (next.width + 1) = omega arith in (refl, omega arith, subst (λ from. Tile from to pieces) moved h.2)
grown-tile false bit to driver next pieces h = (refl, omega arith, h)

before-tile : (bit to : ℕ) (driver : Option ℕ) (pieces : List CutPiece) → Tile (bit + 1) to pieces → Tile bit to (bit_before bit driver pieces)
before-tile bit to driver [] h = (refl, omega arith, h)
before-tile bit to driver (next ∷ pieces) h = grown-tile (same_driver driver next.driver) bit to driver next pieces h

pub from-tile : (runs : List DrivenRun) (start count : ℕ) → Tile start (start + count) (pieces_from runs (up_from start count))
from-tile runs start zero = omega arith
from-tile runs start (suc count) =
    let same : (start + 1) + count ≡ start + suc count = omega arith in
    before-tile start (start + suc count) (driver_of_bit 0 runs start) (pieces_from runs (up_from (start + 1) count))
    (subst (λ to. Tile (start + 1) to (pieces_from runs (up_from (start + 1) count))) same (from-tile runs (start + 1) count))

-- the pieces of a net
pub pieces-tile : (width : ℕ) (runs : List DrivenRun) → Tile 0 width (pieces_of width runs)
pieces-tile width runs = let same : 0 + width ≡ width = omega arith in subst (λ to. Tile 0 to (pieces_of width runs)) same (from-tile runs 0 width)

-- they have its bits together
tile-width : (from to : ℕ) (pieces : List CutPiece) → Tile from to pieces → from + sum_by (λ (piece : CutPiece). piece.width) pieces ≡ to
tile-width from to [] h = omega (arith, h)
tile-width from to (piece ∷ pieces) h = omega (arith, sum_by-cons (λ (p : CutPiece). p.width) piece pieces, tile-width (from + piece.width) to pieces h.2)

pub pieces-width : (width : ℕ) (runs : List DrivenRun) → sum_by (λ (piece : CutPiece). piece.width) (pieces_of width runs) ≡ width
pieces-width width runs = let all = tile-width 0 width (pieces_of width runs) (pieces-tile width runs) in omega (arith, all)

-- and each stands within it
tile-within : (from to : ℕ) (pieces : List CutPiece) → Tile from to pieces → AllHold (λ (piece : CutPiece). (1 ≤ piece.width) × (piece.low + piece.width ≤ to)) pieces
tile-within from to [] h = tt
tile-within from to (piece ∷ pieces) h =
    let low = h.0 in
    let rest = tile-width (from + piece.width) to pieces h.2 in
    ((h.1, omega (arith, low, rest)), tile-within (from + piece.width) to pieces h.2)

pub pieces-within : (width : ℕ) (runs : List DrivenRun) → AllHold (λ (piece : CutPiece). (1 ≤ piece.width) × (piece.low + piece.width ≤ width)) (pieces_of width runs)
pieces-within width runs = tile-within 0 width (pieces_of width runs) (pieces-tile width runs)
