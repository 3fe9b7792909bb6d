-- The entries of the waits of a process (IEEE 1364-2001, clause 9.7).
use Rattle.std.specs.Prelude.{◌≡◌, ℕ, List, [], ◌∷◌, map, length, slice_get, get_or, Option, Some}
use Rattle.v_design.specs.Trees.{Piece, Entry}
use Rattle.v_design.specs.Plain.{entry_of}
use Rattle.v_design.specs.declared.tree.WaitEntry.{WaitEntry}
use Rattle.four_value.specs.declared.logic.Edge.TheVariants.{Any}
use Rattle.process_code.specs.Positions.{part_of_head}
use Rattle.process_code.specs.Points.{wait_entries}
use Rattle.process_code.specs.declared.code.Head.{Head}
use Rattle.process_code.specs.declared.code.Spot.{Spot}

-- any change of a piece
abbrev pub change_entry : Piece → Entry
change_entry piece = record { object = piece.object; low = 0; width = piece.width; edge = Any }

-- the entries of the wait that begins with what is first in a rest
abbrev pub head_entries : Head → List Entry
head_entries head = wait_entries (part_of_head head ∷ [])

-- for each spot the entries of the wait that begins there
pub record AreWaits (spots : List Spot) (waits : List (List WaitEntry)) : Type 0 where
  pub count : length waits ≡ length spots
  pub entries : (i : ℕ) (spot : Spot) → slice_get spots i ≡ Some spot → map entry_of (get_or waits i []) ≡ head_entries spot.head
