-- What an expression needs of the values that it is evaluated over (IEEE 1364-2001, clause 4.2).
use Rattle.std.specs.Prelude.{◌≡◌, ◌<◌, List, [], length, Option, Some, None}
use Rattle.four_value.specs.Values.{LogicValue}
use Rattle.vf_base.specs.Lists.{AllHold}
use Rattle.v_design.specs.Trees.{Piece}
use Rattle.v_design.specs.Assignments.{value_at}

-- an object has a value of just this width
abbrev pub IsThere : List LogicValue → Piece → Type 0
IsThere values piece = (piece.object < length values) × (length (value_at values piece.object) ≡ piece.width)

-- each object that is named has a value of the width that it is taken to have
abbrev pub AreThere : List LogicValue → List Piece → Type 0
AreThere values pieces = AllHold (IsThere values) pieces

-- the bits so far, none before the first
abbrev pub bits_so_far : Option LogicValue → LogicValue
bits_so_far None = []
bits_so_far (Some bits) = bits
