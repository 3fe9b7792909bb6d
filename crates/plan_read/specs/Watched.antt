-- The bits that a word spells for watching: all bits of a name, or one bit (the forms of names are this program's own).
use Rattle.std.specs.Prelude.{ℕ, Bool, true, false, List, [], ◌∷◌, ◌++◌, map, reverse, Option, Some, None}
use Rattle.std.specs.Option.{option_and_then}
use Rattle.std.specs.Str.{bytes_eq}
use Rattle.vf_base.specs.Base.{WatchedBit}
use Rattle.vf_base.specs.Lists.{joined, map_numbered}
use Rattle.v_design.specs.Trees.{Piece}
use Rattle.v_design.specs.Expressions.{up_from}
use Rattle.v_design.specs.Designs.{FlatObject, NameJoined, FlatDesign}
use Rattle.v_design.specs.declared.logic.ObjectKind.{ObjectKind}
use Rattle.v_design.specs.declared.logic.ObjectKind.TheVariants.{Var, Word, Net}
use Rattle.fault_list.specs.Spelled.{bit_spelled, place_spelled, piece_bit}

-- a bit of an object
abbrev pub bit_of : ℕ → ℕ → WatchedBit
bit_of number bit = record { object = number; bit = bit }

-- so many bits of an object, from the least significant
abbrev pub object_bits : ℕ → ℕ → List WatchedBit
object_bits number width = map (bit_of number) (up_from 0 width)

-- the bits of some pieces, from the least significant
abbrev pub pieces_bits : List Piece → List WatchedBit
pieces_bits pieces = joined (map (λ piece. object_bits piece.object piece.width) pieces)

-- the bit, if there is one
abbrev pub bit_if : ℕ → Option ℕ → List WatchedBit
bit_if number None = []
bit_if number (Some bit) = bit_of number bit ∷ []

-- the bit with its object, if there is one
abbrev pub held_if : Option (ℕ × ℕ) → List WatchedBit
held_if None = []
held_if (Some held) = bit_of held.0 held.1 ∷ []

-- all bits where the word is the whole name, else those that it spells with an index
abbrev pub all_or_one : Bool → List WatchedBit → List WatchedBit → List WatchedBit
all_or_one true all one = all
all_or_one false all one = one

-- the bits of a variable or a net piece that a word spells: the words of memories aren't watched
abbrev pub bits_by_kind : ObjectKind → List WatchedBit → List WatchedBit
bits_by_kind Var bits = bits
bits_by_kind Word bits = []
bits_by_kind Net bits = bits

-- the bits of an object that a word spells
abbrev pub bits_in_object : List ℕ → ℕ → FlatObject → List WatchedBit
bits_in_object word number object =
    bits_by_kind object.kind (all_or_one (bytes_eq object.name word) (object_bits number object.width) (bit_if number (bit_spelled object word)))

-- the bits of a joined name that a word spells
abbrev pub bits_in_joined : List ℕ → NameJoined → List WatchedBit
bits_in_joined word name =
    all_or_one (bytes_eq name.name word) (pieces_bits name.vector.pieces) (held_if (option_and_then (piece_bit name.vector.pieces) (place_spelled name word)))

-- the bits that a word spells, each name's from the least significant: of variables and nets by object, whose pieces stand from the lowest, then of joined names
unfoldable pub bits_upwards : FlatDesign → List ℕ → List WatchedBit
bits_upwards design word = joined (map_numbered (bits_in_object word) 0 design.objects) ++ joined (map (bits_in_joined word) design.joined)

-- the bits that a word spells, from the most significant down
unfoldable pub bits_spelled : FlatDesign → List ℕ → List WatchedBit
bits_spelled design word = reverse (bits_upwards design word)
