-- The value of an expression, and the order in which its operands are read (IEEE 1364-2001, clause 4).
use Rattle.std.specs.Prelude.{ℕ, zero, suc, ◌+◌, ◌-◌, min, Bool, true, false, ◌&&◌, ◌||◌, List, [], ◌∷◌, ◌++◌, map, Option, Some, None, nat_lt, nat_le, if◌then◌else◌, slice_get}
use Rattle.four_value.specs.Values.{LogicValue, unknown, resized, bit_at, natural_number, truth_of, chosen_value}
use Rattle.four_value.specs.Operators.{unary_value, binary_value}
use Rattle.v_design.specs.Trees.{Piece, Vector, Memory, Expression, Constant, Name, BitSelect, PartSelect, WordSelect, Unary, Binary, Conditional, Concatenation, Replication, Expressions}
use Rattle.v_design.specs.Trees.{no_expressions, more_expressions}
use Rattle.four_value.specs.declared.logic.Bit.{Bit}
use Rattle.four_value.specs.declared.logic.Bit.TheVariants.{X}

-- Widths and signs

-- the width of a part
abbrev pub width_of : Expression → ℕ
width_of (Constant width signed value) = width
width_of (Name width signed vector) = width
width_of (BitSelect width signed vector index) = width
width_of (PartSelect width signed vector from to) = width
width_of (WordSelect width signed memory index) = width
width_of (Unary width signed operator a) = width
width_of (Binary width signed operator a b) = width
width_of (Conditional width signed c a b) = width
width_of (Concatenation width signed parts) = width
width_of (Replication width signed count parts) = width

-- whether a part is signed
abbrev pub sign_of : Expression → Bool
sign_of (Constant width signed value) = signed
sign_of (Name width signed vector) = signed
sign_of (BitSelect width signed vector index) = signed
sign_of (PartSelect width signed vector from to) = signed
sign_of (WordSelect width signed memory index) = signed
sign_of (Unary width signed operator a) = signed
sign_of (Binary width signed operator a b) = signed
sign_of (Conditional width signed c a b) = signed
sign_of (Concatenation width signed parts) = signed
sign_of (Replication width signed count parts) = signed

-- Constants

abbrev mutual
  -- an expression that names no object
  pub is_constant : Expression → Bool
  is_constant (Constant width signed value) = true
  is_constant (Name width signed vector) = false
  is_constant (BitSelect width signed vector index) = false
  is_constant (PartSelect width signed vector from to) = false
  is_constant (WordSelect width signed memory index) = false
  is_constant (Unary width signed operator a) = is_constant a
  is_constant (Binary width signed operator a b) = is_constant a && is_constant b
  is_constant (Conditional width signed c a b) = is_constant c && is_constant a && is_constant b
  is_constant (Concatenation width signed parts) = are_constant parts
  is_constant (Replication width signed count parts) = are_constant parts

  -- several expressions that name no object
  pub are_constant : Expressions → Bool
  are_constant no_expressions = true
  are_constant (more_expressions part rest) = is_constant part && are_constant rest

-- Indexes

-- the place of an index, by the declared bounds: the index of the least significant bit is the second bound
abbrev pub place_of : ℕ → ℕ → ℕ → Option ℕ
place_of high low index =
    if nat_le low high
    then (if nat_le low index && nat_le index high then Some (index - low) else None)
    else (if nat_le high index && nat_le index low then Some (low - index) else None)

-- the place of an index that is known
abbrev pub place_of_number : ℕ → ℕ → Option ℕ → Option ℕ
place_of_number high low None = None
place_of_number high low (Some index) = place_of high low index

-- the places of a part-select, from its least significant bit
abbrev pub up_from : ℕ → ℕ → List ℕ
up_from start zero = []
up_from start (suc count) = start ∷ up_from (start + 1) count

-- a count of numbers downwards
abbrev pub down_from : ℕ → ℕ → List ℕ
down_from start zero = []
down_from start (suc count) = start ∷ down_from (start - 1) count

-- the indexes of a part-select, from that of its least significant bit
abbrev pub part_indexes : ℕ → ℕ → List ℕ
part_indexes from to = if nat_le to from then up_from to (from - to + 1) else down_from to (to - from + 1)

-- the places of a part-select's bits, none for a bit outside the range
abbrev pub part_places : ℕ → ℕ → ℕ → ℕ → List (Option ℕ)
part_places high low from to = map (place_of high low) (part_indexes from to)

-- the word at an address
abbrev pub word_at : Memory → Option ℕ → Option ℕ
word_at memory None = None
word_at memory (Some address) =
    if nat_le (min memory.first memory.last) address
    then slice_get memory.words (address - min memory.first memory.last)
    else None

-- the bits at some places, x where there is none
abbrev pub bit_at_place : LogicValue → Option ℕ → Bit
bit_at_place bits None = X
bit_at_place bits (Some place) = bit_at bits place

-- What an operand reads

-- a run of bits that is read from an object, or isn't needed
pub record Slice : Type 0 where
  pub object : Option ℕ
  pub width : ℕ

-- all pieces of a name
abbrev pub whole_slices : List Piece → List Slice
whole_slices pieces = map (λ piece. record { object = Some piece.object; width = piece.width }) pieces

-- whether some place lies from low up to high
abbrev pub some_place_within : ℕ → ℕ → List (Option ℕ) → Bool
some_place_within low high [] = false
some_place_within low high (None ∷ places) = some_place_within low high places
some_place_within low high (Some place ∷ places) = (nat_le low place && nat_lt place high) || some_place_within low high places

-- of the pieces those that hold one of the places
abbrev pub slices_at : List (Option ℕ) → ℕ → List Piece → List Slice
slices_at places offset [] = []
slices_at places offset (piece ∷ pieces) =
    record { object = if some_place_within offset (offset + piece.width) places then Some piece.object else None; width = piece.width }
    ∷ slices_at places (offset + piece.width) pieces

-- The value of an expression, over the value of each object: each part's value at the part's width, extended by its sign

-- the bits of all pieces of a name
abbrev pub vector_value : (ℕ → LogicValue) → List Piece → LogicValue
vector_value values [] = []
vector_value values (piece ∷ pieces) = values piece.object ++ vector_value values pieces

-- the value of a word, all x where the index selects none
abbrev pub object_value : (ℕ → LogicValue) → ℕ → Option ℕ → LogicValue
object_value values width None = unknown width
object_value values width (Some object) = values object

-- the bits so many times over
abbrev pub repeated : ℕ → LogicValue → LogicValue
repeated zero bits = []
repeated (suc count) bits = bits ++ repeated count bits

abbrev mutual
  -- the value of an expression
  pub value_of : (ℕ → LogicValue) → Expression → LogicValue
  value_of values (Constant width signed value) = resized signed width value
  value_of values (Name width signed v) = resized signed width (vector_value values v.pieces)
  value_of values (BitSelect width signed v index) =
      resized signed width (bit_at_place (vector_value values v.pieces) (place_of_number v.high v.low (natural_number (sign_of index) (value_of values index))) ∷ [])
  value_of values (PartSelect width signed v from to) = resized signed width (map (bit_at_place (vector_value values v.pieces)) (part_places v.high v.low from to))
  value_of values (WordSelect width signed m index) = resized signed width (object_value values m.width (word_at m (natural_number (sign_of index) (value_of values index))))
  value_of values (Unary width signed operator a) = resized signed width (unary_value operator (value_of values a))
  value_of values (Binary width signed operator a b) = resized signed width (binary_value operator (sign_of a) (value_of values a) (value_of values b))
  value_of values (Conditional width signed c a b) = resized signed width (chosen_value (truth_of (value_of values c)) (value_of values a) (value_of values b))
  value_of values (Concatenation width signed parts) = resized signed width (parts_value values parts)
  value_of values (Replication width signed count parts) = resized signed width (repeated count (parts_value values parts))

  -- the leftmost part is the most significant
  pub parts_value : (ℕ → LogicValue) → Expressions → LogicValue
  parts_value values no_expressions = []
  parts_value values (more_expressions part rest) = parts_value values rest ++ value_of values part

-- What an expression reads, in text order

-- the piece that a slice reads, if it reads one
abbrev pub slice_piece : Option ℕ → ℕ → List Piece
slice_piece None width = []
slice_piece (Some object) width = record { object = object; width = width } ∷ []

-- the pieces that are read of some slices
abbrev pub slice_pieces : List Slice → List Piece
slice_pieces [] = []
slice_pieces (slice ∷ slices) = slice_piece slice.object slice.width ++ slice_pieces slices

-- for an expression that names no object
abbrev pub no_values : ℕ → LogicValue
no_values object = []

-- the pieces that a bit-select reads: those that hold the bit, or all where the index isn't constant
abbrev pub bit_slices : Bool → Vector → Option ℕ → List Slice
bit_slices true v index = slices_at (place_of_number v.high v.low index ∷ []) 0 v.pieces
bit_slices false v index = whole_slices v.pieces

-- the number that an index spells over some values
abbrev pub index_number : (ℕ → LogicValue) → Expression → Option ℕ
index_number values index = natural_number (sign_of index) (value_of values index)

-- the words of a memory as pieces
abbrev pub memory_pieces : Memory → List Piece
memory_pieces memory = map (λ word. record { object = word; width = memory.width }) memory.words

abbrev mutual
  -- the objects that an expression reads, with their widths; a memory stands for all its words
  pub pieces_read : Expression → List Piece
  pieces_read (Constant width signed value) = []
  pieces_read (Name width signed v) = v.pieces
  pieces_read (BitSelect width signed v index) = slice_pieces (bit_slices (is_constant index) v (index_number no_values index)) ++ pieces_read index
  pieces_read (PartSelect width signed v from to) = slice_pieces (slices_at (part_places v.high v.low from to) 0 v.pieces)
  pieces_read (WordSelect width signed m index) = pieces_read index ++ memory_pieces m
  pieces_read (Unary width signed operator a) = pieces_read a
  pieces_read (Binary width signed operator a b) = pieces_read a ++ pieces_read b
  pieces_read (Conditional width signed c a b) = pieces_read c ++ (pieces_read a ++ pieces_read b)
  pieces_read (Concatenation width signed parts) = parts_read parts
  pieces_read (Replication width signed count parts) = parts_read parts

  -- the objects that several expressions read
  pub parts_read : Expressions → List Piece
  parts_read no_expressions = []
  parts_read (more_expressions part rest) = pieces_read part ++ parts_read rest

-- the numbers of some pieces' objects
abbrev pub piece_objects : List Piece → List ℕ
piece_objects pieces = map (λ (piece : Piece). piece.object) pieces

-- the objects that an expression reads
abbrev pub objects_of : Expression → List ℕ
objects_of e = piece_objects (pieces_read e)

-- the objects that several expressions read
abbrev pub parts_objects : Expressions → List ℕ
parts_objects parts = piece_objects (parts_read parts)

-- Reading the operands one by one

-- what a process that has read some operands gets from them: the object to be read next, or an answer and the operands that are left
pub data Progress (A : Type 0) : Type 0 where
  Needs : (object : ℕ) → Progress A
  Has : (answer : A) (operands : List LogicValue) → Progress A

-- what is got from the operands that an earlier part leaves
abbrev pub then_with : {A B : Type 0} → Progress A → (A → List LogicValue → Progress B) → Progress B
then_with (Needs object) next = Needs object
then_with (Has answer operands) next = next answer operands

-- the value of a slice, from the next operand
abbrev pub read_slice : Option ℕ → ℕ → List LogicValue → Progress LogicValue
read_slice None width operands = Has (unknown width) operands
read_slice (Some object) width [] = Needs object
read_slice (Some object) width (value ∷ operands) = Has value operands

-- the values of several slices, the first being the least significant
abbrev pub read_slices : List Slice → List LogicValue → Progress LogicValue
read_slices [] operands = Has [] operands
read_slices (slice ∷ slices) operands =
    then_with (read_slice slice.object slice.width operands)
    (λ bits rest. then_with (read_slices slices rest) (λ more left. Has (bits ++ more) left))

abbrev mutual
  -- the value of an expression whose operands are read in text order, an index before the word that it selects
  pub read_expression : Expression → List LogicValue → Progress LogicValue
  read_expression (Constant width signed value) operands = Has (resized signed width value) operands
  read_expression (Name width signed v) operands = then_with (read_slices (whole_slices v.pieces) operands) (λ bits left. Has (resized signed width bits) left)
  read_expression (BitSelect width signed v index) operands =
      then_with (read_slices (bit_slices (is_constant index) v (index_number no_values index)) operands)
      (λ bits rest. then_with (read_expression index rest)
      (λ number left. Has (resized signed width (bit_at_place bits (place_of_number v.high v.low (natural_number (sign_of index) number)) ∷ [])) left))
  read_expression (PartSelect width signed v from to) operands =
      then_with (read_slices (slices_at (part_places v.high v.low from to) 0 v.pieces) operands)
      (λ bits left. Has (resized signed width (map (bit_at_place bits) (part_places v.high v.low from to))) left)
  read_expression (WordSelect width signed m index) operands =
      then_with (read_expression index operands)
      (λ number rest. then_with (read_slice (word_at m (natural_number (sign_of index) number)) m.width rest) (λ bits left. Has (resized signed width bits) left))
  read_expression (Unary width signed operator a) operands = then_with (read_expression a operands) (λ x left. Has (resized signed width (unary_value operator x)) left)
  read_expression (Binary width signed operator a b) operands =
      then_with (read_expression a operands)
      (λ x rest. then_with (read_expression b rest) (λ y left. Has (resized signed width (binary_value operator (sign_of a) x y)) left))
  read_expression (Conditional width signed c a b) operands =
      then_with (read_expression c operands)
      (λ t others. then_with (read_expression a others)
      (λ x rest. then_with (read_expression b rest) (λ y left. Has (resized signed width (chosen_value (truth_of t) x y)) left)))
  read_expression (Concatenation width signed parts) operands = then_with (read_parts parts operands) (λ bits left. Has (resized signed width bits) left)
  read_expression (Replication width signed count parts) operands = then_with (read_parts parts operands) (λ bits left. Has (resized signed width (repeated count bits)) left)

  -- the value of a concatenation's parts
  pub read_parts : Expressions → List LogicValue → Progress LogicValue
  read_parts no_expressions operands = Has [] operands
  read_parts (more_expressions part rest) operands =
      then_with (read_expression part operands)
      (λ bits others. then_with (read_parts rest others) (λ lower left. Has (lower ++ bits) left))

-- each value of several expressions
abbrev pub read_each : Expressions → List LogicValue → Progress (List LogicValue)
read_each no_expressions operands = Has [] operands
read_each (more_expressions first rest) operands =
    then_with (read_expression first operands)
    (λ value others. then_with (read_each rest others) (λ values left. Has (value ∷ values) left))
