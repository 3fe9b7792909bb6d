-- How a report names an object (the format is this program's own).
use Rattle.std.specs.Prelude.{ℕ, Bool, true, false, ◌&&◌, List, [], ◌∷◌, ◌++◌, Option, Some, None, nat_eq, nat_lt, slice_get, count_by, if◌then◌else◌}
use Rattle.std.specs.Fmt.{decimal}
use Rattle.std.specs.Str.{bytes_eq}
use Rattle.v_design.specs.Designs.{FlatObject, FlatDesign}
use Rattle.v_design.specs.Paths.{is_net}
use Rattle.v_design.specs.declared.logic.ObjectKind.{ObjectKind}
use Rattle.v_design.specs.declared.logic.ObjectKind.TheVariants.{Var, Word, Net}

-- whether an object is a net piece of a name
abbrev pub is_piece_of : List ℕ → FlatObject → Bool
is_piece_of name object = is_net object.kind && bytes_eq object.name name

-- whether a net of a name has several pieces
abbrev pub has_pieces : FlatDesign → List ℕ → Bool
has_pieces design name = nat_lt 1 (count_by (is_piece_of name) design.objects)

-- an index, between `[` (91) and `]` (93)
abbrev pub between : List ℕ → List ℕ
between index = 91 ∷ index ++ 93 ∷ []

-- the declared indexes of a piece: of one bit its index, else both with `:` (58) between
abbrev pub bounds_text : ℕ → ℕ → List ℕ
bounds_text high low = if nat_eq high low then decimal high else decimal high ++ 58 ∷ decimal low

-- a name, with the bounds of the piece where the net has several
abbrev pub piece_text : Bool → FlatObject → List ℕ
piece_text true object = object.name ++ between (bounds_text object.high object.low)
piece_text false object = object.name

-- an object of a kind: a variable by its name, a memory word with its address, a net piece with its bounds where its net has several
abbrev pub text_by_kind : FlatDesign → FlatObject → ObjectKind → List ℕ
text_by_kind design object Var = object.name
text_by_kind design object Word = object.name ++ between (decimal object.address)
text_by_kind design object Net = piece_text (has_pieces design object.name) object

-- an object that may be there
abbrev pub text_if : FlatDesign → Option FlatObject → List ℕ
text_if design None = []
text_if design (Some object) = text_by_kind design object object.kind

-- the object of a number
abbrev pub object_text : FlatDesign → ℕ → List ℕ
object_text design object = text_if design (slice_get design.objects object)
