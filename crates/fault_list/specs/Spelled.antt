-- The site that a name spells (the forms of names are this program's own).
use Rattle.std.specs.Prelude.{ℕ, ◌+◌, ◌-◌, List, [], ◌∷◌, ◌++◌, Option, Some, None, option_map, min, nat_lt, slice_get, find, if◌then◌else◌}
use Rattle.std.specs.Option.{option_and_then}
use Rattle.std.specs.Str.{bytes_eq}
use Rattle.vf_base.specs.Base.{object_number}
use Rattle.vf_base.specs.declared.ids.ObjectId.{ObjectId}
use Rattle.vf_base.specs.Lists.{has, first_place}
use Rattle.v_design.specs.Trees.{Piece}
use Rattle.v_design.specs.Expressions.{up_from}
use Rattle.v_design.specs.Sized.{span}
use Rattle.v_design.specs.Designs.{FlatObject, NameJoined, FlatNode, FlatDesign, FaultSite, VariableBit, OutputBit, GateTerminal}
use Rattle.v_design.specs.Sites.{index_of_bit, index_text, bit_name, terminal_name, terminal_count}
use Rattle.v_design.specs.declared.logic.ObjectKind.{ObjectKind}
use Rattle.v_design.specs.declared.logic.ObjectKind.TheVariants.{Var, Word, Net}

-- the one answer, else the other
abbrev pub or_else : {A : Type 0} → Option A → Option A → Option A
or_else None other = other
or_else (Some answer) other = Some answer

-- the first answer that the elements of a list give, each with its number
abbrev pub first_answer : {A B : Type 0} → (ℕ → A → Option B) → ℕ → List A → Option B
first_answer f number [] = None
first_answer f number (x ∷ xs) = or_else (f number x) (first_answer f (number + 1) xs)

-- Sites of bits

-- the node that drives a net piece
abbrev pub driver_of : FlatDesign → ℕ → Option ℕ
driver_of design object = first_place (λ (node : FlatNode). has node.outputs object) design.nodes

-- the site of a bit of an object: a bit of a net has one where a node drives it, a memory word has none
abbrev pub site_by_kind : FlatDesign → ObjectKind → ℕ → ℕ → Option FaultSite
site_by_kind design Var object bit = Some (VariableBit object bit)
site_by_kind design Word object bit = None
site_by_kind design Net object bit = option_map (λ node. OutputBit node object bit) (driver_of design object)

-- the same of an object that is there
abbrev pub site_if : FlatDesign → Option FlatObject → ℕ → ℕ → Option FaultSite
site_if design None object bit = None
site_if design (Some found) object bit = if nat_lt bit found.width then site_by_kind design found.kind object bit else None

-- the site of a bit of the object of a number
abbrev pub site_at : FlatDesign → ℕ → ℕ → Option FaultSite
site_at design object bit = site_if design (slice_get design.objects object) object bit

-- Names of objects

-- the bit of an object that a word spells
abbrev pub bit_spelled : FlatObject → List ℕ → Option ℕ
bit_spelled object word = find (λ bit. bytes_eq (bit_name (Some object) bit) word) (up_from 0 object.width)

-- the site of the bit of an object that a word spells
abbrev pub object_spelled : FlatDesign → List ℕ → ℕ → FlatObject → Option FaultSite
object_spelled design word number object = option_and_then (site_by_kind design object.kind number) (bit_spelled object word)

-- Names of terminals

-- the number of a node's terminals, as far as it has 32 bits
abbrev pub numbered_terminals : FlatNode → ℕ
numbered_terminals node = min (terminal_count node.kind) 4294967295

-- the terminal of a gate that a word spells
abbrev pub terminal_spelled : FlatNode → List ℕ → Option ℕ
terminal_spelled node word = find (λ terminal. bytes_eq (terminal_name (Some node) terminal) word) (up_from 1 (numbered_terminals node))

-- the site of the terminal of a gate that a word spells
abbrev pub node_spelled : List ℕ → ℕ → FlatNode → Option FaultSite
node_spelled word number node = option_map (GateTerminal number) (terminal_spelled node word)

-- Joined names

-- the object that holds the bit at a place of some pieces, and the bit in it
abbrev pub piece_bit : List Piece → ℕ → Option (ℕ × ℕ)
piece_bit [] place = None
piece_bit (piece ∷ pieces) place = if nat_lt place piece.width then Some (piece.object, place) else piece_bit pieces (place - piece.width)

-- the place of the bit of a joined name that a word spells, by that name's own index
abbrev pub place_spelled : NameJoined → List ℕ → Option ℕ
place_spelled name word =
    find (λ place. bytes_eq (name.name ++ index_text name.ranged (index_of_bit name.vector.high name.vector.low place)) word) (up_from 0 (span name.vector.high name.vector.low))

-- the site of the bit at a place of a joined name
abbrev pub place_site : FlatDesign → NameJoined → ℕ → Option FaultSite
place_site design name place = option_and_then (λ (held : ℕ × ℕ). site_at design held.0 held.1) (piece_bit name.vector.pieces place)

-- the site of the bit of a joined name that a word spells
abbrev pub name_spelled : FlatDesign → List ℕ → ℕ → NameJoined → Option FaultSite
name_spelled design word number name = option_and_then (place_site design name) (place_spelled name word)

-- the site that a word spells: a bit by an object's own name, else a gate's terminal, else a bit by a joined name
abbrev pub site_spelled : FlatDesign → List ℕ → Option FaultSite
site_spelled design word =
    or_else (first_answer (object_spelled design word) 0 design.objects)
    (or_else (first_answer (node_spelled word) 0 design.nodes) (first_answer (name_spelled design word) 0 design.joined))

-- the object and the bit in it of the code's answer
abbrev pub held_bit : ObjectId × ℕ → ℕ × ℕ
held_bit held = (object_number held.0, held.1)
