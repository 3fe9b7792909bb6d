-- What the names of all instances mean in objects, as tables (IEEE 1364-2001, clause 12.4 for names).
use Rattle.std.specs.Prelude.{◌≡◌, ℕ, Bool, true, false, List, [], ◌∷◌, map, Option, Some, None}
use Rattle.v_design.specs.Trees.{Piece, Vector, Memory}
use Rattle.v_design.specs.Designs.{NameJoined}
use Rattle.v_tree.specs.Trees.{Identifier}
use Rattle.v_names.specs.Scopes.{range_width}
use Rattle.v_elab.specs.Parts.{Signal, WalkedMemory, Part}
use Rattle.v_elab.specs.Drivers.{signals_of, signal_named, outermost, is_unjoined}
use Rattle.v_elab.specs.Objects.{HeldObject, range_of_signal, memories_of}
use Rattle.key_index.specs.Groups.{items_under, first_under}
use Rattle.elab_wires.specs.Held.{all_pieces}

-- the nets and variables of a walk, its memories by their names, and the pieces of its objects by the names whose bits they hold
pub record NameTables : Type 0 where
  pub signals : List Signal
  pub memories : List (Identifier × WalkedMemory)
  pub pieces : List (Identifier × Piece)

-- a memory under its name
abbrev pub memory_keyed : WalkedMemory → Identifier × WalkedMemory
memory_keyed memory = (memory.name, memory)

-- the tables of some parts and their objects
pub record AreNamesOf (parts : List Part) (objects : List HeldObject) (names : NameTables) : Type 0 where
  pub signals_are : names.signals ≡ signals_of parts
  pub memories_are : names.memories ≡ map memory_keyed (memories_of parts)
  pub pieces_are : names.pieces ≡ all_pieces 0 objects

-- a net or a variable: its own bounds, and the pieces of the name that it is joined into
abbrev pub vector_by : NameTables → Identifier → Vector
vector_by names name =
    let range = range_of_signal (signal_named names.signals name) in
    record { high = range.high; low = range.low; pieces = items_under names.pieces (outermost names.signals name) }

-- the objects that hold a name's bits, in their order
abbrev pub words_by : List (Identifier × Piece) → Identifier → List ℕ
words_by pieces name = map (λ (p : Piece). p.object) (items_under pieces name)

-- a memory with its words, none where there is no such memory
abbrev pub memory_found : List (Identifier × Piece) → Option WalkedMemory → Memory
memory_found pieces None = record { first = 0; last = 0; width = 0; words = [] }
memory_found pieces (Some memory) =
    record { first = memory.first; last = memory.last; width = range_width memory.range; words = words_by pieces memory.name }

abbrev pub memory_by : NameTables → Identifier → Memory
memory_by names name = memory_found names.pieces (first_under names.memories name)

abbrev pub joined_as : Bool → NameTables → Signal → List NameJoined
joined_as true names signal = []
joined_as false names signal = record { name = signal.name; ranged = signal.range.ranged; vector = vector_by names signal.name } ∷ []

-- a name with its meaning, where it is joined into another one
abbrev pub joined_by : NameTables → Signal → List NameJoined
joined_by names signal = joined_as (is_unjoined signal) names signal
