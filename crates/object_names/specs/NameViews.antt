-- Memories and pieces of the code under their names.
use Rattle.std.specs.Prelude.{ℕ, List, map}
use Rattle.std.specs.Borrow.{Bor}
use Rattle.v_design.specs.Plain.{piece_of}
use Rattle.v_design.specs.Trees.{Piece}
use Rattle.v_design.specs.declared.tree.PieceRef.{PieceRef}
use Rattle.v_elab.specs.Parts as plain
use Rattle.key_index.specs.Groups.{keyed_of}
use Rattle.key_index.specs.declared.grouped.Keyed.{Keyed}
use Rattle.elab_parts.specs.PartViews.{memory_of}
use Rattle.elab_parts.specs.declared.signal.WalkedMemory.{WalkedMemory}

-- what a reference to a memory shows
abbrev pub memory_borrowed : Bor WalkedMemory → plain.WalkedMemory
memory_borrowed m = memory_of m.now

abbrev pub memory_seen : List ℕ × Bor WalkedMemory → List ℕ × plain.WalkedMemory
memory_seen p = (p.0, memory_borrowed p.1)

abbrev pub memories_listed : List (Keyed (Bor WalkedMemory)) → List (List ℕ × plain.WalkedMemory)
memories_listed items = map memory_seen (map keyed_of items)

abbrev pub piece_seen : List ℕ × PieceRef → List ℕ × Piece
piece_seen p = (p.0, piece_of p.1)

abbrev pub pieces_listed : List (Keyed PieceRef) → List (List ℕ × Piece)
pieces_listed items = map piece_seen (map keyed_of items)

-- the objects of some pieces, by their numbers
abbrev pub objects_in : List PieceRef → List ℕ
objects_in pieces = map (λ (p : Piece). p.object) (map piece_of pieces)
