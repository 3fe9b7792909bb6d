-- The tables of names by which blocks are found to be nodes (nothing of the language but what v_elab's Drivers say).
use Rattle.std.specs.Prelude.{◌≡◌, ℕ, Bool, not, ◌&&◌, List, ◌++◌, map}
use Rattle.std.specs.List.{list_all}
use Rattle.v_tree.specs.Trees.{Identifier, has_name}
use Rattle.v_elab.specs.Parts.{Signal, WalkedProcess, Part}
use Rattle.v_elab.specs.Drivers.{signals_of, outermost, target_signals, is_own_target, reads_by_other_name}
use Rattle.elab_parts.specs.PartViews.{parts_of}
use Rattle.elab_wires.specs.WrittenNames.{written_from, objects_written, output_names}
use Rattle.elab_wires.specs.declared.wiring.Wiring.{Wiring}

-- the tables are those of the parts
pub record IsWiring (w : Wiring) : Type 0 where
  pub signals_are : w.signals.now ≡ signals_of (parts_of w.parts.now)
  pub writers_are : w.writers ≡ objects_written (signals_of (parts_of w.parts.now)) (written_from 0 (parts_of w.parts.now))
  pub ports_are : w.ports ≡ output_names (signals_of (parts_of w.parts.now))

-- names with what stands before them
abbrev pub hierarchical_of : Identifier → List Identifier → List Identifier
hierarchical_of path names = map (λ name. path ++ name) names

-- whether a name that a process reads isn't one of its targets and is one of some objects
abbrev pub reads_other : List Signal → WalkedProcess → List Identifier → List Identifier → Identifier → Bool
reads_other signals process targets objects name = not (has_name targets name) && has_name objects (outermost signals (process.path ++ name))

-- whether a block with these targets is a node
abbrev pub is_block_node : List Part → ℕ → WalkedProcess → List Identifier → Bool
is_block_node parts number process targets =
    list_all (is_own_target parts number) (target_signals process targets) && not (reads_by_other_name (signals_of parts) process targets)
