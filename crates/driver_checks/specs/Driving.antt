-- The variables that drive, besides some targets.
use Rattle.std.proofs.Common.{◌≡◌, ℕ, ◌&&◌, List, [], ◌∷◌, ◌++◌, map, refl, ap}
use Rattle.std.specs.Prelude.{not, flat_map}
use Rattle.std.specs.Borrow.{Bor}
use Rattle.key_index.specs.Groups.{keyed_of}
use Rattle.key_index.specs.declared.grouped.Keyed.{Keyed}
use Rattle.v_tree.specs.Trees.{Identifier, has_name}
use Rattle.v_elab.specs.Parts.{Signal}
use Rattle.v_elab.specs.Drivers.{outermost, WalkedNode, block_signals, is_driving}
use Rattle.elab_wires.specs.Depths.{driving_if, all_driving}
use Rattle.elab_parts.specs.declared.signal.Signal as code
use Rattle.elab_objects.specs.Driven.{driving_keyed}

-- variables under their keys
abbrev pub driving_listed : List (Keyed (Bor code.Signal)) → List (Identifier × Signal)
driving_listed items = map driving_keyed (map keyed_of items)

-- the variables that are none of some targets, each under the name that it is at last joined into
abbrev pub driving_besides : List Signal → List Identifier → List Signal → List (Identifier × Signal)
driving_besides signals targets [] = []
driving_besides signals targets (s ∷ rest) = driving_if (s.is_reg && not (has_name targets s.name)) (outermost signals s.name) s (driving_besides signals targets rest)

-- those that are no block's target are the variables that drive
pub besides-blocks : (signals : List Signal) (nodes : List WalkedNode) (some : List Signal) → driving_besides signals (flat_map block_signals nodes) some ≡ all_driving signals nodes some
besides-blocks signals nodes [] = refl
besides-blocks signals nodes (s ∷ rest) = ap (driving_if (is_driving nodes s) (outermost signals s.name) s) (besides-blocks signals nodes rest)
