-- The drives of each object of a walk are the items under its name among all drives (IEEE 1364-2001, clause 6.1).
use Rattle.std.proofs.Common.{◌≡◌, ℕ, ◌+◌, Bool, true, false, List, [], ◌∷◌, ◌++◌, refl, ap, ap₂, ◌∙◌}
use Rattle.v_tree.specs.Trees.{Identifier, same_name}
use Rattle.v_elab.specs.Parts.{Signal, Drive}
use Rattle.v_elab.specs.Drivers.{outermost, WalkedNode, ObjectDrive, drive_if, drives_width, node_drives, drives_from, object_drives}
use Rattle.key_index.specs.Groups.{item_if, items_under}
use Rattle.elab_wires.specs.Keyed.{key-name, under-append}

-- the drives of a node, each under the name that its signal is at last joined into
abbrev pub keyed_drives : List Signal → ℕ → List Drive → List (Identifier × ObjectDrive)
keyed_drives signals number [] = []
keyed_drives signals number (drive ∷ rest) =
    (outermost signals drive.signal, record { node = number; offset = drives_width rest; places = drive.places; place = drive.place }) ∷ keyed_drives signals number rest

-- the drives of all nodes from one on, in the order of the walk
abbrev pub all_drives : List Signal → ℕ → List WalkedNode → List (Identifier × ObjectDrive)
all_drives signals number [] = []
all_drives signals number (node ∷ nodes) = keyed_drives signals number node.drives ++ all_drives signals (number + 1) nodes

node-under : (signals : List Signal) (object : Identifier) (number : ℕ) (drives : List Drive) → items_under (keyed_drives signals number drives) object ≡ node_drives signals object number drives
node-under signals object number [] = refl
node-under signals object number (drive ∷ rest) =
    let one : ObjectDrive = record { node = number; offset = drives_width rest; places = drive.places; place = drive.place } in
    ap (λ t. item_if t one (items_under (keyed_drives signals number rest) object)) (key-name object (outermost signals drive.signal))
    ∙ by_test (same_name (outermost signals drive.signal) object) one (items_under (keyed_drives signals number rest) object) (node_drives signals object number rest)
    (node-under signals object number rest)
  where
    by_test : (test : Bool) (one : ObjectDrive) (under drives : List ObjectDrive) → under ≡ drives → item_if test one under ≡ drive_if test one drives
    by_test true one under drives e = ap (λ l. one ∷ l) e
    by_test false one under drives e = e

pub drives-under : (signals : List Signal) (object : Identifier) (number : ℕ) (nodes : List WalkedNode) → items_under (all_drives signals number nodes) object ≡ drives_from signals object number nodes
drives-under signals object number [] = refl
drives-under signals object number (node ∷ nodes) =
    under-append (keyed_drives signals number node.drives) (all_drives signals (number + 1) nodes) object
    ∙ ap₂ (λ a b. a ++ b) (node-under signals object number node.drives) (drives-under signals object (number + 1) nodes)

-- the drives of an object
pub object-under : (signals : List Signal) (nodes : List WalkedNode) (object : Identifier) → items_under (all_drives signals 0 nodes) object ≡ object_drives signals nodes object
object-under signals nodes object = drives-under signals object 0 nodes
