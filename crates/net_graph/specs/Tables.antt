-- What a graph keeps of a design: each node's inputs once, and who reads an object (continuous assignments and gates of IEEE 1364-2001, clause 6 and clause 7).
use Rattle.std.specs.Prelude.{◌≡◌, ℕ, ◌+◌, ◌*◌, ◌<◌, Bool, true, false, List, [], ◌∷◌, map, length, min, Vec, get_or, Option, Some, None, slice_get}
use Rattle.std.specs.declared.alloc.Global.{Global}
use Rattle.vf_base.specs.declared.ids.ObjectId.{ObjectId}
use Rattle.vf_base.specs.declared.ids.NodeId.{NodeId}
use Rattle.vf_base.specs.Base.{object_number, node_number}
use Rattle.vf_base.specs.Lists.{has, without_repeats}
use Rattle.v_design.specs.Designs.{FlatNode, FlatDesign}
use Rattle.v_design.specs.Paths.{paths}

-- each input of a node, once
abbrev pub distinct_inputs : FlatNode → List ℕ
distinct_inputs node = without_repeats [] node.inputs

-- the inputs of the node of a number, each once
abbrev pub distinct_inputs_at : FlatDesign → ℕ → List ℕ
distinct_inputs_at design number = get_or (map distinct_inputs design.nodes) number []

-- a number before others, where a test holds
abbrev pub before_if : Bool → ℕ → List ℕ → List ℕ
before_if true number rest = number ∷ rest
before_if false number rest = rest

-- the numbers of the nodes that read an object, from a number on
abbrev pub readers_from : ℕ → ℕ → List FlatNode → List ℕ
readers_from object number [] = []
readers_from object number (node ∷ nodes) = before_if (has node.inputs object) number (readers_from object (number + 1) nodes)

-- the numbers of the nodes that read an object, ascending
abbrev pub readers_of : FlatDesign → ℕ → List ℕ
readers_of design object = readers_from object 0 design.nodes

-- whether a node, if it is there, reads an object
abbrev pub reads : ℕ → Option FlatNode → Bool
reads object None = false
reads object (Some node) = has node.inputs object

-- whether the node of a number reads an object
abbrev pub node_reads_at : FlatDesign → ℕ → ℕ → Bool
node_reads_at design object number = reads object (slice_get design.nodes number)

-- lists of objects as numbers
abbrev pub object_lists : List (Vec ObjectId Global) → List (List ℕ)
object_lists lists = map (λ (list : Vec ObjectId Global). map object_number list.items) lists

-- lists of nodes as numbers
abbrev pub node_lists : List (Vec NodeId Global) → List (List ℕ)
node_lists lists = map (λ (list : Vec NodeId Global). map node_number list.items) lists

-- a list for each of so many objects names the nodes that read it
abbrev pub ListReaders : FlatDesign → List (List ℕ) → Type 0
ListReaders design lists = (object : ℕ) → object < length lists → get_or lists object [] ≡ readers_of design object

-- numbers of paths from one object, each at most 2
abbrev pub AreCounts : FlatDesign → ℕ → List ℕ → Type 0
AreCounts design from counts = (object : ℕ) → object < length counts → get_or counts object 0 ≡ min 2 (paths design from object)

-- the sum over objects, from a number on, of f, each as often as a table says
abbrev pub weighted : (ℕ → ℕ) → ℕ → List ℕ → ℕ
weighted f number [] = 0
weighted f number (count ∷ counts) = count * f number + weighted f (number + 1) counts

-- for each object the paths to it from all objects, those from each as often as a table says, told apart up to 2
abbrev pub AreTotalPaths : FlatDesign → List ℕ → List ℕ → Type 0
AreTotalPaths design counts totals = (object : ℕ) → object < length totals → min 2 (get_or totals object 0) ≡ min 2 (weighted (λ from. paths design from object) 0 counts)
