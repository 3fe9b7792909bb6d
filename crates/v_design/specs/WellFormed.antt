-- What every flat design keeps (IEEE 1364-2001, clause 4 for expressions, clause 6 for assignments, clause 7 for gates, clause 9 for processes).
use Rattle.std.specs.Prelude.{◌≡◌, ℕ, ◌+◌, ◌<◌, ◌≤◌, Bool, false, ◌||◌, List, [], ◌∷◌, filter, length, Option, Some, None, IsTrue, slice_get, map, nat_eq, suc, zero}
use Rattle.std.specs.List.{list_all, list_any, AllZip, Contains}
use Rattle.vf_base.specs.Base.{WatchedBit}
use Rattle.vf_base.specs.Lists.{has, without_repeats, AllHold, greatest}
use Rattle.vf_base.specs.declared.limits.TheConstants.{MAX_LEVELS, MAX_OBJECTS, MAX_INPUTS, MAX_END, MAX_STROBES, MAX_WATCHED, MAX_FAULTS}
use Rattle.v_design.specs.Trees.{Piece, Expressions, no_expressions, more_expressions, Entry}
use Rattle.v_design.specs.Expressions.{width_of}
use Rattle.v_design.specs.Designs.{FlatObject, NameJoined, FlatNodeKind, AssignNode, GateNode, BlockNode, FlatNode, FlatProcess, FlatDesign, width_in, StuckAt, TestPlan}
use Rattle.v_design.specs.Paths.{net_pieces}
use Rattle.v_design.specs.Places.{PlacesDiffer}
use Rattle.v_design.specs.Reads.{node_reads, written_objects, entries_in, named_by, named_by_node}
use Rattle.v_design.specs.CombinationalForm.{WritesOutputs}
use Rattle.v_design.specs.Sized.{most_bits, span, pieces_width, IsSized, IsSizedAlone, IsSizedStatement, levels_of, levels_of_parts, levels_of_statement}
use Rattle.v_design.specs.Sites.{SitesDiffer, expressions_count, sites_of}
use Rattle.four_value.specs.declared.operator.GateKind.{GateKind}
use Rattle.four_value.specs.declared.operator.GateKind.TheVariants.{And, Nand, Or, Nor, Xor, Xnor, Buf, Not}

-- What is named is there, with its width

-- whether an object is there and has a width
abbrev pub width_is : ℕ → Option FlatObject → Bool
width_is width None = false
width_is width (Some object) = nat_eq object.width width

-- an object of the design has just this width
abbrev pub has_width : FlatDesign → Piece → Bool
has_width design piece = width_is piece.width (slice_get design.objects piece.object)

-- whether objects of the design have just these widths
abbrev pub have_widths : FlatDesign → List Piece → Bool
have_widths design pieces = list_all (has_width design) pieces

-- the bits of an entry are bits of its object
abbrev pub IsEntryOf : FlatDesign → Entry → Type 0
IsEntryOf design entry = entry.low + entry.width ≤ width_in design entry.object

-- Sizes of nodes

-- a buf or not has one input terminal, any other gate at least one
abbrev pub TerminalsFit : GateKind → ℕ → Type 0
TerminalsFit And count = 1 ≤ count
TerminalsFit Nand count = 1 ≤ count
TerminalsFit Or count = 1 ≤ count
TerminalsFit Nor count = 1 ≤ count
TerminalsFit Xor count = 1 ≤ count
TerminalsFit Xnor count = 1 ≤ count
TerminalsFit Buf count = count ≡ 1
TerminalsFit Not count = count ≡ 1

-- terminals are of one bit each
abbrev pub AreTerminals : Expressions → Type 0
AreTerminals no_expressions = Unit {0}
AreTerminals (more_expressions terminal rest) = IsSizedAlone terminal × (width_of terminal ≡ 1) × AreTerminals rest

-- sizes and signs agree throughout a node
abbrev pub IsSizedNode : FlatDesign → FlatNodeKind → List ℕ → Type 0
IsSizedNode design (AssignNode value places) outputs = IsSized value × AllZip (λ object place. place + width_in design object ≤ width_of value) outputs places
IsSizedNode design (GateNode kind terminals) outputs = TerminalsFit kind (expressions_count terminals) × AreTerminals terminals × AllHold (λ object. width_in design object ≡ 1) outputs
IsSizedNode design (BlockNode statement) outputs = IsSizedStatement statement

-- the levels of what a node evaluates
abbrev pub levels_of_node : FlatNodeKind → ℕ
levels_of_node (AssignNode value places) = levels_of value
levels_of_node (GateNode kind terminals) = levels_of_parts terminals
levels_of_node (BlockNode statement) = levels_of_statement statement

-- the most levels of a statement or an expression
abbrev pub most_levels : ℕ
most_levels = MAX_LEVELS

-- the most objects, nodes and processes, each counted alone
abbrev pub most_parts : ℕ
most_parts = MAX_OBJECTS

-- the most inputs of one node
abbrev pub most_inputs : ℕ
most_inputs = MAX_INPUTS

-- an object has the bits that its bounds span, and a first content of its width
abbrev pub IsSizedObject : FlatObject → Type 0
IsSizedObject object = (length object.first ≡ object.width) × (object.width ≡ span object.high object.low) × (object.width ≤ most_bits)

-- a joined name has the bits that its bounds span
abbrev pub IsSizedName : FlatDesign → NameJoined → Type 0
IsSizedName design name = IsTrue (have_widths design name.vector.pieces) × (pieces_width name.vector.pieces ≡ span name.vector.high name.vector.low)

-- Names

-- a tab, a line feed, a carriage return or a space ends a word
abbrev pub ends_word : ℕ → Bool
ends_word byte = nat_eq byte 9 || nat_eq byte 10 || nat_eq byte 13 || nat_eq byte 32

-- a name that can be read back from a line of words
abbrev pub IsOneWord : List ℕ → Type 0
IsOneWord name = AllHold (λ (byte : ℕ). ends_word byte ≡ false) name

-- the names of objects, of joined names and of nodes are words
pub record HasNamesOfOneWord (design : FlatDesign) : Type 0 where
  pub objects : AllHold (λ (object : FlatObject). IsOneWord object.name) design.objects
  pub joined : AllHold (λ (name : NameJoined). IsOneWord name.name) design.joined
  pub nodes : AllHold (λ (node : FlatNode). IsOneWord node.name) design.nodes

-- Ranks

-- whether an output of one node is an input of another
abbrev pub feeds : FlatNode → FlatNode → Bool
feeds driver reader = list_any (has reader.inputs) driver.outputs

-- the rank of a node, looking back over at most so many nodes
abbrev pub rank_within : ℕ → List FlatNode → FlatNode → ℕ
rank_within zero nodes node = 0
rank_within (suc depth) nodes node = greatest (map (λ driver. suc (rank_within depth nodes driver)) (filter (λ driver. feeds driver node) nodes))

-- a node's rank is one more than the greatest rank of a node that drives one of its inputs, and 0 where there is none
abbrev pub rank_of : FlatDesign → FlatNode → ℕ
rank_of design node = rank_within (length design.nodes) design.nodes node

-- no output of a later node, or of the node itself, is an input
abbrev pub AreBelow : List FlatNode → Type 0
AreBelow nodes =
    (low high : ℕ) (reader driver : FlatNode) → slice_get nodes low ≡ Some reader → slice_get nodes high ≡ Some driver → low ≤ high →
    (object : ℕ) → IsTrue (has driver.outputs object) → has reader.inputs object ≡ false

-- the nodes stand by rank
abbrev pub AreByRank : FlatDesign → Type 0
AreByRank design =
    (low high : ℕ) (one other : FlatNode) → slice_get design.nodes low ≡ Some one → slice_get design.nodes high ≡ Some other → low ≤ high → rank_of design one ≤ rank_of design other

-- The rules

-- the rules of a node
pub record IsNodeOf (design : FlatDesign) (node : FlatNode) : Type 0 where
  -- its inputs are what it reads, and its outputs what it writes
  pub inputs : (object : ℕ) → has node.inputs object ≡ has (node_reads node.kind node.outputs) object
  pub outputs : WritesOutputs node.kind node.outputs
  -- it names objects of the design with their widths, and writes net pieces alone, each once
  pub names : IsTrue (have_widths design (named_by_node node.kind))
  pub inputs_there : AllHold (λ object. object < length design.objects) node.inputs
  pub outputs_nets : AllHold (λ object. IsTrue (has (net_pieces design) object)) node.outputs
  pub outputs_once : without_repeats [] node.outputs ≡ node.outputs
  -- sizes and signs agree
  pub sized : IsSizedNode design node.kind node.outputs
  pub levels : levels_of_node node.kind ≤ most_levels
  pub few_inputs : length node.inputs ≤ most_inputs

-- the rules of a process
pub record IsProcessOf (design : FlatDesign) (process : FlatProcess) : Type 0 where
  -- it names objects of the design with their widths, and writes no net piece
  pub names : IsTrue (have_widths design (named_by process.body))
  pub entries : AllHold (IsEntryOf design) (entries_in process.body)
  pub variables : AllHold (λ object. has (net_pieces design) object ≡ false) (written_objects process.body)
  -- sizes and signs agree
  pub sized : IsSizedStatement process.body
  pub levels : levels_of_statement process.body ≤ most_levels

-- what every flat design keeps
pub record KeepsRules (design : FlatDesign) : Type 0 where
  pub objects : AllHold IsSizedObject design.objects
  pub joined : AllHold (IsSizedName design) design.joined
  pub nodes : AllHold (IsNodeOf design) design.nodes
  pub processes : AllHold (IsProcessOf design) design.processes
  -- no two statements of a process that take steps stand at one place
  pub places : AllHold (λ (process : FlatProcess). PlacesDiffer process.body) design.processes
  -- each name is one word
  pub words : HasNamesOfOneWord design
  -- each net piece has at most one node that writes it
  pub one_driver : (low high : ℕ) (node other : FlatNode) → slice_get design.nodes low ≡ Some node → slice_get design.nodes high ≡ Some other → low < high →
      (object : ℕ) → IsTrue (has node.outputs object) → has other.outputs object ≡ false
  -- the nodes are acyclic and numbered by rank
  pub ranked : AreBelow design.nodes
  pub by_rank : AreByRank design
  -- no two sites have one name
  pub sites : SitesDiffer design
  pub few_objects : length design.objects ≤ most_parts
  pub few_nodes : length design.nodes ≤ most_parts
  pub few_processes : length design.processes ≤ most_parts

-- Plans

-- each is less than all later ones
abbrev pub IsAscending : List ℕ → Type 0
IsAscending [] = Unit {0}
IsAscending (time ∷ times) = AllHold (λ later. time < later) times × IsAscending times

-- what every plan keeps
pub record IsPlan (plan : TestPlan) : Type 0 where
  -- the strobes ascend to the end at most
  pub end : plan.end ≤ MAX_END
  pub ascending : IsAscending plan.strobes
  pub in_time : AllHold (λ strobe. strobe ≤ plan.end) plan.strobes
  pub few_strobes : length plan.strobes ≤ MAX_STROBES
  pub few_watched : length plan.watched ≤ MAX_WATCHED
  pub few_faults : length plan.faults ≤ MAX_FAULTS

-- a plan is one of a design: what is watched and what is held are bits of the design
pub record IsPlanOf (design : FlatDesign) (plan : TestPlan) : Type 0 where
  pub watched : AllHold (λ (w : WatchedBit). w.bit < width_in design w.object) plan.watched
  pub faults : AllHold (λ (fault : StuckAt). Contains (sites_of design) fault.site) plan.faults
