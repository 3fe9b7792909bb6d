-- Each flat design of a unit whose names are spelled as a text spells them keeps the rules of flat designs (IEEE 1364-2001, clause 4 for expressions, clauses 6, 7 and 9 for nodes and
-- processes, clause 12 for the hierarchy).
use Rattle.std.proofs.Common.{◌≡◌, ◌<◌, ◌≤◌, [], length, Ok}
use Rattle.std.specs.Prelude.{IsTrue}
use Rattle.vf_base.specs.Lists.{has, without_repeats, AllHold}
use Rattle.v_design.specs.CombinationalForm.{WritesOutputs}
use Rattle.v_design.specs.Designs.{FlatNode, FlatProcess, FlatDesign}
use Rattle.v_design.specs.Paths.{net_pieces}
use Rattle.v_design.specs.Places.{PlacesDiffer}
use Rattle.v_design.specs.Sized.{levels_of_statement}
use Rattle.v_design.specs.WellFormed.{most_levels, most_inputs, levels_of_node, IsSizedNode, IsNodeOf, IsProcessOf, HasNamesOfOneWord, KeepsRules}
use Rattle.v_tree.specs.Trees.{Identifier, SourceUnit}
use Rattle.v_elab.specs.declared.Mode.{Mode}
use Rattle.v_elab.specs.Flat.{flat}
use Rattle.graph_order.specs.ListLaws.{AllHold-slice_get}
use Rattle.flat_laws.specs.Hierarchy.Levelled.{named-module}
use Rattle.flat_laws.specs.Limits.{design-objects}
use Rattle.flat_laws.specs.Lists.{AllHold-from}
use Rattle.flat_laws.specs.Made.{nodes_in, flat-made}
use Rattle.flat_laws.specs.Sizes.Meant.{IsProcessSized}
use Rattle.flat_laws.specs.Names.NamedUnits.{named-sized, named-written}
use Rattle.flat_laws.specs.Names.Once.{names-once}
use Rattle.flat_laws.specs.Names.OnceDeclared.{IsNamedUnit}
use Rattle.flat_laws.specs.Hierarchy.Processes.{IsNamed}
use Rattle.flat_laws.specs.Rules.{flat-ordered, flat-low}
use Rattle.flat_laws.specs.Source.{IsSourceUnit}
use Rattle.flat_laws.specs.Blocks.Written.{WritesVariables}
use Rattle.source_laws.specs.DesignWords.{design-words}
use Rattle.source_laws.specs.GateNames.{gates-apart}
use Rattle.source_laws.specs.NamedSignals.{parts-named}
use Rattle.source_laws.specs.ObjectBits.{parts-tell-bits}
use Rattle.source_laws.specs.Sites.{TellsSites, sites-differ}

-- no two sites of such a design have one name
named-sites : (unit : SourceUnit) (top : Identifier) (mode : Mode) (design : FlatDesign) → IsSourceUnit unit.modules → IsNamedUnit unit.modules → flat unit top mode ≡ Ok design → TellsSites design
named-sites unit top mode design source named e =
    let is = flat-made unit top mode design e in
    let found = named-module unit.modules is.name is.top is.found in
    record {
      bits =
          parts-tell-bits is.parts (nodes_in is.parts) design (design-objects is.parts design is.made) (parts-named unit.modules named mode is.top found.0 found.1 is.parts is.walk)
          (names-once unit.modules named mode is.top found.0 found.1 is.parts is.walk);
      gates = gates-apart unit.modules named mode is.top found.0 found.1 is.parts is.walk design is.made;
      terminals = (named-sized unit top mode design source named e).terminals;
      one_driver = (flat-ordered unit top mode design e).one_driver;
    }

-- each name of such a design is one word
named-words : (unit : SourceUnit) (top : Identifier) (mode : Mode) (design : FlatDesign) → IsNamedUnit unit.modules → flat unit top mode ≡ Ok design → HasNamesOfOneWord design
named-words unit top mode design named e =
    let is = flat-made unit top mode design e in
    let found = named-module unit.modules is.name is.top is.found in
    design-words is.parts design is.made (parts-named unit.modules named mode is.top found.0 found.1 is.parts is.walk)

-- each flat design of a unit that is read from a text keeps all rules, where no two statements of a process stand at one place
abbrev pub NamedDesignsKeepRules : Type 0
NamedDesignsKeepRules = (unit : SourceUnit) (top : Identifier) (mode : Mode) (design : FlatDesign) → IsSourceUnit unit.modules → IsNamedUnit unit.modules → flat unit top mode ≡ Ok design →
    AllHold (λ (process : FlatProcess). PlacesDiffer process.body) design.processes → KeepsRules design

pub named-keep : NamedDesignsKeepRules
named-keep unit top mode design source named e apart =
    let ordered = flat-ordered unit top mode design e in
    let low = flat-low unit top mode design source e in
    let sized = named-sized unit top mode design source named e in
    let written = named-written unit top mode design source named e in
    record {
      objects = sized.objects;
      joined = sized.joined;
      nodes =
          AllHold-from (IsNodeOf design) design.nodes
          (λ i node at.
          let own = AllHold-slice_get (IsNamed design) design.nodes i node written.named at in
          record {
            inputs = own.inputs;
            outputs = AllHold-slice_get (λ (n : FlatNode). WritesOutputs n.kind n.outputs) design.nodes i node written.outputs at;
            names = own.names;
            inputs_there = AllHold-slice_get (λ (n : FlatNode). AllHold (λ object. object < length design.objects) n.inputs) design.nodes i node ordered.inputs_there at;
            outputs_nets = AllHold-slice_get (λ (n : FlatNode). AllHold (λ object. IsTrue (has (net_pieces design) object)) n.outputs) design.nodes i node ordered.outputs_nets at;
            outputs_once = AllHold-slice_get (λ (n : FlatNode). without_repeats [] n.outputs ≡ n.outputs) design.nodes i node ordered.outputs_once at;
            sized = AllHold-slice_get (λ (n : FlatNode). IsSizedNode design n.kind n.outputs) design.nodes i node sized.nodes at;
            levels = AllHold-slice_get (λ (n : FlatNode). levels_of_node n.kind ≤ most_levels) design.nodes i node low.nodes at;
            few_inputs = AllHold-slice_get (λ (n : FlatNode). length n.inputs ≤ most_inputs) design.nodes i node ordered.few_inputs at;
          });
      processes =
          AllHold-from (IsProcessOf design) design.processes
          (λ i process at.
          let names = AllHold-slice_get (WritesVariables design) design.processes i process written.processes at in
          let own = AllHold-slice_get (IsProcessSized design) design.processes i process sized.processes at in
          record {
            names = names.names;
            entries = own.entries;
            variables = names.variables;
            sized = own.sized;
            levels = AllHold-slice_get (λ (p : FlatProcess). levels_of_statement p.body ≤ most_levels) design.processes i process low.processes at;
          });
      places = apart;
      words = named-words unit top mode design named e;
      one_driver = ordered.one_driver;
      ranked = ordered.ranked;
      by_rank = ordered.by_rank;
      sites = sites-differ design (named-sites unit top mode design source named e);
      few_objects = ordered.few_objects;
      few_nodes = ordered.few_nodes;
      few_processes = ordered.few_processes;
    }
