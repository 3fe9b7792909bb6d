-- A process of a flat design names what is there and writes variables and words alone (IEEE 1364-2001, clause 9.2).
use Rattle.std.proofs.Common.{◌≡◌, ℕ, true, false, List, ◌++◌, Option, Some, None, Ok, refl, sym, ap, ◌∙◌, subst}
use Rattle.std.specs.Prelude.{IsTrue, slice_get}
use Rattle.vf_base.specs.Lists.{has, AllHold}
use Rattle.v_design.specs.Designs.{FlatProcess, FlatDesign}
use Rattle.v_design.specs.Paths.{net_pieces}
use Rattle.v_design.specs.Reads.{named_by, written_objects}
use Rattle.v_design.specs.WellFormed.{have_widths}
use Rattle.v_tree.specs.Trees.{Identifier, NamedPlace, SourceModule}
use Rattle.v_names.specs.Scopes.{ScopeEntry, ParameterEntry, RefusedParameter, WaitingParameter, NetEntry, RegEntry, MemoryEntry, GateEntry, InstanceEntry, Scope, looked_up, is_reg}
use Rattle.v_comb.specs.CombinationalForm.{assigned_names}
use Rattle.v_elab.specs.declared.Mode.{Mode}
use Rattle.v_elab.specs.Parts.{Signal, WalkedProcess, Part, ProcessPart}
use Rattle.v_elab.specs.Walk.{Here, signal_part, walked_from}
use Rattle.v_elab.specs.Drivers.{signals_of, outermost}
use Rattle.v_elab.specs.Objects.{vector_of_name}
use Rattle.v_elab.specs.Flat.{meaning_in, flat_process}
use Rattle.graph_order.specs.ListLaws.{AllHold-slice_get}
use Rattle.flat_laws.specs.Made.{nodes_in, processes_in, objects_in, IsMadeOf}
use Rattle.flat_laws.specs.Lists.{AllHold-from}
use Rattle.flat_laws.specs.Numbered.{AllHold-map}
use Rattle.flat_laws.specs.Limits.{design-objects, design-processes}
use Rattle.flat_laws.specs.Hierarchy.Given.{IsHierarchy}
use Rattle.flat_laws.specs.Drivers.Held.{part-in-signals}
use Rattle.flat_laws.specs.Sizes.Objects.{object-at}
use Rattle.flat_laws.specs.Blocks.Named.{holders-there}
use Rattle.flat_laws.specs.Hierarchy.Visits.{IsAt, IsReadPart}
use Rattle.flat_laws.specs.Names.Placed.{signal_record, name-part}
use Rattle.flat_laws.specs.Blocks.Fitting.{FitsName, statement-fits}
use Rattle.flat_laws.specs.Hierarchy.Behaviours.{IsProcessPart, process-part, assigned-drives}
use Rattle.flat_laws.specs.Drivers.Variables.{one-fits, driving-held, no-piece, words-none}

-- Variables of a scope

-- a variable of a walk, by its hierarchical name
pub record IsVariableAt (parts : List Part) (full : Identifier) : Type 0 where
  pub number : ℕ
  pub signal : Signal
  pub is : slice_get (signals_of parts) number ≡ Some signal
  pub name_is : signal.name ≡ full
  pub reg : signal.is_reg ≡ true

-- a variable of an instance that a walk comes to
pub reg-at : (modules : List SourceModule) (mode : Mode) (top : SourceModule) (parts : List Part) → walked_from modules mode top ≡ Ok parts → (path : Identifier) (scope : Scope) →
    IsAt modules mode top path scope → (name : Identifier) →
    is_reg (looked_up scope name) ≡ true → IsVariableAt parts (path ++ name)
reg-at modules mode top parts e path scope at name reg = by_entry (looked_up scope name) refl reg
  where
    by_entry : (entry : Option ScopeEntry) → looked_up scope name ≡ entry → is_reg entry ≡ true → IsVariableAt parts (path ++ name)
    by_entry (Some (RegEntry range signed)) found is =
        let here : Here = record { modules = modules; mode = mode; instance = at.instance; scope = scope } in
        let r = name-part modules mode top parts e at.instance at.visited scope at.named name (RegEntry range signed) tt found (λ d. signal_part here d true range) (λ d. refl) in
        let place = part-in-signals parts r.2.0 (signal_record here r.0 true range) r.2.1 in
        record { number = place.0; signal = signal_record here r.0 true range; is = place.1; name_is = ap (λ n. at.instance.path ++ n) r.1 ∙ ap (λ (p : Identifier). p ++ name) at.path_is; reg = refl }
    by_entry None found is = absurd (cc)
    by_entry (Some (NetEntry range signed)) found is = absurd (cc)
    by_entry (Some (MemoryEntry range first last signed)) found is = absurd (cc)
    by_entry (Some (ParameterEntry value signed)) found is = absurd (cc)
    by_entry (Some RefusedParameter) found is = absurd (cc)
    by_entry (Some WaitingParameter) found is = absurd (cc)
    by_entry (Some GateEntry) found is = absurd (cc)
    by_entry (Some InstanceEntry) found is = absurd (cc)

-- Processes

-- what a process names is there, and it writes no net piece
pub record WritesVariables (design : FlatDesign) (process : FlatProcess) : Type 0 where
  pub names : IsTrue (have_widths design (named_by process.body))
  pub variables : AllHold (λ object. has (net_pieces design) object ≡ false) (written_objects process.body)

process-written : (modules : List SourceModule) (mode : Mode) (top : SourceModule) (parts : List Part) (design : FlatDesign) → walked_from modules mode top ≡ Ok parts → IsMadeOf parts design →
    IsHierarchy parts →
    AllHold (IsReadPart modules mode top) parts → (process : WalkedProcess) → IsProcessPart parts process → WritesVariables design (flat_process parts (objects_in parts) process)
process-written modules mode top parts design e made hierarchy read process stays =
    let objects = objects_in parts in
    let is = design-objects parts design made in
    let meaning = meaning_in parts objects process in
    let text = AllHold-slice_get (IsReadPart modules mode top) parts stays.number (ProcessPart process) read stays.is in
    let Q : ℕ → Type 0 = λ o. has (net_pieces design) o ≡ false in
    let there = holders-there design parts (nodes_in parts) hierarchy is process.path in
    let names : AllHold (λ (n : NamedPlace). FitsName design Q meaning n.name) (assigned_names process.body) =
    AllHold-from (λ (n : NamedPlace). FitsName design Q meaning n.name) (assigned_names process.body)
    (λ i n at.
    record {
      words = λ memory. words-none design parts (nodes_in parts) hierarchy is (process.path ++ n.name);
      variable = λ reg.
          let variable = reg-at modules mode top parts e process.path process.scope text.at n.name reg in
          let drives = assigned-drives parts process stays i n at reg variable.signal variable.reg variable.name_is in
          let held = driving-held parts (nodes_in parts) hierarchy variable.number variable.signal variable.is drives in
          let one = held.2 in
          one-fits design Q objects is (outermost (signals_of parts) variable.signal.name) held.0 one
          (no-piece design one.number held.0.object (ap (λ all. slice_get all one.number) (sym is) ∙ object-at objects one.number held.0 one.is) held.1)
          (vector_of_name (signals_of parts) objects (process.path ++ n.name))
          (ap (λ full. (vector_of_name (signals_of parts) objects full).pieces) (sym variable.name_is));
    }) in
    let r = statement-fits design Q meaning process.body there names text.names text.sizes in
    record { names = r.0; variables = r.1 }

-- the processes of a hierarchy
pub processes-written : (modules : List SourceModule) (mode : Mode) (top : SourceModule) (parts : List Part) (design : FlatDesign) → walked_from modules mode top ≡ Ok parts → IsMadeOf parts design →
    IsHierarchy parts →
    AllHold (IsReadPart modules mode top) parts → AllHold (WritesVariables design) design.processes
processes-written modules mode top parts design e made hierarchy read =
    subst (AllHold (WritesVariables design)) (design-processes parts design made)
    (AllHold-map (WritesVariables design) (flat_process parts (objects_in parts)) (processes_in parts)
    (AllHold-from (λ process. WritesVariables design (flat_process parts (objects_in parts) process)) (processes_in parts)
    (λ i process at. process-written modules mode top parts design e made hierarchy read process (process-part parts i process at))))
