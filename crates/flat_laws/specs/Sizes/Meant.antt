-- In a hierarchy whose scopes are declared among its parts the processes are sized, and wait for bits that are there (IEEE 1364-2001, clause 9; clause 12.5 for scopes).
use Rattle.std.proofs.Common.{◌≡◌, ◌≤◌, List, [], ◌∷◌, ◌++◌, map, Option, Some, None, refl, sym, ap, ◌∙◌, subst}
use Rattle.vf_base.specs.Lists.{AllHold}
use Rattle.v_design.specs.Sized.{most_bits, IsSizedEntry, IsSizedStatement}
use Rattle.v_design.specs.Designs.{FlatObject, FlatProcess, FlatDesign}
use Rattle.v_design.specs.Reads.{entries_in, entries_in_all, entries_in_items}
use Rattle.v_design.specs.WellFormed.{IsSizedObject, IsEntryOf}
use Rattle.v_tree.specs.Trees.{Identifier, SourceWaits, SourceStatement, NullStatement, BlockStatement, IfStatement, IfElseStatement, CaseStatement, ForStatement, WhileStatement, RepeatStatement}
use Rattle.v_tree.specs.Trees.{ForeverStatement, WaitStatement, EventStatement, DelayStatement, BlockingStatement, NonblockingStatement, IgnoredTask, FinishTask, SourceStatements}
use Rattle.v_tree.specs.Trees.{no_source_statements, more_source_statements, SourceCaseItems, no_source_items, labelled, otherwise}
use Rattle.v_names.specs.Scopes.{ScopeEntry, ParameterEntry, RefusedParameter, WaitingParameter, NetEntry, RegEntry, MemoryEntry, GateEntry, InstanceEntry, Scope, looked_up, range_width}
use Rattle.v_names.specs.Readings.{Size, reading_of}
use Rattle.v_names.specs.Constants.{DelayValue, name_faults, part_faults, constant_faults}
use Rattle.v_names.specs.Names.{entry_faults, target_faults, statement_name_faults, statements_name_faults, case_name_faults}
use Rattle.v_width.specs.Targets.{ByProcess}
use Rattle.v_elab.specs.ItemFaults.{size_faults, assigned_faults, wait_faults, waits_faults, case_faults, statement_faults, statements_faults, items_faults}
use Rattle.v_elab.specs.Parts.{WalkedProcess, Part, SignalPart, MemoryPart, AssignPart, GatePart, ProcessPart, InstancePart}
use Rattle.v_elab.specs.Objects.{HeldObject}
use Rattle.v_elab.specs.Drivers.{behaviours_of}
use Rattle.v_elab.specs.Statements.{Meaning, wait_entries, items_size, statement_over, statements_over, items_over, default_over}
use Rattle.v_elab.specs.Flat.{widths_of, meaning_in, flat_process}
use Rattle.graph_order.specs.ListLaws.{AllHold-slice_get}
use Rattle.flat_laws.specs.Made.{nodes_in, processes_in, objects_in, IsMadeOf}
use Rattle.flat_laws.specs.Lists.{AllHold-from}
use Rattle.flat_laws.specs.Numbered.{AllHold-each, AllHold-append, AllHold-map}
use Rattle.flat_laws.specs.Limits.{design-objects, design-processes}
use Rattle.flat_laws.specs.Hierarchy.Given.{IsHierarchy}
use Rattle.flat_laws.specs.Drivers.Held.{IsDeclaredAs, IsScopeAt, entry-held}
use Rattle.flat_laws.specs.Sizes.Objects.{objects-sized}
use Rattle.flat_laws.specs.Blocks.Named.{holders-there}
use Rattle.flat_laws.specs.Sizes.Complete.{append-none, IsSettled}
use Rattle.flat_laws.specs.Sizes.Sized.{FitsVector, IsMeant}
use Rattle.flat_laws.specs.Sizes.Entries.{IsEntryThere}
use Rattle.flat_laws.specs.Sizes.Waits.{waits-there}
use Rattle.flat_laws.specs.Hierarchy.Processes.{IsFaultless, IsFaultlessPart, OfPart, behaviours-of, among-processes, faultless-of, processes-sized}

-- Meanings

-- a scope of the hierarchy, each of whose parameters has a value
pub record IsPlaced (parts : List Part) (path : Identifier) (scope : Scope) : Type 0 where
  pub at : IsScopeAt parts path scope
  pub settled : IsSettled scope

entry-fits : (parts : List Part) → IsHierarchy parts → (full : Identifier) (entry : Option ScopeEntry) → IsDeclaredAs parts full entry → FitsVector entry
entry-fits parts hierarchy full (Some (NetEntry range signed)) h = let most = (hierarchy.signals h.0 h.1 h.2).most in subst (λ r. range_width r ≤ most_bits) h.4 most
entry-fits parts hierarchy full (Some (RegEntry range signed)) h = let most = (hierarchy.signals h.0 h.1 h.2).most in subst (λ r. range_width r ≤ most_bits) h.4 most
entry-fits parts hierarchy full (Some (MemoryEntry range first last signed)) h = subst (λ r. range_width r ≤ most_bits) h.4 (hierarchy.memories h.0 h.1 h.2)
entry-fits parts hierarchy full None h = tt
entry-fits parts hierarchy full (Some (ParameterEntry value signed)) h = tt
entry-fits parts hierarchy full (Some RefusedParameter) h = tt
entry-fits parts hierarchy full (Some WaitingParameter) h = tt
entry-fits parts hierarchy full (Some GateEntry) h = tt
entry-fits parts hierarchy full (Some InstanceEntry) h = tt

widths-are : (objects : List HeldObject) → map (λ (o : FlatObject). o.width) (map (λ (held : HeldObject). held.object) objects) ≡ widths_of objects
widths-are [] = refl
widths-are (held ∷ objects) = ap (λ l. held.object.width ∷ l) (widths-are objects)

-- a design has the objects of some parts
abbrev HasObjects : List Part → FlatDesign → Type 0
HasObjects parts design = map (λ (held : HeldObject). held.object) (objects_in parts) ≡ design.objects

design-sized : (parts : List Part) (design : FlatDesign) → HasObjects parts design → IsHierarchy parts → AllHold IsSizedObject design.objects
design-sized parts design same hierarchy = subst (AllHold IsSizedObject) same (objects-sized parts (nodes_in parts) hierarchy)

-- what a process of the hierarchy waits for
process-waits : (parts : List Part) (design : FlatDesign) → HasObjects parts design → IsHierarchy parts → (process : WalkedProcess) → IsPlaced parts process.path process.scope →
    (waits : SourceWaits) (body : SourceStatement) →
    entry_faults process.scope waits ≡ [] → waits_faults process.scope waits ≡ [] → AllHold (IsEntryThere design) (wait_entries (meaning_in parts (objects_in parts) process) waits body)
process-waits parts design same hierarchy process placed waits body names wrong =
    waits-there design (meaning_in parts (objects_in parts) process) (design-sized parts design same hierarchy)
    (holders-there design parts (nodes_in parts) hierarchy same process.path) placed.settled
    (ap (map (λ (o : FlatObject). o.width)) (sym same) ∙ widths-are (objects_in parts)) waits body names wrong

-- the objects of some parts, as a design
abbrev objects_alone : List Part → FlatDesign
objects_alone parts = record { objects = map (λ (held : HeldObject). held.object) (objects_in parts); joined = []; nodes = []; processes = [] }

-- the names of a process of the hierarchy are held by objects
pub process-meant : (parts : List Part) → IsHierarchy parts → (process : WalkedProcess) → IsPlaced parts process.path process.scope →
    IsMeant (meaning_in parts (objects_in parts) process)
process-meant parts hierarchy process placed = record {
  held = λ name. entry-held parts (nodes_in parts) hierarchy process.path name (looked_up process.scope name) (placed.at name);
  settled = placed.settled;
  fits = λ name. entry-fits parts hierarchy (process.path ++ name) (looked_up process.scope name) (placed.at name);
  entries = λ waits body names wrong.
      AllHold-each (IsEntryThere (objects_alone parts)) IsSizedEntry (wait_entries (meaning_in parts (objects_in parts) process) waits body) (λ entry h. h.sized)
      (process-waits parts (objects_alone parts) refl hierarchy process placed waits body names wrong);
}

-- Entries

-- the waits of a meaning are there
abbrev WaitsThere : FlatDesign → Meaning → Type 0
WaitsThere design meaning =
    (waits : SourceWaits) (body : SourceStatement) → entry_faults meaning.scope waits ≡ [] → waits_faults meaning.scope waits ≡ [] → AllHold (IsEntryThere design) (wait_entries meaning waits body)

mutual
  -- the entries of a statement of which nothing is wrong are bits of their objects
  statement-entries : (design : FlatDesign) (meaning : Meaning) → WaitsThere design meaning → (s : SourceStatement) → statement_name_faults meaning.scope s ≡ [] →
      statement_faults meaning.scope s ≡ [] →
      AllHold (IsEntryOf design) (entries_in (statement_over meaning s))
  statement-entries design meaning there (NullStatement place) names sizes = tt
  statement-entries design meaning there (BlockStatement place statements) names sizes = statements-entries design meaning there statements names sizes
  statement-entries design meaning there (IfStatement place condition first) names sizes =
      let n = append-none (name_faults meaning.scope condition) (statement_name_faults meaning.scope first) names in
      let s = append-none (size_faults meaning.scope condition) (statement_faults meaning.scope first) sizes in
      AllHold-append (IsEntryOf design) (entries_in (statement_over meaning first)) [] (statement-entries design meaning there first n.1 s.1) tt
  statement-entries design meaning there (IfElseStatement place condition first second) names sizes =
      let n = append-none (name_faults meaning.scope condition) (statement_name_faults meaning.scope first ++ statement_name_faults meaning.scope second) names in
      let s = append-none (size_faults meaning.scope condition) (statement_faults meaning.scope first ++ statement_faults meaning.scope second) sizes in
      let m = append-none (statement_name_faults meaning.scope first) (statement_name_faults meaning.scope second) n.1 in
      let t = append-none (statement_faults meaning.scope first) (statement_faults meaning.scope second) s.1 in
      AllHold-append (IsEntryOf design) (entries_in (statement_over meaning first)) (entries_in (statement_over meaning second)) (statement-entries design meaning there first m.0 t.0)
      (statement-entries design meaning there second m.1 t.1)
  statement-entries design meaning there (CaseStatement place kind value items) names sizes =
      let n = append-none (name_faults meaning.scope value) (case_name_faults meaning.scope items) names in
      let s = append-none (case_faults meaning.scope value items) (items_faults meaning.scope items) sizes in
      AllHold-append (IsEntryOf design) (entries_in_items (items_over meaning (items_size meaning.scope items (reading_of meaning.scope value).size) items)) (entries_in (default_over meaning items))
      (items-entries design meaning there (items_size meaning.scope items (reading_of meaning.scope value).size) items n.1 s.1) (default-entries design meaning there items n.1 s.1)
  statement-entries design meaning there (ForStatement place first_target first condition next_target next body) names sizes =
      let scope = meaning.scope in
      let n1 = append-none (target_faults scope first_target) (name_faults scope first ++ (name_faults scope condition
      ++ (target_faults scope next_target ++ (name_faults scope next ++ statement_name_faults scope body)))) names in
      let n2 = append-none (name_faults scope first) (name_faults scope condition ++ (target_faults scope next_target ++ (name_faults scope next ++ statement_name_faults scope body))) n1.1 in
      let n3 = append-none (name_faults scope condition) (target_faults scope next_target ++ (name_faults scope next ++ statement_name_faults scope body)) n2.1 in
      let n4 = append-none (target_faults scope next_target) (name_faults scope next ++ statement_name_faults scope body) n3.1 in
      let n5 = append-none (name_faults scope next) (statement_name_faults scope body) n4.1 in
      let s1 = append-none (assigned_faults ByProcess scope first_target first) (size_faults scope condition ++ (assigned_faults ByProcess scope next_target next ++ statement_faults scope body))
      sizes in
      let s2 = append-none (size_faults scope condition) (assigned_faults ByProcess scope next_target next ++ statement_faults scope body) s1.1 in
      let s3 = append-none (assigned_faults ByProcess scope next_target next) (statement_faults scope body) s2.1 in
      statement-entries design meaning there body n5.1 s3.1
  statement-entries design meaning there (WhileStatement place condition body) names sizes =
      statement-entries design meaning there body (append-none (name_faults meaning.scope condition) (statement_name_faults meaning.scope body) names).1
      (append-none (size_faults meaning.scope condition) (statement_faults meaning.scope body) sizes).1
  statement-entries design meaning there (RepeatStatement place count body) names sizes =
      statement-entries design meaning there body (append-none (name_faults meaning.scope count) (statement_name_faults meaning.scope body) names).1
      (append-none (size_faults meaning.scope count) (statement_faults meaning.scope body) sizes).1
  statement-entries design meaning there (ForeverStatement place body) names sizes = statement-entries design meaning there body names sizes
  statement-entries design meaning there (WaitStatement place condition body) names sizes =
      statement-entries design meaning there body (append-none (name_faults meaning.scope condition) (statement_name_faults meaning.scope body) names).1
      (append-none (wait_faults meaning.scope condition) (statement_faults meaning.scope body) sizes).1
  statement-entries design meaning there (EventStatement place waits body) names sizes =
      let n = append-none (entry_faults meaning.scope waits) (statement_name_faults meaning.scope body) names in
      let s = append-none (waits_faults meaning.scope waits) (statement_faults meaning.scope body) sizes in
      AllHold-append (IsEntryOf design) (wait_entries meaning waits body) (entries_in (statement_over meaning body))
      (AllHold-each (IsEntryThere design) (IsEntryOf design) (wait_entries meaning waits body) (λ entry h. h.there) (there waits body n.0 s.0))
      (statement-entries design meaning there body n.1 s.1)
  statement-entries design meaning there (DelayStatement place delay body) names sizes =
      statement-entries design meaning there body (append-none (constant_faults meaning.scope DelayValue delay) (statement_name_faults meaning.scope body) names).1
      (append-none (size_faults meaning.scope delay) (statement_faults meaning.scope body) sizes).1
  statement-entries design meaning there (BlockingStatement place target delay value) names sizes = tt
  statement-entries design meaning there (NonblockingStatement place target delay value) names sizes = tt
  statement-entries design meaning there (IgnoredTask place) names sizes = tt
  statement-entries design meaning there (FinishTask place) names sizes = tt

  statements-entries : (design : FlatDesign) (meaning : Meaning) → WaitsThere design meaning → (statements : SourceStatements) → statements_name_faults meaning.scope statements ≡ [] →
      statements_faults meaning.scope statements ≡ [] →
      AllHold (IsEntryOf design) (entries_in_all (statements_over meaning statements))
  statements-entries design meaning there no_source_statements names sizes = tt
  statements-entries design meaning there (more_source_statements first rest) names sizes =
      let n = append-none (statement_name_faults meaning.scope first) (statements_name_faults meaning.scope rest) names in
      let s = append-none (statement_faults meaning.scope first) (statements_faults meaning.scope rest) sizes in
      AllHold-append (IsEntryOf design) (entries_in (statement_over meaning first)) (entries_in_all (statements_over meaning rest)) (statement-entries design meaning there first n.0 s.0)
      (statements-entries design meaning there rest n.1 s.1)

  items-entries : (design : FlatDesign) (meaning : Meaning) → WaitsThere design meaning → (size : Option Size) (items : SourceCaseItems) → case_name_faults meaning.scope items ≡ [] →
      items_faults meaning.scope items ≡ [] →
      AllHold (IsEntryOf design) (entries_in_items (items_over meaning size items))
  items-entries design meaning there size no_source_items names sizes = tt
  items-entries design meaning there size (labelled labels statement rest) names sizes =
      let n = append-none (part_faults meaning.scope labels) (statement_name_faults meaning.scope statement ++ case_name_faults meaning.scope rest) names in
      let m = append-none (statement_name_faults meaning.scope statement) (case_name_faults meaning.scope rest) n.1 in
      let s = append-none (statement_faults meaning.scope statement) (items_faults meaning.scope rest) sizes in
      AllHold-append (IsEntryOf design) (entries_in (statement_over meaning statement)) (entries_in_items (items_over meaning size rest)) (statement-entries design meaning there statement m.0 s.0)
      (items-entries design meaning there size rest m.1 s.1)
  items-entries design meaning there size (otherwise statement rest) names sizes =
      let m = append-none (statement_name_faults meaning.scope statement) (case_name_faults meaning.scope rest) names in
      let s = append-none (statement_faults meaning.scope statement) (items_faults meaning.scope rest) sizes in
      items-entries design meaning there size rest m.1 s.1

  default-entries : (design : FlatDesign) (meaning : Meaning) → WaitsThere design meaning → (items : SourceCaseItems) → case_name_faults meaning.scope items ≡ [] →
      items_faults meaning.scope items ≡ [] →
      AllHold (IsEntryOf design) (entries_in (default_over meaning items))
  default-entries design meaning there no_source_items names sizes = tt
  default-entries design meaning there (labelled labels statement rest) names sizes =
      let n = append-none (part_faults meaning.scope labels) (statement_name_faults meaning.scope statement ++ case_name_faults meaning.scope rest) names in
      let m = append-none (statement_name_faults meaning.scope statement) (case_name_faults meaning.scope rest) n.1 in
      let s = append-none (statement_faults meaning.scope statement) (items_faults meaning.scope rest) sizes in
      default-entries design meaning there rest m.1 s.1
  default-entries design meaning there (otherwise statement rest) names sizes =
      let m = append-none (statement_name_faults meaning.scope statement) (case_name_faults meaning.scope rest) names in
      let s = append-none (statement_faults meaning.scope statement) (items_faults meaning.scope rest) sizes in
      statement-entries design meaning there statement m.0 s.0

-- Processes

-- the scope of a process is declared among the parts
abbrev pub IsPlacedPart : List Part → Part → Type 0
IsPlacedPart all (ProcessPart process) = IsPlaced all process.path process.scope
IsPlacedPart all _ = Unit {0}

placed-of : (parts : List Part) (part : Part) → IsPlacedPart parts part → OfPart (λ process. IsPlaced parts process.path process.scope) part
placed-of parts (ProcessPart process) h = h
placed-of parts (AssignPart drives value) h = tt
placed-of parts (GatePart name kind drives path terminals) h = tt
placed-of parts (SignalPart signal) h = tt
placed-of parts (MemoryPart memory) h = tt
placed-of parts InstancePart h = tt

-- a process is sized, and waits for bits of its objects
pub record IsProcessSized (design : FlatDesign) (process : FlatProcess) : Type 0 where
  pub sized : IsSizedStatement process.body
  pub entries : AllHold (IsEntryOf design) (entries_in process.body)

both : (design : FlatDesign) (processes : List FlatProcess) → AllHold (λ (process : FlatProcess). IsSizedStatement process.body) processes →
    AllHold (λ (process : FlatProcess). AllHold (IsEntryOf design) (entries_in process.body)) processes →
    AllHold (IsProcessSized design) processes
both design [] h k = tt
both design (process ∷ processes) h k = (record { sized = h.0; entries = k.0 }, both design processes h.1 k.1)

-- the processes of a hierarchy
pub processes-there : (parts : List Part) (design : FlatDesign) → IsMadeOf parts design → IsHierarchy parts → AllHold (IsPlacedPart parts) parts → AllHold IsFaultlessPart parts →
    AllHold (IsProcessSized design) design.processes
processes-there parts design made hierarchy placed faultless =
    let none = among-processes IsFaultless (behaviours_of parts) (behaviours-of IsFaultless parts 0 parts (AllHold-each IsFaultlessPart (OfPart IsFaultless) parts faultless-of faultless)) in
    let at = among-processes (λ process. IsPlaced parts process.path process.scope) (behaviours_of parts)
    (behaviours-of (λ process. IsPlaced parts process.path process.scope) parts 0 parts (AllHold-each (IsPlacedPart parts) (OfPart (λ process. IsPlaced parts process.path process.scope)) parts
    (placed-of parts) placed)) in
    let meant = AllHold-each (λ (process : WalkedProcess). IsPlaced parts process.path process.scope) (λ process. IsMeant (meaning_in parts (objects_in parts) process)) (processes_in parts)
    (process-meant parts hierarchy) at in
    both design design.processes (processes-sized parts design made faultless meant)
    (subst (AllHold (λ (process : FlatProcess). AllHold (IsEntryOf design) (entries_in process.body))) (design-processes parts design made)
    (AllHold-map (λ (process : FlatProcess). AllHold (IsEntryOf design) (entries_in process.body)) (flat_process parts (objects_in parts)) (processes_in parts)
    (AllHold-from (λ process. AllHold (IsEntryOf design) (entries_in (flat_process parts (objects_in parts) process).body)) (processes_in parts)
    (λ i process found.
    let text = AllHold-slice_get IsFaultless (processes_in parts) i process none found in
    let place = AllHold-slice_get (λ (p : WalkedProcess). IsPlaced parts p.path p.scope) (processes_in parts) i process at found in
    statement-entries design (meaning_in parts (objects_in parts) process) (process-waits parts design (design-objects parts design made) hierarchy process place) process.body text.names text.sizes))))
