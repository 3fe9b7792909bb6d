-- The texts of the blocks and processes of a walk are sized for what their names mean, where nothing is wrong with them, and so is what other nodes compute (IEEE 1364-2001, clause 9).
use Rattle.std.proofs.Common.{◌≡◌, ℕ, [], ◌++◌, List, Option, Some, None, Ok, refl, subst, arith}
use Rattle.std.specs.Prelude.{slice_get, option_map}
use Rattle.v_design.specs.Sized.{IsDelay, IsDelayIf}
use Rattle.v_tree.specs.Trees.{SourceExpressions, no_parts, more_parts, SourceTarget, SourceExpression, SourceStatement, NullStatement, BlockStatement, IfStatement, IfElseStatement, CaseStatement}
use Rattle.v_tree.specs.Trees.{ForStatement, WhileStatement, RepeatStatement, ForeverStatement, WaitStatement, EventStatement, DelayStatement, BlockingStatement, NonblockingStatement, IgnoredTask}
use Rattle.v_tree.specs.Trees.{FinishTask, SourceStatements, no_source_statements, more_source_statements, SourceCaseItems, no_source_items, labelled, otherwise, SourceModule, selects_of}
use Rattle.v_names.specs.Readings.{reading_of}
use Rattle.v_names.specs.Constants.{DelayValue, constant_faults, name_faults, part_faults, optional_faults}
use Rattle.v_names.specs.Names.{entry_faults, target_faults, statement_name_faults, statements_name_faults, case_name_faults}
use Rattle.v_width.specs.Targets.{ByProcess, target_reading}
use Rattle.v_elab.specs.declared.Mode.{Mode}
use Rattle.v_elab.specs.ItemFaults.{size_faults, assigned_faults, wait_faults, waits_faults, labels_faults, items_labels_faults, case_faults, GroupFaults, statement_faults, statements_faults}
use Rattle.v_elab.specs.ItemFaults.{items_faults}
use Rattle.v_elab.specs.Parts.{Part, ProcessPart, WalkedProcess}
use Rattle.v_elab.specs.Walk.{walked_from}
use Rattle.v_elab.specs.Drivers.{WalkedNode, NodeFunction, AssignFunction, GateFunction, BlockFunction}
use Rattle.v_elab.specs.Statements.{Meaning, delay_number, delay_or_zero, block_body}
use Rattle.v_elab.specs.Flat.{meaning_in}
use Rattle.graph_order.specs.ListLaws.{AllHold-slice_get}
use Rattle.flat_laws.specs.Lists.{AllHold-from}
use Rattle.flat_laws.specs.Made.{nodes_in, processes_in, objects_in}
use Rattle.flat_laws.specs.Source.{IsSourceUnit}
use Rattle.flat_laws.specs.Rules.{consistent-hierarchy}
use Rattle.flat_laws.specs.Hierarchy.Behaviours.{process-part, block-part}
use Rattle.flat_laws.specs.Hierarchy.Visits.{IsReadPart, parts-read}
use Rattle.flat_laws.specs.Names.OnceDeclared.{IsNamedUnit}
use Rattle.flat_laws.specs.Names.NamedUnits.{named-walks}
use Rattle.flat_laws.specs.Names.Placed.{scope-at}
use Rattle.flat_laws.specs.Sizes.Complete.{append-none, group-none, expression-full}
use Rattle.flat_laws.specs.Sizes.Sized.{IsMeant, complete-alone, alone-sound}
use Rattle.flat_laws.specs.Sizes.Statements.{HasSelects, HaveSelects, AllHaveSelects, ItemsHaveSelects, assignment-sound, delay-sound}
use Rattle.flat_laws.specs.Sizes.Meant.{IsPlaced, process-meant}
use Rattle.object_statements.specs.Texts.{AreSizedLabels, IsSizedRead, IsSizedWrite, IsSizedText, AreSizedTexts, AreSizedItemTexts}
use Rattle.sized_walks.specs.EntryLaws.{waits-narrow}
use Rattle.sized_walks.specs.NarrowLaws.{expression-narrow, selects-narrow}
use Rattle.sized_walks.specs.NodeLaws.{IsNarrowFunction, walk-narrow}
use Rattle.sized_walks.specs.Texts.{IsSizedFunction, AreSizedFunctions, AreSizedProcesses}

-- what is read
read-sized : (meaning : Meaning) → IsMeant meaning → (e : SourceExpression) → name_faults meaning.scope e ≡ [] → (reading_of meaning.scope e).here ≡ [] → (reading_of meaning.scope e).inside ≡ [] →
    IsSizedRead meaning e
read-sized meaning meant e names here inside = (complete-alone meaning meant e (expression-full meaning.scope meant.settled e names here inside), expression-narrow meaning.scope e names)

alone-sized : (meaning : Meaning) → IsMeant meaning → (e : SourceExpression) → name_faults meaning.scope e ≡ [] → size_faults meaning.scope e ≡ [] → IsSizedRead meaning e
alone-sized meaning meant e names sizes = (alone-sound meaning meant e names sizes, expression-narrow meaning.scope e names)

write-sized : (meaning : Meaning) → IsMeant meaning → (target : SourceTarget) (value : SourceExpression) → HasSelects target → target_faults meaning.scope target ≡ [] →
    name_faults meaning.scope value ≡ [] → assigned_faults ByProcess meaning.scope target value ≡ [] → IsSizedWrite meaning target value
write-sized meaning meant target value there names value_names faults =
    let t = target_reading ByProcess meaning.scope target in
    let reading = reading_of meaning.scope value in
    let none = group-none (t.here ++ reading.here) (t.inside ++ reading.inside) faults in
    let here = append-none t.here reading.here none.0 in
    let inside = append-none t.inside reading.inside none.1 in
    let whole = assignment-sound meaning meant target value there names value_names faults in
    ((whole.0, selects-narrow meaning.scope (selects_of target) names), read-sized meaning meant value value_names here.1 inside.1)

delay_if-sized : (meaning : Meaning) → IsMeant meaning → (delay : Option SourceExpression) → optional_faults (constant_faults meaning.scope DelayValue) delay ≡ [] →
    IsDelayIf (option_map (delay_number meaning) delay)
delay_if-sized meaning meant None e = tt
delay_if-sized meaning meant (Some delay) e = delay-sound meaning meant delay e

delay_or-sized : (meaning : Meaning) → IsMeant meaning → (delay : Option SourceExpression) → optional_faults (constant_faults meaning.scope DelayValue) delay ≡ [] →
    IsDelay (delay_or_zero meaning delay)
delay_or-sized meaning meant None e = omega arith
delay_or-sized meaning meant (Some delay) e = delay-sound meaning meant delay e

labels-alone : (meaning : Meaning) → IsMeant meaning → (labels : SourceExpressions) (group : GroupFaults) → part_faults meaning.scope labels ≡ [] →
    (labels_faults meaning.scope labels group).here ≡ [] → (labels_faults meaning.scope labels group).inside ≡ [] →
    AreSizedLabels meaning labels × (group.here ≡ []) × (group.inside ≡ [])
labels-alone meaning meant no_parts group names h i = (tt, h, i)
labels-alone meaning meant (more_parts label rest) group names h i =
    let reading = reading_of meaning.scope label in
    let none = append-none (name_faults meaning.scope label) (part_faults meaning.scope rest) names in
    let here = append-none reading.here (labels_faults meaning.scope rest group).here h in
    let inside = append-none reading.inside (labels_faults meaning.scope rest group).inside i in
    let later = labels-alone meaning meant rest group none.1 here.1 inside.1 in
    ((read-sized meaning meant label none.0 here.0 inside.0, later.0), later.1, later.2)

mutual
  -- of a statement of which nothing is wrong
  pub text-sized : (meaning : Meaning) → IsMeant meaning → (s : SourceStatement) → HaveSelects s → statement_name_faults meaning.scope s ≡ [] → statement_faults meaning.scope s ≡ [] →
      IsSizedText meaning s
  text-sized meaning meant (NullStatement place) there names sizes = tt
  text-sized meaning meant (BlockStatement place statements) there names sizes = texts-sized meaning meant statements there names sizes
  text-sized meaning meant (IfStatement place condition first) there names sizes =
      let n = append-none (name_faults meaning.scope condition) (statement_name_faults meaning.scope first) names in
      let s = append-none (size_faults meaning.scope condition) (statement_faults meaning.scope first) sizes in
      (alone-sized meaning meant condition n.0 s.0, text-sized meaning meant first there n.1 s.1)
  text-sized meaning meant (IfElseStatement place condition first second) there names sizes =
      let n = append-none (name_faults meaning.scope condition) (statement_name_faults meaning.scope first ++ statement_name_faults meaning.scope second) names in
      let s = append-none (size_faults meaning.scope condition) (statement_faults meaning.scope first ++ statement_faults meaning.scope second) sizes in
      let m = append-none (statement_name_faults meaning.scope first) (statement_name_faults meaning.scope second) n.1 in
      let t = append-none (statement_faults meaning.scope first) (statement_faults meaning.scope second) s.1 in
      (alone-sized meaning meant condition n.0 s.0, text-sized meaning meant first there.0 m.0 t.0, text-sized meaning meant second there.1 m.1 t.1)
  text-sized meaning meant (CaseStatement place kind value items) there names sizes =
      let reading = reading_of meaning.scope value in
      let group = items_labels_faults meaning.scope items in
      let n = append-none (name_faults meaning.scope value) (case_name_faults meaning.scope items) names in
      let s = append-none (case_faults meaning.scope value items) (items_faults meaning.scope items) sizes in
      let none = group-none (reading.here ++ group.here) (reading.inside ++ group.inside) s.0 in
      let here = append-none reading.here group.here none.0 in
      let inside = append-none reading.inside group.inside none.1 in (
        read-sized meaning meant value n.0 here.0 inside.0,
        item-texts-sized meaning meant items there n.1 here.1 inside.1 s.1,
      )
  text-sized meaning meant (ForStatement place first_target first condition next_target next body) there names sizes =
      let scope = meaning.scope in
      let n1 = append-none (target_faults scope first_target) (name_faults scope first ++ (name_faults scope condition
      ++ (target_faults scope next_target ++ (name_faults scope next ++ statement_name_faults scope body)))) names in
      let n2 = append-none (name_faults scope first) (name_faults scope condition ++ (target_faults scope next_target ++ (name_faults scope next ++ statement_name_faults scope body))) n1.1 in
      let n3 = append-none (name_faults scope condition) (target_faults scope next_target ++ (name_faults scope next ++ statement_name_faults scope body)) n2.1 in
      let n4 = append-none (target_faults scope next_target) (name_faults scope next ++ statement_name_faults scope body) n3.1 in
      let n5 = append-none (name_faults scope next) (statement_name_faults scope body) n4.1 in
      let s1 = append-none (assigned_faults ByProcess scope first_target first) (size_faults scope condition ++ (assigned_faults ByProcess scope next_target next ++ statement_faults scope body))
      sizes in
      let s2 = append-none (size_faults scope condition) (assigned_faults ByProcess scope next_target next ++ statement_faults scope body) s1.1 in
      let s3 = append-none (assigned_faults ByProcess scope next_target next) (statement_faults scope body) s2.1 in (
        write-sized meaning meant first_target first there.0 n1.0 n2.0 s1.0,
        alone-sized meaning meant condition n3.0 s2.0,
        write-sized meaning meant next_target next there.1 n4.0 n5.0 s3.0,
        text-sized meaning meant body there.2 n5.1 s3.1,
      )
  text-sized meaning meant (WhileStatement place condition body) there names sizes =
      let n = append-none (name_faults meaning.scope condition) (statement_name_faults meaning.scope body) names in
      let s = append-none (size_faults meaning.scope condition) (statement_faults meaning.scope body) sizes in
      (alone-sized meaning meant condition n.0 s.0, text-sized meaning meant body there n.1 s.1)
  text-sized meaning meant (RepeatStatement place count body) there names sizes =
      let n = append-none (name_faults meaning.scope count) (statement_name_faults meaning.scope body) names in
      let s = append-none (size_faults meaning.scope count) (statement_faults meaning.scope body) sizes in
      (alone-sized meaning meant count n.0 s.0, text-sized meaning meant body there n.1 s.1)
  text-sized meaning meant (ForeverStatement place body) there names sizes = text-sized meaning meant body there names sizes
  text-sized meaning meant (WaitStatement place condition body) there names sizes =
      let n = append-none (name_faults meaning.scope condition) (statement_name_faults meaning.scope body) names in
      let s = append-none (wait_faults meaning.scope condition) (statement_faults meaning.scope body) sizes in
      (expression-narrow meaning.scope condition n.0, text-sized meaning meant body there n.1 s.1)
  text-sized meaning meant (EventStatement place waits body) there names sizes =
      let n = append-none (entry_faults meaning.scope waits) (statement_name_faults meaning.scope body) names in
      let s = append-none (waits_faults meaning.scope waits) (statement_faults meaning.scope body) sizes in
      (waits-narrow meaning.scope meant.fits waits n.0 s.0, text-sized meaning meant body there n.1 s.1)
  text-sized meaning meant (DelayStatement place delay body) there names sizes =
      let n = append-none (constant_faults meaning.scope DelayValue delay) (statement_name_faults meaning.scope body) names in
      let s = append-none (size_faults meaning.scope delay) (statement_faults meaning.scope body) sizes in
      (delay-sound meaning meant delay n.0, text-sized meaning meant body there n.1 s.1)
  text-sized meaning meant (BlockingStatement place target delay value) there names sizes =
      let n = append-none (target_faults meaning.scope target) (optional_faults (constant_faults meaning.scope DelayValue) delay ++ name_faults meaning.scope value) names in
      let m = append-none (optional_faults (constant_faults meaning.scope DelayValue) delay) (name_faults meaning.scope value) n.1 in
      let s = append-none (assigned_faults ByProcess meaning.scope target value) (optional_faults (size_faults meaning.scope) delay) sizes in
      (delay_if-sized meaning meant delay m.0, write-sized meaning meant target value there n.0 m.1 s.0)
  text-sized meaning meant (NonblockingStatement place target delay value) there names sizes =
      let n = append-none (target_faults meaning.scope target) (optional_faults (constant_faults meaning.scope DelayValue) delay ++ name_faults meaning.scope value) names in
      let m = append-none (optional_faults (constant_faults meaning.scope DelayValue) delay) (name_faults meaning.scope value) n.1 in
      let s = append-none (assigned_faults ByProcess meaning.scope target value) (optional_faults (size_faults meaning.scope) delay) sizes in
      (delay_or-sized meaning meant delay m.0, write-sized meaning meant target value there n.0 m.1 s.0)
  text-sized meaning meant (IgnoredTask place) there names sizes = tt
  text-sized meaning meant (FinishTask place) there names sizes = tt

  texts-sized : (meaning : Meaning) → IsMeant meaning → (statements : SourceStatements) → AllHaveSelects statements → statements_name_faults meaning.scope statements ≡ [] →
      statements_faults meaning.scope statements ≡ [] → AreSizedTexts meaning statements
  texts-sized meaning meant no_source_statements there names sizes = tt
  texts-sized meaning meant (more_source_statements first rest) there names sizes =
      let n = append-none (statement_name_faults meaning.scope first) (statements_name_faults meaning.scope rest) names in
      let s = append-none (statement_faults meaning.scope first) (statements_faults meaning.scope rest) sizes in
      (text-sized meaning meant first there.0 n.0 s.0, texts-sized meaning meant rest there.1 n.1 s.1)

  item-texts-sized : (meaning : Meaning) → IsMeant meaning → (items : SourceCaseItems) → ItemsHaveSelects items → case_name_faults meaning.scope items ≡ [] →
      (items_labels_faults meaning.scope items).here ≡ [] → (items_labels_faults meaning.scope items).inside ≡ [] → items_faults meaning.scope items ≡ [] → AreSizedItemTexts meaning items
  item-texts-sized meaning meant no_source_items there names h i sizes = tt
  item-texts-sized meaning meant (labelled labels statement rest) there names h i sizes =
      let n = append-none (part_faults meaning.scope labels) (statement_name_faults meaning.scope statement ++ case_name_faults meaning.scope rest) names in
      let m = append-none (statement_name_faults meaning.scope statement) (case_name_faults meaning.scope rest) n.1 in
      let s = append-none (statement_faults meaning.scope statement) (items_faults meaning.scope rest) sizes in
      let first = labels-alone meaning meant labels (items_labels_faults meaning.scope rest) n.0 h i in
      (first.0, text-sized meaning meant statement there.0 m.0 s.0, item-texts-sized meaning meant rest there.1 m.1 first.1 first.2 s.1)
  item-texts-sized meaning meant (otherwise statement rest) there names h i sizes =
      let m = append-none (statement_name_faults meaning.scope statement) (case_name_faults meaning.scope rest) names in
      let s = append-none (statement_faults meaning.scope statement) (items_faults meaning.scope rest) sizes in
      (text-sized meaning meant statement there.0 m.0 s.0, item-texts-sized meaning meant rest there.1 m.1 h i s.1)

-- Blocks

-- so is what a block does once it is woken
body-sized : (meaning : Meaning) (s : SourceStatement) → IsSizedText meaning s → IsSizedText meaning (block_body s)
body-sized meaning (EventStatement place waits body) h = h.1
body-sized meaning (NullStatement place) h = h
body-sized meaning (BlockStatement place statements) h = h
body-sized meaning (IfStatement place condition first) h = h
body-sized meaning (IfElseStatement place condition first second) h = h
body-sized meaning (CaseStatement place kind value items) h = h
body-sized meaning (ForStatement place first_target first condition next_target next body) h = h
body-sized meaning (WhileStatement place condition body) h = h
body-sized meaning (RepeatStatement place count body) h = h
body-sized meaning (ForeverStatement place body) h = h
body-sized meaning (WaitStatement place condition body) h = h
body-sized meaning (DelayStatement place delay body) h = h
body-sized meaning (BlockingStatement place target delay value) h = h
body-sized meaning (NonblockingStatement place target delay value) h = h
body-sized meaning (IgnoredTask place) h = h
body-sized meaning (FinishTask place) h = h

-- Walks

-- the text of a process among the parts of a walk of a text
part-sized : (modules : List SourceModule) → IsSourceUnit modules → IsNamedUnit modules → (mode : Mode) (top : SourceModule) (k : ℕ) → slice_get modules k ≡ Some top → (parts : List Part) →
    walked_from modules mode top ≡ Ok parts → (i : ℕ) (process : WalkedProcess) → slice_get parts i ≡ Some (ProcessPart process) →
    IsSizedText (meaning_in parts (objects_in parts) process) process.body
part-sized modules source named mode top k at parts e i process is =
    let walk = named-walks modules named mode k top parts at e in
    let hierarchy = consistent-hierarchy modules mode top parts e walk in
    let read = AllHold-slice_get (λ part. IsReadPart modules mode top part) parts i (ProcessPart process) (parts-read modules mode top source k at parts e) is in
    let placed : IsPlaced parts process.path process.scope = record {
      at = scope-at modules mode top parts e process.path process.scope read.at;
      settled = walk.settled process.path process.scope read.at;
    } in
    text-sized (meaning_in parts (objects_in parts) process) (process-meant parts hierarchy process placed) process.body read.selects read.names read.sizes

pub named-processes : (modules : List SourceModule) → IsSourceUnit modules → IsNamedUnit modules → (mode : Mode) (top : SourceModule) (k : ℕ) → slice_get modules k ≡ Some top →
    (parts : List Part) → walked_from modules mode top ≡ Ok parts → AreSizedProcesses parts (objects_in parts) (processes_in parts)
named-processes modules source named mode top k at parts e =
    AllHold-from (λ (process : WalkedProcess). IsSizedText (meaning_in parts (objects_in parts) process) process.body) (processes_in parts)
    (λ i process there.
    let part = process-part parts i process there in
    part-sized modules source named mode top k at parts e part.number process part.is)

pub named-functions : (modules : List SourceModule) → IsSourceUnit modules → IsNamedUnit modules → (mode : Mode) (top : SourceModule) (k : ℕ) → slice_get modules k ≡ Some top →
    (parts : List Part) → walked_from modules mode top ≡ Ok parts → AreSizedFunctions parts (objects_in parts) (nodes_in parts)
named-functions modules source named mode top k at parts e =
    AllHold-from (λ (node : WalkedNode). IsSizedFunction parts (objects_in parts) node.function) (nodes_in parts) (λ i node there. by_function i node there node.function refl)
  where
    by_function : (i : ℕ) (node : WalkedNode) → slice_get (nodes_in parts) i ≡ Some node → (function : NodeFunction) → node.function ≡ function → IsSizedFunction parts (objects_in parts) function
    by_function i node there (AssignFunction value) is = subst IsNarrowFunction is (walk-narrow modules mode top k at parts e i node there)
    by_function i node there (GateFunction kind path terminals) is = subst IsNarrowFunction is (walk-narrow modules mode top k at parts e i node there)
    by_function i node there (BlockFunction process) is =
        let part = block-part parts i node process there is in
        body-sized (meaning_in parts (objects_in parts) process) process.body (part-sized modules source named mode top k at parts e part.number process part.is)

-- The laws

-- the processes of each walk of a text are sized
abbrev pub ProcessesAreSized : Type 0
ProcessesAreSized = (modules : List SourceModule) → IsSourceUnit modules → IsNamedUnit modules → (mode : Mode) (top : SourceModule) (k : ℕ) → slice_get modules k ≡ Some top → (parts : List Part) →
    walked_from modules mode top ≡ Ok parts → AreSizedProcesses parts (objects_in parts) (processes_in parts)

-- so is what its nodes do
abbrev pub NodesAreSized : Type 0
NodesAreSized = (modules : List SourceModule) → IsSourceUnit modules → IsNamedUnit modules → (mode : Mode) (top : SourceModule) (k : ℕ) → slice_get modules k ≡ Some top → (parts : List Part) →
    walked_from modules mode top ≡ Ok parts → AreSizedFunctions parts (objects_in parts) (nodes_in parts)
