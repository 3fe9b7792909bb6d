-- The gates and blocks of a flat design are sized inside, where the scopes that a walk comes to are declared among its parts (IEEE 1364-2001, clause 4.4, clause 7 and clause 9).
use Rattle.std.proofs.Common.{◌≡◌, ℕ, ◌+◌, ◌<◌, ◌^◌, max, Bool, true, false, List, [], ◌∷◌, length, Option, Some, None, refl, sym, ap, ◌∙◌, subst, arith}
use Rattle.std.specs.Prelude.{not, nat_eq, flat_map}
use Rattle.std.proofs.lemmas.Bool.{eqb-true}
use Rattle.vf_base.specs.Base.{SourcePlace}
use Rattle.vf_base.specs.Lists.{AllHold, map_numbered, joined}
use Rattle.v_design.specs.Expressions.{width_of}
use Rattle.v_design.specs.Sized.{IsSizedAlone, IsSizedStatement}
use Rattle.v_design.specs.Sites.{expressions_count}
use Rattle.v_design.specs.Designs.{FlatNodeKind, AssignNode, GateNode, BlockNode, FlatNode, FlatDesign}
use Rattle.v_design.specs.WellFormed.{TerminalsFit, AreTerminals}
use Rattle.v_tree.specs.Trees.{Identifier, SourceExpression, place_of_expression, SourceStatement, NullStatement, BlockStatement, IfStatement, IfElseStatement, CaseStatement, ForStatement}
use Rattle.v_tree.specs.Trees.{WhileStatement, RepeatStatement, ForeverStatement, WaitStatement, EventStatement, DelayStatement, BlockingStatement, NonblockingStatement, IgnoredTask, FinishTask}
use Rattle.v_tree.specs.Trees.{SourceModule}
use Rattle.v_names.specs.Faults.{BadConnection}
use Rattle.v_names.specs.Scopes.{Scope}
use Rattle.v_names.specs.SizedTrees.{Holders, over_objects, all_over_objects}
use Rattle.v_names.specs.Readings.{Size, size_or_bit, alone_faults, tree_in, reading_of}
use Rattle.v_names.specs.Constants.{name_faults}
use Rattle.v_names.specs.Names.{entry_faults, statement_name_faults}
use Rattle.v_names.specs.SizedLaws.{IsSizedTo}
use Rattle.v_width.specs.Targets.{width_of_size}
use Rattle.v_elab.specs.declared.Mode.{Mode}
use Rattle.v_elab.specs.ItemFaults.{is_not_one, terminal_faults, waits_faults, statement_faults}
use Rattle.v_elab.specs.Parts.{Signal, WalkedProcess, Part, SignalPart, MemoryPart, AssignPart, GatePart, ProcessPart, InstancePart}
use Rattle.v_elab.specs.Walk.{terminals_of}
use Rattle.v_elab.specs.Drivers.{signals_of, NodeFunction, AssignFunction, GateFunction, BlockFunction, WalkedNode, Behaviour, IsNode, IsProcess, block_or_process, process_behaviour, part_behaviour}
use Rattle.v_elab.specs.Drivers.{behaviours_of, nodes_of}
use Rattle.v_elab.specs.Objects.{holders_at}
use Rattle.v_elab.specs.Statements.{Meaning, block_body}
use Rattle.v_elab.specs.Flat.{NodeOutput, meaning_in, node_kind, outputs_of, flat_node}
use Rattle.graph_order.specs.ListLaws.{AllHold-slice_get}
use Rattle.flat_laws.specs.Made.{nodes_in, objects_in, flat_nodes_in, IsMadeOf}
use Rattle.flat_laws.specs.Lists.{AllHold-from}
use Rattle.flat_laws.specs.Numbered.{AllHold-each, at-numbered, AllHold-append}
use Rattle.flat_laws.specs.Limits.{each-node}
use Rattle.flat_laws.specs.Hierarchy.Given.{IsHierarchy}
use Rattle.flat_laws.specs.Sizes.Complete.{append-none, expression-complete, fault_if-none}
use Rattle.flat_laws.specs.Sizes.Sized.{IsMeant, complete-size}
use Rattle.flat_laws.specs.Sizes.Statements.{HaveSelects, statement-sound}
use Rattle.flat_laws.specs.Sizes.Meant.{IsPlaced, process-meant}
use Rattle.flat_laws.specs.Hierarchy.Visits.{IsAt, IsReadGate, IsReadProcess, IsReadPart}

-- Terminals

not-false : (b : Bool) → not b ≡ false → b ≡ true
not-false true e = refl
not-false false e = absurd (cc)

-- a terminal of which nothing is wrong has one bit
terminal-is : (meaning : Meaning) → IsMeant meaning → (e : SourceExpression) → name_faults meaning.scope e ≡ [] → terminal_faults meaning.scope e ≡ [] →
    IsSizedAlone (over_objects meaning.holders (tree_in 1 (reading_of meaning.scope e))) × (width_of (over_objects meaning.holders (tree_in 1 (reading_of meaning.scope e))) ≡ 1)
terminal-is meaning meant e names faults =
    let reading = reading_of meaning.scope e in
    let none = append-none (alone_faults reading) _ faults in
    let h = complete-size meaning meant e (expression-complete meaning.scope meant.settled e names none.0) in
    let test : is_not_one (width_of_size reading.size) ≡ false = fault_if-none (is_not_one (width_of_size reading.size)) (place_of_expression e) BadConnection none.1 in
    let one : h.size.width ≡ 1 = eqb-true h.size.width 1 (not-false (nat_eq h.size.width 1) (ap (λ z. is_not_one (width_of_size z)) (sym h.size_is) ∙ test)) in
    let most = h.most in
    let T : Option Size → Type 0 = λ z. IsSizedTo (over_objects meaning.holders (reading.tree (max 1 (size_or_bit z).width) (size_or_bit z).signed)) h.size.width (max 1 h.size.width) h.size.signed in
    let s : IsSizedTo (over_objects meaning.holders (tree_in 1 reading)) h.size.width (max 1 h.size.width) h.size.signed =
    subst T (sym h.size_is) (h.gives (max 1 h.size.width) h.size.signed (omega arith) (omega (arith, most)) (λ b. b)) in
    let width = s.width_is in
    let own = s.own_is in
    ((omega (arith, width, own, one), s.sized), omega (arith, width, one))

terminals-are : (meaning : Meaning) → IsMeant meaning → (inputs : List SourceExpression) → flat_map (name_faults meaning.scope) inputs ≡ [] → flat_map (terminal_faults meaning.scope) inputs ≡ [] →
    AreTerminals (all_over_objects meaning.holders (terminals_of meaning.scope inputs))
terminals-are meaning meant [] names faults = tt
terminals-are meaning meant (e ∷ rest) names faults =
    let n = append-none (name_faults meaning.scope e) (flat_map (name_faults meaning.scope) rest) names in
    let f = append-none (terminal_faults meaning.scope e) (flat_map (terminal_faults meaning.scope) rest) faults in
    let one = terminal-is meaning meant e n.0 f.0 in
    (one.0, one.1, terminals-are meaning meant rest n.1 f.1)

terminals-count : (holders : Holders) (scope : Scope) (inputs : List SourceExpression) → expressions_count (all_over_objects holders (terminals_of scope inputs)) ≡ length inputs
terminals-count holders scope [] = refl
terminals-count holders scope (e ∷ rest) = omega (arith, terminals-count holders scope rest)

-- Blocks

-- of what a block does nothing is wrong
body-names : (scope : Scope) (s : SourceStatement) → statement_name_faults scope s ≡ [] → statement_name_faults scope (block_body s) ≡ []
body-names scope (EventStatement place waits body) e = (append-none (entry_faults scope waits) (statement_name_faults scope body) e).1
body-names scope (NullStatement place) e = e
body-names scope (BlockStatement place statements) e = e
body-names scope (IfStatement place condition first) e = e
body-names scope (IfElseStatement place condition first second) e = e
body-names scope (CaseStatement place kind value items) e = e
body-names scope (ForStatement place first_target first condition next_target next body) e = e
body-names scope (WhileStatement place condition body) e = e
body-names scope (RepeatStatement place count body) e = e
body-names scope (ForeverStatement place body) e = e
body-names scope (WaitStatement place condition body) e = e
body-names scope (DelayStatement place delay body) e = e
body-names scope (BlockingStatement place target delay value) e = e
body-names scope (NonblockingStatement place target delay value) e = e
body-names scope (IgnoredTask place) e = e
body-names scope (FinishTask place) e = e

body-sizes : (scope : Scope) (s : SourceStatement) → statement_faults scope s ≡ [] → statement_faults scope (block_body s) ≡ []
body-sizes scope (EventStatement place waits body) e = (append-none (waits_faults scope waits) (statement_faults scope body) e).1
body-sizes scope (NullStatement place) e = e
body-sizes scope (BlockStatement place statements) e = e
body-sizes scope (IfStatement place condition first) e = e
body-sizes scope (IfElseStatement place condition first second) e = e
body-sizes scope (CaseStatement place kind value items) e = e
body-sizes scope (ForStatement place first_target first condition next_target next body) e = e
body-sizes scope (WhileStatement place condition body) e = e
body-sizes scope (RepeatStatement place count body) e = e
body-sizes scope (ForeverStatement place body) e = e
body-sizes scope (WaitStatement place condition body) e = e
body-sizes scope (DelayStatement place delay body) e = e
body-sizes scope (BlockingStatement place target delay value) e = e
body-sizes scope (NonblockingStatement place target delay value) e = e
body-sizes scope (IgnoredTask place) e = e
body-sizes scope (FinishTask place) e = e

body-selects : (s : SourceStatement) → HaveSelects s → HaveSelects (block_body s)
body-selects (EventStatement place waits body) h = h
body-selects (NullStatement place) h = h
body-selects (BlockStatement place statements) h = h
body-selects (IfStatement place condition first) h = h
body-selects (IfElseStatement place condition first second) h = h
body-selects (CaseStatement place kind value items) h = h
body-selects (ForStatement place first_target first condition next_target next body) h = h
body-selects (WhileStatement place condition body) h = h
body-selects (RepeatStatement place count body) h = h
body-selects (ForeverStatement place body) h = h
body-selects (WaitStatement place condition body) h = h
body-selects (DelayStatement place delay body) h = h
body-selects (BlockingStatement place target delay value) h = h
body-selects (NonblockingStatement place target delay value) h = h
body-selects (IgnoredTask place) h = h
body-selects (FinishTask place) h = h

-- Nodes

-- a gate has terminals of its kind, of one bit each and no more than can be numbered, and a block is sized
abbrev pub IsSizedInside : FlatNodeKind → Type 0
IsSizedInside (AssignNode value places) = Unit {0}
IsSizedInside (GateNode kind terminals) = TerminalsFit kind (expressions_count terminals) × AreTerminals terminals × (expressions_count terminals < 2 ^ 64)
IsSizedInside (BlockNode statement) = IsSizedStatement statement

-- the scopes that a walk comes to are declared among its parts
abbrev pub AllPlaced : List SourceModule → Mode → SourceModule → List Part → Type 0
AllPlaced modules mode top parts = (path : Identifier) (scope : Scope) → IsAt modules mode top path scope → IsPlaced parts path scope

abbrev IsReadFunction : List SourceModule → Mode → SourceModule → NodeFunction → Type 0
IsReadFunction modules mode top (AssignFunction value) = Unit {0}
IsReadFunction modules mode top (GateFunction kind path terminals) = IsReadGate modules mode top kind path terminals
IsReadFunction modules mode top (BlockFunction process) = IsReadProcess modules mode top process

abbrev IsReadBehaviour : List SourceModule → Mode → SourceModule → Behaviour → Type 0
IsReadBehaviour modules mode top (IsNode node) = IsReadFunction modules mode top node.function
IsReadBehaviour modules mode top (IsProcess process) = Unit {0}

module _ (modules : List SourceModule) (mode : Mode) (top : SourceModule) where
  block-read : (signals : List Signal) (process : WalkedProcess) (test : Bool) (targets : List Identifier) → IsReadProcess modules mode top process →
      IsReadBehaviour modules mode top (block_or_process signals process test targets)
  block-read signals process true targets h = h
  block-read signals process false targets h = tt

  process-read : (parts : List Part) (number : ℕ) (process : WalkedProcess) (targets : Option (List Identifier)) → IsReadProcess modules mode top process →
      IsReadBehaviour modules mode top (process_behaviour parts number process targets)
  process-read parts number process None h = tt
  process-read parts number process (Some targets) h = block-read (signals_of parts) process _ targets h

  part-read : (parts : List Part) (number : ℕ) (part : Part) → IsReadPart modules mode top part → AllHold (IsReadBehaviour modules mode top) (part_behaviour parts number part)
  part-read parts number (AssignPart drives value) h = (tt, tt)
  part-read parts number (GatePart name kind drives path terminals) h = (h, tt)
  part-read parts number (ProcessPart process) h = (process-read parts number process process.targets h, tt)
  part-read parts number (SignalPart signal) h = tt
  part-read parts number (MemoryPart memory) h = tt
  part-read parts number InstancePart h = tt

  behaviours-read : (parts : List Part) (number : ℕ) (some : List Part) → AllHold (IsReadPart modules mode top) some →
      AllHold (IsReadBehaviour modules mode top) (joined (map_numbered (part_behaviour parts) number some))
  behaviours-read parts number [] h = tt
  behaviours-read parts number (part ∷ rest) h =
      AllHold-append (IsReadBehaviour modules mode top) (part_behaviour parts number part) (joined (map_numbered (part_behaviour parts) (number + 1) rest)) (part-read parts number part h.0)
      (behaviours-read parts (number + 1) rest h.1)

  nodes-read : (behaviours : List Behaviour) → AllHold (IsReadBehaviour modules mode top) behaviours →
      AllHold (λ (node : WalkedNode). IsReadFunction modules mode top node.function) (nodes_of behaviours)
  nodes-read [] h = tt
  nodes-read (IsNode node ∷ rest) h = (h.0, nodes-read rest h.1)
  nodes-read (IsProcess process ∷ rest) h = nodes-read rest h.1

  -- a process by which the names of an instance mean what they mean
  abbrev process_at : Identifier → Scope → WalkedProcess
  process_at path scope = let place : SourcePlace = record { line = 0; column = 0 } in record { always = false; place = place; path = path; scope = scope; body = NullStatement place; targets = None }

  function-sized : (parts : List Part) → IsHierarchy parts → AllPlaced modules mode top parts → (outputs : List NodeOutput) (function : NodeFunction) →
      IsReadFunction modules mode top function →
      IsSizedInside (node_kind parts (objects_in parts) outputs function)
  function-sized parts hierarchy placed outputs (AssignFunction value) h = tt
  function-sized parts hierarchy placed outputs (GateFunction kind path terminals) h =
      let meant = process-meant parts hierarchy (process_at path h.scope) (placed path h.scope h.at) in
      let holders = holders_at parts (objects_in parts) path in
      let count = terminals-count holders h.scope h.inputs in
      subst (λ t. TerminalsFit kind (expressions_count (all_over_objects holders t)) × AreTerminals (all_over_objects holders t) × (expressions_count (all_over_objects holders t) < 2 ^ 64)) h.is (
        subst (TerminalsFit kind) (sym count) h.fit,
        terminals-are (meaning_in parts (objects_in parts) (process_at path h.scope)) meant h.inputs h.names h.sizes,
        subst (λ n. n < 2 ^ 64) (sym count) h.few,
      )
  function-sized parts hierarchy placed outputs (BlockFunction process) h =
      statement-sound (meaning_in parts (objects_in parts) process) (process-meant parts hierarchy process (placed process.path process.scope h.at)) (block_body process.body)
      (body-selects process.body h.selects)
      (body-names process.scope process.body h.names) (body-sizes process.scope process.body h.sizes)

  -- the gates and blocks of a walk are sized inside, over the objects of its parts
  pub walked-sized : (parts : List Part) → IsHierarchy parts → AllPlaced modules mode top parts → AllHold (IsReadPart modules mode top) parts → (outputs : List NodeOutput) →
      AllHold (λ (node : WalkedNode). IsSizedInside (node_kind parts (objects_in parts) outputs node.function)) (nodes_in parts)
  walked-sized parts hierarchy placed read outputs =
      AllHold-each (λ (node : WalkedNode). IsReadFunction modules mode top node.function) (λ (node : WalkedNode). IsSizedInside (node_kind parts (objects_in parts) outputs node.function)) (nodes_in parts)
      (λ node h. function-sized parts hierarchy placed outputs node.function h) (nodes-read (behaviours_of parts) (behaviours-read parts 0 parts read))

  -- the gates and blocks of a design are sized inside
  pub nodes-sized : (parts : List Part) (design : FlatDesign) → IsMadeOf parts design → IsHierarchy parts → AllPlaced modules mode top parts → AllHold (IsReadPart modules mode top) parts →
      AllHold (λ (node : FlatNode). IsSizedInside node.kind) design.nodes
  nodes-sized parts design made hierarchy placed read =
      each-node (λ node. IsSizedInside node.kind) parts design made
      (AllHold-from (λ (node : FlatNode). IsSizedInside node.kind) (flat_nodes_in parts)
      (λ i node at.
      let r = at-numbered (flat_node parts (objects_in parts)) 0 (nodes_in parts) i node at in
      let own = AllHold-slice_get (λ (n : WalkedNode). IsReadFunction modules mode top n.function) (nodes_in parts) i r.0 (nodes-read (behaviours_of parts) (behaviours-read parts 0 parts read)) r.1 in
      subst (λ (n : FlatNode). IsSizedInside n.kind) r.2 (function-sized parts hierarchy placed (outputs_of (objects_in parts) (0 + i)) r.0.function own)))
