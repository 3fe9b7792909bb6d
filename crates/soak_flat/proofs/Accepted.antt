-- The generated unit is accepted (IEEE 1364-2001, clause 12).
use Rattle.std.proofs.Common.{◌≡◌, ℕ, zero, suc, ◌<◌, ◌≤◌, true, false, List, [], ◌∷◌, ◌++◌, length, filter, cond, None, Ok, refl, sym, ap, subst, ◌∙◌, arith, inl, inr}
use Rattle.std.specs.List.{flat_map, list_any}
use Rattle.std.proofs.lemmas.Bool.{false_from_ne_true, cases_lt, or_from}
use Rattle.vf_base.specs.Lists.{AllHold, has}
use Rattle.graph_order.specs.ListLaws.{AllHold-has}
use Rattle.v_design.specs.Expressions.{up_from}
use Rattle.v_design.specs.Designs.{FlatNode, FlatDesign}
use Rattle.v_design.specs.WellFormed.{most_parts, most_inputs}
use Rattle.v_tree.specs.Trees.{SourceItem, SourceModule}
use Rattle.v_names.specs.Faults.{unless_faulty}
use Rattle.v_names.specs.Scopes.{Scope}
use Rattle.v_names.specs.Names.{item_name_faults, module_name_faults, twice_faults, names}
use Rattle.v_elab.specs.declared.Mode.TheVariants.{Usual}
use Rattle.v_elab.specs.declared.What.TheVariants.{Objects, Nodes, Processes, Inputs}
use Rattle.v_elab.specs.Refusals.{as_refusal, then_go, unless_refused}
use Rattle.v_elab.specs.Parts.{Part, refusal_or, over_limit}
use Rattle.v_elab.specs.Connections.{most_depth}
use Rattle.v_elab.specs.Walk.{Here, walked_module, walked, walked_from}
use Rattle.v_elab.specs.Ranks.{outputs_reading, reached, reaches_itself, first_of, least_loop}
use Rattle.v_elab.specs.Drivers.{signals_of, WalkedNode, behaviours_of, nodes_of, processes_of, two_drivers}
use Rattle.v_elab.specs.Objects.{HeldObject, objects_of_parts}
use Rattle.v_elab.specs.Flat.{walked_nodes, loop_at, loop_in, some_inputs_over, too_many_behaviours, design_with, over_nodes, over_parts, over_behaviours, flat_of_parts, flat}
use Rattle.soak_text.specs.declared.draws.Stage.{Stage}
use Rattle.soak_text.specs.Soak.{stages_of}
use Rattle.soak_tree.specs.SoakUnits.{top_name, soak_items, soak_module}
use Rattle.soak_tree.specs.Stages.{IsStage}
use Rattle.soak_tree.proofs.Drawn.{stages-are, stages-count}
use Rattle.soak_flat.specs.SoakDesigns.{UnitsHaveDesigns}
use Rattle.soak_flat.proofs.Once.{all-append, no-twice}
use Rattle.soak_flat.proofs.Apart.{Numbered, stages-numbered, at_clock, at_gates, all_declarations, declared-all, declared-apart}
use Rattle.soak_flat.proofs.Meant.{soak_scope, scope-is, scope-knows}
use Rattle.soak_flat.proofs.Walked.{within-limit, Walks, items-walked, AreFew}
use Rattle.soak_flat.proofs.Parts.{IsWithin, stages-within, soak_parts, here_in, all-walk, unit-once, walked_parts, parts-are, parts-few}
use Rattle.soak_flat.proofs.Driven.{gate_nodes, nodes-are, processes-count, nodes-count, signals-are, one-driver}
use Rattle.soak_flat.proofs.Held.{all_held, held-count, IsGood, objects-are, all-good}

-- No object reaches itself

module _ (least : ℕ) (nodes : List FlatNode) (good : AllHold (IsGood least) nodes) where
  abbrev AreHigh : List ℕ → Type 0
  AreHigh objects = AllHold (λ object. least ≤ object) objects

  outputs-high : (objects : List ℕ) (some : List FlatNode) → AllHold (IsGood least) some → AreHigh (outputs_reading objects some)
  outputs-high objects [] fine = tt
  outputs-high objects (node ∷ some) fine =
      let rest = outputs-high objects some fine.1 in
      elim (list_any (has objects) node.inputs) as (λ b. AreHigh (flat_map (λ (n : FlatNode). n.outputs) (cond b (node ∷ filter (λ (n : FlatNode). list_any (has objects) n.inputs) some)
      (filter (λ (n : FlatNode). list_any (has objects) n.inputs) some)))) [
        | true ↦ all-append (λ object. least ≤ object) node.outputs (outputs_reading objects some) fine.0.outputs rest
        | false ↦ rest
      ]

  none-high : (objects inputs : List ℕ) → AreHigh objects → AllHold (λ object. object < least) inputs → list_any (has objects) inputs ≡ false
  none-high objects [] high low = refl
  none-high objects (input ∷ inputs) high low =
      or_from (has objects input) (list_any (has objects) inputs)
      (false_from_ne_true (has objects input) (λ e. let there = AllHold-has (λ object. least ≤ object) objects input high e in absurd (omega (arith, there, low.0))))
      (none-high objects inputs high low.1)

  -- nothing reads what is written
  high-unread : (objects : List ℕ) (some : List FlatNode) → AreHigh objects → AllHold (IsGood least) some → outputs_reading objects some ≡ []
  high-unread objects [] high fine = refl
  high-unread objects (node ∷ some) high fine =
      ap (λ b. flat_map (λ (n : FlatNode). n.outputs) (cond b (node ∷ filter (λ (n : FlatNode). list_any (has objects) n.inputs) some) (filter (λ (n : FlatNode). list_any (has objects) n.inputs) some)))
      (none-high objects node.inputs high fine.0.inputs)
      ∙ high-unread objects some high fine.1

  reached-none : (steps : ℕ) (objects : List ℕ) → AreHigh objects → reached steps nodes objects ≡ []
  reached-none zero objects high = refl
  reached-none (suc steps) objects high =
      ap (λ next. next ++ reached steps nodes next) (high-unread objects nodes high good) ∙ reached-none steps [] tt

  reached-high : (steps : ℕ) (objects : List ℕ) → AreHigh (reached steps nodes objects)
  reached-high zero objects = tt
  reached-high (suc steps) objects =
      let next = outputs_reading objects nodes in
      all-append (λ object. least ≤ object) next (reached steps nodes next) (outputs-high objects nodes good) (reached-high steps next)

  not-itself : (object : ℕ) → reaches_itself nodes object ≡ false
  not-itself object =
      elim (cases_lt object least) [
        | inl low ↦
            false_from_ne_true (reaches_itself nodes object) (λ e.
            let there = AllHold-has (λ other. least ≤ other) (reached (length nodes) nodes (object ∷ [])) object (reached-high (length nodes) (object ∷ [])) e in
            absurd (omega (arith, there, low)))
        | inr high ↦ ap (λ l. has l object) (reached-none (length nodes) (object ∷ []) (high, tt))
      ]

  none-filtered : (numbers : List ℕ) → filter (reaches_itself nodes) numbers ≡ []
  none-filtered [] = refl
  none-filtered (n ∷ numbers) = ap (λ b. cond b (n ∷ filter (reaches_itself nodes) numbers) (filter (reaches_itself nodes) numbers)) (not-itself n) ∙ none-filtered numbers

  pub no-loop : (count : ℕ) → least_loop count nodes ≡ None
  no-loop count = ap first_of (none-filtered (up_from 0 count))

few-inputs : (least : ℕ) (nodes : List FlatNode) → AllHold (IsGood least) nodes → some_inputs_over nodes ≡ None
few-inputs least [] good = refl
few-inputs least (node ∷ nodes) good =
    ap (λ o. refusal_or o (some_inputs_over nodes)) (within-limit Inputs most_inputs (length node.inputs) good.0.few) ∙ few-inputs least nodes good.1

-- The design of the parts

module _ (scope : Scope) (stages : List Stage) (numbered : Numbered 0 stages) (are : AllHold IsStage stages) (within : AllHold (IsWithin (length stages)) stages) (low : length stages ≤ 4000) where
  abbrev pub parts : List Part
  parts = walked_parts scope stages

  abbrev pub nodes : List WalkedNode
  nodes = gate_nodes scope stages (at_gates stages)

  abbrev pub objects : List HeldObject
  objects = all_held scope stages

  abbrev pub flat_nodes : List FlatNode
  flat_nodes = walked_nodes parts objects nodes

  -- the design of the unit
  abbrev pub soak_design : FlatDesign
  soak_design = design_with parts objects flat_nodes (processes_of (behaviours_of parts))

  pub good-nodes : AllHold (IsGood (suc (length stages))) flat_nodes
  good-nodes = all-good scope stages numbered are within 0 stages (at_gates stages)

  few-behaviours : too_many_behaviours (behaviours_of parts) ≡ None
  few-behaviours =
      let nodes_few : length (nodes_of (behaviours_of parts)) ≤ most_parts =
      omega (arith, ap (λ (l : List WalkedNode). length l) (nodes-are scope stages), nodes-count scope stages (at_gates stages), low) in
      let processes_few : length (processes_of (behaviours_of parts)) ≤ most_parts = omega (arith, processes-count scope stages, low) in
      ap (λ o. refusal_or o (over_limit Processes most_parts (length (processes_of (behaviours_of parts))))) (within-limit Nodes most_parts (length (nodes_of (behaviours_of parts))) nodes_few)
      ∙ within-limit Processes most_parts (length (processes_of (behaviours_of parts))) processes_few

  nodes-accepted : over_nodes parts objects (processes_of (behaviours_of parts)) flat_nodes ≡ Ok soak_design
  nodes-accepted =
      let processes = processes_of (behaviours_of parts) in
      ap (λ reason. then_go (unless_refused reason flat_nodes)
      (λ few. then_go (unless_refused (loop_in objects few) few) (λ acyclic. Ok (design_with parts objects acyclic processes)))) (few-inputs (suc (length stages)) flat_nodes good-nodes)
      ∙ ap (λ loop. then_go (unless_refused (loop_at objects loop) flat_nodes) (λ acyclic. Ok (design_with parts objects acyclic processes)))
      (no-loop (suc (length stages)) flat_nodes good-nodes (length objects))

  parts-accepted : over_parts parts nodes (processes_of (behaviours_of parts)) objects ≡ Ok soak_design
  parts-accepted =
      ap (λ reason. then_go (unless_refused reason objects) (λ few. over_nodes parts few (processes_of (behaviours_of parts)) (walked_nodes parts few nodes)))
      (within-limit Objects most_parts (length objects) (omega (arith, held-count scope stages, low)))
      ∙ nodes-accepted

  behaviours-accepted : over_behaviours parts (behaviours_of parts) ≡ Ok soak_design
  behaviours-accepted =
      let processes = processes_of (behaviours_of parts) in
      ap (λ ns. then_go (unless_refused (two_drivers (signals_of parts) ns) ns) (λ found. over_parts parts found processes (objects_of_parts parts found))) (nodes-are scope stages)
      ∙ (ap (λ reason. then_go (unless_refused reason nodes) (λ found. over_parts parts found processes (objects_of_parts parts found)))
      (ap (λ s. two_drivers s nodes) (signals-are scope stages) ∙ one-driver scope stages numbered are within)
      ∙ (ap (over_parts parts nodes processes) (objects-are scope stages numbered are within) ∙ parts-accepted))

  pub parts-flat : flat_of_parts parts ≡ Ok soak_design
  parts-flat = ap (λ reason. then_go (unless_refused reason (behaviours_of parts)) (over_behaviours parts)) few-behaviours ∙ behaviours-accepted

-- The walk from the top

walks-names : (here : Here) (items : List SourceItem) (owns : List (List Part)) → Walks here items owns → flat_map (item_name_faults here.scope) items ≡ []
walks-names here [] [] h = refl
walks-names here [] (own ∷ owns) h = absurd h
walks-names here (item ∷ items) [] h = absurd h
walks-names here (item ∷ items) (own ∷ owns) h = ap (λ faults. faults ++ flat_map (item_name_faults here.scope) items) h.0.fine.names ∙ walks-names here items owns h.1

module _ (stages : List Stage) (numbered : Numbered 0 stages) (are : AllHold IsStage stages) (within : AllHold (IsWithin (length stages)) stages) (low : length stages ≤ 4000) where
  abbrev scope : Scope
  scope = soak_scope stages

  abbrev unit_module : SourceModule
  unit_module = soak_module stages

  abbrev here : Here
  here = here_in (unit_module ∷ []) unit_module scope (length stages) (scope-knows stages numbered)

  walks : Walks here (soak_items stages at_clock) (soak_parts scope stages)
  walks = all-walk (unit_module ∷ []) unit_module scope (length stages) (scope-knows stages numbered) stages (unit-once stages numbered are) within

  names-fine : names unit_module [] ≡ Ok scope
  names-fine =
      ap (λ s. unless_faulty (module_name_faults s unit_module) s) (scope-is stages numbered are)
      ∙ ap (λ faults. unless_faulty faults scope)
      (ap (λ ds. twice_faults scope [] ds ++ flat_map (item_name_faults scope) unit_module.items) (declared-all stages)
      ∙ (ap (λ faults. faults ++ flat_map (item_name_faults scope) unit_module.items) (no-twice scope (all_declarations stages) (declared-apart stages numbered are))
      ∙ walks-names here (soak_items stages at_clock) (soak_parts scope stages) walks))

  module-walked : walked_module (walked (unit_module ∷ []) Usual most_depth) here unit_module [] ≡ Ok (walked_parts scope stages)
  module-walked =
      items-walked here refl (walked (unit_module ∷ []) Usual most_depth) (soak_items stages at_clock) (soak_parts scope stages) walks 0 []
      (subst AreFew (sym (parts-are scope stages)) (parts-few scope stages low))
      ∙ ap (λ (ps : List Part). Ok ps) (parts-are scope stages)

  unit-walked : walked_from (unit_module ∷ []) Usual unit_module ≡ Ok (walked_parts scope stages)
  unit-walked =
      ap (λ r. then_go (as_refusal r) (λ s. walked_module (walked (unit_module ∷ []) Usual most_depth)
      (record { modules = unit_module ∷ []; mode = Usual; instance = record { inner = unit_module; given = []; path = []; depth = 0; joins = [] }; scope = s }) unit_module [])) names-fine
      ∙ module-walked

  pub unit-flat : flat (record { modules = unit_module ∷ [] }) top_name Usual ≡ Ok (soak_design scope stages numbered are within low)
  unit-flat = ap (λ r. then_go r flat_of_parts) unit-walked ∙ parts-flat scope stages numbered are within low

pub units-flat : UnitsHaveDesigns
units-flat number size low high =
    let stages = stages_of number size in
    let count : length stages ≡ size = stages-count number size in
    let within : AllHold (IsWithin (length stages)) stages = subst (λ n. AllHold (IsWithin n) stages) (sym count) (stages-within number size low) in
    let few : length stages ≤ 4000 = omega (arith, count, high) in (
      soak_design (soak_scope stages) stages (stages-numbered number size) (stages-are number size low high) within few,
      unit-flat stages (stages-numbered number size) (stages-are number size low high) within few,
    )
