-- How many faults the generated design has (gates by IEEE 1364-2001, clause 7).
use Rattle.std.proofs.Common.{◌≡◌, ℕ, zero, suc, ◌+◌, ◌*◌, ◌<◌, ◌≤◌, Bool, true, false, List, [], ◌∷◌, ◌++◌, length, map, filter, get_or, cond, refl, sym, ap, subst, ◌∙◌, arith, length-append}
use Rattle.std.specs.Prelude.{nat_eq}
use Rattle.std.specs.List.{flat_map, list_any}
use Rattle.std.proofs.lemmas.Bool.{eqb-true, ne_eqb, false_from_ne_true, or_from}
use Rattle.std.proofs.lemmas.List.{length-map}
use Rattle.vf_base.specs.Lists.{AllHold, has, joined, map_numbered, greatest}
use Rattle.vf_base.specs.declared.ids.Place.{Place}
use Rattle.graph_order.specs.ListLaws.{AllHold-has}
use Rattle.v_design.specs.Expressions.{up_from}
use Rattle.v_design.specs.Designs.{FlatObject, FlatNode, FlatDesign, FaultSite, OutputBit, GateTerminal, StuckAt, width_in}
use Rattle.v_design.specs.Paths.{is_net, numbers_of, net_pieces}
use Rattle.soak_text.specs.Soak.{register_line}
use Rattle.v_scan.specs.Texts.{place_behind}
use Rattle.v_design.specs.Sites.{variable_sites, output_sites, terminal_count, terminal_sites, sites_of, faults_of}
use Rattle.v_design.specs.WellFormed.{feeds, rank_within}
use Rattle.v_names.specs.Scopes.{Scope}
use Rattle.v_elab.specs.Ranks.{rank_among, nodes_of_rank, by_rank}
use Rattle.v_elab.specs.Objects.{HeldObject}
use Rattle.v_elab.specs.Flat.{NodeOutput, output_if, output_of_object, outputs_of, flat_node}
use Rattle.soak_text.specs.declared.draws.Stage.{Stage}
use Rattle.soak_tree.specs.Stages.{IsStage}
use Rattle.soak_flat.proofs.Apart.{Numbered, at_registers, at_gates}
use Rattle.soak_flat.proofs.Parts.{IsWithin, walked_parts}
use Rattle.soak_flat.proofs.Driven.{next_stage, gate_nodes, register_signals}
use Rattle.soak_flat.proofs.Held.{filter-either, none-among, numbered-both, lists-both, IsGood, variable_held, wires_held, variables_held, all_held, outputs-are}
use Rattle.soak_flat.proofs.Accepted.{soak_design, flat_nodes, good-nodes}

-- Ranks: no node drives another

module _ (least : ℕ) (nodes : List FlatNode) (good : AllHold (IsGood least) nodes) where
  none-feeds : (reader : FlatNode) (outputs : List ℕ) → AllHold (λ object. object < least) reader.inputs → AllHold (λ object. least ≤ object) outputs → list_any (has reader.inputs) outputs ≡ false
  none-feeds reader [] low high = refl
  none-feeds reader (o ∷ outputs) low high =
      or_from (has reader.inputs o) (list_any (has reader.inputs) outputs)
      (false_from_ne_true (has reader.inputs o) (λ e. let there = AllHold-has (λ object. object < least) reader.inputs o low e in absurd (omega (arith, there, high.0))))
      (none-feeds reader outputs low high.1)

  no-drivers : (reader : FlatNode) (some : List FlatNode) → AllHold (λ object. object < least) reader.inputs → AllHold (IsGood least) some → filter (λ driver. feeds driver reader) some ≡ []
  no-drivers reader [] low fine = refl
  no-drivers reader (driver ∷ some) low fine =
      ap (λ b. cond b (driver ∷ filter (λ driver. feeds driver reader) some) (filter (λ driver. feeds driver reader) some)) (none-feeds reader driver.outputs low fine.0.outputs)
      ∙ no-drivers reader some low fine.1

  rank-zero : (depth : ℕ) (reader : FlatNode) → AllHold (λ object. object < least) reader.inputs → rank_within depth nodes reader ≡ 0
  rank-zero zero reader low = refl
  rank-zero (suc depth) reader low = ap (λ (l : List FlatNode). greatest (map (λ driver. suc (rank_within depth nodes driver)) l)) (no-drivers reader nodes low good)

  ranked : (rank : ℕ) (some : List FlatNode) → AllHold (IsGood least) some → filter (λ node. nat_eq (rank_among nodes node) rank) some ≡ cond (nat_eq 0 rank) some []
  ranked rank [] fine = elim (nat_eq 0 rank) as (λ b. ◌≡◌ {A = List FlatNode} [] (cond b [] [])) [ true ↦ refl | false ↦ refl ]
  ranked rank (node ∷ some) fine =
      ap (λ r. cond (nat_eq r rank) (node ∷ filter (λ node. nat_eq (rank_among nodes node) rank) some) (filter (λ node. nat_eq (rank_among nodes node) rank) some))
      (rank-zero (length nodes) node fine.0.inputs)
      ∙ (ap (λ l. cond (nat_eq 0 rank) (node ∷ l) l) (ranked rank some fine.1)
      ∙ elim (nat_eq 0 rank) as (λ b. cond b (node ∷ cond b some []) (cond b some []) ≡ cond b (node ∷ some) []) [ true ↦ refl | false ↦ refl ])

  higher-ranks : (start count : ℕ) → 1 ≤ start → flat_map (nodes_of_rank nodes) (up_from start count) ≡ []
  higher-ranks start zero low = refl
  higher-ranks start (suc count) low =
      ap (λ l. l ++ flat_map (nodes_of_rank nodes) (up_from (start + 1) count)) (ranked start nodes good ∙ ap (λ b. cond b nodes []) (ne_eqb 0 start (λ e. absurd (omega (arith, e, low)))))
      ∙ higher-ranks (start + 1) count (omega (arith, low))

  pub in-order : by_rank nodes ≡ nodes
  in-order = by nodes refl
    where
      none-more : (l : List FlatNode) → l ++ [] ≡ l
      none-more [] = refl
      none-more (x ∷ l) = ap (λ r. x ∷ r) (none-more l)

      by : (l : List FlatNode) → l ≡ nodes → flat_map (nodes_of_rank nodes) (up_from 0 (length l)) ≡ l
      by [] e = refl
      by (x ∷ l) e =
          ap (λ r. r ++ flat_map (nodes_of_rank nodes) (up_from 1 (length l))) (ranked 0 nodes good) ∙ (ap (λ r. nodes ++ r) (higher-ranks 1 (length l) (omega arith)) ∙ (none-more nodes ∙ sym e))

-- Lists

one-low : 1 ≤ 1
one-low = omega arith

up-count : (start count : ℕ) → length (up_from start count) ≡ count
up-count start zero = refl
up-count start (suc count) = ap (λ n. suc n) (up-count (start + 1) count)

get-low : (most : ℕ) (xs : List ℕ) (i : ℕ) → AllHold (λ x. x ≤ most) xs → get_or xs i 0 ≤ most
get-low most [] i h = omega arith
get-low most (x ∷ xs) zero h = h.0
get-low most (x ∷ xs) (suc i) h = get-low most xs i h.1

module _ (test : FlatObject → Bool) where
  none-numbered : (x start : ℕ) (objects : List FlatObject) → x < start → length (filter (nat_eq x) (numbers_of test start objects)) ≡ 0
  none-numbered x start [] low = refl
  none-numbered x start (o ∷ objects) low =
      let rest = none-numbered x (start + 1) objects (omega (arith, low)) in
      elim (test o) as (λ b. length (filter (nat_eq x) (elim b [ true ↦ start ∷ numbers_of test (start + 1) objects | false ↦ numbers_of test (start + 1) objects ])) ≡ 0) [
        | true ↦
            ap (λ b. length (cond b (start ∷ filter (nat_eq x) (numbers_of test (start + 1) objects)) (filter (nat_eq x) (numbers_of test (start + 1) objects))))
            (ne_eqb x start (λ e. absurd (omega (arith, e, low)))) ∙ rest
        | false ↦ rest
      ]

  one-numbered : (x start : ℕ) (objects : List FlatObject) → length (filter (nat_eq x) (numbers_of test start objects)) ≤ 1
  one-numbered x start [] = omega arith
  one-numbered x start (o ∷ objects) =
      let rest = one-numbered x (start + 1) objects in
      let numbers = numbers_of test (start + 1) objects in
      elim (test o) as (λ b. length (filter (nat_eq x) (elim b [ true ↦ start ∷ numbers | false ↦ numbers ])) ≤ 1) [
        | true ↦ at (nat_eq x start) refl rest
        | false ↦ rest
      ]
    where
      at : (b : Bool) → nat_eq x start ≡ b → length (filter (nat_eq x) (numbers_of test (start + 1) objects)) ≤ 1 →
          length (cond b (start ∷ filter (nat_eq x) (numbers_of test (start + 1) objects)) (filter (nat_eq x) (numbers_of test (start + 1) objects))) ≤ 1
      at true e rest = let same = eqb-true x start e in omega (arith, none-numbered x (start + 1) objects (omega (arith, same)))
      at false e rest = rest

  pub numbered-few : (some : List ℕ) (start : ℕ) (objects : List FlatObject) → length (filter (has some) (numbers_of test start objects)) ≤ length some
  numbered-few [] start objects = omega (arith, none-among (numbers_of test start objects))
  numbered-few (x ∷ some) start objects =
      omega (arith, filter-either (nat_eq x) (has some) (numbers_of test start objects), one-numbered x start objects, numbered-few some start objects)

pub numbered-mapped : {A B C : Type 0} (f : ℕ → B → C) (g : A → B) (n : ℕ) (xs : List A) → map_numbered f n (map g xs) ≡ map_numbered (λ k x. f k (g x)) n xs
numbered-mapped f g n [] = refl
numbered-mapped f g n (x ∷ xs) = ap (λ l. f n (g x) ∷ l) (numbered-mapped f g (n + 1) xs)

pub mapped-holds : {A B : Type 0} (P : B → Type 0) (f : A → B) (xs : List A) → AllHold (λ x. P (f x)) xs → AllHold P (map f xs)
mapped-holds P f [] h = tt
mapped-holds P f (x ∷ xs) h = (h.0, mapped-holds P f xs h.1)

pub both-hold : {A : Type 0} (P : A → Type 0) (xs ys : List A) → AllHold P xs → AllHold P ys → AllHold P (xs ++ ys)
both-hold P [] ys h d = d
both-hold P (x ∷ xs) ys h d = (h.0, both-hold P xs ys h.1 d)

-- Sites

module _ (scope : Scope) (stages : List Stage) (numbered : Numbered 0 stages) (are : AllHold IsStage stages) (within : AllHold (IsWithin (length stages)) stages) (low : length stages ≤ 4000) where
  abbrev pub design : FlatDesign
  design = soak_design scope stages numbered are within low

  abbrev objects : List HeldObject
  objects = all_held scope stages

  abbrev nodes : List FlatNode
  nodes = flat_nodes scope stages numbered are within low

  -- variables have one site each

  abbrev variable_at : ℕ → HeldObject → List FaultSite
  variable_at number held = variable_sites number held.object

  registers-sites : (n : ℕ) (some : List Stage) (place : Place) → length (joined (map_numbered variable_at n (map variable_held (register_signals scope some place)))) ≡ length some
  registers-sites n [] place = refl
  registers-sites n (stage ∷ some) place = ap (λ k. suc k) (registers-sites (n + 1) some (place_behind place (register_line stage)))

  wires-sites : (n : ℕ) (some : List Stage) (place : Place) → joined (map_numbered variable_at n (wires_held scope some place)) ≡ []
  wires-sites n [] place = refl
  wires-sites n (stage ∷ some) place = wires-sites (n + 1) some (next_stage scope stage place)

  variables-sites : length (joined (map_numbered variable_sites 0 design.objects)) ≡ suc (length stages)
  variables-sites =
      let variables = variables_held scope stages in
      let wires = wires_held scope stages (at_gates stages) in
      let front = joined (map_numbered variable_at 0 variables) in
      let registers = registers-sites 1 stages at_registers in
      ap (λ (l : List (List FaultSite)). length (joined l)) (numbered-mapped variable_sites (λ (held : HeldObject). held.object) 0 objects ∙ numbered-both variable_at 0 variables wires)
      ∙ (ap (λ l. length l) (lists-both (map_numbered variable_at 0 variables) (map_numbered variable_at (0 + length variables) wires)
      ∙ ap (λ l. front ++ l) (wires-sites (0 + length variables) stages (at_gates stages)))
      ∙ (length-append front [] ∙ (ap (λ k. suc k + 0) registers ∙ omega arith)))

  -- a node has one output, and two terminals

  abbrev written_at : ℕ → ℕ → HeldObject → List NodeOutput
  written_at number object held = output_of_object number object held.driver

  none-written : (number from n : ℕ) (some : List Stage) (place : Place) → number < from → Numbered from some → joined (map_numbered (written_at number) n (wires_held scope some place)) ≡ []
  none-written number from n [] place less order = refl
  none-written number from n (stage ∷ some) place less order =
      ap (λ b. output_if b (record { object = n; place = 0 }) ++ joined (map_numbered (written_at number) (n + 1) (wires_held scope some (next_stage scope stage place))))
      (ne_eqb stage.number number (λ e. absurd (omega (arith, e, less, order.0))))
      ∙ none-written number (from + 1) (n + 1) some (next_stage scope stage place) (omega (arith, less)) order.1

  one-written : (number from n : ℕ) (some : List Stage) (place : Place) → Numbered from some → length (joined (map_numbered (written_at number) n (wires_held scope some place))) ≤ 1
  one-written number from n [] place order = omega arith
  one-written number from n (stage ∷ some) place order =
      by (nat_eq stage.number number) refl (one-written number (from + 1) (n + 1) some (next_stage scope stage place) order.1)
    where
      by : (b : Bool) → nat_eq stage.number number ≡ b → length (joined (map_numbered (written_at number) (n + 1) (wires_held scope some (next_stage scope stage place)))) ≤ 1 →
          length (output_if b (record { object = n; place = 0 }) ++ joined (map_numbered (written_at number) (n + 1) (wires_held scope some (next_stage scope stage place)))) ≤ 1
      by true e rest =
          let same = eqb-true stage.number number e in
          let none = none-written number (from + 1) (n + 1) some (next_stage scope stage place) (omega (arith, same, order.0)) order.1 in
          omega (arith, ap (λ (l : List NodeOutput). length l) none)
      by false e rest = rest

  outputs-few : (number : ℕ) → length (outputs_of objects number) ≤ 1
  outputs-few number =
      subst (λ (l : List NodeOutput). length l ≤ 1) (sym (outputs-are scope stages numbered are within number)) (one-written number 0 (suc (length stages)) stages (at_gates stages) numbered)

  abbrev IsGate : FlatNode → Type 0
  IsGate node = (length node.outputs ≤ 1) × (terminal_count node.kind ≡ 2)

  all-gates : (number : ℕ) (some : List Stage) (place : Place) → AllHold IsGate (map_numbered (flat_node (walked_parts scope stages) objects) number (gate_nodes scope some place))
  all-gates number [] place = tt
  all-gates number (stage ∷ some) place =
      let outputs = outputs_of objects number in
      let few : length (map (λ (o : NodeOutput). o.object) outputs) ≤ 1 = omega (arith, length-map outputs (λ (o : NodeOutput). o.object), outputs-few number) in
      ((few, refl), all-gates (number + 1) some (next_stage scope stage place))

  -- output bits

  registers-narrow : (some : List Stage) (place : Place) → AllHold (λ (held : HeldObject). held.object.width ≤ 1) (map variable_held (register_signals scope some place))
  registers-narrow [] place = tt
  registers-narrow (stage ∷ some) place = (one-low, registers-narrow some (place_behind place (register_line stage)))

  wires-narrow : (some : List Stage) (place : Place) → AllHold (λ (held : HeldObject). held.object.width ≤ 1) (wires_held scope some place)
  wires-narrow [] place = tt
  wires-narrow (stage ∷ some) place = (one-low, wires-narrow some (next_stage scope stage place))

  width-low : (object : ℕ) → width_in design object ≤ 1
  width-low object =
      get-low 1 (map (λ (o : FlatObject). o.width) design.objects) object
      (mapped-holds (λ w. w ≤ 1) (λ (o : FlatObject). o.width) design.objects
      (mapped-holds (λ (o : FlatObject). o.width ≤ 1) (λ (held : HeldObject). held.object) objects
      (both-hold (λ (held : HeldObject). held.object.width ≤ 1) (variables_held scope stages) (wires_held scope stages (at_gates stages))
      (one-low, registers-narrow stages at_registers) (wires-narrow stages (at_gates stages)))))

  bits-few : (number : ℕ) (some : List ℕ) → length (joined (map (λ object. map (OutputBit number object) (up_from 0 (width_in design object))) some)) ≤ length some
  bits-few number [] = omega arith
  bits-few number (object ∷ some) =
      let bits = map (OutputBit number object) (up_from 0 (width_in design object)) in
      let rest = joined (map (λ object. map (OutputBit number object) (up_from 0 (width_in design object))) some) in
      omega (arith, length-append bits rest, length-map (up_from 0 (width_in design object)) (OutputBit number object), up-count 0 (width_in design object), width-low object, bits-few number some)

  outputs-sites : (number : ℕ) (some : List FlatNode) → AllHold IsGate some → length (joined (map_numbered (output_sites design) number some)) ≤ length some
  outputs-sites number [] gates = omega arith
  outputs-sites number (node ∷ some) gates =
      let here = output_sites design number node in
      let rest = joined (map_numbered (output_sites design) (number + 1) some) in
      let found = filter (has node.outputs) (net_pieces design) in
      omega (arith, length-append here rest, bits-few number found, numbered-few (λ (o : FlatObject). is_net o.kind) node.outputs 0 design.objects, gates.0.0, outputs-sites (number + 1) some gates.1)

  terminals-sites : (number : ℕ) (some : List FlatNode) → AllHold IsGate some → length (joined (map_numbered terminal_sites number some)) ≡ 2 * length some
  terminals-sites number [] gates = refl
  terminals-sites number (node ∷ some) gates =
      let here = terminal_sites number node in
      let rest = joined (map_numbered terminal_sites (number + 1) some) in
      omega (arith, length-append here rest, length-map (up_from 1 (terminal_count node.kind)) (GateTerminal number), up-count 1 (terminal_count node.kind), gates.0.1, terminals-sites (number + 1) some gates.1)

  nodes-counted : (number : ℕ) (some : List Stage) (place : Place) → length (map_numbered (flat_node (walked_parts scope stages) objects) number (gate_nodes scope some place)) ≡ length some
  nodes-counted number [] place = refl
  nodes-counted number (stage ∷ some) place = ap (λ n. suc n) (nodes-counted (number + 1) some (next_stage scope stage place))

  abbrev faults_at : FaultSite → List StuckAt
  faults_at site = record { site = site; value = false } ∷ record { site = site; value = true } ∷ []

  pairs-count : (sites : List FaultSite) → length (joined (map faults_at sites)) ≡ 2 * length sites
  pairs-count [] = refl
  pairs-count (site ∷ sites) = let rest = pairs-count sites in omega (arith, rest)

  -- the faults of the design are not too many
  pub faults-few : length (faults_of design) ≤ 65536
  faults-few =
      let order : design.nodes ≡ nodes = in-order (suc (length stages)) nodes (good-nodes scope stages numbered are within low) in
      let gates = all-gates 0 stages (at_gates stages) in
      let count = nodes-counted 0 stages (at_gates stages) in
      let variables = joined (map_numbered variable_sites 0 design.objects) in
      let outputs = joined (map_numbered (output_sites design) 0 design.nodes) in
      let terminals = joined (map_numbered terminal_sites 0 design.nodes) in
      let outputs_few : length outputs ≤ length stages =
      subst (λ ns. length (joined (map_numbered (output_sites design) 0 ns)) ≤ length stages) (sym order) (omega (arith, outputs-sites 0 nodes gates, count)) in
      let terminals_few : length terminals ≤ 2 * length stages =
      subst (λ ns. length (joined (map_numbered terminal_sites 0 ns)) ≤ 2 * length stages) (sym order) (omega (arith, terminals-sites 0 nodes gates, count)) in
      omega (arith, pairs-count (sites_of design), length-append variables (outputs ++ terminals), length-append outputs terminals, variables-sites, outputs_few, terminals_few, low)
