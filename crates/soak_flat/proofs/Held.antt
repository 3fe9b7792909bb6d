-- The objects of the generated design, and which of them its gates read and write (IEEE 1364-2001, clauses 3.2 and 7).
use Rattle.std.proofs.Common.{◌≡◌, ℕ, zero, suc, ◌+◌, ◌<◌, ◌≤◌, Bool, true, false, ◌||◌, List, [], ◌∷◌, ◌++◌, length, map, filter, cond, Some, refl, sym, ap, subst, ◌∙◌, arith, length-append, append_assoc}
use Rattle.std.specs.Prelude.{nat_eq}
use Rattle.std.specs.List.{flat_map}
use Rattle.std.specs.Fmt.{decimal}
use Rattle.std.proofs.lemmas.Bool.{and_left, eqb-true, ne_eqb}
use Rattle.std.proofs.lemmas.List.{length-map}
use Rattle.vf_base.specs.Lists.{AllHold, has, joined, map_numbered}
use Rattle.vf_base.specs.declared.ids.Place.{Place}
use Rattle.graph_order.specs.ListLaws.{AllHold-has}
use Rattle.v_design.specs.Trees.{Piece}
use Rattle.v_design.specs.Expressions.{up_from}
use Rattle.v_design.specs.Designs.{FlatNodeKind, FlatNode}
use Rattle.v_design.specs.declared.logic.ObjectKind.TheVariants.{Net}
use Rattle.v_design.specs.Reads.{node_reads}
use Rattle.v_design.specs.WellFormed.{most_inputs}
use Rattle.four_value.specs.declared.logic.Bit.TheVariants.{Z}
use Rattle.v_tree.specs.Trees.{Identifier, same_name}
use Rattle.v_comb.proofs.Tables.{same-equal, same-turned}
use Rattle.v_names.specs.Scopes.{Scope, range_width}
use Rattle.v_ports.specs.Pieces.{pieces_of}
use Rattle.v_elab.specs.Parts.{Signal, Part}
use Rattle.v_elab.specs.Drivers.{signals_of, outermost, WalkedNode, object_drives, driving_variables, run_of}
use Rattle.v_elab.specs.Objects.{HeldObject, variable_object, index_at, piece_object, pieces_or_variable, part_objects, objects_of_parts, piece_if, pieces_held, vector_of_name}
use Rattle.v_elab.specs.Flat.{NodeOutput, output_if, output_of_object, outputs_of, node_kind, flat_node}
use Rattle.soak_text.specs.declared.draws.Stage.{Stage}
use Rattle.soak_text.specs.Soak.{register_line}
use Rattle.v_scan.specs.Texts.{place_behind}
use Rattle.soak_tree.specs.SoakUnits.{clock_name, register_name}
use Rattle.soak_tree.specs.Stages.{IsStage}
use Rattle.soak_flat.proofs.Once.{all-weaker, all-append, DiffersBy, ApartBy, of_that_name, none-of-name}
use Rattle.soak_flat.proofs.Apart.{Numbered, at_registers, at_gates}
use Rattle.soak_flat.proofs.Parts.{IsWithin, variable_signal, wire_signal, register_parts, gate_parts, walked_parts}
use Rattle.soak_flat.proofs.Driven.{register_signals, next_stage, gate_node, gate_nodes, clock_signal, all_signals, signals-are, signal_name, outer, clock-drives, registers-apart}
use Rattle.soak_flat.proofs.Driven.{registers-drive, IsWired, wires-wired}

-- Lists

pub lists-both : {A : Type 0} (xs ys : List (List A)) → joined (xs ++ ys) ≡ joined xs ++ joined ys
lists-both [] ys = refl
lists-both (x ∷ xs) ys = ap (λ l. x ++ l) (lists-both xs ys) ∙ sym (append_assoc x (joined xs) (joined ys))

pub numbered-both : {A B : Type 0} (f : ℕ → A → B) (n : ℕ) (xs ys : List A) → map_numbered f n (xs ++ ys) ≡ map_numbered f n xs ++ map_numbered f (n + length xs) ys
numbered-both f n [] ys = ap (λ k. map_numbered f k ys) (omega arith)
numbered-both f n (x ∷ xs) ys =
    ap (λ l. f n x ∷ l) (numbered-both f (n + 1) xs ys ∙ ap (λ k. map_numbered f (n + 1) xs ++ map_numbered f k ys) (omega arith))

-- one at most has a name
few-of-name : {A : Type 0} (name : A → Identifier) (n : Identifier) (xs : List A) → ApartBy name xs → length (of_that_name name n xs) ≤ 1
few-of-name name n [] apart = omega arith
few-of-name {A} name n (x ∷ xs) apart = by (same_name (name x) n) refl (few-of-name name n xs apart.1)
  where
    by : (b : Bool) → same_name (name x) n ≡ b → length (of_that_name name n xs) ≤ 1 → length (cond b (x ∷ of_that_name name n xs) (of_that_name name n xs)) ≤ 1
    by true e rest =
        let none : of_that_name name n xs ≡ [] =
        none-of-name name n xs (all-weaker (DiffersBy name x) (λ y. same_name (name y) n ≡ false)
        (λ y differs. same-turned (name y) n ∙ (ap (λ m. same_name m (name y)) (sym (same-equal (name x) n e)) ∙ differs)) xs apart.0) in
        omega (arith, ap (λ l. length l) none)
    by false e rest = rest

-- Pieces of a name

module _ (test : HeldObject → Bool) where
  abbrev pub pieces_from : ℕ → List HeldObject → List Piece
  pieces_from n objects = joined (map_numbered (λ number (held : HeldObject). piece_if (test held) number held) n objects)

  pieces-count : (n : ℕ) (objects : List HeldObject) → length (pieces_from n objects) ≡ length (filter test objects)
  pieces-count n [] = refl
  pieces-count n (held ∷ objects) =
      elim (test held) as (λ b. length (piece_if b n held ++ pieces_from (n + 1) objects) ≡ length (cond b (held ∷ filter test objects) (filter test objects))) [
        | true ↦ ap (λ k. suc k) (pieces-count (n + 1) objects)
        | false ↦ pieces-count (n + 1) objects
      ]

  pieces-low : (n most : ℕ) (objects : List HeldObject) → n + length objects ≤ most → AllHold (λ (p : Piece). p.object < most) (pieces_from n objects)
  pieces-low n most [] fits = tt
  pieces-low n most (held ∷ objects) fits =
      let rest = pieces-low (n + 1) most objects (omega (arith, fits)) in
      elim (test held) as (λ b. AllHold (λ (p : Piece). p.object < most) (piece_if b n held ++ pieces_from (n + 1) objects)) [ true ↦ (omega (arith, fits), rest) | false ↦ rest ]

-- Numbers among others

pub filter-holds : (P : ℕ → Type 0) (reads numbers : List ℕ) → AllHold P reads → AllHold P (filter (has reads) numbers)
filter-holds P reads [] all = tt
filter-holds P reads (n ∷ numbers) all = by (has reads n) refl (filter-holds P reads numbers all)
  where
    by : (b : Bool) → has reads n ≡ b → AllHold P (filter (has reads) numbers) → AllHold P (cond b (n ∷ filter (has reads) numbers) (filter (has reads) numbers))
    by true e rest = (AllHold-has P reads n all e, rest)
    by false e rest = rest

pub filter-either : (p q : ℕ → Bool) (xs : List ℕ) → length (filter (λ x. p x || q x) xs) ≤ length (filter p xs) + length (filter q xs)
filter-either p q [] = omega arith
filter-either p q (x ∷ xs) =
    let rest = filter-either p q xs in
    let either = λ (x : ℕ). p x || q x in
    elim (p x) as (λ a. length (cond (a || q x) (x ∷ filter either xs) (filter either xs)) ≤ length (cond a (x ∷ filter p xs) (filter p xs)) + length (cond (q x) (x ∷ filter q xs) (filter q xs))) [
      | true ↦ elim (q x) as (λ b. suc (length (filter either xs)) ≤ suc (length (filter p xs)) + length (cond b (x ∷ filter q xs) (filter q xs))) [ true ↦ omega (arith, rest) | false ↦ omega (arith, rest) ]
      | false ↦ elim (q x) as (λ b. length (cond b (x ∷ filter either xs) (filter either xs)) ≤ length (filter p xs) + length (cond b (x ∷ filter q xs) (filter q xs))) [ true ↦ omega (arith, rest) | false ↦ rest ]
    ]

none-below : (x start count : ℕ) → x < start → length (filter (nat_eq x) (up_from start count)) ≡ 0
none-below x start zero low = refl
none-below x start (suc count) low =
    ap (λ b. length (cond b (start ∷ filter (nat_eq x) (up_from (start + 1) count)) (filter (nat_eq x) (up_from (start + 1) count)))) (ne_eqb x start (λ e. absurd (omega (arith, e, low))))
    ∙ none-below x (start + 1) count (omega (arith, low))

one-there : (x start count : ℕ) → length (filter (nat_eq x) (up_from start count)) ≤ 1
one-there x start zero = omega arith
one-there x start (suc count) = by (nat_eq x start) refl (one-there x (start + 1) count)
  where
    by : (b : Bool) → nat_eq x start ≡ b → length (filter (nat_eq x) (up_from (start + 1) count)) ≤ 1 →
        length (cond b (start ∷ filter (nat_eq x) (up_from (start + 1) count)) (filter (nat_eq x) (up_from (start + 1) count))) ≤ 1
    by true e rest = let same = eqb-true x start e in omega (arith, none-below x (start + 1) count (omega (arith, same)))
    by false e rest = rest

pub none-among : (numbers : List ℕ) → length (filter (has []) numbers) ≡ 0
none-among [] = refl
none-among (n ∷ numbers) = none-among numbers

-- as many numbers in a row at most as there are in the list
pub filter-few : (reads : List ℕ) (start count : ℕ) → length (filter (has reads) (up_from start count)) ≤ length reads
filter-few [] start count = omega (arith, none-among (up_from start count))
filter-few (x ∷ reads) start count =
    omega (arith, filter-either (nat_eq x) (has reads) (up_from start count), one-there x start count, filter-few reads start count)

-- A node that reads lower objects alone and writes higher ones, and reads few

pub record IsGood (least : ℕ) (node : FlatNode) : Type 0 where
  pub inputs : AllHold (λ object. object < least) node.inputs
  pub outputs : AllHold (λ object. least ≤ object) node.outputs
  pub few : length node.inputs ≤ most_inputs

-- Objects

abbrev pub variable_held : Signal → HeldObject
variable_held s = variable_object s s

abbrev pub wire_held : Signal → ℕ → HeldObject
wire_held s number = record {
  holder = s.name;
  driver = Some (record { node = number; place = 0 });
  object = record {
    name = s.name;
    kind = Net;
    width = 1;
    ranged = s.range.ranged;
    high = index_at s.range 0;
    low = index_at s.range 0;
    address = 0;
    first = Z ∷ [];
    place = s.place;
  };
}

module _ (scope : Scope) where
  abbrev pub wires_held : List Stage → Place → List HeldObject
  wires_held [] place = []
  wires_held (stage ∷ stages) place = wire_held (wire_signal scope stage place) stage.number ∷ wires_held stages (next_stage scope stage place)

  abbrev pub variables_held : List Stage → List HeldObject
  variables_held stages = variable_held (clock_signal scope) ∷ map variable_held (register_signals scope stages at_registers)

  abbrev pub all_held : List Stage → List HeldObject
  all_held stages = variables_held stages ++ wires_held stages (at_gates stages)

  registers-count : (stages : List Stage) (place : Place) → length (register_signals scope stages place) ≡ length stages
  registers-count [] place = refl
  registers-count (stage ∷ stages) place = ap (λ n. suc n) (registers-count stages (place_behind place (register_line stage)))

  wires-count : (stages : List Stage) (place : Place) → length (wires_held stages place) ≡ length stages
  wires-count [] place = refl
  wires-count (stage ∷ stages) place = ap (λ n. suc n) (wires-count stages (next_stage scope stage place))

  pub variables-count : (stages : List Stage) → length (variables_held stages) ≡ suc (length stages)
  variables-count stages = ap (λ n. suc n) (length-map (register_signals scope stages at_registers) variable_held ∙ registers-count stages at_registers)

  pub held-count : (stages : List Stage) → length (all_held stages) ≡ suc (length stages) + length stages
  held-count stages =
      length-append (variables_held stages) (wires_held stages (at_gates stages))
      ∙ (ap (λ n. n + length (wires_held stages (at_gates stages))) (variables-count stages) ∙ ap (λ n. suc (length stages) + n) (wires-count stages (at_gates stages)))

module _ (scope : Scope) (stages : List Stage) (numbered : Numbered 0 stages) (are : AllHold IsStage stages) (within : AllHold (IsWithin (length stages)) stages) where
  abbrev signals : List Signal
  signals = all_signals scope stages

  abbrev nodes : List WalkedNode
  nodes = gate_nodes scope stages (at_gates stages)

  abbrev parts : List Part
  parts = walked_parts scope stages

  abbrev objects : List HeldObject
  objects = all_held scope stages

  registers-objects : (some : List Stage) (place : Place) (rest : List Part) → AllHold (λ (s : Signal). driving_variables signals nodes s.name ≡ s ∷ []) (register_signals scope some place) →
      flat_map (part_objects signals nodes) (joined (register_parts scope some place) ++ rest)
      ≡ map variable_held (register_signals scope some place) ++ flat_map (part_objects signals nodes) rest
  registers-objects [] place rest drive = refl
  registers-objects (stage ∷ some) place rest drive =
      let s = variable_signal scope (register_name stage.number) stage.first place in
      let next = place_behind place (register_line stage) in
      ap (λ d. pieces_or_variable s (object_drives signals nodes s.name) d ++ flat_map (part_objects signals nodes) (joined (register_parts scope some next) ++ rest)) drive.0
      ∙ ap (λ l. variable_held s ∷ l) (registers-objects some next rest drive.1)

  wires-objects : (some : List Stage) (place : Place) → AllHold (λ (stage : Stage). IsWired scope stages numbered are within stage.number) some →
      flat_map (part_objects signals nodes) (joined (gate_parts scope some place)) ≡ wires_held scope some place
  wires-objects [] place wired = refl
  wires-objects (stage ∷ some) place wired =
      let s = wire_signal scope stage place in
      let next = next_stage scope stage place in
      let rest = flat_map (part_objects signals nodes) (joined (gate_parts scope some next)) in
      ap (λ d. pieces_or_variable s (object_drives signals nodes s.name) d ++ rest) wired.0.none
      ∙ (ap (λ o. map (piece_object s o) (pieces_of (range_width s.range) (map run_of o)) ++ rest) wired.0.drives.1 ∙ ap (λ l. wire_held s stage.number ∷ l) (wires-objects some next wired.1))

  -- the objects of the unit
  pub objects-are : objects_of_parts parts nodes ≡ objects
  objects-are =
      ap (λ (s : List Signal). flat_map (part_objects s nodes) parts) (signals-are scope stages)
      ∙ (ap (λ d. pieces_or_variable (clock_signal scope) (object_drives signals nodes clock_name) d
      ++ flat_map (part_objects signals nodes) (joined (register_parts scope stages at_registers) ++ joined (gate_parts scope stages (at_gates stages)))) (clock-drives scope stages numbered are within)
      ∙ ap (λ l. variable_held (clock_signal scope) ∷ l)
      (registers-objects stages at_registers (joined (gate_parts scope stages (at_gates stages))) (registers-drive scope stages numbered are within)
      ∙ ap (λ l. map variable_held (register_signals scope stages at_registers) ++ l) (wires-objects stages (at_gates stages) (wires-wired scope stages numbered are within))))

  -- What gates read

  abbrev holds : Identifier → HeldObject → Bool
  holds name held = same_name held.holder name

  wires-not_held : (letter : ℕ) (behind : List ℕ) → nat_eq 119 letter ≡ false → (n : ℕ) (some : List Stage) (place : Place) → pieces_from (holds (letter ∷ behind)) n (wires_held scope some place) ≡ []
  wires-not_held letter behind other n [] place = refl
  wires-not_held letter behind other n (stage ∷ some) place =
      let next = next_stage scope stage place in
      ap (λ b. piece_if b n (wire_held (wire_signal scope stage place) stage.number) ++ pieces_from (holds (letter ∷ behind)) (n + 1) (wires_held scope some next))
      (and_left (nat_eq 119 letter) (same_name (decimal stage.number) behind) other)
      ∙ wires-not_held letter behind other (n + 1) some next

  held-named : (name : Identifier) (some : List Signal) → length (filter (holds name) (map variable_held some)) ≡ length (of_that_name signal_name name some)
  held-named name [] = refl
  held-named name (s ∷ some) =
      elim (same_name s.name name) as (λ b. length (cond b (variable_held s ∷ filter (holds name) (map variable_held some)) (filter (holds name) (map variable_held some)))
      ≡ length (cond b (s ∷ of_that_name signal_name name some) (of_that_name signal_name name some))) [ true ↦ ap (λ n. suc n) (held-named name some) | false ↦ held-named name some ]

  register-pieces : (number : ℕ) → pieces_held objects (register_name number) ≡ pieces_from (holds (register_name number)) 0 (variables_held scope stages)
  register-pieces number =
      let piece = λ (n : ℕ) (held : HeldObject). piece_if (holds (register_name number) held) n held in
      let variables = variables_held scope stages in
      let wires = wires_held scope stages (at_gates stages) in
      ap (λ (l : List (List Piece)). joined l) (numbered-both piece 0 variables wires)
      ∙ (lists-both (map_numbered piece 0 variables) (map_numbered piece (0 + length variables) wires)
      ∙ (ap (λ l. pieces_from (holds (register_name number)) 0 variables ++ l) (wires-not_held 114 (decimal number) refl (0 + length variables) stages (at_gates stages))
      ∙ none-more (pieces_from (holds (register_name number)) 0 variables)))
    where
      none-more : (ps : List Piece) → ps ++ [] ≡ ps
      none-more [] = refl
      none-more (p ∷ ps) = ap (λ l. p ∷ l) (none-more ps)

  -- a register is one variable
  pub register-few : (number : ℕ) → length (pieces_held objects (register_name number)) ≤ 1
  register-few number =
      let count = pieces-count (holds (register_name number)) 0 (variables_held scope stages) in
      let few = few-of-name signal_name (register_name number) (register_signals scope stages at_registers) (registers-apart scope stages numbered are within 0 stages at_registers numbered are) in
      let named = held-named (register_name number) (register_signals scope stages at_registers) in
      let same = ap (λ (l : List Piece). length l) (register-pieces number) in
      omega (arith, count, few, named, same)

  pub register-low : (number : ℕ) → AllHold (λ (p : Piece). p.object < suc (length stages)) (pieces_held objects (register_name number))
  register-low number =
      subst (AllHold (λ (p : Piece). p.object < suc (length stages))) (sym (register-pieces number))
      (pieces-low (holds (register_name number)) 0 (suc (length stages)) (variables_held scope stages) (omega (arith, variables-count scope stages)))

  its-pieces : (name : Identifier) → (vector_of_name (signals_of parts) objects name).pieces ≡ pieces_held objects name
  its-pieces name = ap (pieces_held objects) (ap (λ (s : List Signal). outermost s name) (signals-are scope stages) ∙ outer scope stages numbered are within name)

  abbrev gate_kind_of : Stage → List NodeOutput → FlatNodeKind
  gate_kind_of stage outputs = node_kind parts objects outputs (gate_node scope stage at_registers).function

  reads-are : (stage : Stage) (outputs : List NodeOutput) (numbers : List ℕ) →
      node_reads (gate_kind_of stage outputs) numbers
      ≡ map (λ (p : Piece). p.object) (pieces_held objects (register_name stage.left) ++ (pieces_held objects (register_name stage.right) ++ []))
  reads-are stage outputs numbers =
      ap (λ ps. map (λ (p : Piece). p.object) (ps ++ ((vector_of_name (signals_of parts) objects (register_name stage.right)).pieces ++ []))) (its-pieces (register_name stage.left))
      ∙ ap (λ ps. map (λ (p : Piece). p.object) (pieces_held objects (register_name stage.left) ++ (ps ++ []))) (its-pieces (register_name stage.right))

  all-mapped : (most : ℕ) (ps : List Piece) → AllHold (λ (p : Piece). p.object < most) ps → AllHold (λ object. object < most) (map (λ (p : Piece). p.object) ps)
  all-mapped most [] h = tt
  all-mapped most (p ∷ ps) h = (h.0, all-mapped most ps h.1)

  reads-low : (stage : Stage) (outputs : List NodeOutput) (numbers : List ℕ) → AllHold (λ object. object < suc (length stages)) (node_reads (gate_kind_of stage outputs) numbers)
  reads-low stage outputs numbers =
      subst (AllHold (λ object. object < suc (length stages))) (sym (reads-are stage outputs numbers))
      (all-mapped (suc (length stages)) (pieces_held objects (register_name stage.left) ++ (pieces_held objects (register_name stage.right) ++ []))
      (all-append (λ (p : Piece). p.object < suc (length stages)) (pieces_held objects (register_name stage.left)) (pieces_held objects (register_name stage.right) ++ []) (register-low stage.left)
      (all-append (λ (p : Piece). p.object < suc (length stages)) (pieces_held objects (register_name stage.right)) [] (register-low stage.right) tt)))

  reads-few : (stage : Stage) (outputs : List NodeOutput) (numbers : List ℕ) → length (node_reads (gate_kind_of stage outputs) numbers) ≤ 2
  reads-few stage outputs numbers =
      let left = pieces_held objects (register_name stage.left) in
      let right = pieces_held objects (register_name stage.right) in
      let same = ap (λ (l : List ℕ). length l) (reads-are stage outputs numbers) in
      omega (arith, same, length-map (left ++ (right ++ [])) (λ (p : Piece). p.object), length-append left (right ++ []), length-append right [], register-few stage.left, register-few stage.right)

  -- What gates write

  variables-no_outputs : (number n : ℕ) (some : List Signal) → joined (map_numbered (λ object (held : HeldObject). output_of_object number object held.driver) n (map variable_held some)) ≡ []
  variables-no_outputs number n [] = refl
  variables-no_outputs number n (s ∷ some) = variables-no_outputs number (n + 1) some

  abbrev written : ℕ → ℕ → HeldObject → List NodeOutput
  written number object held = output_of_object number object held.driver

  outputs-high : (number least n : ℕ) (some : List Stage) (place : Place) → least ≤ n → AllHold (λ (o : NodeOutput). least ≤ o.object) (joined (map_numbered (written number) n (wires_held scope some place)))
  outputs-high number least n [] place low = tt
  outputs-high number least n (stage ∷ some) place low =
      let next = next_stage scope stage place in
      let rest = outputs-high number least (n + 1) some next (omega (arith, low)) in
      elim (nat_eq stage.number number) as (λ b. AllHold (λ (o : NodeOutput). least ≤ o.object) (output_if b (record { object = n; place = 0 }) ++ joined (map_numbered (written number) (n + 1) (wires_held scope some next)))) [
        | true ↦ (low, rest)
        | false ↦ rest
      ]

  pub outputs-are : (number : ℕ) → outputs_of objects number ≡ joined (map_numbered (written number) (suc (length stages)) (wires_held scope stages (at_gates stages)))
  outputs-are number =
      let variables = variables_held scope stages in
      let wires = wires_held scope stages (at_gates stages) in
      let start : 0 + length variables ≡ suc (length stages) = omega (arith, variables-count scope stages) in
      ap (λ (l : List (List NodeOutput)). joined l) (numbered-both (written number) 0 variables wires)
      ∙ (lists-both (map_numbered (written number) 0 variables) (map_numbered (written number) (0 + length variables) wires)
      ∙ (ap (λ l. l ++ joined (map_numbered (written number) (0 + length variables) wires)) (variables-no_outputs number 1 (register_signals scope stages at_registers))
      ∙ ap (λ n. joined (map_numbered (written number) n wires)) start))

  output-numbers : (number : ℕ) → AllHold (λ object. suc (length stages) ≤ object) (map (λ (o : NodeOutput). o.object) (outputs_of objects number))
  output-numbers number =
      mapped (outputs_of objects number)
      (subst (AllHold (λ (o : NodeOutput). suc (length stages) ≤ o.object)) (sym (outputs-are number)) (outputs-high number (suc (length stages)) (suc (length stages)) stages (at_gates stages) (omega arith)))
    where
      mapped : (os : List NodeOutput) → AllHold (λ (o : NodeOutput). suc (length stages) ≤ o.object) os → AllHold (λ object. suc (length stages) ≤ object) (map (λ (o : NodeOutput). o.object) os)
      mapped [] h = tt
      mapped (o ∷ os) h = (h.0, mapped os h.1)

  -- Nodes

  pub all-good : (number : ℕ) (some : List Stage) (place : Place) → AllHold (IsGood (suc (length stages))) (map_numbered (flat_node parts objects) number (gate_nodes scope some place))
  all-good number [] place = tt
  all-good number (stage ∷ some) place =
      let numbers = map (λ (o : NodeOutput). o.object) (outputs_of objects number) in
      let reads = node_reads (gate_kind_of stage (outputs_of objects number)) numbers in (
        record {
          inputs = filter-holds (λ object. object < suc (length stages)) reads (up_from 0 (length objects)) (reads-low stage (outputs_of objects number) numbers);
          outputs = output-numbers number;
          few = omega (arith, filter-few reads 0 (length objects), reads-few stage (outputs_of objects number) numbers);
        },
        all-good (number + 1) some (next_stage scope stage place),
      )
