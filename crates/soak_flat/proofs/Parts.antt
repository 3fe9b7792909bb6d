-- The parts of the generated unit (IEEE 1364-2001, clauses 3.2, 7 and 9.9).
use Rattle.std.proofs.Common.{◌≡◌, ℕ, zero, suc, ◌+◌, ◌<◌, ◌≤◌, true, false, List, [], ◌∷◌, ◌++◌, length, map, Some, None, refl, sym, ap, subst, ◌∙◌, arith, append_assoc}
use Rattle.std.specs.Prelude.{codes}
use Rattle.std.specs.List.{sum_by, range_with_len}
use Rattle.std.proofs.lemmas.List.Sums.{sum_by-cons}
use Rattle.vf_base.specs.Base.{source_place}
use Rattle.vf_base.specs.Lists.{AllHold, joined}
use Rattle.vf_base.specs.declared.ids.Place.{Place}
use Rattle.four_value.specs.Values.{bits_of}
use Rattle.v_tree.specs.Trees.{Identifier, Number, NullStatement, SourceItem, AlwaysItem, SourceModule}
use Rattle.v_tree.specs.declared.token.NumberForm.TheVariants.{Plain}
use Rattle.v_scan.specs.Texts.{place_behind}
use Rattle.v_names.specs.Scopes.{NetEntry, RegEntry, Scope, looked_up, range_width}
use Rattle.v_names.specs.SizedTrees.{SizedName, no_sized, more_sized}
use Rattle.v_names.specs.Names.{Unbounded, DeclaredNet, DeclaredReg, Declaration, of_name, names_declared}
use Rattle.v_elab.specs.declared.Mode.TheVariants.{Usual}
use Rattle.v_elab.specs.Parts.{Signal, Drive, WalkedProcess, Part, SignalPart, GatePart, ProcessPart, unjoined, process_by_itself, objects_of_part, nodes_of_part, processes_of_part, instances_of_part}
use Rattle.v_elab.specs.Walk.{Here, content_of}
use Rattle.soak_text.specs.declared.draws.Stage.{Stage}
use Rattle.soak_text.specs.Soak.{kind_text, register_line, wire_line, gate_line, clocked_line, stage_of, stages_of}
use Rattle.soak_tree.specs.SoakUnits.{clock_name, register_name, wire_name, gate_name, gate_kind, behind_word, variable_item, clock_item, wire_item, gate_item, clocked_item, register_items, gate_items}
use Rattle.soak_tree.specs.SoakUnits.{soak_items, soak_module}
use Rattle.soak_tree.specs.Stages.{IsStage}
use Rattle.soak_flat.proofs.Once.{all-parts, named-once}
use Rattle.soak_flat.proofs.Apart.{Numbered, register_declarations, gate_declarations, at_clock, at_registers, at_gates, all_declarations, declared-apart, names-declared}
use Rattle.soak_flat.proofs.Meant.{scalar, Knows}
use Rattle.soak_flat.proofs.Items.{variable-fine, wire-fine, clock-fine, clocked-fine, gate-fine}
use Rattle.soak_flat.proofs.Walked.{AreFew, WalksAs, Walks, walks-both, declared-part}

-- a stage whose numbers are those of so many stages
pub record IsWithin (size : ℕ) (stage : Stage) : Type 0 where
  pub number : stage.number < size
  pub left : stage.left < size
  pub right : stage.right < size

within-from : (seed size from count : ℕ) → 1 ≤ size → from + count ≤ size → AllHold (IsWithin size) (map (stage_of seed size) (range_with_len from count))
within-from seed size from zero low fits = tt
within-from seed size from (suc count) low fits = (record { number = omega arith; left = omega arith; right = omega arith }, within-from seed size (from + 1) count low (omega arith))

pub stages-within : (number size : ℕ) → 1 ≤ size → AllHold (IsWithin size) (stages_of number size)
stages-within number size low = within-from number size 0 size low (omega arith)

-- Parts

module _ (scope : Scope) where
  abbrev pub variable_signal : Identifier → ℕ → Place → Signal
  variable_signal name first place =
      let at_name = behind_word place (codes "reg") in
      let at_value = behind_word (behind_word at_name name) (codes "=") in
      record {
        name = name;
        is_reg = true;
        range = scalar;
        first = content_of scope (range_width scalar) (Some (Number (source_place at_value) Plain (bits_of 32 first)));
        place = source_place at_name;
        depth = 0;
        joined = None;
      }

  abbrev pub wire_signal : Stage → Place → Signal
  wire_signal stage place =
      record { name = wire_name stage.number; is_reg = false; range = scalar; first = None; place = source_place (behind_word place (codes "wire")); depth = 0; joined = None }

  abbrev pub wire_drive : Stage → Place → Drive
  wire_drive stage place =
      let at_name = behind_word place (kind_text stage.kind) in
      record { signal = wire_name stage.number; places = Some 0 ∷ []; place = source_place (place_behind (place_behind at_name (gate_name stage.number)) (codes "(")) }

  abbrev pub gate_part : Stage → Place → Part
  gate_part stage place =
      GatePart (gate_name stage.number) (gate_kind stage.kind) (wire_drive stage place ∷ []) []
      (more_sized (SizedName 1 false (register_name stage.left)) (more_sized (SizedName 1 false (register_name stage.right)) no_sized))

  -- a process without the form of a node
  abbrev pub process_of : SourceItem → WalkedProcess
  process_of (AlwaysItem place body) = record { always = true; place = place; path = []; scope = scope; body = body; targets = None }
  process_of _ = record { always = true; place = record { line = 0; column = 0 }; path = []; scope = scope; body = NullStatement (record { line = 0; column = 0 }); targets = None }

  -- the parts of each item
  abbrev pub register_parts : List Stage → Place → List (List Part)
  register_parts [] place = []
  register_parts (stage ∷ stages) place = (SignalPart (variable_signal (register_name stage.number) stage.first place) ∷ []) ∷ register_parts stages (place_behind place (register_line stage))

  abbrev pub gate_parts : List Stage → Place → List (List Part)
  gate_parts [] place = []
  gate_parts (stage ∷ stages) place =
      let at_gate = place_behind place (wire_line stage) in
      let at_process = place_behind at_gate (gate_line stage) in
      (SignalPart (wire_signal stage place) ∷ []) ∷ (gate_part stage at_gate ∷ []) ∷ (ProcessPart (process_of (clocked_item stage at_process)) ∷ [])
      ∷ gate_parts stages (place_behind at_process (clocked_line stage))

  abbrev pub soak_parts : List Stage → List (List Part)
  soak_parts stages =
      (SignalPart (variable_signal clock_name 0 at_clock) ∷ []) ∷ (ProcessPart (process_of (clock_item (place_behind at_clock (codes "reg clk = 0;\n")))) ∷ [])
      ∷ (register_parts stages at_registers ++ gate_parts stages (at_gates stages))

-- The walk

abbrev variable_declaration : Identifier → ℕ → Place → Declaration
variable_declaration name first place =
    let at_name = behind_word place (codes "reg") in
    let at_value = behind_word (behind_word at_name name) (codes "=") in
    record { name = name; place = source_place at_name; declared = DeclaredReg false Unbounded (Some (Number (source_place at_value) Plain (bits_of 32 first))) }

abbrev wire_declaration : Stage → Place → Declaration
wire_declaration stage place = record { name = wire_name stage.number; place = source_place (behind_word place (codes "wire")); declared = DeclaredNet false Unbounded }

module _ (modules : List SourceModule) (inner : SourceModule) (scope : Scope) (size : ℕ) (knows : Knows scope size) where
  abbrev pub here_in : Here
  here_in = record { modules = modules; mode = Usual; instance = record { inner = inner; given = []; path = []; depth = 0; joins = [] }; scope = scope }

  -- the only one of its name
  abbrev pub Once : Declaration → Type 0
  Once d = of_name d.name (names_declared inner) ≡ d ∷ []

  variable-walks : (name : Identifier) (first : ℕ) (place : Place) → Once (variable_declaration name first place) → looked_up scope name ≡ Some (RegEntry scalar false) →
      WalksAs here_in (variable_item name first place) (SignalPart (variable_signal scope name first place) ∷ [])
  variable-walks name first place once known = record {
    fine = variable-fine scope name first place;
    parts = λ gates. declared-part here_in (variable_item name first place) (variable_declaration name first place) (RegEntry scalar false) refl once known;
    plain = λ walker gates parts. refl;
  }

  wire-walks : (stage : Stage) (place : Place) → Once (wire_declaration stage place) → stage.number < size →
      WalksAs here_in (wire_item stage place) (SignalPart (wire_signal scope stage place) ∷ [])
  wire-walks stage place once low = record {
    fine = wire-fine scope stage place;
    parts = λ gates. ap (λ l. l ++ []) (declared-part here_in (wire_item stage place) (wire_declaration stage place) (NetEntry scalar false) refl once (knows.wire stage.number low));
    plain = λ walker gates parts. refl;
  }

  gate-walks : (stage : Stage) (place : Place) → IsWithin size stage → WalksAs here_in (gate_item stage place) (gate_part scope stage place ∷ [])
  gate-walks stage place is = record {
    fine = gate-fine scope size knows stage place is.number is.left is.right;
    parts = λ gates. rw (knows.wire stage.number is.number, knows.register stage.left is.left, knows.register stage.right is.right) refl;
    plain = λ walker gates parts. refl;
  }

  clocked-walks : (stage : Stage) (place : Place) → IsWithin size stage → WalksAs here_in (clocked_item stage place) (ProcessPart (process_of scope (clocked_item stage place)) ∷ [])
  clocked-walks stage place is = record { fine = clocked-fine scope size knows stage place is.number; parts = λ gates. refl; plain = λ walker gates parts. refl }

  clock-walks : (place : Place) → WalksAs here_in (clock_item place) (ProcessPart (process_of scope (clock_item place)) ∷ [])
  clock-walks place = record { fine = clock-fine scope size knows place; parts = λ gates. refl; plain = λ walker gates parts. refl }

  registers-walk : (stages : List Stage) (place : Place) → AllHold Once (register_declarations stages place) → AllHold (IsWithin size) stages →
      Walks here_in (register_items stages place) (register_parts scope stages place)
  registers-walk [] place once within = tt
  registers-walk (stage ∷ stages) place once within = (
    variable-walks (register_name stage.number) stage.first place once.0 (knows.register stage.number within.0.number),
    registers-walk stages (place_behind place (register_line stage)) once.1 within.1,
  )

  gates-walk : (stages : List Stage) (place : Place) → AllHold Once (gate_declarations stages place) → AllHold (IsWithin size) stages →
      Walks here_in (gate_items stages place) (gate_parts scope stages place)
  gates-walk [] place once within = tt
  gates-walk (stage ∷ stages) place once within =
      let at_gate = place_behind place (wire_line stage) in
      let at_process = place_behind at_gate (gate_line stage) in (
        wire-walks stage place once.0 within.0.number,
        (
          gate-walks stage at_gate within.0,
          (
            clocked-walks stage at_process within.0,
            gates-walk stages (place_behind at_process (clocked_line stage)) once.1.1 within.1,
          ),
        ),
      )

  pub all-walk : (stages : List Stage) → AllHold Once (all_declarations stages) → AllHold (IsWithin size) stages → Walks here_in (soak_items stages at_clock) (soak_parts scope stages)
  all-walk stages once within =
      let parts = all-parts Once (register_declarations stages at_registers) (gate_declarations stages (at_gates stages)) once.1 in (
        variable-walks clock_name 0 at_clock once.0 knows.clock,
        (
          clock-walks (place_behind at_clock (codes "reg clk = 0;\n")),
          walks-both here_in (register_items stages at_registers) (gate_items stages (at_gates stages)) (register_parts scope stages at_registers) (gate_parts scope stages (at_gates stages))
              (registers-walk stages at_registers parts.0 within) (gates-walk stages (at_gates stages) parts.1 within),
        ),
      )

-- each name of the unit is declared once
pub unit-once : (stages : List Stage) → Numbered 0 stages → AllHold IsStage stages →
    AllHold (λ (d : Declaration). of_name d.name (names_declared (soak_module stages)) ≡ d ∷ []) (all_declarations stages)
unit-once stages numbered are =
    subst (λ ds. AllHold (λ (d : Declaration). of_name d.name ds ≡ d ∷ []) (all_declarations stages)) (sym (names-declared stages numbered are))
    (named-once (all_declarations stages) (declared-apart stages numbered are))

-- Counts

sum-cons : (count : Part → ℕ) (part : Part) (parts : List Part) (here rest : ℕ) → count part ≡ here → sum_by count parts ≡ rest → sum_by count (part ∷ parts) ≡ here + rest
sum-cons count part parts here rest h d = sum_by-cons count part parts ∙ (ap (λ n. n + sum_by count parts) h ∙ ap (λ n. here + n) d)

-- how many of each there are
record Count (parts : List Part) (objects nodes processes : ℕ) : Type 0 where
  objects_are : sum_by objects_of_part parts ≡ objects
  nodes_are : sum_by nodes_of_part parts ≡ nodes
  processes_are : sum_by processes_of_part parts ≡ processes
  instances_are : sum_by instances_of_part parts ≡ 0

count-signal : (signal : Signal) (parts : List Part) (objects nodes processes : ℕ) → signal.joined ≡ None → Count parts objects nodes processes →
    Count (SignalPart signal ∷ parts) (1 + objects) nodes processes
count-signal signal parts objects nodes processes alone h = record {
  objects_are = sum-cons objects_of_part (SignalPart signal) parts 1 objects (ap unjoined alone) h.objects_are;
  nodes_are = sum-cons nodes_of_part (SignalPart signal) parts 0 nodes refl h.nodes_are ∙ omega arith;
  processes_are = sum-cons processes_of_part (SignalPart signal) parts 0 processes refl h.processes_are ∙ omega arith;
  instances_are = sum-cons instances_of_part (SignalPart signal) parts 0 0 refl h.instances_are;
}

count-process : (process : WalkedProcess) (parts : List Part) (objects nodes processes : ℕ) → process.targets ≡ None → Count parts objects nodes processes →
    Count (ProcessPart process ∷ parts) objects nodes (1 + processes)
count-process process parts objects nodes processes alone h = record {
  objects_are = sum-cons objects_of_part (ProcessPart process) parts 0 objects refl h.objects_are ∙ omega arith;
  nodes_are = sum-cons nodes_of_part (ProcessPart process) parts 0 nodes refl h.nodes_are ∙ omega arith;
  processes_are = sum-cons processes_of_part (ProcessPart process) parts 1 processes (ap process_by_itself alone) h.processes_are;
  instances_are = sum-cons instances_of_part (ProcessPart process) parts 0 0 refl h.instances_are;
}

module _ (scope : Scope) where
  count-gate : (stage : Stage) (place : Place) (parts : List Part) (objects nodes processes : ℕ) → Count parts objects nodes processes →
      Count (gate_part scope stage place ∷ parts) objects (1 + nodes) processes
  count-gate stage place parts objects nodes processes h = record {
    objects_are = sum-cons objects_of_part (gate_part scope stage place) parts 0 objects refl h.objects_are ∙ omega arith;
    nodes_are = sum-cons nodes_of_part (gate_part scope stage place) parts 1 nodes refl h.nodes_are;
    processes_are = sum-cons processes_of_part (gate_part scope stage place) parts 0 processes refl h.processes_are ∙ omega arith;
    instances_are = sum-cons instances_of_part (gate_part scope stage place) parts 0 0 refl h.instances_are;
  }

  -- how many of each registers and gates have, with what stands behind them
  registers-count : (stages : List Stage) (place : Place) (rest : List Part) (objects nodes processes : ℕ) → Count rest objects nodes processes →
      Count (joined (register_parts scope stages place) ++ rest) (length stages + objects) nodes processes
  registers-count [] place rest objects nodes processes h = subst (λ n. Count rest n nodes processes) (omega arith) h
  registers-count (stage ∷ stages) place rest objects nodes processes h =
      let after = registers-count stages (place_behind place (register_line stage)) rest objects nodes processes h in
      subst (λ n. Count (joined (register_parts scope (stage ∷ stages) place) ++ rest) n nodes processes) (omega arith)
      (count-signal (variable_signal scope (register_name stage.number) stage.first place)
      (joined (register_parts scope stages (place_behind place (register_line stage))) ++ rest) (length stages + objects) nodes processes refl after)

  gates-count : (stages : List Stage) (place : Place) → Count (joined (gate_parts scope stages place)) (length stages) (length stages) (length stages)
  gates-count [] place = record { objects_are = refl; nodes_are = refl; processes_are = refl; instances_are = refl }
  gates-count (stage ∷ stages) place =
      let at_gate = place_behind place (wire_line stage) in
      let at_process = place_behind at_gate (gate_line stage) in
      let next = place_behind at_process (clocked_line stage) in
      let n = length stages in
      let rest = joined (gate_parts scope stages next) in
      let process = process_of scope (clocked_item stage at_process) in
      let all = count-signal (wire_signal scope stage place) (gate_part scope stage at_gate ∷ ProcessPart process ∷ rest) n (1 + n) (1 + n) refl
      (count-gate stage at_gate (ProcessPart process ∷ rest) n n (1 + n) (count-process process rest n n n refl (gates-count stages next))) in
      subst (λ m. Count (joined (gate_parts scope (stage ∷ stages) place)) m m m) (omega arith) all

  joined-both : (xs ys : List (List Part)) → joined (xs ++ ys) ≡ joined xs ++ joined ys
  joined-both [] ys = refl
  joined-both (x ∷ xs) ys = ap (λ l. x ++ l) (joined-both xs ys) ∙ sym (append_assoc x (joined xs) (joined ys))

  -- what the walk gives, in order
  abbrev pub walked_parts : List Stage → List Part
  walked_parts stages =
      SignalPart (variable_signal scope clock_name 0 at_clock) ∷ ProcessPart (process_of scope (clock_item (place_behind at_clock (codes "reg clk = 0;\n"))))
      ∷ (joined (register_parts scope stages at_registers) ++ joined (gate_parts scope stages (at_gates stages)))

  pub parts-are : (stages : List Stage) → joined (soak_parts scope stages) ≡ walked_parts stages
  parts-are stages =
      ap (λ l. SignalPart (variable_signal scope clock_name 0 at_clock) ∷ ProcessPart (process_of scope (clock_item (place_behind at_clock (codes "reg clk = 0;\n")))) ∷ l)
      (joined-both (register_parts scope stages at_registers) (gate_parts scope stages (at_gates stages)))

  pub parts-few : (stages : List Stage) → length stages ≤ 4000 → AreFew (walked_parts stages)
  parts-few stages low =
      let n = length stages in
      let rest = joined (register_parts scope stages at_registers) ++ joined (gate_parts scope stages (at_gates stages)) in
      let process = process_of scope (clock_item (place_behind at_clock (codes "reg clk = 0;\n"))) in
      let inner = registers-count stages at_registers (joined (gate_parts scope stages (at_gates stages))) n n n (gates-count stages (at_gates stages)) in
      let c = count-signal (variable_signal scope clock_name 0 at_clock) (ProcessPart process ∷ rest) (n + n) n (1 + n) refl (count-process process rest (n + n) n n refl inner) in
      record {
        objects = omega (arith, c.objects_are, low);
        nodes = omega (arith, c.nodes_are, low);
        processes = omega (arith, c.processes_are, low);
        instances = omega (arith, c.instances_are);
      }
