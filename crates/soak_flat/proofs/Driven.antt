-- What the parts of the generated unit do: each register drives itself, each wire has its gate, and no bit has two drivers (IEEE 1364-2001, clauses 6.1 and 7).
use Rattle.std.proofs.Common.{◌≡◌, ℕ, zero, suc, ◌+◌, ◌<◌, ◌≤◌, Bool, true, false, ◌&&◌, List, [], ◌∷◌, ◌++◌, length, map, filter, cond, Some, None, refl, ap, ◌∙◌, arith, inl, inr}
use Rattle.std.specs.Prelude.{nat_eq, not, codes}
use Rattle.std.specs.List.{flat_map}
use Rattle.std.specs.Fmt.{decimal}
use Rattle.std.proofs.lemmas.Bool.{and_left, cases_eq}
use Rattle.std.proofs.lemmas.List.Elements.{filter-append}
use Rattle.vf_base.specs.Base.{SourcePlace}
use Rattle.vf_base.specs.Lists.{AllHold, joined, map_numbered}
use Rattle.vf_base.specs.declared.ids.Place.{Place}
use Rattle.v_tree.specs.Trees.{Identifier, same_name, has_name}
use Rattle.v_scan.specs.Texts.{place_behind}
use Rattle.v_comb.proofs.Tables.{equal-same}
use Rattle.v_names.specs.Scopes.{Scope, range_width}
use Rattle.v_names.specs.SizedTrees.{SizedName, no_sized, more_sized}
use Rattle.v_ports.specs.Pieces.{second_driver}
use Rattle.v_elab.specs.Parts.{Signal, Part, SignalPart, MemoryPart, AssignPart, GatePart, ProcessPart, InstancePart, refusal_or}
use Rattle.v_elab.specs.Drivers.{signals_of, signal_if, signal_named, joined_into, up_or, outermost_within, outermost, is_unjoined, GateFunction, AssignFunction, WalkedNode, Behaviour, IsNode, IsProcess}
use Rattle.v_elab.specs.Drivers.{process_behaviour, part_behaviour, behaviours_of, nodes_of, processes_of, block_signals, is_driving, by_depth, driving_variables, ObjectDrive, drive_if}
use Rattle.v_elab.specs.Drivers.{drives_from, object_drives, run_of, taken_bits, refusal_of, second_variable, signal_two_drivers, first_two_drivers, two_drivers}
use Rattle.v_elab.specs.Connections.{most_depth}
use Rattle.soak_text.specs.declared.draws.Stage.{Stage}
use Rattle.soak_text.specs.Soak.{register_line, wire_line, gate_line, clocked_line}
use Rattle.soak_tree.specs.SoakUnits.{clock_name, register_name, wire_name, gate_name, gate_kind}
use Rattle.soak_tree.specs.Stages.{IsStage}
use Rattle.soak_flat.proofs.Once.{all-both, all-append, ApartBy, of_that_name, once-of-name}
use Rattle.soak_flat.proofs.Apart.{Numbered, at_clock, at_registers, at_gates, numbers-differ}
use Rattle.soak_flat.proofs.Parts.{IsWithin, variable_signal, wire_signal, wire_drive, register_parts, gate_parts, walked_parts}

-- Lists

pub filter-same : {A : Type 0} (p q : A → Bool) → ((x : A) → p x ≡ q x) → (xs : List A) → filter p xs ≡ filter q xs
filter-same p q same [] = refl
filter-same p q same (x ∷ xs) = ap (λ b. cond b (x ∷ filter p xs) (filter p xs)) (same x) ∙ ap (λ l. cond (q x) (x ∷ l) l) (filter-same p q same xs)

pub filter-all : {A : Type 0} (p : A → Bool) (xs : List A) → AllHold (λ x. p x ≡ true) xs → filter p xs ≡ xs
filter-all p [] all = refl
filter-all p (x ∷ xs) all = ap (λ b. cond b (x ∷ filter p xs) (filter p xs)) all.0 ∙ ap (λ l. x ∷ l) (filter-all p xs all.1)

-- Behaviours

-- what a part does by itself
abbrev pub plain : Part → List Behaviour
plain (SignalPart signal) = []
plain (MemoryPart memory) = []
plain (AssignPart drives value) = IsNode (record { name = []; drives = drives; function = AssignFunction value }) ∷ []
plain (GatePart name kind drives path terminals) = IsNode (record { name = name; drives = drives; function = GateFunction kind path terminals }) ∷ []
plain (ProcessPart process) = IsProcess process ∷ []
plain InstancePart = []

-- a part that is no block of the form of a node
abbrev pub NoTargets : Part → Type 0
NoTargets (ProcessPart process) = process.targets ≡ None
NoTargets _ = Unit {0}

part-plain : (all : List Part) (number : ℕ) (part : Part) → NoTargets part → part_behaviour all number part ≡ plain part
part-plain all number (SignalPart signal) h = refl
part-plain all number (MemoryPart memory) h = refl
part-plain all number (AssignPart drives value) h = refl
part-plain all number (GatePart name kind drives path terminals) h = refl
part-plain all number (ProcessPart process) h = ap (λ targets. process_behaviour all number process targets ∷ []) h
part-plain all number InstancePart h = refl

behaviours-plain : (all : List Part) (number : ℕ) (parts : List Part) → AllHold NoTargets parts → joined (map_numbered (part_behaviour all) number parts) ≡ flat_map plain parts
behaviours-plain all number [] h = refl
behaviours-plain all number (part ∷ parts) h =
    ap (λ l. l ++ joined (map_numbered (part_behaviour all) (number + 1) parts)) (part-plain all number part h.0) ∙ ap (λ l. plain part ++ l) (behaviours-plain all (number + 1) parts h.1)

module _ (scope : Scope) where
  abbrev pub register_signals : List Stage → Place → List Signal
  register_signals [] place = []
  register_signals (stage ∷ stages) place = variable_signal scope (register_name stage.number) stage.first place ∷ register_signals stages (place_behind place (register_line stage))

  abbrev pub next_stage : Stage → Place → Place
  next_stage stage place = place_behind (place_behind (place_behind place (wire_line stage)) (gate_line stage)) (clocked_line stage)

  abbrev pub wire_signals : List Stage → Place → List Signal
  wire_signals [] place = []
  wire_signals (stage ∷ stages) place = wire_signal scope stage place ∷ wire_signals stages (next_stage stage place)

  abbrev pub gate_node : Stage → Place → WalkedNode
  gate_node stage place = record {
    name = gate_name stage.number;
    drives = wire_drive scope stage place ∷ [];
    function = GateFunction (gate_kind stage.kind) [] (more_sized (SizedName 1 false (register_name stage.left)) (more_sized (SizedName 1 false (register_name stage.right)) no_sized));
  }

  abbrev pub gate_nodes : List Stage → Place → List WalkedNode
  gate_nodes [] place = []
  gate_nodes (stage ∷ stages) place = gate_node stage (place_behind place (wire_line stage)) ∷ gate_nodes stages (next_stage stage place)

  registers-free : (stages : List Stage) (place : Place) → AllHold NoTargets (joined (register_parts scope stages place))
  registers-free [] place = tt
  registers-free (stage ∷ stages) place = (tt, registers-free stages (place_behind place (register_line stage)))

  gates-free : (stages : List Stage) (place : Place) → AllHold NoTargets (joined (gate_parts scope stages place))
  gates-free [] place = tt
  gates-free (stage ∷ stages) place = (tt, (tt, (refl, gates-free stages (next_stage stage place))))

  parts-plain : (stages : List Stage) → behaviours_of (walked_parts scope stages) ≡ flat_map plain (walked_parts scope stages)
  parts-plain stages =
      behaviours-plain (walked_parts scope stages) 0 (walked_parts scope stages) (
        tt,
        (
          refl,
          all-append NoTargets (joined (register_parts scope stages at_registers)) (joined (gate_parts scope stages (at_gates stages))) (registers-free stages at_registers)
              (gates-free stages (at_gates stages)),
        ),
      )

  registers-no_nodes : (stages : List Stage) (place : Place) (rest : List Part) → nodes_of (flat_map plain (joined (register_parts scope stages place) ++ rest)) ≡ nodes_of (flat_map plain rest)
  registers-no_nodes [] place rest = refl
  registers-no_nodes (stage ∷ stages) place rest = registers-no_nodes stages (place_behind place (register_line stage)) rest

  gates-nodes : (stages : List Stage) (place : Place) → nodes_of (flat_map plain (joined (gate_parts scope stages place))) ≡ gate_nodes stages place
  gates-nodes [] place = refl
  gates-nodes (stage ∷ stages) place = ap (λ l. gate_node stage (place_behind place (wire_line stage)) ∷ l) (gates-nodes stages (next_stage stage place))

  -- the nodes of the unit are its gates
  pub nodes-are : (stages : List Stage) → nodes_of (behaviours_of (walked_parts scope stages)) ≡ gate_nodes stages (at_gates stages)
  nodes-are stages =
      ap nodes_of (parts-plain stages)
      ∙ (registers-no_nodes stages at_registers (joined (gate_parts scope stages (at_gates stages))) ∙ gates-nodes stages (at_gates stages))

  registers-no_processes : (stages : List Stage) (place : Place) (rest : List Part) →
      processes_of (flat_map plain (joined (register_parts scope stages place) ++ rest)) ≡ processes_of (flat_map plain rest)
  registers-no_processes [] place rest = refl
  registers-no_processes (stage ∷ stages) place rest = registers-no_processes stages (place_behind place (register_line stage)) rest

  gates-processes : (stages : List Stage) (place : Place) → length (processes_of (flat_map plain (joined (gate_parts scope stages place)))) ≡ length stages
  gates-processes [] place = refl
  gates-processes (stage ∷ stages) place = ap (λ n. suc n) (gates-processes stages (next_stage stage place))

  pub processes-count : (stages : List Stage) → length (processes_of (behaviours_of (walked_parts scope stages))) ≡ suc (length stages)
  processes-count stages =
      ap (λ l. length (processes_of l)) (parts-plain stages)
      ∙ ap (λ n. suc n) (ap length (registers-no_processes stages at_registers (joined (gate_parts scope stages (at_gates stages)))) ∙ gates-processes stages (at_gates stages))

  pub nodes-count : (stages : List Stage) (place : Place) → length (gate_nodes stages place) ≡ length stages
  nodes-count [] place = refl
  nodes-count (stage ∷ stages) place = ap (λ n. suc n) (nodes-count stages (next_stage stage place))

  -- Signals

  registers-signals : (stages : List Stage) (place : Place) (rest : List Part) → signals_of (joined (register_parts scope stages place) ++ rest) ≡ register_signals stages place ++ signals_of rest
  registers-signals [] place rest = refl
  registers-signals (stage ∷ stages) place rest =
      ap (λ l. variable_signal scope (register_name stage.number) stage.first place ∷ l) (registers-signals stages (place_behind place (register_line stage)) rest)

  gates-signals : (stages : List Stage) (place : Place) → signals_of (joined (gate_parts scope stages place)) ≡ wire_signals stages place
  gates-signals [] place = refl
  gates-signals (stage ∷ stages) place = ap (λ l. wire_signal scope stage place ∷ l) (gates-signals stages (next_stage stage place))

  abbrev pub clock_signal : Signal
  clock_signal = variable_signal scope clock_name 0 at_clock

  abbrev pub all_signals : List Stage → List Signal
  all_signals stages = clock_signal ∷ (register_signals stages at_registers ++ wire_signals stages (at_gates stages))

  pub signals-are : (stages : List Stage) → signals_of (walked_parts scope stages) ≡ all_signals stages
  signals-are stages =
      ap (λ l. clock_signal ∷ l) (registers-signals stages at_registers (joined (gate_parts scope stages (at_gates stages)))
      ∙ ap (λ l. register_signals stages at_registers ++ l) (gates-signals stages (at_gates stages)))

  -- what holds of each register, and of each wire
  pub each-register : (P : Signal → Type 0) → ((stage : Stage) (place : Place) → P (variable_signal scope (register_name stage.number) stage.first place)) → (stages : List Stage) (place : Place) →
      AllHold P (register_signals stages place)
  each-register P h [] place = tt
  each-register P h (stage ∷ stages) place = (h stage place, each-register P h stages (place_behind place (register_line stage)))

  pub each-wire : (P : Signal → Type 0) → ((stage : Stage) (place : Place) → P (wire_signal scope stage place)) → (stages : List Stage) (place : Place) → AllHold P (wire_signals stages place)
  each-wire P h [] place = tt
  each-wire P h (stage ∷ stages) place = (h stage place, each-wire P h stages (next_stage stage place))

  pub each-signal : (P : Signal → Type 0) → P clock_signal → ((stage : Stage) (place : Place) → P (variable_signal scope (register_name stage.number) stage.first place)) →
      ((stage : Stage) (place : Place) → P (wire_signal scope stage place)) → (stages : List Stage) → AllHold P (all_signals stages)
  each-signal P c r w stages =
      (c, all-append P (register_signals stages at_registers) (wire_signals stages (at_gates stages)) (each-register P r stages at_registers) (each-wire P w stages (at_gates stages)))

-- Outermost names

joined-none : (signals : List Signal) (name : Identifier) → AllHold (λ (s : Signal). s.joined ≡ None) signals → joined_into (signal_named signals name) ≡ None
joined-none [] name alone = refl
joined-none (signal ∷ signals) name alone =
    elim (same_name signal.name name) as (λ b. joined_into (signal_if b signal (signal_named signals name)) ≡ None) [ true ↦ alone.0 | false ↦ joined-none signals name alone.1 ]

outer-within : (levels : ℕ) (signals : List Signal) (name : Identifier) → AllHold (λ (s : Signal). s.joined ≡ None) signals → outermost_within levels signals name ≡ name
outer-within zero signals name alone = refl
outer-within (suc levels) signals name alone = ap (λ o. up_or (outermost_within levels signals) name o) (joined-none signals name alone)

abbrev pub signal_name : Signal → Identifier
signal_name signal = signal.name

module _ (scope : Scope) (stages : List Stage) (numbered : Numbered 0 stages) (are : AllHold IsStage stages) (within : AllHold (IsWithin (length stages)) stages) where
  abbrev pub signals : List Signal
  signals = all_signals scope stages

  abbrev pub nodes : List WalkedNode
  nodes = gate_nodes scope stages (at_gates stages)

  abbrev pub registers : List Signal
  registers = register_signals scope stages at_registers

  abbrev pub wires : List Signal
  wires = wire_signals scope stages (at_gates stages)

  pub outer : (name : Identifier) → outermost signals name ≡ name
  outer name = outer-within most_depth signals name (each-signal scope (λ (s : Signal). s.joined ≡ None) refl (λ stage place. refl) (λ stage place. refl) stages)

  -- Variables that drive

  no-blocks : (some : List Stage) (place : Place) → flat_map block_signals (gate_nodes scope some place) ≡ []
  no-blocks [] place = refl
  no-blocks (stage ∷ some) place = no-blocks some (next_stage scope stage place)

  abbrev simple : Identifier → Signal → Bool
  simple object signal = (signal.is_reg && true) && same_name signal.name object

  driving-simple : (object : Identifier) → driving_variables signals nodes object ≡ by_depth (filter (simple object) signals)
  driving-simple object =
      ap by_depth (filter-same (λ (s : Signal). is_driving nodes s && same_name (outermost signals s.name) object) (simple object)
      (λ s. ap (λ names. (s.is_reg && not (has_name names s.name)) && same_name (outermost signals s.name) object) (no-blocks stages (at_gates stages))
      ∙ ap (λ n. (s.is_reg && true) && same_name n object) (outer s.name)) signals)

  wires-drive_none : (object : Identifier) (some : List Stage) (place : Place) → filter (simple object) (wire_signals scope some place) ≡ []
  wires-drive_none object [] place = refl
  wires-drive_none object (stage ∷ some) place = wires-drive_none object some (next_stage scope stage place)

  registers-far : (letter : ℕ) (behind : List ℕ) → nat_eq 114 letter ≡ false → (some : List Stage) (place : Place) → filter (simple (letter ∷ behind)) (register_signals scope some place) ≡ []
  registers-far letter behind other [] place = refl
  registers-far letter behind other (stage ∷ some) place =
      let next = register_signals scope some (place_behind place (register_line stage)) in
      let here = variable_signal scope (register_name stage.number) stage.first place in
      ap (λ b. cond b (here ∷ filter (simple (letter ∷ behind)) next) (filter (simple (letter ∷ behind)) next)) (and_left (nat_eq 114 letter) (same_name (decimal stage.number) behind) other)
      ∙ registers-far letter behind other some (place_behind place (register_line stage))

  both-filter : (object : Identifier) → filter (simple object) (registers ++ wires) ≡ filter (simple object) registers ++ []
  both-filter object = filter-append (simple object) registers wires ∙ ap (λ l. filter (simple object) registers ++ l) (wires-drive_none object stages (at_gates stages))

  pub clock-drives : driving_variables signals nodes clock_name ≡ clock_signal scope ∷ []
  clock-drives =
      driving-simple clock_name
      ∙ ap (λ l. by_depth (clock_signal scope ∷ l)) (both-filter clock_name ∙ ap (λ l. l ++ []) (registers-far 99 (codes "lk") refl stages at_registers))

  pub wire-driven : (number : ℕ) → driving_variables signals nodes (wire_name number) ≡ []
  wire-driven number =
      driving-simple (wire_name number)
      ∙ ap by_depth (both-filter (wire_name number) ∙ ap (λ l. l ++ []) (registers-far 119 (decimal number) refl stages at_registers))

  registers-later : (one from : ℕ) (some : List Stage) (place : Place) → one < from → one < 4000 → Numbered from some → AllHold IsStage some →
      AllHold (λ (s : Signal). same_name (register_name one) s.name ≡ false) (register_signals scope some place)
  registers-later one from [] place less low numbered are = tt
  registers-later one from (stage ∷ some) place less low numbered are = (
    numbers-differ 114 one stage.number low are.0.number (λ e. absurd (omega (arith, e, less, numbered.0))),
    registers-later one (from + 1) some (place_behind place (register_line stage)) (omega (arith, less)) low numbered.1 are.1,
  )

  pub registers-apart : (from : ℕ) (some : List Stage) (place : Place) → Numbered from some → AllHold IsStage some → ApartBy signal_name (register_signals scope some place)
  registers-apart from [] place numbered are = tt
  registers-apart from (stage ∷ some) place numbered are = (
    registers-later stage.number (from + 1) some (place_behind place (register_line stage)) (omega (arith, numbered.0)) are.0.number numbered.1 are.1,
    registers-apart (from + 1) some (place_behind place (register_line stage)) numbered.1 are.1,
  )

  registers-filter : (object : Identifier) (some : List Stage) (place : Place) → filter (simple object) (register_signals scope some place) ≡ of_that_name signal_name object (register_signals scope some place)
  registers-filter object [] place = refl
  registers-filter object (stage ∷ some) place =
      ap (λ l. cond (same_name (register_name stage.number) object) (variable_signal scope (register_name stage.number) stage.first place ∷ l) l)
      (registers-filter object some (place_behind place (register_line stage)))

  -- each register drives itself alone
  pub registers-drive : AllHold (λ (s : Signal). driving_variables signals nodes s.name ≡ s ∷ []) registers
  registers-drive =
      all-both (λ (s : Signal). of_that_name signal_name s.name registers ≡ s ∷ [] → driving_variables signals nodes s.name ≡ s ∷ []) (λ (s : Signal). of_that_name signal_name s.name registers ≡ s ∷ [])
      (λ (s : Signal). driving_variables signals nodes s.name ≡ s ∷ []) (λ s h once. h once) registers
      (each-register scope (λ (s : Signal). of_that_name signal_name s.name registers ≡ s ∷ [] → driving_variables signals nodes s.name ≡ s ∷ [])
      (λ stage place once.
      driving-simple (register_name stage.number)
      ∙ ap by_depth (both-filter (register_name stage.number) ∙ ap (λ l. l ++ []) (registers-filter (register_name stage.number) stages at_registers ∙ once))) stages at_registers)
      (once-of-name signal_name registers (registers-apart 0 stages at_registers numbered are))

  -- Nodes that drive

  far-drives : (letter : ℕ) (behind : List ℕ) → nat_eq 119 letter ≡ false → (number : ℕ) (some : List Stage) (place : Place) →
      drives_from signals (letter ∷ behind) number (gate_nodes scope some place) ≡ []
  far-drives letter behind other number [] place = refl
  far-drives letter behind other number (stage ∷ some) place =
      let after = drives_from signals (letter ∷ behind) (number + 1) (gate_nodes scope some (next_stage scope stage place)) in
      let drive = wire_drive scope stage (place_behind place (wire_line stage)) in
      ap (λ n. drive_if (same_name n (letter ∷ behind)) (record { node = number; offset = 0; places = drive.places; place = drive.place }) [] ++ after) (outer (wire_name stage.number))
      ∙ (ap (λ b. drive_if b (record { node = number; offset = 0; places = drive.places; place = drive.place }) [] ++ after) (and_left (nat_eq 119 letter) (same_name (decimal stage.number) behind) other)
      ∙ far-drives letter behind other (number + 1) some (next_stage scope stage place))

  later-drives : (one from number : ℕ) (some : List Stage) (place : Place) → one < from → one < 4000 → Numbered from some → AllHold IsStage some →
      drives_from signals (wire_name one) number (gate_nodes scope some place) ≡ []
  later-drives one from number [] place less low numbered are = refl
  later-drives one from number (stage ∷ some) place less low numbered are =
      let after = drives_from signals (wire_name one) (number + 1) (gate_nodes scope some (next_stage scope stage place)) in
      let drive = wire_drive scope stage (place_behind place (wire_line stage)) in
      ap (λ n. drive_if (same_name n (wire_name one)) (record { node = number; offset = 0; places = drive.places; place = drive.place }) [] ++ after) (outer (wire_name stage.number))
      ∙ (ap (λ b. drive_if b (record { node = number; offset = 0; places = drive.places; place = drive.place }) [] ++ after)
      (numbers-differ 119 stage.number one are.0.number low (λ e. absurd (omega (arith, e, less, numbered.0))))
      ∙ later-drives one (from + 1) (number + 1) some (next_stage scope stage place) (omega (arith, less)) low numbered.1 are.1)

  -- one node drives a wire, that of its number
  abbrev pub DrivenBy : Identifier → ℕ → List ObjectDrive → Type 0
  DrivenBy name number drives = (place : SourcePlace) × (drives ≡ record { node = number; offset = 0; places = Some 0 ∷ []; place = place } ∷ [])

  wire-drives : (one from : ℕ) (some : List Stage) (place : Place) → from ≤ one → one < from + length some → one < 4000 → Numbered from some → AllHold IsStage some →
      DrivenBy (wire_name one) one (drives_from signals (wire_name one) from (gate_nodes scope some place))
  wire-drives one from [] place low high few numbered are = absurd (omega (arith, low, high))
  wire-drives one from (stage ∷ some) place low high few numbered are =
      let next = next_stage scope stage place in
      let after = drives_from signals (wire_name one) (from + 1) (gate_nodes scope some next) in
      let drive = wire_drive scope stage (place_behind place (wire_line stage)) in
      let found : ObjectDrive = record { node = from; offset = 0; places = Some 0 ∷ []; place = drive.place } in
      let renamed = ap (λ n. drive_if (same_name n (wire_name one)) found [] ++ after) (outer (wire_name stage.number)) in
      elim (cases_eq stage.number one) [
        | inl same ↦
            let none = later-drives one (from + 1) (from + 1) some next (omega (arith, same, numbered.0)) few numbered.1 are.1 in
            let index : from ≡ one = omega (arith, same, numbered.0) in (
              drive.place,
              renamed ∙ (ap (λ b. drive_if b found [] ++ after) (equal-same (wire_name stage.number) (wire_name one) (ap wire_name same))
                  ∙ (ap (λ l. found ∷ l) none ∙ ap (λ (k : ℕ). record { node = k; offset = 0; places = Some 0 ∷ []; place = drive.place } ∷ []) index)),
            )
        | inr other ↦
            let rest = wire-drives one (from + 1) some next (above from stage.number one numbered.0 low other) (omega (arith, high)) few numbered.1 are.1 in
            (rest.0, renamed ∙ (ap (λ b. drive_if b found [] ++ after) (numbers-differ 119 stage.number one are.0.number few other) ∙ rest.1))
      ]
    where
      above : (from here number : ℕ) → here ≡ from → from ≤ number → (here ≡ number → ⊥) → from + 1 ≤ number
      above from here number e low other = grind arith

  -- what is known of the wire of a number
  pub record IsWired (number : ℕ) : Type 0 where
    pub none : driving_variables signals nodes (wire_name number) ≡ []
    pub drives : DrivenBy (wire_name number) number (object_drives signals nodes (wire_name number))

  pub wires-wired : AllHold (λ (stage : Stage). IsWired stage.number) stages
  wires-wired =
      all-both IsStage (IsWithin (length stages)) (λ (stage : Stage). IsWired stage.number)
      (λ stage is in_range. record {
        none = wire-driven stage.number;
        drives = wire-drives stage.number 0 stages (at_gates stages) (omega arith) (omega (arith, in_range.number)) is.number numbered are;
      }) stages are within

  pub register-undriven : (number : ℕ) → object_drives signals nodes (register_name number) ≡ []
  register-undriven number = far-drives 114 (decimal number) refl 0 stages (at_gates stages)

  pub clock-undriven : object_drives signals nodes clock_name ≡ []
  clock-undriven = far-drives 99 (codes "lk") refl 0 stages (at_gates stages)

  -- Two drivers

  variable-alone : (s : Signal) → driving_variables signals nodes s.name ≡ s ∷ [] → object_drives signals nodes s.name ≡ [] → signal_two_drivers signals nodes s ≡ None
  variable-alone s drives undriven =
      ap (λ d. refusal_or (second_variable d) (refusal_of (second_driver (taken_bits (range_width s.range) d) (map run_of (object_drives signals nodes s.name))))) drives
      ∙ ap (λ o. refusal_or None (refusal_of (second_driver (taken_bits (range_width s.range) (s ∷ [])) (map run_of o)))) undriven

  wire-alone : (s : Signal) (number : ℕ) → s.name ≡ wire_name number → IsWired number → signal_two_drivers signals nodes s ≡ None
  wire-alone s number named wired =
      ap (λ name. refusal_or (second_variable (driving_variables signals nodes name))
      (refusal_of (second_driver (taken_bits (range_width s.range) (driving_variables signals nodes name)) (map run_of (object_drives signals nodes name))))) named
      ∙ (ap (λ d. refusal_or (second_variable d) (refusal_of (second_driver (taken_bits (range_width s.range) d) (map run_of (object_drives signals nodes (wire_name number)))))) wired.none
      ∙ ap (λ o. refusal_or None (refusal_of (second_driver [] (map run_of o)))) wired.drives.1)

  wires-alone : (some : List Stage) (place : Place) → AllHold (λ (stage : Stage). IsWired stage.number) some →
      AllHold (λ (s : Signal). signal_two_drivers signals nodes s ≡ None) (wire_signals scope some place)
  wires-alone [] place wired = tt
  wires-alone (stage ∷ some) place wired = (wire-alone (wire_signal scope stage place) stage.number refl wired.0, wires-alone some (next_stage scope stage place) wired.1)

  first-none : (some : List Signal) → AllHold (λ (s : Signal). signal_two_drivers signals nodes s ≡ None) some → first_two_drivers signals nodes some ≡ None
  first-none [] h = refl
  first-none (s ∷ some) h = ap (λ o. refusal_or o (first_two_drivers signals nodes some)) h.0 ∙ first-none some h.1

  -- no bit has two drivers
  pub one-driver : two_drivers signals nodes ≡ None
  one-driver =
      let registers_alone : AllHold (λ (s : Signal). signal_two_drivers signals nodes s ≡ None) registers =
      all-both (λ (s : Signal). object_drives signals nodes s.name ≡ []) (λ (s : Signal). driving_variables signals nodes s.name ≡ s ∷ []) (λ (s : Signal). signal_two_drivers signals nodes s ≡ None)
      (λ s undriven drives. variable-alone s drives undriven) registers
      (each-register scope (λ (s : Signal). object_drives signals nodes s.name ≡ []) (λ stage place. register-undriven stage.number) stages at_registers) registers-drive in
      ap (first_two_drivers signals nodes) (filter-all is_unjoined signals (each-signal scope (λ (s : Signal). is_unjoined s ≡ true) refl (λ stage place. refl) (λ stage place. refl) stages))
      ∙ first-none signals (
        variable-alone (clock_signal scope) clock-drives clock-undriven,
        all-append (λ (s : Signal). signal_two_drivers signals nodes s ≡ None) registers wires registers_alone (wires-alone stages (at_gates stages) wires-wired),
      )
