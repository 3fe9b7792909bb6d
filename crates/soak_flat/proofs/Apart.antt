-- The generated unit declares each name once (IEEE 1364-2001, clause 12.5).
use Rattle.std.proofs.Common.{◌≡◌, ℕ, zero, suc, ◌+◌, ◌<◌, false, List, [], ◌∷◌, ◌++◌, map, refl, sym, ap, subst, arith}
use Rattle.std.specs.Prelude.{nat_eq, codes}
use Rattle.std.specs.List.{flat_map, range_with_len}
use Rattle.std.specs.Fmt.{decimal}
use Rattle.std.proofs.lemmas.Bool.{and_left, false_from_ne_true}
use Rattle.std.proofs.lemmas.Fmt.{decimal_injective}
use Rattle.std.proofs.lemmas.List.Concat.{flat_map-append}
use Rattle.vf_base.specs.Lists.{AllHold}
use Rattle.vf_base.specs.declared.ids.Place.{Place}
use Rattle.v_tree.specs.Trees.{same_name}
use Rattle.v_scan.specs.Texts.{place_behind, start}
use Rattle.v_comb.proofs.Tables.{same-equal}
use Rattle.v_names.specs.Names.{Declaration, item_declarations, declarations_of, first_declarations, names_declared}
use Rattle.soak_text.specs.declared.draws.Stage.{Stage}
use Rattle.soak_text.specs.Soak.{register_line, wire_line, gate_line, clocked_line, stage_of, stages_of}
use Rattle.soak_tree.specs.SoakUnits.{clock_name, register_name, wire_name, gate_name, variable_item, register_items, gate_items, soak_module}
use Rattle.soak_tree.specs.Stages.{IsStage}
use Rattle.soak_flat.proofs.Once.{all-append, Differs, Apart, apart-both, IsPlainName, names-all}

-- stages have their numbers in order, from this one
abbrev pub Numbered : ℕ → List Stage → Type 0
Numbered from [] = Unit {0}
Numbered from (stage ∷ stages) = (stage.number ≡ from) × Numbered (from + 1) stages

numbered-from : (seed size from count : ℕ) → Numbered from (map (stage_of seed size) (range_with_len from count))
numbered-from seed size from zero = tt
numbered-from seed size from (suc count) = (refl, numbered-from seed size (from + 1) count)

pub stages-numbered : (number size : ℕ) → Numbered 0 (stages_of number size)
stages-numbered number size = numbered-from number size 0 size

-- Declarations

abbrev pub register_declarations : List Stage → Place → List Declaration
register_declarations stages place = flat_map item_declarations (register_items stages place)

abbrev pub gate_declarations : List Stage → Place → List Declaration
gate_declarations stages place = flat_map item_declarations (gate_items stages place)

abbrev pub at_clock : Place
at_clock = place_behind start (codes "module top;\n")

abbrev pub at_registers : Place
at_registers = place_behind (place_behind at_clock (codes "reg clk = 0;\n")) (codes "always #5 clk = ~clk;\n")

abbrev pub at_gates : List Stage → Place
at_gates stages = place_behind at_registers (flat_map register_line stages)

abbrev pub all_declarations : List Stage → List Declaration
all_declarations stages = item_declarations (variable_item clock_name 0 at_clock) ++ (register_declarations stages at_registers ++ gate_declarations stages (at_gates stages))

pub declared-all : (stages : List Stage) → declarations_of (soak_module stages) ≡ all_declarations stages
declared-all stages =
    ap (λ l. item_declarations (variable_item clock_name 0 at_clock) ++ l) (flat_map-append item_declarations (register_items stages at_registers) (gate_items stages (at_gates stages)))

-- Names that differ

-- whether a name begins with another letter than registers do
registers-far : (letter : ℕ) (behind : List ℕ) → nat_eq letter 114 ≡ false → (stages : List Stage) (place : Place) →
    AllHold (λ (d : Declaration). same_name (letter ∷ behind) d.name ≡ false) (register_declarations stages place)
registers-far letter behind other [] place = tt
registers-far letter behind other (stage ∷ stages) place =
    (and_left (nat_eq letter 114) (same_name behind (decimal stage.number)) other, registers-far letter behind other stages (place_behind place (register_line stage)))

gates-far : (letter : ℕ) (behind : List ℕ) → nat_eq letter 119 ≡ false → nat_eq letter 103 ≡ false → (stages : List Stage) (place : Place) →
    AllHold (λ (d : Declaration). same_name (letter ∷ behind) d.name ≡ false) (gate_declarations stages place)
gates-far letter behind wire gate [] place = tt
gates-far letter behind wire gate (stage ∷ stages) place = (
  and_left (nat_eq letter 119) (same_name behind (decimal stage.number)) wire,
  (
    and_left (nat_eq letter 103) (same_name behind (decimal stage.number)) gate,
    gates-far letter behind wire gate stages (place_behind (place_behind (place_behind place (wire_line stage)) (gate_line stage)) (clocked_line stage)),
  ),
)

-- names with other numbers
pub numbers-differ : (letter one other : ℕ) → one < 4000 → other < 4000 → (one ≡ other → ⊥) → same_name (letter ∷ decimal one) (letter ∷ decimal other) ≡ false
numbers-differ letter one other low high differ =
    false_from_ne_true (same_name (letter ∷ decimal one) (letter ∷ decimal other)) (λ same.
    let whole : letter ∷ decimal one ≡ letter ∷ decimal other = same-equal (letter ∷ decimal one) (letter ∷ decimal other) same in
    let digits : decimal one ≡ decimal other = cc in
    differ (decimal_injective one other (omega (arith, low)) (omega (arith, high)) digits))

registers-later : (one from : ℕ) (stages : List Stage) (place : Place) → one < from → one < 4000 → Numbered from stages → AllHold IsStage stages →
    AllHold (λ (d : Declaration). same_name (register_name one) d.name ≡ false) (register_declarations stages place)
registers-later one from [] place less low numbered are = tt
registers-later one from (stage ∷ stages) place less low numbered are = (
  numbers-differ 114 one stage.number low are.0.number (λ e. absurd (omega (arith, e, less, numbered.0))),
  registers-later one (from + 1) stages (place_behind place (register_line stage)) (omega (arith, less)) low numbered.1 are.1,
)

wires-later : (one from : ℕ) (stages : List Stage) (place : Place) → one < from → one < 4000 → Numbered from stages → AllHold IsStage stages →
    AllHold (λ (d : Declaration). same_name (wire_name one) d.name ≡ false) (gate_declarations stages place)
wires-later one from [] place less low numbered are = tt
wires-later one from (stage ∷ stages) place less low numbered are = (
  numbers-differ 119 one stage.number low are.0.number (λ e. absurd (omega (arith, e, less, numbered.0))),
  (refl, wires-later one (from + 1) stages (place_behind (place_behind (place_behind place (wire_line stage)) (gate_line stage)) (clocked_line stage)) (omega (arith, less)) low numbered.1 are.1),
)

gates-later : (one from : ℕ) (stages : List Stage) (place : Place) → one < from → one < 4000 → Numbered from stages → AllHold IsStage stages →
    AllHold (λ (d : Declaration). same_name (gate_name one) d.name ≡ false) (gate_declarations stages place)
gates-later one from [] place less low numbered are = tt
gates-later one from (stage ∷ stages) place less low numbered are = (
  refl,
  (
    numbers-differ 103 one stage.number low are.0.number (λ e. absurd (omega (arith, e, less, numbered.0))),
    gates-later one (from + 1) stages (place_behind (place_behind (place_behind place (wire_line stage)) (gate_line stage)) (clocked_line stage)) (omega (arith, less)) low numbered.1 are.1,
  ),
)

registers-apart : (from : ℕ) (stages : List Stage) (place : Place) → Numbered from stages → AllHold IsStage stages → Apart (register_declarations stages place)
registers-apart from [] place numbered are = tt
registers-apart from (stage ∷ stages) place numbered are = (
  registers-later stage.number (from + 1) stages (place_behind place (register_line stage)) (omega (arith, numbered.0)) are.0.number numbered.1 are.1,
  registers-apart (from + 1) stages (place_behind place (register_line stage)) numbered.1 are.1,
)

gates-apart : (from : ℕ) (stages : List Stage) (place : Place) → Numbered from stages → AllHold IsStage stages → Apart (gate_declarations stages place)
gates-apart from [] place numbered are = tt
gates-apart from (stage ∷ stages) place numbered are =
    let next = place_behind (place_behind (place_behind place (wire_line stage)) (gate_line stage)) (clocked_line stage) in (
      (refl, wires-later stage.number (from + 1) stages next (omega (arith, numbered.0)) are.0.number numbered.1 are.1),
      (gates-later stage.number (from + 1) stages next (omega (arith, numbered.0)) are.0.number numbered.1 are.1, gates-apart (from + 1) stages next numbered.1 are.1),
    )

registers-cross : (stages : List Stage) (place : Place) (others : List Stage) (there : Place) →
    AllHold (λ x. AllHold (Differs x) (gate_declarations others there)) (register_declarations stages place)
registers-cross [] place others there = tt
registers-cross (stage ∷ stages) place others there =
    (gates-far 114 (decimal stage.number) refl refl others there, registers-cross stages (place_behind place (register_line stage)) others there)

-- each name of the unit is declared once
pub declared-apart : (stages : List Stage) → Numbered 0 stages → AllHold IsStage stages → Apart (all_declarations stages)
declared-apart stages numbered are = (
  all-append (λ (d : Declaration). same_name clock_name d.name ≡ false) (register_declarations stages at_registers) (gate_declarations stages (at_gates stages))
      (registers-far 99 (codes "lk") refl stages at_registers) (gates-far 99 (codes "lk") refl refl stages (at_gates stages)),
  apart-both (λ (d : Declaration). d.name) (register_declarations stages at_registers) (gate_declarations stages (at_gates stages)) (registers-apart 0 stages at_registers numbered are)
      (gates-apart 0 stages (at_gates stages) numbered are) (registers-cross stages at_registers stages (at_gates stages)),
)

-- Kinds

registers-plain : (stages : List Stage) (place : Place) → AllHold IsPlainName (register_declarations stages place)
registers-plain [] place = tt
registers-plain (stage ∷ stages) place = (record { no_port = refl; no_parameter = refl }, registers-plain stages (place_behind place (register_line stage)))

gates-plain : (stages : List Stage) (place : Place) → AllHold IsPlainName (gate_declarations stages place)
gates-plain [] place = tt
gates-plain (stage ∷ stages) place = (
  record { no_port = refl; no_parameter = refl },
  (
    record { no_port = refl; no_parameter = refl },
    gates-plain stages (place_behind (place_behind (place_behind place (wire_line stage)) (gate_line stage)) (clocked_line stage)),
  ),
)

pub declared-plain : (stages : List Stage) → AllHold IsPlainName (all_declarations stages)
declared-plain stages = (
  record { no_port = refl; no_parameter = refl },
  all-append IsPlainName (register_declarations stages at_registers) (gate_declarations stages (at_gates stages))
      (registers-plain stages at_registers) (gates-plain stages (at_gates stages)),
)

-- the names of the unit are what it declares
pub names-declared : (stages : List Stage) → Numbered 0 stages → AllHold IsStage stages → names_declared (soak_module stages) ≡ all_declarations stages
names-declared stages numbered are =
    subst (λ ds. first_declarations ds [] ds ≡ all_declarations stages) (sym (declared-all stages))
    (names-all (all_declarations stages) (declared-apart stages numbered are) (declared-plain stages))
