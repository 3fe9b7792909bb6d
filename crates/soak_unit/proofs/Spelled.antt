-- The text of each number and size spells its unit (IEEE 1364-2001, clause 2 and annex A).
use Rattle.std.proofs.Common.{◌≡◌, ℕ, ◌*◌, ◌<◌, ◌≤◌, true, false, List, [], ◌∷◌, ◌++◌, length, refl, sym, ap, subst, ◌∙◌, arith, inl, append_assoc, length-append}
use Rattle.std.specs.Prelude.{codes}
use Rattle.std.specs.List.{flat_map}
use Rattle.std.specs.Fmt.{decimal}
use Rattle.std.proofs.lemmas.Fmt.{decimal_digit, length-decimal-le}
use Rattle.vf_base.specs.Base.{source_place}
use Rattle.vf_base.specs.Lists.{AllHold}
use Rattle.vf_base.specs.declared.ids.Place.{Place}
use Rattle.v_tree.specs.Tokens.{SourceToken}
use Rattle.v_tree.specs.declared.token.Mark.TheVariants.{Semicolon}
use Rattle.v_scan.specs.Texts.{Piece, spelled, ArePieces, place_behind, tokens_from, start}
use Rattle.v_parse.specs.Spelling.{SpellsEach, SpellsItem, SpellsModule}
use Rattle.v_parse.specs.Heights.{greatest, item_height}
use Rattle.soak_text.specs.declared.draws.Kind.{Kind}
use Rattle.soak_text.specs.declared.draws.Kind.TheVariants.{And, Nand, Or, Nor, Xor, Xnor}
use Rattle.soak_text.specs.declared.draws.Stage.{Stage}
use Rattle.soak_text.specs.Soak.{kind_text, register_line, wire_line, gate_line, clocked_line, gate_lines, stages_of, design_text}
use Rattle.soak_tree.specs.SoakUnits.{top_name, clock_name, register_name, register_items, gate_items, soak_items, soak_module}
use Rattle.soak_tree.specs.SoakUnits.{variable_item, clock_item, wire_item, gate_item, clocked_item}
use Rattle.soak_unit.specs.SpelledUnits.{TextsSpellUnits}
use Rattle.soak_tree.specs.Stages.{IsStage}
use Rattle.soak_tree.proofs.Drawn.{stages-are, stages-count}
use Rattle.soak_unit.proofs.Named.{top-named, clock-named, register-named}
use Rattle.soak_unit.proofs.Scanned.{space, line_end, named, marked, name-stands, semicolon-stands, spelled-both, spelled-all, pieces-both, pieces-all, tokens-both}
use Rattle.soak_unit.proofs.Lines.{variable_pieces, variable-spells, register-stands, clock_reg-stands, clock_reg-spelled, clock_pieces, clock-stands, clock-spells, wire_pieces, wire-stands}
use Rattle.soak_unit.proofs.Lines.{wire-spells, gate_pieces, gate-stands, gate-spells, clocked_pieces, clocked-stands, clocked-spells}

-- Pieces

abbrev register_pieces : Stage → List Piece
register_pieces stage = variable_pieces (register_name stage.number) stage.first

abbrev all_pieces : Stage → List Piece
all_pieces stage = wire_pieces stage ++ (gate_pieces stage ++ clocked_pieces stage)

abbrev head_pieces : List Piece
head_pieces = named (codes "module") ∷ space ∷ named top_name ∷ marked Semicolon ∷ line_end ∷ []

abbrev end_pieces : List Piece
end_pieces = named (codes "endmodule") ∷ line_end ∷ []

abbrev stage_pieces : List Stage → List Piece
stage_pieces stages = flat_map register_pieces stages ++ flat_map all_pieces stages

abbrev inner_pieces : List Stage → List Piece
inner_pieces stages = variable_pieces clock_name 0 ++ (clock_pieces ++ stage_pieces stages)

abbrev soak_pieces : List Stage → List Piece
soak_pieces stages = head_pieces ++ (inner_pieces stages ++ end_pieces)

pub register-spelled : (stage : Stage) → spelled (register_pieces stage) ≡ register_line stage
register-spelled stage = simp append_assoc

wire-spelled : (stage : Stage) → spelled (wire_pieces stage) ≡ wire_line stage
wire-spelled stage = simp append_assoc

gate-spelled : (stage : Stage) → spelled (gate_pieces stage) ≡ gate_line stage
gate-spelled stage = simp append_assoc

clocked-spelled : (stage : Stage) → spelled (clocked_pieces stage) ≡ clocked_line stage
clocked-spelled stage = simp append_assoc

gates-spelled : (stage : Stage) → spelled (all_pieces stage) ≡ gate_lines stage
gates-spelled stage =
    spelled-both (wire_pieces stage) (gate_pieces stage ++ clocked_pieces stage)
    ∙ (ap (λ bs. bs ++ spelled (gate_pieces stage ++ clocked_pieces stage)) (wire-spelled stage)
    ∙ (ap (λ bs. wire_line stage ++ bs) (spelled-both (gate_pieces stage) (clocked_pieces stage)
    ∙ (ap (λ bs. bs ++ spelled (clocked_pieces stage)) (gate-spelled stage) ∙ ap (λ bs. gate_line stage ++ bs) (clocked-spelled stage)))
    ∙ sym (append_assoc (wire_line stage) (gate_line stage) (clocked_line stage))))

stages-spelled : (stages : List Stage) → spelled (stage_pieces stages) ≡ flat_map register_line stages ++ flat_map gate_lines stages
stages-spelled stages =
    spelled-both (flat_map register_pieces stages) (flat_map all_pieces stages)
    ∙ (ap (λ bs. bs ++ spelled (flat_map all_pieces stages)) (spelled-all register_pieces register_line register-spelled stages)
    ∙ ap (λ bs. flat_map register_line stages ++ bs) (spelled-all all_pieces gate_lines gates-spelled stages))

whole-text : (number size : ℕ) → design_text number size ≡ spelled (soak_pieces (stages_of number size))
unfolding design_text
whole-text number size =
    let stages = stages_of number size in
    let after : spelled (stage_pieces stages ++ end_pieces) ≡ (flat_map register_line stages ++ flat_map gate_lines stages) ++ codes "endmodule\n" =
    spelled-both (stage_pieces stages) end_pieces ∙ ap (λ bs. bs ++ codes "endmodule\n") (stages-spelled stages) in
    ap (λ ds. codes "module top;\nreg clk = " ++ (ds ++ (codes ";\nalways #5 clk = ~clk;\n" ++ ((flat_map register_line stages ++ flat_map gate_lines stages) ++ codes "endmodule\n"))))
    (sym (decimal_digit 0 (omega arith)))
    ∙ ap (λ bs. codes "module top;\nreg clk = " ++ (decimal 0 ++ (codes ";\nalways #5 clk = ~clk;\n" ++ bs))) (sym after)

gates-stand : (stage : Stage) (rest : List ℕ) → IsStage stage → ArePieces false (all_pieces stage) rest
gates-stand stage rest is =
    pieces-both (wire_pieces stage) (gate_pieces stage ++ clocked_pieces stage) rest (wire-stands stage _ is)
    (pieces-both (gate_pieces stage) (clocked_pieces stage) rest (gate-stands stage _ is) (clocked-stands stage rest is))

inner-stand : (stages : List Stage) (rest : List ℕ) → AllHold IsStage stages → ArePieces false (inner_pieces stages) rest
inner-stand stages rest all =
    pieces-both (variable_pieces clock_name 0) (clock_pieces ++ stage_pieces stages) rest (clock_reg-stands _)
    (pieces-both clock_pieces (stage_pieces stages) rest (clock-stands _)
    (pieces-both (flat_map register_pieces stages) (flat_map all_pieces stages) rest (pieces-all IsStage register_pieces register-stands stages _ all)
    (pieces-all IsStage all_pieces gates-stand stages rest all)))

end-stands : ArePieces false end_pieces []
end-stands = (name-stands false 101 (codes "ndmodule") (10 ∷ []) refl refl refl refl refl refl, (refl, tt))

pieces-stand : (stages : List Stage) → AllHold IsStage stages → ArePieces true (soak_pieces stages) []
pieces-stand stages all = (
  name-stands true 109 (codes "odule") _ refl refl refl refl refl refl,
  (
    refl,
    (
      name-stands false 116 (codes "op") _ refl refl refl refl refl refl,
      (
        semicolon-stands false _,
        (
          refl,
          pieces-both (inner_pieces stages) end_pieces [] (inner-stand stages _ all) end-stands,
        ),
      ),
    ),
  ),
)

-- Items

each-cons : {A : Type 0} (L : A → List SourceToken → Type 0) (x : A) (xs : List A) (before after : List SourceToken) → L x before → SpellsEach L xs after → SpellsEach L (x ∷ xs) (before ++ after)
each-cons L x xs before after h t = (before, after, h, t, refl)

each-both : {A : Type 0} (L : A → List SourceToken → Type 0) (xs ys : List A) (ts us : List SourceToken) → SpellsEach L xs ts → SpellsEach L ys us → SpellsEach L (xs ++ ys) (ts ++ us)
each-both L [] ys ts us h d = subst (λ l. SpellsEach L ys (l ++ us)) (sym h) d
each-both L (x ∷ xs) ys ts us h d =
    (h.0, h.1 ++ us, h.2, each-both L xs ys h.1 us h.3 d, ap (λ l. l ++ us) h.4 ∙ append_assoc h.0 h.1 us)

tokens-line : (place : Place) (ps rest : List Piece) (bs : List ℕ) → spelled ps ≡ bs → tokens_from place (ps ++ rest) ≡ tokens_from place ps ++ tokens_from (place_behind place bs) rest
tokens-line place ps rest bs is = tokens-both place ps rest ∙ ap (λ l. tokens_from place ps ++ tokens_from (place_behind place l) rest) is

registers-spell : (stages : List Stage) (place : Place) → AllHold IsStage stages → SpellsEach SpellsItem (register_items stages place) (tokens_from place (flat_map register_pieces stages))
registers-spell [] place all = refl
registers-spell (stage ∷ stages) place all =
    let next = place_behind place (register_line stage) in
    subst (SpellsEach SpellsItem (register_items (stage ∷ stages) place)) (sym (tokens-line place (register_pieces stage) (flat_map register_pieces stages) (register_line stage) (register-spelled stage)))
    (each-cons SpellsItem (variable_item (register_name stage.number) stage.first place) (register_items stages next) (tokens_from place (register_pieces stage))
    (tokens_from next (flat_map register_pieces stages))
    (variable-spells (register_name stage.number) stage.first place (register-named stage.number (omega (arith, all.0.number)))) (registers-spell stages next all.1))

gates-spell : (stages : List Stage) (place : Place) → AllHold IsStage stages → SpellsEach SpellsItem (gate_items stages place) (tokens_from place (flat_map all_pieces stages))
gates-spell [] place all = refl
gates-spell (stage ∷ stages) place all =
    let at_gate = place_behind place (wire_line stage) in
    let at_process = place_behind at_gate (gate_line stage) in
    let next = place_behind at_process (clocked_line stage) in
    let rest = flat_map all_pieces stages in
    let last = tokens_from next rest in
    let third = tokens_from at_process (clocked_pieces stage) ++ last in
    let second = tokens_from at_gate (gate_pieces stage) ++ third in
    subst (SpellsEach SpellsItem (gate_items (stage ∷ stages) place))
    (sym (tokens-line place (wire_pieces stage) (gate_pieces stage ++ (clocked_pieces stage ++ rest)) (wire_line stage) (wire-spelled stage)
    ∙ ap (λ ts. tokens_from place (wire_pieces stage) ++ ts) (tokens-line at_gate (gate_pieces stage) (clocked_pieces stage ++ rest) (gate_line stage) (gate-spelled stage)
    ∙ ap (λ ts. tokens_from at_gate (gate_pieces stage) ++ ts) (tokens-line at_process (clocked_pieces stage) rest (clocked_line stage) (clocked-spelled stage)))))
    (each-cons SpellsItem (wire_item stage place) (gate_item stage at_gate ∷ clocked_item stage at_process ∷ gate_items stages next) (tokens_from place (wire_pieces stage)) second
    (wire-spells stage place all.0)
    (each-cons SpellsItem (gate_item stage at_gate) (clocked_item stage at_process ∷ gate_items stages next) (tokens_from at_gate (gate_pieces stage)) third (gate-spells stage at_gate all.0)
    (each-cons SpellsItem (clocked_item stage at_process) (gate_items stages next) (tokens_from at_process (clocked_pieces stage)) last (clocked-spells stage at_process all.0)
    (gates-spell stages next all.1))))

items-spell : (stages : List Stage) (place : Place) → AllHold IsStage stages → SpellsEach SpellsItem (soak_items stages place) (tokens_from place (inner_pieces stages))
items-spell stages place all =
    let at_clock = place_behind place (codes "reg clk = 0;\n") in
    let at_registers = place_behind at_clock (codes "always #5 clk = ~clk;\n") in
    let at_gates = place_behind at_registers (flat_map register_line stages) in
    let registers = register_items stages at_registers in let gates = gate_items stages at_gates in
    let third = tokens_from at_registers (flat_map register_pieces stages) ++ tokens_from at_gates (flat_map all_pieces stages) in
    let second = tokens_from at_clock clock_pieces ++ third in
    subst (SpellsEach SpellsItem (soak_items stages place))
    (sym (tokens-line place (variable_pieces clock_name 0) (clock_pieces ++ stage_pieces stages) (codes "reg clk = 0;\n") clock_reg-spelled
    ∙ ap (λ ts. tokens_from place (variable_pieces clock_name 0) ++ ts) (tokens-line at_clock clock_pieces (stage_pieces stages) (codes "always #5 clk = ~clk;\n") refl
    ∙ ap (λ ts. tokens_from at_clock clock_pieces ++ ts) (tokens-line at_registers (flat_map register_pieces stages) (flat_map all_pieces stages) (flat_map register_line stages)
    (spelled-all register_pieces register_line register-spelled stages)))))
    (each-cons SpellsItem (variable_item clock_name 0 place) (clock_item at_clock ∷ (registers ++ gates)) (tokens_from place (variable_pieces clock_name 0)) second
    (variable-spells clock_name 0 place clock-named)
    (each-cons SpellsItem (clock_item at_clock) (registers ++ gates) (tokens_from at_clock clock_pieces) third (clock-spells at_clock)
    (each-both SpellsItem registers gates (tokens_from at_registers (flat_map register_pieces stages)) (tokens_from at_gates (flat_map all_pieces stages))
    (registers-spell stages at_registers all) (gates-spell stages at_gates all))))

-- Heights

greatest-both : {A : Type 0} (height : A → ℕ) (most : ℕ) (xs ys : List A) → greatest height xs ≤ most → greatest height ys ≤ most → greatest height (xs ++ ys) ≤ most
greatest-both height most [] ys h d = d
greatest-both height most (x ∷ xs) ys h d =
    let rest : greatest height (xs ++ ys) ≤ most = greatest-both height most xs ys (omega (arith, h)) d in
    omega (arith, h, rest)

registers-low : (stages : List Stage) (place : Place) → greatest item_height (register_items stages place) ≤ 3
registers-low [] place = omega arith
registers-low (stage ∷ stages) place = let rest = registers-low stages (place_behind place (register_line stage)) in omega (arith, rest)

gates-low : (stages : List Stage) (place : Place) → greatest item_height (gate_items stages place) ≤ 3
gates-low [] place = omega arith
gates-low (stage ∷ stages) place =
    let rest = gates-low stages (place_behind (place_behind (place_behind place (wire_line stage)) (gate_line stage)) (clocked_line stage)) in omega (arith, rest)

items-low : (stages : List Stage) (place : Place) → greatest item_height (soak_items stages place) ≤ 3
items-low stages place =
    let at_registers = place_behind (place_behind place (codes "reg clk = 0;\n")) (codes "always #5 clk = ~clk;\n") in
    let rest = greatest-both item_height 3 (register_items stages at_registers) (gate_items stages (place_behind at_registers (flat_map register_line stages)))
    (registers-low stages at_registers) (gates-low stages (place_behind at_registers (flat_map register_line stages))) in
    omega (arith, rest)

-- Length

lines-short : {A : Type 0} (P : A → Type 0) (f : A → List ℕ) (most : ℕ) → ((x : A) → P x → length (f x) ≤ most) → (xs : List A) → AllHold P xs → length (flat_map f xs) ≤ most * length xs
lines-short P f most h [] all = omega arith
lines-short P f most h (x ∷ xs) all =
    let one = h x all.0 in
    let rest = lines-short P f most h xs all.1 in
    omega (arith, one, rest, length-append (f x) (flat_map f xs))

digits-short : (n : ℕ) → n < 4000 → length (decimal n) ≤ 4
digits-short n low = length-decimal-le 4 n (omega arith) (omega (arith, low)) (omega (arith, low))

kind-short : (kind : Kind) → length (kind_text kind) ≤ 4
kind-short And = omega arith
kind-short Nand = omega arith
kind-short Or = omega arith
kind-short Nor = omega arith
kind-short Xor = omega arith
kind-short Xnor = omega arith

register-short : (stage : Stage) → IsStage stage → length (register_line stage) ≤ 24
register-short stage is =
    let one = digits-short stage.number is.number in let two = digits-short stage.first (omega (arith, is.first)) in
    simp length-append (omega (arith, one, two))

gate-short : (stage : Stage) → IsStage stage → length (gate_lines stage) ≤ 128
gate-short stage is =
    let one = digits-short stage.number is.number in let two = digits-short stage.left is.left in let three = digits-short stage.right is.right in let four = kind-short stage.kind in
    simp length-append (omega (arith, one, two, three, four))

text-short : (number size : ℕ) → 1 ≤ size → size ≤ 4000 → length (design_text number size) ≤ 1048576
unfolding design_text
text-short number size low high =
    let stages = stages_of number size in let all = stages-are number size low high in
    let one = lines-short IsStage register_line 24 register-short stages all in
    let two = lines-short IsStage gate_lines 128 gate-short stages all in
    let count = stages-count number size in
    simp length-append (omega (arith, one, two, count))

-- The law

append-nil : {A : Type 0} (xs : List A) → xs ≡ xs ++ []
append-nil [] = refl
append-nil (x ∷ xs) = ap (λ ys. x ∷ ys) (append-nil xs)

module-spells : (stages : List Stage) → AllHold IsStage stages → SpellsModule (soak_module stages) (tokens_from start (soak_pieces stages))
module-spells stages all =
    let at_items = place_behind start (codes "module top;\n") in (
      top-named,
      source_place start,
      source_place (place_behind start (codes "module top")),
      source_place (place_behind at_items (spelled (inner_pieces stages))),
      [],
      [],
      tokens_from at_items (inner_pieces stages),
      refl,
      inl refl,
      items-spell stages at_items all,
      ap (λ ts. tokens_from start (named (codes "module") ∷ []) ++ (tokens_from (place_behind start (codes "module ")) (named top_name ∷ marked Semicolon ∷ []) ++ ts))
          (tokens-both at_items (inner_pieces stages) end_pieces),
    )

pub texts-spell : TextsSpellUnits
texts-spell number size low high =
    let stages = stages_of number size in let all = stages-are number size low high in
    record {
      tokens = tokens_from start (soak_pieces stages);
      are = record { short = text-short number size low high; pieces = soak_pieces stages; whole = whole-text number size; stand = pieces-stand stages all; found = refl };
      spelled = (tokens_from start (soak_pieces stages), [], module-spells stages all, refl, append-nil (tokens_from start (soak_pieces stages)));
      within = let low = items-low stages (place_behind start (codes "module top;\n")) in omega (arith, low);
    }
