-- The generated design and its plan: what is drawn for each stage, and the bytes of both texts (the generator is this program's own; gates by
-- IEEE 1364-2001, clause 7).
use Rattle.std.specs.Prelude.{ℕ, zero, suc, ◌+◌, ◌-◌, ◌*◌, ◌/◌, ◌%◌, ◌^◌, List, [], ◌∷◌, ◌++◌, codes, drop, map, slice_index_or}
use Rattle.std.specs.Fmt.{decimal}
use Rattle.std.specs.List.{flat_map, range_with_len}
use Rattle.soak_text.specs.declared.draws.Kind.{Kind}
use Rattle.soak_text.specs.declared.draws.Kind.TheVariants.{And, Nand, Or, Nor, Xor, Xnor}
use Rattle.soak_text.specs.declared.draws.Stage.{Stage}

-- The draws

-- the state of a linear congruential generator, from a seed on, after so many draws
abbrev pub state : ℕ → ℕ → ℕ
state seed zero = seed
state seed (suc draws) = (1664525 * state seed draws + 1013904223) % 2 ^ 32

-- the draw of a number, from 1 on: the upper half of the state after it
abbrev pub draw : ℕ → ℕ → ℕ
draw seed number = state seed number / 65536

-- the kinds that are drawn
abbrev pub kinds : List Kind
kinds = And ∷ Nand ∷ Or ∷ Nor ∷ Xor ∷ Xnor ∷ []

-- the kind that a draw stands for
abbrev pub kind_of : ℕ → Kind
kind_of drawn = slice_index_or kinds (drawn % 6) And

-- the stage of a number: four draws are taken for each, in order
abbrev pub stage_of : ℕ → ℕ → ℕ → Stage
stage_of seed size number = record {
  number = number;
  kind = kind_of (draw seed (4 * number + 1));
  left = draw seed (4 * number + 2) % size;
  right = draw seed (4 * number + 3) % size;
  first = draw seed (4 * number + 4) % 2;
}

-- the stages of a design of a size, numbered from 0
abbrev pub stages_of : ℕ → ℕ → List Stage
stages_of seed size = map (stage_of seed size) (range_with_len 0 size)

-- The design

-- the word of a kind of gates
abbrev pub kind_text : Kind → List ℕ
kind_text And = codes "and"
kind_text Nand = codes "nand"
kind_text Or = codes "or"
kind_text Nor = codes "nor"
kind_text Xor = codes "xor"
kind_text Xnor = codes "xnor"

-- the line that declares a stage's register, with its first value
abbrev pub register_line : Stage → List ℕ
register_line stage = codes "reg r" ++ decimal stage.number ++ codes " = " ++ decimal stage.first ++ codes ";\n"

-- the line of the wire that a stage's gate drives
abbrev pub wire_line : Stage → List ℕ
wire_line stage = codes "wire w" ++ decimal stage.number ++ codes ";\n"

-- the line of a stage's gate over two registers
abbrev pub gate_line : Stage → List ℕ
gate_line stage =
    kind_text stage.kind ++ codes " g" ++ decimal stage.number ++ codes "(w" ++ decimal stage.number ++ codes ", r" ++ decimal stage.left ++ codes ", r" ++ decimal stage.right ++ codes ");\n"

-- the line by which a stage's register takes the wire's value over at the clock's rising edge
abbrev pub clocked_line : Stage → List ℕ
clocked_line stage = codes "always @(posedge clk) r" ++ decimal stage.number ++ codes " <= w" ++ decimal stage.number ++ codes ";\n"

-- the three lines of a stage's gate
abbrev pub gate_lines : Stage → List ℕ
gate_lines stage = wire_line stage ++ gate_line stage ++ clocked_line stage

-- the design of a number and a size: its clock, the registers of all stages, then the gates of all stages
unfoldable pub design_text : ℕ → ℕ → List ℕ
design_text number size =
    codes "module top;\nreg clk = 0;\nalways #5 clk = ~clk;\n" ++ flat_map register_line (stages_of number size) ++ flat_map gate_lines (stages_of number size) ++ codes "endmodule\n"

-- The plan

-- the line that watches a register
abbrev pub watch_line : ℕ → List ℕ
watch_line register = codes "watch r" ++ decimal register ++ codes "\n"

-- the last 8 registers, or all where there are fewer
abbrev pub watched : ℕ → List ℕ
watched size = drop (size - 8) (range_with_len 0 size)

-- the plan of a size: its end, the watched registers, the strobes, and all faults
unfoldable pub plan_text : ℕ → List ℕ
plan_text size = codes "end 320\n" ++ flat_map watch_line (watched size) ++ codes "strobe 8 10 318\nfaults all\n"
