use Rattle.std.proofs.Common.{rules, ◌≡◌, ℕ, ◌+◌, ◌<◌, ◌≤◌, ap, sym, subst, ◌∙◌, take, length, arith}
use Rattle.std.proofs.lemmas.List.{take_all}
use Rattle.std.specs.Prelude.{fold}
use Rattle.vf_base.specs.Base.{node_number}
use Rattle.four_value.specs.Values.{bit_at}
use Rattle.v_design.specs.Plain.{expression_of, expressions_of}
use Rattle.v_design.specs.Designs.{forced_terminal}
use Rattle.v_design.specs.Assignments.{value_at, label_values}
use Rattle.v_design.specs.Reads.{named_in}
use Rattle.v_design.specs.Sized.{IsSized, levels_of, levels_of_parts}
use Rattle.v_design.specs.Views.{machine_of}
use Rattle.expr_eval.specs.Operands.{AreThere}
use Rattle.node_eval.specs.Gates.{gate_start, gate_step, gate_end, terminal_bits, gate-more, gate_by_steps, terminal_sized, terminal_there, terminal_levels}
use Rattle.node_eval.proofs.gate.gate_output.Goals as goal

pub eval-requires-clause-sized : goal.eval-requires-clause-sized
eval-requires-clause-sized g c =
    subst (λ e. IsSized (expression_of e)) (sym c.index-terminals-number.is) (terminal_sized c.args.terminals.now c.terminals.number c.index-terminals-number.result c.requires.sized
    c.terminals-test.true)

pub eval-requires-clause-there : goal.eval-requires-clause-there
eval-requires-clause-there g c =
    subst (λ e. AreThere (g.V.Values.values c.args.values.now) (named_in (expression_of e))) (sym c.index-terminals-number.is)
    (terminal_there (g.V.Values.values c.args.values.now) c.args.terminals.now c.terminals.number c.index-terminals-number.result c.requires.there c.terminals-test.true)

pub eval-requires-clause-room : goal.eval-requires-clause-room
eval-requires-clause-room g c =
    let one : levels_of (expression_of c.index-terminals-number.result) ≤ levels_of_parts (expressions_of c.args.terminals.now) =
    subst (λ e. levels_of (expression_of e) ≤ levels_of_parts (expressions_of c.args.terminals.now)) (sym c.index-terminals-number.is)
    (terminal_levels c.args.terminals.now c.terminals.number c.index-terminals-number.result c.terminals-test.true) in
    omega (arith, c.requires.room, c.terminals.invariant.room)

pub terminals-preserved : goal.terminals-preserved
terminals-preserved g c = record {
  bit =
      c.gate_step-bit.ensures
      ∙ ap (gate_step c.args.kind c.terminals.bit)
      (c.forced_at-forced.ensures ∙ ap (forced_terminal (machine_of c.args.view.now).fault (node_number c.args.node) (c.terminals.number + 1))
      (c.bit-seen.ensures ∙ ap (λ value. bit_at value 0) c.eval.ensures.value))
      ∙ gate-more c.args.kind (machine_of c.args.view.now).fault (node_number c.args.node)
      (value_at (g.V.Values.values c.args.values.now)) c.args.terminals.now c.terminals.number c.index-terminals-number.result c.terminals.bit
      c.terminals-test.true c.index-terminals-number.is c.terminals.invariant.bit;
  room = c.eval.ensures.room ∙ c.terminals.invariant.room;
}

pub returns-clause-bit : goal.returns-clause-bit
returns-clause-bit g c =
    c.gate_end.ensures
    ∙ ap (gate_end c.args.kind)
    (c.terminals.invariant.bit
    ∙ ap (λ l. fold (gate_step c.args.kind) (gate_start c.args.kind) (terminal_bits (machine_of c.args.view.now).fault (node_number c.args.node)
    (label_values (value_at (g.V.Values.values c.args.values.now)) (expressions_of l))))
    (take_all c.terminals.number c.args.terminals.now c.terminals-test.false))
    ∙ gate_by_steps c.args.kind (terminal_bits (machine_of c.args.view.now).fault (node_number c.args.node)
    (label_values (value_at (g.V.Values.values c.args.values.now)) (expressions_of c.args.terminals.now)))
