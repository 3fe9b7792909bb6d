use Rattle.std.proofs.Common.{◌≡◌, take}
use Rattle.std.specs.Prelude.{fold}
use Rattle.vf_base.specs.Base.{node_number}
use Rattle.v_design.specs.Plain.{expressions_of}
use Rattle.v_design.specs.Assignments.{value_at, label_values}
use Rattle.v_design.specs.Views.{machine_of}
use Rattle.node_eval.specs.Gates.{gate_start, gate_step, terminal_bits}
use Rattle.node_eval.proofs.gate.gate_output.Given as goal

abbrev pub invariant-terminals : goal.invariant-terminals
invariant-terminals g l = record {
  bit : l.bit ≡ fold (gate_step l.kind) (gate_start l.kind) (terminal_bits (machine_of l.view).fault (node_number l.node)
      (label_values (value_at (g.V.Values.values l.values)) (expressions_of (take l.number l.terminals))));
  room : l.stack.depth ≡ l.initial.stack.depth;
}
