use Rattle.std.proofs.Common.{ap, ◌++◌, ◌∙◌, append_assoc}
use Rattle.std.specs.Prelude.{string_bytes}
use Rattle.soak_text.specs.Soak.{wire_line, gate_line, clocked_line}
use Rattle.soak_text.proofs.design.add_gate_lines.Goals as goal

pub returns : goal.returns
returns c =
    let stage = c.args.stage.now in
    let base = string_bytes c.args.text.now in
    c.in_ok-add_clocked.ensures
    ∙ (ap (λ l. l ++ clocked_line stage) (c.in_ok-add_gate.ensures ∙ (ap (λ l. l ++ gate_line stage) c.in_ok-add_wire.ensures ∙ append_assoc base (wire_line stage) (gate_line stage)))
    ∙ append_assoc base (wire_line stage ++ gate_line stage) (clocked_line stage))
