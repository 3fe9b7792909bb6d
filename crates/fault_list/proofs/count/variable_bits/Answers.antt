use Rattle.std.proofs.Common.{length, ap, sym, ◌∙◌}
use Rattle.std.proofs.lemmas.List.{length-map}
use Rattle.v_design.specs.Designs.{VariableBit}
use Rattle.v_design.specs.Expressions.{up_from}
use Rattle.v_design.specs.Sites.{is_variable, bits_if}
use Rattle.fault_list.proofs.Counting.{up_from-length}
use Rattle.fault_list.proofs.count.variable_bits.Goals as goal

pub returns-in-Var : goal.returns-in-Var
returns-in-Var c number =
    let width = c.args.object.now.width in
    c.from.ensures
    ∙ sym (ap (λ kind. length (bits_if (is_variable kind) (VariableBit number) c.args.object.now.width)) c.in-Var.is
    ∙ (length-map (up_from 0 c.args.object.now.width) (VariableBit number) ∙ up_from-length 0 c.args.object.now.width))
