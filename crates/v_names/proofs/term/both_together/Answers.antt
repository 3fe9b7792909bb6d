use Rattle.std.proofs.Common.{length, ap, sym, ◌∙◌}
use Rattle.v_names.proofs.KnownLaws.{length-term}
use Rattle.v_names.proofs.term.both_together.Goals as goal

pub binary-requires : goal.binary-requires
binary-requires c n =
    ap length c.value_of-a.ensures ∙ length-term c.args.left.now.term c.larger-size.result.width c.larger-size.result.signed
    ∙ sym (ap length c.value_of-b.ensures ∙ length-term c.args.right.now.term c.larger-size.result.width c.larger-size.result.signed)
