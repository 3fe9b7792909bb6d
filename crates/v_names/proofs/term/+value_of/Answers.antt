use Rattle.std.proofs.Common.{length, ap, sym, ◌∙◌}
use Rattle.v_names.proofs.KnownLaws.{length-term}
use Rattle.v_names.proofs.term.+value_of.Goals as goal

pub binary-requires : goal.binary-requires
binary-requires t c n =
    ap length c.value_of-a.ensures ∙ length-term c.deref-in-Binary.result.now c.args.width c.args.signed
    ∙ sym (ap length c.value_of-b.ensures ∙ length-term c.deref-in-Binary-2.result.now c.args.width c.args.signed)

pub chosen-requires : goal.chosen-requires
chosen-requires t c =
    ap length c.value_of-a-in-Choice.ensures ∙ length-term c.deref-in-Choice.result.now c.args.width c.args.signed
    ∙ sym (ap length c.value_of-b-in-Choice.ensures ∙ length-term c.deref-in-Choice-2.result.now c.args.width c.args.signed)
