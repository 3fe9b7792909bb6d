use Rattle.std.proofs.Common.{get_or, false, ◌&&◌, ap, ◌∙◌, arith}
use Rattle.v_comb.proofs.Turns.{met-turn, met-whole}
use Rattle.v_comb.proofs.assigned.meet.Goals as goal

pub flags-preserved : goal.flags-preserved
flags-preserved c =
    met-turn c.flags.place c.args.flags.now.items c.args.other.now c.flags.flags.items c.is_set_in_both-flag.result (omega arith) c.flags.invariant
    (c.is_set_in_both-flag.ensures ∙ ap (λ xs. get_or xs c.flags.place false && get_or c.args.other.now c.flags.place false) c.deref.ensures.value)

pub returns : goal.returns
returns c = c.flags.invariant ∙ met-whole c.flags.place c.args.flags.now.items c.args.other.now (omega arith)
