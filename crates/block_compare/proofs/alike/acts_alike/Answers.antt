-- Each list is in the other ones.
use Rattle.block_compare.proofs.Same.{acts-so}
use Rattle.block_compare.proofs.alike.acts_alike.Goals as goal

pub returns : goal.returns
returns c = λ yes.
    acts-so c.args.block.now c.args.told.now c.as_slice-stepped.result.now c.as_slice-ended.result.now c.as_slice-stepped.ensures.value c.as_slice-ended.ensures.value
    (c.are_same.ensures c.if-not-are_same.false) (c.are_in.ensures c.if-not-are_in.false) (c.are_in-2.ensures c.if-not-are_in-2.false) (c.are_in-3.ensures yes)
