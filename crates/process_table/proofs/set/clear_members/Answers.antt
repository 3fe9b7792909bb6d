use Rattle.std.proofs.Common.{◌<◌, ◌≢◌, ◌∙◌, false, length, arith, get_or-set_other, get_or-set_same, below_more}
use Rattle.std.proofs.lemmas.List.{length-set}
use Rattle.process_table.proofs.PutLaws.{none-left}
use Rattle.process_table.proofs.set.clear_members.Goals as goal

pub numbers-preserved : goal.numbers-preserved
numbers-preserved c = record {
  long = length-set c.numbers.members.items c.numbers.number false ∙ c.numbers.invariant.long;
  none =
      below_more _ _
      (λ k h. let ne : k ≢ c.numbers.number = omega arith in rw get_or-set_other (c.numbers.invariant.none k h))
      (let lt : c.numbers.number < length c.numbers.members.items = omega (arith, c.numbers-test.true, c.len-number-end.ensures, c.numbers.invariant.long) in rw get_or-set_same);
}

pub returns : goal.returns
returns c =
    none-left c.args.members.now.items c.numbers.members.items c.numbers.invariant.long
    (λ k low. c.numbers.invariant.none k (omega (arith, low, c.numbers-test.false, c.len-number-end.ensures, c.numbers.invariant.long)))
