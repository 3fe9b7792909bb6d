use Rattle.std.proofs.Common.{◌<◌, ℕ, sym, subst, rules}
use Rattle.plan_read.proofs.Noting.{noted-more}
use Rattle.plan_read.proofs.drivers.note_outputs.Goals as goal

pub outputs-preserved : goal.outputs-preserved
outputs-preserved c = record {
  len = search rules;
  noted = λ object low.
      noted-more c.args.outputs.now c.outputs.output-index object _ c.args.node _ _ _ c.outputs-test.true (c.outputs.invariant.noted object low)
      (c.note_output.ensures.noted object (subst (λ (n : ℕ). object < n) (sym c.outputs.invariant.len) low));
}
