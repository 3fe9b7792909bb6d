use Rattle.std.proofs.Common.{sym, ap, ◌∙◌}
use Rattle.v_comb.specs.Occurrences.{listed}
use Rattle.v_comb.proofs.Once.{gathered, gathered-once}
use Rattle.v_comb.proofs.Turns.{drop-past}
use Rattle.v_comb.proofs.form.gather.Goals as goal

pub returns : goal.returns
returns c =
    sym (ap (λ rest. gathered c.args.others.now c.names.table (listed rest)) (drop-past c.args.names.now c.names.name-index c.names-test.false))
    ∙ c.names.invariant ∙ gathered-once c.args.others.now (listed c.args.names.now)
