use Rattle.std.proofs.Common.{◌≡◌, true, false, rules}
use Rattle.v_comb.specs.Forms.{waits_of}
use Rattle.v_comb.proofs.Ends.{not-assigned, is-node}
use Rattle.v_comb.proofs.form.comb_form.Goals as goal

pub returns-then-not-assigned : goal.returns-then-not-assigned
returns-then-not-assigned c =
    let fails : c.in_ok-assigned.assigned ≡ false = search rules in
    not-assigned c.args.body.now (waits_of c.args.waits.now) c.in_ok-table.table c.in_ok-assigned.assigned c.in_ok-table.ensures c.in_ok-assigned.ensures fails

pub returns : goal.returns
returns c =
    let holds : c.in_ok-assigned.assigned ≡ true = search rules in
    let met : c.in_ok-waited.waited ≡ true = search rules in
    is-node c.args.body.now (waits_of c.args.waits.now) c.in_ok-table.table c.in_ok-read.read c.in_ok-targets.targets c.in_ok-reads.reads c.in_ok-assigned.assigned c.in_ok-waited.waited
    c.in_ok-table.ensures c.in_ok-assigned.ensures holds c.in_ok-read.ensures c.in_ok-waited.ensures met c.in_ok-targets.ensures c.in_ok-reads.ensures
