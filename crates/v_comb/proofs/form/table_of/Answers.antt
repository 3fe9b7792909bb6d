use Rattle.v_comb.proofs.Turns.{table-turn}
use Rattle.v_comb.proofs.form.table_of.Goals as goal

pub texts-preserved : goal.texts-preserved
texts-preserved c =
    table-turn c.texts.table c.args.texts.now c.put.new.self c.texts.text-index c.as_bytes.result.now c.text-item.result c.texts-test.true c.in_ok-put.ensures
    c.as_bytes.ensures c.text-item.is c.texts.invariant
