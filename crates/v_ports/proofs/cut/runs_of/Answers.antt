use Rattle.std.proofs.Common.{refl}
use Rattle.v_ports.proofs.Cutting.{one-run}
use Rattle.v_ports.proofs.cut.runs_of.Goals as goal

pub runs-preserved : goal.runs-preserved
runs-preserved c = record {
  within = c.run_end-end.ensures.within;
  covered =
      one-run c.runs.pieces.items c.push.new.self.items _ c.args.owners.now c.runs.low c.run_end-end.result c.runs.invariant.covered c.in_ok-push.ensures.items refl c.runs-test.true
      c.run_end-end.ensures.same;
}
