use Rattle.std.proofs.Common.{subst}
use Rattle.v_design.specs.Logs.{phase_changes}
use Rattle.v_design.specs.PlainDesigns.{design_of}
use Rattle.net_graph.specs.Tables.{AreTotalPaths}
use Rattle.causal_monitor.proofs.TotalLaws.{AreTotals-counted}
use Rattle.causal_monitor.proofs.totals.add_up.Goals as goal

pub returns-clause-totals : goal.returns-clause-totals
returns-clause-totals c =
    let design = design_of c.args.graph.now.design.now in
    AreTotals-counted design (phase_changes design c.args.log.now.log) c.args.counts.now.items c.total_paths.new.totals.items c.requires.counts
    (subst (λ l. AreTotalPaths design l c.total_paths.new.totals.items) c.deref.ensures.value c.total_paths.ensures.totals)
