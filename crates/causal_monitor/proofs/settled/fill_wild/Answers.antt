use Rattle.std.proofs.Common.{◌++◌, [], ap, sym, ◌∙◌, rules}
use Rattle.v_design.specs.Paths.{is_wild}
use Rattle.v_design.specs.Logs.{phase_changes}
use Rattle.v_design.specs.PlainDesigns.{design_of}
use Rattle.net_graph.specs.Tables.{before_if}
use Rattle.causal_monitor.proofs.TotalLaws.{nets_before-more}
use Rattle.causal_monitor.proofs.settled.fill_wild.Goals as goal

pub objects-preserved : goal.objects-preserved
objects-preserved c =
    c.in_ok-push_if.ensures ∙ ap (λ l. l ++ before_if c.is_wild_net-wanted.result c.objects.number []) c.objects.invariant
    ∙ sym (nets_before-more (is_wild (design_of c.args.design.now) (phase_changes (design_of c.args.design.now) c.args.log.now.log)) (design_of c.args.design.now) c.objects.number
    c.is_wild_net-wanted.result (search rules) c.is_wild_net-wanted.ensures)
