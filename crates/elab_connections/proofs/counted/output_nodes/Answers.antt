use Rattle.std.proofs.Common.{Option, subst}
use Rattle.v_tree.specs.Trees.{SourceTarget}
use Rattle.v_elab.specs.Connections.{output_parts}
use Rattle.elab_connections.specs.NodeCounts.{CountsNodes}
use Rattle.elab_connections.proofs.counted.output_nodes.Goals as goal

pub returns-clause-counts : goal.returns-clause-counts
returns-clause-counts c child p port e =
    subst (λ (t : Option SourceTarget). CountsNodes (output_parts child p port e t) c.target_nodes.result) c.in_ok-target.ensures (c.target_nodes.ensures.counts child p port e)
