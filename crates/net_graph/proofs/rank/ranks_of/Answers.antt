use Rattle.std.proofs.Common.{◌≡◌, ◌+◌, ◌++◌, ◌∷◌, [], ap, ◌∙◌, get_or, map, arith}
use Rattle.std.proofs.lemmas.List.{get_or_read, length-map}
use Rattle.v_design.specs.Plain.{node_of}
use Rattle.net_graph.specs.WiringLaws.{node_there}
use Rattle.net_graph.specs.RankLaws.{ranks-more}
use Rattle.net_graph.proofs.rank.ranks_of.Goals as goal
use Rattle.net_graph.proofs.rank.ranks_of.Goals.{After-index}

depth_is : (c : After-index) → c.index.result.now ≡ get_or c.args.depths.now.items (c.args.objects + c.nodes.number) 0
depth_is c = get_or_read c.args.depths.now.items (c.args.objects + c.nodes.number) c.index.result.now (omega (arith, c.requires.sized)) c.index.ensures 0

pub nodes-preserved : goal.nodes-preserved
nodes-preserved c =
    let base = (goal.at.nodes-preserved c).After-index in
    let there = node_there (map node_of c.args.nodes.now) c.nodes.number (omega (arith, length-map c.args.nodes.now node_of)) in
    c.in_ok-push.ensures.items ∙ ap (λ r. c.nodes.ranks.items ++ r ∷ []) (c.in_ok-rank.ensures ∙ depth_is base)
    ∙ ranks-more (map node_of c.args.nodes.now) (λ number. get_or c.args.depths.now.items (c.args.objects + number) 0) c.nodes.ranks.items c.nodes.number there.0 c.requires.ranks there.1
    c.nodes.invariant
