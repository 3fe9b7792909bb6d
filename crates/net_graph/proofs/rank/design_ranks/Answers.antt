use Rattle.std.proofs.Common.{◌≡◌, ◌∙◌, ap, sym, subst, map, length}
use Rattle.std.specs.Prelude.{Err}
use Rattle.std.proofs.lemmas.List.{length-map}
use Rattle.v_design.specs.Plain.{node_of, object_of}
use Rattle.v_design.specs.PlainDesigns.{design_of}
use Rattle.net_graph.specs.Loops.{AreAmong, IsLooping}
use Rattle.net_graph.specs.RankLaws.{rules_among, rules_acyclic}
use Rattle.net_graph.proofs.rank.design_ranks.Goals as goal

pub ranks-requires : goal.ranks-requires
ranks-requires c =
    let count : length (design_of c.args.design.now).objects ≡ length c.as_slice-objects.result.now = length-map c.args.design.now.objects object_of ∙ ap length (sym c.as_slice-objects.ensures) in
    record {
      there =
          subst (λ nodes. AreAmong (length c.as_slice-objects.result.now) (map node_of nodes)) (sym c.as_slice.ensures)
          (subst (λ n. AreAmong n (map node_of c.args.design.now.nodes)) count (rules_among (design_of c.args.design.now) c.args.design.now.rules));
    }

pub unreachable-requires : goal.unreachable-requires
unreachable-requires c =
    let is = c.in-Err-Loop.is ∙ ap (λ e. Err e) c.in-Err-Loop.field-0-is in
    let least = c.ranks.ensures.looped c.in-Err-Loop.field-0-0 is in
    rules_acyclic (design_of c.args.design.now) c.args.design.now.rules c.in-Err-Loop.field-0-0.0
    (subst (λ nodes. IsLooping (map node_of nodes) c.in-Err-Loop.field-0-0.0) c.as_slice.ensures least.loops)
