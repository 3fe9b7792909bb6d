use Rattle.std.proofs.Common.{rules, ◌<◌, take, length, ap, sym, subst, ◌∙◌}
use Rattle.std.proofs.lemmas.List.{take_more}
use Rattle.vf_base.specs.Lists.{has}
use Rattle.graph_order.specs.ListLaws.{has-get_or}
use Rattle.graph_order.specs.Searching.{AddsNeeds}
use Rattle.graph_order.proofs.search.add_needs.Goals as goal

pub returns-then-need-vertex-clause-back : goal.returns-then-need-vertex-clause-back
returns-then-need-vertex-clause-back c = λ _. ap (has c.args.own.now) (sym c.if-need-vertex.true) ∙ has-get_or c.args.own.now c.own.need-index 0 (search rules)

pub own-preserved : goal.own-preserved
own-preserved c = record {
  search = c.in_ok-add_need.ensures.search c.args.vertex c.if-need-vertex.false c.own.invariant.search;
  adds =
      let low : c.own.need-index < length c.args.own.now = search rules in
      subst (λ own. AddsNeeds c.args.placed.now.items c.args.vertex own c.args.found.now.items c.add_need.new.found.items) (sym (take_more c.args.own.now c.own.need-index 0 low))
      (c.in_ok-add_need.ensures.adds c.args.vertex (take c.own.need-index c.args.own.now) c.args.found.now.items c.if-need-vertex.false c.own.invariant.search c.own.invariant.adds);
}
