use Rattle.std.proofs.Common.{rules, ◌∙◌}
use Rattle.std.proofs.lemmas.List.{get_or_read}
use Rattle.net_graph.specs.TableLaws.{node_lists-push}
use Rattle.net_graph.proofs.graph.add_input.Goals as goal

pub returns-in_ok-push-2-clause-listed : goal.returns-in_ok-push-2-clause-listed
returns-in_ok-push-2-clause-listed c =
    node_lists-push c.args.readers.now.items c.args.object.0 c.index_mut.result.now c.push-then-index-stamp.new.self c.args.node _ _
    (search rules) c.index_mut.ensures.value c.in_ok-push-2.ensures.items
    (λ e. c.if-index-stamp.true (get_or_read c.args.seen.now.items c.args.object.0 c.index.result.now (search rules) c.index.ensures 0 ∙ e))
