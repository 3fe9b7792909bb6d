use Rattle.std.proofs.Common.{false, ap, sym, ◌∙◌, get_or, map}
use Rattle.std.specs.List.{list_any}
use Rattle.std.proofs.lemmas.Bool.{both_ways}
use Rattle.vf_base.specs.Base.{object_number}
use Rattle.net_graph.proofs.cone.mark_node.Goals as goal

pub returns-then-some_marked-clause-kept : goal.returns-then-some_marked-clause-kept
returns-then-some_marked-clause-kept c = λ none.
    absurd (both_ways _ none
    (sym (c.some_marked.ensures ∙ ap (λ outputs. list_any (λ object. get_or c.args.marked.now.items object false) (map object_number outputs)) c.as_slice.ensures) ∙ c.if-some_marked.true))
