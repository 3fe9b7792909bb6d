use Rattle.std.proofs.Common.{flat_map, ap, sym, ◌∙◌}
use Rattle.v_tree.specs.Trees.{SourceSelect, names_in_index}
use Rattle.v_comb.specs.Occurrences.{listed}
use Rattle.v_comb.proofs.Lists.{index-names-listed}
use Rattle.v_comb.proofs.Turns.{one-more}
use Rattle.v_comb.proofs.occurrences.push_target_index_names.Goals as goal

pub returns : goal.returns
returns c =
    one-more (listed c.args.names.now.items) (listed c.push_index_names_of.new.names.items) c.in_ok-push_index_names_of.ensures
    (sym (index-names-listed c.selects.result.now) ∙ ap (flat_map (λ (s : SourceSelect). names_in_index s.index)) c.selects.ensures)
