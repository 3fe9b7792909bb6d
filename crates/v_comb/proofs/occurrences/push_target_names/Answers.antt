use Rattle.std.proofs.Common.{List, map, ap, sym, ◌∙◌}
use Rattle.v_tree.specs.Trees.{SourceSelect, NamedPlace}
use Rattle.v_comb.specs.Occurrences.{listed}
use Rattle.v_comb.proofs.Lists.{select-names-listed}
use Rattle.v_comb.proofs.Turns.{one-more}
use Rattle.v_comb.proofs.occurrences.push_target_names.Goals as goal

pub returns : goal.returns
returns c =
    one-more (listed c.args.names.now.items) (listed c.push_select_names.new.names.items) c.in_ok-push_select_names.ensures
    (sym (select-names-listed c.selects.result.now)
    ∙ ap (λ (ss : List SourceSelect). map (λ (n : NamedPlace). n.name) (map (λ (s : SourceSelect). record { name = s.name; place = s.place }) ss)) c.selects.ensures)
