use Rattle.std.proofs.Common.{refl}
use Rattle.v_comb.specs.Occurrences.{listed}
use Rattle.v_comb.proofs.Trees.{needed-listed}
use Rattle.v_comb.proofs.Turns.{three-more}
use Rattle.v_comb.proofs.assigned.push_needed.Goals as goal

pub returns : goal.returns
returns c =
    three-more (listed c.args.names.now.items) (listed c.push_index_names_of.new.names.items) (listed c.push_names.new.names.items) (listed c.push_part_names_of.new.names.items)
    c.in_ok-push_index_names_of.ensures c.in_ok-push_names.ensures c.in_ok-push_part_names_of.ensures refl refl refl
    (needed-listed c.args.target.now c.args.value.now c.selects-selects.result.now c.selects-selects.ensures)
