use Rattle.std.proofs.Common.{◌≡◌, ap, ◌++◌, map, subst}
use Rattle.vf_base.specs.Lists.{joined, map_numbered}
use Rattle.v_design.specs.Plain.{object_of, node_of}
use Rattle.v_design.specs.PlainDesigns.{design_of}
use Rattle.v_design.specs.Sites.{variable_sites, output_sites, terminal_sites}
use Rattle.fault_list.specs.Listed.{stuck, both}
use Rattle.fault_list.proofs.Growing.{all_parts}
use Rattle.fault_list.proofs.list.all_sites.Goals as goal

pub returns : goal.returns
returns c =
    all_parts (joined (map_numbered variable_sites 0 (design_of c.args.design.now).objects))
    (joined (map_numbered (output_sites (design_of c.args.design.now)) 0 (design_of c.args.design.now).nodes)) (joined (map_numbered terminal_sites 0 (design_of c.args.design.now).nodes))
    (stuck c.new-faults.result.items) _ _ _ (ap stuck c.new-faults.ensures.items)
    (subst (λ l. stuck c.add_variables.new.faults.items ≡ stuck c.new-faults.result.items ++ both (joined (map_numbered variable_sites 0 (map object_of l)))) c.as_slice.ensures
    c.in_ok-add_variables.ensures)
    c.in_ok-add_outputs.ensures
    (subst (λ l. stuck c.add_terminals.new.faults.items ≡ stuck c.add_outputs.new.faults.items ++ both (joined (map_numbered terminal_sites 0 (map node_of l)))) c.as_slice-2.ensures
    c.in_ok-add_terminals.ensures)
