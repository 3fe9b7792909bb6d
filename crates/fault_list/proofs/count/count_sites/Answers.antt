use Rattle.std.proofs.Common.{◌≡◌, length, map, min, ap, sym, subst, ◌∙◌, ◌^◌, ◌-◌}
use Rattle.vf_base.specs.Lists.{joined, map_numbered}
use Rattle.v_design.specs.Plain.{object_of, node_of}
use Rattle.v_design.specs.PlainDesigns.{design_of}
use Rattle.v_design.specs.Sites.{variable_sites, output_sites, terminal_sites}
use Rattle.fault_list.proofs.Counting.{all-counted, faults-count}
use Rattle.fault_list.proofs.count.count_sites.Goals as goal

pub returns : goal.returns
returns c =
    all-counted (2 ^ 64 - 1) c.count_variables-variables.result c.count_outputs-outputs.result c.count_terminals-terminals.result c.saturating_add.result c.saturating_add-sites.result
    c.saturating_add-2.result
    (joined (map_numbered variable_sites 0 (design_of c.args.design.now).objects)) (joined (map_numbered (output_sites (design_of c.args.design.now)) 0 (design_of c.args.design.now).nodes))
    (joined (map_numbered terminal_sites 0 (design_of c.args.design.now).nodes))
    (subst (λ l. c.count_variables-variables.result ≡ min (length (joined (map_numbered variable_sites 0 (map object_of l)))) (2 ^ 64 - 1)) c.as_slice.ensures c.count_variables-variables.ensures)
    c.count_outputs-outputs.ensures
    (subst (λ l. c.count_terminals-terminals.result ≡ min (length (joined (map_numbered terminal_sites 0 (map node_of l)))) (2 ^ 64 - 1)) c.as_slice-2.ensures c.count_terminals-terminals.ensures)
    c.saturating_add.ensures c.saturating_add-sites.ensures c.saturating_add-2.ensures
    ∙ ap (λ n. min n (2 ^ 64 - 1)) (sym (faults-count (design_of c.args.design.now)))
