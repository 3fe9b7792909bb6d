use Rattle.elaborate.proofs.elements.make_behaviours.Goals as goal

pub walked_nodes-requires-clause-sized : goal.walked_nodes-requires-clause-sized
walked_nodes-requires-clause-sized c =
    let over = c.requires.sized in
    record {
      parts = over.parts;
      objects = over.objects;
      basis_is = record { names_are = over.names_are; widths_are = over.widths_are };
      sized = over.sized.nodes_sized;
      functions = over.sized.functions_sized;
    }

pub flat_processes-requires : goal.flat_processes-requires
flat_processes-requires c =
    let over = c.requires.sized in
    record { parts = over.parts; objects = over.objects; basis_is = record { names_are = over.names_are; widths_are = over.widths_are }; sized = over.sized.processes_sized }
