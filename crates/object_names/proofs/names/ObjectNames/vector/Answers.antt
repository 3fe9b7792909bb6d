use Rattle.std.proofs.Common.{map, ap, ◌∙◌}
use Rattle.v_design.specs.Plain.{piece_of}
use Rattle.v_elab.specs.Drivers.{outermost}
use Rattle.v_elab.specs.Objects.{range_of_signal}
use Rattle.object_names.specs.NameTables.{NameTables, vector_by}
use Rattle.object_names.specs.NamesInside.{tables_in}
use Rattle.object_names.proofs.Meanings.{pieces-found, vector-is}
use Rattle.object_names.proofs.names.ObjectNames.vector.Goals as goal

pub returns : goal.returns
returns c =
    vector-is (tables_in c.self.inside) c.args.name.now c.range_in-range.result c.from_vec.result (c.range_in-range.ensures ∙ ap range_of_signal c.named.ensures)
    (ap (map piece_of) c.from_vec.ensures
    ∙ pieces-found c.self.inside.pieces c.outermost.result.now (outermost c.self.inside.signals.now c.args.name.now) c.in_ok-pieces.pieces.items c.outermost.ensures c.in_ok-pieces.ensures)
    ∙ ap (λ (t : NameTables). vector_by t c.args.name.now) c.self.view_is
