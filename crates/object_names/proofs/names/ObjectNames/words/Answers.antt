use Rattle.std.proofs.Common.{map, refl, ap, ◌∙◌}
use Rattle.vf_base.specs.Base.{object_number}
use Rattle.v_design.specs.Trees.{Piece}
use Rattle.object_names.specs.NameTables.{NameTables, words_by}
use Rattle.object_names.specs.NameViews.{objects_in}
use Rattle.object_names.proofs.Meanings.{pieces-found}
use Rattle.object_names.proofs.names.ObjectNames.words.Goals as goal

pub returns : goal.returns
returns c =
    ap (map object_number) c.from_vec.ensures ∙ c.in_ok-words.ensures
    ∙ ap objects_in c.deref.ensures.value
    ∙ ap (map (λ (p : Piece). p.object)) (pieces-found c.self.inside.pieces c.args.name.now c.args.name.now c.in_ok-pieces.pieces.items refl c.in_ok-pieces.ensures)
    ∙ ap (λ (t : NameTables). words_by t.pieces c.args.name.now) c.self.view_is
