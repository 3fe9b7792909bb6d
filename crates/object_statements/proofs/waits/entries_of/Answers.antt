use Rattle.std.proofs.Common.{◌≡◌, ℕ, List, Option, map, sym, ap, ap₂, subst, ◌∙◌}
use Rattle.v_design.specs.Trees.{Piece, Vector}
use Rattle.v_design.specs.Plain.{piece_of}
use Rattle.v_tree.specs.Views as source
use Rattle.v_names.specs.Scopes.{Scope}
use Rattle.v_width.specs.Targets.{places_of_select}
use Rattle.elab_parts.specs.PartViews.{places_of}
use Rattle.select_bits.specs.Runs.{TakesRun}
use Rattle.v_elab.specs.Statements.{entries_on, places_by_edge}
use Rattle.object_waits.specs.Selects.{run_places}
use Rattle.object_statements.specs.Texts.{AreFewPlaces}
use Rattle.object_statements.proofs.waits.entries_of.Goals as goal

pub selected-own-requires : goal.selected-own-requires
selected-own-requires c =
    let r = c.requires in
    let runs = subst (λ (s : Scope). TakesRun s (source.select_of c.args.entry.now.select)) r.1.scope_is r.2.0 in
    let same : places_of_select r.0.scope (source.select_of c.args.entry.now.select) ≡ places_of c.in_ok-bits.bits =
    ap (λ (s : Scope). places_of_select s (source.select_of c.args.entry.now.select)) r.1.scope_is ∙ sym (c.in_ok-bits.ensures runs) in
    subst AreFewPlaces same r.2.1

pub returns : goal.returns
returns c plain are =
    let r = c.requires in
    let edge = c.args.entry.now.edge in
    let select = source.select_of c.args.entry.now.select in
    let own = c.selected-own.result in
    let runs = subst (λ (s : Scope). TakesRun s select) r.1.scope_is r.2.0 in
    let places : run_places own.outside_below own.low own.width own.outside_above ≡ places_of_select plain.scope select =
    c.selected-own.ensures ∙ c.in_ok-bits.ensures runs ∙ ap (λ (s : Scope). places_of_select s select) (sym are.scope_is) in
    let pieces : map piece_of c.in_ok-vector.vector.pieces ≡ (plain.holders.vector select.name).pieces = ap (λ (v : Vector). v.pieces) (c.in_ok-vector.ensures plain.holders are.names_are) in
    c.in_ok-entries.ensures ∙ ap₂ (λ (run : List (Option ℕ)) (all : List Piece). entries_on edge (places_by_edge edge run) 0 all) places pieces
