use Rattle.std.proofs.Common.{[], map, ap, ◌∙◌}
use Rattle.std.specs.Prelude.{flat_map}
use Rattle.std.proofs.lemmas.List.{take_all}
use Rattle.v_elab.specs.Drivers.{signals_of}
use Rattle.elab_parts.specs.PartViews.{part_of, parts_of}
use Rattle.elab_wires.specs.Turns.{turn}
use Rattle.object_names.specs.NameTables.{joined_by}
use Rattle.object_names.proofs.TableTurns.{joined-over}
use Rattle.object_names.proofs.Meanings.{joined-are}
use Rattle.object_names.proofs.joined.names_joined.Goals as goal

pub parts-preserved : goal.parts-preserved
parts-preserved c =
    turn part_of (λ ps. flat_map (joined_by c.args.names.now) (signals_of ps)) (joined-over c.args.names.now) c.args.parts.now c.parts.part-index c.part-item.result [] _ _ c.parts-test.true
    c.part-item.is c.parts.invariant
    c.in_ok-push_joined.ensures

pub returns : goal.returns
returns c objects are =
    c.parts.invariant ∙ ap (λ ps. flat_map (joined_by c.args.names.now) (signals_of (map part_of ps))) (take_all c.parts.part-index c.args.parts.now c.parts-test.false)
    ∙ joined-are (parts_of c.args.parts.now) objects c.args.names.now are
