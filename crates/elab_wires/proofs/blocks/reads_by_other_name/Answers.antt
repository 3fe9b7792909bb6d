use Rattle.std.proofs.Common.{map, ap, ◌++◌, ◌∙◌}
use Rattle.std.specs.List.{list_any}
use Rattle.v_tree.specs.Views.{statement_of}
use Rattle.v_comb.specs.CombinationalForm.{names_read}
use Rattle.v_elab.specs.Drivers.{outermost}
use Rattle.elab_parts.specs.PartViews.{process_of}
use Rattle.key_index.specs.Places.{keys_of}
use Rattle.elab_wires.specs.Wirings.{reads_other}
use Rattle.elab_wires.proofs.BlockLaws.{read-names}
use Rattle.elab_wires.proofs.blocks.reads_by_other_name.Goals as goal

pub returns : goal.returns
returns c =
    read-names c.args.signals.now (process_of c.args.process.now) c.args.targets.now c.in_ok-own.own c.in_ok-objects.objects
    (keys_of c.push_reads.new.names.items) c.in_ok-other.other c.in_ok-own.ensures
    (c.in_ok-objects.ensures ∙ ap (map (outermost c.args.signals.now)) c.requires)
    (c.in_ok-push_reads.ensures ∙ ap (λ os. keys_of os ++ names_read (statement_of c.block_body.result.now)) c.new-names.ensures.items ∙ ap names_read c.block_body.ensures)
    (c.in_ok-other.ensures ∙ ap (λ ns. list_any (reads_other c.args.signals.now (process_of c.args.process.now) c.in_ok-own.own c.in_ok-objects.objects) (keys_of ns)) c.deref.ensures.value)
