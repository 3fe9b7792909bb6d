use Rattle.std.proofs.Common.{◌≡◌, true, rules}
use Rattle.elab_parts.specs.PartViews.{process_of}
use Rattle.elab_wires.specs.Wirings.{reads_other}
use Rattle.elab_wires.proofs.BlockLaws.{any-here}
use Rattle.elab_wires.proofs.blocks.any_other_name.Goals as goal

pub returns-then-other : goal.returns-then-other
returns-then-other c =
    let holds : c.in_ok-other.other ≡ true = search rules in
    any-here (reads_other c.args.signals.now (process_of c.args.process.now) c.args.targets.now c.args.objects.now) c.args.names.now c.names.name-index _ c.in_ok-other.other c.names-test.true
    c.in_ok-other.ensures holds
