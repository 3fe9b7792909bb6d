use Rattle.std.proofs.Common.{length, ap, sym, ◌∙◌}
use Rattle.four_value.specs.ValueLaws.{length-part_of}
use Rattle.process_table.proofs.entries.matches_change.Goals as goal

pub edge_matches-requires : goal.edge_matches-requires
edge_matches-requires c =
    ap length c.part.ensures ∙ length-part_of c.args.change.now.old c.args.entry.now.low c.args.entry.now.width
    ∙ sym (ap length c.part-2.ensures ∙ length-part_of c.args.change.now.new c.args.entry.now.low c.args.entry.now.width)
