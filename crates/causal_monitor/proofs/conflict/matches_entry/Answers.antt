use Rattle.std.proofs.Common.{length, ap, sym, ◌∙◌}
use Rattle.four_value.specs.ValueLaws.{length-part_of}
use Rattle.causal_monitor.proofs.conflict.matches_entry.Goals as goal

pub edge_matches-requires : goal.edge_matches-requires
edge_matches-requires c =
    ap length c.part.ensures ∙ length-part_of c.in-Some.old c.in-Some-entry.entry.low c.in-Some-entry.entry.width
    ∙ sym (ap length c.part-2.ensures ∙ length-part_of c.in-Some-new.new c.in-Some-entry.entry.low c.in-Some-entry.entry.width)
