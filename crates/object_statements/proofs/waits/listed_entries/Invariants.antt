use Rattle.std.proofs.Common.{◌≡◌, ◌++◌, drop, map, flat_map}
use Rattle.v_design.specs.Plain.{entry_of}
use Rattle.v_tree.specs.Views as source
use Rattle.v_elab.specs.Statements.{Meaning, entries_of_select}
use Rattle.object_statements.specs.Meanings.{IsMeaning}
use Rattle.object_statements.proofs.waits.listed_entries.Given as goal

abbrev pub invariant-listed : goal.invariant-listed
invariant-listed l =
    (plain : Meaning) → IsMeaning plain l.meaning →
    map entry_of l.entries.items ++ flat_map (entries_of_select plain) (map source.entry_of (drop l.entry-index l.listed)) ≡ flat_map (entries_of_select plain) (map source.entry_of l.listed)
