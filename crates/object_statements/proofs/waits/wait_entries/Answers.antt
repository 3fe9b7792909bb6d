use Rattle.std.proofs.Common.{List, map, sym, subst}
use Rattle.v_tree.specs.Views as source
use Rattle.v_tree.specs.declared.statement.Entry.{Entry}
use Rattle.v_tree.specs.declared.statement.Waits.{Waits}
use Rattle.v_tree.specs.declared.statement.Waits.TheVariants.{Entries}
use Rattle.object_statements.specs.Texts.{AreNarrowEntries, AreNarrowWaits}
use Rattle.object_statements.proofs.waits.wait_entries.Goals as goal

pub star_entries-requires : goal.star_entries-requires
star_entries-requires c = let r = c.requires in (r.0, r.1, r.2.1)

pub listed_entries-requires : goal.listed_entries-requires
listed_entries-requires c =
    let r = c.requires in
    let whole : AreNarrowWaits r.0.scope (source.waits_of (Entries c.in-Entries.listed)) = subst (λ (w : Waits). AreNarrowWaits r.0.scope (source.waits_of w)) c.in-Entries.is r.2.0 in
    (r.0, r.1, subst (λ (es : List Entry). AreNarrowEntries r.0.scope (map source.entry_of es)) (sym c.as_slice.ensures) whole)
