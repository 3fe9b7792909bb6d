use Rattle.std.proofs.Common.{◌++◌, List, map, flat_map, refl, ap, ◌∙◌}
use Rattle.v_design.specs.Trees as plain_tree
use Rattle.v_design.specs.Plain.{entry_of}
use Rattle.v_design.specs.declared.tree.WaitEntry.{WaitEntry}
use Rattle.v_tree.specs.Views as source
use Rattle.v_tree.specs.declared.statement.Entry.{Entry}
use Rattle.v_elab.specs.Statements.{entries_of_select}
use Rattle.name_checks.specs.Rows.{list-more}
use Rattle.v_tree.specs.Trees.{SourceEntry}
use Rattle.object_reads.specs.SizedReads.{holds-at}
use Rattle.object_statements.specs.Texts.{IsNarrowSelect}
use Rattle.object_statements.proofs.waits.listed_entries.Goals as goal

pub listed-preserved : goal.listed-preserved
listed-preserved c plain are =
    list-more (λ (e : Entry). entries_of_select plain (source.entry_of e)) (λ (es : List Entry). flat_map (entries_of_select plain) (map source.entry_of es)) c.args.listed.now c.listed.entry-index
    c.entry-item.result
    (map entry_of c.listed.entries.items) (map entry_of c.append.new.entries.items) _ (λ y ys. refl) c.listed-test.true c.entry-item.is
    (c.in_ok-append.ensures
    ∙ ap (λ (es : List WaitEntry). map entry_of c.listed.entries.items ++ map entry_of es) c.deref.ensures.value
    ∙ ap (λ (es : List plain_tree.Entry). map entry_of c.listed.entries.items ++ es) (c.in_ok-more.ensures plain are))
    (c.listed.invariant plain are)

pub entries_of-requires : goal.entries_of-requires
entries_of-requires c =
    let r = c.requires in
    (r.0, r.1, holds-at (λ (e : SourceEntry). IsNarrowSelect r.0.scope e.select) source.entry_of c.args.listed.now c.listed.entry-index c.entry-item.result r.2 c.listed-test.true c.entry-item.is)
