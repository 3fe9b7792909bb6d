use Rattle.std.proofs.Common.{get_or, sym}
use Rattle.four_value.specs.Values.{IsWidth}
use Rattle.four_value.specs.declared.logic.Edge.TheVariants.{Any}
use Rattle.v_design.specs.Plain.{entry_of}
use Rattle.v_design.specs.Trees.{Entry}
use Rattle.v_design.specs.declared.tree.WaitEntry.{WaitEntry}
use Rattle.value_change.specs.Changes.{change_seen, matches_one}
use Rattle.std.proofs.Common.{map}
use Rattle.process_table.proofs.Numbers.{got-any}
use Rattle.process_table.proofs.Matching.{first-goes_on, first-found, AllHold-image}
use Rattle.process_table.proofs.entries.first_matching.Goals as goal

-- what stands for an entry that isn't there
abbrev no_entry : WaitEntry
no_entry = record { object = record { 0 = 0 }; low = 0; width = 0; edge = Any }

pub matches_some-requires : goal.matches_some-requires
matches_some-requires c =
    let xs = c.args.entries.now in
    let i = c.entries.place in
    let x = get_or xs i no_entry in
    AllHold-image entry_of (λ (entry : Entry). IsWidth entry.width) xs i x c.requires c.entries-test.true (got-any xs i no_entry x c.entries-test.true)

pub returns-then-matches_some : goal.returns-then-matches_some
returns-then-matches_some c =
    let xs = c.args.entries.now in
    let i = c.entries.place in
    let x = get_or xs i no_entry in
    first-found entry_of (matches_one (map change_seen c.args.changes.now)) xs i x c.entries.invariant c.entries-test.true (got-any xs i no_entry x c.entries-test.true) (sym c.if-matches_some.ensures)

pub entries-preserved : goal.entries-preserved
entries-preserved c =
    let xs = c.args.entries.now in
    let i = c.entries.place in
    let x = get_or xs i no_entry in
    first-goes_on entry_of (matches_one (map change_seen c.args.changes.now)) xs i x c.entries.invariant c.entries-test.true (got-any xs i no_entry x c.entries-test.true)
    (sym c.if-matches_some.ensures)
