use Rattle.std.proofs.Common.{◌≡◌, ◌++◌, map}
use Rattle.v_design.specs.PlainDesigns.{design_of}
use Rattle.v_design.specs.Accesses.{held_by}
use Rattle.causal_monitor.specs.Notes.{noted_access}
use Rattle.process_table.specs.Arranged.{table_of}
use Rattle.process_table.specs.Noted.{AreHeld}
use Rattle.process_table.specs.Wakes.{listed_below}
use Rattle.process_table.proofs.table.ProcessTable.note_held.Given as goal

abbrev pub invariant-rows : goal.invariant-rows
invariant-rows l = record {
  accesses : map noted_access l.accesses.items ≡ map noted_access l.fn.accesses.items ++ listed_below (held_by (design_of l.self.design.now)) 0 l.number (table_of l.self).processes;
  held : AreHeld (design_of l.self.design.now) l.fn.accesses.items → AreHeld (design_of l.self.design.now) l.accesses.items;
}
