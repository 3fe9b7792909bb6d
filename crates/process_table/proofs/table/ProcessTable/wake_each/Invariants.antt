use Rattle.std.proofs.Common.{◌≡◌, map}
use Rattle.vf_base.specs.Base.{process_number}
use Rattle.v_design.specs.PlainDesigns.{design_of}
use Rattle.causal_monitor.specs.Notes.{noted_access}
use Rattle.value_change.specs.Changes.{change_seen}
use Rattle.process_table.specs.Arranged.{IsKept, table_of}
use Rattle.process_table.specs.Noted.{AreNoted}
use Rattle.process_table.specs.Wakes.{IsWokenBelow}
use Rattle.process_table.proofs.Woken.{Reaches}
use Rattle.process_table.proofs.table.ProcessTable.wake_each.Given as goal

abbrev pub invariant-candidates : goal.invariant-candidates
invariant-candidates l = record {
  woken : IsWokenBelow (map change_seen l.changes) (table_of l.fn.self) (table_of l.self) (map noted_access l.fn.accesses.items) (map noted_access l.accesses.items)
      (map process_number l.fn.ended.items) (map process_number l.ended.items) l.next;
  reaches : Reaches l.candidates l.number-index l.next;
  noted : AreNoted (design_of l.fn.self.design.now) l.fn.accesses.items → AreNoted (design_of l.fn.self.design.now) l.accesses.items;
  design : design_of l.self.design.now ≡ design_of l.fn.self.design.now;
  kept : IsKept l.self;
}
