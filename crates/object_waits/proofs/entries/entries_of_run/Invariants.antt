use Rattle.std.proofs.Common.{◌≡◌, ◌≤◌, ◌*◌, ◌++◌, Some, drop, map}
use Rattle.v_design.specs.Plain.{piece_of, entry_of}
use Rattle.v_design.specs.Expressions.{up_from}
use Rattle.v_elab.specs.Statements.{entries_on}
use Rattle.object_waits.proofs.entries.entries_of_run.Given as goal

-- the entries so far, and of the pieces to come theirs
abbrev pub invariant-pieces : goal.invariant-pieces
invariant-pieces l =
    record {
      offset : l.offset ≤ 255 * l.piece-index;
      left : map entry_of l.entries.items ++ entries_on l.edge (map Some (up_from l.low l.width)) l.offset (map piece_of (drop l.piece-index l.pieces))
          ≡ entries_on l.edge (map Some (up_from l.low l.width)) 0 (map piece_of l.pieces);
    }
