use Rattle.std.proofs.Common.{◌≡◌, ◌≤◌, ◌+◌, ◌*◌, ◌++◌, length, List, drop, take}
use Rattle.v_design.specs.Plain.{statement_of}
use Rattle.v_design.specs.Sized.{levels_of_statement, levels_of_statements, levels_of_items}
use Rattle.process_code.specs.Rests.{Part, opened_all_parts}
use Rattle.process_code.specs.Positions.{StandsAt, ItemsLead}
use Rattle.v_design.specs.PlainLemmas.{statements_of, items_of}
use Rattle.process_code.specs.Marks.{marks_of_all, marks_of_items}
use Rattle.process_code.specs.Layouts.{laid_out_all, laid_out_items}
use Rattle.process_code.specs.Compiling.{rests_in, marks_in, layout_in, IsInStep, Grows}
use Rattle.process_code.proofs.builder.Builder.+compile.Given as goal

-- the statements from `left` on are compiled, and begin at `entry`
abbrev pub invariant-block-statements : goal.invariant-block-statements
invariant-block-statements l =
    record {
      in_step : IsInStep l.self;
      grows : Grows l.fn.self l.self;
      there : l.entry ≤ length l.self.spots.items;
      in_range : l.left ≤ length l.statements;
      opens : (rest : List Part) → StandsAt (rests_in l.fn.self) l.next rest → StandsAt (rests_in l.self) l.entry (opened_all_parts (statements_of (drop l.left l.statements)) rest);
      marks : marks_in l.self ≡ marks_in l.fn.self ++ marks_of_all (statements_of (drop l.left l.statements));
      layout : (rest : List Part) → StandsAt (rests_in l.fn.self) l.next rest → layout_in l.self ≡ laid_out_all (statements_of (drop l.left l.statements)) rest (layout_in l.fn.self);
    }

abbrev pub decreases-block-statements : goal.decreases-block-statements
decreases-block-statements l = l.left

-- the items so far are compiled
abbrev pub invariant-items-loop-item : goal.invariant-items-loop-item
invariant-items-loop-item l =
    record {
      in_step : IsInStep l.self;
      grows : Grows l.fn.self l.self;
      lead : (rest : List Part) → StandsAt (rests_in l.fn.self) l.next rest → ItemsLead (rests_in l.self) l.positions.items (items_of (take l.item-index l.items)) rest;
      marks : marks_in l.self ≡ marks_in l.fn.self ++ marks_of_items (items_of (take l.item-index l.items));
      layout : (rest : List Part) → StandsAt (rests_in l.fn.self) l.next rest → layout_in l.self ≡ laid_out_items (items_of (take l.item-index l.items)) rest (layout_in l.fn.self);
    }

-- what is compiled within stands one level below
abbrev pub decreases-statement : goal.decreases-statement
decreases-statement l = 2 * levels_of_statement (statement_of l.statement.now)

abbrev pub decreases-block : goal.decreases-block
decreases-block l = 2 * levels_of_statements (statements_of l.statements.now) + 1

abbrev pub decreases-items : goal.decreases-items
decreases-items l = 2 * levels_of_items (items_of l.items.now) + 1
