-- What comes of the modules so far is what comes of all.
use Rattle.std.proofs.Common.{◌≡◌, [], map, length}
use Rattle.v_tree.specs.Views.{module_of}
use Rattle.v_readers.specs.Reading.{repeat}
use Rattle.v_parse.specs.Items.{modules_turn}
use Rattle.v_parse.proofs.modules.unit.Given as goal

abbrev pub invariant-modules : goal.invariant-modules
invariant-modules l = repeat (modules_turn l.levels) [] l.fn.tokens ≡ repeat (modules_turn l.levels) (map module_of l.modules.items) l.rest

abbrev pub decreases-modules : goal.decreases-modules
decreases-modules l = length l.rest
