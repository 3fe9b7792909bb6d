-- Readers of parts of lists, as the calls read them one behind the other.
use Rattle.std.specs.Prelude.{ℕ, Bool, true, false, List, [], ◌∷◌, Option, Some, None}
use Rattle.v_tree.specs.declared.item.Direction.{Direction}
use Rattle.v_tree.specs.Trees.{SourceExpression, SourcePorts}
use Rattle.v_readers.specs.declared.class.Class.{Class}
use Rattle.v_readers.specs.declared.class.Class.TheVariants as classes
use Rattle.v_readers.specs.Reading.{Reader, ◌>>=◌, give, by_class, repeat}
use Rattle.v_parse.specs.Items.{port, ports_turn, actual, some_actual}

-- the groups of declared ports
unfoldable pub port_groups : ℕ → Direction → Reader (List SourcePorts)
port_groups k direction = do
  p ← port k direction
  repeat (ports_turn k) (p ∷ [])

-- what is connected by name, which has to be there where a parameter is given
abbrev pub connected : ℕ → Bool → Reader (Option SourceExpression)
connected k true = some_actual k
connected k false = actual k

abbrev pub first_by : ℕ → Option Class → Reader (Option SourceExpression)
first_by k (Some classes.Comma) = give None
first_by k class = some_actual k

-- what is connected first by position, if anything is
unfoldable pub first_position : ℕ → Reader (Option SourceExpression)
first_position k = by_class (first_by k)

abbrev pub position_by : ℕ → Option Class → Reader (Option SourceExpression)
position_by k (Some classes.Comma) = give None
position_by k (Some classes.RightParen) = give None
position_by k class = some_actual k

-- what is connected by position behind a comma, if anything is
unfoldable pub position : ℕ → Reader (Option SourceExpression)
position k = by_class (position_by k)
