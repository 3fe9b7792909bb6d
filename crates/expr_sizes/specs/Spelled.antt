-- The select that an expression spells (IEEE 1364-2001, annex A.8.5).
use Rattle.std.specs.Prelude.{Option, Some, None}
use Rattle.v_tree.specs.Trees.{SourceExpression, Number, Selected, Parenthesised, Prefixed, Infixed, Chosen, Concatenated, Replicated, SourceSelect}

-- none where it is none
abbrev pub select_spelled : SourceExpression → Option SourceSelect
select_spelled (Number place form value) = None
select_spelled (Selected place name index) = Some (record { place = place; name = name; index = index })
select_spelled (Parenthesised place inner) = None
select_spelled (Prefixed place operator operand) = None
select_spelled (Infixed place operator left right) = None
select_spelled (Chosen place condition first second) = None
select_spelled (Concatenated place parts) = None
select_spelled (Replicated place count parts) = None
