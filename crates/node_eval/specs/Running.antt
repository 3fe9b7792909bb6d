-- When a statement may be run over some values, and that running it keeps their widths (IEEE 1364-2001, clause 9).
use Rattle.std.proofs.Common.{◌≡◌, ℕ, zero, suc, ◌≤◌, Bool, true, false, List, [], ◌∷◌, length, map, fold, refl, ap, sym, ◌∙◌, subst, inl, inr, arith, Option, Some, None}
use Rattle.std.proofs.lemmas.Bool.{cases_eq}
use Rattle.vf_base.specs.declared.ids.ObjectId.{ObjectId}
use Rattle.vf_base.specs.Base.{object_number}
use Rattle.four_value.specs.Values.{LogicValue, is_true, with_part}
use Rattle.four_value.specs.ValueLaws.{length-with_part}
use Rattle.four_value.specs.declared.operator.CaseKind.{CaseKind}
use Rattle.vf_base.specs.Lists.{has, change_at}
use Rattle.v_design.specs.Trees.{Piece, Statement, Null, Block, If, Case, For, While, Repeat, Forever, Delay, EventControl, Wait, Blocking, Nonblocking, Finish, Statements, no_statements}
use Rattle.v_design.specs.Trees.{more_statements, CaseItems, no_items, more_items}
use Rattle.v_design.specs.Expressions.{value_of}
use Rattle.v_design.specs.Assignments.{ValueUpdate, value_at, updated, either_values, some_label_matches, label_values, run_statement, run_statements, run_items, target_updates, index_value}
use Rattle.v_design.specs.Reads.{named_by, written_objects}
use Rattle.v_design.specs.Sized.{IsSizedStatement, levels_of_statement}
use Rattle.v_design.specs.WellFormed.{most_levels}
use Rattle.expr_eval.specs.Operands.{AreThere}
use Rattle.node_eval.specs.Overlaid.{length-change_at, changed-other}

-- a statement may be run over some values, and writes no objects but the outputs
pub record MayRun (values : List LogicValue) (outputs : List ObjectId) (statement : Statement) : Type 0 where
  pub sized : IsSizedStatement statement
  pub there : AreThere values (named_by statement)
  pub written : (object : ℕ) → has (written_objects statement) object ≡ true → has (map object_number outputs) object ≡ true
  pub levels : levels_of_statement statement ≤ most_levels

-- Widths

-- values of the same objects with the same widths
pub record AreAlike (one other : List LogicValue) : Type 0 where
  pub count : length one ≡ length other
  pub widths : (object : ℕ) → length (value_at one object) ≡ length (value_at other object)

alike-same : (values : List LogicValue) → AreAlike values values
alike-same values = record { count = refl; widths = λ object. refl }

alike-then : (one other third : List LogicValue) → AreAlike one other → AreAlike other third → AreAlike one third
alike-then one other third a b = record { count = a.count ∙ b.count; widths = λ object. a.widths object ∙ b.widths object }

part-here : (values : List LogicValue) (object low : ℕ) (part : LogicValue) → length (value_at (change_at values object (λ old. with_part old low part)) object) ≡ length (value_at values object)
part-here [] object low part = refl
part-here (v ∷ values) zero low part = length-with_part v low part
part-here (v ∷ values) (suc object) low part = part-here values object low part

alike-updated : (values : List LogicValue) (update : Option ValueUpdate) → AreAlike (updated values update) values
alike-updated values None = alike-same values
alike-updated values (Some update) = record {
  count = length-change_at values update.object (λ old. with_part old update.low update.value);
  widths = λ object.
      elim (cases_eq object update.object) [
        | inl same ↦
            subst (λ o. length (value_at (change_at values update.object (λ old. with_part old update.low update.value)) o) ≡ length (value_at values o)) (sym same)
            (part-here values update.object update.low update.value)
        | inr other ↦ ap length (changed-other values update.object object (λ old. with_part old update.low update.value) (λ e. other (sym e)))
      ];
}

alike-all : (values : List LogicValue) (updates : List (Option ValueUpdate)) → AreAlike (fold updated values updates) values
alike-all values [] = alike-same values
alike-all values (update ∷ updates) = alike-then _ _ _ (alike-all (updated values update) updates) (alike-updated values update)

alike-either : (test : Bool) (one other values : List LogicValue) → AreAlike one values → AreAlike other values → AreAlike (either_values test one other) values
alike-either true one other values a b = a
alike-either false one other values a b = b

mutual
  -- a statement keeps the widths of all values
  pub alike-run : (statement : Statement) (values : List LogicValue) → AreAlike (run_statement statement values) values
  alike-run Null values = alike-same values
  alike-run (Block statements) values = alike-statements statements values
  alike-run (If place condition first second) values =
      alike-either (is_true (value_of (value_at values) condition)) (run_statement first values) (run_statement second values) values (alike-run first values) (alike-run second values)
  alike-run (Case place kind value items default) values = alike-items kind (value_of (value_at values) value) items values (run_statement default values) (alike-run default values)
  alike-run (For place first_targets first condition next_targets next body) values = alike-same values
  alike-run (While place condition body) values = alike-same values
  alike-run (Repeat place count body) values = alike-same values
  alike-run (Forever place body) values = alike-same values
  alike-run (Delay place delay body) values = alike-same values
  alike-run (EventControl place entries body) values = alike-same values
  alike-run (Wait place condition body) values = alike-same values
  alike-run (Blocking place targets delay value) values = alike-all values (target_updates place.line targets (map (index_value values) targets) (value_of (value_at values) value))
  alike-run (Nonblocking place targets delay value) values = alike-same values
  alike-run (Finish place) values = alike-same values

  alike-statements : (statements : Statements) (values : List LogicValue) → AreAlike (run_statements statements values) values
  alike-statements no_statements values = alike-same values
  alike-statements (more_statements first rest) values = alike-then _ _ _ (alike-statements rest (run_statement first values)) (alike-run first values)

  alike-items : (kind : CaseKind) (value : LogicValue) (items : CaseItems) (values otherwise : List LogicValue) → AreAlike otherwise values →
      AreAlike (run_items kind value items values otherwise) values
  alike-items kind value no_items values otherwise h = h
  alike-items kind value (more_items labels statement rest) values otherwise h =
      alike-either (some_label_matches kind value (label_values (value_at values) labels)) (run_statement statement values) (run_items kind value rest values otherwise) values
      (alike-run statement values) (alike-items kind value rest values otherwise h)

there-alike : (one other : List LogicValue) (pieces : List Piece) → AreAlike one other → AreThere other pieces → AreThere one pieces
there-alike one other [] alike there = tt
there-alike one other (piece ∷ pieces) alike there = (
  (omega (arith, there.0.0, alike.count), alike.widths piece.object ∙ there.0.1),
  there-alike one other pieces alike there.1,
)

-- what may be run before a statement may be run after it
pub may-after : (values : List LogicValue) (outputs : List ObjectId) (statement before : Statement) → MayRun values outputs statement → MayRun (run_statement before values) outputs statement
may-after values outputs statement before may = record {
  sized = may.sized;
  there = there-alike (run_statement before values) values (named_by statement) (alike-run before values) may.there;
  written = may.written;
  levels = may.levels;
}
