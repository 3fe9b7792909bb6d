use Rattle.std.proofs.Common.{drop}
use Rattle.v_tree.specs.Views.{expressions_of}
use Rattle.v_names.specs.Readings.{parts_reading}
use Rattle.expr_sizes.specs.PartReadings.{AreReadSo}
use Rattle.expr_sizes.proofs.read.+read_expr.Given as goal

abbrev pub invariant-read_parts-parts : goal.invariant-read_parts-parts
invariant-read_parts-parts l = AreReadSo (parts_reading l.scope (expressions_of l.parts)) (parts_reading l.scope (expressions_of (drop l.part-index l.parts))) l.read
