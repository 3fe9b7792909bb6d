use Rattle.std.proofs.Common.{◌≡◌, ◌++◌, map, drop}
use Rattle.vf_base.specs.Base.{object_number}
use Rattle.v_design.specs.Plain.{expressions_of}
use Rattle.v_design.specs.Expressions.{parts_objects}
use Rattle.object_reads.proofs.statement.push_all_reads.Given as goal

abbrev pub invariant-exprs : goal.invariant-exprs
invariant-exprs l =
    map object_number l.objects.items ++ parts_objects (expressions_of (drop l.expr-index l.exprs)) ≡ map object_number l.initial.objects.items ++ parts_objects (expressions_of l.exprs)
