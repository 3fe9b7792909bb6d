use Rattle.std.proofs.Common.{[], sym, subst}
use Rattle.vf_base.specs.Base.{source_place}
use Rattle.v_tree.specs.declared.expression.Index.{Index}
use Rattle.v_tree.specs.Views.{expression_of, index_of}
use Rattle.v_names.specs.Readings.{alone_faults, reading_of, select_reading}
use Rattle.expr_sizes.specs.ExprReadings.{IsReading}
use Rattle.expr_sizes.proofs.ExprLaws.{name-read, bit-read, part-read}
use Rattle.expr_sizes.proofs.select.read_select.Goals as goal

pub returns-in_ok-read-in-Whole : goal.returns-in_ok-read-in-Whole
returns-in_ok-read-in-Whole c =
    let place = source_place c.args.select.now.place in
    let P : Index → Type 0 = λ i. IsReading (select_reading c.args.scope.now place c.args.select.now.name (index_of i)) c.in_ok-read-in-Whole.read in
    subst P (sym c.in-Whole.is) (name-read c.args.scope.now place c.args.select.now.name _ c.in_ok-read-in-Whole.read c.lookup-entry.ensures c.in_ok-read-in-Whole.ensures)

pub returns-in_ok-read-in-Bit : goal.returns-in_ok-read-in-Bit
returns-in_ok-read-in-Bit c =
    let place = source_place c.args.select.now.place in
    let index = expression_of c.in-Bit.index in
    let P : Index → Type 0 = λ i. IsReading (select_reading c.args.scope.now place c.args.select.now.name (index_of i)) c.in_ok-read-in-Bit.read in
    subst P (sym c.in-Bit.is)
    (bit-read c.args.scope.now place c.args.select.now.name index _ c.in_ok-read-in-Bit.read c.lookup-entry.ensures
    (c.in_ok-read-in-Bit.ensures (reading_of c.args.scope.now index) c.in_ok-index-in-Bit.ensures))

pub returns-in_ok-read-in-Part : goal.returns-in_ok-read-in-Part
returns-in_ok-read-in-Part c =
    let scope = c.args.scope.now in
    let place = source_place c.args.select.now.place in
    let from = expression_of c.in-Part.from in
    let to = expression_of c.in-Part.to in
    let f = c.in_ok-first-in-Part.ensures in
    let s = c.in_ok-second-in-Part.ensures in
    let P : Index → Type 0 = λ i. IsReading (select_reading scope place c.args.select.now.name (index_of i)) c.in_ok-read-in-Part.read in
    subst P (sym c.in-Part.is)
    (part-read scope place c.args.select.now.name from to _ c.in_ok-from-in-Part.from c.in_ok-to-in-Part.to c.in_ok-read-in-Part.read c.lookup-entry.ensures c.in_ok-from-in-Part.ensures
    c.in_ok-to-in-Part.ensures
    (c.in_ok-read-in-Part.ensures _
    (c.together-inside.ensures [] (alone_faults (reading_of scope from)) [] (alone_faults (reading_of scope to))
    (c.alone_faults-first_faults.ensures (reading_of scope from) f) (c.alone_faults-second_faults.ensures (reading_of scope to) s))))
