use Rattle.std.proofs.Common.{◌++◌, List, ℕ, map, replicate, Option, Some, None, ap, arith}
use Rattle.v_design.specs.Expressions.{up_from}
use Rattle.object_statements.proofs.Runs.{run-few, place-few}
use Rattle.object_statements.proofs.waits.selected.Goals as goal

pub overflow_cast-outside_below : goal.overflow_cast-outside_below
overflow_cast-outside_below c =
    let few = run-few c.args.bits.outside_below c.args.bits.low c.args.bits.width c.args.bits.outside_above c.requires in
    let all = few.0 in
    omega (arith, all)

pub overflow_cast-low : goal.overflow_cast-low
overflow_cast-low c =
    let few = run-few c.args.bits.outside_below c.args.bits.low c.args.bits.width c.args.bits.outside_above c.requires in
    let place = place-few c.args.bits.width c.args.bits.low c.first_place-first.result c.first_place-first.ensures.none c.first_place-first.ensures.some few.1 in
    omega (arith, place)

pub overflow_cast-width : goal.overflow_cast-width
overflow_cast-width c =
    let few = run-few c.args.bits.outside_below c.args.bits.low c.args.bits.width c.args.bits.outside_above c.requires in
    let all = few.0 in
    omega (arith, all)

pub overflow_cast-outside_above : goal.overflow_cast-outside_above
overflow_cast-outside_above c =
    let few = run-few c.args.bits.outside_below c.args.bits.low c.args.bits.width c.args.bits.outside_above c.requires in
    let all = few.0 in
    omega (arith, all)

pub returns : goal.returns
returns c =
    let b = c.args.bits in
    ap (λ (places : List ℕ). replicate b.outside_below None ++ (map Some places ++ replicate b.outside_above None)) c.first_place-first.ensures.same
