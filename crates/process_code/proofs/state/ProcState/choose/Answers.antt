use Rattle.std.proofs.Common.{◌<◌, ◌≤◌, ◌+◌, length, subst, ap, arith}
use Rattle.v_design.specs.Trees.{Null}
use Rattle.v_design.specs.Plain.{expression_of}
use Rattle.v_design.specs.PlainLemmas.{items_of}
use Rattle.process_operands.specs.Bounds.{Bounds, reads_most, reads_most_items}
use Rattle.process_operands.specs.BoundsLaws.{bounds-case}
use Rattle.process_code.proofs.state.ProcState.choose.Goals as goal

pub read-requires-clause-there : goal.read-requires-clause-there
read-requires-clause-there g c =
    let limit = length (g.V.Values.values c.args.values.now) in
    let operands = c.deref.result.now in
    let value = expression_of c.args.value.now in
    let items = items_of c.args.items.now in
    (subst (Bounds (reads_most value + reads_most_items items) limit operands) (c.in-Err.ensures.needs Null)
    (bounds-case limit c.args.kind value items Null operands c.requires.there.0 c.requires.there.1)).0

pub read-requires-clause-space : goal.read-requires-clause-space
read-requires-clause-space g c =
    let limit = length (g.V.Values.values c.args.values.now) in
    let operands = c.deref.result.now in
    let value = expression_of c.args.value.now in
    let items = items_of c.args.items.now in
    omega (
      arith,
      (subst (Bounds (reads_most value + reads_most_items items) limit operands) (c.in-Err.ensures.needs Null)
          (bounds-case limit c.args.kind value items Null operands c.requires.there.0 c.requires.there.1)).1,
      c.requires.space,
      ap length c.deref.ensures.value,
    )
