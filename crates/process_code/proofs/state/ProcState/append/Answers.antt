use Rattle.std.proofs.Common.{◌≡◌, ◌<◌, ◌≤◌, ◌+◌, length, map, subst, ap, arith}
use Rattle.std.specs.Prelude.{option_map}
use Rattle.v_design.specs.Plain.{expression_of, target_of, update_of}
use Rattle.process_operands.specs.Bounds.{Bounds}
use Rattle.process_operands.specs.BoundsLaws.{bounds-assignment}
use Rattle.process_code.specs.Points.{Point}
use Rattle.process_code.specs.StatesOf.{most_of_assignment}
use Rattle.process_code.specs.UpdateLaws.{has_updates}
use Rattle.process_code.proofs.state.ProcState.append.Goals as goal

pub read-requires-clause-there : goal.read-requires-clause-there
read-requires-clause-there g c =
    let limit = length (g.V.Values.values c.args.values.now) in
    let operands = c.args.self.now.operands.items in
    let value = expression_of c.args.value.now in
    let targets = map target_of c.args.targets.now in
    (subst (Bounds (most_of_assignment targets value) limit operands) c.in-Err.ensures.needs.0
    (bounds-assignment limit c.args.place.line targets value operands c.requires.there.1 c.requires.there.0)).0

pub read-requires-clause-space : goal.read-requires-clause-space
read-requires-clause-space g c =
    let limit = length (g.V.Values.values c.args.values.now) in
    let operands = c.args.self.now.operands.items in
    let value = expression_of c.args.value.now in
    let targets = map target_of c.args.targets.now in
    let few = (subst (Bounds (most_of_assignment targets value) limit operands) c.in-Err.ensures.needs.0
    (bounds-assignment limit c.args.place.line targets value operands c.requires.there.1 c.requires.there.0)).1 in
    let same : length c.fill.new.self.operands.items ≡ length operands = ap (λ (p : Point). length p.operands) c.in-Err.ensures.needs.1 in
    omega (arith, few, same, c.in-Err.ensures.needs.2, c.requires.space.0)

pub next_update-requires-clause-some : goal.next_update-requires-clause-some
next_update-requires-clause-some g c =
    let has = c.in-Ok.ensures.has in
    has_updates (option_map update_of) c.fill.new.self.updates.items c.args.place.line (map target_of c.args.targets.now)
    (expression_of c.args.value.now) c.args.self.now.operands.items has.0 c.requires.sized.1 has.1
