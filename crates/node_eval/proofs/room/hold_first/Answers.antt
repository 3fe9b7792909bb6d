use Rattle.std.proofs.Common.{◌<◌, subst, length}
use Rattle.std.proofs.lemmas.List.{get_or-map}
use Rattle.vf_base.specs.Base.{object_number}
use Rattle.node_eval.proofs.room.hold_first.Goals as goal

pub value-requires : goal.value-requires
value-requires g c =
    subst (λ n. n < length (g.V.Values.values c.args.values.now)) (get_or-map object_number c.args.outputs.now c.outputs.number (record { 0 = 0 }) 0 c.outputs-test.true)
    (c.requires.there c.outputs.number c.outputs-test.true)
