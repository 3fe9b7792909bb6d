use Rattle.std.proofs.Common.{◌≡◌, sym, ◌∙◌, ap, get_or, map, inl, inr, arith}
use Rattle.std.proofs.lemmas.Bool.{cases_lt}
use Rattle.std.proofs.lemmas.List.{get_or-map, get_or-set_other, length-map}
use Rattle.std.proofs.lemmas.Grind.{get_or-set_at}
use Rattle.vf_base.specs.Base.{object_number}
use Rattle.node_eval.specs.Overlaid.{once-apart}
use Rattle.node_eval.proofs.room.tell_places.Goals as goal

pub bounds-places-output : goal.bounds-places-output
bounds-places-output c =
    let own = get_or-map object_number c.args.outputs.now c.outputs.number (record { 0 = 0 }) 0 c.outputs-test.true in
    omega (arith, own, c.requires.within c.outputs.number c.outputs-test.true, c.outputs.auto.places)

pub outputs-preserved : goal.outputs-preserved
outputs-preserved c k low =
    let own = get_or-map object_number c.args.outputs.now c.outputs.number (record { 0 = 0 }) 0 c.outputs-test.true in
    elim (cases_lt k c.outputs.number) [
      | inl less ↦
          get_or-set_other c.outputs.places _ _ c.outputs.number 0 (λ e. once-apart (map object_number c.args.outputs.now) k c.outputs.number c.requires.once less
          (omega (arith, c.outputs-test.true, length-map c.args.outputs.now object_number)) (e ∙ sym own))
          ∙ c.outputs.invariant k less
      | inr past ↦
          let here : k ≡ c.outputs.number = omega (arith, low, past) in
          get_or-set_at c.outputs.places _ _ c.outputs.number 0 (ap (λ n. get_or (map object_number c.args.outputs.now) n 0) here ∙ own)
          (omega (arith, own, c.requires.within c.outputs.number c.outputs-test.true, c.outputs.auto.places))
          ∙ sym here
    ]
