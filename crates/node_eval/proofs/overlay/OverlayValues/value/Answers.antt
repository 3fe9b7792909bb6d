use Rattle.std.proofs.Common.{[], ◌≡◌, ◌<◌, ◌+◌, map, subst, sym, ◌∙◌, length, arith}
use Rattle.std.proofs.lemmas.List.{get_or_default, length-map}
use Rattle.vf_base.specs.Base.{object_number}
use Rattle.node_eval.specs.Overlaid.{length-overlaid, overlaid-front, overlaid-behind, once-tabled}
use Rattle.node_eval.proofs.overlay.OverlayValues.value.Goals as goal

pub value-requires : goal.value-requires
value-requires g c =
    subst (λ n. object_number c.args.object < n) (length-overlaid c.args.self.now.frame.now.outputs.now c.args.self.now.held.now (g.V.Values.values c.args.self.now.frame.now.values.now)) c.requires

pub returns-in-Some : goal.returns-in-Some
returns-in-Some g c =
    let frame = c.args.self.now.frame.now in
    let once = once-tabled (map object_number frame.outputs.now) frame.places.now 0 (λ k low. frame.tabled k (omega (arith, low, length-map frame.outputs.now object_number))
    ∙ (let e : k ≡ 0 + k = omega arith in e)) in
    let there : object_number c.args.object < length (g.V.Values.values c.args.self.now.frame.now.values.now) =
    subst (λ n. object_number c.args.object < n) (length-overlaid frame.outputs.now c.args.self.now.held.now (g.V.Values.values c.args.self.now.frame.now.values.now)) c.requires in
    let inside : c.in-Some.place < length c.args.self.now.held.now = omega (arith, c.in-Some.ensures.0, c.args.self.now.alike) in
    get_or_default c.args.self.now.held.now c.in-Some.place c.index-self-place.result [] inside
    ∙ sym (overlaid-front frame.outputs.now c.args.self.now.held.now (g.V.Values.values c.args.self.now.frame.now.values.now) c.in-Some.place
    (object_number c.args.object) once c.args.self.now.alike c.in-Some.ensures.0 c.in-Some.ensures.1 there)

pub returns-in-None : goal.returns-in-None
returns-in-None g c =
    let frame = c.args.self.now.frame.now in
    c.value.ensures ∙ sym (overlaid-behind frame.outputs.now c.args.self.now.held.now (g.V.Values.values c.args.self.now.frame.now.values.now) (object_number c.args.object) c.in-None.ensures)
