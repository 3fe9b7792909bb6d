use Rattle.std.proofs.Common.{[], ◌≡◌, ◌<◌, ◌+◌, map, subst, sym, ap, ◌∙◌, length, arith}
use Rattle.std.specs.Prelude.{option_map}
use Rattle.std.proofs.lemmas.List.{get_or_default, length-map}
use Rattle.vf_base.specs.Base.{object_number}
use Rattle.four_value.specs.Values.{with_part}
use Rattle.vf_base.specs.Lists.{change_at}
use Rattle.v_design.specs.Plain.{update_of}
use Rattle.v_design.specs.Assignments.{updated}
use Rattle.node_eval.specs.Overlaid.{overlaid, overlaid-front, overlaid-put, once-tabled, changed-to}
use Rattle.node_eval.specs.WriteLaws.{IsAmong, none-has}
use Rattle.node_eval.proofs.block_assign.write_update.Goals as goal

pub unreachable-requires : goal.unreachable-requires
unreachable-requires g c =
    let objects = map object_number c.args.frame.now.outputs.now in
    none-has objects (object_number c.in-Some.update.object) c.in-None-place_of.ensures
    (subst (λ u. IsAmong (map object_number c.args.frame.now.outputs.now) (option_map update_of u)) c.in-Some.is c.requires.among)

pub returns-in-Some-place_of : goal.returns-in-Some-place_of
returns-in-Some-place_of g c =
    let frame = c.args.frame.now in
    let values = g.V.Values.values c.args.frame.now.values.now in
    let object = object_number c.in-Some.update.object in
    let place = c.in-Some-place_of.place in
    let over = overlaid frame.outputs.now c.args.held.now values in
    let once = once-tabled (map object_number frame.outputs.now) frame.places.now 0 (λ k low. frame.tabled k (omega (arith, low, length-map frame.outputs.now object_number))
    ∙ (let e : k ≡ 0 + k = omega arith in e)) in
    let there : object < length values = subst (λ n. n < length values) c.in-Some-place_of.ensures.1 (frame.there place c.in-Some-place_of.ensures.0) in
    let inside : place < length c.args.held.now = omega (arith, c.in-Some-place_of.ensures.0, c.requires.alike) in
    let front = overlaid-front frame.outputs.now c.args.held.now values place object once c.requires.alike c.in-Some-place_of.ensures.0 c.in-Some-place_of.ensures.1 there in
    let own = c.place.ensures ∙ ap (λ v. with_part v c.in-Some.update.low c.in-Some.update.value)
    (c.index-held-place.is ∙ get_or_default c.args.held.now place c.index-held-place.result [] inside ∙ sym front) in
    overlaid-put frame.outputs.now c.args.held.now values place object c.place.result once c.requires.alike c.in-Some-place_of.ensures.0 c.in-Some-place_of.ensures.1
    ∙ ap (λ v. change_at (overlaid c.args.frame.now.outputs.now c.args.held.now (g.V.Values.values c.args.frame.now.values.now)) (object_number c.in-Some.update.object) (λ old. v)) own
    ∙ changed-to over object (λ v. with_part v c.in-Some.update.low c.in-Some.update.value)
    ∙ sym (ap (λ u. updated (overlaid c.args.frame.now.outputs.now c.args.held.now (g.V.Values.values c.args.frame.now.values.now)) (option_map update_of u)) c.in-Some.is)
