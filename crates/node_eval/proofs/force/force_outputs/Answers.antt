use Rattle.std.proofs.Common.{◌≡◌, ◌+◌, ◌<◌, ◌≤◌, [], ap, sym, subst, ◌∙◌, take, map, get_or, length, arith}
use Rattle.std.proofs.lemmas.List.{get_or-map, get_or_default, get_or-set_other, length-map, take_all}
use Rattle.vf_base.specs.Base.{object_number, node_number}
use Rattle.vf_base.specs.Lists.{zip_with}
use Rattle.v_design.specs.Designs.{forced_output}
use Rattle.v_design.specs.Views.{machine_of}
use Rattle.node_eval.specs.Parts.{forced-more}
use Rattle.node_eval.proofs.force.force_outputs.Goals as goal

pub outputs-preserved : goal.outputs-preserved
outputs-preserved c =
    let force = forced_output (machine_of c.args.view.now).fault (node_number c.args.node) in
    let i = c.outputs.number in
    let low : c.outputs.number < length c.args.outputs.now = c.outputs-test.true in
    let inside : c.outputs.number < length c.outputs.held = omega (arith, low, c.requires, c.outputs.auto.held) in
    record {
      forced =
          forced-more force (map object_number c.args.outputs.now) c.args.held.now c.outputs.held i _ _
          (omega (arith, low, length-map c.args.outputs.now object_number)) (omega (arith, c.requires, length-map c.args.outputs.now object_number)) c.outputs.auto.held
          (get_or-map object_number c.args.outputs.now i (record { 0 = 0 }) 0 low)
          (c.forced_output.ensures
          ∙ ap (forced_output (machine_of c.args.view.now).fault (node_number c.args.node) (object_number (get_or c.args.outputs.now c.outputs.number (record { 0 = 0 }))))
          (c.index-held-number.is ∙ get_or_default c.outputs.held i c.index-held-number.result [] inside ∙ c.outputs.invariant.later i (omega arith)))
          c.outputs.invariant.forced;
      later = λ k past. get_or-set_other c.outputs.held i k _ [] (λ e. omega (arith, e, past)) ∙ c.outputs.invariant.later k (omega (arith, past));
    }

pub returns : goal.returns
returns c =
    let all : c.outputs.number ≡ length c.args.outputs.now = omega (arith, c.outputs-test.false, c.outputs.auto.number-end) in
    subst (λ n. take n c.outputs.held ≡ zip_with (forced_output (machine_of c.args.view.now).fault (node_number c.args.node)) (take n (map object_number c.args.outputs.now))
    (take n c.args.held.now)) all c.outputs.invariant.forced
    ∙ ap (λ l. zip_with (forced_output (machine_of c.args.view.now).fault (node_number c.args.node)) l (take (length c.args.outputs.now) c.args.held.now))
    (take_all (length c.args.outputs.now) (map object_number c.args.outputs.now) (omega (arith, length-map c.args.outputs.now object_number)))
