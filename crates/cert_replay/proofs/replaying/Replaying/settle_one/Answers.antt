-- The least node with work is worked on.
use Rattle.std.proofs.Common.{◌<◌, ◌∙◌, List, length, refl, sym, ap, subst}
use Rattle.vf_base.specs.Base.{node_number}
use Rattle.v_design.specs.Designs.{Machine}
use Rattle.v_design.specs.States.{NodeState}
use Rattle.cert_replay.specs.declared.replaying.Replaying.{Replaying}
use Rattle.cert_replay.proofs.Going.{in-slot, stays-on, works-on, works-none}
use Rattle.cert_replay.proofs.replaying.Replaying.settle_one.Goals as goal

pub work_node-requires-clause-design : goal.work_node-requires-clause-design
work_node-requires-clause-design c =
    let k = c.requires.keeps in
    k.graph_is ∙ sym (ap (λ (m : Machine). m.design) (c.least_node.ensures.machine ∙ k.amid.both.machine_is))

pub work_node-requires-clause-stands : goal.work_node-requires-clause-stands
work_node-requires-clause-stands c =
    let old = c.args.self.now in
    let mid : Replaying = record old { nets = c.least_node.new.self } in
    in-slot mid
    (record {
      machine = c.requires.machine;
      replay = c.requires.replay;
      keeps = stays-on old mid c.least_node.ensures.machine c.least_node.ensures.values c.least_node.ensures.nodes refl c.requires.machine c.requires.replay c.requires.keeps;
    })

pub work_node-requires-clause-node : goal.work_node-requires-clause-node
work_node-requires-clause-node c = subst (λ (ns : List NodeState). node_number c.in-Some.node < length ns) (sym c.least_node.ensures.nodes) c.in-Some.ensures.there

pub returns-in-None : goal.returns-in-None
returns-in-None c =
    let old = c.args.self.now in
    let mid : Replaying = record old { nets = c.least_node.new.self } in
    works-none old mid c.in-None.ensures.least (stays-on old mid c.least_node.ensures.machine c.least_node.ensures.values c.least_node.ensures.nodes refl) (record { race = refl; bound = refl })

pub returns-in_ok-work_node-in-Some : goal.returns-in_ok-work_node-in-Some
returns-in_ok-work_node-in-Some c =
    let old = c.args.self.now in
    let mid : Replaying = record old { nets = c.least_node.new.self } in
    works-on (node_number c.in-Some.node) old mid _ c.in-Some.ensures.least c.in-Some.ensures.there
    (stays-on old mid c.least_node.ensures.machine c.least_node.ensures.values c.least_node.ensures.nodes refl) c.in_ok-work_node-in-Some.ensures refl refl refl (record { race = refl; bound = refl })
    (record { race = refl; bound = refl })
