-- All node events are done.
use Rattle.std.proofs.Common.{◌-◌, ◌∙◌, true, false, length, sym, ap, subst, arith}
use Rattle.std.proofs.lemmas.List.{length-map}
use Rattle.v_design.specs.Designs.{FlatDesign}
use Rattle.v_design.specs.Plain.{node_of}
use Rattle.cert_laws.specs.Replays.{with_events}
use Rattle.cert_replay.specs.Deeds.{SettlesOne}
use Rattle.cert_replay.proofs.Going.{same-run, same-twice, settling-begins, settling-goes, settling-stops, settling-over}
use Rattle.cert_replay.proofs.replaying.Replaying.settle.Goals as goal

pub nodes-init : goal.nodes-init
nodes-init c = record {
  same = same-run c.args.self.now;
  settling = λ machine replay k.
      settling-begins machine replay _ c.args.self.now
      (ap length c.as_slice-left.ensures ∙ sym (length-map c.args.self.now.graph.now.design.now.nodes node_of) ∙ ap (λ (d : FlatDesign). length d.nodes) k.graph_is) k;
}

pub settle_one-requires : goal.settle_one-requires
settle_one-requires c =
    let is = c.requires in
    let s = c.nodes.invariant.settling is.machine is.replay is.keeps in
    record { machine = is.machine; replay = with_events is.machine s.done is.replay; keeps = s.keeps }

pub returns-then-not-branch : goal.returns-then-not-branch
returns-then-not-branch c =
    let one : SettlesOne false c.nodes.self c.settle_one.new.self = subst (λ b. SettlesOne b c.nodes.self c.settle_one.new.self) c.if-not-branch.true c.in_ok-settle_one.ensures in
    record {
      same = same-twice c.args.self.now c.nodes.self c.settle_one.new.self c.nodes.invariant.same one.same;
      settles = λ machine replay k. settling-stops machine replay c.nodes.left c.nodes.self c.settle_one.new.self one (c.nodes.invariant.settling machine replay k);
    }

pub nodes-preserved : goal.nodes-preserved
nodes-preserved c =
    let one : SettlesOne true c.nodes.self c.settle_one.new.self = subst (λ b. SettlesOne b c.nodes.self c.settle_one.new.self) c.if-not-branch.false c.in_ok-settle_one.ensures in
    record {
      same = same-twice c.args.self.now c.nodes.self c.settle_one.new.self c.nodes.invariant.same one.same;
      settling = λ machine replay k.
          settling-goes machine replay c.nodes.left (c.nodes.left - 1) c.nodes.self c.settle_one.new.self (omega (arith, c.nodes-test.true)) one (c.nodes.invariant.settling machine replay k);
    }

pub returns : goal.returns
returns c = record {
  same = c.nodes.invariant.same;
  settles = λ machine replay k. settling-over machine replay c.nodes.left c.nodes.self (omega (arith, c.nodes-test.false)) (c.nodes.invariant.settling machine replay k);
}
