-- The phase is looked into, where it is the claimed one.
use Rattle.std.proofs.Common.{◌∙◌, sym, ap}
use Rattle.std.specs.Prelude.{option_map}
use Rattle.vf_base.specs.Base.{reported_pair}
use Rattle.v_design.specs.PlainDesigns.{design_of}
use Rattle.cert_replay.proofs.Looking.{looked-otherwhen, looked-otherwhere, looked-there, names-of}
use Rattle.cert_replay.proofs.replaying.Replaying.look.Goals as goal

pub claimed_pair-requires-clause-log : goal.claimed_pair-requires-clause-log
claimed_pair-requires-clause-log c = let is = c.requires in names-of c.args.self.now is c.phase_log.result.now.log (c.phase_log.ensures.named is.machine is.replay is.ended)

pub returns-then-now-time : goal.returns-then-now-time
returns-then-now-time c = λ machine replay h.
    looked-otherwhen machine replay c.args.self.now h c.args.time c.args.number c.args.first.now c.args.second.now (option_map reported_pair c.args.before)
    (λ e. c.if-now-time.true (c.time-now.ensures ∙ e))

pub returns-then-present-number : goal.returns-then-present-number
returns-then-present-number c = λ machine replay h.
    looked-otherwhere machine replay c.args.self.now h c.args.time c.args.number c.args.first.now c.args.second.now (option_map reported_pair c.args.before)
    (λ e. c.if-present-number.true (c.number-present.ensures ∙ e))

pub returns : goal.returns
returns c = λ machine replay h.
    looked-there machine replay c.args.self.now h c.args.time c.args.number c.args.first.now c.args.second.now (option_map reported_pair c.args.before)
    (design_of c.args.self.now.graph.now.design.now) c.phase_log.result.now.log (option_map reported_pair c.in_ok-found.found) (sym c.time-now.ensures ∙ c.if-now-time.false) (sym c.number-present.ensures ∙ c.if-present-number.false) h.graph_is
    (c.phase_log.ensures.log machine replay h) c.in_ok-found.ensures
