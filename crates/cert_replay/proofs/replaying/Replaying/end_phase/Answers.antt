-- The phase is logged, and may end or not.
use Rattle.std.proofs.Common.{◌∙◌, not, ◌||◌, refl, ap}
use Rattle.std.specs.Prelude.{Option, is_some}
use Rattle.vf_base.specs.declared.finding.Pair.{Pair}
use Rattle.cert_replay.proofs.Turning.{log-named, ends-not, ends-told}
use Rattle.cert_replay.proofs.replaying.Replaying.end_phase.Goals as goal

pub end_phase-requires : goal.end_phase-requires
end_phase-requires c =
    log-named c.is_quiescent.new.self
    (record { machine = c.requires.machine; replay = c.requires.replay; keeps = c.is_quiescent.ensures.stays c.requires.machine c.requires.replay c.requires.keeps })

pub returns-then-not-is_quiescent : goal.returns-then-not-is_quiescent
returns-then-not-is_quiescent c = ends-not c.args.self.now c.is_quiescent.new.self c.is_quiescent.result c.if-not-is_quiescent.true c.is_quiescent.ensures

pub returns : goal.returns
returns c =
    ends-told c.phases_go_on.ensures.races c.writes_stay.ensures.stay c.args.self.now c.is_quiescent.new.self _ c.is_quiescent.result c.may_pass.result c.if-not-is_quiescent.false
    c.is_quiescent.ensures c.in_ok-end_phase.ensures refl (record { race = refl; bound = refl })
    (c.may_pass.ensures ∙ ap (λ (found : Option Pair). c.is_quiescent.new.self.race || not (is_some found)) c.race.ensures)
