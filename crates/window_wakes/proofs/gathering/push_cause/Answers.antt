-- The wake that a cause tells.
use Rattle.std.proofs.Common.{◌≡◌, ℕ, ◌+◌, ◌<◌, ◌++◌, ◌∷◌, [], length, map, sym, ap, ◌∙◌, rules, arith}
use Rattle.std.proofs.lemmas.List.{map_push}
use Rattle.vf_base.specs.Base.{process_number}
use Rattle.slot_record.specs.Records.{event_of}
use Rattle.window_wakes.specs.Gathered.{wake_by}
use Rattle.window_wakes.specs.Wakes.{wake_of}
use Rattle.window_wakes.proofs.Phases.{steps-at, cause-own, cause-other}
use Rattle.window_wakes.proofs.gathering.push_cause.Goals as goal

pub returns-then-is_step : goal.returns-then-is_step
returns-then-is_step c =
    let low : c.in-Some.number < length c.args.actors.now = c.requires c.in-Some.number c.in-Some.is in
    cause-own c.args.first (map event_of c.args.actors.now) (process_number c.args.process) c.in-Some.number c.args.cause (map wake_of c.args.wakes.now.items) c.in-Some.is
    (steps-at c.args.actors.now (process_number c.args.process) c.in-Some.number _ low ∙ sym c.is_step.ensures ∙ c.if-is_step.true)

pub returns : goal.returns
returns c =
    let low : c.in-Some.number < length c.args.actors.now = c.requires c.in-Some.number c.in-Some.is in
    ap (map wake_of) c.in_ok-push.ensures.items ∙ map_push wake_of c.args.wakes.now.items (record { moment = c.in-Ok.moment; process = c.args.process })
    ∙ cause-other c.args.first (map event_of c.args.actors.now) (process_number c.args.process) c.in-Some.number c.in-Ok.moment c.args.cause (map wake_of c.args.wakes.now.items) c.in-Some.is
    (steps-at c.args.actors.now (process_number c.args.process) c.in-Some.number _ low ∙ sym c.is_step.ensures ∙ c.if-is_step.false) (search rules)
