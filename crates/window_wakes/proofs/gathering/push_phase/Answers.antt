-- Event by event.
use Rattle.std.proofs.Common.{◌≡◌, ℕ, ◌<◌, ◌++◌, length, map, sym, ap, ◌∙◌, arith}
use Rattle.slot_record.specs.Records.{event_of}
use Rattle.window_wakes.specs.Gathered.{causes_of, wake_by}
use Rattle.window_wakes.specs.Wakes.{wake_of}
use Rattle.window_wakes.proofs.Phases.{events-none, events-more, events-all, causes-long}
use Rattle.window_wakes.proofs.gathering.push_phase.Goals as goal

pub events-init : goal.events-init
events-init c = events-none c.args.first (map event_of c.args.actors.now) (causes_of c.args.log.now.log) (map wake_of c.args.wakes.now.items)

pub push_event-requires : goal.push_event-requires
push_event-requires c = λ number is.
    let before : number < c.events.number = c.event_count-count.ensures.earlier c.events.number number (sym c.cause_of-cause.ensures ∙ is) in
    let low : c.events.number < length c.args.actors.now = c.events-test.true in
    omega (arith, before, low)

pub events-preserved : goal.events-preserved
events-preserved c =
    let long : length c.args.actors.now ≡ length (causes_of c.args.log.now.log) = c.requires ∙ sym (causes-long c.args.log.now) in
    events-more c.args.first c.args.actors.now (causes_of c.args.log.now.log) c.events.number _ c.cause_of-cause.result (map wake_of c.args.wakes.now.items) (map wake_of c.events.wakes.items)
    (map wake_of c.push_event.new.wakes.items) c.events-test.true long c.events.invariant c.cause_of-cause.ensures c.in_ok-push_event.ensures

pub returns : goal.returns
returns c =
    let long : length c.args.actors.now ≡ length (causes_of c.args.log.now.log) = c.requires ∙ sym (causes-long c.args.log.now) in
    events-all c.args.first c.args.actors.now (causes_of c.args.log.now.log) c.events.number (map wake_of c.args.wakes.now.items) (map wake_of c.events.wakes.items) c.events-test.false long
    c.events.invariant
