-- Slot by slot, and where the loop ends.
use Rattle.std.proofs.Common.{◌≡◌, ◌<◌, ◌≤◌, Some, refl, sym, subst, ◌∙◌, arith}
use Rattle.fault_strobes.specs.Said.{plan_by}
use Rattle.window_grade.specs.Running.{RunLeads}
use Rattle.fault_grade.specs.Reached.{next_of}
use Rattle.window_grade.proofs.Slots.{stays-more, time_left, left-falls, slot-rises, run-passed, ticks-passed, ticks-slot, ticks-stopped, next-since, known-part, known-later, goes-less, by-since, by-too-more, none-next, later-next, stops-later}
use Rattle.window_grade.proofs.run.run_to.Goals as goal

pub next_time-next-requires : goal.next_time-next-requires
next_time-next-requires g c = c.requires.at.standing

pub slots-init : goal.slots-init
slots-init g c = record {
  next_is = c.next_time-next.ensures;
  stays = λ of. record { same_machine = refl; standing = of.at.standing; notes = refl };
  way = λ of. record {
    way = record { now = of.now; at = of.at; since = of.since };
    known = of.known;
    since = λ time by. by;
    ticks = c.own_steps_rise.ensures.stays of.design (plan_by of.kept of.plan) of.fault c.args.beside.now of.now c.args.steps.now;
  };
}

pub run_slot-requires : goal.run_slot-requires
run_slot-requires g c =
    let of = c.requires in
    let ticked = c.slots.invariant.way of in
    let until : c.args.until ≤ _ = of.early in
    let within : c.args.until ≤ of.plan.end = of.within in
    record {
      may = record {
        design = of.design;
        plan = of.plan;
        fault = of.fault;
        now = ticked.way.now;
        kept = of.kept;
        at = ticked.way.at;
        early = omega (arith, within, c.if-until-time.false);
        known = known-part of.design (plan_by of.kept of.plan) of.fault ticked.way.now ticked.way.now c.args.until c.in-Some.time c.args.beside.now (λ time a. a) c.if-until-time.false ticked.known;
      };
      next = sym c.slots.invariant.next_is ∙ c.in-Some.is;
      limit = omega (arith, until, c.if-until-time.false);
    }

pub returns-then-until-time-clause-run : goal.returns-then-until-time-clause-run
returns-then-until-time-clause-run g c = λ of.
    let here : next_of c.slots.machine ≡ Some c.in-Some.time = sym c.slots.invariant.next_is ∙ c.in-Some.is in
    run-passed c.runs_go_on.ensures c.runs_take_steps.ensures of.design of.plan of.fault c.args.until c.slots.machine of.within (c.slots.invariant.way of).way
    (later-next c.args.until c.in-Some.time c.slots.machine here c.if-until-time.true)

pub returns-then-until-time-clause-stays : goal.returns-then-until-time-clause-stays
returns-then-until-time-clause-stays g c = c.slots.invariant.stays c.requires

pub returns-then-until-time-clause-ticks : goal.returns-then-until-time-clause-ticks
returns-then-until-time-clause-ticks g c = λ of.
    ticks-passed c.own_steps_rise.ensures of.design of.plan of.fault of.kept c.args.until c.args.beside.now of.now c.args.steps.now c.slots.steps c.slots.machine (c.slots.invariant.way of)

pub returns-in-Some-2-clause-run : goal.returns-in-Some-2-clause-run
returns-in-Some-2-clause-run g c = λ of.
    let way = (c.slots.invariant.way of).way in
    let within : c.args.until ≤ of.plan.end = of.within in
    stops-later of.design of.plan of.fault c.in-Some.time c.args.until c.in-Some-2.end c.if-until-time.false
    (subst (λ end. RunLeads of.design of.plan of.fault c.in-Some.time end c.run_slot.new.machine) c.in-Some-2.is
    (c.in_ok-end.ensures.run of.design of.plan of.fault way.now way.at (omega (arith, within, c.if-until-time.false))))

pub returns-in-Some-2-clause-ticks : goal.returns-in-Some-2-clause-ticks
returns-in-Some-2-clause-ticks g c = λ of.
    let ticked = c.slots.invariant.way of in
    let P = plan_by of.kept of.plan in
    let within : c.args.until ≤ of.plan.end = of.within in
    let here : next_of c.slots.machine ≡ Some c.in-Some.time = sym c.slots.invariant.next_is ∙ c.in-Some.is in
    let early : c.in-Some.time ≤ of.plan.end = omega (arith, within, c.if-until-time.false) in
    ticks-stopped c.own_steps_rise.ensures of.design of.plan of.fault of.kept c.args.until c.args.beside.now of.now c.args.steps.now c.slots.steps c.slots.machine ticked c.in-Some.time c.run_slot.new.steps
    (next-since c.runs_go_on.ensures of.design of.plan of.fault ticked.way.now c.slots.machine ticked.way.at c.in-Some.time here early) c.if-until-time.false
    (c.in_ok-end.ensures.ticks of.design of.plan of.fault ticked.way.now of.kept ticked.way.at early
    (known-part of.design P of.fault ticked.way.now ticked.way.now c.args.until c.in-Some.time c.args.beside.now (λ time a. a) c.if-until-time.false ticked.known)
    (goes-less of.design P of.fault c.args.until c.in-Some.time c.if-until-time.false of.goes))

pub returns-in-Some-2-clause-stays : goal.returns-in-Some-2-clause-stays
returns-in-Some-2-clause-stays g c = stays-more _ _ _ (c.slots.invariant.stays c.requires) c.in_ok-end.ensures.stays

pub next_time-next-requires-in-Some : goal.next_time-next-requires-in-Some
next_time-next-requires-in-Some g c =
    let of = c.requires in
    let way = (c.slots.invariant.way of).way in
    let within : c.args.until ≤ of.plan.end = of.within in
    (subst (λ end. RunLeads of.design of.plan of.fault c.in-Some.time end c.run_slot.new.machine) c.in_default-2.is
    (c.in_ok-end.ensures.run of.design of.plan of.fault way.now way.at (omega (arith, within, c.if-until-time.false)))).standing

pub slots-smaller : goal.slots-smaller
slots-smaller g c =
    let of = c.requires in
    let way = (c.slots.invariant.way of).way in
    let within : c.args.until ≤ of.plan.end = of.within in
    let at = subst (λ end. RunLeads of.design of.plan of.fault c.in-Some.time end c.run_slot.new.machine) c.in_default-2.is
    (c.in_ok-end.ensures.run of.design of.plan of.fault way.now way.at (omega (arith, within, c.if-until-time.false))) in
    subst (λ next. time_left c.args.until c.next_time-next-in-Some.result < time_left c.args.until next) (sym c.in-Some.is)
    (left-falls c.args.until c.in-Some.time c.next_time-next-in-Some.result c.if-until-time.false
    (λ later e. slot-rises c.runs_go_on.ensures of.design of.plan of.fault c.in-Some.time c.run_slot.new.machine at (omega (arith, within, c.if-until-time.false)) later
    (sym c.next_time-next-in-Some.ensures ∙ e)))

pub slots-preserved : goal.slots-preserved
slots-preserved g c = record {
  next_is = c.next_time-next-in-Some.ensures;
  stays = λ of. stays-more _ _ _ (c.slots.invariant.stays of) c.in_ok-end.ensures.stays;
  way = λ of.
      let ticked = c.slots.invariant.way of in
      let P = plan_by of.kept of.plan in
      let within : c.args.until ≤ of.plan.end = of.within in
      let here : next_of c.slots.machine ≡ Some c.in-Some.time = sym c.slots.invariant.next_is ∙ c.in-Some.is in
      let early : c.in-Some.time ≤ of.plan.end = omega (arith, within, c.if-until-time.false) in
      let since = next-since c.runs_go_on.ensures of.design of.plan of.fault ticked.way.now c.slots.machine ticked.way.at c.in-Some.time here early in
      record {
        way = record {
          now = Some c.in-Some.time;
          at = subst (λ end. RunLeads of.design of.plan of.fault c.in-Some.time end c.run_slot.new.machine) c.in_default-2.is
              (c.in_ok-end.ensures.run of.design of.plan of.fault ticked.way.now ticked.way.at early);
          since = c.if-until-time.false;
        };
        known = known-later of.design P of.fault ticked.way.now c.in-Some.time c.args.until c.args.until c.args.beside.now since (omega arith) ticked.known;
        since = by-too-more of.now ticked.way.now (Some c.in-Some.time) ticked.since (by-since ticked.way.now c.in-Some.time since);
        ticks =
            ticks-slot c.own_steps_rise.ensures of.design of.plan of.fault of.kept c.args.until c.args.beside.now of.now c.args.steps.now c.slots.steps c.slots.machine ticked c.in-Some.time
            c.run_slot.new.steps since
            (c.in_ok-end.ensures.ticks of.design of.plan of.fault ticked.way.now of.kept ticked.way.at early
            (known-part of.design P of.fault ticked.way.now ticked.way.now c.args.until c.in-Some.time c.args.beside.now (λ time a. a) c.if-until-time.false ticked.known)
            (goes-less of.design P of.fault c.args.until c.in-Some.time c.if-until-time.false of.goes));
      };
}

pub returns-clause-run : goal.returns-clause-run
returns-clause-run g c = λ of.
    run-passed c.runs_go_on.ensures c.runs_take_steps.ensures of.design of.plan of.fault c.args.until c.slots.machine of.within (c.slots.invariant.way of).way
    (none-next c.args.until c.slots.machine (sym c.slots.invariant.next_is ∙ c.in_default.is))

pub returns-clause-stays : goal.returns-clause-stays
returns-clause-stays g c = c.slots.invariant.stays c.requires

pub returns-clause-ticks : goal.returns-clause-ticks
returns-clause-ticks g c = λ of.
    ticks-passed c.own_steps_rise.ensures of.design of.plan of.fault of.kept c.args.until c.args.beside.now of.now c.args.steps.now c.slots.steps c.slots.machine (c.slots.invariant.way of)
