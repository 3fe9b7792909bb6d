-- A fault that still goes, and whose stop isn't ahead, takes a block of its own.
use Rattle.std.proofs.Common.{length, refl, sym, ap, subst, ◌∙◌, arith}
use Rattle.std.proofs.lemmas.Bool.{false≢true}
use Rattle.v_design.specs.Plain.{fault_of}
use Rattle.slot_steps.specs.Rises.{RisesWithin}
use Rattle.lockstep_turn.specs.lockstep_block.Blocks.{FaultGoes, TriedInSlot}
use Rattle.lockstep_turn.specs.lockstep_block.Rooms.{MayStandThere}
use Rattle.lockstep_turn.specs.lockstep_room.Rooms.{AreCounts}
use Rattle.lockstep_turn.specs.lockstep_slots.Places.{behind_events}
use Rattle.lockstep_turn.specs.moment_laws.Places.{IsShownAt}
use Rattle.lockstep_turn.specs.moment_laws.Shown.{MomentKept}
use Rattle.lockstep_turn.proofs.slot_laws.Going.{are-processes, are-there}
use Rattle.lockstep_turn.proofs.slot_laws.Own.{runner-stays}
use Rattle.lockstep_turn.specs.phase_faults.Beside.{IsAheadIf}
use Rattle.lockstep_turn.specs.phase_faults.declared.beside.FaultBeside.{FaultBeside}
use Rattle.lockstep_turn.proofs.phase_faults.Moving.{stays-same}
use Rattle.lockstep_turn.proofs.phase_faults.Waiting.{may-stand-at, waits-first}
use Rattle.lockstep_phase.proofs.own.take_own.Goals as goal

pub run_own_block-requires-clause-run : goal.run_own_block-requires-clause-run
run_own_block-requires-clause-run g c κs within = c.requires.goes c.if-not-goes.false

pub stand_at-requires-clause-design : goal.stand_at-requires-clause-design
stand_at-requires-clause-design g c κs within = c.in_ok-run_own_block.ensures.room.machine_is ∙ (c.requires.goes c.if-not-goes.false).beside.runs.machine_is

pub stand_at-requires-clause-counts : goal.stand_at-requires-clause-counts
stand_at-requires-clause-counts g c κs within = subst (AreCounts g.N.World.design) (sym c.in_ok-run_own_block.ensures.room.counts_is) c.requires.counts

pub stand_at-requires-clause-good : goal.stand_at-requires-clause-good
stand_at-requires-clause-good g c κs within =
    subst (MayStandThere g.N.World.design g.N.World.plan c.args.time) (sym c.in_ok-run_own_block.ensures.room.before_is) c.requires.stands

pub look_ahead-requires-clause-site : goal.look_ahead-requires-clause-site
look_ahead-requires-clause-site g c κs within = c.requires.site

pub look_ahead-requires-clause-kept : goal.look_ahead-requires-clause-kept
look_ahead-requires-clause-kept g c κs within = λ goes.
    let design = g.N.World.design in
    let plan = g.N.World.plan in
    let window = c.args.view.now.window.now in
    let of = c.requires.goes c.if-not-goes.false in
    let went = c.in_ok-run_own_block.ensures.goes c.if-not-branch.false of in
    let one = c.run_own_block.new.one in
    let behind = c.args.room.now.behind in
    record {
      objects =
          are-there design plan (fault_of c.args.each.now.fault) of.slot of.begins window.before window.through behind.moment (behind_events of.block of.rest of.place) behind one.notes one.own
          one.spare one.tried.items one.apart.items of.beside.behind_at went;
      processes =
          are-processes design plan (fault_of c.args.each.now.fault) of.slot of.begins window.before window.through behind.moment (behind_events of.block of.rest of.place) behind one.notes one.own
          one.spare one.tried.items one.apart.items of.beside.behind_at went;
    }

pub look_ahead-requires-clause-order : goal.look_ahead-requires-clause-order
look_ahead-requires-clause-order g c κs within =
    let at = c.moment-next.ensures in
    let same = ap (λ (m : MomentKept). m.moment) c.in_ok-run_own_block.ensures.room.behind_is in
    let low = c.requires.order in
    omega (arith, at, same, low)

pub look_ahead-requires-clause-end : goal.look_ahead-requires-clause-end
look_ahead-requires-clause-end g c κs within = λ more. c.requires.end

pub returns-then-not-goes-clause-own : goal.returns-then-not-goes-clause-own
returns-then-not-goes-clause-own g c = record {
  stays = stays-same c.args.each.now;
  late = λ late. refl;
  took = λ now goes. absurd (false≢true (sym c.if-not-goes.true ∙ goes));
  most = λ now goes. absurd (false≢true (sym c.if-not-goes.true ∙ goes));
  ahead = λ now goes. absurd (false≢true (sym c.if-not-goes.true ∙ goes));
}

pub returns-then-not-goes-clause-room : goal.returns-then-not-goes-clause-room
returns-then-not-goes-clause-room g c =
    let room = c.args.room.now in
    waits-first g.N.World.design g.N.World.plan c.args.time room.runner room.before room.behind room.counts

pub returns-then-moment-until-clause-own : goal.returns-then-moment-until-clause-own
returns-then-moment-until-clause-own g c =
    let at = c.moment-moment.ensures in
    let later = c.if-moment-until.true in
    record {
      stays = stays-same c.args.each.now;
      late = λ late. refl;
      took = λ now goes. absurd (omega (arith, at, later, now));
      most = λ now goes. absurd (omega (arith, at, later, now));
      ahead = λ now goes. absurd (omega (arith, at, later, now));
    }

pub returns-then-moment-until-clause-room : goal.returns-then-moment-until-clause-room
returns-then-moment-until-clause-room g c =
    let room = c.args.room.now in
    waits-first g.N.World.design g.N.World.plan c.args.time room.runner room.before room.behind room.counts

pub returns-then-not-branch-clause-own : goal.returns-then-not-branch-clause-own
returns-then-not-branch-clause-own g c =
    let at = c.moment-moment.ensures in
    let here = c.if-moment-until.false in
    record {
      stays = record {
        fault = refl;
        before = λ goes. let no : ⊥ = cc in absurd no;
        rest = λ goes. let no : ⊥ = cc in absurd no;
        left = λ gone. absurd (false≢true (sym gone ∙ c.if-not-goes.false));
      };
      late = λ late. absurd (omega (arith, at, here, late));
      took = λ now goes. let no : ⊥ = cc in absurd no;
      most = λ now goes. c.in_ok-run_own_block.ensures.most;
      ahead = λ now goes. let no : ⊥ = cc in absurd no;
    }

pub returns-then-not-branch-clause-room : goal.returns-then-not-branch-clause-room
unfolding may-stand-at
returns-then-not-branch-clause-room g c =
    let stays = c.in_ok-run_own_block.ensures.room in
    record {
      before_is = stays.before_is;
      behind_is = stays.behind_is;
      counts_is = stays.counts_is;
      runs = λ place shown now runs.
          c.in_ok-stand_at.ensures
          (may-stand-at g.N.World.design g.N.World.plan c.args.time place c.args.room.now.runner c.run_own_block.new.room.before
          (subst (IsShownAt g.N.World.design g.N.World.plan place) (sym stays.before_is) shown) (ap (λ (m : MomentKept). m.time) stays.before_is ∙ now) runs);
    }

pub returns-clause-own : goal.returns-clause-own
returns-clause-own g c =
    let design = g.N.World.design in
    let plan = g.N.World.plan in
    let window = c.args.view.now.window.now in
    let went = c.if-not-branch.false in
    let looks = c.look_ahead.ensures in
    let at = c.moment-moment.ensures in
    let here = c.if-moment-until.false in
    let behind = c.args.room.now.behind in
    record {
      stays = record {
        fault = ap (λ (e : FaultBeside). e.fault) looks.same;
        before = λ goes. c.if-not-goes.false;
        rest = λ goes. record {
          fault = ap (λ (e : FaultBeside). e.one.own.copy.fault) looks.same ∙ c.in_ok-run_own_block.ensures.fault went;
          states = ap (λ (e : FaultBeside). e.one.own.copy.states) looks.same ∙ c.in_ok-run_own_block.ensures.states went;
        };
        left = λ gone. absurd (false≢true (sym gone ∙ c.if-not-goes.false));
      };
      late = λ late. absurd (omega (arith, at, here, late));
      took = λ now goes of.
          subst
          (λ (e : FaultBeside). FaultGoes design plan (fault_of c.args.each.now.fault) of.slot of.begins window.before window.through behind.moment (behind_events of.block of.rest of.place) e.one.notes
          e.one.own e.one.spare e.one.tried.items e.one.apart.items)
          (sym looks.same) (c.in_ok-run_own_block.ensures.goes went of);
      most = λ now goes of.
          subst (λ (e : FaultBeside). TriedInSlot design (fault_of c.args.each.now.fault) of.slot of.begins e.one.tried.items) (sym looks.same) (c.in_ok-run_own_block.ensures.most of);
      ahead = λ now.
          subst (λ m. IsAheadIf design plan window.before window.through c.args.view.now.blocks.now.moments m c.args.end c.look_ahead.new.each)
          (c.moment-next.ensures ∙ ap (λ (m : MomentKept). m.moment) c.in_ok-run_own_block.ensures.room.behind_is) looks.ahead;
    }

pub returns-clause-room : goal.returns-clause-room
returns-clause-room g c =
    let stays = c.in_ok-run_own_block.ensures.room in
    record {
      before_is = stays.before_is;
      behind_is = stays.behind_is;
      counts_is = stays.counts_is;
      runs = λ place shown now runs.
          runner-stays g.N.World.design place c.args.room.now.runner c.run_own_block.new.room.runner stays.whole stays.machine_is (c.in_ok-run_own_block.ensures.state c.if-not-branch.false) runs;
    }

pub returns-then-not-branch-clause-ticks : goal.returns-then-not-branch-clause-ticks
returns-then-not-branch-clause-ticks g c = c.in_ok-run_own_block.ensures.ticks

pub returns-clause-ticks : goal.returns-clause-ticks
returns-clause-ticks g c =
    subst (λ (e : FaultBeside). RisesWithin (length c.args.each.now.one.tried.items) (length e.one.tried.items) c.args.steps.now c.run_own_block.new.steps) (sym c.look_ahead.ensures.same)
    c.in_ok-run_own_block.ensures.ticks
