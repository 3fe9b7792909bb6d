-- The moves of the first order are made to the slot's end.
use Rattle.std.proofs.Common.{◌≡◌, ◌+◌, ◌≤◌, ◌<◌, ◌-◌, ◌^◌, ℕ, false, refl, arith, sym, ap, subst, ◌∙◌}
use Rattle.v_design.specs.Designs.{Machine}
use Rattle.v_design.specs.States.{State}
use Rattle.v_design.specs.Runs.{most_steps}
use Rattle.causal_monitor.specs.declared.slot.Turn.{Turn}
use Rattle.causal_monitor.specs.declared.slot.SlotLog.{SlotLog}
use Rattle.machine_laws.specs.SlotLoop.{QuietSlotsEnd}
use Rattle.machine.specs.declared.guide.Guide.{Guide}
use Rattle.machine.specs.declared.moves.Made.{Made}
use Rattle.machine.specs.declared.moves.Made.TheVariants.{ProcessStep, LaneStep, Uncounted, Nothing}
use Rattle.machine.specs.declared.parts.Machine.{Machine as Simulated}
use Rattle.machine.specs.Standing.{machine_kept, state_kept}
use Rattle.machine.specs.Phases.{Runs, EndsCounted, MakesMove, QuietIfNothing, steps_made, moves_made}
use Rattle.machine.proofs.Counted.{guides-stay}
use Rattle.machine.proofs.Made.{HasRun, ends-quiet, ends-hyper, runs-moving, no-moves, more-moves, moves-end}
use Rattle.machine.proofs.parts.Machine.run.Goals as goal

-- where nothing was made, no step was
none-made : (made : Made) (steps : ℕ) → made ≡ Nothing → steps + steps_made made ≡ steps
none-made made steps is = ap (λ m. steps + steps_made m) is ∙ plus-none steps
  where
    plus-none : (n : ℕ) → n + 0 ≡ n
    plus-none n = omega arith

-- where nothing was made, the slot is at its end
ends-nothing : QuietSlotsEnd → (machine : Machine) (first : Turn) (begins : State) (steps : ℕ) (guide_old guide_new : Guide) (before now after moves : ℕ) (made : Made) (old new : Simulated)
    (log logged : SlotLog) → MakesMove made guide_old guide_new now after old new log logged → made ≡ Nothing → steps ≤ most_steps →
    Runs machine first begins steps guide_old before now moves old log → EndsCounted machine first begins false guide_new before after new logged
ends-nothing law machine first begins steps guide_old guide_new before now after moves made old new log logged makes is few runs =
    ends-quiet law machine first begins (steps + steps_made made) guide_new before after (moves + moves_made made) new logged (makes.goes_on machine first begins steps before moves runs few)
    (subst (λ n. n ≤ most_steps) (sym (none-made made steps is)) few)
    (subst (λ m. QuietIfNothing m (state_kept new)) is makes.quiet)

-- whatever was made is one move, and one step at most
one-move : (made : Made) → (made ≡ Nothing → ⊥) → moves_made made ≡ 1
one-move ProcessStep some = refl
one-move LaneStep some = refl
one-move Uncounted some = refl
one-move Nothing some = absurd (some refl)

one-most : (made : Made) → steps_made made ≤ 1
one-most ProcessStep = omega arith
one-most LaneStep = omega arith
one-most Uncounted = omega arith
one-most Nothing = omega arith

pub make_move-requires : goal.make_move-requires
make_move-requires g c =
    let r = c.requires in
    let has = c.moves.invariant.has in
    runs-moving (machine_kept c.args.self.now) r.first r.begins c.moves.taken c.moves.guide c.args.steps.now c.moves.steps c.moves._move c.moves.self c.moves.log
    (has.runs (machine_kept c.args.self.now) r.first r.begins r.runs) (omega (arith, c.if-taken-gt-MAX_SLOT_STEPS.false))

pub moves-init : goal.moves-init
moves-init g c = record { has = no-moves c.args.guide.now c.args.steps.now c.args.self.now c.args.log.now; few = omega arith; notes = refl }

pub moves-preserved : goal.moves-preserved
moves-preserved g c =
    let few : c.moves.taken ≤ most_steps = omega (arith, c.if-taken-gt-MAX_SLOT_STEPS.false) in
    let one : steps_made c.in_ok-made.made ≤ 1 = one-most c.in_ok-made.made in
    record {
      has =
          subst (λ n. HasRun c.args.guide.now c.make_move.new.guide c.args.steps.now c.make_move.new.steps c.args.self.now c.make_move.new.self c.args.log.now c.make_move.new.log
          (c.moves.taken + c.counted-taken.result) (c.moves._move + n))
          (one-move c.in_ok-made.made c.in_default.not-Nothing)
          (more-moves c.in_ok-made.made c.counted-taken.result c.args.guide.now c.moves.guide c.make_move.new.guide c.args.steps.now c.moves.steps c.make_move.new.steps c.args.self.now c.moves.self
          c.make_move.new.self c.args.log.now c.moves.log c.make_move.new.log c.moves.taken c.moves._move c.moves.invariant.has c.in_ok-made.ensures c.counted-taken.ensures few);
      few = omega (arith, few, one, c.counted-taken.ensures);
      notes = c.in_ok-made.ensures.notes_are ∙ c.moves.invariant.notes;
    }

pub returns-then-taken-gt-MAX_SLOT_STEPS : goal.returns-then-taken-gt-MAX_SLOT_STEPS
returns-then-taken-gt-MAX_SLOT_STEPS g c = record {
  notes_are = c.moves.invariant.notes;
  stays = c.moves.invariant.has.stays;
  ends = λ machine first begins runs. ends-hyper c.slot_ends.ensures.hyper machine first begins c.moves.taken c.moves.guide c.args.steps.now c.moves.steps c.moves._move c.moves.self c.moves.log
      (c.moves.invariant.has.runs machine first begins runs) (omega (arith, c.moves.invariant.few));
}

pub returns-in-Nothing : goal.returns-in-Nothing
returns-in-Nothing g c =
    let few : c.moves.taken ≤ most_steps = omega (arith, c.if-taken-gt-MAX_SLOT_STEPS.false) in
    record {
      notes_are = c.in_ok-made.ensures.notes_are ∙ c.moves.invariant.notes;
      stays = guides-stay c.args.guide.now c.moves.guide c.make_move.new.guide c.moves.invariant.has.stays c.in_ok-made.ensures.stays;
      ends = λ machine first begins runs. ends-nothing c.slot_ends.ensures.quiet machine first begins c.moves.taken c.moves.guide c.make_move.new.guide c.args.steps.now c.moves.steps
          c.make_move.new.steps c.moves._move c.in_ok-made.made c.moves.self c.make_move.new.self c.moves.log c.make_move.new.log c.in_ok-made.ensures c.in-Nothing.is few
          (c.moves.invariant.has.runs machine first begins runs);
    }

pub unreachable-requires : goal.unreachable-requires
unreachable-requires g c =
    let r = c.requires in
    let has = c.moves.invariant.has in
    let fit : c.moves._move < 2 ^ 64 - 1 =
    moves-end (machine_kept c.args.self.now) r.first r.begins c.moves.taken c.moves.guide c.args.steps.now c.moves.steps c.moves._move c.moves.self c.moves.log
    (has.runs (machine_kept c.args.self.now) r.first r.begins r.runs) in
    absurd (omega (arith, fit, c.moves-test.false))
