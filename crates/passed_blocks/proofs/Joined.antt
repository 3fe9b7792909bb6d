-- A block is passed: what its parts ask for, and what they come to (blocks by IEEE 1364-2001, clause 5).
use Rattle.std.proofs.Common.{◌≡◌, ℕ, ◌+◌, ◌<◌, get_or, sym, ap, subst, ◌∙◌, arith}
use Rattle.v_design.specs.Designs.{FlatDesign, TestPlan, good_machine}
use Rattle.causal_monitor.specs.declared.slot.Actor.{Actor}
use Rattle.slot_record.specs.Records.{event_of}
use Rattle.between_slots.specs.Between.{window_phases}
use Rattle.trace_window.specs.Moments.{window_events}
use Rattle.window_blocks.specs.Kept.{BlocksKept, AreBlocksOf}
use Rattle.shown_blocks.specs.window_wakes.Wakes.{WakesKept, AreWakesOf, woken_at}
use Rattle.shown_blocks.specs.lockstep_slots.Places.{Place}
use Rattle.shown_blocks.specs.Ahead.{IsAhead}
use Rattle.shown_blocks.specs.Blocks.{AreItsBlocks, IsBlockTold, HasBlockTo, BlocksAreAhead}
use Rattle.shown_blocks.specs.moment_laws.Passing.{HasBlock, PassesBlock}
use Rattle.shown_blocks.specs.moment_laws.Places.{IsShownAt, IsInWindow}
use Rattle.shown_blocks.specs.moment_laws.Shown.{MomentKept}
use Rattle.shown_blocks.specs.moment_laws.Steps.{untold, PutsBlock, CanTake, Takes}
use Rattle.passed_blocks.specs.Passed.{at_moment, BlocksArePassed, BlocksCanBeTaken}

-- the blocks of the window of what is shown
its-blocks : (design : FlatDesign) (plan : TestPlan) (old : MomentKept) (blocks : BlocksKept) → IsInWindow blocks.before blocks.through old → AreBlocksOf design plan blocks →
    AreItsBlocks design plan old blocks
its-blocks design plan old blocks window are = record { before_is = sym window.before_is; through_is = sym window.through_is; are = are }

-- the block is told
pub told-there : BlocksAreAhead → (design : FlatDesign) (plan : TestPlan) (old : MomentKept) (blocks : BlocksKept) → IsInWindow blocks.before blocks.through old → AreBlocksOf design plan blocks →
    HasBlock design plan old → IsBlockTold old blocks
told-there law design plan old blocks window are has = law.told design plan has.place old blocks has.shown has.some (its-blocks design plan old blocks window are)

-- where it ends, at any place that is shown
pub block-to : BlocksAreAhead → (design : FlatDesign) (plan : TestPlan) (place : Place) (old : MomentKept) (blocks : BlocksKept) (phase moment end : ℕ) (actor : Actor) →
    IsInWindow blocks.before blocks.through old → AreBlocksOf design plan blocks → IsShownAt design plan place old → phase ≡ old.phase → moment ≡ old.moment →
    IsAhead (window_phases design plan blocks.before blocks.through) blocks.moments (get_or blocks.ends phase 0) moment end actor →
    HasBlockTo (good_machine design) place old.moment end actor
block-to law design plan place old blocks phase moment end actor window are shown phase_is moment_is ahead =
    law.there design plan place old blocks end actor shown (its-blocks design plan old blocks window are)
    (subst (λ n. IsAhead (window_phases design plan blocks.before blocks.through) blocks.moments (get_or blocks.ends n 0) old.moment end actor) phase_is
    (subst (λ n. IsAhead (window_phases design plan blocks.before blocks.through) blocks.moments (get_or blocks.ends phase 0) n end actor) moment_is ahead))

-- the window and the slot stay
pub window-untold : (before through : ℕ) (kept old : MomentKept) → kept ≡ untold old → IsInWindow before through old → IsInWindow before through kept
window-untold before through kept old same window = record {
  before_is = ap (λ (k : MomentKept). k.before) same ∙ window.before_is;
  through_is = ap (λ (k : MomentKept). k.through) same ∙ window.through_is;
}

pub slot-untold : (design : FlatDesign) (plan : TestPlan) (before through : ℕ) (kept old : MomentKept) → kept ≡ untold old → IsInWindow before through old → HasBlock design plan old →
    before + kept.slot < through
slot-untold design plan before through kept old same window has =
    let slot : kept.slot ≡ old.slot = ap (λ (k : MomentKept). k.slot) same in
    let low : old.before ≡ before = window.before_is in
    let high : old.through ≡ through = window.through_is in
    let within : old.before + old.slot < old.through = has.shown.within in
    omega (arith, slot, low, high, within)

-- behind the changes and the wakes too
pub record IsPut (design : FlatDesign) (plan : TestPlan) (before through limit : ℕ) (wakes : WakesKept) (kept old put : MomentKept) : Type 0 where
  pub same : kept ≡ untold old
  pub window : IsInWindow before through old
  pub puts : PutsBlock design plan limit wakes.wakes kept put

pub window-put : (design : FlatDesign) (plan : TestPlan) (before through limit : ℕ) (wakes : WakesKept) (kept old put : MomentKept) → IsPut design plan before through limit wakes kept old put →
    IsInWindow before through put
window-put design plan before through limit wakes kept old put is =
    let window : IsInWindow before through kept = window-untold before through kept old is.same is.window in
    record { before_is = is.puts.same.before ∙ window.before_is; through_is = is.puts.same.through ∙ window.through_is }

pub slot-put : (design : FlatDesign) (plan : TestPlan) (before through limit : ℕ) (wakes : WakesKept) (kept old put : MomentKept) → IsPut design plan before through limit wakes kept old put →
    HasBlock design plan old → before + put.slot < through
slot-put design plan before through limit wakes kept old put is has =
    let slot : put.slot ≡ kept.slot = is.puts.same.slot in
    let low : before + kept.slot < through = slot-untold design plan before through kept old is.same is.window has in
    omega (arith, slot, low)

puts-there : (design : FlatDesign) (plan : TestPlan) (before through limit : ℕ) (wakes : WakesKept) (kept old put : MomentKept) → IsPut design plan before through limit wakes kept old put →
    PutsBlock design plan limit wakes.wakes (untold old) put
puts-there design plan before through limit wakes kept old put is = subst (λ k. PutsBlock design plan limit wakes.wakes k put) is.same is.puts

-- what the block takes is there
pub take-there : BlocksCanBeTaken → (design : FlatDesign) (plan : TestPlan) (before through limit : ℕ) (wakes : WakesKept) (kept old put : MomentKept) (actor : Actor) →
    IsPut design plan before through limit wakes kept old put → (has : HasBlock design plan old) → HasBlockTo (good_machine design) has.place old.moment limit actor →
    CanTake design plan (event_of actor) put
take-there law design plan before through limit wakes kept old put actor is has to =
    law design plan has.place old put to.block to.rest to.more (event_of actor) limit wakes.wakes has.shown to.at to.begins (puts-there design plan before through limit wakes kept old put is)

-- and the block was passed
pub passed-there : BlocksArePassed → (design : FlatDesign) (plan : TestPlan) (place : Place) (before through limit : ℕ) (wakes : WakesKept) (kept old put taken : MomentKept) (actor : Actor) →
    IsPut design plan before through limit wakes kept old put → IsShownAt design plan place old → HasBlockTo (good_machine design) place old.moment limit actor →
    Takes design plan (event_of actor) put taken → IsInWindow wakes.before wakes.through old → AreWakesOf design plan wakes →
    PassesBlock design plan place old (at_moment limit taken)
passed-there law design plan place before through limit wakes kept old put taken actor is shown to takes window are =
    law design plan place old put taken to.block to.rest (event_of actor) limit wakes.wakes (record {
      shown = shown;
      at = to.at;
      limit_is = to.end_is;
      more = to.more;
      begins = to.begins;
      puts = puts-there design plan before through limit wakes kept old put is;
      takes = takes;
      each = λ moment process.
          are.each moment process
          ∙ sym (λ i. woken_at (good_machine design) (window_events design plan (window.before_is i) (window.through_is i)) process moment);
    })
