-- What either block changed is put back, and so is what is kept.
use Rattle.std.proofs.Common.{◌≡◌, ℕ, List, [], length, map, cond, Bool, true, false, ◌||◌, refl, sym, ap, subst, ◌∙◌}
use Rattle.std.specs.Prelude.{Some, None}
use Rattle.vf_base.specs.Base.{object_number, process_number}
use Rattle.vf_base.specs.Lists.{has}
use Rattle.vf_base.specs.declared.ids.ObjectId.{ObjectId}
use Rattle.v_design.specs.Assignments.{value_at}
use Rattle.v_design.specs.Designs.{Machine}
use Rattle.v_design.specs.States.{NodeState, process_at, node_at, found_or}
use Rattle.process_table.specs.Puts.{MayStand}
use Rattle.run_ends.specs.RunEnds.{AreCodesOf}
use Rattle.block_compare.specs.block_events.declared.runner.Runner.{Runner}
use Rattle.block_compare.specs.block_events.Runners.{machine_of, state_of}
use Rattle.block_told.specs.declared.told.BlockTold.{BlockTold}
use Rattle.block_compare.specs.lockstep_copy.declared.own.LockstepCopy.{LockstepCopy}
use Rattle.block_compare.specs.lockstep_exchange.Exchange.{AreWide, IsButFor, MayTakeOut}
use Rattle.block_compare.specs.lockstep_room.Rooms.{IsBrought, MayStandSo}
use Rattle.block_compare.specs.moment_shown.declared.shown.ShownBlock.{ShownBlock}
use Rattle.block_compare.specs.moment_shown.declared.shown.ShownMoment.{ShownMoment}
use Rattle.block_compare.specs.moment_shown.Shown.{Shows}
use Rattle.block_compare.specs.Comparing.{parts_both}
use Rattle.block_compare.proofs.Same.{on-bool}
use Rattle.faulty_block.specs.Back.{MayPutBack}

-- One value

-- one that is brought in two turns
found-twice : {A : Type 0} (b c : Bool) (now middle new good : A) → middle ≡ found_or now (cond b (Some good) None) → new ≡ found_or middle (cond c (Some good) None) →
    ((b ≡ false) → (c ≡ false) → now ≡ good) → new ≡ good
found-twice b true now middle new good first second same = second
found-twice true false now middle new good first second same = second ∙ first
found-twice false false now middle new good first second same = second ∙ first ∙ same refl refl

either : (b c : Bool) → b ≡ false → c ≡ false → (c || b) ≡ false
either true c e f = cc
either false true e f = cc
either false false e f = refl

-- The runner

module _ (runner : Runner) (before : ShownMoment) (block : ShownBlock) (told : BlockTold) (own : LockstepCopy) where
  -- it may stand as it is shown to
  unfoldable pub first-stands : (of : MayPutBack runner before block told own) → MayStandSo (machine_of runner).design (Shows before) (state_of runner)
  first-stands of = record {
    good = of.good;
    shown = of.shown;
    codes = of.codes;
    codes_are = of.codes_are;
    value_count = sym of.back.value_count;
    process_count = sym of.back.process_count;
    time_is = sym of.back.time_is;
    wide = of.wide;
    may = λ process. subst (λ time. MayStand (machine_of runner).design time process (process_at of.good process)) (sym of.back.time_is) (of.may process);
  }

  module _ (middle : Runner) (same : machine_of middle ≡ machine_of runner) (changes : List ObjectId) (of : MayPutBack runner before block told own)
      (first : IsBrought (map object_number changes) (map process_number block.acted.now) block.lane of.good (state_of runner) (state_of middle)) where
    -- and may still do so behind the first turn
    unfoldable pub still-stands : MayStandSo (machine_of middle).design (Shows before) (state_of middle)
    still-stands = record {
      good = of.good;
      shown = of.shown;
      codes = of.codes;
      codes_are = subst (λ (m : Machine). AreCodesOf m.design of.codes) (sym same) of.codes_are;
      value_count = sym (first.value_count ∙ of.back.value_count);
      process_count = sym (first.process_count ∙ of.back.process_count);
      time_is = sym (first.time_is ∙ of.back.time_is);
      wide = subst (λ (m : Machine). AreWide m.design of.good) (sym same) of.wide;
      may = λ process.
          subst (λ (m : Machine). MayStand m.design (state_of middle).time process (process_at of.good process)) (sym same)
          (subst (λ time. MayStand (machine_of runner).design time process (process_at of.good process)) (sym (first.time_is ∙ of.back.time_is)) (of.may process));
    }

    module _ (last : Runner) (same_last : machine_of last ≡ machine_of middle) (changes_are : changes ≡ told.changed.items)
        (second : IsBrought (map object_number block.changed.now) [] None of.good (state_of middle) (state_of last)) where
      stays : (process : ℕ) → process_at (state_of last) process ≡ process_at (state_of middle) process
      stays process = second.processes process

      brought : (process : ℕ) (b : Bool) → (parts_both block told).processes process ≡ b →
          process_at (state_of last) process ≡ found_or (process_at (state_of runner) process) (cond b (Some (process_at of.good process)) None)
      brought process b is =
          stays process ∙ first.processes process
          ∙ ap (λ c. found_or (process_at (state_of runner) process) (cond c (Some (process_at of.good process)) None)) is

      -- behind both turns the state is the good one but for what is kept
      pub but-for : IsButFor own of.good (state_of last)
      but-for = record {
        value_count = second.value_count ∙ first.value_count ∙ of.back.value_count;
        node_count = ap (λ (l : List NodeState). length l) (second.nodes_are ∙ first.nodes_are) ∙ of.back.node_count;
        process_count = second.process_count ∙ first.process_count ∙ of.back.process_count;
        time_is = second.time_is ∙ first.time_is ∙ of.back.time_is;
        nodes = λ number. ap (λ (l : List NodeState). node_at (record of.good { nodes = l }) number) (second.nodes_are ∙ first.nodes_are) ∙ of.back.nodes number;
        values = λ object none.
            found-twice (has (map object_number changes) object) (has (map object_number block.changed.now) object) (value_at (state_of runner).values object)
            (value_at (state_of middle).values object) (value_at (state_of last).values object) (value_at of.good.values object) (first.values object) (second.values object)
            (λ theirs_none goods_none.
            of.back.values object
            (either (has (map object_number told.changed.items) object) (has (map object_number block.changed.now) object)
            (sym (ap (λ (l : List ObjectId). has (map object_number l) object) changes_are) ∙ theirs_none) goods_none) none);
        processes = λ process.
            on-bool ((parts_both block told).processes process) (λ yes. brought process true yes) (λ no. brought process false no ∙ of.back.processes process no);
        objects_there = of.back.objects_there;
      }

      -- which may be taken out then
      unfoldable pub may-take-out : MayTakeOut (machine_of last).design (Shows before) own (state_of last)
      may-take-out = record {
        good = of.good;
        shown = of.shown;
        wide = subst (λ (m : Machine). AreWide m.design of.good) (sym (same_last ∙ same)) of.wide;
        but_for = but-for;
      }
