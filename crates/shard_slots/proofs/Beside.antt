-- Faults at a slot, one by one (strobes by the plan; slots by IEEE 1364-2001, clause 5).
use Rattle.std.proofs.Common.{◌≡◌, ◌⊎◌, ℕ, zero, suc, ◌+◌, ◌<◌, Bool, true, false, List, [], ◌∷◌, length, map, refl, sym, ap, subst, ◌∙◌, arith, inl, inr}
use Rattle.std.specs.Prelude.{Option, None, Some, ◌||◌, replicate, slice_get, sum_by}
use Rattle.std.proofs.lemmas.List.{length-map}
use Rattle.std.specs.List.{AllZip, list_any}
use Rattle.std.proofs.lemmas.Option.{slice_get_within}
use Rattle.vf_base.specs.Lists.{AllHold}
use Rattle.v_design.specs.Designs.{FlatDesign, TestPlan}
use Rattle.v_design.specs.Plain.{fault_of}
use Rattle.v_design.specs.WellFormed.{IsPlanOf}
use Rattle.v_design.specs.declared.plan.Fault.{Fault}
use Rattle.copy_lockstep.specs.copy_skip.There.{SearchesBegin}
use Rattle.copy_lockstep.proofs.copy_pass.Left.{site-there}
use Rattle.copy_lockstep.specs.copy_window.declared.fault.ShardFault.{ShardFault}
use Rattle.copy_lockstep.specs.lockstep_copies.Copies.{IsCopyInLockstep}
use Rattle.copy_lockstep.specs.slot_laws.Copies.{lockstep_differences}
use Rattle.copy_lockstep.specs.phase_faults.Beside.{HasSite, ticked_of}
use Rattle.copy_lockstep.specs.phase_faults.declared.beside.FaultBeside.{FaultBeside}
use Rattle.copy_lockstep.specs.lockstep_slot.Beside.{BeginsSlotIf, ComesThroughSlot}
use Rattle.copy_lockstep.specs.window_faults.declared.at.FaultAt.{FaultAt}
use Rattle.copy_lockstep.proofs.window_faults.Lists.{sum-none}
use Rattle.shard_slots.specs.Slots.{AllEntered, Enters, EntersAt, EntersIf, HaveEntered, HaveGone, TookOwn, WentIf, WentThrough, goes_beside}
use Rattle.shard_slots.proofs.Somes.{BothIf, all-somes, all-there, all-told, some-at, spread}

-- a place of a list has an element
at-there : {A : Type 0} (xs : List A) (i : ℕ) → i < length xs → (x : A) × (slice_get xs i ≡ Some x)
at-there [] i low = absurd (omega (arith, low))
at-there (x ∷ xs) zero low = (x, refl)
at-there (x ∷ xs) (suc i) low = at-there xs i (omega (arith, low))

-- where no fault goes in the slot, all come through it so
module _ (design : FlatDesign) (plan : TestPlan) (number : ℕ) where
  rests-through : (beside : FaultBeside) → beside.goes ≡ false → ComesThroughSlot design plan number beside beside
  rests-through beside rests = record {
    stays = record {
      fault = refl;
      before = λ goes. goes;
      rest = λ goes. absurd (let no : beside.goes ≡ false = rests in cc);
      left = λ left. refl;
    };
    through = λ goes slot stands. absurd (let no : beside.goes ≡ false = rests in cc);
    tried = λ goes may. absurd (let no : beside.goes ≡ false = rests in cc);
  }

  none-goes : (first rest : Bool) → (first || rest) ≡ false → (first ≡ false) × (rest ≡ false)
  none-goes true rest none = cc
  none-goes false rest none = (refl, none)

  pub all-rest : (besides : List FaultBeside) → list_any goes_beside besides ≡ false → AllZip (ComesThroughSlot design plan number) besides besides
  all-rest [] none = tt
  all-rest (beside ∷ besides) none = (let each = none-goes beside.goes (list_any goes_beside besides) none in (rests-through beside each.0, all-rest besides each.1))

module _ (design : FlatDesign) (plan : TestPlan) (before through slot : ℕ) where
  -- what is known of each fault before the slot
  module _ (owns : List ShardFault) (ats : List FaultAt) (entered : List Bool) (besides : List FaultBeside) (all : HaveEntered design plan before through slot owns ats entered besides) where
    of-each : (P : FaultBeside → Type 0) → ((own : ShardFault) (at : FaultAt) (beside : FaultBeside) → Enters design plan before through slot own at beside → P beside) → AllHold P besides
    of-each P law =
        subst (AllHold P) (sym all.besides_are)
        (all-somes P all.founds (λ i beside here.
        let low = slice_get_within all.founds i (Some beside) here in
        let own = at-there owns i (omega (arith, low, all.are.beside)) in
        let at = at-there ats i (omega (arith, low, all.are.beside, all.are.count)) in
        law own.0 at.0 beside (all.are.each i own.0 at.0 (Some beside) own.1 at.1 here)))

    -- their sites are the design's
    pub sites : SearchesBegin → IsPlanOf design plan → AllHold (HasSite design) besides
    sites law fits = of-each (HasSite design) (λ own at beside enters. site-there law design plan own.copy.fault (fault_of beside.fault) fits enters.listed)

    -- those that enter it may go through it
    pub begin-each : AllHold (BeginsSlotIf design plan before through slot) besides
    begin-each = of-each (BeginsSlotIf design plan before through slot) (λ own at beside enters. enters.begins)

    -- they took no own step so far
    pub none-ticked : sum_by ticked_of besides ≡ 0
    none-ticked = sum-none ticked_of besides (of-each (λ beside. ticked_of beside ≡ 0) (λ own at beside enters. ap length enters.tried))

  -- one that went through it
  module _ (own : ShardFault) (at : FaultAt) (old new : FaultBeside) (enters : Enters design plan before through slot own at old)
      (comes : ComesThroughSlot design plan (before + slot) old new) where
    tried : (goes : Bool) → old.goes ≡ goes → (new.one.tried.items ≡ []) ⊎ ((at.slot ≡ slot) × TookOwn design plan (fault_of old.fault) (before + slot) own at new.one.tried.items)
    tried false rests = inl (comes.stays.left rests ∙ enters.tried)
    tried true goes =
        let gone = enters.goes goes in
        let may = (enters.begins goes).may in
        inr (gone.slot_is, record { copy = old.one.own.copy; none = gone.none; enters = gone.enters; may = may; in_slot = comes.tried goes may })

    went : WentThrough design plan before through slot own at new
    went = record {
      within = enters.within;
      come = enters.come;
      listed = enters.listed ∙ ap (λ (f : Fault). Some (fault_of f)) (sym comes.stays.fault);
      tried =
          subst (λ (f : Fault). (new.one.tried.items ≡ []) ⊎ ((at.slot ≡ slot) × TookOwn design plan (fault_of f) (before + slot) own at new.one.tried.items)) (sym comes.stays.fault) (tried old.goes refl);
      goes = λ goes.
          let gone = enters.goes (comes.stays.before goes) in
          let rest = comes.stays.rest goes in
          record {
            slot_is = gone.slot_is;
            fine = gone.fine;
            none = gone.none;
            enters = subst (λ (f : Fault). EntersAt design plan (fault_of f) (before + slot) own at) (sym comes.stays.fault) gone.enters;
            place = rest.fault ∙ gone.place;
            states = rest.states ∙ gone.states;
          };
      through_it = λ goes first stands. subst (λ (f : Fault). IsCopyInLockstep design plan (fault_of f) (before + slot) first.begins.time (lockstep_differences new.one.own.copy)) (sym comes.stays.fault)
          (comes.through goes first stands);
    }

  -- one that may have entered it
  went-if : (own : ShardFault) (at : FaultAt) (old new : Option FaultBeside) → EntersIf design plan before through slot own at old → BothIf (ComesThroughSlot design plan (before + slot)) old new →
      WentIf design plan before through slot own at new
  went-if own at None None rests both = rests
  went-if own at None (Some new) rests both = absurd both
  went-if own at (Some old) None enters both = absurd both
  went-if own at (Some old) (Some new) enters both = went own at old new enters both

  pub have-gone : (owns : List ShardFault) (ats : List FaultAt) (entered : List Bool) (olds news : List FaultBeside) → HaveEntered design plan before through slot owns ats entered olds →
      AllZip (ComesThroughSlot design plan (before + slot)) olds news → HaveGone design plan before through slot owns ats entered news
  have-gone owns ats entered olds news all zip =
      let R = ComesThroughSlot design plan (before + slot) in
      let came = spread R all.founds news (subst (λ (l : List FaultBeside). AllZip R l news) all.besides_are zip) in
      record {
        founds = came.founds;
        are = record {
          count = all.are.count;
          beside = came.count ∙ all.are.beside;
          each = λ place own at found here there one.
              let back = came.back place found one in
              went-if own at back.0 found (all.are.each place own at back.0 here there back.1) back.2;
        };
        entered_are = all.entered_are ∙ sym came.same;
        besides_are = sym came.items;
      }

  -- all enter the first slot
  pub enter-all : (owns : List ShardFault) (ats : List FaultAt) (entered : List Bool) (besides : List FaultBeside) → AllEntered design plan before through slot owns ats besides →
      entered ≡ replicate (length owns) true → HaveEntered design plan before through slot owns ats entered besides
  enter-all owns ats entered besides all told = record {
    founds = map (λ (beside : FaultBeside). Some beside) besides;
    are = record {
      count = all.count;
      beside = length-map besides (λ (beside : FaultBeside). Some beside) ∙ all.beside;
      each = λ place own at found here there one.
          let back = some-at besides place found one in
          subst (EntersIf design plan before through slot own at) back.2 (all.each place own at back.0 here there back.1);
    };
    entered_are = told ∙ ap (λ (n : ℕ). replicate n true) (sym all.beside) ∙ all-told besides;
    besides_are = sym (all-there besides);
  }
