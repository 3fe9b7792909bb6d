-- A copy of a shard stands as the shard does (slots by IEEE 1364-2001, clause 5).
use Rattle.std.proofs.Common.{◌≡◌, ℕ, zero, suc, ◌+◌, ◌<◌, Bool, false, not, ◌||◌, List, [], ◌∷◌, ◌++◌, length, map, get_or, take, refl, ap, sym, subst, ◌∙◌, arith}
use Rattle.std.specs.Prelude.{Option, Some, None, is_some, option_map, slice_get}
use Rattle.std.specs.List.{AllZip, list_any, cons_option}
use Rattle.std.proofs.lemmas.List.Elements.{all_zip_more}
use Rattle.vf_base.specs.Base.{fault_number}
use Rattle.vf_base.specs.Lists.{AllHold}
use Rattle.vf_base.specs.declared.ids.FaultId.{FaultId}
use Rattle.vf_base.specs.declared.finding.End.{End}
use Rattle.vf_base.specs.declared.finding.Finding.{Finding}
use Rattle.four_value.specs.Values.{LogicValue}
use Rattle.v_design.specs.Designs.{FlatDesign, StuckAt, TestPlan}
use Rattle.v_design.specs.Plain.{grade_of}
use Rattle.v_design.specs.Processes.{Activity, Done}
use Rattle.v_design.specs.States.{LaterUpdate}
use Rattle.process_code.specs.Layouts.{layout_of_body}
use Rattle.process_code.specs.Points.{Point, activity_at, point_of}
use Rattle.process_code.specs.declared.code.Code.{Code}
use Rattle.process_code.specs.declared.state.ProcState.{ProcState}
use Rattle.grade_laws.specs.Grading.{good_seen, faulty_seen}
use Rattle.fault_strobes.specs.Full.{IsFull}
use Rattle.fault_strobes.specs.Said.{IsSaid, Said, keeps, plan_by}
use Rattle.copy_laws.specs.Differences.{own_of}
use Rattle.copy_laws.specs.Windows.{IsBesideAt}
use Rattle.copy_state.specs.Copied.{IsSameState, KeepsSame}
use Rattle.copy_state.specs.Entries.{each_by}
use Rattle.copy_state.specs.EntryLaws.{own-each}
use Rattle.copy_state.specs.Kept.{AreStatesOf, CopyKept}
use Rattle.copy_between.specs.Beside.{KeepsWithin}
use Rattle.own_gradings.specs.Numbers.{OwnStepsOf}
use Rattle.shard_windows.specs.copy_window.Copies.{differences_in, done_in}
use Rattle.shard_windows.specs.copy_window.ShardFaults.{GoesOnAt, IsShardFault, beside_by, kept_by}
use Rattle.shard_windows.specs.copy_window.declared.fault.ShardFault.{ShardFault}
use Rattle.copy_shard.specs.Copied.{IsCopied, IsSameFault, IsSameShard, differences_of_each}
use Rattle.shard_windows.specs.Reached.{is_open}
use Rattle.copy_shard.specs.Kept.{IsShard, fault_kept}
use Rattle.copy_shard.specs.Shards.{FaultKept, ShardKept, findings_of, goes_on, places_of, shard_steps}
use Rattle.shard_windows.specs.declared.reached.Reached.{Reached}
use Rattle.copy_shard.proofs.Ticks.{same-sums}

-- The states that are kept

-- what is told of a state by where it stands is told of its copy
each-same : {B : Type 0} (f : ℕ → ProcState → B) (old new : List (ℕ × ProcState)) → ((process : ℕ) (one other : ProcState) → point_of other ≡ point_of one → f process other ≡ f process one) →
    AllZip IsSameState old new → each_by f new ≡ each_by f old
each-same f [] [] alike all = refl
each-same f [] (n ∷ new) alike all = absurd all
each-same f (o ∷ old) [] alike all = absurd all
each-same {B} f (o ∷ old) (n ∷ new) alike all =
    let place : (n.0, f n.0 n.1) ∷ each_by f new ≡ (o.0, f o.0 n.1) ∷ each_by f new = ap (λ (p : ℕ). (p, f p n.1) ∷ each_by f new) all.0.process in
    let told : (o.0, f o.0 n.1) ∷ each_by f new ≡ (o.0, f o.0 o.1) ∷ each_by f new = ap (λ (v : B). (o.0, v) ∷ each_by f new) (alike o.0 o.1 n.1 all.0.point) in
    place ∙ told ∙ ap (λ (l : List (ℕ × B)). (o.0, f o.0 o.1) ∷ l) (each-same f old new alike all.1)

done-same : (design : FlatDesign) (process : ℕ) (one other : ProcState) → point_of other ≡ point_of one → done_in design process other ≡ done_in design process one
done-same design process one other same =
    ap (λ (p : Point). elim (slice_get design.processes process) as (λ _. Activity) [ None ↦ Done | Some own ↦ activity_at (layout_of_body own.body).rests p ]) same

none_of : {A : Type 0} (mark : A → ℕ) (found : Option A) → option_map mark found ≡ None → found ≡ None
none_of mark None none = refl
none_of mark (Some x) none = cc

-- of a process of which nothing was kept nothing is kept
own-none : (old new : List (ℕ × ProcState)) (process : ℕ) → AllZip IsSameState old new → own_of old process ≡ None → own_of new process ≡ None
own-none old new process all none =
    let mark : ℕ → ProcState → ℕ = λ _ _. 0 in
    none_of (mark process) (own_of new process)
    (sym (own-each mark process new) ∙ ap (λ (l : List (ℕ × ℕ)). own_of l process) (each-same mark old new (λ p one other same. refl) all)
    ∙ own-each mark process old ∙ ap (option_map (mark process)) none)

-- they are states of the codes
states-same : (codes : List Code) (old new : List (ℕ × ProcState)) → AllZip IsSameState old new → AreStatesOf codes old → AreStatesOf codes new
states-same codes [] [] all of = tt
states-same codes [] (n ∷ new) all of = absurd all
states-same codes (o ∷ old) [] all of = absurd all
states-same codes (o ∷ old) (n ∷ new) all of =
    (λ code there. all.0.state code (of.0 code (ap (slice_get codes) (sym all.0.process) ∙ there)), states-same codes old new all.1 of.1)

-- A copy

-- it stands for the same differences
pub differences-same : (design : FlatDesign) (old new : CopyKept) → KeepsSame old new → differences_in design new ≡ differences_in design old
differences-same design old new same =
    let activities : each_by (done_in design) new.states ≡ each_by (done_in design) old.states = each-same (done_in design) old.states new.states (done-same design) same.states in
    λ i. record { values = same.values i; activities = activities i; updates = same.updates i }

within-same : (objects processes : ℕ) (old new : CopyKept) → KeepsSame old new → KeepsWithin objects processes old → KeepsWithin objects processes new
within-same objects processes old new same within = record {
  values = λ object past. ap (λ (l : List (ℕ × LogicValue)). own_of l object) same.values ∙ within.values object past;
  states = λ process past. own-none old.states new.states process same.states (within.states process past);
  updates = λ process past. ap (λ (l : List (ℕ × List LaterUpdate)). own_of l process) same.updates ∙ within.updates process past;
}

-- A fault

beside-same : (design : FlatDesign) (fault : StuckAt) (old new : ShardFault) → IsCopied old new → beside_by design fault new ≡ beside_by design fault old
beside-same design fault old new same =
    λ i. record { fault = fault; differences = differences-same design old.copy new.copy same.copy i; found = option_map grade_of (same.end i) }

module _ (design : FlatDesign) (plan : TestPlan) (gone passed : ℕ) where
  goes-on : (fault : StuckAt) (time : ℕ) (old new : ShardFault) → IsCopied old new → GoesOnAt design plan gone passed fault time old → GoesOnAt design plan gone passed fault time new
  goes-on fault time old new same on = record {
    runs_on = on.runs_on;
    between = on.between;
    time_is = on.time_is ∙ sym same.time;
    states = λ codes are. states-same codes old.copy.states new.copy.states same.copy.states (on.states codes are);
    so_far = subst (λ (said : Said). IsSaid (good_seen design plan) (faulty_seen design plan fault) (take passed plan.strobes) said) (sym same.said) on.so_far;
  }

  -- it stands as the fault does
  fault-same : (old new : ShardFault) → IsCopied old new → IsShardFault design plan gone passed old → IsShardFault design plan gone passed new
  fault-same old new same stands = record {
    fault = stands.fault;
    listed = ap (slice_get plan.faults) same.copy.fault ∙ stands.listed;
    beside =
        subst (λ (kept : Bool). IsBesideAt design (plan_by kept plan) gone (beside_by design stands.fault new)) (sym (ap keeps same.said))
        (subst (IsBesideAt design (plan_by (kept_by old) plan) gone) (sym (beside-same design stands.fault old new same)) stands.beside);
    full = λ end is. subst (λ (said : Said). IsFull design plan stands.fault (grade_of end) said) (sym same.said) (stands.full end (sym same.end ∙ is));
    within = within-same (length design.objects) (length design.processes) old.copy new.copy same.copy stands.within;
    goes_on = λ time at more none. goes-on stands.fault time old new same (stands.goes_on time at more (sym same.end ∙ none));
  }

  all-same : (old new : List ShardFault) → AllZip IsCopied old new → AllHold (IsShardFault design plan gone passed) old → AllHold (IsShardFault design plan gone passed) new
  all-same [] [] all stands = tt
  all-same [] (n ∷ new) all stands = absurd all
  all-same (o ∷ old) [] all stands = absurd all
  all-same (o ∷ old) (n ∷ new) all stands = (fault-same o n all.0 stands.0, all-same old new all.1 stands.1)

-- its faults are judged
judged-same : (old new : List ShardFault) → AllZip IsCopied old new → AllHold (λ (own : ShardFault). kept_by own ≡ false) old → AllHold (λ (own : ShardFault). kept_by own ≡ false) new
judged-same [] [] all judged = tt
judged-same [] (n ∷ new) all judged = absurd all
judged-same (o ∷ old) [] all judged = absurd all
judged-same (o ∷ old) (n ∷ new) all judged = (ap keeps all.0.said ∙ judged.0, judged-same old new all.1 judged.1)

-- Several faults

open-same : (old new : List ShardFault) → AllZip IsCopied old new → list_any is_open new ≡ list_any is_open old
open-same [] [] all = refl
open-same [] (n ∷ new) all = absurd all
open-same (o ∷ old) [] all = absurd all
open-same (o ∷ old) (n ∷ new) all = λ i. not (is_some (all.0.end i)) || open-same old new all.1 i

pub seen-same : (old new : List ShardFault) → AllZip IsCopied old new → AllZip IsSameFault (map fault_kept old) (map fault_kept new)
seen-same [] [] all = tt
seen-same [] (n ∷ new) all = absurd all
seen-same (o ∷ old) [] all = absurd all
seen-same (o ∷ old) (n ∷ new) all = (record { copy = all.0.copy; end = all.0.end }, seen-same old new all.1)

pub places-same : (old new : List FaultKept) → AllZip IsSameFault old new → places_of new ≡ places_of old
places-same [] [] all = refl
places-same [] (n ∷ new) all = absurd all
places-same (o ∷ old) [] all = absurd all
places-same (o ∷ old) (n ∷ new) all = λ i. all.0.copy.fault i ∷ places-same old new all.1 i

pub found-same : (old new : List FaultKept) → AllZip IsSameFault old new → findings_of new ≡ findings_of old
found-same [] [] all = refl
found-same [] (n ∷ new) all = absurd all
found-same (o ∷ old) [] all = absurd all
found-same (o ∷ old) (n ∷ new) all =
    λ i. cons_option (option_map (λ (end : End). let found : Finding = record { fault = record { 0 = all.0.copy.fault i }; end = end } in found) (all.0.end i)) (found-same old new all.1 i)

pub differences-same_each : (design : FlatDesign) (old new : List FaultKept) → AllZip IsSameFault old new → differences_of_each design new ≡ differences_of_each design old
differences-same_each design [] [] all = refl
differences-same_each design [] (n ∷ new) all = absurd all
differences-same_each design (o ∷ old) [] all = absurd all
differences-same_each design (o ∷ old) (n ∷ new) all = λ i. differences-same design o.copy n.copy all.0.copy i ∷ differences-same_each design old new all.1 i

pub steps-same : (design : FlatDesign) (plan : TestPlan) (tally : OwnStepsOf design plan) (old new : ShardKept) → IsSameShard old new → shard_steps tally new ≡ shard_steps tally old
steps-same design plan tally old new same =
    ap (λ (gone : ℕ). shard_steps tally (record { gone = gone; faults = new.faults })) same.gone
    ∙ same-sums tally old.gone old.faults new.faults (places-same old.faults new.faults same.faults)

-- One fault more

pub held-at : {A : Type 0} (P : A → Type 0) (xs : List A) (i : ℕ) (x : A) → AllHold P xs → i < length xs → x ≡ get_or xs i x → P x
held-at P [] i x all low is = absurd (omega (arith, low))
held-at P (y ∷ ys) zero x all low is = subst P (sym is) all.0
held-at P (y ∷ ys) (suc i) x all low is = held-at P ys i x all.1 (omega (arith, low)) is

pub copied-more : (faults copies : List ShardFault) (i : ℕ) (own copy : ShardFault) → i < length faults → own ≡ get_or faults i own → AllZip IsCopied (take i faults) copies → IsCopied own copy →
    AllZip IsCopied (take (i + 1) faults) (copies ++ copy ∷ [])
copied-more faults copies i own copy low is all one = all_zip_more IsCopied faults copies i own copy low is all one

-- The shard

pub is-shard_same : (design : FlatDesign) (plan : TestPlan) (gone : ℕ) (reached : Reached) (numbers copied_numbers : List FaultId) (faults copies : List ShardFault) →
    IsShard design plan gone reached numbers faults → copied_numbers ≡ numbers → AllZip IsCopied faults copies → IsShard design plan gone reached copied_numbers copies
is-shard_same design plan gone reached numbers copied_numbers faults copies is same all = record {
  numbers_are = ap (map fault_number) same ∙ is.numbers_are ∙ sym (places-same (map fault_kept faults) (map fault_kept copies) (seen-same faults copies all));
  judged = judged-same faults copies all is.judged;
  reaches = λ some. is.reaches (sym (open-same faults copies all) ∙ some);
  each = all-same design plan gone reached.passed faults copies all is.each;
}

pub shard-same : (gone : ℕ) (faults items copies : List ShardFault) (kept : ShardKept) → record { gone = gone; faults = map fault_kept faults } ≡ kept → items ≡ faults → AllZip IsCopied items copies →
    IsSameShard kept (record { gone = gone; faults = map fault_kept copies })
shard-same gone faults items copies kept view same all =
    let seen : AllZip IsSameFault (map fault_kept faults) (map fault_kept copies) =
    seen-same faults copies (subst (λ (l : List ShardFault). AllZip IsCopied l copies) same all) in
    subst (λ (k : ShardKept). IsSameShard k (record { gone = gone; faults = map fault_kept copies })) view (record { gone = refl; faults = seen })

-- What goes on

pub open-seen : (faults : List ShardFault) → list_any is_open faults ≡ list_any goes_on (map fault_kept faults)
open-seen [] = refl
open-seen (own ∷ faults) = ap (λ (b : Bool). not (is_some own.end) || b) (open-seen faults)
