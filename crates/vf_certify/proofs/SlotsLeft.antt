-- The slots that are left of a first run, one after the other.
use Rattle.std.proofs.Common.{◌≡◌, ℕ, ◌+◌, ◌-◌, ◌<◌, ◌≤◌, Bool, true, false, List, [], ◌∷◌, ◌++◌, refl, sym, ap, subst, ◌∙◌, arith, append_assoc, append-nil}
use Rattle.std.specs.Prelude.{Option, Some, None, nat_le}
use Rattle.std.specs.Option.{option_map}
use Rattle.std.proofs.lemmas.Bool.{le-leb, lt-leb, leb-true, leb-false}
use Rattle.vf_base.specs.Lists.{AllHold}
use Rattle.v_design.specs.Designs.{Machine}
use Rattle.v_design.specs.States.{State, start}
use Rattle.v_design.specs.Runs.{FirstSlot, only_if, first_run, next_slot}
use Rattle.v_design.specs.WellFormed.{KeepsRules}
use Rattle.order_laws.specs.FirstRuns.{FirstRunsGoOn, Follow, Rise}
use Rattle.order_laws.specs.EveryRun.{slots_by}
use Rattle.machine_laws.specs.SlotLoop.{slot_from}
use Rattle.machine.specs.Standing.{IsStanding, machine_kept, begins_next, begun_within, next-is-following}
use Rattle.machine.specs.declared.parts.Machine.{Machine as Simulated}
use Rattle.fault_grade.specs.Reached.{next_of}
use Rattle.cert_laws.specs.Replays.{RunLine}
use Rattle.cert_laws.specs.Written.{slot_lines, run_lines}
use Rattle.cert_text.specs.Fits.{RunFits}
use Rattle.run_lines.specs.Open.{lines_text, text-append, fits-append}
use Rattle.vf_certify.specs.Runs.{AddsLines, AddsSlot, IsLeft}

-- Times

pub some-is : {A : Type 0} (one other : A) → Some one ≡ Some other → one ≡ other
some-is one other e = cc

-- the state in which the next slot begins
pub next-is : (m : Simulated) (time : ℕ) → next_of m ≡ Some time → (begins : State) × (begins_next m ≡ Some begins) × (begins.time ≡ time)
next-is m time e = go (begins_next m) refl e
  where
    go : (next : Option State) → begins_next m ≡ next → option_map (λ (s : State). s.time) next ≡ Some time → (begins : State) × (begins_next m ≡ Some begins) × (begins.time ≡ time)
    go None n f = cc
    go (Some begins) n f = (begins, n, some-is begins.time time f)

within-some : (end : ℕ) (begins : State) → begins.time ≤ end → begun_within end (Some begins) ≡ Some begins
within-some end begins h = ap (λ b. only_if b begins) (le-leb begins.time end h)

within-later : (end : ℕ) (begins : State) → end < begins.time → begun_within end (Some begins) ≡ None
within-later end begins h = ap (λ b. only_if b begins) (lt-leb begins.time end h)

-- how much time is left up to a time
abbrev pub time_left : ℕ → Option ℕ → ℕ
time_left until None = 0
time_left until (Some time) = until + 1 - time

pub left-falls : (until time : ℕ) (next : Option ℕ) → time ≤ until → ((later : ℕ) → next ≡ Some later → time < later) → time_left until next < time_left until (Some time)
left-falls until time None h rises = omega (arith, h)
left-falls until time (Some later) h rises = let r : time < later = rises later refl in omega (arith, h, r)

-- The start

pub left-start : FirstRunsGoOn → (m : Simulated) (machine : Machine) (end : ℕ) → KeepsRules machine.design → machine_kept m ≡ machine → begins_next m ≡ Some (start machine) → IsStanding m →
    IsLeft machine end m (first_run machine end)
left-start law m machine end rules same begins standing = record {
  same_machine = same;
  standing = standing;
  follow = subst (λ next. Follow machine end next (first_run machine end)) (sym (ap (begun_within end) begins ∙ within-some end (start machine) (omega arith))) (law.follow machine end rules);
  rise = law.rise machine end rules;
}

-- A slot

-- the lines that are left, and what was written before them, are these
abbrev pub Whole : List RunLine → List RunLine → List ℕ → List ℕ → Type 0
Whole all left before out = (out ++ lines_text left ≡ before ++ lines_text all) × (AllHold RunFits left → AllHold RunFits all)

-- a slot of the first run that is left, and those behind it
record Next (machine : Machine) (end bound : ℕ) (begins : State) (slots : List FirstSlot) : Type 0 where
  rest : List FirstSlot
  follow : Follow machine end (next_slot machine end (slot_from machine begins)) rest
  rise : Rise rest
  later : AllHold (λ (slot : FirstSlot). begins.time < slot.begins.time) rest
  lines : run_lines (slots_by bound slots) ≡ slot_lines (slot_from machine begins) ++ run_lines (slots_by bound rest)

next-slot : (machine : Machine) (end bound : ℕ) (begins : State) (slots : List FirstSlot) → begins.time ≤ bound → Follow machine end (Some begins) slots → Rise slots →
    Next machine end bound begins slots
next-slot machine end bound begins [] low f r = absurd f
next-slot machine end bound begins (slot ∷ rest) low f r = record {
  rest = rest;
  follow = subst (λ (x : FirstSlot). Follow machine end (next_slot machine end x) rest) f.0 f.1;
  rise = r.1;
  later = subst (λ (x : FirstSlot). AllHold (λ (y : FirstSlot). x.begins.time < y.begins.time) rest) f.0 r.0;
  lines =
      subst (λ (x : FirstSlot). run_lines (slots_by bound (x ∷ rest)) ≡ slot_lines (slot_from machine begins) ++ run_lines (slots_by bound rest)) (sym f.0)
      (ap (λ b. run_lines (elim b [ true ↦ slot_from machine begins ∷ slots_by bound rest | false ↦ [] ])) (le-leb begins.time bound low));
}

-- the next slot that is left is later
head-later : (machine : Machine) (end time : ℕ) (next : State) (rest : List FirstSlot) → Follow machine end (Some next) rest → AllHold (λ (slot : FirstSlot). time < slot.begins.time) rest →
    time < next.time
head-later machine end time next [] f l = absurd f
head-later machine end time next (slot ∷ rest) f l = subst (λ (x : FirstSlot). time < x.begins.time) f.0 l.0

later-by : (machine : Machine) (end time : ℕ) (b : Bool) (next : State) (rest : List FirstSlot) → time ≤ end → nat_le next.time end ≡ b → Follow machine end (only_if b next) rest →
    AllHold (λ (slot : FirstSlot). time < slot.begins.time) rest → time < next.time
later-by machine end time true next rest early e f l = head-later machine end time next rest f l
later-by machine end time false next rest early e f l = let late : end < next.time = leb-false next.time end e in omega (arith, late, early)

rises : (machine : Machine) (end time : ℕ) (m : Simulated) (next : ℕ) (rest : List FirstSlot) → time ≤ end → next_of m ≡ Some next → Follow machine end (begun_within end (begins_next m)) rest →
    AllHold (λ (slot : FirstSlot). time < slot.begins.time) rest → time < next
rises machine end time m next rest early e f l =
    let n = next-is m next e in
    subst (λ t. time < t) n.2
    (later-by machine end time (nat_le n.0.time end) n.0 rest early refl (subst (λ x. Follow machine end (begun_within end x) rest) n.1 f) l)

-- one slot more was written
pub record Onward (machine : Machine) (end bound time : ℕ) (new : Simulated) (all : List RunLine) (before out : List ℕ) : Type 0 where
  pub slots : List FirstSlot
  pub left : IsLeft machine end new slots
  pub whole : Whole all (run_lines (slots_by bound slots)) before out
  pub later : (next : ℕ) → next_of new ≡ Some next → time < next

pub onward : (machine : Machine) (end bound time : ℕ) (old new : Simulated) (slots : List FirstSlot) (all : List RunLine) (before out more : List ℕ) → time ≤ end → time ≤ bound →
    IsLeft machine end old slots → Whole all (run_lines (slots_by bound slots)) before out → AddsSlot machine time old new out more → Onward machine end bound time new all before more
onward machine end bound time old new slots all before out more early low left whole adds =
    let begins = adds.begins in
    let in_end : begins.time ≤ end = subst (λ t. t ≤ end) (sym adds.time_is) early in
    let in_bound : begins.time ≤ bound = subst (λ t. t ≤ bound) (sym adds.time_is) low in
    let here : Follow machine end (Some begins) slots = subst (λ next. Follow machine end next slots) (ap (begun_within end) adds.begins_is ∙ within-some end begins in_end) left.follow in
    let n = next-slot machine end bound begins slots in_bound here left.rise in
    let own = slot_lines (slot_from machine begins) in
    let behind = run_lines (slots_by bound n.rest) in
    let goes : next_slot machine end (slot_from machine begins) ≡ begun_within end (begins_next new) =
    next-is-following machine end (slot_from machine begins) ∙ sym (ap (begun_within end) adds.next_is) in
    let follow : Follow machine end (begun_within end (begins_next new)) n.rest = subst (λ next. Follow machine end next n.rest) goes n.follow in
    record {
      slots = n.rest;
      left = record { same_machine = adds.same_machine; standing = adds.standing; follow = follow; rise = n.rise };
      whole = (
        ap (λ l. l ++ lines_text behind) adds.adds.0 ∙ append_assoc out (lines_text own) (lines_text behind) ∙ ap (λ l. out ++ l) (sym (text-append own behind))
            ∙ ap (λ l. out ++ lines_text l) (sym n.lines) ∙ whole.0,
        λ fits. whole.1 (subst (AllHold RunFits) (sym n.lines) (fits-append own behind adds.adds.1 fits)),
      );
      later = λ next e. rises machine end time new next n.rest early e follow (subst (λ t. AllHold (λ (slot : FirstSlot). t < slot.begins.time) n.rest) adds.time_is n.later);
    }

-- the same of a machine that stands where its first run left it
pub goes-onward : (end bound until time : ℕ) (first old new : Simulated) (slots : List FirstSlot) (all : List RunLine) (before out more : List ℕ) → until ≤ bound → until ≤ end → time ≤ until →
    IsLeft (machine_kept first) end old slots → Whole all (run_lines (slots_by bound slots)) before out → AddsSlot (machine_kept old) time old new out more →
    Onward (machine_kept first) end bound time new all before more
goes-onward end bound until time first old new slots all before out more low early here left whole adds =
    onward (machine_kept first) end bound time old new slots all before out more (omega (arith, here, early)) (omega (arith, here, low)) left whole
    (subst (λ (machine : Machine). AddsSlot machine time old new out more) left.same_machine adds)

-- The end

-- nothing is left where no slot comes next
none-left : (machine : Machine) (end : ℕ) (slots : List FirstSlot) → Follow machine end None slots → slots ≡ []
none-left machine end [] f = refl
none-left machine end (slot ∷ slots) f = absurd f

over : (machine : Machine) (bound : ℕ) (slots : List FirstSlot) (all : List RunLine) (before out : List ℕ) → Whole all (run_lines (slots_by bound slots)) before out → slots_by bound slots ≡ [] →
    AddsLines all before out
over machine bound slots all before out whole none = (
  sym (append-nil out) ∙ ap (λ l. out ++ lines_text (run_lines l)) (sym none) ∙ whole.0,
  whole.1 (subst (λ l. AllHold RunFits (run_lines l)) (sym none) tt),
)

pub over-none : (machine : Machine) (end bound : ℕ) (m : Simulated) (slots : List FirstSlot) (all : List RunLine) (before out : List ℕ) → IsLeft machine end m slots →
    Whole all (run_lines (slots_by bound slots)) before out → next_of m ≡ None → AddsLines all before out
over-none machine end bound m slots all before out left whole e = go (begins_next m) e left.follow
  where
    go : (next : Option State) → option_map (λ (s : State). s.time) next ≡ None → Follow machine end (begun_within end next) slots → AddsLines all before out
    go None f follow = over machine bound slots all before out whole (ap (slots_by bound) (none-left machine end slots follow))
    go (Some begins) f follow = cc

pub over-later : (machine : Machine) (end bound time : ℕ) (m : Simulated) (slots : List FirstSlot) (all : List RunLine) (before out : List ℕ) → IsLeft machine end m slots →
    Whole all (run_lines (slots_by bound slots)) before out → next_of m ≡ Some time → (time ≤ end → bound < time) → AddsLines all before out
over-later machine end bound time m slots all before out left whole e late =
    let n = next-is m time e in
    over machine bound slots all before out whole (go n.0 (nat_le n.0.time end) refl n.1 (λ h. subst (λ t. bound < t) (sym n.2) (late (subst (λ t. t ≤ end) n.2 h)))
    (subst (λ next. Follow machine end (begun_within end next) slots) n.1 left.follow))
  where
    beyond : (begins : State) (slots : List FirstSlot) → Follow machine end (Some begins) slots → bound < begins.time → slots_by bound slots ≡ []
    beyond begins [] f h = refl
    beyond begins (slot ∷ rest) f h =
        ap (λ b. elim b [ true ↦ slot ∷ slots_by bound rest | false ↦ [] ]) (ap (λ (s : FirstSlot). nat_le s.begins.time bound) f.0 ∙ lt-leb begins.time bound h)

    go : (begins : State) (b : Bool) → nat_le begins.time end ≡ b → begins_next m ≡ Some begins → (begins.time ≤ end → bound < begins.time) → Follow machine end (only_if b begins) slots →
        slots_by bound slots ≡ []
    go begins true f n h follow = beyond begins slots follow (h (leb-true begins.time end f))
    go begins false f n h follow = ap (slots_by bound) (none-left machine end slots follow)
