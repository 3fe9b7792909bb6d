-- What stands behind the lines of a report: orders of which a verdict speaks, and nothing hard before a race or a loop.
use Rattle.std.proofs.Common.{◌≡◌, ℕ, zero, suc, ◌+◌, ◌<◌, ◌≤◌, List, [], ◌∷◌, Bool, true, false, refl, sym, ap, subst, ◌∙◌, inl, inr, arith, filter}
use Rattle.std.specs.Prelude.{Option, Some, None, find, cond, nat_le, slice_get}
use Rattle.std.specs.List.{AllZip}
use Rattle.std.proofs.lemmas.Bool.{leb-true, lt-leb}
use Rattle.vf_base.specs.Base.{ReportedPair}
use Rattle.vf_base.specs.declared.finding.Side.TheVariants.{Good, Faulty}
use Rattle.vf_base.specs.Lists.{AllHold}
use Rattle.v_design.specs.Designs.{FlatDesign, Machine, StuckAt, TestPlan, good_machine, faulty_machine}
use Rattle.v_design.specs.States.{State, start}
use Rattle.v_design.specs.Runs.{Move, IsLegal, FirstSlot, next_slot, first_slots, first_run}
use Rattle.v_design.specs.Grades.{phases, SlotOutcome, Fine, Race, Hyper, slot_outcome, is_hard, is_possible, some_sample, Verdict, verdict, first_strobe, FaultGrade, Judged, Raced, Looped, Stop}
use Rattle.v_design.specs.Grades.{first_stop, by_then, good_ending, faulty_ending, grade}
use Rattle.v_design.specs.WellFormed.{IsAscending, KeepsRules, IsPlan}
use Rattle.v_design.specs.Laws.{run_samples, strobes_until, LineHolds, GradesHold}
use Rattle.order_laws.specs.Reports.{verdict_time, HasOrder, OrdersExist, stop_of, NothingBefore, ReportsHold}
use Rattle.order_laws.proofs.RunsEndAlike.{some_eq}
use Rattle.order_laws.proofs.FirstOrder.SlotChain.{Begins, slot_from, next_begins, slot_moves_may}
use Rattle.order_laws.proofs.FirstOrder.FineSlots.{slots_on, first_begins, slot_begins}
use Rattle.order_laws.proofs.FirstOrder.RunsUpTo.{StopsAfter, up_to}
use Rattle.order_laws.proofs.FirstOrder.NamedRaces.{stopped_slot, race-is, raced-phase, all-at}
use Rattle.order_laws.proofs.FirstOrder.GradesHold.{NotBefore, NoneBefore, Past, reason, past_of, good_seen, faulty_seen, strobe-same}

-- Orders of which a verdict speaks

has-order : (machine : Machine) (time end : ℕ) → KeepsRules machine.design → time ≤ end → StopsAfter time (first_stop machine (first_run machine end)) → HasOrder machine time
has-order machine time end rules h s =
    let u = up_to machine time end rules h (end + 1) (start machine) (first_begins machine rules) (omega arith) (omega arith) s [] in
    (u.moves, u.final, record { leads = u.leads; ends = u.ends })

judged_eq : (one other : Verdict) → Judged one ≡ Judged other → one ≡ other
judged_eq one other e = cc

good-no-verdict : {A : Type 0} (outcome : SlotOutcome) (given : Verdict) → good_ending outcome ≡ Some (Judged given) → A
good-no-verdict Fine given e = cc
good-no-verdict (Race pair) given e = cc
good-no-verdict Hyper given e = cc

faulty-no-verdict : {A : Type 0} (time : ℕ) (outcome : SlotOutcome) (given : Verdict) → faulty_ending time outcome ≡ Some (Judged given) → A
faulty-no-verdict time Fine given e = cc
faulty-no-verdict time (Race pair) given e = cc
faulty-no-verdict time Hyper given e = cc

both-past : (design : FlatDesign) (plan : TestPlan) (fault : StuckAt) (time : ℕ) → KeepsRules design → Past design plan fault time →
    HasOrder (good_machine design) time × HasOrder (faulty_machine design fault) time
both-past design plan fault time rules past =
    (has-order (good_machine design) time plan.end rules past.within past.good, has-order (faulty_machine design fault) time plan.end rules past.within past.faulty)

pub orders_exist : OrdersExist
orders_exist design plan fault given rules p e =
    elim (reason (first_stop (good_machine design) (first_run (good_machine design) plan.end)) (first_stop (faulty_machine design fault) (first_run (faulty_machine design fault) plan.end))
    (first_strobe is_hard (good_seen design plan) (faulty_seen design plan fault) plan.strobes) (verdict (good_seen design plan) (faulty_seen design plan fault) plan.strobes) (Judged given) e) [
      | inl g ↦ good-no-verdict g.0.outcome given g.2
      | inr other ↦
          elim other [
            | inl f ↦ faulty-no-verdict f.0.time f.0.outcome given f.2
            | inr j ↦
                subst (λ v. HasOrder (good_machine design) (verdict_time plan v) × HasOrder (faulty_machine design fault) (verdict_time plan v)) (judged_eq _ given j.0)
                (both-past design plan fault _ rules
                (past_of design plan fault p (first_strobe is_hard (good_seen design plan) (faulty_seen design plan fault) plan.strobes)
                (first_strobe is_possible (good_seen design plan) (faulty_seen design plan fault) plan.strobes) refl j.1 j.2))
          ]
    ]

-- Nothing hard before a stop

-- a slot of the first run begins by the time up to which the run goes
slot-within : (machine : Machine) (until : ℕ) → KeepsRules machine.design → (count : ℕ) (state : State) → Begins machine state → state.time ≤ until → (number : ℕ) (slot : FirstSlot) →
    slice_get (first_slots count machine until state) number ≡ Some slot →
    slot.begins.time ≤ until
slot-within machine until rules zero state b h number slot e = cc
slot-within machine until rules (suc count) state b h zero slot e = subst (λ (sl : FirstSlot). sl.begins.time ≤ until) (some_eq (slot_from machine state) slot e) h
slot-within machine until rules (suc count) state b h (suc number) slot e =
    go (next_slot machine until (slot_from machine state)) refl e (λ next c k f. slot-within machine until rules count next c k number slot f)
  where
    go : (found : Option State) → next_slot machine until (slot_from machine state) ≡ found → slice_get (slots_on count machine until found) number ≡ Some slot →
        ((next : State) → Begins machine next → next.time ≤ until → slice_get (first_slots count machine until next) number ≡ Some slot → slot.begins.time ≤ until) → slot.begins.time ≤ until
    go None f g rest = cc
    go (Some next) f g rest =
        let n = next_begins machine until state next rules b f in
        rest next n.begins (let w : n.later ≤ until = n.within in let t : n.later ≡ next.time = ap (λ (s : State). s.time) n.is_next in omega (arith, w, t)) g

stop-within : (machine : Machine) (end : ℕ) (stop : Stop) → KeepsRules machine.design → first_stop machine (first_run machine end) ≡ Some stop → stop.time ≤ end
stop-within machine end stop rules e =
    let s = stopped_slot machine (first_run machine end) stop e in
    subst (λ t. t ≤ end) s.same_time (slot-within machine end rules (end + 1) (start machine) (first_begins machine rules) (omega arith) s.number s.slot s.stands)

-- a race has the time of its slot
pub race-time : (machine : Machine) (end : ℕ) (stop : Stop) (pair : ReportedPair) → KeepsRules machine.design → first_stop machine (first_run machine end) ≡ Some stop → stop.outcome ≡ Race pair →
    pair.time ≡ stop.time
race-time machine end stop pair rules e h =
    let s = stopped_slot machine (first_run machine end) stop e in
    let b = slot_begins machine end rules (end + 1) (start machine) (first_begins machine rules) s.number s.slot s.stands in
    let r = race-is machine (slot_from machine b.state) pair (ap (slot_outcome machine) (sym b.from) ∙ s.same_outcome ∙ h) in
    let f = raced-phase machine 1 (phases machine (slot_from machine b.state)) pair r.1 in
    ap (λ (q : ReportedPair). q.time) f.is_pair
    ∙ all-at _ (phases machine (slot_from machine b.state)) f.place f.phase ((slot_moves_may machine b.state.time b.state).phases None b.state [] refl) f.stands
    ∙ ap (λ (sl : FirstSlot). sl.begins.time) (sym b.from) ∙ s.same_time

stops-after : (time stop : ℕ) (found : Option Stop) → time < stop → NotBefore stop found → StopsAfter time found
stops-after time stop None h n = tt
stops-after time stop (Some found) h n = omega (arith, h, n)

-- where the first that passes comes later, none up to a time passes
none-found : (test : ℕ → Bool) (time found : ℕ) → time < found → (xs : List ℕ) → IsAscending xs → find test xs ≡ Some found → find test (filter (λ x. nat_le x time) xs) ≡ None
none-found test time found h [] a e = cc
none-found test time found h (x ∷ xs) a e = go (test x) refl e (λ f. none-found test time found h xs a.1 f)
  where
    all-late : (ys : List ℕ) → AllHold (λ y. x < y) ys → time < x → find test (filter (λ y. nat_le y time) ys) ≡ None
    all-late [] k l = refl
    all-late (y ∷ ys) k l =
        let first : x < y = k.0 in
        ap (λ b. find test (cond b (y ∷ filter (λ z. nat_le z time) ys) (filter (λ z. nat_le z time) ys))) (lt-leb y time (omega (arith, first, l))) ∙ all-late ys k.1 l

    go : (b : Bool) → test x ≡ b → cond b (Some x) (find test xs) ≡ Some found → (find test xs ≡ Some found → find test (filter (λ y. nat_le y time) xs) ≡ None) →
        find test (cond (nat_le x time) (x ∷ filter (λ y. nat_le y time) xs) (filter (λ y. nat_le y time) xs)) ≡ None
    go true t f rest =
        let late : time < x = subst (λ n. time < n) (sym (some_eq x found f)) h in
        ap (λ b. find test (cond b (x ∷ filter (λ y. nat_le y time) xs) (filter (λ y. nat_le y time) xs))) (lt-leb x time late) ∙ all-late xs a.0 late
    go false t f rest = kept (nat_le x time)
      where
        kept : (c : Bool) → find test (cond c (x ∷ filter (λ y. nat_le y time) xs) (filter (λ y. nat_le y time) xs)) ≡ None
        kept true = ap (λ b. cond b (Some x) (find test (filter (λ y. nat_le y time) xs))) t ∙ rest f
        kept false = rest f

none-stays : (test keep : ℕ → Bool) (xs : List ℕ) → find test xs ≡ None → find test (filter keep xs) ≡ None
none-stays test keep [] e = refl
none-stays test keep (x ∷ xs) e = go (test x) refl e (λ f. none-stays test keep xs f)
  where
    go : (b : Bool) → test x ≡ b → cond b (Some x) (find test xs) ≡ None → (find test xs ≡ None → find test (filter keep xs) ≡ None) →
        find test (cond (keep x) (x ∷ filter keep xs) (filter keep xs)) ≡ None
    go true t f rest = cc
    go false t f rest = kept (keep x)
      where
        kept : (c : Bool) → find test (cond c (x ∷ filter keep xs) (filter keep xs)) ≡ None
        kept true = ap (λ b. cond b (Some x) (find test (filter keep xs))) t ∙ rest f
        kept false = rest f

none-by : (test : ℕ → Bool) (time stop : ℕ) → time < stop → (xs : List ℕ) → IsAscending xs → (found : Option ℕ) → find test xs ≡ found → by_then stop found ≡ true →
    find test (filter (λ x. nat_le x time) xs) ≡ None
none-by test time stop h xs a None e k = none-stays test (λ x. nat_le x time) xs e
none-by test time stop h xs a (Some found) e k = let l : stop ≤ found = leb-true stop found k in none-found test time found (omega (arith, h, l)) xs a e

-- no pair of legal runs has a hard detection by then
abbrev NoHard : FlatDesign → TestPlan → StuckAt → ℕ → Type 0
NoHard design plan fault time =
    (good faulty : List Move) (good_end faulty_end : State) → IsLegal (good_machine design) time good good_end → IsLegal (faulty_machine design fault) time faulty faulty_end →
    first_strobe is_hard (run_samples (good_machine design) plan.watched good) (run_samples (faulty_machine design fault) plan.watched faulty) (strobes_until time plan) ≡ None

no-hard : (design : FlatDesign) (plan : TestPlan) (fault : StuckAt) (time stop : ℕ) → KeepsRules design → IsPlan plan → time < stop → stop ≤ plan.end →
    NoneBefore (first_stop (good_machine design) (first_run (good_machine design) plan.end)) (first_stop (faulty_machine design fault) (first_run (faulty_machine design fault) plan.end))
    (first_strobe is_hard (good_seen design plan) (faulty_seen design plan fault) plan.strobes) stop → NoHard design plan fault time
no-hard design plan fault time stop rules p h w n good faulty good_end faulty_end good_legal faulty_legal =
    strobe-same design plan fault rules time (record { good = stops-after time stop _ h n.good_stop; faulty = stops-after time stop _ h n.faulty_stop; within = omega (arith, h, w) }) good faulty
    good_end faulty_end good_legal faulty_legal is_hard
    ∙ none-by (λ t. some_sample is_hard (good_seen design plan t) (faulty_seen design plan fault t)) time stop h plan.strobes p.ascending
    (first_strobe is_hard (good_seen design plan) (faulty_seen design plan fault) plan.strobes) refl n.strobe

-- the time of a line that a stop brings
good-time : (design : FlatDesign) (plan : TestPlan) (line : FaultGrade) (stop : Stop) (at : ℕ) → KeepsRules design →
    first_stop (good_machine design) (first_run (good_machine design) plan.end) ≡ Some stop → (outcome : SlotOutcome) → stop.outcome ≡ outcome →
    good_ending outcome ≡ Some line → stop_of line ≡ Some at → stop.time ≡ at
good-time design plan line stop at rules e Fine o f k = cc
good-time design plan line stop at rules e (Race pair) o f k =
    sym (race-time (good_machine design) plan.end stop pair rules e o) ∙ some_eq pair.time at (ap stop_of (some_eq (Raced Good pair) line f) ∙ k)
good-time design plan line stop at rules e Hyper o f k = cc

faulty-time : (design : FlatDesign) (plan : TestPlan) (fault : StuckAt) (line : FaultGrade) (stop : Stop) (at : ℕ) → KeepsRules design →
    first_stop (faulty_machine design fault) (first_run (faulty_machine design fault) plan.end) ≡ Some stop →
    (outcome : SlotOutcome) → stop.outcome ≡ outcome → faulty_ending stop.time outcome ≡ Some line → stop_of line ≡ Some at → stop.time ≡ at
faulty-time design plan fault line stop at rules e Fine o f k = cc
faulty-time design plan fault line stop at rules e (Race pair) o f k =
    sym (race-time (faulty_machine design fault) plan.end stop pair rules e o) ∙ some_eq pair.time at (ap stop_of (some_eq (Raced Faulty pair) line f) ∙ k)
faulty-time design plan fault line stop at rules e Hyper o f k = some_eq stop.time at (ap stop_of (some_eq (Looped stop.time) line f) ∙ k)

no-stop : {A : Type 0} (given : Verdict) (line : FaultGrade) (stop : ℕ) → Judged given ≡ line → stop_of line ≡ Some stop → A
no-stop given line stop e k = nothing (ap stop_of e ∙ k)
  where
    nothing : {A : Type 0} → None ≡ Some stop → A
    nothing f = cc

pub nothing_before : NothingBefore
nothing_before design plan fault line stop time rules p e k h =
    elim (reason (first_stop (good_machine design) (first_run (good_machine design) plan.end)) (first_stop (faulty_machine design fault) (first_run (faulty_machine design fault) plan.end))
    (first_strobe is_hard (good_seen design plan) (faulty_seen design plan fault) plan.strobes) (verdict (good_seen design plan) (faulty_seen design plan fault) plan.strobes) line e) [
      | inl g ↦
          (let at : g.0.time ≡ stop = good-time design plan line g.0 stop rules g.1 g.0.outcome refl g.2 k in
          no-hard design plan fault time g.0.time rules p (omega (arith, at, h)) (stop-within (good_machine design) plan.end g.0 rules g.1) g.3)
      | inr other ↦
          elim other [
            | inl f ↦
                (let at : f.0.time ≡ stop = faulty-time design plan fault line f.0 stop rules f.1 f.0.outcome refl f.2 k in
                no-hard design plan fault time f.0.time rules p (omega (arith, at, h)) (stop-within (faulty_machine design fault) plan.end f.0 rules f.1) f.3)
            | inr j ↦ no-stop _ line stop j.0 k
          ]
    ]

-- The lines of a report

all-lines : (design : FlatDesign) (plan : TestPlan) → GradesHold → KeepsRules design → IsPlan plan → (faults : List StuckAt) (lines : List FaultGrade) →
    AllZip (λ fault line. grade design plan fault ≡ Some line) faults lines → AllZip (LineHolds design plan) faults lines
all-lines design plan law rules p [] [] h = tt
all-lines design plan law rules p [] (line ∷ lines) h = absurd h
all-lines design plan law rules p (fault ∷ faults) [] h = absurd h
all-lines design plan law rules p (fault ∷ faults) (line ∷ lines) h = (law design plan fault line rules p h.0, all-lines design plan law rules p faults lines h.1)

pub reports_hold : GradesHold → ReportsHold
reports_hold law design plan lines rules p h = all-lines design plan law rules p plan.faults lines h
