-- Each grade says what every pair of legal runs gives, a conflict of a legal run, or a loop of the first run.
use Rattle.std.proofs.Common.{◌≡◌, ℕ, ◌<◌, ◌≤◌, List, [], ◌∷◌, Bool, true, false, ◌&&◌, refl, sym, ap, subst, ◌∙◌, ◌⊎◌, inl, inr, arith, filter}
use Rattle.std.specs.Prelude.{Option, Some, None, find, cond, nat_le}
use Rattle.std.proofs.lemmas.Bool.{leb-false, leb-true, le-leb}
use Rattle.four_value.specs.declared.logic.Bit.{Bit}
use Rattle.vf_base.specs.declared.finding.Side.TheVariants.{Good, Faulty}
use Rattle.vf_base.specs.Lists.{AllHold}
use Rattle.v_design.specs.Designs.{FlatDesign, StuckAt, TestPlan, good_machine, faulty_machine}
use Rattle.v_design.specs.States.{State}
use Rattle.v_design.specs.Runs.{Move, IsLegal, first_run}
use Rattle.v_design.specs.Grades.{SlotOutcome, Fine, Race, Hyper, is_hard, is_possible, some_sample, Samples, samples, Verdict, Detected, Possible, Undetected, verdict_by, first_strobe, verdict}
use Rattle.v_design.specs.Grades.{first_samples, FaultGrade, Judged, Raced, Looped, Stop, first_stop, stop_time, by_then, good_ending, faulty_ending, good_or, faulty_or, graded_faulty, graded}
use Rattle.v_design.specs.WellFormed.{KeepsRules, IsPlan}
use Rattle.v_design.specs.Laws.{run_samples, strobes_until, EveryOrderGives, LineHolds, GradesHold}
use Rattle.order_laws.specs.Reports.{verdict_time}
use Rattle.order_laws.proofs.RunsEndAlike.{some_eq}
use Rattle.order_laws.proofs.FirstOrder.RunsUpTo.{StopsAfter}
use Rattle.order_laws.proofs.FirstOrder.RunSamples.{values_same}
use Rattle.order_laws.proofs.FirstOrder.NamedRaces.{names_conflict, hyper_there}

-- What is found in a list

-- tests that agree up to a number find the same up to it
find-same : (until : ℕ) (one other : ℕ → Bool) → ((x : ℕ) → x ≤ until → one x ≡ other x) → (xs : List ℕ) → find one (filter (λ x. nat_le x until) xs) ≡ find other (filter (λ x. nat_le x until) xs)
find-same until one other h [] = refl
find-same until one other h (x ∷ xs) = go (nat_le x until) refl (find-same until one other h xs)
  where
    go : (b : Bool) → nat_le x until ≡ b → find one (filter (λ x. nat_le x until) xs) ≡ find other (filter (λ x. nat_le x until) xs) →
        find one (cond b (x ∷ filter (λ x. nat_le x until) xs) (filter (λ x. nat_le x until) xs)) ≡ find other (cond b (x ∷ filter (λ x. nat_le x until) xs) (filter (λ x. nat_le x until) xs))
    go true e r = λ i. cond (h x (leb-true x until e) i) (Some x) (r i)
    go false e r = r

-- where all are within, all stay
all-stay : (until : ℕ) (xs : List ℕ) → AllHold (λ x. x ≤ until) xs → filter (λ x. nat_le x until) xs ≡ xs
all-stay until [] h = refl
all-stay until (x ∷ xs) h = go (nat_le x until) (le-leb x until h.0) (all-stay until xs h.1)
  where
    go : (b : Bool) → b ≡ true → filter (λ x. nat_le x until) xs ≡ xs → cond b (x ∷ filter (λ x. nat_le x until) xs) (filter (λ x. nat_le x until) xs) ≡ x ∷ xs
    go true e r = ap (λ ys. x ∷ ys) r
    go false e r = cc

-- what is found stays found, where it passes itself
find-kept : (test keep : ℕ → Bool) (t : ℕ) → keep t ≡ true → (xs : List ℕ) → find test xs ≡ Some t → find test (filter keep xs) ≡ Some t
find-kept test keep t k [] e = cc
find-kept test keep t k (x ∷ xs) e = go (test x) (keep x) refl refl e (λ f. find-kept test keep t k xs f)
  where
    go : (b c : Bool) → test x ≡ b → keep x ≡ c → cond b (Some x) (find test xs) ≡ Some t → (find test xs ≡ Some t → find test (filter keep xs) ≡ Some t) →
        find test (cond c (x ∷ filter keep xs) (filter keep xs)) ≡ Some t
    go true true b c f rest = ap (λ d. cond d (Some x) (find test (filter keep xs))) b ∙ f
    go true false b c f rest = kept (sym c ∙ ap keep (some_eq x t f) ∙ k)
      where
        kept : {A : Type 0} → false ≡ true → A
        kept g = cc
    go false true b c f rest = ap (λ d. cond d (Some x) (find test (filter keep xs))) b ∙ rest f
    go false false b c f rest = rest f

pub find-holds : (P : ℕ → Type 0) (test : ℕ → Bool) (xs : List ℕ) (t : ℕ) → AllHold P xs → find test xs ≡ Some t → P t
find-holds P test [] t h e = cc
find-holds P test (x ∷ xs) t h e = go (test x) e (λ f. find-holds P test xs t h.1 f)
  where
    go : (b : Bool) → cond b (Some x) (find test xs) ≡ Some t → (find test xs ≡ Some t → P t) → P t
    go true f rest = subst P (some_eq x t f) h.0
    go false f rest = rest f

-- How a grade comes about

-- a stop after a strobe, if there is one
abbrev pub After : Option Stop → Option ℕ → Type 0
After None hard = Unit {0}
After (Some stop) hard = by_then stop.time hard ≡ false

-- a stop at a time or later, or none
abbrev pub NotBefore : ℕ → Option Stop → Type 0
NotBefore time None = Unit {0}
NotBefore time (Some stop) = time ≤ stop.time

-- no stop and no hard strobe comes before a time
pub record NoneBefore (good faulty : Option Stop) (hard : Option ℕ) (time : ℕ) : Type 0 where
  pub good_stop : NotBefore time good
  pub faulty_stop : NotBefore time faulty
  pub strobe : by_then time hard ≡ true

-- a stop of the good machine
abbrev pub ByGood : Option Stop → Option Stop → Option ℕ → FaultGrade → Type 0
ByGood good faulty hard line = (stop : Stop) × (good ≡ Some stop) × (good_ending stop.outcome ≡ Some line) × NoneBefore good faulty hard stop.time

-- a stop of the faulty machine
abbrev pub ByFaulty : Option Stop → Option Stop → Option ℕ → FaultGrade → Type 0
ByFaulty good faulty hard line = (stop : Stop) × (faulty ≡ Some stop) × (faulty_ending stop.time stop.outcome ≡ Some line) × NoneBefore good faulty hard stop.time

-- by a stop of the good machine, by one of the faulty machine, or by the strobes
abbrev pub Reason : Option Stop → Option Stop → Option ℕ → Verdict → FaultGrade → Type 0
Reason good faulty hard otherwise line = ByGood good faulty hard line ⊎ (ByFaulty good faulty hard line ⊎ ((Judged otherwise ≡ line) × After good hard × After faulty hard))

-- the reason where no stop of the good machine counts
abbrev FaultyReason : Option Stop → Option ℕ → Verdict → FaultGrade → Type 0
FaultyReason faulty hard otherwise line =
    ((stop : Stop) × (faulty ≡ Some stop) × (faulty_ending stop.time stop.outcome ≡ Some line) × (by_then stop.time hard ≡ true)) ⊎ ((Judged otherwise ≡ line) × After faulty hard)

faulty-reason : (faulty : Option Stop) (hard : Option ℕ) (otherwise : Verdict) (line : FaultGrade) → graded_faulty faulty hard otherwise ≡ Some line → FaultyReason faulty hard otherwise line
faulty-reason None hard otherwise line e = inr (some_eq (Judged otherwise) line e, tt)
faulty-reason (Some stop) hard otherwise line e = go (by_then stop.time hard) refl e
  where
    go : (b : Bool) → by_then stop.time hard ≡ b → faulty_or b stop (Some (Judged otherwise)) ≡ Some line → FaultyReason (Some stop) hard otherwise line
    go true b f = inl (stop, refl, f, b)
    go false b f = inr (some_eq (Judged otherwise) line f, b)

-- a stop that doesn't come before one after the strobe comes after the strobe
after-too : (time : ℕ) (faulty : Option Stop) (hard : Option ℕ) → After faulty hard → (by_then time (stop_time faulty) && by_then time hard) ≡ false → by_then time hard ≡ false
after-too time None hard a e = e
after-too time (Some stop) None a e = cc
after-too time (Some stop) (Some strobe) a e = go (nat_le time stop.time) (nat_le time strobe) refl refl e
  where
    go : (b c : Bool) → nat_le time stop.time ≡ b → nat_le time strobe ≡ c → (b && c) ≡ false → nat_le time strobe ≡ false
    go b false g h f = h
    go true true g h f = cc
    go false true g h f =
        let x : stop.time < time = leb-false time stop.time g in
        let y : time ≤ strobe = leb-true time strobe h in
        let z : strobe < stop.time = leb-false stop.time strobe a in
        absurd (omega (arith, x, y, z))

-- one that comes neither before another stop nor before the strobe, where that stop doesn't come after the strobe, isn't before that stop
not-before : (time other : ℕ) (hard : Option ℕ) → by_then other hard ≡ true → (nat_le time other && by_then time hard) ≡ false → other ≤ time
not-before time other None h e = go (nat_le time other) refl e
  where
    go : (b : Bool) → nat_le time other ≡ b → (b && true) ≡ false → other ≤ time
    go true f g = cc
    go false f g = let x : other < time = leb-false time other f in omega (arith, x)
not-before time other (Some strobe) h e = go (nat_le time other) (nat_le time strobe) refl refl e
  where
    go : (b c : Bool) → nat_le time other ≡ b → nat_le time strobe ≡ c → (b && c) ≡ false → other ≤ time
    go true true f g k = cc
    go false c f g k = let x : other < time = leb-false time other f in omega (arith, x)
    go true false f g k = let x : strobe < time = leb-false time strobe g in let y : other ≤ strobe = leb-true other strobe h in omega (arith, x, y)

then-not : (time : ℕ) (stop : Option Stop) → by_then time (stop_time stop) ≡ true → NotBefore time stop
then-not time None h = tt
then-not time (Some stop) h = leb-true time stop.time h

here-not : (time : ℕ) (stop : Option Stop) (found : Stop) → stop ≡ Some found → time ≤ found.time → NotBefore time stop
here-not time stop found e h = subst (λ o. NotBefore time o) (sym e) h

both-true : (b c : Bool) → (b && c) ≡ true → (b ≡ true) × (c ≡ true)
both-true true c e = (refl, e)
both-true false c e = cc

pub reason : (good faulty : Option Stop) (hard : Option ℕ) (otherwise : Verdict) (line : FaultGrade) → graded good faulty hard otherwise ≡ Some line → Reason good faulty hard otherwise line
reason None faulty hard otherwise line e = elim (faulty-reason faulty hard otherwise line e) [
  | inl s ↦ inr (inl (s.0, s.1, s.2, record { good_stop = tt; faulty_stop = here-not s.0.time faulty s.0 s.1 (omega arith); strobe = s.3 }))
  | inr judged ↦ inr (inr (judged.0, tt, judged.1))
]
reason (Some stop) faulty hard otherwise line e = go (by_then stop.time (stop_time faulty) && by_then stop.time hard) refl e
  where
    go : (b : Bool) → (by_then stop.time (stop_time faulty) && by_then stop.time hard) ≡ b → good_or b stop (graded_faulty faulty hard otherwise) ≡ Some line →
        Reason (Some stop) faulty hard otherwise line
    go true b f =
        let p = both-true (by_then stop.time (stop_time faulty)) (by_then stop.time hard) b in
        inl (stop, refl, f, record { good_stop = omega arith; faulty_stop = then-not stop.time faulty p.0; strobe = p.1 })
    go false b f = elim (faulty-reason faulty hard otherwise line f) [
      | inl s ↦
          inr (inl (
            s.0,
            s.1,
            s.2,
            record {
              good_stop = not-before stop.time s.0.time hard s.3 (ap (λ o. by_then stop.time (stop_time o) && by_then stop.time hard) (sym s.1) ∙ b);
              faulty_stop = here-not s.0.time faulty s.0 s.1 (omega arith);
              strobe = s.3;
            },
          ))
      | inr judged ↦ inr (inr (judged.0, after-too stop.time faulty hard judged.1 b, judged.1))
    ]

-- By the strobes

pub stops-strobe : (stop : Option Stop) (strobe : ℕ) → After stop (Some strobe) → StopsAfter strobe stop
stops-strobe None strobe a = tt
stops-strobe (Some stop) strobe a = leb-false stop.time strobe a

pub never-stops : (stop : Option Stop) (time : ℕ) → After stop None → StopsAfter time stop
never-stops None time a = tt
never-stops (Some stop) time a = cc

-- both first runs go on past a time without a stop
pub record Past (design : FlatDesign) (plan : TestPlan) (fault : StuckAt) (time : ℕ) : Type 0 where
  pub good : StopsAfter time (first_stop (good_machine design) (first_run (good_machine design) plan.end))
  pub faulty : StopsAfter time (first_stop (faulty_machine design fault) (first_run (faulty_machine design fault) plan.end))
  pub within : time ≤ plan.end

-- what the strobes see of both first runs
abbrev pub good_seen : FlatDesign → TestPlan → Samples
good_seen design plan = first_samples (good_machine design) plan.watched (first_run (good_machine design) plan.end)

abbrev pub faulty_seen : FlatDesign → TestPlan → StuckAt → Samples
faulty_seen design plan fault = first_samples (faulty_machine design fault) plan.watched (first_run (faulty_machine design fault) plan.end)

module _ (design : FlatDesign) (plan : TestPlan) (fault : StuckAt) (rules : KeepsRules design) (time : ℕ) (past : Past design plan fault time) (good faulty : List Move) (good_end faulty_end : State)
    (good_legal : IsLegal (good_machine design) time good good_end) (faulty_legal : IsLegal (faulty_machine design fault) time faulty faulty_end) where
  pub strobe-same : (test : Bit → Bit → Bool) →
      first_strobe test (run_samples (good_machine design) plan.watched good) (run_samples (faulty_machine design fault) plan.watched faulty) (strobes_until time plan)
      ≡ first_strobe test (good_seen design plan) (faulty_seen design plan fault) (strobes_until time plan)
  strobe-same test =
      find-same time (λ t. some_sample test (run_samples (good_machine design) plan.watched good t) (run_samples (faulty_machine design fault) plan.watched faulty t))
      (λ t. some_sample test (good_seen design plan t) (faulty_seen design plan fault t))
      (λ t h i. some_sample test (samples plan.watched (values_same (good_machine design) t time plan.end rules h past.within past.good good good_end good_legal i))
      (samples plan.watched (values_same (faulty_machine design fault) t time plan.end rules h past.within past.faulty faulty faulty_end faulty_legal i))) plan.strobes

  verdict_same : verdict (run_samples (good_machine design) plan.watched good) (run_samples (faulty_machine design fault) plan.watched faulty) (strobes_until time plan)
      ≡ verdict (good_seen design plan) (faulty_seen design plan fault) (strobes_until time plan)
  verdict_same = λ i. verdict_by (strobe-same is_hard i) (strobe-same is_possible i)

-- the strobes' verdict over the whole plan
judged-whole : (design : FlatDesign) (plan : TestPlan) (fault : StuckAt) (given : Verdict) → KeepsRules design → IsPlan plan → Past design plan fault plan.end →
    verdict (good_seen design plan) (faulty_seen design plan fault) plan.strobes ≡ given →
    EveryOrderGives design plan fault plan.end given
judged-whole design plan fault given rules p past e good faulty good_end faulty_end good_legal faulty_legal =
    verdict_same design plan fault rules plan.end past good faulty good_end faulty_end good_legal faulty_legal
    ∙ ap (λ strobes. verdict (good_seen design plan) (faulty_seen design plan fault) strobes) (all-stay plan.end plan.strobes p.in_time) ∙ e

-- the first strobe with a hard detection
judged-hard : (design : FlatDesign) (plan : TestPlan) (fault : StuckAt) (time : ℕ) → KeepsRules design → Past design plan fault time →
    first_strobe is_hard (good_seen design plan) (faulty_seen design plan fault) plan.strobes ≡ Some time →
    EveryOrderGives design plan fault time (Detected time)
judged-hard design plan fault time rules past e good faulty good_end faulty_end good_legal faulty_legal =
    verdict_same design plan fault rules time past good faulty good_end faulty_end good_legal faulty_legal
    ∙ ap (λ hard. verdict_by hard (first_strobe is_possible (good_seen design plan) (faulty_seen design plan fault) (strobes_until time plan)))
    (find-kept (λ t. some_sample is_hard (good_seen design plan t) (faulty_seen design plan fault t)) (λ t. nat_le t time) time (le-leb time time (omega arith)) plan.strobes e)

-- where the strobes decide, both first runs go on past the time of which the verdict speaks
pub past_of : (design : FlatDesign) (plan : TestPlan) (fault : StuckAt) → IsPlan plan → (hard possible : Option ℕ) →
    first_strobe is_hard (good_seen design plan) (faulty_seen design plan fault) plan.strobes ≡ hard →
    After (first_stop (good_machine design) (first_run (good_machine design) plan.end)) hard →
    After (first_stop (faulty_machine design fault) (first_run (faulty_machine design fault) plan.end)) hard →
    Past design plan fault (verdict_time plan (verdict_by hard possible))
past_of design plan fault p None None h a b = record { good = never-stops _ plan.end a; faulty = never-stops _ plan.end b; within = omega arith }
past_of design plan fault p None (Some time) h a b = record { good = never-stops _ plan.end a; faulty = never-stops _ plan.end b; within = omega arith }
past_of design plan fault p (Some time) possible h a b = record {
  good = stops-strobe _ time a;
  faulty = stops-strobe _ time b;
  within = find-holds (λ t. t ≤ plan.end) (λ t. some_sample is_hard (good_seen design plan t) (faulty_seen design plan fault t)) plan.strobes time p.in_time h;
}

judged : (design : FlatDesign) (plan : TestPlan) (fault : StuckAt) → KeepsRules design → IsPlan plan → (hard possible : Option ℕ) →
    first_strobe is_hard (good_seen design plan) (faulty_seen design plan fault) plan.strobes ≡ hard →
    first_strobe is_possible (good_seen design plan) (faulty_seen design plan fault) plan.strobes ≡ possible → Past design plan fault (verdict_time plan (verdict_by hard possible)) →
    LineHolds design plan fault (Judged (verdict_by hard possible))
judged design plan fault rules p None None h q past = judged-whole design plan fault Undetected rules p past (λ i. verdict_by (h i) (q i))
judged design plan fault rules p None (Some time) h q past = judged-whole design plan fault (Possible time) rules p past (λ i. verdict_by (h i) (q i))
judged design plan fault rules p (Some time) possible h q past = judged-hard design plan fault time rules past h

-- By a stop

good-stopped : (design : FlatDesign) (plan : TestPlan) (fault : StuckAt) (line : FaultGrade) (stop : Stop) → KeepsRules design →
    first_stop (good_machine design) (first_run (good_machine design) plan.end) ≡ Some stop → (outcome : SlotOutcome) → stop.outcome ≡ outcome →
    good_ending outcome ≡ Some line → LineHolds design plan fault line
good-stopped design plan fault line stop rules e Fine o f = cc
good-stopped design plan fault line stop rules e (Race pair) o f =
    subst (λ l. LineHolds design plan fault l) (some_eq (Raced Good pair) line f) (names_conflict (good_machine design) plan.end stop pair rules e o)
good-stopped design plan fault line stop rules e Hyper o f = cc

faulty-stopped : (design : FlatDesign) (plan : TestPlan) (fault : StuckAt) (line : FaultGrade) (stop : Stop) → KeepsRules design →
    first_stop (faulty_machine design fault) (first_run (faulty_machine design fault) plan.end) ≡ Some stop → (outcome : SlotOutcome) →
    stop.outcome ≡ outcome → faulty_ending stop.time outcome ≡ Some line → LineHolds design plan fault line
faulty-stopped design plan fault line stop rules e Fine o f = cc
faulty-stopped design plan fault line stop rules e (Race pair) o f =
    subst (λ l. LineHolds design plan fault l) (some_eq (Raced Faulty pair) line f) (names_conflict (faulty_machine design fault) plan.end stop pair rules e o)
faulty-stopped design plan fault line stop rules e Hyper o f =
    subst (λ l. LineHolds design plan fault l) (some_eq (Looped stop.time) line f) (hyper_there (faulty_machine design fault) plan.end stop rules e o)

-- The law

pub grades_hold : GradesHold
grades_hold design plan fault line rules p e =
    elim (reason (first_stop (good_machine design) (first_run (good_machine design) plan.end)) (first_stop (faulty_machine design fault) (first_run (faulty_machine design fault) plan.end))
    (first_strobe is_hard (good_seen design plan) (faulty_seen design plan fault) plan.strobes) (verdict (good_seen design plan) (faulty_seen design plan fault) plan.strobes) line e) [
      | inl g ↦ good-stopped design plan fault line g.0 rules g.1 g.0.outcome refl g.2
      | inr other ↦
          elim other [
            | inl f ↦ faulty-stopped design plan fault line f.0 rules f.1 f.0.outcome refl f.2
            | inr j ↦
                subst (λ l. LineHolds design plan fault l) j.0
                (judged design plan fault rules p (first_strobe is_hard (good_seen design plan) (faulty_seen design plan fault) plan.strobes)
                (first_strobe is_possible (good_seen design plan) (faulty_seen design plan fault) plan.strobes) refl refl
                (past_of design plan fault p (first_strobe is_hard (good_seen design plan) (faulty_seen design plan fault) plan.strobes)
                (first_strobe is_possible (good_seen design plan) (faulty_seen design plan fault) plan.strobes) refl j.1 j.2))
          ]
    ]
