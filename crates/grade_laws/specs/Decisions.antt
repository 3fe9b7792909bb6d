-- What decides a grade: a hard strobe before both stops, a stop of the faulty machine, a stop of the good machine, or the plan's end (slots by IEEE 1364-2001, clause 5).
use Rattle.std.proofs.Common.{◌≡◌, ℕ, ◌<◌, ◌≤◌, List, [], ◌∷◌, ◌++◌, Bool, true, false, ◌&&◌, refl, sym, ap, subst, ◌∙◌, arith}
use Rattle.std.specs.Prelude.{Option, Some, None, nat_le, find, cond}
use Rattle.std.proofs.lemmas.Bool.{le-leb, lt-leb}
use Rattle.vf_base.specs.Lists.{AllHold}
use Rattle.v_design.specs.Grades.{Verdict, Detected, verdict_by, FaultGrade, Judged, Stop, stop_time, by_then, good_ending, faulty_ending, good_or, faulty_or, graded_faulty, graded}
use Rattle.grade_laws.specs.Ahead.{StopsAfter}

-- The first strobe that passes a test

-- what is found early is found
pub find-early : (test : ℕ → Bool) (early later : List ℕ) (time : ℕ) → find test early ≡ Some time → find test (early ++ later) ≡ Some time
find-early test [] later time e = cc
find-early test (x ∷ early) later time e = go (test x) e (λ f. find-early test early later time f)
  where
    go : (b : Bool) → cond b (Some x) (find test early) ≡ Some time → (find test early ≡ Some time → find test (early ++ later) ≡ Some time) → cond b (Some x) (find test (early ++ later)) ≡ Some time
    go true f rest = f
    go false f rest = rest f

-- what isn't found early is found later
pub find-later : (test : ℕ → Bool) (early later : List ℕ) → find test early ≡ None → find test (early ++ later) ≡ find test later
find-later test [] later e = refl
find-later test (x ∷ early) later e = go (test x) e (λ f. find-later test early later f)
  where
    go : (b : Bool) → cond b (Some x) (find test early) ≡ None → (find test early ≡ None → find test (early ++ later) ≡ find test later) →
        cond b (Some x) (find test (early ++ later)) ≡ find test later
    go true f rest = cc
    go false f rest = rest f

-- what is found among strobes at a time or later isn't earlier
pub find-since : (test : ℕ → Bool) (time : ℕ) (strobes : List ℕ) → AllHold (λ strobe. time ≤ strobe) strobes → by_then time (find test strobes) ≡ true
find-since test time [] h = refl
find-since test time (x ∷ strobes) h = go (test x) (find-since test time strobes h.1)
  where
    go : (b : Bool) → by_then time (find test strobes) ≡ true → by_then time (cond b (Some x) (find test strobes)) ≡ true
    go true rest = le-leb time x h.0
    go false rest = rest

-- nothing hard among the strobes before a time, and the others are at that time or later
pub none-before : (test : ℕ → Bool) (time : ℕ) (early later : List ℕ) → find test early ≡ None → AllHold (λ strobe. time ≤ strobe) later → by_then time (find test (early ++ later)) ≡ true
none-before test time early later e h = ap (by_then time) (find-later test early later e) ∙ find-since test time later h

-- Decisions

and-false : (b : Bool) → (b && false) ≡ false
and-false true = refl
and-false false = refl

after-strobe : (time : ℕ) (stop : Stop) → StopsAfter time (Some stop) → by_then stop.time (Some time) ≡ false
after-strobe time stop a = lt-leb stop.time time a

-- a stop that isn't before a time, or none
abbrev pub NotBefore : ℕ → Option Stop → Type 0
NotBefore time None = Unit {0}
NotBefore time (Some stop) = time ≤ stop.time

-- a hard strobe before both stops
pub graded-hard : (good faulty : Option Stop) (time : ℕ) (possible : Option ℕ) → StopsAfter time good → StopsAfter time faulty →
    graded good faulty (Some time) (verdict_by (Some time) possible) ≡ Some (Judged (Detected time))
graded-hard None None time possible a b = refl
graded-hard None (Some stop) time possible a b = ap (λ early. faulty_or early stop (Some (Judged (Detected time)))) (after-strobe time stop b)
graded-hard (Some stop) None time possible a b = ap (λ early. good_or early stop (Some (Judged (Detected time)))) (after-strobe time stop a)
graded-hard (Some stop) (Some other) time possible a b =
    ap (λ early. good_or (nat_le stop.time other.time && early) stop (graded_faulty (Some other) (Some time) (Detected time))) (after-strobe time stop a)
    ∙ ap (λ early. good_or early stop (graded_faulty (Some other) (Some time) (Detected time))) (and-false (nat_le stop.time other.time))
    ∙ ap (λ early. faulty_or early other (Some (Judged (Detected time)))) (after-strobe time other b)

-- a stop of the faulty machine before one of the good machine, and no hard strobe before it
pub graded-faulty : (good : Option Stop) (stop : Stop) (hard : Option ℕ) (otherwise : Verdict) → StopsAfter stop.time good → by_then stop.time hard ≡ true →
    graded good (Some stop) hard otherwise ≡ faulty_ending stop.time stop.outcome
graded-faulty None stop hard otherwise a h = ap (λ early. faulty_or early stop (Some (Judged otherwise))) h
graded-faulty (Some good) stop hard otherwise a h =
    ap (λ early. good_or (early && by_then good.time hard) good (graded_faulty (Some stop) hard otherwise)) (lt-leb good.time stop.time a)
    ∙ ap (λ early. faulty_or early stop (Some (Judged otherwise))) h

not-before : (time : ℕ) (stop : Option Stop) → NotBefore time stop → by_then time (stop_time stop) ≡ true
not-before time None h = refl
not-before time (Some stop) h = le-leb time stop.time h

-- a stop of the good machine, not after one of the faulty machine, and no hard strobe before it
pub graded-good : (stop : Stop) (faulty : Option Stop) (hard : Option ℕ) (otherwise : Verdict) → NotBefore stop.time faulty → by_then stop.time hard ≡ true →
    graded (Some stop) faulty hard otherwise ≡ good_ending stop.outcome
graded-good stop faulty hard otherwise n h =
    ap (λ early. good_or (early && by_then stop.time hard) stop (graded_faulty faulty hard otherwise)) (not-before stop.time faulty n)
    ∙ ap (λ early. good_or early stop (graded_faulty faulty hard otherwise)) h
