-- The full grade of a fault as far as it goes up to a time (strobes and slots by IEEE 1364-2001, clause 5).
use Rattle.std.proofs.Common.{◌≡◌, ℕ, ◌<◌, ◌≤◌, List, [], ◌∷◌, ◌++◌, Bool, true, false, append-nil, refl, sym, ap, ◌∙◌, arith, inl, inr}
use Rattle.std.specs.Prelude.{Option, Some, None, filter, nat_le, nat_lt, cond, if◌then◌else◌}
use Rattle.std.proofs.lemmas.Bool.{cases_lt, le-leb, le-ltb, lt-leb}
use Rattle.std.proofs.lemmas.List.Elements.{filter-append}
use Rattle.vf_base.specs.Lists.{AllHold}
use Rattle.v_design.specs.Designs.{good_machine, faulty_machine}
use Rattle.v_design.specs.Runs.{first_run}
use Rattle.v_design.specs.States.{found_or, least_of}
use Rattle.v_design.specs.Grades.{Samples, Stop, FullGrade, ended_by_good, faulty_ending, full_faulty, full_of, good_ending, samples_at, stop_time}
use Rattle.order_laws.specs.FirstRuns.{FirstRunsGoOn}
use Rattle.grade_laws.specs.Ahead.{StopsAfter}
use Rattle.grade_laws.specs.Grading.{StopsWithin, good_stop, faulty_seen, faulty_stop}
use Rattle.beside_laws.proofs.Gradings.{run-within, stops-within}
use Rattle.fault_strobes.specs.Reached.{FullGradesReach, stop_to}

-- Stops

stop-later : (time : ℕ) (stop : Option Stop) → StopsAfter time stop → stop_to time stop ≡ None
stop-later time None after = refl
stop-later time (Some stop) after = ap (λ (b : Bool). if b then Some stop else None) (lt-leb stop.time time after)

stop-by : (time : ℕ) (stop : Option Stop) → StopsWithin time stop → stop_to time stop ≡ stop
stop-by time None within = refl
stop-by time (Some stop) within = ap (λ (b : Bool). if b then Some stop else None) (le-leb stop.time time within)

-- Strobes

abbrev by : ℕ → List ℕ → List ℕ
by time strobes = filter (λ strobe. nat_le strobe time) strobes

abbrev one-by : ℕ → List ℕ → Bool → List ℕ
one-by strobe strobes b = cond b (strobe ∷ strobes) strobes

all-by : (time : ℕ) (strobes : List ℕ) → AllHold (λ strobe. strobe ≤ time) strobes → by time strobes ≡ strobes
all-by time [] all = refl
all-by time (strobe ∷ strobes) all = ap (one-by strobe (by time strobes)) (le-leb strobe time all.0) ∙ ap (λ (l : List ℕ). strobe ∷ l) (all-by time strobes all.1)

none-by : (time : ℕ) (strobes : List ℕ) → AllHold (λ strobe. time < strobe) strobes → by time strobes ≡ []
none-by time [] all = refl
none-by time (strobe ∷ strobes) all = ap (one-by strobe (by time strobes)) (lt-leb strobe time all.0) ∙ none-by time strobes all.1

parted-by : (time : ℕ) (strobes passed next : List ℕ) → strobes ≡ passed ++ next → AllHold (λ strobe. strobe ≤ time) passed → AllHold (λ strobe. time < strobe) next → by time strobes ≡ passed
parted-by time strobes passed next are early later =
    ap (by time) are ∙ filter-append (λ strobe. nat_le strobe time) passed next ∙ (λ i. all-by time passed early i ++ none-by time next later i) ∙ append-nil passed

-- those before a time that isn't later
before-by : (first time : ℕ) (strobes : List ℕ) → first ≤ time → filter (λ strobe. nat_lt strobe first) (by time strobes) ≡ filter (λ strobe. nat_lt strobe first) strobes
before-by first time [] low = refl
before-by first time (strobe ∷ strobes) low = elim (cases_lt time strobe) [
  | inl later ↦
      ap (λ (b : Bool). filter (λ s. nat_lt s first) (one-by strobe (by time strobes) b)) (lt-leb strobe time later)
      ∙ before-by first time strobes low
      ∙ sym (ap (one-by strobe (filter (λ s. nat_lt s first) strobes)) (le-ltb strobe first (omega (arith, later, low))))
  | inr early ↦
      ap (λ (b : Bool). filter (λ s. nat_lt s first) (one-by strobe (by time strobes) b)) (le-leb strobe time early)
      ∙ ap (one-by-rest strobe (nat_lt strobe first)) (before-by first time strobes low)
]
  where
    one-by-rest : ℕ → Bool → List ℕ → List ℕ
    one-by-rest strobe b rest = cond b (strobe ∷ rest) rest

-- Where the faulty machine stopped by a time

abbrev with-faulty : Option Stop → Stop → Samples → List ℕ → Bool → Option FullGrade
with-faulty faulty stop seen strobes first = elim first [ true ↦ ended_by_good stop.time (good_ending stop.outcome) seen strobes | false ↦ Some (full_faulty faulty seen strobes) ]

abbrev ended-full : Stop → Samples → List ℕ → FullGrade
ended-full stop seen before = record { end = faulty_ending stop.time stop.outcome; samples = samples_at seen before }

faulty-by : (time : ℕ) (stop : Stop) (seen : Samples) (strobes : List ℕ) → stop.time ≤ time → full_of None (stop_to time (Some stop)) seen (by time strobes) ≡ Some (full_faulty (Some stop) seen strobes)
faulty-by time stop seen strobes low =
    ap (λ (o : Option Stop). full_of None o seen (by time strobes)) (stop-by time (Some stop) low)
    ∙ ap (λ (before : List ℕ). Some (ended-full stop seen before)) (before-by stop.time time strobes low)

ended-by : (time end : ℕ) (good faulty : Option Stop) (seen : Samples) (strobes : List ℕ) → StopsAfter time good → time < end →
    found_or end (least_of (stop_time good) (least_of (stop_time faulty) None)) ≤ time →
    full_of (stop_to time good) (stop_to time faulty) seen (by time strobes) ≡ full_of good faulty seen strobes
ended-by time end None None seen strobes after early ended = absurd (omega (arith, early, ended))
ended-by time end None (Some stop) seen strobes after early ended = faulty-by time stop seen strobes ended
ended-by time end (Some good) None seen strobes after early ended = absurd (omega (arith, after, ended))
ended-by time end (Some good) (Some stop) seen strobes after early ended =
    let low : stop.time ≤ time = omega (arith, after, ended) in
    ap (λ (o : Option Stop). full_of o (stop_to time (Some stop)) seen (by time strobes)) (stop-later time (Some good) after)
    ∙ faulty-by time stop seen strobes low
    ∙ sym (ap (with-faulty (Some stop) good seen strobes) (lt-leb good.time stop.time (omega (arith, after, low))))

pub reach : FirstRunsGoOn → FullGradesReach
reach law = record {
  is_open = λ design plan fault time passed next good faulty are early later.
      λ i. full_of (stop-later time (good_stop design plan) good i) (stop-later time (faulty_stop design plan fault) faulty i) (faulty_seen design plan fault)
      (parted-by time plan.strobes passed next are early later i);
  ended = λ design plan fault time good early ended.
      ended-by time plan.end (good_stop design plan) (faulty_stop design plan fault) (faulty_seen design plan fault) plan.strobes good early ended;
  whole = λ design plan fault rules of_plan.
      λ i. full_of
      (stop-by plan.end (good_stop design plan)
      (stops-within (good_machine design) plan.end (first_run (good_machine design) plan.end) (run-within law (good_machine design) plan.end rules)) i)
      (stop-by plan.end (faulty_stop design plan fault)
      (stops-within (faulty_machine design fault) plan.end (first_run (faulty_machine design fault) plan.end) (run-within law (faulty_machine design fault) plan.end rules)) i)
      (faulty_seen design plan fault) (all-by plan.end plan.strobes of_plan.in_time i);
}
