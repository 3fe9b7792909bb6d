-- The end that both runs show (IEEE 1364-2001, clause 5).
use Rattle.std.proofs.Common.{◌≡◌, ℕ, List, true, false, refl, sym, ap, subst, ◌∙◌}
use Rattle.std.specs.Prelude.{Option, Some, None, option_map, filter, nat_le}
use Rattle.std.proofs.lemmas.Bool.{eqb-true, eq-eqb, false_from_ne_true}
use Rattle.vf_base.specs.Base.{reported_pair, WatchedBit}
use Rattle.vf_base.specs.declared.finding.Pair.{Pair}
use Rattle.vf_base.specs.declared.finding.Side.{Side}
use Rattle.vf_base.specs.declared.finding.Side.TheVariants.{Good, Faulty}
use Rattle.vf_base.specs.declared.finding.End.{End}
use Rattle.vf_base.specs.declared.finding.End.TheVariants as ends
use Rattle.v_design.specs.Designs.{FlatDesign, Machine, StuckAt, TestPlan, good_machine, faulty_machine}
use Rattle.v_design.specs.Plain.{grade_of}
use Rattle.v_design.specs.Runs.{Move}
use Rattle.v_design.specs.Grades.{Samples, samples_at, Verdict, Detected, Possible, Undetected, verdict, FaultGrade, Judged}
use Rattle.v_design.specs.Laws.{run_samples, strobes_until}
use Rattle.cert_laws.specs.Claims.{Claim, Says, Races}
use Rattle.cert_laws.specs.Replays.{Replay}
use Rattle.cert_laws.specs.Valid.{verdict_bound, moves_of, same_verdict, stands}
use Rattle.cert_laws.specs.Written.{claim_as}
use Rattle.cert_laws.specs.Meaning.{IsPrinted}
use Rattle.cert_text.specs.Views.{access_said, claim_said}
use Rattle.cert_text.specs.declared.claim.Claim.{Claim as ClaimKept}
use Rattle.cert_text.specs.declared.claim.Claim.TheVariants as kept
use Rattle.cert_text.specs.declared.claim.ClaimedRace.{ClaimedRace}
use Rattle.cert_runs.specs.Asking.{AreSamples, IsConflictAt, TellsConflict}
use Rattle.cert_runs.specs.declared.asked.Shown.{Shown}
use Rattle.cert_runs.specs.declared.asked.Shown.TheVariants as shown
use Rattle.vf_audit.specs.Strobes.{verdict_in}
use Rattle.vf_audit.specs.Sides.{ShowsFor}
use Rattle.vf_audit.specs.Ends.{samples_in, pair_in, shown_on, RaceHolds, JudgedBy, EndBy}
use Rattle.vf_audit.proofs.SampleLists.{verdict-at}

-- Verdicts

same-own : (one : Verdict) → same_verdict one one ≡ true
same-own (Detected time) = eq-eqb time time refl
same-own (Possible time) = eq-eqb time time refl
same-own Undetected = refl

judged-same : (one other : Verdict) → ◌≡◌ {A = FaultGrade} (Judged one) (Judged other) → one ≡ other
judged-same one other e = cc

-- the samples give a claimed end
pub judged-yes : (found claimed : End) (shown given : Verdict) → grade_of found ≡ Judged shown → grade_of claimed ≡ Judged given → found ≡ claimed → same_verdict shown given ≡ true
judged-yes found claimed shown given f g e =
    let same : shown ≡ given = judged-same shown given (sym f ∙ ap grade_of e ∙ g) in ap (λ v. same_verdict v given) same ∙ same-own given

-- ends of a verdict are told apart by their verdicts
verdict_end : Verdict → End
verdict_end (Detected time) = ends.Detected time
verdict_end (Possible time) = ends.Possible time
verdict_end Undetected = ends.Undetected

end-is : (end : End) (given : Verdict) → grade_of end ≡ Judged given → end ≡ verdict_end given
unfolding verdict_end
end-is (ends.Detected time) given e = ap verdict_end (judged-same (Detected time) given e)
end-is (ends.Possible time) given e = ap verdict_end (judged-same (Possible time) given e)
end-is ends.Undetected given e = ap verdict_end (judged-same Undetected given e)
end-is (ends.Race side pair) given e = cc
end-is (ends.Hyper time) given e = cc

same-is : (one other : Verdict) → same_verdict one other ≡ true → one ≡ other
same-is (Detected t) (Detected s) e = ap Detected (eqb-true t s e)
same-is (Detected t) (Possible s) e = cc
same-is (Detected t) Undetected e = cc
same-is (Possible t) (Detected s) e = cc
same-is (Possible t) (Possible s) e = ap Possible (eqb-true t s e)
same-is (Possible t) Undetected e = cc
same-is Undetected (Detected s) e = cc
same-is Undetected (Possible s) e = cc
same-is Undetected Undetected e = refl

pub judged-no : (found claimed : End) (shown given : Verdict) → grade_of found ≡ Judged shown → grade_of claimed ≡ Judged given → ¬ (found ≡ claimed) → same_verdict shown given ≡ false
judged-no found claimed shown given f g other =
    false_from_ne_true (same_verdict shown given)
    (λ e. other (end-is found shown f ∙ ap verdict_end (same-is shown given e) ∙ sym (end-is claimed given g)))

samples-are : (machine : Machine) (watched : List WatchedBit) (strobes : List ℕ) (bound : ℕ) (moves : List Move) (found : Shown) → AreSamples machine watched strobes bound moves found →
    samples_in found ≡ samples_at (run_samples machine watched moves) (filter (λ strobe. nat_le strobe bound) strobes)
samples-are machine watched strobes bound moves (shown.Samples samples) s = s
samples-are machine watched strobes bound moves (shown.Conflict pair) s = absurd s
samples-are machine watched strobes bound moves shown.Nothing s = absurd s

end-by : (design : FlatDesign) (plan : TestPlan) (fault : StuckAt) (given : Verdict) (good faulty : Option Replay) (claimed : End) (result : Option End) → grade_of claimed ≡ Judged given →
    JudgedBy (stands design plan fault (Says given) good faulty) claimed result → EndBy design plan fault (Says given) good faulty result
end-by design plan fault given good faulty claimed None g j = j
end-by design plan fault given good faulty claimed (Some end) g j =
    let is : grade_of end ≡ Judged given = ap grade_of j.1 ∙ g in (j.0, ap (claim_as design) is, subst (RaceHolds design fault) (sym is) tt)

-- a claimed verdict ends where the samples give it
pub judged-end : (design : FlatDesign) (plan : TestPlan) (fault : StuckAt) (given : Verdict) (good faulty : Option Replay) (g f : Shown) (claimed : End) (result : Option End) →
    grade_of claimed ≡ Judged given → ShowsFor design plan fault (Says given) Good good g → ShowsFor design plan fault (Says given) Faulty faulty f →
    JudgedBy (same_verdict (verdict_in (samples_in g) (samples_in f)) given) claimed result → EndBy design plan fault (Says given) good faulty result
judged-end design plan fault given good faulty g f claimed result is one other j =
    let bound = verdict_bound plan given in
    let seen : Samples = run_samples (good_machine design) plan.watched (moves_of good) in
    let own : Samples = run_samples (faulty_machine design fault) plan.watched (moves_of faulty) in
    let a = samples-are (good_machine design) plan.watched plan.strobes bound (moves_of good) g one in
    let b = samples-are (faulty_machine design fault) plan.watched plan.strobes bound (moves_of faulty) f other in
    let same : verdict_in (samples_in g) (samples_in f) ≡ verdict seen own (strobes_until bound plan) = (λ i. verdict_in (a i) (b i)) ∙ verdict-at seen own (strobes_until bound plan) in
    end-by design plan fault given good faulty claimed result is (subst (λ v. JudgedBy (same_verdict v given) claimed result) same j)

-- Races

printed-claims : (design : FlatDesign) (side : Side) (time phase : ℕ) (first second : List ℕ) (pair : Pair) → IsPrinted design time phase first second (reported_pair pair) →
    claim_as design (grade_of (ends.Race side pair)) ≡ Some (Races side time phase first second)
printed-claims design side time phase first second pair p = λ i. Some (Races side (p.time_is i) (p.phase_is i) (p.first_is i) (p.second_is i))

good-race : (design : FlatDesign) (plan : TestPlan) (fault : StuckAt) (time phase : ℕ) (first second : List ℕ) (good faulty : Option Replay) (pair : Option Pair) →
    IsConflictAt (good_machine design) time phase first second (moves_of good) pair →
    EndBy design plan fault (Races Good time phase first second) good faulty (option_map (ends.Race Good) pair)
good-race design plan fault time phase first second good faulty None c = c
good-race design plan fault time phase first second good faulty (Some pair) c = (c.0, printed-claims design Good time phase first second pair c.1, c.2)

faulty-race : (design : FlatDesign) (plan : TestPlan) (fault : StuckAt) (time phase : ℕ) (first second : List ℕ) (good faulty : Option Replay) (pair : Option Pair) →
    IsConflictAt (faulty_machine design fault) time phase first second (moves_of faulty) pair →
    EndBy design plan fault (Races Faulty time phase first second) good faulty (option_map (ends.Race Faulty) pair)
faulty-race design plan fault time phase first second good faulty None c = c
faulty-race design plan fault time phase first second good faulty (Some pair) c = (c.0, printed-claims design Faulty time phase first second pair c.1, c.2)

-- what is told of a race is told of the pair that is shown
race-told : (machine : Machine) (time phase : ℕ) (first second : List ℕ) (moves : List Move) (found : Shown) → TellsConflict machine time phase first second moves found →
    IsConflictAt machine time phase first second moves (pair_in found)
race-told machine time phase first second moves (shown.Samples samples) t = absurd t
race-told machine time phase first second moves (shown.Conflict pair) t = t
race-told machine time phase first second moves shown.Nothing t = absurd t

-- a claimed race ends where the run of its side shows it
pub raced-end : (design : FlatDesign) (plan : TestPlan) (fault : StuckAt) (side : Side) (time phase : ℕ) (first second : List ℕ) (good faulty : Option Replay) (g f : Shown) →
    ShowsFor design plan fault (Races side time phase first second) Good good g → ShowsFor design plan fault (Races side time phase first second) Faulty faulty f →
    EndBy design plan fault (Races side time phase first second) good faulty (option_map (ends.Race side) (pair_in (shown_on side g f)))
raced-end design plan fault Good time phase first second good faulty g f one other =
    good-race design plan fault time phase first second good faulty (pair_in g) (race-told (good_machine design) time phase first second (moves_of good) g one)
raced-end design plan fault Faulty time phase first second good faulty g f one other =
    faulty-race design plan fault time phase first second good faulty (pair_in f) (race-told (faulty_machine design fault) time phase first second (moves_of faulty) f other)

-- Whatever is claimed

-- where both runs show what is claimed of them, these are the ends
abbrev pub EndsBy : FlatDesign → TestPlan → StuckAt → (good faulty : Option Replay) → (g f : Shown) → Option End → Claim → Type 0
EndsBy design plan fault good faulty g f result claim =
    ShowsFor design plan fault claim Good good g → ShowsFor design plan fault claim Faulty faulty f → EndBy design plan fault claim good faulty result

pub judged-ends : (design : FlatDesign) (plan : TestPlan) (fault : StuckAt) (claim : ClaimKept) (given : Verdict) (good faulty : Option Replay) (g f : Shown) (claimed : End) (result : Option End) →
    claim_said claim ≡ Says given → grade_of claimed ≡ Judged given → JudgedBy (same_verdict (verdict_in (samples_in g) (samples_in f)) given) claimed result →
    EndsBy design plan fault good faulty g f result (claim_said claim)
judged-ends design plan fault claim given good faulty g f claimed result says is j =
    subst (EndsBy design plan fault good faulty g f result) (sym says) (λ one other. judged-end design plan fault given good faulty g f claimed result is one other j)

pub raced-ends : (design : FlatDesign) (plan : TestPlan) (fault : StuckAt) (claim : ClaimKept) (race : ClaimedRace) (good faulty : Option Replay) (g f : Shown) (result : Option End) →
    claim ≡ kept.Race race → result ≡ option_map (ends.Race race.side) (pair_in (shown_on race.side g f)) → EndsBy design plan fault good faulty g f result (claim_said claim)
raced-ends design plan fault claim race good faulty g f result says is =
    subst (λ c. EndsBy design plan fault good faulty g f result (claim_said c)) (sym says)
    (subst (λ r. EndsBy design plan fault good faulty g f r (claim_said (kept.Race race))) (sym is)
    (λ one other. raced-end design plan fault race.side race.time race.phase (access_said race.first) (access_said race.second) good faulty g f one other))
