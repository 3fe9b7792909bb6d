-- What is shown of a run is what its side shows of the claim (IEEE 1364-2001, clause 5).
use Rattle.std.proofs.Common.{◌≡◌, ℕ, List, true, false, refl, sym, subst}
use Rattle.std.specs.Prelude.{Option, Some, None, IfSome, Result, Ok, Err, IfOk}
use Rattle.vf_base.specs.Base.{WatchedBit}
use Rattle.vf_base.specs.declared.finding.Side.{Side}
use Rattle.vf_base.specs.declared.finding.Side.TheVariants.{Good, Faulty}
use Rattle.v_design.specs.Designs.{FlatDesign, Machine, StuckAt, TestPlan}
use Rattle.v_design.specs.Runs.{Move}
use Rattle.v_design.specs.Grades.{Verdict}
use Rattle.v_design.specs.Laws.{machine_of}
use Rattle.cert_laws.specs.Claims.{Claim, Says, Races}
use Rattle.cert_laws.specs.Replays.{Replay}
use Rattle.cert_laws.specs.Valid.{verdict_bound, moves_of, CertLine}
use Rattle.cert_runs.specs.Asking.{race_asked, bound_asked, AreSamples, TellsConflict, IsShownBy, Shows}
use Rattle.cert_runs.specs.Sections.{SectionBy}
use Rattle.cert_runs.specs.declared.asked.Asked.{Asked}
use Rattle.cert_runs.specs.declared.asked.Shown.{Shown}
use Rattle.cert_runs.specs.declared.section.Section.{Section}
use Rattle.cert_runs.specs.declared.section.Section.TheVariants.{Breaks, Stops}
use Rattle.vf_audit.specs.Sides.{SectionAs, SectionFor}
use Rattle.vf_audit.proofs.Reached.{breaks-within, reached}

-- what shows what is asked shows this
abbrev pub ShowsSo : Asked → Machine → (Option Replay → Shown → Type 0) → Type 0
ShowsSo asked machine Showing =
    (run : Option Replay) (found : Shown) → IsShownBy asked machine (moves_of run) found → Showing run found

showing-for : (asked : Asked) (machine : Machine) (Showing : Option Replay → Shown → Type 0) (run : Option Replay) (found : Option Shown) → ShowsSo asked machine Showing →
    Shows asked machine run found → IfSome found (Showing run)
showing-for asked machine Showing run None turn s = tt
showing-for asked machine Showing run (Some x) turn s = turn run x s

pub section-for : (asked : Asked) (machine : Machine) (lines : List CertLine) (section : Section) (Showing : Option Replay → Shown → Type 0) → ShowsSo asked machine Showing →
    SectionBy asked machine lines None section → SectionAs (race_asked asked) machine (bound_asked asked) Showing lines section
section-for asked machine lines (Breaks count) Showing turn s = (s, breaks-within (race_asked asked) machine (bound_asked asked) lines None count s)
section-for asked machine lines (Stops count found) Showing turn s =
    let r = reached (race_asked asked) machine (bound_asked asked) lines None count s.0 s.1 in
    record {
      run = s.0;
      comes = s.1;
      within = r.within;
      behind = r.over;
      leaves = record {
        left = s.2;
        showing = showing-for asked machine Showing s.0 found turn s.3;
      };
    }

-- The sides

-- a claimed verdict
pub judged-section : (design : FlatDesign) (plan : TestPlan) (fault : StuckAt) (given : Verdict) (side : Side) (machine : Machine) (bound : ℕ) (lines : List CertLine) (section : Section) →
    machine ≡ machine_of side design fault → verdict_bound plan given ≡ bound →
    SectionAs false machine (Some bound) (λ run found. AreSamples machine plan.watched plan.strobes bound (moves_of run) found) lines section →
    SectionFor design plan fault (Says given) side lines section
judged-section design plan fault given side machine bound lines section is low s =
    subst (λ n. SectionAs false (machine_of side design fault) (Some n) (λ run found. AreSamples (machine_of side design fault) plan.watched plan.strobes n (moves_of run) found) lines section)
    (sym low)
    (subst (λ m. SectionAs false m (Some bound) (λ run found. AreSamples m plan.watched plan.strobes bound (moves_of run) found) lines section) is s)

-- a race of this side
pub raced-section : (design : FlatDesign) (plan : TestPlan) (fault : StuckAt) (side : Side) (machine : Machine) (time phase : ℕ) (first second : List ℕ) (lines : List CertLine) (section : Section) →
    machine ≡ machine_of side design fault → SectionAs true machine (Some time) (λ run found. TellsConflict machine time phase first second (moves_of run) found) lines section →
    SectionFor design plan fault (Races side time phase first second) side lines section
raced-section design plan fault Good machine time phase first second lines section is s =
    subst (λ m. SectionAs true m (Some time) (λ run found. TellsConflict m time phase first second (moves_of run) found) lines section) is s
raced-section design plan fault Faulty machine time phase first second lines section is s =
    subst (λ m. SectionAs true m (Some time) (λ run found. TellsConflict m time phase first second (moves_of run) found) lines section) is s

-- a race of the other side
pub other-section : (design : FlatDesign) (plan : TestPlan) (fault : StuckAt) (named side : Side) (machine : Machine) (time phase : ℕ) (first second : List ℕ) (lines : List CertLine)
    (section : Section) → machine ≡ machine_of side design fault → (side ≡ named → ⊥) → SectionAs true machine None (λ run found. Unit {0}) lines section →
    SectionFor design plan fault (Races named time phase first second) side lines section
other-section design plan fault Good Good machine time phase first second lines section is other s = absurd (other refl)
other-section design plan fault Good Faulty machine time phase first second lines section is other s = subst (λ m. SectionAs true m None (λ run found. Unit {0}) lines section) is s
other-section design plan fault Faulty Good machine time phase first second lines section is other s = subst (λ m. SectionAs true m None (λ run found. Unit {0}) lines section) is s
other-section design plan fault Faulty Faulty machine time phase first second lines section is other s = absurd (other refl)

-- What is shown, by what is asked

-- samples of the watched bits at the strobes, as they are passed on
pub samples-shown : (machine : Machine) (watched kept : List WatchedBit) (strobes times : List ℕ) (bound : ℕ) (moves : List Move) (found : Shown) → kept ≡ watched → times ≡ strobes →
    AreSamples machine kept times bound moves found → AreSamples machine watched strobes bound moves found
samples-shown machine watched kept strobes times bound moves found same at s =
    subst (λ t. AreSamples machine watched t bound moves found) at (subst (λ w. AreSamples machine w times bound moves found) same s)

-- accesses by their texts
pub accesses-told : (machine : Machine) (time phase : ℕ) (first second one other : List ℕ) (moves : List Move) (found : Shown) → one ≡ first → other ≡ second →
    TellsConflict machine time phase one other moves found → TellsConflict machine time phase first second moves found
accesses-told machine time phase first second one other moves found same alike t =
    subst (λ s. TellsConflict machine time phase first s moves found) alike (subst (λ f. TellsConflict machine time phase f other moves found) same t)

-- whatever verdict is claimed
pub verdict-section : {E : Type 0} → (design : FlatDesign) (plan : TestPlan) (fault : StuckAt) (claim : Claim) (given : Verdict) (side : Side) (bound : ℕ) (lines : List CertLine)
    (result : Result Section E) →
    claim ≡ Says given → verdict_bound plan given ≡ bound →
    IfOk result (λ section. (verdict : Verdict) → verdict_bound plan verdict ≡ bound → SectionFor design plan fault (Says verdict) side lines section) →
    IfOk result (SectionFor design plan fault claim side lines)
verdict-section design plan fault claim given side bound lines (Ok section) is low told = subst (λ c. SectionFor design plan fault c side lines section) (sym is) (told given low)
verdict-section design plan fault claim given side bound lines (Err e) is low told = tt
