-- The lines of a run, one after the other.
use Rattle.std.proofs.Common.{◌≡◌, ℕ, zero, suc, ◌+◌, ◌*◌, ◌<◌, ◌≤◌, ◌^◌, List, [], ◌∷◌, length, get_or, drop, Bool, true, false, Bor, refl, sym, ap, subst, ◌∙◌, arith}
use Rattle.std.specs.Prelude.{Option, Some, None, is_some}
use Rattle.std.proofs.lemmas.List.{drop_more, drop_all}
use Rattle.v_design.specs.Designs.{Machine}
use Rattle.text_lines.specs.Plain.{plain_texts}
use Rattle.cert_laws.specs.Replays.{RunLine, Replay}
use Rattle.cert_laws.specs.Valid.{CertLine, Formless, line_of, line_in, lines_said, is_left}
use Rattle.replay_laws.specs.Times.{TimesGrow}
use Rattle.cert_runs.specs.declared.asked.Asked.{Asked}
use Rattle.cert_runs.specs.declared.asked.Asked.TheVariants as asks
use Rattle.cert_runs.specs.declared.asked.Shown.{Shown}
use Rattle.cert_runs.specs.declared.asked.Shown.TheVariants as answers
use Rattle.cert_runs.specs.declared.asked_run.AskedRun.{AskedRun}
use Rattle.cert_runs.specs.declared.lines.Followed.{Followed}
use Rattle.cert_runs.specs.declared.lines.Followed.TheVariants as followed
use Rattle.cert_runs.specs.declared.lines.Taken.{Taken}
use Rattle.cert_runs.specs.declared.lines.Taken.TheVariants as taken
use Rattle.cert_runs.specs.declared.section.Section.TheVariants as section
use Rattle.cert_runs.specs.Along.{Along, BreaksOff, ComesTo, behind, run_in, along}
use Rattle.cert_runs.specs.Asking.{race_asked, bound_asked, Shows}
use Rattle.cert_runs.specs.AskedRuns.{IsAsked, IsAskedRun, KeepsAsked, SameAsked, TellsShown, FollowsAsked, asked_of, asked_race, asked_bound, asked_time}
use Rattle.cert_runs.specs.Lines.{along_of, line_by, TakesLine, GoesAlong}
use Rattle.cert_runs.specs.Sections.{SectionBy, begins_run}
use Rattle.cert_runs.proofs.Standing.{asked-rules, asked-time-is, times-on}

-- One line

pub same-asked : (r : AskedRun) → SameAsked r r
same-asked r = record { asked = refl; race = refl; bound = refl }

same-over : (one mid other : AskedRun) → SameAsked one mid → SameAsked mid other → SameAsked one other
same-over one mid other first second = record { asked = second.asked ∙ first.asked; race = second.race ∙ first.race; bound = second.bound ∙ first.bound }

abbrev on_line : AskedRun → Machine → List CertLine → Option Replay → Option RunLine → Along
on_line old machine lines run found =
    elim found [
      | None ↦ ComesTo 0 run
      | Some line ↦ elim (line_by old machine line run) [ None ↦ BreaksOff 0 | Some next ↦ behind 1 (along_of old machine lines (Some next)) ]
    ]

abbrev on_next : AskedRun → Machine → List CertLine → Option Replay → Along
on_next old machine lines found = elim found [ None ↦ BreaksOff 0 | Some next ↦ behind 1 (along_of old machine lines (Some next)) ]

-- how far the lines go, by what the first says and by what it leads to
along-stops : (old : AskedRun) (machine : Machine) (said : CertLine) (lines : List CertLine) (run : Option Replay) → run_in said ≡ None → along_of old machine (said ∷ lines) run ≡ ComesTo 0 run
along-stops old machine said lines run none = ap (on_line old machine lines run) none

along-goes : (old : AskedRun) (machine : Machine) (said : CertLine) (lines : List CertLine) (run : Option Replay) (line : RunLine) (found : Option Replay) → run_in said ≡ Some line →
    line_by old machine line run ≡ found → along_of old machine (said ∷ lines) run ≡ on_next old machine lines found
along-goes old machine said lines run line found is leads = ap (on_line old machine lines run) is ∙ ap (on_next old machine lines) leads

-- a line that is none of a run
pub line-stops : (said : CertLine) (r : AskedRun) → run_in said ≡ None → TakesLine said taken.Stops r r
line-stops said r none = record { same = same-asked r; takes = λ machine run k. (none, k) }

pub line-breaks : (said : CertLine) (line : RunLine) (old new : AskedRun) → run_in said ≡ Some line → FollowsAsked line false old new → TakesLine said taken.Breaks old new
line-breaks said line old new is f = record { same = f.same; takes = λ machine run k. (line, is, f.goes_on machine run k) }

pub line-goes : (said : CertLine) (line : RunLine) (old new : AskedRun) → run_in said ≡ Some line → FollowsAsked line true old new → TakesLine said taken.Goes old new
line-goes said line old new is f = record { same = f.same; takes = λ machine run k. let n = f.goes_on machine run k in (line, n.0, is, n.1, n.2) }

-- Lines

count : (xs : List (Bor (List ℕ))) → length (lines_said (plain_texts xs)) ≡ length xs
count [] = refl
count (x ∷ xs) = ap suc (count xs)

got : (xs : List (Bor (List ℕ))) (i : ℕ) (d : Bor (List ℕ)) → i < length xs → get_or (lines_said (plain_texts xs)) i Formless ≡ line_of (get_or xs i d).now
got [] i d low = absurd (omega (arith, low))
got (x ∷ xs) zero d low = refl
got (x ∷ xs) (suc i) d low = got xs i d (omega (arith, low))

line-at : (xs : List (Bor (List ℕ))) (i : ℕ) (d : Bor (List ℕ)) → i < length xs →
    drop i (lines_said (plain_texts xs)) ≡ line_of (get_or xs i d).now ∷ drop (i + 1) (lines_said (plain_texts xs))
line-at xs i d low =
    drop_more (lines_said (plain_texts xs)) i Formless (omega (arith, low, count xs)) ∙ ap (λ (l : CertLine). l ∷ drop (i + 1) (lines_said (plain_texts xs))) (got xs i d low)

-- the lines of a run without a bound, by what its first line says
abbrev none_line : Bool → Machine → List CertLine → Option RunLine → Along
none_line race machine lines found =
    elim found [
      | None ↦ ComesTo 0 None
      | Some line ↦ elim (line_in race machine None line None) [ None ↦ BreaksOff 0 | Some next ↦ behind 1 (along race machine None lines (Some next)) ]
    ]

-- so many lines were followed
pub record Passed (machine : Machine) (lines : List CertLine) (at : ℕ) (run : Option Replay) (old new : AskedRun) : Type 0 where
  pub now : Option Replay
  pub rest_is : along_of old machine lines run ≡ behind at (along_of old machine (drop at lines) now)
  pub keeps : KeepsAsked machine now new

pub record Passing (lines : List CertLine) (at : ℕ) (old new : AskedRun) : Type 0 where
  pub same : SameAsked old new
  pub passed : (machine : Machine) (run : Option Replay) → KeepsAsked machine run old → Passed machine lines at run old new

behind-none : (a : Along) → a ≡ behind 0 a
behind-none (BreaksOff n) = let z : n ≡ 0 + n = omega arith in ap BreaksOff z
behind-none (ComesTo n run) = let z : n ≡ 0 + n = omega arith in ap (λ m. ComesTo m run) z

behind-twice : (at : ℕ) (a : Along) → behind at (behind 1 a) ≡ behind (at + 1) a
behind-twice at (BreaksOff n) = let z : at + (1 + n) ≡ at + 1 + n = omega arith in ap BreaksOff z
behind-twice at (ComesTo n run) = let z : at + (1 + n) ≡ at + 1 + n = omega arith in ap (λ m. ComesTo m run) z

pub passing-none : (lines : List CertLine) (r : AskedRun) → Passing lines 0 r r
passing-none lines r = record {
  same = same-asked r;
  passed = λ machine run k. record { now = run; rest_is = behind-none (along_of r machine lines run); keeps = k };
}

-- the claim of the run now is that of the run before
along-same : (machine : Machine) (lines : List CertLine) (run : Option Replay) (old mid : AskedRun) → SameAsked old mid → along_of old machine lines run ≡ along_of mid machine lines run
along-same machine lines run old mid same = λ i. along (sym same.race i) machine (Some (sym same.bound i)) lines run

module _ (xs : List (Bor (List ℕ))) (at : ℕ) (d : Bor (List ℕ)) (old mid new : AskedRun) (low : at < length xs) (p : Passing (lines_said (plain_texts xs)) at old mid) where
  rest-at : (machine : Machine) (now : Option Replay) →
      along_of old machine (drop at (lines_said (plain_texts xs))) now ≡ along_of mid machine (line_of (get_or xs at d).now ∷ drop (at + 1) (lines_said (plain_texts xs))) now
  rest-at machine now = ap (λ (ls : List CertLine). along_of old machine ls now) (line-at xs at d low)
      ∙ along-same machine (line_of (get_or xs at d).now ∷ drop (at + 1) (lines_said (plain_texts xs))) now old mid p.same

  pub passing-goes : TakesLine (line_of (get_or xs at d).now) taken.Goes mid new → Passing (lines_said (plain_texts xs)) (at + 1) old new
  passing-goes t = record {
    same = same-over old mid new p.same t.same;
    passed = λ machine run k.
        let q = p.passed machine run k in
        let n = t.takes machine q.now q.keeps in
        let ls = drop (at + 1) (lines_said (plain_texts xs)) in
        record {
          now = Some n.1;
          rest_is = q.rest_is
              ∙ ap (behind at) (rest-at machine q.now ∙ along-goes mid machine (line_of (get_or xs at d).now) ls q.now n.0 (Some n.1) n.2 n.3
              ∙ ap (behind 1) (sym (along-same machine ls (Some n.1) old mid p.same)))
              ∙ behind-twice at (along_of old machine ls (Some n.1));
          keeps = n.4;
        };
  }

  pub passing-breaks : TakesLine (line_of (get_or xs at d).now) taken.Breaks mid new → GoesAlong (lines_said (plain_texts xs)) (followed.Breaks at) old new
  passing-breaks t = record {
    same = same-over old mid new p.same t.same;
    goes = λ machine run k.
        let q = p.passed machine run k in
        let z : at + 0 ≡ at = omega arith in
        let n = t.takes machine q.now q.keeps in
        q.rest_is ∙ ap (behind at) (rest-at machine q.now ∙ along-goes mid machine (line_of (get_or xs at d).now) (drop (at + 1) (lines_said (plain_texts xs))) q.now n.0 None n.1 n.2)
        ∙ ap BreaksOff z;
  }

  pub passing-stops : TakesLine (line_of (get_or xs at d).now) taken.Stops mid new → GoesAlong (lines_said (plain_texts xs)) (followed.Stops at) old new
  passing-stops t = record {
    same = same-over old mid new p.same t.same;
    goes = λ machine run k.
        let q = p.passed machine run k in
        let n = t.takes machine q.now q.keeps in
        let z : at + 0 ≡ at = omega arith in (
          q.now,
          q.rest_is ∙ ap (behind at) (rest-at machine q.now ∙ along-stops mid machine (line_of (get_or xs at d).now) (drop (at + 1) (lines_said (plain_texts xs))) q.now n.0)
              ∙ ap (λ m. ComesTo m q.now) z,
          n.1,
        );
  }

-- no line is left
pub passing-ends : (xs : List (Bor (List ℕ))) (at : ℕ) (old new : AskedRun) → length xs ≤ at → Passing (lines_said (plain_texts xs)) at old new →
    GoesAlong (lines_said (plain_texts xs)) (followed.Stops at) old new
passing-ends xs at old new low p = record {
  same = p.same;
  goes = λ machine run k.
      let q = p.passed machine run k in
      let z : at + 0 ≡ at = omega arith in (
        q.now,
        q.rest_is ∙ ap (λ (ls : List CertLine). behind at (along_of old machine ls q.now)) (drop_all at (lines_said (plain_texts xs)) (omega (arith, low, count xs)))
            ∙ ap (λ m. ComesTo m q.now) z,
        q.keeps,
      );
}

-- Times

-- after so few turns the time is low
pub low-time : (turns : ℕ) (r : AskedRun) → turns ≤ 16777216 → IsAskedRun turns r → asked_time r ≤ 2 ^ 63
low-time turns r few is = let at : asked_time r ≤ turns * 4294967296 = subst (λ n. n ≤ turns * 4294967296) (sym (asked-time-is is.machine is.run r is.keeps)) is.times.now in omega (arith, at, few)

pub some-asked : (turns : ℕ) (r : AskedRun) → IsAskedRun turns r → IsAsked r
some-asked turns r is = record { machine = is.machine; run = is.run; keeps = is.keeps }

-- a line that is followed is one turn at most
pub times-go : TimesGrow → (turns : ℕ) (said : CertLine) (old new : AskedRun) → TakesLine said taken.Goes old new → IsAskedRun turns old → IsAskedRun (turns + 1) new
times-go law turns said old new t is =
    let n = t.takes is.machine is.run is.keeps in
    record {
      machine = is.machine;
      run = Some n.1;
      keeps = n.4;
      times = times-on law (asked_race old) is.machine (asked_bound old) turns n.0 is.run n.1 (asked-rules is.machine is.run old is.keeps) n.3 is.times;
    }

-- what becomes of a line is known
pub takes-as : (said : CertLine) (one other : Taken) (old new : AskedRun) → one ≡ other → TakesLine said one old new → TakesLine said other old new
takes-as said one other old new is t = subst (λ x. TakesLine said x old new) is t

-- how far lines go is known
pub goes-as : (lines : List CertLine) (one other : Followed) (old new : AskedRun) → one ≡ other → GoesAlong lines one old new → GoesAlong lines other old new
goes-as lines one other old new is g = subst (λ x. GoesAlong lines x old new) is g

-- The section of a run

-- a run without a bound has no lines
pub section-none : (asked : Asked) (machine : Machine) (lines : List CertLine) → bound_asked asked ≡ None → begins_run lines ≡ false →
    SectionBy asked machine lines None (section.Stops 0 (Some answers.Nothing))
section-none (asks.Samples bound watched strobes) machine lines unbounded none = cc
section-none (asks.Conflict time phase first second) machine lines unbounded none = cc
section-none asks.Nothing machine [] unbounded none = (None, refl, refl, tt)
section-none asks.Nothing machine (said ∷ lines) unbounded none = by (run_in said) refl
  where
    by : (found : Option RunLine) → run_in said ≡ found → SectionBy asks.Nothing machine (said ∷ lines) None (section.Stops 0 (Some answers.Nothing))
    by None is = (None, ap (none_line true machine lines) is, refl, tt)
    by (Some line) is = let z : true ≡ false = sym (ap is_some is) ∙ none in cc

pub section-breaks : (asked : Asked) (machine : Machine) (lines : List CertLine) → bound_asked asked ≡ None → begins_run lines ≡ true → SectionBy asked machine lines None (section.Breaks 0)
section-breaks asked machine [] unbounded some = cc
section-breaks asked machine (said ∷ lines) unbounded some =
    subst (λ b. along (race_asked asked) machine b (said ∷ lines) None ≡ BreaksOff 0) (sym unbounded) (by (run_in said) refl)
  where
    by : (found : Option RunLine) → run_in said ≡ found → along (race_asked asked) machine None (said ∷ lines) None ≡ BreaksOff 0
    by None is = let z : false ≡ true = sym (ap is_some is) ∙ some in cc
    by (Some line) is = ap (none_line (race_asked asked) machine lines) is

-- how far the lines of a run go, by what is asked of it
pub along-asked : (machine : Machine) (lines : List CertLine) (run : Option Replay) (r : AskedRun) → KeepsAsked machine run r →
    along (race_asked (asked_of r)) machine (bound_asked (asked_of r)) lines run ≡ along_of r machine lines run
along-asked machine lines run r k = λ i. along (sym k.race_is i) machine (k.bound_is i) lines run

pub bounded-breaks : (machine : Machine) (lines : List CertLine) (run : Option Replay) (count : ℕ) (old new : AskedRun) → GoesAlong lines (followed.Breaks count) old new → KeepsAsked machine run old →
    SectionBy (asked_of old) machine lines run (section.Breaks count)
bounded-breaks machine lines run count old new g k = along-asked machine lines run old k ∙ g.goes machine run k

pub bounded-stops : (machine : Machine) (lines : List CertLine) (run : Option Replay) (count : ℕ) (shown : Option Shown) (old new : AskedRun) → GoesAlong lines (followed.Stops count) old new →
    TellsShown shown new → KeepsAsked machine run old → SectionBy (asked_of old) machine lines run (section.Stops count shown)
bounded-stops machine lines run count shown old new g t k =
    let n = g.goes machine run k in
    let told = t machine n.0 n.2 in (
      n.0,
      along-asked machine lines run old k ∙ n.1,
      subst (λ asked. is_some shown ≡ is_left (race_asked asked) machine (bound_asked asked) n.0) g.same.asked told.0,
      subst (λ asked. Shows asked machine n.0 shown) g.same.asked told.1,
    )

-- where the lines stop, what is kept stands for a run
pub stopped-run : (machine : Machine) (lines : List CertLine) (run : Option Replay) (count : ℕ) (old new : AskedRun) → GoesAlong lines (followed.Stops count) old new → KeepsAsked machine run old →
    IsAsked new
stopped-run machine lines run count old new g k = let n = g.goes machine run k in record { machine = machine; run = n.0; keeps = n.2 }
