-- A run that is followed shows what is asked of it.
use Rattle.std.proofs.Common.{◌≡◌, ℕ, ◌≤◌, ◌^◌, List, [], map, Bool, true, false, ◌⊎◌, inl, inr, refl, sym, ap, subst, ◌∙◌}
use Rattle.std.specs.Prelude.{Option, Some, None, is_some, option_map}
use Rattle.four_value.specs.Values.{LogicValue}
use Rattle.std.specs.Borrow.{Bor}
use Rattle.vf_base.specs.Base.{watched_bit, ReportedPair, reported_pair}
use Rattle.vf_base.specs.declared.finding.Pair.{Pair}
use Rattle.v_design.specs.Designs.{Machine}
use Rattle.v_design.specs.WellFormed.{KeepsRules}
use Rattle.v_design.specs.Grades.{samples}
use Rattle.kept_samples.specs.Plain.{sample_of}
use Rattle.kept_samples.specs.declared.kept.Sample.{Sample}
use Rattle.cert_laws.specs.Replays.{RunLine, SlotAt, PhaseNumber, StepsOf, UpdatesOf, Replay, run_line, is_through}
use Rattle.cert_laws.specs.Valid.{is_left}
use Rattle.replay_laws.specs.Looked.{RacesAreLookedFor, HasLooked, found_then, found_after}
use Rattle.cert_runs.specs.declared.asked.Asked.{Asked}
use Rattle.cert_runs.specs.declared.asked.Asked.TheVariants as asks
use Rattle.cert_runs.specs.declared.asked.Shown.{Shown}
use Rattle.cert_runs.specs.declared.asked.Shown.TheVariants as answers
use Rattle.cert_runs.specs.declared.asked_run.AskedRun.{AskedRun}
use Rattle.cert_runs.specs.Asking.{race_asked, bound_asked, IsAskedOf, IsConflictAt, Shows}
use Rattle.cert_runs.specs.Runs.{IsRun, FollowsLine, TellsThrough, time_of}
use Rattle.cert_runs.specs.Samples.{state_of, slot_time}
use Rattle.cert_runs.specs.AskedRuns.{IsShownSoFar, IsAsked, KeepsAsked, SameAsked, AskedGoesOn, FollowsAsked, SeenBefore, SeenLast, SameButSamples, SeesBefore, SeesLast, ShowsAsked, ShowsKept, TellsShown}
use Rattle.cert_runs.specs.AskedRuns.{asked_of, asked_race, asked_bound, asked_time, stands_at, values_of}
use Rattle.cert_runs.specs.Searches.{FoundSoFar, found_in, found_at_end, found_by_line, found_on, LooksInRun, LooksAtLast}
use Rattle.cert_runs.proofs.Seeing.{some-is, line-leads, line-first, seen-none, seen-on, seen-all}
use Rattle.cert_runs.proofs.Standing.{asked-rules, asked-values, first-is}

-- A run that hasn't begun has shown nothing
pub shown-none : (asked : Asked) (machine : Machine) (kept : List Sample) (found : Option ReportedPair) → kept ≡ [] → found ≡ None → IsShownSoFar asked machine None kept found
shown-none (asks.Samples bound watched strobes) machine kept found none nothing = seen-none machine (map watched_bit watched.now) strobes.now bound kept none
shown-none (asks.Conflict time phase first second) machine kept found none nothing = nothing
shown-none asks.Nothing machine kept found none nothing = tt

-- A line

-- the strobes that were passed saw the values
pub sees-before : (time : ℕ) (old new : AskedRun) (asked : Asked) → asked_of old ≡ asked → SameButSamples old new → SeenBefore asked time (values_of old) old.samples.items new.samples.items →
    SeesBefore time old new
sees-before time old new asked is same seen =
    record { same = same; seen = subst (λ a. SeenBefore a time (values_of old) old.samples.items new.samples.items) (sym is) seen }

pub sees-last : (old new : AskedRun) (asked : Asked) → asked_of old ≡ asked → SameButSamples old new → SeenLast asked (values_of old) old.samples.items new.samples.items → SeesLast old new
sees-last old new asked is same seen =
    record { same = same; seen = subst (λ a. SeenLast a (values_of old) old.samples.items new.samples.items) (sym is) seen }

-- where nothing but the samples changed, what is kept stands for a run, and its time is low
pub still-run : (old mid : AskedRun) → SameButSamples old mid → IsAsked old → IsRun mid.run
still-run old mid same is = subst IsRun (sym same.run) (record { machine = is.machine; run = is.run; keeps = is.keeps.keeps })

pub still-low : (old mid : AskedRun) → SameButSamples old mid → asked_time old ≤ 2 ^ 63 → asked_time mid ≤ 2 ^ 63
still-low old mid same low = subst (λ r. time_of r ≤ 2 ^ 63) (sym same.run) low

-- a claimed race is looked for in the phase that a line ends
found-on : RacesAreLookedFor → (race : Bool) (machine : Machine) (time phase : ℕ) (first second : List ℕ) (line : RunLine) (run : Option Replay) (next : Replay) (old new : Option ReportedPair) →
    KeepsRules machine.design → run_line race machine time line run ≡ Some next → ((replay : Replay) → run ≡ Some replay → new ≡ found_after machine time phase first second line replay old) →
    (run ≡ None → new ≡ old) → FoundSoFar machine time phase first second run old → FoundSoFar machine time phase first second (Some next) new
found-on law race machine time phase first second line None next old new rules leads goes begins found =
    subst (HasLooked machine time phase first second next) (sym (begins refl ∙ found))
    (subst (λ (r : Replay). HasLooked machine time phase first second r None) (first-is machine line next leads) (law.begins machine time phase first second rules))
found-on law race machine time phase first second line (Some replay) next old new rules leads goes begins found =
    subst (HasLooked machine time phase first second next) (sym (goes replay refl)) (law.line race machine time phase first second line replay next old rules leads found)

line-finds : (machine : Machine) (time : ℕ) (phase : ℕ) (first second : Bor (List ℕ)) (line : RunLine) (replay : Replay) (before : Option ReportedPair) →
    found_by_line (asks.Conflict time phase first second) machine line replay before ≡ found_after machine time phase first.now second.now line replay before
line-finds machine time phase first second (SlotAt at) replay before = refl
line-finds machine time phase first second (PhaseNumber number) replay before = refl
line-finds machine time phase first second (StepsOf process count) replay before = refl
line-finds machine time phase first second (UpdatesOf process count) replay before = refl

-- a run that a line leads on has shown what it showed, what the strobes before the line's time saw, and what was found in the phase that the line ends
shown-on : RacesAreLookedFor → (asked : Asked) (race : Bool) (machine : Machine) (limit : ℕ) (line : RunLine) (run : Option Replay) (next : Replay) (values : List LogicValue)
    (old new : List Sample) (before after : Option ReportedPair) → KeepsRules machine.design → IsAskedOf machine.design asked → bound_asked asked ≡ Some limit →
    run_line race machine limit line run ≡ Some next → values ≡ (stands_at machine run).now.values → SeenBefore asked (slot_time line) values old new →
    after ≡ found_on asked machine line run before → IsShownSoFar asked machine run old before → IsShownSoFar asked machine (Some next) new after
shown-on law (asks.Samples bound watched strobes) race machine limit line run next values old new before after rules of is leads same seen looks shown =
    let goes : run_line race machine bound line run ≡ Some next = subst (λ n. run_line race machine n line run ≡ Some next) (sym (some-is bound limit is)) leads in
    seen-on machine (map watched_bit watched.now) strobes.now bound (slot_time line) run (samples (map watched_bit watched.now) values) old new of.1 seen shown next (sees run goes same)
    (line-leads race machine bound line run next goes)
  where
    sees : (run : Option Replay) → run_line race machine bound line run ≡ Some next → values ≡ (stands_at machine run).now.values →
        (slot_time line ≡ 0) ⊎ (samples (map watched_bit watched.now) values ≡ samples (map watched_bit watched.now) (state_of machine run).values)
    sees None goes same = inl (line-first race machine bound line next goes)
    sees (Some replay) goes same = inr (ap (samples (map watched_bit watched.now)) same)
shown-on law (asks.Conflict time phase first second) race machine limit line run next values old new before after rules of is leads same seen looks shown =
    found-on law race machine time phase first.now second.now line run next before after rules
    (subst (λ n. run_line race machine n line run ≡ Some next) (sym (some-is time limit is)) leads)
    (λ replay e. looks ∙ ap (λ r. found_on (asks.Conflict time phase first second) machine line r before) e ∙ line-finds machine time phase first second line replay before)
    (λ e. looks ∙ ap (λ r. found_on (asks.Conflict time phase first second) machine line r before) e) shown
shown-on law asks.Nothing race machine limit line run next values old new before after rules of is leads same seen looks shown = tt

-- a line is followed, after the strobes before its time saw where the run stood
pub asked-follows : RacesAreLookedFor → (line : RunLine) (went : Bool) (old mid new : AskedRun) → SeesBefore (slot_time line) old mid → FollowsLine line went mid.run new.run →
    LooksInRun line went mid.run mid.search new.search → new.samples ≡ mid.samples → FollowsAsked line went old new
asked-follows law line went old mid new sees follows looks kept = record { same = same; goes_on = go went from look }
  where
    from : FollowsLine line went old.run new.run
    from = subst (λ r. FollowsLine line went r new.run) sees.same.run follows

    look : LooksInRun line went old.run old.search new.search
    look = subst (λ s. LooksInRun line went old.run s new.search) sees.same.search (subst (λ r. LooksInRun line went r mid.search new.search) sees.same.run looks)

    same : SameAsked old new
    same = record { asked = look.asked; race = from.race; bound = from.bound }

    go : (went : Bool) → FollowsLine line went old.run new.run → LooksInRun line went old.run old.search new.search → (machine : Machine) (run : Option Replay) → KeepsAsked machine run old →
        AskedGoesOn machine (run_line (asked_race old) machine (asked_bound old) line run) went new
    go false f l machine run k = f.goes_on machine run k.keeps
    go true f l machine run k =
        let n = f.goes_on machine run k.keeps in (
          n.0,
          n.1,
          record {
            keeps = n.2;
            race_is = same.race ∙ k.race_is ∙ ap race_asked (sym same.asked);
            bound_is = ap bound_asked same.asked ∙ k.bound_is ∙ ap Some (sym same.bound);
            of_design = subst (IsAskedOf machine.design) (sym same.asked) k.of_design;
            shown = subst (λ asked. IsShownSoFar asked machine (Some n.0) new.samples.items (found_in new.search)) (sym same.asked)
                (shown-on law (asked_of old) (asked_race old) machine (asked_bound old) line run n.0 (values_of old) old.samples.items new.samples.items (found_in old.search) (found_in new.search)
                (asked-rules machine run old k) k.of_design k.bound_is n.1 (asked-values machine run old k)
                (subst (λ (vs : List Sample). SeenBefore (asked_of old) (slot_time line) (values_of old) old.samples.items vs) (sym (ap (λ v. v.items) kept)) sees.seen)
                (l.found refl machine run k.keeps) k.shown);
          },
        )

-- The end

-- the pair that was found is printed so and names a conflict of a legal order; where none was found the run shows none
conflict-told : RacesAreLookedFor → (race : Bool) (machine : Machine) (time phase : ℕ) (first second : List ℕ) (replay : Replay) (found : Option ReportedPair) (pair : Option Pair) →
    is_through race machine time (Some replay) ≡ true → option_map reported_pair pair ≡ found_then machine time phase first second replay found →
    HasLooked machine time phase first second replay found → IsConflictAt machine time phase first second replay.moves pair
conflict-told law race machine time phase first second replay found None through is looked =
    law.shows_it machine time phase first second replay found looked ∙ ap is_some (sym is)
conflict-told law race machine time phase first second replay found (Some pair) through is looked =
    let holds = law.holds race machine time phase first second replay found (reported_pair pair) through looked (sym is) in
    (law.shows_it machine time phase first second replay found looked ∙ ap is_some (sym is), holds.0, holds.1)

-- where a run is left, what it has shown is what its moves show
shows-all : RacesAreLookedFor → (asked : Asked) (race : Bool) (machine : Machine) (limit : ℕ) (replay : Replay) (values : List LogicValue) (old mid : List Sample) (before : Option ReportedPair)
    (pair : Option Pair) (shown : Shown) → IsAskedOf machine.design asked → bound_asked asked ≡ Some limit → is_through race machine limit (Some replay) ≡ true → values ≡ replay.now.values →
    SeenLast asked values old mid → option_map reported_pair pair ≡ found_at_end asked machine replay before → ShowsAsked asked mid pair shown →
    IsShownSoFar asked machine (Some replay) old before → Shows asked machine (Some replay) (Some shown)
shows-all law (asks.Samples bound watched strobes) race machine limit replay values old mid before pair (answers.Samples kept) of is through same seen looks is_kept shown =
    ap (map sample_of) is_kept
    ∙ seen-all machine (map watched_bit watched.now) strobes.now bound replay (samples (map watched_bit watched.now) values) old mid of.1 (ap (samples (map watched_bit watched.now)) same) seen shown
shows-all law (asks.Samples bound watched strobes) race machine limit replay values old mid before pair (answers.Conflict other) of is through same seen looks is_kept shown = absurd is_kept
shows-all law (asks.Samples bound watched strobes) race machine limit replay values old mid before pair answers.Nothing of is through same seen looks is_kept shown = absurd is_kept
shows-all law (asks.Conflict time phase first second) race machine limit replay values old mid before pair (answers.Samples kept) of is through same seen looks is_kept shown = absurd is_kept
shows-all law (asks.Conflict time phase first second) race machine limit replay values old mid before pair (answers.Conflict other) of is through same seen looks is_kept shown =
    conflict-told law race machine time phase first.now second.now replay before other (subst (λ n. is_through race machine n (Some replay) ≡ true) (sym (some-is time limit is)) through)
    (ap (option_map reported_pair) is_kept ∙ looks) shown
shows-all law (asks.Conflict time phase first second) race machine limit replay values old mid before pair answers.Nothing of is through same seen looks is_kept shown = absurd is_kept
shows-all law asks.Nothing race machine limit replay values old mid before pair answer of is through same seen looks is_kept shown = is_kept

-- a run may be left where it is through to its bound
asked-left : (machine : Machine) (run : Option Replay) (r : AskedRun) → KeepsAsked machine run r →
    is_left (race_asked (asked_of r)) machine (bound_asked (asked_of r)) run ≡ is_through (asked_race r) machine (asked_bound r) run
asked-left machine run r k = λ i. is_left (sym k.race_is i) machine (k.bound_is i) run

through-from : (through : Bool) (old mid : AskedRun) → SeesLast old mid → TellsThrough through mid.run → TellsThrough through old.run
through-from through old mid sees told = subst (TellsThrough through) sees.same.run told

pub told-none : (old mid : AskedRun) → SeesLast old mid → TellsThrough false mid.run → TellsShown None old
told-none old mid sees told = λ machine run k. (through-from false old mid sees told machine run k.keeps ∙ sym (asked-left machine run old k), tt)

pub told-some : RacesAreLookedFor → (shown : Shown) (old mid new : AskedRun) → SeesLast old mid → TellsThrough true mid.run → LooksAtLast true mid.run mid.search new.search →
    new.samples ≡ mid.samples → ShowsKept new.search new.samples.items shown → TellsShown (Some shown) old
told-some law shown old mid new sees told looks kept is_kept =
    λ machine run k. (through-from true old mid sees told machine run k.keeps ∙ sym (asked-left machine run old k), shows machine run k)
  where
    look : LooksAtLast true old.run old.search new.search
    look = subst (λ s. LooksAtLast true old.run s new.search) sees.same.search (subst (λ r. LooksAtLast true r mid.search new.search) sees.same.run looks)

    shows : (machine : Machine) (run : Option Replay) → KeepsAsked machine run old → Shows (asked_of old) machine run (Some shown)
    shows machine None k = let no : true ≡ false = through-from true old mid sees told machine None k.keeps in cc
    shows machine (Some replay) k =
        shows-all law (asked_of old) (asked_race old) machine (asked_bound old) replay (values_of old) old.samples.items mid.samples.items (found_in old.search) new.search.found shown k.of_design
        k.bound_is (sym (through-from true old mid sees told machine (Some replay) k.keeps)) (asked-values machine (Some replay) old k) sees.seen (look.found refl machine replay k.keeps)
        (subst (λ (vs : List Sample). ShowsAsked (asked_of old) vs new.search.found shown) (ap (λ v. v.items) kept)
        (subst (λ asked. ShowsAsked asked new.samples.items new.search.found shown) look.asked is_kept)) k.shown
