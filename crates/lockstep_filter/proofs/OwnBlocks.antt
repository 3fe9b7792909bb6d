-- What notes of own blocks tell of a phase's pairs of blocks.
use Rattle.std.proofs.Common.{◌≡◌, ℕ, ◌+◌, ◌<◌, ◌≤◌, List, [], ◌∷◌, ◌++◌, map, length, Bool, refl, sym, ap, subst, ◌∙◌, inl, inr, arith, count_by, length-append, append_assoc, cond, false}
use Rattle.std.specs.Prelude.{◌⊎◌}
use Rattle.std.proofs.lemmas.List.Sums.{sum_by-cons}
use Rattle.vf_base.specs.Lists.{AllHold}
use Rattle.v_design.specs.Designs.{FlatDesign, StuckAt, good_machine, faulty_machine}
use Rattle.v_design.specs.States.{State}
use Rattle.v_design.specs.Runs.{happened}
use Rattle.v_design.specs.Accesses.{AccessAct, ObjectAccess}
use Rattle.v_design.specs.PhaseLogs.{log_of}
use Rattle.copy_laws.specs.Filter.{IsIn}
use Rattle.order_laws.proofs.ToFront.{happened-append}
use Rattle.block_filter.specs.Blocks.{BlockPair, Alike, Unlike, good_events, good_phase, faulty_phase, all_accesses}
use Rattle.block_told.specs.Tells.{Seen, access_seen}
use Rattle.free_objects.specs.MetObjects.{UnlikesLeave}
use Rattle.lockstep_race.specs.Alike.{AreAlike}
use Rattle.settled_objects.specs.Settled.{UnlikesPassNone}
use Rattle.phase_reach.specs.window_tests.Stretches.{StretchesPassNone, OwnBlocksPassNone, own_spans}
use Rattle.sole_touches.specs.Counts.{count_passing, count_in_pairs, NoneAreCounted}
use Rattle.race_notes.specs.declared.note.OwnSpan.{OwnSpan}
use Rattle.race_notes.specs.Notes.{OwnBlock, NoneSeen, NoneSees, count_seen, is_of, span_of}
use Rattle.phase_reach.specs.lockstep_notes.Notes.{own_blocks}

-- What none of the told accesses does

all-seen : (test : ℕ → AccessAct → Bool) (accesses : List ObjectAccess) → NoneSeen test (map access_seen accesses) → AllHold (λ (access : ObjectAccess). test access.object access.act ≡ false) accesses
all-seen test [] none = tt
all-seen test (access ∷ accesses) none = (none.0, all-seen test accesses none.1)

pub own-none : (test : ℕ → AccessAct → Bool) (design : FlatDesign) (fault : StuckAt) (moment : ℕ) (faulty : State) (pairs : List BlockPair) → NoneSees test (own_blocks design fault moment faulty pairs) →
    OwnBlocksPassNone test (faulty_machine design fault) faulty pairs
own-none test design fault moment faulty [] none = tt
own-none test design fault moment faulty (Alike events ∷ pairs) none =
    own-none test design fault (moment + length events) (happened (faulty_machine design fault) faulty events) pairs none
own-none test design fault moment faulty (Unlike first ones others ∷ pairs) none = (
  all-seen test (all_accesses (log_of (faulty_machine design fault) faulty (first ∷ others))) none.0,
  own-none test design fault (moment + length (first ∷ ones)) (happened (faulty_machine design fault) faulty (first ∷ others)) pairs none.1,
)

-- own blocks that don't access an object
pub own-leave : (design : FlatDesign) (fault : StuckAt) (moment : ℕ) (faulty : State) (pairs : List BlockPair) (object : ℕ) → NoneSees (is_of object) (own_blocks design fault moment faulty pairs) →
    UnlikesLeave (faulty_machine design fault) faulty pairs object
own-leave design fault moment faulty [] object none = tt
own-leave design fault moment faulty (Alike events ∷ pairs) object none =
    own-leave design fault (moment + length events) (happened (faulty_machine design fault) faulty events) pairs object none
own-leave design fault moment faulty (Unlike first ones others ∷ pairs) object none = (
  all-seen (is_of object) (all_accesses (log_of (faulty_machine design fault) faulty (first ∷ others))) none.0,
  own-leave design fault (moment + length (first ∷ ones)) (happened (faulty_machine design fault) faulty (first ∷ others)) pairs object none.1,
)

-- own blocks none of whose accesses passes a test
pub own-pass-none : (test : ℕ → AccessAct → Bool) (design : FlatDesign) (fault : StuckAt) (moment : ℕ) (faulty : State) (pairs : List BlockPair) →
    NoneSees test (own_blocks design fault moment faulty pairs) → UnlikesPassNone test (faulty_machine design fault) faulty pairs
own-pass-none test design fault moment faulty [] none = tt
own-pass-none test design fault moment faulty (Alike events ∷ pairs) none =
    own-pass-none test design fault (moment + length events) (happened (faulty_machine design fault) faulty events) pairs none
own-pass-none test design fault moment faulty (Unlike first ones others ∷ pairs) none = (
  all-seen test (all_accesses (log_of (faulty_machine design fault) faulty (first ∷ others))) none.0,
  own-pass-none test design fault (moment + length (first ∷ ones)) (happened (faulty_machine design fault) faulty (first ∷ others)) pairs none.1,
)

-- Counts

seen-count : (test : ℕ → AccessAct → Bool) (accesses : List ObjectAccess) →
    count_by (λ (access : ObjectAccess). test access.object access.act) accesses ≡ count_by (λ (one : Seen). test one.object one.act) (map access_seen accesses)
seen-count test [] = refl
seen-count test (access ∷ accesses) =
    sum_by-cons (λ (a : ObjectAccess). cond (test a.object a.act) 1 0) access accesses ∙ ap (λ n. cond (test access.object access.act) 1 0 + n) (seen-count test accesses)
    ∙ sym (sum_by-cons (λ (s : Seen). cond (test s.object s.act) 1 0) (access_seen access) (map access_seen accesses))

-- what the stretches don't do is done as often as in own blocks
pub own-count : NoneAreCounted → (test : ℕ → AccessAct → Bool) (design : FlatDesign) (fault : StuckAt) (moment : ℕ) (good faulty : State) (pairs : List BlockPair) →
    StretchesPassNone test (good_machine design) good pairs → count_in_pairs test design fault good faulty pairs ≡ count_seen test (own_blocks design fault moment faulty pairs)
own-count law test design fault moment good faulty [] none = refl
own-count law test design fault moment good faulty (Alike events ∷ pairs) none =
    let here : count_passing test (good_machine design) good events ≡ 0 = law.none test (good_machine design) good events none.0 in
    let rest = own-count law test design fault (moment + length events) (happened (good_machine design) good events) (happened (faulty_machine design fault) faulty events) pairs none.1 in
    omega (arith, here, rest)
own-count law test design fault moment good faulty (Unlike first ones others ∷ pairs) none =
    let here = seen-count test (all_accesses (log_of (faulty_machine design fault) faulty (first ∷ others))) in
    let rest = own-count law test design fault (moment + length (first ∷ ones)) (happened (good_machine design) good (first ∷ ones)) (happened (faulty_machine design fault) faulty (first ∷ others)) pairs none in
    (λ i. here i + rest i)

-- Moments

-- a moment that lies in no own block's span lies in none that is noted
pub outside-covered : (design : FlatDesign) (fault : StuckAt) (first : ℕ) (faulty : State) (pairs : List BlockPair) (moment : ℕ) (span : OwnSpan) →
    AllHold (λ (s : ℕ × ℕ). (moment < s.0) ⊎ (s.1 ≤ moment)) (own_spans first pairs) → IsIn span (map span_of (own_blocks design fault first faulty pairs)) → span.begins ≤ moment →
    moment < span.ends → ⊥
outside-covered design fault first faulty [] moment span outside there since before = absurd there
outside-covered design fault first faulty (Alike events ∷ pairs) moment span outside there since before =
    outside-covered design fault (first + length events) (happened (faulty_machine design fault) faulty events) pairs moment span outside there since before
outside-covered design fault first faulty (Unlike one ones others ∷ pairs) moment span outside (inl same) since before =
    elim outside.0 [
      | inl sooner ↦ let b : span.begins ≡ first = ap (λ (s : OwnSpan). s.begins) same in absurd (omega (arith, sooner, b, since))
      | inr later ↦ let e : span.ends ≡ first + length (one ∷ ones) = ap (λ (s : OwnSpan). s.ends) same in absurd (omega (arith, later, e, before))
    ]
outside-covered design fault first faulty (Unlike one ones others ∷ pairs) moment span outside (inr there) since before =
    outside-covered design fault (first + length (one ∷ ones)) (happened (faulty_machine design fault) faulty (one ∷ others)) pairs moment span outside.1 there since before

-- Pairs cut at an own block

pub record CutAt (design : FlatDesign) (fault : StuckAt) (moment : ℕ) (faulty : State) (pairs : List BlockPair) (before : List OwnBlock) (block : OwnBlock) : Type 0 where
  pub front : List BlockPair
  pub rest : List BlockPair
  pub pairs_are : pairs ≡ front ++ rest
  pub before_are : own_blocks design fault moment faulty front ≡ before
  pub begins : block.begins ≡ moment + length (good_phase front)

abbrev head-of : (block : OwnBlock) (blocks : List OwnBlock) → OwnBlock
head-of block [] = block
head-of block (b ∷ blocks) = b

abbrev tail-of : List OwnBlock → List OwnBlock
tail-of [] = []
tail-of (b ∷ blocks) = blocks

pub cut-pairs : (design : FlatDesign) (fault : StuckAt) (moment : ℕ) (faulty : State) (pairs : List BlockPair) (before : List OwnBlock) (block : OwnBlock) (behind : List OwnBlock) →
    own_blocks design fault moment faulty pairs ≡ before ++ block ∷ behind → CutAt design fault moment faulty pairs before block
cut-pairs design fault moment faulty [] [] block behind e = cc
cut-pairs design fault moment faulty [] (b ∷ before) block behind e = cc
cut-pairs design fault moment faulty (Alike events ∷ pairs) before block behind e =
    let r = cut-pairs design fault (moment + length events) (happened (faulty_machine design fault) faulty events) pairs before block behind e in
    let long = length-append events (good_phase r.front) in
    let begins = r.begins in
    record {
      front = Alike events ∷ r.front;
      rest = r.rest;
      pairs_are = ap (λ ps. Alike events ∷ ps) r.pairs_are;
      before_are = r.before_are;
      begins = omega (arith, long, begins);
    }
cut-pairs design fault moment faulty (Unlike first ones others ∷ pairs) [] block behind e = record {
  front = [];
  rest = Unlike first ones others ∷ pairs;
  pairs_are = refl;
  before_are = refl;
  begins = let same : block.begins ≡ moment = ap (λ (b : OwnBlock). b.begins) (sym (ap (head-of block) e)) in omega (arith, same);
}
cut-pairs design fault moment faulty (Unlike first ones others ∷ pairs) (b ∷ before) block behind e =
    let r = cut-pairs design fault (moment + length (first ∷ ones)) (happened (faulty_machine design fault) faulty (first ∷ others)) pairs before block behind (ap tail-of e) in
    let long = length-append (first ∷ ones) (good_phase r.front) in
    let begins = r.begins in
    record {
      front = Unlike first ones others ∷ r.front;
      rest = r.rest;
      pairs_are = ap (λ ps. Unlike first ones others ∷ ps) r.pairs_are;
      before_are = (λ i. ap (head-of b) e i ∷ r.before_are i);
      begins = omega (arith, long, begins);
    }

-- the stretches of the later part do alike
pub alike-behind : (design : FlatDesign) (fault : StuckAt) (good faulty : State) (front rest : List BlockPair) → AreAlike design fault good faulty (front ++ rest) →
    AreAlike design fault (happened (good_machine design) good (good_phase front)) (happened (faulty_machine design fault) faulty (faulty_phase front)) rest
alike-behind design fault good faulty [] rest alike = alike
alike-behind design fault good faulty (Alike events ∷ front) rest alike =
    subst (λ g. AreAlike design fault g (happened (faulty_machine design fault) faulty (events ++ faulty_phase front)) rest)
    (sym (happened-append (good_machine design) good events (good_phase front)))
    (subst (λ f. AreAlike design fault (happened (good_machine design) (happened (good_machine design) good events) (good_phase front)) f rest)
    (sym (happened-append (faulty_machine design fault) faulty events (faulty_phase front)))
    (alike-behind design fault (happened (good_machine design) good events) (happened (faulty_machine design fault) faulty events) front rest alike.1))
alike-behind design fault good faulty (Unlike first ones others ∷ front) rest alike =
    subst (λ g. AreAlike design fault g (happened (faulty_machine design fault) faulty ((first ∷ others) ++ faulty_phase front)) rest)
    (sym (happened-append (good_machine design) good (first ∷ ones) (good_phase front)))
    (subst (λ f. AreAlike design fault (happened (good_machine design) (happened (good_machine design) good (first ∷ ones)) (good_phase front)) f rest)
    (sym (happened-append (faulty_machine design fault) faulty (first ∷ others) (faulty_phase front)))
    (alike-behind design fault (happened (good_machine design) good (first ∷ ones)) (happened (faulty_machine design fault) faulty (first ∷ others)) front rest alike))

-- the good machine's events of both parts
pub phases-joined : (front rest : List BlockPair) → good_phase (front ++ rest) ≡ good_phase front ++ good_phase rest
phases-joined [] rest = refl
phases-joined (pair ∷ front) rest = ap (λ l. good_events pair ++ l) (phases-joined front rest) ∙ sym (append_assoc (good_events pair) (good_phase front) (good_phase rest))
