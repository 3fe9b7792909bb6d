-- A walk goes on step by step.
use Rattle.std.proofs.Common.{◌≡◌, ℕ, ◌+◌, ◌<◌, ◌≤◌, List, [], ◌∷◌, ◌++◌, Option, Some, None, option_map, Result, Ok, Err, MatchResult, drop, get_or, length, refl, sym, ap, subst, ◌∙◌, append_assoc}
use Rattle.std.proofs.Common.{append-nil}
use Rattle.name_checks.specs.Rows.{drop-step, drop-past}
use Rattle.v_names.specs.Faults.{Fault, first_fault, or_fault}
use Rattle.v_names.specs.FaultViews.{fault_of}
use Rattle.v_elab.specs.Refusals.{Refusal, Faulty, as_refusal, then_go, checked}
use Rattle.v_elab.specs.Parts.{Part}
use Rattle.v_elab.specs.Walk.{added}
use Rattle.v_names.specs.declared.found.Found.{Found}
use Rattle.elab_walk.specs.WalkFaults.{IsWalkFault, refusal_in}
use Rattle.elab_walk.specs.CountViews.{AreCounts}
use Rattle.elab_walk.specs.Leaves.{parts_in, IsWithin, Grows, Leaves}
use Rattle.elab_walk.specs.declared.fault.WalkFault.{WalkFault}
use Rattle.elab_walk.specs.declared.fault.WalkFault.TheVariants as faults
use Rattle.elab_walk.specs.declared.walked.Walked.{Walked}

abbrev pub Answer : Type 0
Answer = Result (List Part) Refusal

-- some parts are put behind the old ones, and what is left of the walk gives the whole behind them
pub record GoesOn (before : List Part) (whole : Answer) (rest : List Part → Answer) (old new : Walked) : Type 0 where
  pub more : List Part
  pub pushed : parts_in new ≡ parts_in old ++ more
  pub counted : AreCounts (before ++ more) new.counts
  pub rest_is : rest (before ++ more) ≡ whole

-- a fault of a step is that of the walk
pub fault-goes : (answer : Answer) (next : List Part → Answer) (fault : WalkFault) → IsWalkFault answer fault → IsWalkFault (then_go answer next) fault
fault-goes answer next (faults.Found found) e = ap (λ (a : Answer). then_go a next) e
fault-goes answer next (faults.TooMany what) e = ap (λ (a : Answer). then_go a next) e
fault-goes answer next faults.TooManyInputs e = ap (λ (a : Answer). then_go a next) e
fault-goes answer next faults.NoMemory e = tt

pub fault-of : (answer whole : Answer) (fault : WalkFault) → answer ≡ whole → IsWalkFault answer fault → IsWalkFault whole fault
fault-of answer whole fault e wrong = subst (λ (a : Answer). IsWalkFault a fault) e wrong

-- the walk begins
pub goes-first : (before : List Part) (rest : List Part → Answer) (walked : Walked) → AreCounts before walked.counts → GoesOn before (rest before) rest walked walked
goes-first before rest walked counted = record {
  more = [];
  pushed = sym (append-nil (parts_in walked));
  counted = subst (λ (all : List Part). AreCounts all walked.counts) (sym (append-nil before)) counted;
  rest_is = ap rest (append-nil before);
}

-- one step more
pub goes-turn : (before : List Part) (whole : Answer) (rest next step : List Part → Answer) (old mid new : Walked) → ((all : List Part) → rest all ≡ then_go (step all) next)
    → ((all : List Part) → AreCounts all mid.counts → Grows all (step all) mid new) → GoesOn before whole rest old mid → GoesOn before whole next old new
goes-turn before whole rest next step old mid new steps turn going =
    let grown : Grows (before ++ going.more) (step (before ++ going.more)) mid new = turn (before ++ going.more) going.counted in
    let behind : (before ++ going.more) ++ grown.more ≡ before ++ (going.more ++ grown.more) = append_assoc before going.more grown.more in
    record {
      more = going.more ++ grown.more;
      pushed = grown.pushed ∙ ap (λ (ps : List Part). ps ++ grown.more) going.pushed ∙ append_assoc (parts_in old) going.more grown.more;
      counted = subst (λ (all : List Part). AreCounts all new.counts) behind grown.counted;
      rest_is = ap next (sym behind) ∙ ap (λ (a : Answer). then_go a next) (sym grown.wanted_are) ∙ sym (steps (before ++ going.more)) ∙ going.rest_is;
    }

-- a step that is refused
pub goes-wrong : (before : List Part) (whole : Answer) (rest next step : List Part → Answer) (old mid : Walked) (fault : WalkFault) → ((all : List Part) → rest all ≡ then_go (step all) next)
    → ((all : List Part) → AreCounts all mid.counts → IsWalkFault (step all) fault) → GoesOn before whole rest old mid → IsWalkFault whole fault
goes-wrong before whole rest next step old mid fault steps wrong going =
    fault-of (rest (before ++ going.more)) whole fault going.rest_is
    (fault-of (then_go (step (before ++ going.more)) next) (rest (before ++ going.more)) fault (sym (steps (before ++ going.more)))
    (fault-goes (step (before ++ going.more)) next fault (wrong (before ++ going.more) going.counted)))

-- nothing is left
pub goes-end : (before : List Part) (whole : Answer) (rest : List Part → Answer) (old new : Walked) → ((all : List Part) → rest all ≡ Ok all) → GoesOn before whole rest old new →
    Grows before whole old new
goes-end before whole rest old new ends going = record {
  more = going.more;
  wanted_are = sym going.rest_is ∙ ends (before ++ going.more);
  pushed = going.pushed;
  counted = going.counted;
}

-- the last step
pub goes-last : (before : List Part) (whole : Answer) (rest : List Part → Answer) (old mid new : Walked)
    → ((all : List Part) → AreCounts all mid.counts → Grows all (rest all) mid new) → GoesOn before whole rest old mid → Grows before whole old new
goes-last before whole rest old mid new turn going =
    let grown : Grows (before ++ going.more) (rest (before ++ going.more)) mid new = turn (before ++ going.more) going.counted in
    record {
      more = going.more ++ grown.more;
      wanted_are = sym going.rest_is ∙ grown.wanted_are ∙ ap (λ (ps : List Part). Ok ps) (append_assoc before going.more grown.more);
      pushed = grown.pushed ∙ ap (λ (ps : List Part). ps ++ grown.more) going.pushed ∙ append_assoc (parts_in old) going.more grown.more;
      counted = subst (λ (all : List Part). AreCounts all new.counts) (append_assoc before going.more grown.more) grown.counted;
    }

-- the last step is refused
pub goes-wrong-last : (before : List Part) (whole : Answer) (rest : List Part → Answer) (old mid : Walked) (fault : WalkFault)
    → ((all : List Part) → AreCounts all mid.counts → IsWalkFault (rest all) fault) → GoesOn before whole rest old mid → IsWalkFault whole fault
goes-wrong-last before whole rest old mid fault wrong going = fault-of (rest (before ++ going.more)) whole fault going.rest_is (wrong (before ++ going.more) going.counted)

-- the first of a list, and what is left
pub turn-of : {A : Type 0} (step : A → List Part → Answer) (rest next : List A → List Part → Answer) (xs : List A) (i : ℕ) (x : A) →
    ((ys : List A) (all : List Part) → rest (x ∷ ys) all ≡ then_go (step x all) (next ys))
    → i < length xs → x ≡ get_or xs i x → (all : List Part) → rest (drop i xs) all ≡ then_go (step x all) (next (drop (i + 1) xs))
turn-of {A} step rest next xs i x steps below at all = ap (λ (ys : List A). rest ys all) (drop-step xs i x below at) ∙ steps (drop (i + 1) xs) all

pub end-of : {A : Type 0} (rest : List A → List Part → Answer) (xs : List A) (i : ℕ) → ((all : List Part) → rest [] all ≡ Ok all) → length xs ≤ i → (all : List Part) → rest (drop i xs) all ≡ Ok all
end-of {A} rest xs i ends past all = ap (λ (ys : List A). rest ys all) (drop-past xs i past) ∙ ends all

-- nothing is wrong
pub checked-clean : {A : Type 0} (wrong : List Fault) (answer : A) → first_fault wrong ≡ None → checked wrong answer ≡ Ok answer
checked-clean {A} wrong answer e = ap (λ (o : Option Fault). as_refusal (or_fault answer o)) e

-- something is wrong
pub checked-wrong : {A : Type 0} (wrong : List Fault) (answer : A) (fault : Fault) → first_fault wrong ≡ Some fault → checked wrong answer ≡ Err (Faulty fault)
checked-wrong {A} wrong answer fault e = ap (λ (o : Option Fault). as_refusal (or_fault answer o)) e

-- what follows where nothing is wrong, and where something is
pub then-clean : {A : Type 0} (wrong : List Fault) (answer : A) (next : A → Answer) → first_fault wrong ≡ None → then_go (checked wrong answer) next ≡ next answer
then-clean {A} wrong answer next e = ap (λ (a : Result A Refusal). then_go a next) (checked-clean wrong answer e)

pub then-wrong : {A : Type 0} (wrong : List Fault) (answer : A) (next : A → Answer) (fault : Fault) → first_fault wrong ≡ Some fault → then_go (checked wrong answer) next ≡ Err (Faulty fault)
then-wrong {A} wrong answer next fault e = ap (λ (a : Result A Refusal). then_go a next) (checked-wrong wrong answer fault e)

-- parts that were put behind the others, and counted
pub grows-counted : (before more : List Part) (old mid new : Walked) → parts_in mid ≡ parts_in old ++ more → IsWithin before more mid new → Grows before (added before more) old new
grows-counted before more old mid new pushed within = record {
  more = more;
  wanted_are = within.few;
  pushed = within.kept ∙ pushed;
  counted = within.counted;
}

-- what is found is the first fault
pub clean-of : {S : Type 0} (found : Option Found) (faults_in : S → List Fault) (seen scope : S) → seen ≡ scope → option_map fault_of found ≡ first_fault (faults_in seen) → found ≡ None →
    first_fault (faults_in scope) ≡ None
clean-of {S} found faults_in seen scope same is none = ap (λ (s : S). first_fault (faults_in s)) (sym same) ∙ sym is ∙ ap (option_map fault_of) none

pub wrong-of : {A S : Type 0} (found : Option Found) (faults_in : S → List Fault) (seen scope : S) (answer : A) (next : A → Answer) (fault : WalkFault) → seen ≡ scope →
    option_map fault_of found ≡ first_fault (faults_in seen)
    → refusal_in found ≡ Some fault → IsWalkFault (then_go (checked (faults_in scope) answer) next) fault
wrong-of {A} {S} None faults_in seen scope answer next fault same is some = absurd cc
wrong-of {A} {S} (Some f) faults_in seen scope answer next fault same is some =
    let fault-is : fault ≡ faults.Found f = cc in
    rw fault-is (then-wrong (faults_in scope) answer next (fault_of f) (ap (λ (s : S). first_fault (faults_in s)) (sym same) ∙ sym is))

-- the last step of a walk, whatever it answers
pub leaves-last : {A : Type 0} (before : List Part) (whole : Answer) (rest : List Part → Answer) (old mid new : Walked) (result : Result A WalkFault)
    → ((all : List Part) → AreCounts all mid.counts → Leaves all (rest all) result mid new) → GoesOn before whole rest old mid → Leaves before whole result old new
leaves-last {A} before whole rest old mid new (Ok done) turn going = goes-last before whole rest old mid new turn going
leaves-last {A} before whole rest old mid new (Err fault) turn going = goes-wrong-last before whole rest old mid fault turn going

-- the same answer in other words
pub leaves-same : {A : Type 0} (before : List Part) (answer whole : Answer) (old new : Walked) (result : Result A WalkFault) → answer ≡ whole → Leaves before answer result old new →
    Leaves before whole result old new
leaves-same {A} before answer whole old new result e leaves = subst (λ (a : Answer). Leaves before a result old new) e leaves

-- nothing is done
pub leaves-none : (before : List Part) (whole : Answer) (walked : Walked) → whole ≡ Ok before → AreCounts before walked.counts → Grows before whole walked walked
leaves-none before whole walked is counted = record {
  more = [];
  wanted_are = is ∙ ap (λ (ps : List Part). Ok ps) (sym (append-nil before));
  pushed = sym (append-nil (parts_in walked));
  counted = subst (λ (all : List Part). AreCounts all walked.counts) (sym (append-nil before)) counted;
}

-- two steps and one more
pub then-both : (answer : Answer) (first second both : List Part → Answer) → ((all : List Part) → both all ≡ then_go (first all) second) → then_go answer both ≡ then_go (then_go answer first) second
then-both (Ok all) first second both e = e all
then-both (Err refusal) first second both e = refl

-- a fault that is handed out as it came
pub err-is : {A : Type 0} (wanted : Answer) (P : A → Type 0) (result : Result A WalkFault) (one fault : WalkFault) → result ≡ Err one → one ≡ fault → IsWalkFault wanted fault →
    MatchResult result P (IsWalkFault wanted)
err-is {A} wanted P result one fault e same wrong = subst (λ (r : Result A WalkFault). MatchResult r P (IsWalkFault wanted)) (sym e) (subst (IsWalkFault wanted) (sym same) wrong)

-- want of memory
pub leaves-memory : {A : Type 0} (before : List Part) (wanted : Answer) (old new : Walked) (result : Result A WalkFault) (one : WalkFault) → result ≡ Err one → one ≡ faults.NoMemory →
    Leaves before wanted result old new
leaves-memory {A} before wanted old new result one e same =
    subst (λ (r : Result A WalkFault). Leaves before wanted r old new) (sym e) (subst (IsWalkFault wanted) (sym same) tt)
