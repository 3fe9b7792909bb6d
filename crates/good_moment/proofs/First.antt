-- Processes that begin, one after another (processes by IEEE 1364-2001, clause 9).
use Rattle.std.proofs.Common.{◌≡◌, ℕ, zero, suc, ◌+◌, ◌<◌, ◌≤◌, List, [], ◌∷◌, ◌++◌, length, get_or, Vec, Global, refl, sym, ap, subst, ◌∙◌, inl, inr, arith, length-append}
use Rattle.std.specs.Prelude.{Some, slice_get}
use Rattle.std.proofs.lemmas.Bool.{cases_lt}
use Rattle.std.proofs.lemmas.Option.{slice_get_within, slice_get-get_or}
use Rattle.v_design.specs.Designs.{FlatDesign}
use Rattle.v_design.specs.Plain.{process_of}
use Rattle.v_design.specs.declared.plan.Due.{Due}
use Rattle.process_code.specs.OneCode.{ReadsAlike, CodesReadAlike}
use Rattle.process_code.specs.StatesOf.{IsStateOf}
use Rattle.process_code.specs.declared.code.Code.{Code}
use Rattle.process_code.specs.declared.state.ProcState.{ProcState}
use Rattle.run_ends.specs.RunEnds.{IsCodeAt, AreCodesOf}
use Rattle.moment_parts.specs.declared.lane.Lane.{Lane}
use Rattle.good_moment.specs.Kept.{AreBegun}

pub begun-none : (codes : List Code) → AreBegun codes 0 [] [] [] []
begun-none codes = record { states_count = refl; later_count = refl; lanes_count = refl; ran_count = refl; each = λ process own code here at. cc }

one-more : {A : Type 0} (xs ys : List A) (x : A) (count : ℕ) → ys ≡ xs ++ x ∷ [] → length xs ≡ count → length ys ≡ count + 1
one-more xs ys x count is long =
    let all : length ys ≡ length xs + length (x ∷ []) = ap length is ∙ length-append xs (x ∷ []) in
    let one : length (x ∷ []) ≡ 1 = refl in
    omega (arith, all, one, long)

in-front : (xs ys : List ProcState) (n : ℕ) → n < length xs → slice_get (xs ++ ys) n ≡ slice_get xs n
in-front [] ys n low = absurd (omega (arith, low))
in-front (x ∷ xs) ys zero low = refl
in-front (x ∷ xs) ys (suc n) low = in-front xs ys n (omega (arith, low))

behind-front : (xs : List ProcState) (x own : ProcState) (n : ℕ) → length xs ≤ n → slice_get (xs ++ x ∷ []) n ≡ Some own → (n ≡ length xs) × (own ≡ x)
behind-front [] x own zero high here = let same : x ≡ own = cc in (refl, sym same)
behind-front [] x own (suc n) high here = cc
behind-front (y ∷ xs) x own zero high here = absurd (omega (arith, high))
behind-front (y ∷ xs) x own (suc n) high here = let rest = behind-front xs x own n (omega (arith, high)) here in (ap suc rest.0, rest.1)

same-code : (a b : Code) → Some a ≡ Some b → a ≡ b
same-code a b e = cc

pub begun-more : (codes : List Code) (count : ℕ) (code : Code) (states states_now : List ProcState) (later later_now : List (Vec Due Global)) (lanes lanes_now : List Lane) (ran ran_now : List ℕ)
    (state : ProcState) (one : Vec Due Global) (lane : Lane) (number : ℕ) → count < length codes → code ≡ get_or codes count code → IsStateOf code state → states_now ≡ states ++ state ∷ [] →
    later_now ≡ later ++ one ∷ [] → lanes_now ≡ lanes ++ lane ∷ [] → ran_now ≡ ran ++ number ∷ [] → AreBegun codes count states later lanes ran →
    AreBegun codes (count + 1) states_now later_now lanes_now ran_now
begun-more codes count code states states_now later later_now lanes lanes_now ran ran_now state one lane number low is own states_is later_is lanes_is ran_is had = record {
  states_count = one-more states states_now state count states_is had.states_count;
  later_count = one-more later later_now one count later_is had.later_count;
  lanes_count = one-more lanes lanes_now lane count lanes_is had.lanes_count;
  ran_count = one-more ran ran_now number count ran_is had.ran_count;
  each = λ process s k here at.
      let there : slice_get (states ++ state ∷ []) process ≡ Some s = ap (λ l. slice_get l process) (sym states_is) ∙ here in
      elim (cases_lt process (length states)) [
        | inl less ↦ had.each process s k (sym (in-front states (state ∷ []) process less) ∙ there) at
        | inr high ↦
            let last = behind-front states state s process high there in
            let place : process ≡ count = last.0 ∙ had.states_count in
            let code_is : slice_get codes count ≡ Some code = slice_get-get_or codes count code low ∙ ap Some (sym is) in
            let same : code ≡ k = same-code code k (sym code_is ∙ ap (λ n. slice_get codes n) (sym place) ∙ at) in
            subst (λ x. IsStateOf k x) (sym last.1) (subst (λ x. IsStateOf x state) same own)
      ];
}

pub reads-alike : CodesReadAlike → (design : FlatDesign) (process : ℕ) (one other : Code) → IsCodeAt design process one → IsCodeAt design process other → ReadsAlike one other
reads-alike alike design process one other first second =
    let same : Some (process_of one.process.now) ≡ Some (process_of other.process.now) = sym first.process_is ∙ second.process_is in
    let is : process_of one.process.now ≡ process_of other.process.now = cc in
    alike one other (record { same = is; first = first.code_of; second = second.code_of })

-- so each is a state of any code of its process
pub begun-states : CodesReadAlike → (design : FlatDesign) (codes : List Code) (states : List ProcState) (later : List (Vec Due Global)) (lanes : List Lane) (ran : List ℕ) → AreCodesOf design codes →
    AreBegun codes (length codes) states later lanes ran → (process : ℕ) (own : ProcState) (code : Code) → slice_get states process ≡ Some own → IsCodeAt design process code → IsStateOf code own
begun-states alike design codes states later lanes ran are begun process own code here at =
    let low : process < length codes = (let l = slice_get_within states process own here in let e : length states ≡ length codes = begun.states_count in omega (arith, l, e)) in
    let kept : slice_get codes process ≡ Some (get_or codes process code) = slice_get-get_or codes process code low in
    (reads-alike alike design process (get_or codes process code) code (are.each process (get_or codes process code) kept) at).states own (begun.each process own (get_or codes process code) here kept)
