-- The ends of the runs of some phases are one list.
use Rattle.std.proofs.Common.{◌≡◌, ℕ, zero, suc, ◌+◌, ◌≤◌, List, [], ◌∷◌, map, length, Bool, true, false, ◌&&◌, refl, sym, ap, subst, ◌∙◌, inl, inr, arith}
use Rattle.std.specs.Prelude.{Option, Some, None, cond, nat_eq, slice_get}
use Rattle.std.specs.List.{All}
use Rattle.std.specs.Option.{option_map}
use Rattle.std.proofs.lemmas.Bool.{eq-eqb}
use Rattle.std.proofs.lemmas.Option.{slice_get_cases}
use Rattle.vf_base.specs.Base.{process_number}
use Rattle.v_design.specs.Designs.{Machine}
use Rattle.v_design.specs.Grades.{Phase}
use Rattle.process_code.specs.RunEnds.{told_by}
use Rattle.process_code.specs.declared.code.Code.{Code}
use Rattle.process_code.specs.declared.state.RunEnd.{RunEnd}
use Rattle.run_ends.specs.RunEnds.{is_end_of, ends_of, Ender, ender_told, IsEndWithin, AreRunEnds, told_by_codes, RunEndsAreFixed}

-- ends of runs of one phase and process pass one test, and an end passes its own
same-test : (number process : ℕ) (x y : RunEnd) → ender_told x ≡ ender_told y → is_end_of number process x ≡ is_end_of number process y
same-test number process x y e = ap (λ (k : Ender). nat_eq k.phase number && nat_eq k.process process) e

own-test : (x : RunEnd) → is_end_of x.phase (process_number x.process) x ≡ true
own-test x = λ i. eq-eqb x.phase x.phase refl i && eq-eqb (process_number x.process) (process_number x.process) refl i

-- where two lists tell the same, their first ends do, if both pass the test, and so do the others
heads : (code : Code) (b c : Bool) (x y : RunEnd) (xs ys : List RunEnd) → b ≡ true → b ≡ c → map (told_by code) (cond b (x ∷ xs) xs) ≡ map (told_by code) (cond c (y ∷ ys) ys) →
    told_by code x ≡ told_by code y
heads code true true x y xs ys here same e = cc
heads code true false x y xs ys here same e = cc
heads code false c x y xs ys here same e = cc

tails : (code : Code) (b c : Bool) (x y : RunEnd) (xs ys : List RunEnd) → b ≡ c → map (told_by code) (cond b (x ∷ xs) xs) ≡ map (told_by code) (cond c (y ∷ ys) ys) →
    map (told_by code) xs ≡ map (told_by code) ys
tails code true true x y xs ys same e = cc
tails code true false x y xs ys same e = cc
tails code false true x y xs ys same e = cc
tails code false false x y xs ys same e = e

-- what each code tells alike, all tell
first-told : (codes : List Code) (x y : RunEnd) → ender_told x ≡ ender_told y → ((code : Code) → slice_get codes (process_number x.process) ≡ Some code → told_by code x ≡ told_by code y) →
    told_by_codes codes x ≡ told_by_codes codes y
first-told codes x y key told = go (slice_get codes (process_number x.process)) refl
  where
    other : slice_get codes (process_number x.process) ≡ slice_get codes (process_number y.process)
    other = ap (λ (k : Ender). slice_get codes k.process) key

    go : (found : Option Code) → slice_get codes (process_number x.process) ≡ found → told_by_codes codes x ≡ told_by_codes codes y
    go None is = ap (option_map (λ (code : Code). told_by code x)) is ∙ sym (ap (option_map (λ (code : Code). told_by code y)) (sym other ∙ is))
    go (Some code) is =
        ap (option_map (λ (code : Code). told_by code x)) is ∙ ap Some (told code is) ∙ sym (ap (option_map (λ (code : Code). told_by code y)) (sym other ∙ is))

same-told : (codes : List Code) (count : ℕ) (one other : List RunEnd) → All (IsEndWithin codes count) one → map ender_told one ≡ map ender_told other →
    ((number process : ℕ) (code : Code) → 1 ≤ number → number ≤ count → slice_get codes process ≡ Some code →
    map (told_by code) (ends_of number process one) ≡ map (told_by code) (ends_of number process other)) →
    map (told_by_codes codes) one ≡ map (told_by_codes codes) other
same-told codes count [] [] within keys told = refl
same-told codes count [] (y ∷ other) within keys told = cc
same-told codes count (x ∷ one) [] within keys told = cc
same-told codes count (x ∷ one) (y ∷ other) within keys told =
    let key : ender_told x ≡ ender_told y = cc in
    let rest : map ender_told one ≡ map ender_told other = cc in
    let here : IsEndWithin codes count x = within 0 x (omega arith) in
    let first : told_by_codes codes x ≡ told_by_codes codes y =
    first-told codes x y key
    (λ code is.
    heads code (is_end_of x.phase (process_number x.process) x) (is_end_of x.phase (process_number x.process) y) x y
    (ends_of x.phase (process_number x.process) one) (ends_of x.phase (process_number x.process) other) (own-test x) (same-test x.phase (process_number x.process) x y key)
    (told x.phase (process_number x.process) code here.first here.last is))
    in
    let later : map (told_by_codes codes) one ≡ map (told_by_codes codes) other =
    same-told codes count one other (λ k d low. within (suc k) d (omega (arith, low))) rest
    (λ number process code low high is.
    tails code (is_end_of number process x) (is_end_of number process y) x y (ends_of number process one) (ends_of number process other) (same-test number process x y key)
    (told number process code low high is))
    in
    λ i. first i ∷ later i

-- two lists of a phase's ends tell the same
phase-told : (codes : List Code) (machine : Machine) (phases : List Phase) (one other : List RunEnd) → AreRunEnds codes machine phases one → AreRunEnds codes machine phases other →
    (number process : ℕ) (code : Code) →
    1 ≤ number → number ≤ length phases → slice_get codes process ≡ Some code → map (told_by code) (ends_of number process one) ≡ map (told_by code) (ends_of number process other)
phase-told codes machine phases one other a b zero process code low high is = absurd (omega (arith, low))
phase-told codes machine phases one other a b (suc number) process code low high is =
    elim (slice_get_cases phases number).1 [
      | inl found ↦
          subst (λ k. map (told_by code) (ends_of k process one) ≡ map (told_by code) (ends_of k process other)) (next number)
          (a.told number process found.0 code found.2 is ∙ sym (b.told number process found.0 code found.2 is))
      | inr past ↦ absurd (omega (arith, past.0, high))
    ]
  where
    next : (n : ℕ) → n + 1 ≡ suc n
    next n = omega arith

pub run_ends_are_fixed : RunEndsAreFixed
run_ends_are_fixed codes machine phases one other a b =
    let keys = a.order ∙ sym b.order in
    (keys, same-told codes (length phases) one other a.within keys (phase-told codes machine phases one other a b))
