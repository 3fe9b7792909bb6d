-- Runs that one machine alone ended, as they are listed.
use Rattle.std.proofs.Common.{◌≡◌, ℕ, ◌+◌, ◌<◌, ◌≤◌, Bool, true, false, cond, List, [], ◌∷◌, ◌++◌, get_or, length, map, take, nat_eq, refl, sym, ap, ◌∙◌, arith}
use Rattle.std.proofs.lemmas.List.{map-append, take_all, take_more}
use Rattle.std.proofs.lemmas.List.Sums.{sum_by_push, sum_by-cons}
use Rattle.vf_base.specs.Base.{process_number}
use Rattle.vf_base.specs.declared.ids.ProcId.{ProcId}
use Rattle.run_numbers.specs.Numbers.{SameApart, good_more, is_good, is_own, own_more, times_of}
use Rattle.run_numbers.specs.declared.numbers.RunApart.{RunApart}
use Rattle.lockstep_block.specs.Runs.{NotesEnded}

one-more : (process other : ℕ) (others : List ℕ) → times_of process (others ++ other ∷ []) ≡ times_of process others + cond (nat_eq other process) 1 0
one-more process other others = sum_by_push (λ (x : ℕ). cond (nat_eq x process) 1 0) others other

pub none-noted : (old : List RunApart) → NotesEnded old old [] []
none-noted old process = let none : times_of process [] ≡ 0 = refl in omega (arith, none)

-- a run of the faulty machine more
pub own-noted : (old new next : List RunApart) (process : ProcId) (own good : List ℕ) → NotesEnded old new own good → SameApart next (record { process = process; own = true } ∷ new) →
    NotesEnded old next (own ++ process_number process ∷ []) good
own-noted old new next process own good noted same other =
    let run : RunApart = record { process = process; own = true } in
    let here = noted other in
    let more = same other in
    let first : own_more (run ∷ new) other ≡ cond (nat_eq (process_number process) other) 1 0 + own_more new other = sum_by-cons (λ (r : RunApart). cond (is_own other r) 1 0) run new in
    let second : good_more (run ∷ new) other ≡ 0 + good_more new other = sum_by-cons (λ (r : RunApart). cond (is_good other r) 1 0) run new in
    let times = one-more other (process_number process) own in
    omega (arith, here, more, first, second, times)

-- or of the good machine
pub good-noted : (old new next : List RunApart) (process : ProcId) (own good : List ℕ) → NotesEnded old new own good → SameApart next (record { process = process; own = false } ∷ new) →
    NotesEnded old next own (good ++ process_number process ∷ [])
good-noted old new next process own good noted same other =
    let run : RunApart = record { process = process; own = false } in
    let here = noted other in
    let more = same other in
    let first : own_more (run ∷ new) other ≡ 0 + own_more new other = sum_by-cons (λ (r : RunApart). cond (is_own other r) 1 0) run new in
    let second : good_more (run ∷ new) other ≡ cond (nat_eq (process_number process) other) 1 0 + good_more new other = sum_by-cons (λ (r : RunApart). cond (is_good other r) 1 0) run new in
    let times = one-more other (process_number process) good in
    omega (arith, here, more, first, second, times)

-- the runs of both machines
pub both-noted : (old middle new : List RunApart) (own good : List ℕ) → NotesEnded old middle own [] → NotesEnded middle new [] good → NotesEnded old new own good
both-noted old middle new own good first second other =
    let one = first other in
    let two = second other in
    let none : times_of other [] ≡ 0 = refl in
    omega (arith, one, two, none)

-- where they are the same nothing is listed
pub alike-noted : (old : List RunApart) (own good : List ℕ) → own ≡ good → NotesEnded old old own good
alike-noted old own good same other =
    let times : times_of other own ≡ times_of other good = ap (times_of other) same in
    omega (arith, times)

-- one element more of a list
pub more-taken : {A B : Type 0} (f : A → B) (xs : List A) (place : ℕ) (x : A) → place < length xs → x ≡ get_or xs place x → map f (take (place + 1) xs) ≡ map f (take place xs) ++ f x ∷ []
more-taken f xs place x low is = ap (map f) (take_more xs place x low ∙ ap (λ y. take place xs ++ y ∷ []) (sym is)) ∙ map-append f (take place xs) (x ∷ [])

-- or all
pub all-taken : {A B : Type 0} (f : A → B) (xs : List A) (place : ℕ) → length xs ≤ place → map f (take place xs) ≡ map f xs
all-taken f xs place past = ap (map f) (take_all place xs past)

-- told by its place
pub next-taken : {A B : Type 0} (f : A → B) (xs : List A) (place : ℕ) (d : A) → place < length xs → map f (take (place + 1) xs) ≡ map f (take place xs) ++ f (get_or xs place d) ∷ []
next-taken f xs place d low = ap (map f) (take_more xs place d low) ∙ map-append f (take place xs) (get_or xs place d ∷ [])
