-- The ends of the runs in the first of some phases.
use Rattle.std.proofs.Common.{◌≡◌, ℕ, zero, suc, ◌+◌, ◌<◌, ◌≤◌, Bool, true, false, ◌&&◌, cond, List, [], ◌∷◌, ◌++◌, map, length, get_or, refl, sym, ap, ◌∙◌, arith}
use Rattle.std.proofs.Common.{append-nil, append_assoc, length-append}
use Rattle.std.specs.Prelude.{Some, filter, nat_eq, nat_le, slice_get}
use Rattle.std.proofs.lemmas.Bool.{eqb-true, leb-true, leb-false, le-leb, lt-leb}
use Rattle.std.proofs.lemmas.List.{map-append}
use Rattle.std.proofs.lemmas.List.Elements.{All-filter, filter-append, filter_passes}
use Rattle.std.proofs.lemmas.Option.{slice_get_within}
use Rattle.vf_base.specs.Base.{process_number}
use Rattle.vf_base.specs.Lists.{joined, map_numbered, AllHold}
use Rattle.v_design.specs.Designs.{Machine}
use Rattle.v_design.specs.Plain.{due_of}
use Rattle.v_design.specs.Grades.{Phase}
use Rattle.v_design.specs.OwnSteps.{ProcessRun, process_runs}
use Rattle.process_code.specs.RunEnds.{RunTold, told_by}
use Rattle.process_code.specs.declared.code.Code.{Code}
use Rattle.process_code.specs.declared.state.RunEnd.{RunEnd}
use Rattle.copy_laws.specs.SharedRuns.{appended_by}
use Rattle.run_ends.specs.RunEnds.{told_of, is_end_of, Ender, ender_told, enders_in, phase_enders, slot_enders, IsEndWithin}
use Rattle.between_slots.specs.Updates.{appended_in}
use Rattle.between_slots.specs.UpdateLaws.{filter-again}
use Rattle.window_runs.specs.RunsByProcess.{run_phase, runs_of_process}
use Rattle.window_runs.specs.Through.{runs_through, appended_of}
use Rattle.window_runs.specs.RunLaws.{EndsPart, EndsAppend, EndsBetween}
use Rattle.window_runs.proofs.Parting.{parted-told, all-append, all-weaken}
use Rattle.window_runs.proofs.Joining.{ends-parted, numbered, numbered-append, joined-append}
use Rattle.window_runs.proofs.Standing.{told_in}

-- Tests of elements

filter-mapped : {A B : Type 0} (f : A → B) (test : B → Bool) (xs : List A) → map f (filter (λ x. test (f x)) xs) ≡ filter test (map f xs)
filter-mapped f test [] = refl
filter-mapped {A} {B} f test (x ∷ xs) = go (test (f x)) (filter-mapped f test xs)
  where
    go : (b : Bool) → map f (filter (λ y. test (f y)) xs) ≡ filter test (map f xs) →
        map f (cond b (x ∷ filter (λ y. test (f y)) xs) (filter (λ y. test (f y)) xs)) ≡ cond b (f x ∷ filter test (map f xs)) (filter test (map f xs))
    go true rest = ap (λ l. f x ∷ l) rest
    go false rest = rest

filter-all : {A : Type 0} (test : A → Bool) (xs : List A) → AllHold (λ x. test x ≡ true) xs → filter test xs ≡ xs
filter-all test [] h = refl
filter-all test (x ∷ xs) h = λ i. cond (h.0 i) (x ∷ filter-all test xs h.1 i) (filter-all test xs h.1 i)

filter-none : {A : Type 0} (test : A → Bool) (xs : List A) → AllHold (λ x. test x ≡ false) xs → filter test xs ≡ []
filter-none test [] h = refl
filter-none test (x ∷ xs) h = λ i. cond (h.0 i) (x ∷ filter-none test xs h.1 i) (filter-none test xs h.1 i)

-- The order

enders-within : (machine : Machine) (first : ℕ) (phases : List Phase) →
    AllHold (λ (e : Ender). (first ≤ e.phase) × (e.phase < first + length phases)) (joined (map_numbered (phase_enders machine) first phases))
enders-within machine first [] = tt
enders-within machine first (phase ∷ phases) =
    all-append (λ (e : Ender). (first ≤ e.phase) × (e.phase < first + length (phase ∷ phases))) (phase_enders machine first phase)
    (joined (map_numbered (phase_enders machine) (first + 1) phases))
    (all-weaken (λ (e : Ender). e.phase ≡ first) (λ (e : Ender). (first ≤ e.phase) × (e.phase < first + length (phase ∷ phases))) (phase_enders machine first phase)
    (λ e is. (omega (arith, is), omega (arith, is))) (numbered first (enders_in machine phase.begins phase.events)))
    (all-weaken (λ (e : Ender). (first + 1 ≤ e.phase) × (e.phase < first + 1 + length phases)) (λ (e : Ender). (first ≤ e.phase) × (e.phase < first + length (phase ∷ phases)))
    (joined (map_numbered (phase_enders machine) (first + 1) phases))
    (λ e h. (let low : first + 1 ≤ e.phase = h.0 in omega arith, let high : e.phase < first + 1 + length phases = h.1 in omega arith))
    (enders-within machine (first + 1) phases))

-- the runs that end in more phases
abbrev later_enders : Machine → List Phase → List Phase → List Ender
later_enders machine phases more = joined (map_numbered (phase_enders machine) (1 + length phases) more)

enders-join : (machine : Machine) (phases more : List Phase) → slot_enders machine (phases ++ more) ≡ slot_enders machine phases ++ later_enders machine phases more
enders-join machine phases more =
    ap joined (numbered-append (phase_enders machine) 1 phases more)
    ∙ joined-append (map_numbered (phase_enders machine) 1 phases) (map_numbered (phase_enders machine) (1 + length phases) more)

part-order : (machine : Machine) (phases more : List Phase) (runs : List RunEnd) → map ender_told runs ≡ slot_enders machine (phases ++ more) →
    map ender_told (runs_through (length phases) runs) ≡ slot_enders machine phases
part-order machine phases more runs order =
    filter-mapped ender_told (λ (e : Ender). nat_le e.phase (length phases)) runs
    ∙ ap (filter (λ (e : Ender). nat_le e.phase (length phases))) (order ∙ enders-join machine phases more)
    ∙ filter-append (λ (e : Ender). nat_le e.phase (length phases)) (slot_enders machine phases) (later_enders machine phases more)
    ∙ (λ i. filter-all (λ (e : Ender). nat_le e.phase (length phases)) (slot_enders machine phases) low i
    ++ filter-none (λ (e : Ender). nat_le e.phase (length phases)) (later_enders machine phases more) high i)
    ∙ append-nil (slot_enders machine phases)
  where
    low : AllHold (λ (e : Ender). nat_le e.phase (length phases) ≡ true) (slot_enders machine phases)
    low = all-weaken (λ (e : Ender). (1 ≤ e.phase) × (e.phase < 1 + length phases)) (λ (e : Ender). nat_le e.phase (length phases) ≡ true) (slot_enders machine phases)
        (λ e h. let less : e.phase < 1 + length phases = h.1 in le-leb e.phase (length phases) (omega arith)) (enders-within machine 1 phases)

    high : AllHold (λ (e : Ender). nat_le e.phase (length phases) ≡ false) (later_enders machine phases more)
    high = all-weaken (λ (e : Ender). (1 + length phases ≤ e.phase) × (e.phase < 1 + length phases + length more)) (λ (e : Ender). nat_le e.phase (length phases) ≡ false)
        (later_enders machine phases more)
        (λ e h. let more_than : 1 + length phases ≤ e.phase = h.0 in lt-leb e.phase (length phases) (omega arith)) (enders-within machine (1 + length phases) more)

-- The first phases

get-front : {A : Type 0} (xs ys : List A) (k : ℕ) (x : A) → slice_get xs k ≡ Some x → slice_get (xs ++ ys) k ≡ Some x
get-front [] ys k x here = cc
get-front (y ∷ xs) ys zero x here = here
get-front (y ∷ xs) ys (suc k) x here = get-front xs ys k x here

-- a run that ends in a phase behind so many isn't one of a phase among them
other-phase : (phase last number : ℕ) (test : Bool) → number < last → nat_le phase last ≡ false → (nat_eq phase (number + 1) && test) ≡ false
other-phase phase last number test low late = go (nat_eq phase (number + 1)) refl
  where
    go : (b : Bool) → nat_eq phase (number + 1) ≡ b → (b && test) ≡ false
    go true e = let same : phase ≡ number + 1 = eqb-true phase (number + 1) e in let past : last < phase = leb-false phase last late in absurd (omega arith)
    go false e = refl

pub ends_part : EndsPart
ends_part codes machine phases more runs r = record {
  within = λ k d low.
      let test = λ (run : RunEnd). nat_le (run_phase run) (length phases) in
      let own = All-filter test (IsEndWithin codes (length (phases ++ more))) runs r.within k d low in
      let early : nat_le (get_or (runs_through (length phases) runs) k d).phase (length phases) ≡ true = filter_passes test runs k d low in
      record { first = own.first; last = leb-true (get_or (runs_through (length phases) runs) k d).phase (length phases) early; process = own.process; state = own.state; steps = own.steps };
  order = part-order machine phases more runs r.order;
  told = λ number process phase code here is.
      ap (map (told_by code))
      (filter-again (λ (run : RunEnd). nat_le (run_phase run) (length phases)) (is_end_of (number + 1) process) runs
      (λ run late.
      other-phase run.phase (length phases) number (nat_eq (process_number run.process) process) (slice_get_within phases number phase here) late))
      ∙ r.told number process phase code (get-front phases more number phase here) is;
}

-- What is appended

told-appended : (code : Code) (runs : List RunEnd) → joined (map (λ (told : RunTold). told.later) (map (told_by code) runs)) ≡ appended_of runs
told-appended code [] = refl
told-appended code (run ∷ runs) = ap (λ l. map due_of run.later ++ l) (told-appended code runs)

phase-appended : (time : ℕ) (runs : List ProcessRun) →
    joined (map (λ (told : RunTold). told.later) (map (told_of time) runs)) ≡ joined (map (λ (run : ProcessRun). appended_by time run.steps) runs)
phase-appended time [] = refl
phase-appended time (run ∷ runs) = ap (λ l. appended_by time run.steps ++ l) (phase-appended time runs)

all-appended : (machine : Machine) (process : ℕ) (phases : List Phase) →
    joined (map (λ (told : RunTold). told.later) (joined (map (told_in machine process) phases))) ≡ appended_in machine process phases
all-appended machine process [] = refl
all-appended machine process (phase ∷ phases) =
    ap joined (map-append (λ (told : RunTold). told.later) (told_in machine process phase) (joined (map (told_in machine process) phases)))
    ∙ joined-append (map (λ (told : RunTold). told.later) (told_in machine process phase)) (map (λ (told : RunTold). told.later) (joined (map (told_in machine process) phases)))
    ∙ (λ i. phase-appended phase.begins.time (process_runs machine process phase) i ++ all-appended machine process phases i)

pub ends_append : EndsAppend
ends_append codes machine phases runs process code r here =
    sym (told-appended code (runs_of_process process runs))
    ∙ ap (λ (l : List RunTold). joined (map (λ (told : RunTold). told.later) l))
    (parted-told run_phase (λ (run : RunEnd). nat_eq (process_number run.process) process) (told_by code) (told_in machine process) 1 phases runs (ends-parted codes machine phases runs r)
    (λ k phase is. r.told k process phase code is here))
    ∙ all-appended machine process phases

-- Ends in the phases between

tail-of : {A : Type 0} (x : A) (xs ys : List A) → x ∷ xs ≡ x ∷ ys → xs ≡ ys
tail-of x xs ys e = cc

front-off : {A : Type 0} (xs ys zs : List A) → xs ++ ys ≡ xs ++ zs → ys ≡ zs
front-off [] ys zs e = e
front-off (x ∷ xs) ys zs e = front-off xs ys zs (tail-of x (xs ++ ys) (xs ++ zs) e)

pub ends_between : EndsBetween
ends_between codes machine phases own more runs between r is =
    front-off (slot_enders machine phases) (map ender_told between) (joined (map_numbered (phase_enders machine) (length phases + 1) own))
    (ap (λ l. l ++ map ender_told between) (sym first)
    ∙ sym (map-append ender_told (runs_through (length phases) runs) between) ∙ ap (map ender_told) is ∙ both
    ∙ ap (λ n. slot_enders machine phases ++ joined (map_numbered (phase_enders machine) n own)) (next (length phases)))
  where
    next : (n : ℕ) → 1 + n ≡ n + 1
    next n = omega arith

    first : map ender_told (runs_through (length phases) runs) ≡ slot_enders machine phases
    first = part-order machine phases (own ++ more) runs (r.order ∙ ap (slot_enders machine) (append_assoc phases own more))

    long : length (phases ++ own) ≡ length phases + length own
    long = length-append phases own

    both : map ender_told (runs_through (length phases + length own) runs) ≡ slot_enders machine phases ++ later_enders machine phases own
    both = ap (λ n. map ender_told (runs_through n runs)) (sym long) ∙ part-order machine (phases ++ own) more runs r.order ∙ enders-join machine phases own
