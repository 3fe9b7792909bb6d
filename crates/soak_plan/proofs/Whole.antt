-- The text of the generated plan spells a plan over the generated design (the format is this program's own).
use Rattle.std.proofs.Common.{◌≡◌, ℕ, zero, suc, ◌+◌, ◌*◌, ◌-◌, ◌<◌, ◌≤◌, false, ◌||◌, List, [], ◌∷◌, ◌++◌, length, map, take, Some, None, refl, sym, ap, subst, ◌∙◌, arith, length-append, length-drop}
use Rattle.std.specs.Prelude.{◌↔◌, Contains, slice_get, nat_lt}
use Rattle.std.specs.List.{flat_map, range_with_len}
use Rattle.std.proofs.lemmas.Bool.{le-ltb, or_from}
use Rattle.std.proofs.lemmas.Fmt.{length-decimal-le}
use Rattle.std.proofs.lemmas.List.FromFn.{length-range_with_len}
use Rattle.vf_base.specs.Base.{WatchedBit}
use Rattle.vf_base.specs.Lists.{AllHold, joined}
use Rattle.v_design.specs.Designs.{FlatDesign, TestPlan}
use Rattle.v_design.specs.Sites.{faults_of}
use Rattle.v_design.specs.WellFormed.{IsAscending}
use Rattle.plan_read.specs.Watched.{bits_spelled}
use Rattle.plan_read.specs.Forms.{PlanLine, Ends, Watches, Strobes, ListsAll, row, times_on}
use Rattle.plan_read.specs.Spelled.{bits_on, faults_on, times_of, bits_of, listed_faults, is_bad_after, are_none, is_unknown, are_too_many, first_reason, reason_of, NoneRefused}
use Rattle.plan_read.specs.Spelled.{LinesSpell, Spells}
use Rattle.soak_text.specs.Soak.{watch_line, watched, plan_text, stages_of}
use Rattle.soak_tree.specs.SoakUnits.{register_name}
use Rattle.soak_tree.proofs.Drawn.{stages-are, stages-count}
use Rattle.graph_order.specs.ListLaws.{AllHold-slice_get}
use Rattle.soak_flat.proofs.Once.{all-weaker}
use Rattle.soak_flat.proofs.Apart.{stages-numbered}
use Rattle.soak_flat.proofs.Meant.{soak_scope}
use Rattle.soak_flat.proofs.Parts.{IsWithin, stages-within}
use Rattle.soak_flat.proofs.Accepted.{soak_design, unit-flat}
use Rattle.soak_plan.specs.SoakPlans.{PlansAreRead}
use Rattle.soak_plan.proofs.Read.{soak_lines, watched-low, lines-are}
use Rattle.soak_plan.proofs.Watched.{one-bit}
use Rattle.soak_plan.proofs.Counted.{both-hold, faults-few}

-- Strobes

row-below : (count : ℕ) → AllHold (λ time. time < 8 + 10 * count) (row 8 10 count)
row-below zero = tt
row-below (suc count) =
    both-hold (λ time. time < 8 + 10 * suc count) (row 8 10 count) ((8 + 10 * count) ∷ [])
    (all-weaker (λ time. time < 8 + 10 * count) (λ time. time < 8 + 10 * suc count) (λ time h. omega (arith, h)) (row 8 10 count) (row-below count)) (omega arith, tt)

ascending-more : (xs : List ℕ) (y : ℕ) → IsAscending xs → AllHold (λ x. x < y) xs → IsAscending (xs ++ y ∷ [])
ascending-more [] y up below = (tt, tt)
ascending-more (x ∷ xs) y up below = (both-hold (λ later. x < later) xs (y ∷ []) up.0 (below.0, tt), ascending-more xs y up.1 below.1)

row-ascends : (count : ℕ) → IsAscending (row 8 10 count)
row-ascends zero = tt
row-ascends (suc count) = ascending-more (row 8 10 count) (8 + 10 * count) (row-ascends count) (row-below count)

-- Lines

abbrev watches : List ℕ → List PlanLine
watches numbers = map (λ number. Watches (register_name number)) numbers

watches-times : (numbers : List ℕ) (rest : List PlanLine) → times_of (watches numbers ++ rest) ≡ times_of rest
watches-times [] rest = refl
watches-times (number ∷ numbers) rest = watches-times numbers rest

watches-faults : (design : FlatDesign) (numbers : List ℕ) (rest : List PlanLine) → listed_faults design (watches numbers ++ rest) ≡ listed_faults design rest
watches-faults design [] rest = refl
watches-faults design (number ∷ numbers) rest = watches-faults design numbers rest

watches-bits : (design : FlatDesign) (numbers : List ℕ) (rest : List PlanLine) → AllHold (λ number. length (bits_spelled design (register_name number)) ≡ 1) numbers →
    length (bits_of design (watches numbers ++ rest)) ≡ length numbers + length (bits_of design rest)
watches-bits design [] rest one = omega arith
watches-bits design (number ∷ numbers) rest one =
    omega (arith, length-append (bits_spelled design (register_name number)) (bits_of design (watches numbers ++ rest)), one.0, watches-bits design numbers rest one.1)

-- what stands in a front of the lines is no more than what stands in all
front-count : {A : Type 0} (f : PlanLine → List A) (lines : List PlanLine) (place : ℕ) (line : PlanLine) → slice_get lines place ≡ Some line →
    length (joined (map f (take place lines ++ line ∷ []))) ≤ length (joined (map f lines))
front-count f [] place line at = absurd (cc)
front-count f (l ∷ lines) zero line at =
    let same : l ≡ line = cc in
    let here : length (f l) ≡ length (f line) = ap (λ x. length (f x)) same in
    omega (arith, here, length-append (f line) [], length-append (f l) (joined (map f lines)))
front-count f (l ∷ lines) (suc place) line at =
    omega (arith, length-append (f l) (joined (map f (take place lines ++ line ∷ []))), length-append (f l) (joined (map f lines)), front-count f lines place line at)

-- a line that is good behind the end, and names what is there
record IsFine (design : FlatDesign) (line : PlanLine) : Type 0 where
  good : is_bad_after 320 line ≡ false
  known : is_unknown design line ≡ false

some-known : (bits : List WatchedBit) → length bits ≡ 1 → are_none bits ≡ false
some-known [] one = absurd (omega (arith, one))
some-known (bit ∷ bits) one = refl

watches-fine : (design : FlatDesign) (numbers : List ℕ) (rest : List PlanLine) → AllHold (λ number. length (bits_spelled design (register_name number)) ≡ 1) numbers → AllHold (IsFine design) rest →
    AllHold (IsFine design) (watches numbers ++ rest)
watches-fine design [] rest one fine = fine
watches-fine design (number ∷ numbers) rest one fine =
    (record { good = refl; known = some-known (bits_spelled design (register_name number)) one.0 }, watches-fine design numbers rest one.1 fine)

module _ (design : FlatDesign) (size : ℕ) (one : AllHold (λ number. length (bits_spelled design (register_name number)) ≡ 1) (watched size)) (few : length (faults_of design) ≤ 65536) where
  abbrev last : List PlanLine
  last = Strobes 8 10 318 ∷ ListsAll ∷ []

  abbrev behind : List PlanLine
  behind = watches (watched size) ++ last

  abbrev lines : List PlanLine
  lines = soak_lines size

  times-are : times_of lines ≡ row 8 10 32
  times-are = watches-times (watched size) last

  watched-count : length (watched size) ≤ 8
  watched-count = omega (arith, length-drop (size - 8) (range_with_len 0 size), length-range_with_len 0 size)

  bits-few : length (bits_of design lines) ≤ 8
  bits-few = omega (arith, watches-bits design (watched size) last one, watched-count)

  faults-listed : length (listed_faults design lines) ≤ 65536
  faults-listed =
      let same = ap (λ l. length l) (watches-faults design (watched size) last) in
      omega (arith, same, length-append (faults_of design) [], few)

  not-many : (place : ℕ) (line : PlanLine) → slice_get lines place ≡ Some line → are_too_many design (take place lines ++ line ∷ []) ≡ false
  not-many place line at =
      let front = take place lines ++ line ∷ [] in
      let count = ap (λ (l : List ℕ). length l) times-are in
      or_from (nat_lt 65536 (length (times_of front)) || nat_lt 4096 (length (bits_of design front))) (nat_lt 65536 (length (listed_faults design front)))
      (or_from (nat_lt 65536 (length (times_of front))) (nat_lt 4096 (length (bits_of design front)))
      (le-ltb 65536 (length (times_of front)) (omega (arith, front-count times_on lines place line at, count)))
      (le-ltb 4096 (length (bits_of design front)) (omega (arith, front-count (bits_on design) lines place line at, bits-few))))
      (le-ltb 65536 (length (listed_faults design front)) (omega (arith, front-count (faults_on design) lines place line at, faults-listed)))

  behind-fine : AllHold (IsFine design) behind
  behind-fine = watches-fine design (watched size) last one (record { good = refl; known = refl }, (record { good = refl; known = refl }, tt))

  none-refused : NoneRefused design lines
  none-refused zero line at =
      let same : Ends 320 ≡ line = cc in
      subst (λ l. reason_of design [] l ≡ None) same (ap (λ many. first_reason false false many) (not-many 0 (Ends 320) refl))
  none-refused (suc place) line at =
      let fine = AllHold-slice_get (IsFine design) behind place line behind-fine at in
      let many = are_too_many design (take (suc place) lines ++ line ∷ []) in
      ap (λ bad. first_reason bad (is_unknown design line) many) fine.good
      ∙ (ap (λ unknown. first_reason false unknown many) fine.known ∙ ap (λ m. first_reason false false m) (not-many (suc place) line at))

  -- the plan of the size
  abbrev pub soak_plan : TestPlan
  soak_plan = record { end = 320; strobes = row 8 10 32; watched = bits_of design lines; faults = listed_faults design lines }

  lines-spell : LinesSpell design lines soak_plan
  lines-spell = record {
    sound = none-refused;
    end = refl;
    watched = refl;
    faults = refl;
    ascending = row-ascends 32;
    strobes = λ time. subst (λ l. Contains (row 8 10 32) time ↔ Contains l time) (sym times-are) (λ h. h, λ h. h);
  }

  watch-short : (numbers : List ℕ) → AllHold (λ number. number < 4000) numbers → length (flat_map watch_line numbers) ≤ 16 * length numbers
  watch-short [] low = omega arith
  watch-short (number ∷ numbers) low =
      let digits = length-decimal-le 4 number (omega arith) (omega (arith, low.0)) (omega (arith, low.0)) in
      let line : length (watch_line number) ≤ 16 = simp length-append (omega (arith, digits)) in
      omega (arith, length-append (watch_line number) (flat_map watch_line numbers), line, watch-short numbers low.1)

  text-short : size ≤ 4000 → length (plan_text size) ≤ 262144
  unfolding plan_text
  text-short high =
      let low = all-weaker (λ number. number < size) (λ number. number < 4000) (λ number h. omega (arith, h, high)) (watched size) (watched-low size) in
      let watch = watch-short (watched size) low in
      let count = watched-count in
      simp length-append (omega (arith, watch, count))

  pub text-spells : size ≤ 4000 → Spells design (plan_text size) soak_plan
  text-spells high = record { short = text-short high; lines = subst (λ ls. LinesSpell design ls soak_plan) (sym (lines-are size high)) lines-spell }

pub plans-read : PlansAreRead
plans-read number size low high =
    let stages = stages_of number size in
    let count : length stages ≡ size = stages-count number size in
    let order = stages-numbered number size in
    let are = stages-are number size low high in
    let within : AllHold (IsWithin (length stages)) stages = subst (λ n. AllHold (IsWithin n) stages) (sym count) (stages-within number size low) in
    let few : length stages ≤ 4000 = omega (arith, count, high) in
    let scope = soak_scope stages in
    let design = soak_design scope stages order are within few in
    let one = all-weaker (λ number. number < size) (λ number. length (bits_spelled design (register_name number)) ≡ 1)
    (λ other there. one-bit scope stages order are within few other (omega (arith, there, count))) (watched size) (watched-low size) in
    let faults = faults-few scope stages order are within few in
    (design, unit-flat stages order are within few, soak_plan design size one faults, text-spells design size one faults high)
