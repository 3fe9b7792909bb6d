-- What is kept of a target, from what is kept of its selects.
use Rattle.std.proofs.Common.{◌≡◌, ℕ, ◌+◌, ◌<◌, ◌≤◌, Bool, true, false, List, [], ◌∷◌, ◌++◌, map, length, drop, get_or, Option, Some, None, option_map, nat_le, refl, sym, ap, subst, ◌∙◌, arith}
use Rattle.std.proofs.Common.{append_assoc}
use Rattle.std.proofs.lemmas.List.{drop_more, drop_all, append-nil}
use Rattle.std.proofs.lemmas.Bool.{lt-leb, le-leb}
use Rattle.vf_base.specs.Base.{SourcePlace}
use Rattle.v_design.specs.Sized.{most_bits}
use Rattle.v_tree.specs.declared.expression.Select.{Select}
use Rattle.v_tree.specs.Trees.{SourceSelect}
use Rattle.v_tree.specs.Views.{select_of}
use Rattle.v_names.specs.Faults.{BadWidth, Fault, fault_at}
use Rattle.v_names.specs.Scopes.{Scope, looked_up}
use Rattle.v_names.specs.Readings.{Size, Reading, wrong_reading, width_with, select_reading}
use Rattle.v_names.specs.SizeViews.{size_of}
use Rattle.v_width.specs.declared.faults.Faults.{Faults}
use Rattle.v_width.specs.Summaries.{AreFaults}
use Rattle.v_width.specs.Targets as plain
use Rattle.v_width.specs.Targets.{Writer, may_write, written_reading, target_select_reading, width_of_size, sum_of_widths, selects_reading, within_most}
use Rattle.expr_sizes.specs.declared.answer.OwnReading.{OwnReading}
use Rattle.expr_sizes.specs.Answers.{IsOwnReading}
use Rattle.expr_sizes.specs.PartReadings.{capped, total_with, total_before}
use Rattle.expr_sizes.specs.WidthLaws.{total-start, total-step, total-end, some-width, no-width}
use Rattle.expr_sizes.specs.declared.target.TargetReading.{TargetReading}
use Rattle.expr_sizes.specs.TargetReadings.{IsTargetReading, IsOneSelect, AreSelectsSo, AreSelectsRead}

drop-step : {A : Type 0} (xs : List A) (i : ℕ) (x : A) → i < length xs → x ≡ get_or xs i x → drop i xs ≡ x ∷ drop (i + 1) xs
drop-step xs i x below at = drop_more xs i x below ∙ ap (λ y. y ∷ drop (i + 1) xs) (sym at)

-- What may be written

pub written-may : (may : Bool) (place : SourcePlace) (reading : Reading) (own : OwnReading) → may ≡ true → IsOwnReading reading own → IsOwnReading (written_reading may place reading) own
written-may true place reading own e h = h
written-may false place reading own e h = absurd (let x : ⊥ = cc in x)

pub written-not : (may : Bool) (place : SourcePlace) (reading : Reading) (own : OwnReading) → may ≡ false → IsOwnReading (wrong_reading place reading.inside) own →
    IsOwnReading (written_reading may place reading) own
written-not true place reading own e h = absurd (let x : ⊥ = cc in x)
written-not false place reading own e h = h

pub written-select : (writer : Writer) (scope : Scope) (select : SourceSelect) (may : Bool) (own : OwnReading) → may ≡ may_write writer (looked_up scope select.name)
    → IsOwnReading (written_reading may select.place (select_reading scope select.place select.name select.index)) own → IsOwnReading (target_select_reading writer scope select) own
written-select writer scope select may own e h =
    let P : Bool → Type 0 = λ b. IsOwnReading (written_reading b select.place (select_reading scope select.place select.name select.index)) own in subst P e h

-- One select

sum-one : (size : Option Size) → width_of_size size ≡ sum_of_widths (width_of_size size) (Some 0)
sum-one None = refl
sum-one (Some z) = ap (λ n. Some n) (let e : z.width ≡ z.width + 0 = omega arith in e)

pub one-read : (writer : Writer) (scope : Scope) (select : SourceSelect) (own : OwnReading) (read : TargetReading) → IsOwnReading (target_select_reading writer scope select) own → IsOneSelect own read
    → IsTargetReading (selects_reading writer scope (select ∷ [])) read
one-read writer scope select own read h k =
    let first = target_select_reading writer scope select in
    let P : List Fault → List Fault → Faults → Type 0 = λ a b f. AreFaults a b f in
    let Q : Faults → Type 0 = λ f. AreFaults first.here first.inside f in
    let Here : List Fault → Type 0 = λ l. AreFaults l (first.inside ++ []) read.faults in
    let Inside : List Fault → Type 0 = λ l. AreFaults first.here l read.faults in
    record {
      width_is = k.width_is ∙ ap width_of_size h.size_is ∙ sum-one first.size;
      faults_are = subst Here (sym (append-nil first.here)) (subst Inside (sym (append-nil first.inside)) (subst Q (sym k.faults_are) h.faults_are));
    }

-- Selects from the left

sum-with : (size : Option Size) (rest : Option ℕ) → sum_of_widths (width_of_size size) rest ≡ width_with size rest
sum-with None rest = refl
sum-with (Some z) None = refl
sum-with (Some z) (Some n) = refl

pub selects-start : (whole : plain.TargetReading) (read : TargetReading) → AreFaults [] [] read.faults → read.width ≡ Some 0 → AreSelectsSo whole whole read
selects-start whole read f t = record {
  here = [];
  inside = [];
  faults_are = f;
  here_is = refl;
  inside_is = refl;
  total_is = total-start whole.width ∙ ap (λ x. total_before x whole.width) (sym t);
}

pub selects-more : (writer : Writer) (scope : Scope) (selects : List Select) (i : ℕ) (select : Select) (own : OwnReading) (read after : TargetReading) → i < length selects →
    select ≡ get_or selects i select
    → IsOwnReading (target_select_reading writer scope (select_of select)) own → after.width ≡ total_with read.width (option_map size_of own.size)
    → ((here inside more_here more_inside : List Fault) → AreFaults here inside read.faults → AreFaults more_here more_inside own.faults →
    AreFaults (here ++ more_here) (inside ++ more_inside) after.faults)
    → AreSelectsSo (selects_reading writer scope (map select_of selects)) (selects_reading writer scope (map select_of (drop i selects))) read
    → AreSelectsSo (selects_reading writer scope (map select_of selects)) (selects_reading writer scope (map select_of (drop (i + 1) selects))) after
selects-more writer scope selects i select own read after below at o t f h =
    let first = target_select_reading writer scope (select_of select) in
    let rest = selects_reading writer scope (map select_of (drop (i + 1) selects)) in
    let from = drop-step selects i select below at in
    record {
      here = h.here ++ first.here;
      inside = h.inside ++ first.inside;
      faults_are = f h.here h.inside first.here first.inside h.faults_are o.faults_are;
      here_is = h.here_is ∙ ap (λ l. h.here ++ (selects_reading writer scope (map select_of l)).here) from ∙ sym (append_assoc h.here first.here rest.here);
      inside_is = h.inside_is ∙ ap (λ l. h.inside ++ (selects_reading writer scope (map select_of l)).inside) from ∙ sym (append_assoc h.inside first.inside rest.inside);
      total_is =
          h.total_is ∙ ap (λ l. total_before read.width (selects_reading writer scope (map select_of l)).width) from
          ∙ ap (total_before read.width) (sum-with first.size rest.width ∙ ap (λ z. width_with z rest.width) (sym o.size_is)) ∙ total-step read.width (option_map size_of own.size) rest.width
          ∙ ap (λ x. total_before x rest.width) (sym t);
    }

pub selects-end : (writer : Writer) (scope : Scope) (selects : List Select) (i : ℕ) (read : TargetReading) → length selects ≤ i
    → AreSelectsSo (selects_reading writer scope (map select_of selects)) (selects_reading writer scope (map select_of (drop i selects))) read
    → AreSelectsRead (selects_reading writer scope (map select_of selects)) read
selects-end writer scope selects i read past h =
    let whole = selects_reading writer scope (map select_of selects) in
    let e = drop_all i selects past in
    let here : h.here ≡ whole.here = sym (h.here_is ∙ ap (λ l. h.here ++ (selects_reading writer scope (map select_of l)).here) e ∙ append-nil h.here) in
    let inside : h.inside ≡ whole.inside = sym (h.inside_is ∙ ap (λ l. h.inside ++ (selects_reading writer scope (map select_of l)).inside) e ∙ append-nil h.inside) in
    let Here : List Fault → Type 0 = λ l. AreFaults l h.inside read.faults in
    let Inside : List Fault → Type 0 = λ l. AreFaults whole.here l read.faults in
    record {
      faults_are = subst Inside inside (subst Here here h.faults_are);
      total_is = h.total_is ∙ ap (λ l. total_before read.width (selects_reading writer scope (map select_of l)).width) e ∙ total-end read.width;
    }

-- Selects in braces

abbrev IsWithin : SourcePlace → plain.TargetReading → TargetReading → Type 0
IsWithin place reading read = IsTargetReading (within_most place reading) read

recast : (place : SourcePlace) (reading : plain.TargetReading) (width : Option ℕ) (read : TargetReading) → reading.width ≡ width
    → IsWithin place (record { width = width; here = reading.here; inside = reading.inside }) read → IsWithin place reading read
recast place reading width read e h =
    let P : Option ℕ → Type 0 = λ w. IsWithin place (record { width = w; here = reading.here; inside = reading.inside }) read in subst P (sym e) h

pub joined-none : (place : SourcePlace) (reading : plain.TargetReading) (read : TargetReading) → AreSelectsRead reading read → read.width ≡ None → IsTargetReading (within_most place reading) read
joined-none place reading read h e =
    recast place reading None read (no-width reading.width (h.total_is ∙ ap (option_map capped) e)) (record { width_is = e; faults_are = h.faults_are })

fits : (place : SourcePlace) (width : ℕ) (here inside : List Fault) (read : TargetReading) (fit : Bool) → nat_le width most_bits ≡ fit → fit ≡ true → read.width ≡ Some width →
    AreFaults here inside read.faults
    → IsWithin place (record { width = Some width; here = here; inside = inside }) read
fits place width here inside read fit t e w f = let k : nat_le width most_bits ≡ true = t ∙ e in rw k (record { width_is = w; faults_are = f })

pub joined-fits : (place : SourcePlace) (reading : plain.TargetReading) (read : TargetReading) (width : ℕ) → AreSelectsRead reading read → read.width ≡ Some width → width ≤ 128
    → IsTargetReading (within_most place reading) read
joined-fits place reading read width h e below =
    let w = some-width reading.width width (h.total_is ∙ ap (option_map capped) e) in
    let c = w.1.1 in
    let same : w.0 ≡ width = omega arith in
    recast place reading (Some w.0) read w.1.0
    (fits place w.0 reading.here reading.inside read true (le-leb w.0 most_bits (omega arith)) refl (e ∙ ap (λ n. Some n) (sym same)) h.faults_are)

pub joined-wide : (place : SourcePlace) (reading : plain.TargetReading) (selects read : TargetReading) (width : ℕ) → AreSelectsRead reading selects → selects.width ≡ Some width → 128 < width →
    read.width ≡ None
    → AreFaults (fault_at place BadWidth ∷ reading.here) reading.inside read.faults → IsTargetReading (within_most place reading) read
joined-wide place reading selects read width h e above n f =
    let w = some-width reading.width width (h.total_is ∙ ap (option_map capped) e) in
    let c = w.1.1 in
    let k : nat_le w.0 most_bits ≡ false = lt-leb w.0 most_bits (omega arith) in
    recast place reading (Some w.0) read w.1.0 (rw k (record { width_is = n; faults_are = f }))
