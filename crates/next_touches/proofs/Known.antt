-- Stretches of moments that are found anew, and that are forgotten.
use Rattle.std.proofs.Common.{◌≡◌, ℕ, ◌+◌, ◌<◌, ◌≤◌, List, length, get_or, set, replicate, refl, sym, ap, subst, ◌∙◌, inl, inr, arith}
use Rattle.std.proofs.lemmas.Bool.{cases_eq}
use Rattle.std.proofs.lemmas.List.{get_or-replicate, get_or-set_other, get_or-set_same, length-replicate, length-set}
use Rattle.v_design.specs.Designs.{FlatDesign, TestPlan}
use Rattle.copy_skip.specs.Limits.{IsLeftAlone}
use Rattle.trace_window.specs.Moments.{Seen, window_events}
use Rattle.next_touches.specs.Touches.{AreStretches, AreUnknown, KnowsTouches, no_stretch}
use Rattle.next_touches.specs.declared.stretch.Stretch.{Stretch}
use Rattle.next_touches.specs.declared.table.TouchTable.{TouchTable}

-- one was found anew
pub stretches-set : (Alone : ℕ → ℕ → ℕ → Type 0) (count : ℕ) (stretches : List Stretch) (place : ℕ) (found : Stretch) → place < count → AreStretches Alone count stretches →
    Alone place found.from found.until → AreStretches Alone count (set stretches place found)
stretches-set Alone count stretches place found low known one = record {
  count_is = length-set stretches place found ∙ known.count_is;
  each = λ number within. elim (cases_eq number place) [
    | inl same ↦
        let at : get_or (set stretches place found) place no_stretch ≡ found = get_or-set_same stretches place found no_stretch (let long = known.count_is in omega (arith, low, long)) in
        subst (λ n. Alone n (get_or (set stretches place found) n no_stretch).from (get_or (set stretches place found) n no_stretch).until) (sym same)
        (subst (λ (s : Stretch). Alone place s.from s.until) (sym at) one)
    | inr other ↦
        subst (λ (s : Stretch). Alone number s.from s.until) (sym (get_or-set_other stretches place number found no_stretch other)) (known.each number within)
  ];
}

-- a stretch that is read
pub stretch-at : (Alone : ℕ → ℕ → ℕ → Type 0) (count : ℕ) (stretches : List Stretch) (place : ℕ) (known : Stretch) → place < count → known ≡ get_or stretches place no_stretch →
    AreStretches Alone count stretches → Alone place known.from known.until
stretch-at Alone count stretches place known low read are = subst (λ (s : Stretch). Alone place s.from s.until) (sym read) (are.each place low)

-- where nothing is known
pub unknown-stretches : (Alone : ℕ → ℕ → ℕ → Type 0) → ((number : ℕ) → Alone number 1 0) → (count : ℕ) (stretches : List Stretch) → AreUnknown count stretches → AreStretches Alone count stretches
unknown-stretches Alone none count stretches unknown = record {
  count_is = unknown.count_is;
  each = λ number within. subst (λ (s : Stretch). Alone number s.from s.until) (sym (unknown.each number within)) (none number);
}

pub unknown-all : (count : ℕ) → AreUnknown count (replicate count no_stretch)
unknown-all count = record { count_is = length-replicate count no_stretch; each = λ number within. get_or-replicate count number no_stretch no_stretch within }

-- the first ones are forgotten
pub record AreForgotten (count : ℕ) (old new : List Stretch) : Type 0 where
  pub count_is : length new ≡ length old
  pub each : (number : ℕ) → number < count → get_or new number no_stretch ≡ no_stretch

pub forgotten-none : (stretches : List Stretch) → AreForgotten 0 stretches stretches
forgotten-none stretches = record { count_is = refl; each = λ number within. absurd (omega (arith, within)) }

pub forgotten-more : (count : ℕ) (old new : List Stretch) (none : Stretch) → none ≡ no_stretch → count < length new → AreForgotten count old new → AreForgotten (count + 1) old (set new count none)
forgotten-more count old new none is low so_far = record {
  count_is = length-set new count none ∙ so_far.count_is;
  each = λ number within. elim (cases_eq number count) [
    | inl same ↦ ap (λ n. get_or (set new count none) n no_stretch) same ∙ get_or-set_same new count none no_stretch low ∙ is
    | inr other ↦ get_or-set_other new count number none no_stretch other ∙ so_far.each number (below number within other)
  ];
}
  where
    below : (number : ℕ) → number < count + 1 → (number ≡ count → ⊥) → number < count
    below number within other = omega (arith, within, other)

pub forgotten-all : (count : ℕ) (old new : List Stretch) → length old ≤ count → AreForgotten count old new → AreUnknown (length old) new
forgotten-all count old new all so_far = record { count_is = so_far.count_is; each = λ number within. so_far.each number (omega (arith, within, all)) }

-- Objects

-- events that leave an object alone do so from a later moment on
pub alone-later : (design : FlatDesign) (events : List Seen) (object from later until : ℕ) → from ≤ later → IsLeftAlone design events object from until →
    IsLeftAlone design events object later until
alone-later design events object from later until high alone = record {
  touches = λ number since before. alone.touches number (omega (arith, since, high)) before;
  reads = λ node found at has number since before. alone.reads node found at has number (omega (arith, since, high)) before;
}

-- and all of none do
alone-none : (design : FlatDesign) (events : List Seen) (object : ℕ) → IsLeftAlone design events object 1 0
alone-none design events object = record {
  touches = λ number since before. absurd (omega (arith, since, before));
  reads = λ node found at has number since before. absurd (omega (arith, since, before));
}

-- Tables

-- nothing is known of a window
pub knows-nothing : (design : FlatDesign) (plan : TestPlan) (table : TouchTable) → AreUnknown (length design.objects) table.objects.items →
    AreUnknown (length design.processes) table.processes.items → KnowsTouches design plan table
knows-nothing design plan table objects processes = record {
  objects =
      unknown-stretches (IsLeftAlone design (window_events design plan table.before table.through))
      (alone-none design (window_events design plan table.before table.through)) (length design.objects) table.objects.items objects;
  processes = record {
    count_is = processes.count_is;
    each = λ process within number since before.
        absurd
        (let at = processes.each process within in
        let from = ap (λ (s : Stretch). s.from) at in
        let until = ap (λ (s : Stretch). s.until) at in
        omega (arith, since, before, from, until));
  };
}
