-- Counts of parts that are nodes alone.
use Rattle.std.proofs.Common.{◌≡◌, ℕ, ◌+◌, ◌<◌, ◌≤◌, List, [], ◌∷◌, ◌++◌, drop, get_or, length, refl, sym, ap, ap₂, subst, ◌∙◌, arith}
use Rattle.std.proofs.lemmas.List.Sums.{sum_by-append}
use Rattle.v_elab.specs.Parts.{Part, objects_of_part, nodes_of_part, processes_of_part, instances_of_part}
use Rattle.name_checks.specs.Rows.{drop-step, drop-past}
use Rattle.elab_connections.specs.NodeCounts.{CountsNodes}

pub counts-none : CountsNodes [] 0
counts-none = record { objects_none = refl; nodes_are = refl; processes_none = refl; instances_none = refl }

pub counts-both : (xs ys : List Part) (m n : ℕ) → CountsNodes xs m → CountsNodes ys n → CountsNodes (xs ++ ys) (m + n)
counts-both xs ys m n a b = record {
  objects_none = sum_by-append objects_of_part xs ys ∙ ap₂ (λ i j. i + j) a.objects_none b.objects_none;
  nodes_are = sum_by-append nodes_of_part xs ys ∙ ap₂ (λ i j. i + j) a.nodes_are b.nodes_are;
  processes_none = sum_by-append processes_of_part xs ys ∙ ap₂ (λ i j. i + j) a.processes_none b.processes_none;
  instances_none = sum_by-append instances_of_part xs ys ∙ ap₂ (λ i j. i + j) a.instances_none b.instances_none;
}

-- the nodes so far, from those of the rest of a list on
pub record CountsSoFar (left : List Part) (whole : List Part) (nodes : ℕ) : Type 0 where
  pub counts : (rest : ℕ) → CountsNodes left rest → CountsNodes whole (nodes + rest)

pub counts-turn : {A : Type 0} (g : A → List Part) (h : ℕ → List A → List Part) (xs : List A) (i : ℕ) (x : A) (whole : List Part) (nodes more : ℕ) →
    ((y : A) (ys : List A) → h i (y ∷ ys) ≡ g y ++ h (i + 1) ys) → i < length xs → x ≡ get_or xs i x
    → CountsNodes (g x) more → CountsSoFar (h i (drop i xs)) whole nodes → CountsSoFar (h (i + 1) (drop (i + 1) xs)) whole (nodes + more)
counts-turn {A} g h xs i x whole nodes more c below at own before = record {
  counts = λ rest left.
      let both : CountsNodes (h i (drop i xs)) (more + rest) = subst (λ (parts : List Part). CountsNodes parts (more + rest)) (sym (ap (h i) (drop-step xs i x below at) ∙ c x (drop (i + 1) xs)))
      (counts-both (g x) (h (i + 1) (drop (i + 1) xs)) more rest own left) in
      let same : nodes + (more + rest) ≡ (nodes + more) + rest = omega arith in
      subst (CountsNodes whole) same (before.counts (more + rest) both);
}

pub counts-end : {A : Type 0} (h : ℕ → List A → List Part) (xs : List A) (i : ℕ) (whole : List Part) (nodes : ℕ) → h i [] ≡ [] → length xs ≤ i → CountsSoFar (h i (drop i xs)) whole nodes →
    CountsNodes whole nodes
counts-end {A} h xs i whole nodes none past before =
    let left : CountsNodes (h i (drop i xs)) 0 = subst (λ (parts : List Part). CountsNodes parts 0) (sym (ap (h i) (drop-past xs i past) ∙ none)) counts-none in
    let same : nodes + 0 ≡ nodes = omega arith in
    subst (CountsNodes whole) same (before.counts 0 left)
