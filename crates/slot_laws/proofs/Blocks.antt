-- The next block of a machine is one.
use Rattle.std.proofs.Common.{◌≡◌, ◌+◌, ◌<◌, ◌≤◌, ◌++◌, List, length, take, sym, ap, subst, ◌∙◌, inl, inr, arith}
use Rattle.std.proofs.lemmas.Bool.{cases_lt}
use Rattle.std.proofs.lemmas.List.{take_all, take-append-le}
use Rattle.v_design.specs.Designs.{Machine}
use Rattle.v_design.specs.States.{State, Event}
use Rattle.phase_blocks.specs.Blocks.{IsBetweenRuns, IsWholeBlock}
use Rattle.slot_laws.specs.Laws.{NextBlocksAreOne}

-- the first ones of two lists that begin some events
front : (one other more rest : List Event) → one ++ more ≡ other ++ rest → length one ≤ length other → one ≡ take (length one) other
front one other more rest same low =
    sym (take_all (length one) one (omega arith)) ∙ sym (take-append-le (length one) one more (omega arith)) ∙ ap (take (length one)) same
    ∙ take-append-le (length one) other rest low

module _ (machine : Machine) (begins : State) where
  not-longer : (one other more rest : List Event) → one ++ more ≡ other ++ rest → IsWholeBlock machine begins one → IsWholeBlock machine begins other → length one < length other → ⊥
  not-longer one other more rest same whole whole_other low =
      whole_other.none (length one) whole.some low (subst (IsBetweenRuns machine begins) (front one other more rest same (omega (arith, low))) whole.ends)

  pub same-block : (one other more rest : List Event) → one ++ more ≡ other ++ rest → IsWholeBlock machine begins one → IsWholeBlock machine begins other → one ≡ other
  same-block one other more rest same whole whole_other = elim (cases_lt (length one) (length other)) [
    | inl low ↦ absurd (not-longer one other more rest same whole whole_other low)
    | inr high ↦ elim (cases_lt (length other) (length one)) [
      | inl low ↦ absurd (not-longer other one rest more (sym same) whole_other whole low)
      | inr low ↦ front one other more rest same low ∙ take_all (length one) other high
    ]
  ]

-- the law
pub blocks_are_one : NextBlocksAreOne
blocks_are_one = λ machine begins one other more rest same whole whole_other. same-block machine begins one other more rest same whole whole_other
