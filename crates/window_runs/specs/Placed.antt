-- Elements by the number of their owner, each with a moment and a place (nothing of the language).
use Rattle.std.specs.Prelude.{ℕ, cond, nat_eq, List, filter, Option, Some, None}
use Rattle.vf_base.specs.Lists.{map_numbered}
use Rattle.window_index.specs.declared.occurrence.Occurrence.{Occurrence}

-- the elements of one number
abbrev pub own_of : {A : Type 0} → (A → ℕ) → ℕ → List A → List A
own_of owner number xs = filter (λ x. nat_eq (owner x) number) xs

-- an element as an occurrence of its owner, at its moment or at its place among all
abbrev pub at_moment : {A : Type 0} → (A → ℕ) → (A → ℕ) → A → Occurrence
at_moment owner moment x = record { number = owner x; moment = moment x }

abbrev pub at_place : {A : Type 0} → (A → ℕ) → ℕ → A → Occurrence
at_place owner place x = record { number = owner x; moment = place }

-- some elements, the first of which has a place
abbrev pub at_places : {A : Type 0} → (A → ℕ) → ℕ → List A → List Occurrence
at_places owner place xs = map_numbered (at_place owner) place xs

-- an occurrence at its place among all, in place of its moment
abbrev pub placed : ℕ → Occurrence → Occurrence
placed place occurrence = record { number = occurrence.number; moment = place }

-- an element that was found, where it has a moment
abbrev pub at_only : {A : Type 0} → (A → ℕ) → ℕ → Option A → Option A
at_only moment time None = None
at_only moment time (Some x) = cond (nat_eq (moment x) time) (Some x) None
