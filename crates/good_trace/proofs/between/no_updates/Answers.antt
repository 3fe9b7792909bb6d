use Rattle.std.proofs.Common.{◌≡◌, ℕ, zero, suc, List, [], ◌∷◌, ◌++◌, get_or, refl, ◌∙◌, arith}
use Rattle.std.proofs.lemmas.List.{length_push}
use Rattle.v_design.specs.declared.plan.Due.{Due}
use Rattle.good_trace.proofs.between.no_updates.Goals as goal

-- a list of lists without elements, with one more
nothing-more : (xs : List (List Due)) (x : List Due) → x ≡ [] → ((process : ℕ) → get_or xs process [] ≡ []) → (process : ℕ) → get_or (xs ++ x ∷ []) process [] ≡ []
nothing-more [] x none each zero = none
nothing-more [] x none each (suc process) = refl
nothing-more (y ∷ xs) x none each zero = each zero
nothing-more (y ∷ xs) x none each (suc process) = nothing-more xs x none (λ p. each (suc p)) process

pub processes-preserved : goal.processes-preserved
processes-preserved c = rw c.in_ok-push.ensures.items record {
  count = let long = length_push c.processes.updates.items c.from_vec.result in omega (arith, long, c.processes.invariant.count);
  each = nothing-more c.processes.updates.items c.from_vec.result (c.from_vec.ensures ∙ c.new.ensures.items) c.processes.invariant.each;
}
