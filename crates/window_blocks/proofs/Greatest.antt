-- The greatest process that took a step, event by event.
use Rattle.std.proofs.Common.{◌≡◌, ℕ, ◌<◌, ◌≤◌, List, [], ◌∷◌, ◌++◌, Bool, true, false, not, ◌||◌, refl, sym, ap, ◌∙◌, inl, inr, arith}
use Rattle.std.specs.Prelude.{Option, Some, None, nat_le}
use Rattle.std.proofs.lemmas.Bool.{cases_lt, leb-true, leb-false, le-leb, lt-leb}
use Rattle.v_design.specs.States.{Event, Step, LaneStep, Evaluation, NetUpdate}
use Rattle.phase_blocks.specs.Blocks.{is_step_from, begins_block}
use Rattle.phase_blocks.proofs.Lists.{some_in-push, push-none}
use Rattle.window_blocks.specs.Gathered.{reaches, IsGreatest, begins_by, greater_of, greatest_by}

pub greatest-none : IsGreatest None []
greatest-none process = refl

-- of two numbers the greater one is at least a third where one of them is
stays-greater : (p m q : ℕ) → q ≤ m → (nat_le p m || nat_le p q) ≡ nat_le p m
stays-greater p m q low = elim (cases_lt m p) [
  | inl high ↦ ap (λ b. b || nat_le p q) (lt-leb p m high) ∙ lt-leb p q (omega (arith, low, high)) ∙ sym (lt-leb p m high)
  | inr within ↦ ap (λ b. b || nat_le p q) (le-leb p m within) ∙ sym (le-leb p m within)
]

becomes-greater : (p m q : ℕ) → m < q → (nat_le p m || nat_le p q) ≡ nat_le p q
becomes-greater p m q high = elim (cases_lt m p) [
  | inl more ↦ ap (λ b. b || nat_le p q) (lt-leb p m more)
  | inr within ↦ ap (λ b. b || nat_le p q) (le-leb p m within) ∙ sym (le-leb p q (omega (arith, within, high)))
]

step-more : (greatest : Option ℕ) (p q : ℕ) (b : Bool) → reaches greatest q ≡ b → (reaches greatest p || nat_le p q) ≡ reaches (greater_of b greatest q) p
step-more None p q true e = cc
step-more None p q false e = refl
step-more (Some m) p q true e = stays-greater p m q (leb-true q m e)
step-more (Some m) p q false e = becomes-greater p m q (leb-false q m e)

pub greatest-more : (greatest : Option ℕ) (earlier : List Event) (event : Event) → IsGreatest greatest earlier → IsGreatest (greatest_by greatest event) (earlier ++ event ∷ [])
greatest-more greatest earlier (Step q) h p =
    some_in-push (is_step_from p) earlier (Step q) ∙ ap (λ b. b || nat_le p q) (h p) ∙ step-more greatest p q (reaches greatest q) refl
greatest-more greatest earlier (LaneStep q) h p = push-none (is_step_from p) earlier (LaneStep q) refl ∙ h p
greatest-more greatest earlier (Evaluation node) h p = push-none (is_step_from p) earlier (Evaluation node) refl ∙ h p
greatest-more greatest earlier (NetUpdate node) h p = push-none (is_step_from p) earlier (NetUpdate node) refl ∙ h p

-- so it tells whether a block begins with an event
pub begins-is : (greatest : Option ℕ) (earlier : List Event) (event : Event) → IsGreatest greatest earlier → begins_block earlier event ≡ begins_by greatest event
begins-is greatest earlier (Step q) h = ap not (h q)
begins-is greatest earlier (LaneStep q) h = refl
begins-is greatest earlier (Evaluation node) h = refl
begins-is greatest earlier (NetUpdate node) h = refl
