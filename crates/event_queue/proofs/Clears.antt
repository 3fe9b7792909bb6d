-- Processes that are let go of one by one.
use Rattle.std.proofs.Common.{◌≡◌, ℕ, zero, suc, ◌+◌, ◌<◌, ◌≤◌, List, [], ◌∷◌, length, get_or, refl, sym, ◌∙◌, ap, arith, add-one}
use Rattle.vf_base.specs.Lists.{change_at}
use Rattle.event_queue.specs.Queues.{HeldProcess, nothing_held, held_at, repeated}
use Rattle.event_queue.specs.declared.held.Held.{Held}
use Rattle.event_queue.specs.Arranged.{held_process, held_by_process}

-- the processes below a number are let go of
abbrev pub cleared_below : ℕ → List HeldProcess → List HeldProcess
cleared_below zero held = held
cleared_below (suc number) [] = []
cleared_below (suc number) (h ∷ held) = nothing_held ∷ cleared_below number held

-- one more
cleared-suc : (n : ℕ) (held : List HeldProcess) → change_at (cleared_below n held) n (λ (h : HeldProcess). nothing_held) ≡ cleared_below (suc n) held
cleared-suc zero [] = refl
cleared-suc zero (h ∷ held) = refl
cleared-suc (suc n) [] = refl
cleared-suc (suc n) (h ∷ held) = ap (λ hs. nothing_held ∷ hs) (cleared-suc n held)

pub cleared-more : (n : ℕ) (held : List HeldProcess) → change_at (cleared_below n held) n (λ (h : HeldProcess). nothing_held) ≡ cleared_below (n + 1) held
cleared-more n held = cleared-suc n held ∙ ap (λ m. cleared_below m held) (sym (add-one n))

-- all of them
pub cleared-all : (n : ℕ) (held : List HeldProcess) → length held ≤ n → cleared_below n held ≡ repeated nothing_held (length held)
cleared-all zero [] past = refl
cleared-all zero (h ∷ held) past = absurd (omega (arith, past))
cleared-all (suc n) [] past = refl
cleared-all (suc n) (h ∷ held) past = ap (λ hs. nothing_held ∷ hs) (cleared-all n held (omega (arith, past)))

-- what is held of a process that is read
pub held-read : (processes : List Held) (number : ℕ) (held : Held) → number < length processes → held ≡ get_or processes number held →
    held_process held ≡ held_at (held_by_process processes) number
held-read [] number held low is = absurd (omega (arith, low))
held-read (h ∷ processes) zero held low is = ap held_process is
held-read (h ∷ processes) (suc number) held low is = held-read processes number held (omega (arith, low)) is
