-- Strobes in order (the plan's own times; nothing of the language).
use Rattle.std.proofs.Common.{ℕ, ◌<◌, ◌≤◌, List, [], ◌∷◌, ◌++◌, arith}
use Rattle.vf_base.specs.Lists.{AllHold}
use Rattle.v_design.specs.WellFormed.{IsAscending}

-- the strobes after one are later
pub ascending-later : (earlier : List ℕ) (time : ℕ) (later : List ℕ) → IsAscending (earlier ++ time ∷ later) → AllHold (λ strobe. time < strobe) later
ascending-later [] time later a = a.0
ascending-later (x ∷ earlier) time later a = ascending-later earlier time later a.1

-- all are at a time or later, where all are later than one that isn't before it
pub all-since : (low time : ℕ) (strobes : List ℕ) → low ≤ time → AllHold (λ strobe. time < strobe) strobes → AllHold (λ strobe. low ≤ strobe) strobes
all-since low time [] h a = tt
all-since low time (x ∷ strobes) h a = (let y : time < x = a.0 in omega (arith, h, y), all-since low time strobes h a.1)
