-- The nets and variables of lists of parts that are joined.
use Rattle.std.proofs.Common.{◌≡◌, List, [], ◌∷◌, ◌++◌, refl, ap}
use Rattle.v_elab.specs.Parts.{Part, SignalPart, MemoryPart, AssignPart, GatePart, ProcessPart, InstancePart}
use Rattle.v_elab.specs.Drivers.{signals_of}

pub signals-append : (xs ys : List Part) → signals_of (xs ++ ys) ≡ signals_of xs ++ signals_of ys
signals-append [] ys = refl
signals-append (SignalPart signal ∷ xs) ys = ap (λ ss. signal ∷ ss) (signals-append xs ys)
signals-append (MemoryPart memory ∷ xs) ys = signals-append xs ys
signals-append (AssignPart drives value ∷ xs) ys = signals-append xs ys
signals-append (GatePart name kind drives path terminals ∷ xs) ys = signals-append xs ys
signals-append (ProcessPart process ∷ xs) ys = signals-append xs ys
signals-append (InstancePart ∷ xs) ys = signals-append xs ys
