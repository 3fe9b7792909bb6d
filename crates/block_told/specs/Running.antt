-- The processes in the midst of a run as they are kept, the innermost first (nothing of the language).
use Rattle.std.specs.Prelude.{ℕ, Bool, false, List, [], ◌∷◌, map, reverse, cond, nat_eq}
use Rattle.vf_base.specs.Base.{process_number}
use Rattle.vf_base.specs.declared.ids.ProcId.{ProcId}

-- the numbers of the processes, the innermost first
abbrev pub running_of : List ProcId → List ℕ
running_of running = reverse (map process_number running)

-- whether the innermost run is that of a process
abbrev pub is_innermost : List ℕ → ℕ → Bool
is_innermost [] process = false
is_innermost (first ∷ rest) process = nat_eq first process

-- the runs without the innermost one
abbrev pub outer_runs : List ℕ → List ℕ
outer_runs [] = []
outer_runs (first ∷ rest) = rest

-- the runs after the innermost one goes on or ends
abbrev pub innermost_after : Bool → List ℕ → List ℕ
innermost_after ready runs = cond ready runs (outer_runs runs)

-- the runs after one more has begun, which goes on or is at its end
abbrev pub begun_after : ℕ → Bool → List ℕ → List ℕ
begun_after process ready runs = cond ready (process ∷ runs) runs

-- the runs after a step of a process, after which it is ready or not
abbrev pub runs_after : ℕ → Bool → List ℕ → List ℕ
runs_after process ready runs = cond (is_innermost runs process) (innermost_after ready runs) (begun_after process ready runs)
