-- The lists of an index as they are kept (nothing of the language).
use Rattle.std.specs.Prelude.{ℕ, List, map, Vec}
use Rattle.std.specs.declared.alloc.Global.{Global}
use Rattle.vf_base.specs.declared.ids.ProcId.{ProcId}
use Rattle.vf_base.specs.Base.{process_number}

-- lists of processes as numbers
abbrev pub process_lists : List (Vec ProcId Global) → List (List ℕ)
process_lists lists = map (λ (list : Vec ProcId Global). map process_number list.items) lists
