use Rattle.std.proofs.Common.{◌≡◌, drop, map, flat_map}
use Rattle.v_names.specs.Names.{content_faults}
use Rattle.v_tree.specs.Trees.{SourceReg}
use Rattle.v_tree.specs.Views.{reg_of}
use Rattle.name_checks.specs.Noted.{noted}
use Rattle.name_checks.proofs.items.note_regs.Given as goal

abbrev pub invariant-regs : goal.invariant-regs
invariant-regs l = noted l.first (flat_map (λ (r : SourceReg). content_faults l.scope r.content) (map reg_of (drop l.reg-index l.regs))) ≡ noted l.initial.first
    (flat_map (λ (r : SourceReg). content_faults l.scope r.content) (map reg_of l.regs))
