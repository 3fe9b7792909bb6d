use Rattle.std.proofs.Common.{◌++◌, List, map, flat_map, refl, ap, sym, ◌∙◌}
use Rattle.v_names.specs.Names.{content_faults}
use Rattle.v_tree.specs.Trees.{SourceReg}
use Rattle.v_tree.specs.Views.{content_of, reg_of}
use Rattle.v_tree.specs.declared.item.Reg.{Reg}
use Rattle.name_checks.specs.Rows.{rest-more}
use Rattle.name_checks.proofs.items.note_regs.Goals as goal

pub regs-preserved : goal.regs-preserved
regs-preserved c =
    rest-more (λ (x : Reg). content_faults c.args.scope.now (content_of x.content)) (λ (xs : List Reg). flat_map (λ (r : SourceReg). content_faults c.args.scope.now r.content) (map reg_of xs))
    c.args.regs.now c.regs.reg-index c.reg-item.result
    c.regs.first c.note_content.new.first _ (λ y ys. refl) c.regs-test.true c.reg-item.is c.in_ok-note_content.ensures c.regs.invariant
