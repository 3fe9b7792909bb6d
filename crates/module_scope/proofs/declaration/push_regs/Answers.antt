use Rattle.std.proofs.Common.{List, [], ◌∷◌, ◌++◌, map, Option, IfSome, refl, sym, ap, subst, ◌∙◌}
use Rattle.module_scope.specs.Declarations.{declarations_seen}
use Rattle.name_checks.specs.BoundViews.{bounds_seen}
use Rattle.v_names.specs.Names.{reg_declarations, Declared, Declaration}
use Rattle.v_tree.specs.Views.{reg_of}
use Rattle.v_tree.specs.declared.item.Reg.{Reg}
use Rattle.vf_base.specs.Base.{source_place}
use Rattle.name_checks.specs.Rows.{list-more}
use Rattle.module_scope.specs.Groups.{IsGroup, BoundsIn}
use Rattle.module_scope.specs.declared.declaration.GroupBounds.{GroupBounds}
use Rattle.module_scope.proofs.Grouping.{adds-none, adds-both, adds-where}
use Rattle.module_scope.proofs.declaration.push_regs.Goals as goal

pub regs-preserved : goal.regs-preserved
regs-preserved c = record {
  list =
      list-more (λ (x : Reg). reg_declarations c.args.signed (bounds_seen c.args.bounds.bounds) (reg_of x ∷ []))
      (λ (xs : List Reg). reg_declarations c.args.signed (bounds_seen c.args.bounds.bounds) (map reg_of xs)) c.args.regs.now c.regs.reg-index c.reg-item.result
      (declarations_seen c.regs.list.items) (declarations_seen c.push.new.list.items) _ (λ y ys. refl) c.regs-test.true c.reg-item.is
      (c.in_ok-push.ensures.list ∙ ap (λ (k : Declared). let d : Declaration = record { name = c.reg-item.result.name; place = source_place c.reg-item.result.place; declared = k } in
      declarations_seen c.regs.list.items ++ d ∷ []) c.reg_declared-declared.ensures.declared) c.regs.invariant.list;
  grouped = adds-both (BoundsIn c.args.bounds) _ _ _ c.regs.invariant.grouped
      (adds-where _ (BoundsIn c.args.bounds) _ _ (λ groups h. subst (λ (b : Option GroupBounds). IfSome b (IsGroup groups))
      (sym c.reg_declared-declared.ensures.bounds) h) c.in_ok-push.ensures.grouped);
}

pub regs-init : goal.regs-init
regs-init c = record { list = refl; grouped = adds-none (BoundsIn c.args.bounds) _ }
