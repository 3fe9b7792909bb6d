use Rattle.std.proofs.Common.{List, map, flat_map, refl}
use Rattle.vf_base.specs.Base.{source_place}
use Rattle.v_tree.specs.Trees.{SourceReg}
use Rattle.v_tree.specs.Views.{content_of, reg_of}
use Rattle.v_tree.specs.declared.item.Reg.{Reg}
use Rattle.v_names.specs.Names.{Declaration, names_declared, reg_declared, reg_declarations}
use Rattle.v_elab.specs.Walk.{parts_of_own}
use Rattle.name_checks.specs.Rows.{list-more}
use Rattle.elab_parts.specs.PartViews.{parts_of}
use Rattle.elab_items.specs.Narrow.{IsNarrow}
use Rattle.elab_items.proofs.Rows.{list-done, holds-of}
use Rattle.elab_items.proofs.declared.push_regs.Goals as goal

pub regs-preserved : goal.regs-preserved
regs-preserved c h signed bounds i =
    let reg = λ (x : Reg). let d : Declaration = record { name = x.name; place = source_place x.place; declared = reg_declared signed bounds (content_of x.content) } in d in
    list-more (λ (x : Reg). parts_of_own h (names_declared h.instance.inner) (reg x)) (λ (xs : List Reg).
    flat_map (parts_of_own h (names_declared h.instance.inner)) (reg_declarations signed bounds (map reg_of xs)))
    c.args.regs.now c.regs.reg-index c.reg-item.result (parts_of c.regs.parts.items) (parts_of c.push_own.new.parts.items) _ (λ y ys. refl) c.regs-test.true c.reg-item.is
    (c.in_ok-push_own.ensures h (reg c.reg-item.result) i refl refl) (c.regs.invariant h signed bounds i)

pub returns : goal.returns
returns c h signed bounds i =
    list-done (λ (xs : List Reg). flat_map (parts_of_own h (names_declared h.instance.inner)) (reg_declarations signed bounds (map reg_of xs))) c.args.regs.now c.regs.reg-index
    (parts_of c.regs.parts.items) _ refl c.regs-test.false (c.regs.invariant h signed bounds i)

pub push_own-requires : goal.push_own-requires
push_own-requires c =
    holds-of (λ (r : SourceReg). IsNarrow c.args.here.now.scope.value r.name) reg_of c.args.regs.now c.regs.reg-index c.reg-item.result c.requires c.regs-test.true c.reg-item.is
