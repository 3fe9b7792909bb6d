use Rattle.std.proofs.Common.{◌≡◌, ◌+◌, ◌-◌, ◌<◌, ℕ, length, map, drop, option_map, subst, arith}
use Rattle.v_tree.specs.Views.{module_of}
use Rattle.v_elab.specs.Walk.{module_named}
use Rattle.module_scope.specs.Kept.{kept}
use Rattle.elab_walk.specs.ModuleViews.{module_seen}
use Rattle.elab_walk.proofs.Named.{named-first}
use Rattle.elab_walk.proofs.modules.Modules.new.Goals as goal

pub modules-preserved : goal.modules-preserved
modules-preserved c name =
    let next : c.modules.place ≡ c.modules.place - 1 + 1 = omega arith in
    let low : c.modules.place - 1 < length c.as_slice-modules.result.now = omega arith in
    named-first c.as_slice-modules.result.now (c.modules.place - 1) name c.as_bytes.result.now _ (kept c.modules.by_name name) (kept c.put.new.self name)
    (c.in_ok-put.ensures name) c.as_bytes.ensures low c.index-modules-place.is
    (subst (λ (n : ℕ). option_map module_seen (kept c.modules.by_name name) ≡ module_named (map module_of (drop n c.as_slice-modules.result.now)) name) next (c.modules.invariant name))
