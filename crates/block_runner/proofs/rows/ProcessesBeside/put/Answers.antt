-- Of one process more something may be kept.
use Rattle.std.proofs.Common.{◌≡◌, ◌∙◌, Bool, true, List, [], ◌∷◌, ◌++◌, sym, ap, subst}
use Rattle.std.specs.Bool.{if◌then◌else◌}
use Rattle.std.specs.Result.{is_ok}
use Rattle.vf_base.specs.Base.{process_number}
use Rattle.vf_base.specs.declared.ids.ProcId.{ProcId}
use Rattle.std.specs.Prelude.{set}
use Rattle.block_runner.specs.Beside.{AreClean}
use Rattle.block_runner.proofs.Cleaned.{clean-put}
use Rattle.block_runner.proofs.rows.ProcessesBeside.put.Goals as goal

pub invariant_of-self-2 : goal.invariant_of-self-2
invariant_of-self-2 c =
    let rows = c.self.inside.rows.items in
    let stepped = c.self.inside.stepped.items in
    let ok : is_ok c.push.result ≡ true = ap is_ok c.in_ok-push.was in
    subst (λ (ids : List ProcId). AreClean (set rows (process_number c.args.process) c.args.row) ids)
    (sym (c.push.ensures.items ∙ ap (λ (b : Bool). if b then stepped ++ c.args.process ∷ [] else stepped) ok))
    (clean-put rows stepped c.args.process c.args.row c.self.invariant)
