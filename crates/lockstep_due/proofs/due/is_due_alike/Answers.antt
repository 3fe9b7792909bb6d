-- There are own updates, or none.
use Rattle.std.proofs.Common.{◌≡◌, map, sym, ap, ◌∙◌}
use Rattle.std.specs.Prelude.{Some, None, option_map}
use Rattle.vf_base.specs.Base.{process_number}
use Rattle.v_design.specs.Plain.{due_of}
use Rattle.copy_laws.specs.Differences.{own_of}
use Rattle.lockstep_laws.specs.Lockstep.{due_times}
use Rattle.lockstep_due.proofs.due.is_due_alike.Goals as goal

some-is : {A : Type 0} (one other : A) → Some one ≡ Some other → one ≡ other
some-is one other e = cc

pub returns-in_default : goal.returns-in_default
returns-in_default g c = λ yes own found.
    let none : own_of c.args.copy.now.updates (process_number c.args.process) ≡ None = sym c.updates.ensures ∙ ap (option_map _) c.in_default.is in
    let no : None ≡ Some own = sym none ∙ found in
    cc

pub returns : goal.returns
returns g c = λ yes own found.
    let is : map due_of c.in-Some.own.now ≡ own = some-is (map due_of c.in-Some.own.now) own (sym (ap (option_map _) c.in-Some.is) ∙ c.updates.ensures ∙ found) in
    ap due_times (sym is) ∙ c.have_same_times.ensures yes ∙ ap (λ updates. due_times (map due_of updates)) c.as_slice.ensures.value ∙ ap due_times c.in_ok-good.ensures
