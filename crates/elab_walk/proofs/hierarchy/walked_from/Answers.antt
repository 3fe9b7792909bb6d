use Rattle.std.proofs.Common.{List, [], ◌++◌, Ok, refl, sym, ap, ◌∙◌}
use Rattle.std.proofs.lemmas.Result.{err_from_is_err_and}
use Rattle.v_tree.specs.Views.{module_of}
use Rattle.v_elab.specs.Parts.{Part}
use Rattle.v_elab.specs.Walk.{Entered, walked_from}
use Rattle.elab_walk.specs.declared.fault.WalkFault.TheVariants.{NoMemory}
use Rattle.elab_walk.proofs.Turns.{err-is}
use Rattle.elab_walk.proofs.hierarchy.walked_from.Goals as goal

pub returns-in_err-new : goal.returns-in_err-new
returns-in_err-new c all modules =
    let p = err_from_is_err_and c.from_residual-in_err-new.result c.from_residual-in_err-new.ensures.1 in
    err-is (walked_from all c.args.mode (module_of c.args.top.now)) _ c.from_residual-in_err-new.result p.0 NoMemory p.1 p.2 tt

pub returns-in_err-enter : goal.returns-in_err-enter
returns-in_err-enter c all modules =
    let p = err_from_is_err_and c.from_residual-in_err-enter.result c.from_residual-in_err-enter.ensures.1 in
    let e : Entered = record { inner = module_of c.args.top.now; given = []; path = []; depth = 0; joins = [] } in
    err-is (walked_from all c.args.mode (module_of c.args.top.now)) _ c.from_residual-in_err-enter.result p.0 c.in_err-enter.field-0.0 p.1 p.2
    (c.in_err-enter.ensures all e modules (record {
      inner_is = refl;
      formals_are = c.in_ok-formals.ensures;
      given_are = refl;
      path_is = c.in_ok-new.ensures.ok ∙ c.in_ok-from_bytes.ensures;
      depth_is = refl;
      joins_are = refl;
    }) [] c.new-walked.ensures.counted)

pub returns : goal.returns
returns c all modules =
    let e : Entered = record { inner = module_of c.args.top.now; given = []; path = []; depth = 0; joins = [] } in
    let grown = c.in_ok-enter.ensures all e modules (record {
      inner_is = refl;
      formals_are = c.in_ok-formals.ensures;
      given_are = refl;
      path_is = c.in_ok-new.ensures.ok ∙ c.in_ok-from_bytes.ensures;
      depth_is = refl;
      joins_are = refl;
    }) [] c.new-walked.ensures.counted in
    grown.wanted_are ∙ ap (λ (ps : List Part). Ok ps) (sym (grown.pushed ∙ ap (λ (ps : List Part). ps ++ grown.more) c.new-walked.ensures.parts))
