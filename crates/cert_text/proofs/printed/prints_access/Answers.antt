use Rattle.std.proofs.Common.{◌≡◌, Bool, IfOk, subst, arith, rules}
use Rattle.vf_base.specs.Base.{reported_access}
use Rattle.v_design.specs.PlainDesigns.{design_of}
use Rattle.v_design.specs.RulesHold.{rules_hold}
use Rattle.cert_text.proofs.SameText.{other-process, other-line, same-object}
use Rattle.cert_text.proofs.printed.prints_access.Goals as goal

pub returns-then-access-claimed : goal.returns-then-access-claimed
returns-then-access-claimed c =
    let design = design_of c.args.design.now in
    let claimed = c.args.claimed.now in
    other-process design (reported_access c.args.access) claimed.kind claimed.object.now claimed.process.0 claimed.line (rules_hold design c.args.design.now.rules)
    (omega arith) (omega arith) c.if-access-claimed.true

pub returns-then-access-claimed-2 : goal.returns-then-access-claimed-2
returns-then-access-claimed-2 c =
    let design = design_of c.args.design.now in
    let claimed = c.args.claimed.now in
    other-line design (reported_access c.args.access) claimed.kind claimed.object.now claimed.process.0 claimed.line (rules_hold design c.args.design.now.rules)
    (omega arith) (omega arith) c.if-access-claimed-2.true

pub returns : goal.returns
returns c =
    let design = design_of c.args.design.now in
    let claimed = c.args.claimed.now in
    let P : Bool → Type 0 = λ meant. IfOk c.prints_object.result (λ same. same ≡ meant) in
    let one : c.args.access.kind ≡ claimed.kind = search rules in
    let two : c.args.access.process.0 ≡ claimed.process.0 = omega arith in
    let three : c.args.access.line ≡ claimed.line = omega arith in
    subst P (same-object design (reported_access c.args.access) claimed.kind claimed.object.now claimed.process.0 claimed.line (rules_hold design c.args.design.now.rules) one two three)
    c.prints_object.ensures
