use Rattle.std.proofs.Common.{◌≡◌, Bool, true, false, take, length, IfOk, subst}
use Rattle.std.specs.Str.{bytes_eq}
use Rattle.v_design.specs.Plain.{object_of}
use Rattle.v_design.specs.PlainDesigns.{design_of}
use Rattle.cert_text.proofs.Objects.{several-behind, prints-found, prints-missing}
use Rattle.cert_text.proofs.object.prints_as.Goals as goal

pub is_behind-requires : goal.is_behind-requires
is_behind-requires c =
    let same : bytes_eq (take (length c.args.object.now.name) c.args.word.now) c.args.object.now.name ≡ true = rw c.as_bytes.ensures at c.in-Some.ensures.cases.0 in
    let rest = rw c.as_bytes.ensures at c.in-Some.ensures.cases.1 in
    several-behind (design_of c.args.design.now) c.args.object.now.name c.args.word.now c.in-Some.bytes.now c.args.several same rest c.requires

pub returns-in-Some : goal.returns-in-Some
returns-in-Some c =
    let P : Bool → Type 0 = λ meant. IfOk c.is_behind.result (λ same. same ≡ meant) in
    let same : bytes_eq (take (length c.args.object.now.name) c.args.word.now) c.args.object.now.name ≡ true = rw c.as_bytes.ensures at c.in-Some.ensures.cases.0 in
    let rest = rw c.as_bytes.ensures at c.in-Some.ensures.cases.1 in
    subst P (prints-found (design_of c.args.design.now) (object_of c.args.object.now) c.args.word.now c.in-Some.bytes.now same rest) c.is_behind.ensures

pub returns-in-None : goal.returns-in-None
returns-in-None c =
    let none : bytes_eq (take (length c.args.object.now.name) c.args.word.now) c.args.object.now.name ≡ false = rw c.as_bytes.ensures at c.in-None.ensures.cases in
    prints-missing (design_of c.args.design.now) (object_of c.args.object.now) c.args.word.now none
