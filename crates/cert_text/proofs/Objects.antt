-- The text of an object by its name and what stands behind it.
use Rattle.std.proofs.Common.{◌≡◌, ℕ, ◌+◌, ◌<◌, ◌&&◌, ◌||◌, List, [], ◌∷◌, ◌++◌, Bool, true, false, length, take, drop, map, get_or, refl, sym, ap, ◌∙◌}
use Rattle.std.proofs.Common.{append-nil, zero, suc, ◌≤◌, Some, None, arith}
use Rattle.std.specs.Prelude.{Option, nat_eq, slice_get, if◌then◌else◌}
use Rattle.std.specs.Option.{ForSome}
use Rattle.std.specs.List.{list_any}
use Rattle.std.specs.Str.{bytes_eq}
use Rattle.std.proofs.lemmas.Bool.{ne_eqb, eqb-true, and_parts, false≢true}
use Rattle.std.proofs.lemmas.List.{drop_more}
use Rattle.v_design.specs.Designs.{FlatObject, FlatDesign}
use Rattle.v_design.specs.declared.logic.ObjectKind.{ObjectKind}
use Rattle.v_design.specs.declared.logic.ObjectKind.TheVariants.{Var, Word, Net}
use Rattle.v_design.specs.declared.plan.Object.{Object}
use Rattle.v_design.specs.Plain.{object_of}
use Rattle.grade_report.specs.Objects.{has_pieces, between, bounds_text, piece_text, text_by_kind}
use Rattle.cert_laws.specs.Claims.{is_object}
use Rattle.cert_text.specs.Behind.{behind_name, prints_as}

-- a name, and what stands behind it
text-behind : (design : FlatDesign) (object : FlatObject) (kind : ObjectKind) → text_by_kind design object kind ≡ object.name ++ behind_name design object kind
text-behind design object Var = sym (append-nil object.name)
text-behind design object Word = refl
text-behind design object Net = by_test (has_pieces design object.name)
  where
    by_test : (several : Bool) → piece_text several object ≡ object.name ++ (if several then between (bounds_text object.high object.low) else [])
    by_test true = refl
    by_test false = sym (append-nil object.name)

-- a text that begins with a name
behind-found : (name word rest other : List ℕ) → bytes_eq (take (length name) word) name ≡ true → rest ≡ drop (length name) word → bytes_eq rest other ≡ bytes_eq word (name ++ other)
behind-found [] word rest other same is = ap (λ l. bytes_eq l other) is
behind-found (n ∷ name) [] rest other same is = absurd (false≢true same)
behind-found (n ∷ name) (w ∷ word) rest other same is =
    let p = and_parts (nat_eq w n) (bytes_eq (take (length name) word) name) same in
    behind-found name word rest other p.1 is ∙ ap (λ b. b && bytes_eq word (name ++ other)) (sym p.0)

-- one that doesn't
behind-missing : (name word other : List ℕ) → bytes_eq (take (length name) word) name ≡ false → false ≡ bytes_eq word (name ++ other)
behind-missing [] word other none = absurd (false≢true (sym none))
behind-missing (n ∷ name) [] other none = refl
behind-missing (n ∷ name) (w ∷ word) other none = by_test (nat_eq w n) none (behind-missing name word other)
  where
    by_test : (test : Bool) → (test && bytes_eq (take (length name) word) name) ≡ false →
        (bytes_eq (take (length name) word) name ≡ false → false ≡ bytes_eq word (name ++ other)) → false ≡ (test && bytes_eq word (name ++ other))
    by_test true none further = further none
    by_test false none further = refl

-- the name and what stood behind it
parts-back : (name word rest : List ℕ) → bytes_eq (take (length name) word) name ≡ true → rest ≡ drop (length name) word → word ≡ name ++ rest
parts-back [] word rest same is = sym is
parts-back (n ∷ name) [] rest same is = absurd (false≢true same)
parts-back (n ∷ name) (w ∷ word) rest same is =
    let p = and_parts (nat_eq w n) (bytes_eq (take (length name) word) name) same in
    ap (λ b. b ∷ word) (eqb-true w n p.0) ∙ ap (λ l. n ∷ l) (parts-back name word rest p.1 is)

-- whether a net of the word's name has several pieces
pub several-behind : (design : FlatDesign) (name word rest : List ℕ) (several : Option Bool) → bytes_eq (take (length name) word) name ≡ true → rest ≡ drop (length name) word →
    ForSome several (λ several. several ≡ has_pieces design word) → ForSome several (λ several. several ≡ has_pieces design (name ++ rest))
several-behind design name word rest several same is have told some = have told some ∙ ap (has_pieces design) (parts-back name word rest same is)

pub prints-found : (design : FlatDesign) (object : FlatObject) (word rest : List ℕ) → bytes_eq (take (length object.name) word) object.name ≡ true →
    rest ≡ drop (length object.name) word → bytes_eq rest (behind_name design object object.kind) ≡ prints_as design word object
prints-found design object word rest same is =
    behind-found object.name word rest (behind_name design object object.kind) same is ∙ ap (bytes_eq word) (sym (text-behind design object object.kind))

pub prints-missing : (design : FlatDesign) (object : FlatObject) (word : List ℕ) → bytes_eq (take (length object.name) word) object.name ≡ false → false ≡ prints_as design word object
prints-missing design object word none =
    behind-missing object.name word (behind_name design object object.kind) none ∙ ap (bytes_eq word) (sym (text-behind design object object.kind))

-- One by one

any-map : {A B : Type 0} (f : A → B) (test : B → Bool) (xs : List A) → list_any test (map f xs) ≡ list_any (λ x. test (f x)) xs
any-map f test [] = refl
any-map f test (x ∷ xs) = ap (λ b. test (f x) || b) (any-map f test xs)

-- all of them, as they are listed
pub objects-first : (design : FlatDesign) (word : List ℕ) (kept objects : List Object) → design.objects ≡ map object_of kept → objects ≡ kept →
    is_object design word ≡ list_any (λ object. prints_as design word (object_of object)) (drop 0 objects)
objects-first design word kept objects is same =
    ap (list_any (prints_as design word)) is ∙ (any-map object_of (prints_as design word) kept ∙ ap (list_any (λ object. prints_as design word (object_of object))) (sym same))

-- one that prints so
pub objects-found : (design : FlatDesign) (word : List ℕ) (objects : List Object) (i : ℕ) (object : Object) → i < length objects → object ≡ get_or objects i object →
    is_object design word ≡ list_any (λ object. prints_as design word (object_of object)) (drop i objects) → prints_as design word (object_of object) ≡ true →
    true ≡ is_object design word
objects-found design word objects i object below there is found =
    sym (is ∙ (ap (list_any (λ object. prints_as design word (object_of object))) (drop_more objects i object below)
    ∙ ap (λ b. b || list_any (λ object. prints_as design word (object_of object)) (drop (i + 1) objects)) (ap (λ o. prints_as design word (object_of o)) (sym there) ∙ found)))

-- one that doesn't
pub objects-more : (design : FlatDesign) (word : List ℕ) (objects : List Object) (i : ℕ) (object : Object) → i < length objects → object ≡ get_or objects i object →
    is_object design word ≡ list_any (λ object. prints_as design word (object_of object)) (drop i objects) → prints_as design word (object_of object) ≡ false →
    is_object design word ≡ list_any (λ object. prints_as design word (object_of object)) (drop (i + 1) objects)
objects-more design word objects i object below there is other =
    is ∙ (ap (list_any (λ object. prints_as design word (object_of object))) (drop_more objects i object below)
    ∙ ap (λ b. b || list_any (λ object. prints_as design word (object_of object)) (drop (i + 1) objects)) (ap (λ o. prints_as design word (object_of o)) (sym there) ∙ other))

-- By number

-- one that is there
pub object-there : (objects : List Object) (place : ℕ) (object : Object) → place < length objects → object ≡ get_or objects place object →
    slice_get (map object_of objects) place ≡ Some (object_of object)
object-there [] place object below is = absurd (omega arith)
object-there (other ∷ others) zero object below is = ap (λ o. Some (object_of o)) (sym is)
object-there (other ∷ others) (suc place) object below is = object-there others place object (omega arith) is

-- one that isn't
pub object-missing : (objects : List Object) (place : ℕ) → length objects ≤ place → slice_get (map object_of objects) place ≡ None
object-missing [] place above = refl
object-missing (other ∷ others) zero above = absurd (omega arith)
object-missing (other ∷ others) (suc place) above = object-missing others place (omega arith)

pub empty-word : (word : List ℕ) → nat_eq (length word) 0 ≡ bytes_eq word []
empty-word [] = refl
empty-word (b ∷ bs) = ne_eqb (suc (length bs)) 0 (λ e. omega arith)
