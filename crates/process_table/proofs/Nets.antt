-- Which objects of a design are net pieces (nothing of the language).
use Rattle.std.proofs.Common.{◌≡◌, ℕ, zero, suc, ◌+◌, ◌<◌, Bool, true, false, List, [], ◌∷◌, length, get_or, map, refl, ap, sym, subst, ◌∙◌, arith}
use Rattle.std.specs.Prelude.{nat_eq, ◌||◌}
use Rattle.std.proofs.lemmas.Bool.{ne_eqb, eq-eqb}
use Rattle.std.proofs.lemmas.List.{get_or-map, length-map}
use Rattle.vf_base.specs.Lists.{has}
use Rattle.v_design.specs.Designs.{FlatObject, FlatDesign}
use Rattle.v_design.specs.Paths.{numbers_of, net_pieces, is_net}
use Rattle.v_design.specs.Plain.{object_of}
use Rattle.v_design.specs.declared.plan.Object.{Object}

not_low : (test : FlatObject → Bool) (number : ℕ) (objects : List FlatObject) (o : ℕ) → o < number → has (numbers_of test number objects) o ≡ false
not_low test number [] o low = refl
not_low test number (object ∷ objects) o low =
    let rest : has (numbers_of test (number + 1) objects) o ≡ false = not_low test (number + 1) objects o (omega arith) in
    elim (test object) as (λ b. has (elim b [ true ↦ number ∷ numbers_of test (number + 1) objects | false ↦ numbers_of test (number + 1) objects ]) o ≡ false) [
      | true ↦ ap (λ b. b || has (numbers_of test (number + 1) objects) o) (ne_eqb number o (λ e. omega arith)) ∙ rest
      | false ↦ rest
    ]

-- a number is among those of the objects that pass, where its object passes
has-numbers_of : (test : FlatObject → Bool) (number : ℕ) (objects : List FlatObject) (o : ℕ) (d : FlatObject) → o < length objects →
    has (numbers_of test number objects) (number + o) ≡ test (get_or objects o d)
has-numbers_of test number [] o d low = absurd (omega arith)
has-numbers_of test number (object ∷ objects) zero d low =
    let here : nat_eq number (number + 0) ≡ true = eq-eqb number (number + 0) (omega arith) in
    let rest : has (numbers_of test (number + 1) objects) (number + 0) ≡ false = not_low test (number + 1) objects (number + 0) (omega arith) in
    elim (test object) as (λ b. has (elim b [ true ↦ number ∷ numbers_of test (number + 1) objects | false ↦ numbers_of test (number + 1) objects ]) (number + 0) ≡ b) [
      | true ↦ ap (λ b. b || has (numbers_of test (number + 1) objects) (number + 0)) here
      | false ↦ rest
    ]
has-numbers_of test number (object ∷ objects) (suc o) d low =
    let other : nat_eq number (number + suc o) ≡ false = ne_eqb number (number + suc o) (λ e. omega arith) in
    let rest : has (numbers_of test (number + 1) objects) (number + suc o) ≡ test (get_or objects o d) =
    ap (has (numbers_of test (number + 1) objects)) (let e : number + suc o ≡ number + 1 + o = omega arith in e) ∙ has-numbers_of test (number + 1) objects o d (omega arith) in
    elim (test object) as (λ b. has (elim b [ true ↦ number ∷ numbers_of test (number + 1) objects | false ↦ numbers_of test (number + 1) objects ]) (number + suc o) ≡ test (get_or objects o d)) [
      | true ↦ ap (λ b. b || has (numbers_of test (number + 1) objects) (number + suc o)) other ∙ rest
      | false ↦ rest
    ]

-- whether an object of a design is a net piece, by its kind as it is read
pub net-by-kind : (design : FlatDesign) (objects list : List Object) (o : ℕ) (object : Object) → map object_of objects ≡ design.objects → list ≡ objects → o < length (map object_of objects) →
    is_net (get_or list o object).kind ≡ has (net_pieces design) o
net-by-kind design objects list o object is same low =
    ap (λ l. is_net (get_or l o object).kind) same
    ∙ sym (ap (λ (x : FlatObject). is_net x.kind) (get_or-map object_of objects o object (object_of object) (rw (sym (length-map objects object_of)) low)))
    ∙ ap (λ l. is_net (get_or l o (object_of object)).kind) is
    ∙ sym (ap (has (net_pieces design)) (let e : o ≡ 0 + o = omega arith in e)
    ∙ has-numbers_of (λ (object : FlatObject). is_net object.kind) 0 design.objects o (object_of object) (subst (λ l. o < length l) is low))
