-- Connections that are read one after the other, and ways along them.
use Rattle.std.proofs.Common.{◌≡◌, ℕ, zero, suc, ◌+◌, ◌<◌, ◌≤◌, Bool, true, false, ◌||◌, ◌⊎◌, inl, inr, List, [], ◌∷◌, ◌++◌, map, replicate, length, get_or, set, drop, All, Option, Some, None}
use Rattle.std.proofs.Common.{nat_eq, refl, sym, ap, ap₂, ◌∙◌, arith, add-one, zero-add}
use Rattle.std.proofs.Math.Seq.{drop-cons}
use Rattle.std.proofs.lemmas.Bool.{cases_eq, eq-eqb, ne_eqb}
use Rattle.std.proofs.lemmas.List.{get_or-replicate, get_or-set_same, get_or-set_other, length-set, map-append}
use Rattle.v_design.specs.Expressions.{up_from}
use Rattle.vf_base.specs.Lists.{has}
use Rattle.vf_base.specs.Base.{SourcePlace, source_place}
use Rattle.vf_base.specs.declared.ids.Place.{Place}
use Rattle.v_names.specs.Faults.{Fault, BadConnection, first_fault, fault_at}
use Rattle.v_ports.specs.JoinedObjects.{PortUsed, actual_of, twice_used, go_up, last_along}
use Rattle.v_ports.specs.Joins.{use_at, is_used, actual_or, next_of}
use Rattle.v_ports.specs.declared.join.Use.{Use}
use Rattle.v_ports.specs.declared.join.Use.TheVariants.{Unused, Used}

-- the connections before those that are left were read
pub record AreRead (parts left : List PortUsed) (uses : List Use) (objects : ℕ) : Type 0 where
  pub earlier : List ℕ
  pub faults : twice_used earlier left ≡ twice_used [] parts
  pub named : (object : ℕ) → is_used (use_at uses object) ≡ has earlier object
  pub actuals : (object : ℕ) → actual_or (use_at uses object) (actual_of left object) ≡ actual_of parts object
  pub long : length uses ≡ objects

none-used : (n object : ℕ) → use_at (replicate n Unused) object ≡ Unused
none-used zero object = refl
none-used (suc n) zero = refl
none-used (suc n) (suc object) = none-used n object

long-replicate : (n : ℕ) → length (replicate n Unused) ≡ n
long-replicate zero = refl
long-replicate (suc n) = ap (λ k. suc k) (long-replicate n)

pub none-read : (parts : List PortUsed) (uses : List Use) (objects : ℕ) → uses ≡ replicate objects Unused → AreRead parts parts uses objects
none-read parts uses objects e = record {
  earlier = [];
  faults = refl;
  named = λ object. ap (λ us. is_used (use_at us object)) e ∙ ap is_used (none-used objects object);
  actuals = λ object. ap (λ us. actual_or (use_at us object) (actual_of parts object)) e ∙ ap (λ u. actual_or u (actual_of parts object)) (none-used objects object);
  long = ap length e ∙ long-replicate objects;
}

unused-where : (u : Use) → is_used u ≡ false → u ≡ Unused
unused-where Unused e = refl
unused-where (Used actual) e = cc

-- one connection more, whose port no earlier one names
named-by : (uses : List Use) (earlier : List ℕ) (used : PortUsed) (object : ℕ) → used.formal < length uses → is_used (use_at uses object) ≡ has earlier object
    → (used.formal ≡ object) ⊎ (used.formal ≡ object → ⊥) → is_used (use_at (set uses used.formal (Used used.actual)) object) ≡ (nat_eq used.formal object || has earlier object)
named-by uses earlier used object below e (inl same) =
    ap (λ o. is_used (use_at (set uses used.formal (Used used.actual)) o)) (sym same)
    ∙ ap is_used (get_or-set_same uses used.formal (Used used.actual) Unused below) ∙ sym (ap (λ b. b || has earlier object) (eq-eqb used.formal object same))
named-by uses earlier used object below e (inr other) =
    ap is_used (get_or-set_other uses used.formal object (Used used.actual) Unused (λ same. other (sym same))) ∙ e ∙ sym (ap (λ b. b || has earlier object) (ne_eqb used.formal object other))

actual-by : (parts rest : List PortUsed) (uses : List Use) (used : PortUsed) (object : ℕ) → used.formal < length uses → is_used (use_at uses used.formal) ≡ false
    → ((o : ℕ) → actual_or (use_at uses o) (actual_of (used ∷ rest) o) ≡ actual_of parts o)
    → (used.formal ≡ object) ⊎ (used.formal ≡ object → ⊥) → actual_or (use_at (set uses used.formal (Used used.actual)) object) (actual_of rest object) ≡ actual_of parts object
actual-by parts rest uses used object below free e (inl same) =
    let before = e used.formal in
    let fresh : use_at uses used.formal ≡ Unused = unused-where (use_at uses used.formal) free in
    let told : actual_of (used ∷ rest) used.formal ≡ used.actual = rw (eq-eqb used.formal used.formal refl) refl in
    let now : actual_of parts used.formal ≡ used.actual = sym before ∙ ap (λ u. actual_or u (actual_of (used ∷ rest) used.formal)) fresh ∙ told in
    ap (λ o. actual_or (use_at (set uses used.formal (Used used.actual)) o) (actual_of rest o)) (sym same)
    ∙ ap (λ u. actual_or u (actual_of rest used.formal)) (get_or-set_same uses used.formal (Used used.actual) Unused below) ∙ sym now ∙ ap (actual_of parts) same
actual-by parts rest uses used object below free e (inr other) =
    let told : actual_of (used ∷ rest) object ≡ actual_of rest object = rw (ne_eqb used.formal object other) refl in
    ap (λ u. actual_or u (actual_of rest object)) (get_or-set_other uses used.formal object (Used used.actual) Unused (λ same. other (sym same)))
    ∙ ap (actual_or (use_at uses object)) (sym told) ∙ e object

one-fault : (parts rest : List PortUsed) (earlier : List ℕ) (used : PortUsed) → twice_used earlier (used ∷ rest) ≡ twice_used [] parts → has earlier used.formal ≡ false
    → twice_used (used.formal ∷ earlier) rest ≡ twice_used [] parts
one-fault parts rest earlier used e free = rw free at e

pub one-read : (parts rest : List PortUsed) (uses : List Use) (objects : ℕ) (used : PortUsed) → AreRead parts (used ∷ rest) uses objects → used.formal < objects →
    is_used (use_at uses used.formal) ≡ false
    → AreRead parts rest (set uses used.formal (Used used.actual)) objects
one-read parts rest uses objects used r below free = record {
  earlier = used.formal ∷ r.earlier;
  faults = one-fault parts rest r.earlier used r.faults (sym (r.named used.formal) ∙ free);
  named = λ object. named-by uses r.earlier used object (omega (arith, r.long)) (r.named object) (cases_eq used.formal object);
  actuals = λ object. actual-by parts rest uses used object (omega (arith, r.long)) free r.actuals (cases_eq used.formal object);
  long = length-set uses used.formal (Used used.actual) ∙ r.long;
}

first-twice : (parts rest : List PortUsed) (earlier : List ℕ) (used : PortUsed) → twice_used earlier (used ∷ rest) ≡ twice_used [] parts → has earlier used.formal ≡ true
    → first_fault (twice_used [] parts) ≡ Some (fault_at used.place BadConnection)
first-twice parts rest earlier used e there = let f = rw there at e in ap first_fault (sym f)

pub read-twice : (parts rest : List PortUsed) (uses : List Use) (objects : ℕ) (used : PortUsed) → AreRead parts (used ∷ rest) uses objects → is_used (use_at uses used.formal) ≡ true
    → first_fault (twice_used [] parts) ≡ Some (fault_at used.place BadConnection)
read-twice parts rest uses objects used r there = first-twice parts rest r.earlier used r.faults (sym (r.named used.formal) ∙ there)

pub all-read : (parts : List PortUsed) (uses : List Use) (objects : ℕ) → AreRead parts [] uses objects →
    (first_fault (twice_used [] parts) ≡ None) × ((object : ℕ) → next_of uses object ≡ actual_of parts object)
all-read parts uses objects r = (ap first_fault (sym r.faults), r.actuals)

-- the way that is left leads where the whole way leads
pub record WayLeft (next : ℕ → Option ℕ) (joins done object now : ℕ) : Type 0 where
  pub left : ℕ
  pub together : left + done ≡ joins
  pub leads : last_along left next now ≡ last_along joins next object

pub whole-way : (next : ℕ → Option ℕ) (joins object : ℕ) → WayLeft next joins 0 object object
whole-way next joins object = record { left = joins; together = omega arith; leads = refl }

step-left : (next : ℕ → Option ℕ) (joins done object now actual left : ℕ) → done < joins → left + done ≡ joins → last_along left next now ≡ last_along joins next object → next now ≡ Some actual
    → WayLeft next joins (done + 1) object actual
step-left next joins done object now actual zero below t e s = absurd (omega arith)
step-left next joins done object now actual (suc left) below t e s = record { left = left; together = omega arith; leads = (rw s at e) }

pub one-join : (next : ℕ → Option ℕ) (joins done object now actual : ℕ) → done < joins → WayLeft next joins done object now → next now ≡ Some actual → WayLeft next joins (done + 1) object actual
one-join next joins done object now actual below w s = step-left next joins done object now actual w.left below w.together w.leads s

ends-at : (next : ℕ → Option ℕ) (left now : ℕ) → next now ≡ None → last_along left next now ≡ now
ends-at next zero now e = refl
ends-at next (suc left) now e = rw e refl

pub way-ends : (next : ℕ → Option ℕ) (joins done object now : ℕ) → WayLeft next joins done object now → next now ≡ None → now ≡ last_along joins next object
way-ends next joins done object now w e = sym (ends-at next w.left now e) ∙ w.leads

none-left : (next : ℕ → Option ℕ) (joins done object now left : ℕ) → joins ≤ done → left + done ≡ joins → last_along left next now ≡ last_along joins next object → now ≡ last_along joins next object
none-left next joins done object now zero past t e = e
none-left next joins done object now (suc left) past t e = absurd (omega arith)

pub way-done : (next : ℕ → Option ℕ) (joins done object now : ℕ) → joins ≤ done → WayLeft next joins done object now → now ≡ last_along joins next object
way-done next joins done object now past w = none-left next joins done object now w.left past w.together w.leads

go-same : (up over : ℕ → ℕ) → ((o : ℕ) → up o ≡ over o) → (object : ℕ) (a b : Option ℕ) → a ≡ b → go_up up object a ≡ go_up over object b
go-same up over e object None None s = refl
go-same up over e object None (Some y) s = cc
go-same up over e object (Some x) None s = cc
go-same up over e object (Some x) (Some y) s = let same : x ≡ y = cc in e x ∙ ap over same

pub same-way : (next other : ℕ → Option ℕ) → ((o : ℕ) → next o ≡ other o) → (joins object : ℕ) → last_along joins next object ≡ last_along joins other object
same-way next other e zero object = refl
same-way next other e (suc joins) object = go-same (last_along joins next) (last_along joins other) (same-way next other e joins) object (next object) (other object) (e object)

up-suc : (from n : ℕ) → up_from from (suc n) ≡ up_from from n ++ (from + n) ∷ []
up-suc from zero = let e : from ≡ from + 0 = omega arith in ap (λ k. k ∷ []) e
up-suc from (suc n) = let e : from + 1 + n ≡ from + suc n = omega arith in ap (λ rest. from ∷ rest) (up-suc (from + 1) n ∙ ap (λ k. up_from (from + 1) n ++ k ∷ []) e)

-- numbers in order, one more
pub up-more : (from n : ℕ) → up_from from (n + 1) ≡ up_from from n ++ (from + n) ∷ []
up-more from n = ap (up_from from) (add-one n) ∙ up-suc from n

-- the objects so far, and one more
pub object-turn : (f : ℕ → ℕ) (n : ℕ) (joined new : List ℕ) (last : ℕ) → joined ≡ map f (up_from 0 n) → new ≡ joined ++ last ∷ [] → last ≡ f n → new ≡ map f (up_from 0 (n + 1))
object-turn f n joined new last e s t =
    s ∙ ap₂ (λ xs x. xs ++ x ∷ []) e (t ∙ ap f (sym (zero-add n))) ∙ sym (ap (map f) (up-more 0 n) ∙ map-append f (up_from 0 n) ((0 + n) ∷ []))

pub same-maps : (f g : ℕ → ℕ) (xs : List ℕ) → ((x : ℕ) → f x ≡ g x) → map f xs ≡ map g xs
same-maps f g [] e = refl
same-maps f g (x ∷ xs) e = ap₂ (λ y ys. y ∷ ys) (e x) (same-maps f g xs e)
