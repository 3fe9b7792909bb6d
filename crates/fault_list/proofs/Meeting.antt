-- The places at which the faults that stand for classes are first met.
use Rattle.std.proofs.Common.{take, get_or, ◌≡◌, ℕ, zero, suc, ◌+◌, ◌<◌, ◌≤◌, Bool, true, false, ◌&&◌, List, [], ◌∷◌, ◌++◌, length, Option, Some, None, refl, ap, sym, ◌∙◌, subst, arith, ◌⊎◌, inl}
use Rattle.std.proofs.Common.{inr, ⊎_elim, length-append}
use Rattle.std.specs.Prelude.{slice_get, nat_eq}
use Rattle.std.specs.Bool.{beq}
use Rattle.std.proofs.lemmas.Bool.{and_parts, and_from, eqb-true, eq-eqb, false≢true}
use Rattle.std.proofs.lemmas.Option.{slice_get_within}
use Rattle.std.proofs.lemmas.List.{take_more, map_push, length-map, length-take-le}
use Rattle.v_design.specs.Designs.{FlatDesign, StuckAt}
use Rattle.v_design.specs.Plain.{fault_of}
use Rattle.v_design.specs.declared.plan.Fault.{Fault}
use Rattle.fault_list.specs.Listed.{stuck}
use Rattle.v_design.specs.WellFormed.{KeepsRules}
use Rattle.fault_list.specs.declared.key.FaultKey.{FaultKey}
use Rattle.fault_list.specs.declared.key.FaultKey.TheVariants.{Var, Out, Terminal}
use Rattle.fault_list.specs.Keys.{key_fault}
use Rattle.fault_list.specs.SameKeys.{same_key, met_at, met_place, IsMet}
use Rattle.fault_list.specs.Classes.{standing, AreClasses}
use Rattle.fault_list.proofs.Standing.{class-stands, stands-class}

-- Keys

beq-true : (a b : Bool) → beq a b ≡ true → a ≡ b
beq-true true true e = refl
beq-true true false e = absurd (false≢true e)
beq-true false true e = absurd (false≢true e)
beq-true false false e = refl

beq-same : (a : Bool) → beq a a ≡ true
beq-same true = refl
beq-same false = refl

same-true : (a b : FaultKey) → same_key a b ≡ true → a ≡ b
same-true (Var object bit value) (Var other place held) e =
    let p = and_parts (nat_eq object other) (nat_eq bit place && beq value held) e in let q = and_parts (nat_eq bit place) (beq value held) p.1 in
    let one : object ≡ other = eqb-true object other p.0 in let two : bit ≡ place = eqb-true bit place q.0 in let three : value ≡ held = beq-true value held q.1 in cc
same-true (Var object bit value) (Out node other place held) e = absurd (false≢true e)
same-true (Var object bit value) (Terminal node terminal held) e = absurd (false≢true e)
same-true (Out node object bit value) (Var other place held) e = absurd (false≢true e)
same-true (Out node object bit value) (Out driver other place held) e =
    let p = and_parts (nat_eq node driver) (nat_eq object other && (nat_eq bit place && beq value held)) e in
    let q = and_parts (nat_eq object other) (nat_eq bit place && beq value held) p.1 in let r = and_parts (nat_eq bit place) (beq value held) q.1 in
    let zero : node ≡ driver = eqb-true node driver p.0 in
    let one : object ≡ other = eqb-true object other q.0 in let two : bit ≡ place = eqb-true bit place r.0 in let three : value ≡ held = beq-true value held r.1 in cc
same-true (Out node object bit value) (Terminal driver terminal held) e = absurd (false≢true e)
same-true (Terminal node terminal value) (Var other place held) e = absurd (false≢true e)
same-true (Terminal node terminal value) (Out driver other place held) e = absurd (false≢true e)
same-true (Terminal node terminal value) (Terminal driver number held) e =
    let p = and_parts (nat_eq node driver) (nat_eq terminal number && beq value held) e in let q = and_parts (nat_eq terminal number) (beq value held) p.1 in
    let one : node ≡ driver = eqb-true node driver p.0 in let two : terminal ≡ number = eqb-true terminal number q.0 in let three : value ≡ held = beq-true value held q.1 in cc

same-refl : (a : FaultKey) → same_key a a ≡ true
same-refl (Var object bit value) = and_from (nat_eq object object) (nat_eq bit bit && beq value value) (eq-eqb object object refl)
    (and_from (nat_eq bit bit) (beq value value) (eq-eqb bit bit refl) (beq-same value))
same-refl (Out node object bit value) =
    and_from (nat_eq node node) (nat_eq object object && (nat_eq bit bit && beq value value)) (eq-eqb node node refl)
    (and_from (nat_eq object object) (nat_eq bit bit && beq value value) (eq-eqb object object refl) (and_from (nat_eq bit bit) (beq value value) (eq-eqb bit bit refl) (beq-same value)))
same-refl (Terminal node terminal value) =
    and_from (nat_eq node node) (nat_eq terminal terminal && beq value value) (eq-eqb node node refl)
    (and_from (nat_eq terminal terminal) (beq value value) (eq-eqb terminal terminal refl) (beq-same value))

key-one : (a b : FaultKey) → key_fault a ≡ key_fault b → a ≡ b
key-one a b e = by_parts a b (ap (λ (f : StuckAt). f.site) e) (ap (λ (f : StuckAt). f.value) e)
  where
    by_parts : (a b : FaultKey) → (key_fault a).site ≡ (key_fault b).site → (key_fault a).value ≡ (key_fault b).value → a ≡ b
    by_parts (Var object bit value) (Var other place held) site same = cc
    by_parts (Var object bit value) (Out node other place held) site same = absurd (cc)
    by_parts (Var object bit value) (Terminal node terminal held) site same = absurd (cc)
    by_parts (Out node object bit value) (Var other place held) site same = absurd (cc)
    by_parts (Out node object bit value) (Out driver other place held) site same = cc
    by_parts (Out node object bit value) (Terminal driver terminal held) site same = absurd (cc)
    by_parts (Terminal node terminal value) (Var other place held) site same = absurd (cc)
    by_parts (Terminal node terminal value) (Out driver other place held) site same = absurd (cc)
    by_parts (Terminal node terminal value) (Terminal driver number held) site same = cc

-- Lists with one more element

get-before : {A : Type 0} (xs : List A) (x y : A) (i : ℕ) → slice_get xs i ≡ Some y → slice_get (xs ++ x ∷ []) i ≡ Some y
get-before [] x y i e = absurd (cc)
get-before (z ∷ zs) x y zero e = e
get-before (z ∷ zs) x y (suc i) e = get-before zs x y i e

get-last : {A : Type 0} (xs : List A) (x : A) → slice_get (xs ++ x ∷ []) (length xs) ≡ Some x
get-last [] x = refl
get-last (z ∷ zs) x = get-last zs x

get-push : {A : Type 0} (xs : List A) (x y : A) (i : ℕ) → slice_get (xs ++ x ∷ []) i ≡ Some y → (slice_get xs i ≡ Some y) ⊎ ((i ≡ length xs) × (x ≡ y))
get-push [] x y zero e = let same : x ≡ y = cc in inr (refl, same)
get-push [] x y (suc i) e = absurd (cc)
get-push (z ∷ zs) x y zero e = inl e
get-push (z ∷ zs) x y (suc i) e =
    ⊎_elim (λ (h : slice_get zs i ≡ Some y). inl h) (λ (h : (i ≡ length zs) × (x ≡ y)). inr (ap suc h.0, h.1)) (get-push zs x y i e)

-- The faults so far

-- a place is that of the first fault for which the key stands
pub record IsFirstKey (design : FlatDesign) (seen : List StuckAt) (key : StuckAt) (place : ℕ) : Type 0 where
  pub first : StuckAt
  pub stands : slice_get seen place ≡ Some first
  pub alike : standing design first ≡ key
  pub least : (earlier : ℕ) (other : StuckAt) → earlier < place → slice_get seen earlier ≡ Some other → standing design other ≡ key → ⊥

-- what a map and a list of places say of the faults so far
pub record Met (design : FlatDesign) (seen : List StuckAt) (firsts : FaultKey → Option ℕ) (places : List ℕ) : Type 0 where
  pub count : length places ≡ length seen
  pub found : (key : FaultKey) (place : ℕ) → firsts key ≡ Some place → IsFirstKey design seen (key_fault key) place
  pub none : (key : FaultKey) → firsts key ≡ None → (at : ℕ) (other : StuckAt) → slice_get seen at ≡ Some other → standing design other ≡ key_fault key → ⊥
  pub placed : (at : ℕ) (fault : StuckAt) → slice_get seen at ≡ Some fault → (place : ℕ) × (slice_get places at ≡ Some place) × (place ≤ at) × IsFirstKey design seen (standing design fault) place

-- before the first fault
pub Met-none : (design : FlatDesign) (firsts : FaultKey → Option ℕ) → ((key : FaultKey) → firsts key ≡ None) → Met design [] firsts []
Met-none design firsts empty = record {
  count = refl;
  found = λ key place e. absurd (let never : None ≡ Some place = sym (empty key) ∙ e in cc);
  none = λ key e at other stands alike. absurd (cc);
  placed = λ at fault stands. absurd (cc);
}

first-more : (design : FlatDesign) (seen : List StuckAt) (fault key : StuckAt) (place : ℕ) → IsFirstKey design seen key place → IsFirstKey design (seen ++ fault ∷ []) key place
first-more design seen fault key place had = record {
  first = had.first;
  stands = get-before seen fault had.first place had.stands;
  alike = had.alike;
  least = λ earlier other lt stands alike.
      let within : place < length seen = slice_get_within seen place had.first had.stands in
      ⊎_elim (λ (h : slice_get seen earlier ≡ Some other). had.least earlier other lt h alike)
      (λ (h : (earlier ≡ length seen) × (fault ≡ other)). let e : earlier ≡ length seen = h.0 in absurd (omega arith)) (get-push seen fault other earlier stands);
}

first-new : (design : FlatDesign) (seen : List StuckAt) (fault key : StuckAt) → standing design fault ≡ key →
    ((at : ℕ) (other : StuckAt) → slice_get seen at ≡ Some other → standing design other ≡ key → ⊥) → IsFirstKey design (seen ++ fault ∷ []) key (length seen)
first-new design seen fault key stands none = record {
  first = fault;
  stands = get-last seen fault;
  alike = stands;
  least = λ earlier other lt at alike.
      ⊎_elim (λ (h : slice_get seen earlier ≡ Some other). none earlier other h alike) (λ (h : (earlier ≡ length seen) × (fault ≡ other)). let e : earlier ≡ length seen = h.0 in
      absurd (omega arith)) (get-push seen fault other earlier at);
}

-- one more fault
module _ (design : FlatDesign) (seen : List StuckAt) (fault : StuckAt) (firsts later : FaultKey → Option ℕ) (places : List ℕ) (key : FaultKey) (place : ℕ)
    (is : key_fault key ≡ standing design fault) (had : Met design seen firsts places) (met : IsMet firsts key (length seen) place later) where
  found-more : (old : Option ℕ) → firsts key ≡ old → (k : FaultKey) (same : Bool) → same_key key k ≡ same → (p : ℕ) → later k ≡ Some p → later k ≡ met_at old same (length seen) (firsts k) →
      IsFirstKey design (seen ++ fault ∷ []) (key_fault k) p
  found-more (Some first) was k same e p at by = first-more design seen fault (key_fault k) p (had.found k p (sym by ∙ at))
  found-more None was k false e p at by = first-more design seen fault (key_fault k) p (had.found k p (sym by ∙ at))
  found-more None was k true e p at by =
      let keys : key ≡ k = same-true key k e in
      let number : length seen ≡ p = let both : Some (length seen) ≡ Some p = sym by ∙ at in cc in
      subst (λ n. IsFirstKey design (seen ++ fault ∷ []) (key_fault k) n) number
      (first-new design seen fault (key_fault k) (sym is ∙ ap key_fault keys) (λ at' other stands alike. had.none key was at' other stands (alike ∙ sym (ap key_fault keys))))

  none-more : (old : Option ℕ) → firsts key ≡ old → (k : FaultKey) (same : Bool) → same_key key k ≡ same → later k ≡ None → later k ≡ met_at old same (length seen) (firsts k) →
      (at : ℕ) (other : StuckAt) → slice_get (seen ++ fault ∷ []) at ≡ Some other → standing design other ≡ key_fault k → ⊥
  none-more (Some first) was k same e absent by at other stands alike =
      ⊎_elim (λ (h : slice_get seen at ≡ Some other). had.none k (sym by ∙ absent) at other h alike)
      (λ (h : (at ≡ length seen) × (fault ≡ other)).
      let keys : key ≡ k = key-one key k (is ∙ (ap (standing design) h.1 ∙ alike)) in
      let never : Some first ≡ None = sym was ∙ (ap firsts keys ∙ (sym by ∙ absent)) in absurd (cc))
      (get-push seen fault other at stands)
  none-more None was k true e absent by at other stands alike = let never : Some (length seen) ≡ None = sym by ∙ absent in absurd (cc)
  none-more None was k false e absent by at other stands alike =
      ⊎_elim (λ (h : slice_get seen at ≡ Some other). had.none k (sym by ∙ absent) at other h alike)
      (λ (h : (at ≡ length seen) × (fault ≡ other)).
      let keys : key ≡ k = key-one key k (is ∙ (ap (standing design) h.1 ∙ alike)) in
      absurd (false≢true (sym e ∙ (ap (same_key key) (sym keys) ∙ same-refl key))))
      (get-push seen fault other at stands)

  place-more : (old : Option ℕ) → firsts key ≡ old → place ≡ met_place old (length seen) → (place ≤ length seen) × IsFirstKey design (seen ++ fault ∷ []) (standing design fault) place
  place-more (Some first) was by =
      let found : IsFirstKey design seen (key_fault key) first = had.found key first was in
      let within : first < length seen = slice_get_within seen first found.first found.stands in
      let low : place ≤ length seen = omega arith in (
        low,
        subst (λ n. IsFirstKey design (seen ++ fault ∷ []) (standing design fault) n) (sym by)
            (subst (λ s. IsFirstKey design (seen ++ fault ∷ []) s first) is (first-more design seen fault (key_fault key) first found)),
      )
  place-more None was by =
      let low : place ≤ length seen = omega arith in (
        low,
        subst (λ n. IsFirstKey design (seen ++ fault ∷ []) (standing design fault) n) (sym by)
            (first-new design seen fault (standing design fault) refl (λ at other stands alike. had.none key was at other stands (alike ∙ sym is))),
      )

  placed-more : (at : ℕ) (other : StuckAt) → (slice_get seen at ≡ Some other) ⊎ ((at ≡ length seen) × (fault ≡ other)) →
      (p : ℕ) × (slice_get (places ++ place ∷ []) at ≡ Some p) × (p ≤ at) × IsFirstKey design (seen ++ fault ∷ []) (standing design other) p
  placed-more at other (inl h) =
      let r = had.placed at other h in (r.0, get-before places place r.0 at r.1, r.2, first-more design seen fault (standing design other) r.0 r.3)
  placed-more at other (inr h) =
      let q = place-more (firsts key) refl met.is in
      let at-end : at ≡ length places = h.0 ∙ sym had.count in (
        place,
        subst (λ n. slice_get (places ++ place ∷ []) n ≡ Some place) (sym at-end) (get-last places place),
        subst (λ n. place ≤ n) (sym h.0) q.0,
        subst (λ s. IsFirstKey design (seen ++ fault ∷ []) (standing design s) place) h.1 q.1,
      )

  pub Met-more : Met design (seen ++ fault ∷ []) later (places ++ place ∷ [])
  Met-more = record {
    count = length-append places (place ∷ []) ∙ (ap (λ n. n + 1) had.count ∙ sym (length-append seen (fault ∷ [])));
    found = λ k p at. found-more (firsts key) refl k (same_key key k) refl p at (met.all k);
    none = λ k absent at other stands alike. none-more (firsts key) refl k (same_key key k) refl absent (met.all k) at other stands alike;
    placed = λ at other stands. placed-more at other (get-push seen fault other at stands);
  }

-- one more of the code's faults
pub Met-step : (design : FlatDesign) (faults : List Fault) (n : ℕ) (d : Fault) (firsts later : FaultKey → Option ℕ) (places more : List ℕ) (key : FaultKey) (place : ℕ) → n < length faults →
    key_fault key ≡ standing design (fault_of (get_or faults n d)) → Met design (stuck (take n faults)) firsts places → IsMet firsts key n place later → more ≡ places ++ place ∷ [] →
    Met design (stuck (take (n + 1) faults)) later more
Met-step design faults n d firsts later places more key place within is had met pushed =
    let list : stuck (take (n + 1) faults) ≡ stuck (take n faults) ++ fault_of (get_or faults n d) ∷
    [] = ap stuck (take_more faults n d within) ∙ map_push fault_of (take n faults) (get_or faults n d) in
    let number : length (stuck (take n faults)) ≡ n = length-map (take n faults) fault_of ∙ length-take-le n faults (omega arith) in
    let met' : IsMet firsts key (length (stuck (take n faults))) place later = subst (λ m. IsMet firsts key m place later) (sym number) met in
    subst (λ l. Met design l later more) (sym list) (subst (λ l. Met design (stuck (take n faults) ++ fault_of (get_or faults n d) ∷ []) later l) (sym pushed)
    (Met-more design (stuck (take n faults)) (fault_of (get_or faults n d)) firsts later places key place is had met'))

-- after the last fault
pub classes-met : (design : FlatDesign) (faults : List StuckAt) (firsts : FaultKey → Option ℕ) (places : List ℕ) → KeepsRules design → Met design faults firsts places → AreClasses design faults places
classes-met design faults firsts places rules had number fault stands =
    let r = had.placed number fault stands in (
      r.0,
      r.1,
      r.2,
      record {
        first = r.3.first;
        stands = r.3.stands;
        alike = stands-class design rules r.3.first fault r.3.alike;
        least = λ earlier other lt at alike. r.3.least earlier other lt at (class-stands design rules other fault alike);
      },
    )
