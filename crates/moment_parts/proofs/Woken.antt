-- Processes that are woken one after another, where they stand at some stage (processes by IEEE 1364-2001, clause 9).
use Rattle.std.proofs.Common.{◌≡◌, ℕ, ◌+◌, ◌<◌, ◌≤◌, Bool, true, false, List, length, get_or, set, refl, sym, ap, subst, ◌∙◌, inl, inr, arith}
use Rattle.std.specs.Prelude.{Some, slice_get}
use Rattle.std.proofs.lemmas.Bool.{cases_eq}
use Rattle.std.proofs.lemmas.List.{length-set, get_or-set_same, get_or-set_other}
use Rattle.std.proofs.lemmas.Option.{slice_get_within, slice_get-get_or, get_or_from_slice_get}
use Rattle.process_code.specs.declared.state.ProcState.{ProcState}
use Rattle.process_code.specs.declared.state.Stage.{Stage}
use Rattle.moment_parts.specs.Within.{IsReadied, IsWokenIf}
use Rattle.moment_parts.specs.Turned.{AreWokenWhere}

-- those below a number are done
pub record AreWokenBelow (test : Stage → Bool) (limit : ℕ) (old new : List ProcState) : Type 0 where
  pub count : length new ≡ length old
  pub below : (process : ℕ) (before behind : ProcState) → process < limit → slice_get old process ≡ Some before → slice_get new process ≡ Some behind → IsWokenIf (test before.stage) before behind
  pub others : (process : ℕ) (before behind : ProcState) → limit ≤ process → slice_get old process ≡ Some before → slice_get new process ≡ Some behind → behind ≡ before

same-some : (x y : ProcState) → Some x ≡ Some y → x ≡ y
same-some x y e = cc

pub woken-none : (test : Stage → Bool) (states : List ProcState) → AreWokenBelow test 0 states states
woken-none test states = record {
  count = refl;
  below = λ p before behind low here there. absurd (omega (arith, low));
  others = λ p before behind low here there. same-some behind before (sym there ∙ here);
}

pub woken-all : (test : Stage → Bool) (limit : ℕ) (old new : List ProcState) → length old ≤ limit → AreWokenBelow test limit old new → AreWokenWhere test old new
woken-all test limit old new all woken = record {
  count = woken.count;
  each = λ p before behind here there. woken.below p before behind (let low : p < length old = slice_get_within old p before here in omega (arith, low, all)) here there;
}

at-own : (states : List ProcState) (place : ℕ) (x own : ProcState) → x ≡ get_or states place x → slice_get states place ≡ Some own → x ≡ own
at-own states place x own is here = is ∙ get_or_from_slice_get states place own x here

-- one more process: it isn't at such a stage
pub woken-skip : (test : Stage → Bool) (limit : ℕ) (old new : List ProcState) (x : ProcState) → x ≡ get_or new limit x → test x.stage ≡ false → AreWokenBelow test limit old new →
    AreWokenBelow test (limit + 1) old new
woken-skip test limit old new x is not woken = record {
  count = woken.count;
  below = λ p before behind low here there. elim (cases_eq p limit) [
    | inl same ↦
        let own : slice_get old limit ≡ Some before = subst (λ n. slice_get old n ≡ Some before) same here in
        let now : slice_get new limit ≡ Some behind = subst (λ n. slice_get new n ≡ Some behind) same there in
        let stays : behind ≡ before = woken.others limit before behind (omega arith) own now in
        let no : test before.stage ≡ false = sym (ap (λ (s : ProcState). test s.stage) (at-own new limit x behind is now ∙ stays)) ∙ not in
        subst (λ b. IsWokenIf b before behind) (sym no) stays
    | inr apart ↦ woken.below p before behind (omega (arith, low, apart)) here there
  ];
  others = λ p before behind low here there. woken.others p before behind (omega (arith, low)) here there;
}

-- or it is, and is woken
pub woken-more : (test : Stage → Bool) (limit : ℕ) (old new : List ProcState) (z x y : ProcState) → limit < length new → z ≡ get_or new limit z → x ≡ get_or new limit x →
    test z.stage ≡ true → IsReadied x y → AreWokenBelow test limit old new → AreWokenBelow test (limit + 1) old (set new limit y)
woken-more test limit old new z x y within seen is passes readied woken = record {
  count = length-set new limit y ∙ woken.count;
  below = λ p before behind low here there. elim (cases_eq p limit) [
    | inl same ↦
        let own : slice_get old limit ≡ Some before = subst (λ n. slice_get old n ≡ Some before) same here in
        let now : slice_get (set new limit y) limit ≡ Some behind = subst (λ n. slice_get (set new limit y) n ≡ Some behind) same there in
        let put : behind ≡ y = sym (get_or_from_slice_get (set new limit y) limit behind y now) ∙ get_or-set_same new limit y y within in
        let was : slice_get new limit ≡ Some x = slice_get-get_or new limit x within ∙ ap Some (sym is) in
        let stays : x ≡ before = woken.others limit before x (omega arith) own was in
        let ready : IsReadied before behind = subst (λ s. IsReadied s behind) stays (subst (λ s. IsReadied x s) (sym put) readied) in
        subst (λ b. IsWokenIf b before behind) (sym (sym (ap (λ (s : ProcState). test s.stage) (at-own new limit z x seen was ∙ stays)) ∙ passes)) ready
    | inr apart ↦ woken.below p before behind (omega (arith, low, apart)) here (other p behind apart there)
  ];
  others = λ p before behind low here there. woken.others p before behind (omega (arith, low)) here (other p behind (λ same. omega (arith, low, same)) there);
}
  where
    other : (p : ℕ) (behind : ProcState) → (p ≡ limit → ⊥) → slice_get (set new limit y) p ≡ Some behind → slice_get new p ≡ Some behind
    other p behind apart there =
        let low : p < length new = (let l = slice_get_within (set new limit y) p behind there in let e : length (set new limit y) ≡ length new = length-set new limit y in omega (arith, l, e)) in
        slice_get-get_or new p behind low ∙ ap Some (sym (get_or-set_other new limit p y behind apart) ∙ get_or_from_slice_get (set new limit y) p behind behind there)
