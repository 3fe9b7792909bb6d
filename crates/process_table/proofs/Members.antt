-- Sets with their least member (nothing of the language).
use Rattle.std.proofs.Common.{◌≡◌, ℕ, zero, suc, ◌+◌, ◌<◌, ◌≤◌, ◌^◌, Bool, true, false, List, [], ◌∷◌, ◌++◌, length, get_or, set, min, Some, None, refl, sym, ap, ◌∙◌, arith, inl, inr}
use Rattle.std.proofs.Common.{cond}
use Rattle.std.proofs.lemmas.List.{length-set}
use Rattle.std.proofs.lemmas.Bool.{cases_lt, cases_eq}
use Rattle.vf_base.specs.Lists.{first_place, earlier_place}
use Rattle.event_queue.specs.Queues.{repeated}
use Rattle.process_table.specs.Sets.{IsLeastFrom, IsSet}

set-here : {A : Type 0} (xs : List A) (p : ℕ) (v d : A) → p < length xs → get_or (set xs p v) p d ≡ v
set-here [] p v d low = absurd (omega (arith, low))
set-here (x ∷ xs) zero v d low = refl
set-here (x ∷ xs) (suc p) v d low = set-here xs p v d (omega (arith, low))

set-there : {A : Type 0} (xs : List A) (p n : ℕ) (v d : A) → (n ≡ p → ⊥) → get_or (set xs p v) n d ≡ get_or xs n d
set-there [] p n v d other = refl
set-there (x ∷ xs) zero zero v d other = absurd (other refl)
set-there (x ∷ xs) zero (suc n) v d other = refl
set-there (x ∷ xs) (suc p) zero v d other = refl
set-there (x ∷ xs) (suc p) (suc n) v d other = set-there xs p n v d (λ e. other (ap suc e))

-- one member more
pub set-insert : (members : List Bool) (least p : ℕ) → p < length members → IsSet members least → IsSet (set members p true) (min least p)
set-insert members least p low is = record {
  few = omega (arith, is.few, length-set members p true);
  first = record {
    above = omega arith;
    within = omega (arith, is.first.within, low, length-set members p true);
    none = λ n from below. set-there members p n true false (λ e. absurd (omega (arith, e, below))) ∙ is.first.none n from (omega (arith, below));
    member = λ inside.
        elim (cases_lt least p) [
          | inl less ↦
              (let at : min least p ≡ least = omega (arith, less) in ap (λ n. get_or (set members p true) n false) at)
              ∙ set-there members p least true false (λ e. absurd (omega (arith, e, less))) ∙ is.first.member (omega (arith, less, low))
          | inr more ↦ (let at : min least p ≡ p = omega (arith, more) in ap (λ n. get_or (set members p true) n false) at) ∙ set-here members p true false low
        ];
  };
}

-- one member less, which isn't the least
pub set-remove : (members : List Bool) (least p : ℕ) → p < length members → (p ≡ least → ⊥) → IsSet members least → IsSet (set members p false) least
set-remove members least p low other is = record {
  few = omega (arith, is.few, length-set members p false);
  first = record {
    above = omega arith;
    within = omega (arith, is.first.within, length-set members p false);
    none = λ n from below.
        elim (cases_eq n p) [
          | inl same ↦ ap (λ m. get_or (set members p false) m false) same ∙ set-here members p false false low
          | inr ne ↦ set-there members p n false false ne ∙ is.first.none n from below
        ];
    member = λ inside. set-there members p least false false (λ e. other (sym e)) ∙ is.first.member (omega (arith, inside, length-set members p false));
  };
}

-- the least member less
pub set-remove_least : (members : List Bool) (least p next : ℕ) → p < length members → p ≡ least → IsSet members least → IsLeastFrom (set members p false) least next → IsSet (set members p false) next
set-remove_least members least p next low same is found = record {
  few = omega (arith, is.few, length-set members p false);
  first = record {
    above = omega arith;
    within = found.within;
    none = λ n from below.
        elim (cases_lt n least) [
          | inl before ↦ set-there members p n false false (λ e. absurd (omega (arith, e, before, same))) ∙ is.first.none n from before
          | inr after ↦ found.none n after below
        ];
    member = found.member;
  };
}

-- the least member is the first
pub set-first : (members : List Bool) (least : ℕ) → IsLeastFrom members 0 least → least < length members → Some least ≡ first_place (λ (member : Bool). member) members
set-first [] least is low = absurd (omega (arith, low))
set-first (true ∷ members) zero is low = refl
set-first (true ∷ members) (suc least) is low = absurd (let e : true ≡ false = is.none 0 (omega arith) (omega arith) in cc)
set-first (false ∷ members) zero is low = absurd (let e : false ≡ true = is.member (omega arith) in cc)
set-first (false ∷ members) (suc least) is low =
    (let e : suc least ≡ least + 1 = omega arith in ap Some e)
    ∙ ap (earlier_place false) (set-first members least
    (record {
      above = omega arith;
      within = omega (arith, low);
      none = λ n from below. is.none (suc n) (omega arith) (omega (arith, below));
      member = λ inside. is.member (omega (arith, inside));
    }) (omega (arith, low)))

-- where there is no member there is no first
pub set-empty : (members : List Bool) (least : ℕ) → IsLeastFrom members 0 least → length members ≤ least → None ≡ first_place (λ (member : Bool). member) members
set-empty [] least is past = refl
set-empty (true ∷ members) least is past = absurd (let e : true ≡ false = is.none 0 (omega arith) (omega (arith, past)) in cc)
set-empty (false ∷ members) zero is past = absurd (omega (arith, past))
set-empty (false ∷ members) (suc least) is past =
    ap (earlier_place false) (set-empty members least
    (record {
      above = omega arith;
      within = (let w = is.within in omega (arith, w));
      none = λ n from below. is.none (suc n) (omega arith) (omega (arith, below));
      member = λ inside. is.member (omega (arith, inside));
    }) (omega (arith, past)))

-- all or none
pub repeated-length : {A : Type 0} (x : A) (n : ℕ) → length (repeated x n) ≡ n
repeated-length x zero = refl
repeated-length x (suc n) = ap suc (repeated-length x n)

repeated-at : {A : Type 0} (x : A) (n k : ℕ) → (d : A) → k < n → get_or (repeated x n) k d ≡ x
repeated-at x zero k d low = absurd (omega (arith, low))
repeated-at x (suc n) zero d low = refl
repeated-at x (suc n) (suc k) d low = repeated-at x n k d (omega (arith, low))

pub set-all : (n : ℕ) → n < 2 ^ 32 → IsSet (repeated true n) 0
set-all n few = record {
  few = omega (arith, few, repeated-length true n);
  first = record {
    above = omega arith;
    within = omega arith;
    none = λ k from below. absurd (omega (arith, below));
    member = λ inside. repeated-at true n 0 false (omega (arith, inside, repeated-length true n));
  };
}

pub set-none : (n : ℕ) → n < 2 ^ 32 → IsSet (repeated false n) n
set-none n few = record {
  few = omega (arith, few, repeated-length false n);
  first = record {
    above = omega arith;
    within = omega (arith, repeated-length false n);
    none = λ k from below. repeated-at false n k false below;
    member = λ inside. absurd (omega (arith, inside, repeated-length false n));
  };
}

pub set-new : (all : Bool) (n : ℕ) → n < 2 ^ 32 → IsSet (repeated all n) (cond all 0 n)
set-new true n few = set-all n few
set-new false n few = set-none n few

push-suc : {A : Type 0} (x : A) (n : ℕ) → repeated x n ++ x ∷ [] ≡ repeated x (suc n)
push-suc x zero = refl
push-suc x (suc n) = ap (λ xs. x ∷ xs) (push-suc x n)

pub repeated-push : {A : Type 0} (x : A) (n : ℕ) → repeated x n ++ x ∷ [] ≡ repeated x (n + 1)
repeated-push x n = push-suc x n ∙ (let e : suc n ≡ n + 1 = omega arith in ap (repeated x) e)
