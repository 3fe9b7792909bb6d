-- One number more that is compared.
use Rattle.std.proofs.Common.{◌≡◌, ◌≢◌, ℕ, ◌+◌, ◌<◌, List, [], ◌∷◌, ◌++◌, length, map, take, get_or, Bool, true, false, ◌||◌, nat_eq, refl, sym, ap, subst, ◌∙◌, arith}
use Rattle.std.specs.Prelude.{Option}
use Rattle.std.specs.List.{All}
use Rattle.std.proofs.lemmas.List.{take_more, map_push, length-map}
use Rattle.std.proofs.Math.ListN.{get_or-map}
use Rattle.std.proofs.lemmas.List.Elements.{All-get_or}
use Rattle.std.proofs.lemmas.Bool.{eqb-true, eq-eqb}
use Rattle.graph_order.specs.ListLaws.{has-append}
use Rattle.vf_base.specs.Lists.{has}
use Rattle.copy_laws.specs.Differences.{own_of}
use Rattle.copy_between.specs.Differing.{IsKeptAt}
use Rattle.lockstep_index.specs.Writes.{OwnWrites}
use Rattle.lockstep_copy.specs.Kept.{kept_by, TellsWrites, WritesAreKept}
use Rattle.lockstep_copy.specs.declared.own.LockstepCopy.{LockstepCopy}
use Rattle.lockstep_compare.specs.Among.{AreKeptAmong, KeepsValuesAlone, AreWritesKeptAmong}

-- whether a number is among some and one more
among-more : (numbers : List ℕ) (one number : ℕ) (b : Bool) → has (numbers ++ one ∷ []) number ≡ b → (has numbers number || (nat_eq one number || false)) ≡ b
among-more numbers one number b e = sym (has-append numbers (one ∷ []) number) ∙ e

parted : {A : Type 0} (b c : Bool) → (b || (c || false)) ≡ true → (c ≡ true → A) → (c ≡ false → b ≡ true → A) → A
parted b true e last before = last refl
parted true false e last before = before refl refl
parted false false e last before = cc

none : (b c : Bool) → (b || (c || false)) ≡ false → (b ≡ false) × (c ≡ false)
none true c e = cc
none false true e = cc
none false false e = (refl, refl)

differ : (one number : ℕ) → nat_eq one number ≡ false → one ≢ number
differ one number e same = let z : nat_eq one number ≡ true = eq-eqb one number same in let no : true ≡ false = sym z ∙ e in cc

pub kept-first : {A : Type 0} (R : ℕ → Option A → Type 0) (old : List (ℕ × A)) → AreKeptAmong R [] old old
kept-first R old = record { each = λ number e. cc; others = λ number e. refl }

pub kept-more : {A : Type 0} (R : ℕ → Option A → Type 0) (numbers : List ℕ) (one : ℕ) (old new later : List (ℕ × A)) → AreKeptAmong R numbers old new → IsKeptAt (R one) one new later →
    AreKeptAmong R (numbers ++ one ∷ []) old later
kept-more R numbers one old new later had at = record {
  each = λ number e.
      parted (has numbers number) (nat_eq one number) (among-more numbers one number true e)
      (λ same. let is : one ≡ number = eqb-true one number same in subst (λ n. R n (own_of later n)) is at.here)
      (λ other before. subst (R number) (sym (at.others number (differ one number other))) (had.each number before));
  others = λ number e.
      let no = none (has numbers number) (nat_eq one number) (among-more numbers one number false e) in at.others number (differ one number no.1) ∙ had.others number no.0;
}

-- The same of updates

pub writes-first : (good faulty : ℕ → OwnWrites) (old : LockstepCopy) → AreWritesKeptAmong good faulty [] old old
writes-first good faulty old = record { fault = refl; values = refl; states = refl; each = λ process e. cc; others = λ process e. refl }

-- what is kept of a process tells its updates
abbrev Tells : (ℕ → OwnWrites) → (ℕ → OwnWrites) → ℕ → Option OwnWrites → Type 0
Tells good faulty process found = TellsWrites (good process) (faulty process) found

pub writes-more : (good faulty : ℕ → OwnWrites) (numbers : List ℕ) (one : ℕ) (old new later : LockstepCopy) → AreWritesKeptAmong good faulty numbers old new →
    WritesAreKept one (good one) (faulty one) new later → AreWritesKeptAmong good faulty (numbers ++ one ∷ []) old later
writes-more good faulty numbers one old new later had at = record {
  fault = at.rest.fault ∙ had.fault;
  values = at.rest.values ∙ had.values;
  states = at.rest.states ∙ had.states;
  each = λ process e.
      parted (has numbers process) (nat_eq one process) (among-more numbers one process true e)
      (λ same. let is : one ≡ process = eqb-true one process same in subst (λ n. Tells good faulty n ((kept_by later).writes n)) is at.here)
      (λ other before. subst (Tells good faulty process) (sym (at.rest.others process (differ one process other))) (had.each process before));
  others = λ process e.
      let no = none (has numbers process) (nat_eq one process) (among-more numbers one process false e) in at.rest.others process (differ one process no.1) ∙ had.others process no.0;
}

-- Values alone

pub alone-first : (old : LockstepCopy) → KeepsValuesAlone old old
alone-first old = record { fault = refl; states = refl; updates = refl; lanes = refl }

-- Elements by place

pub at-place : {A : Type 0} (P : ℕ → Type 0) (f : A → ℕ) (xs : List A) (i : ℕ) (default : A) → i < length xs → All P (map f xs) → P (f (get_or xs i default))
at-place P f xs i default low all =
    subst P (get_or-map f xs i default) (All-get_or P (map f xs) i (f default) (let e : length (map f xs) ≡ length xs = length-map xs f in omega (arith, low, e)) all)

pub map-more : {A : Type 0} (f : A → ℕ) (xs : List A) (i : ℕ) (default : A) → i < length xs → map f (take (i + 1) xs) ≡ map f (take i xs) ++ f (get_or xs i default) ∷ []
map-more f xs i default low = ap (map f) (take_more xs i default low) ∙ map_push f (take i xs) (get_or xs i default)
