-- The entries of a list that ascends, one after the other (nothing of the language).
use Rattle.std.proofs.Common.{◌≡◌, ℕ, ◌<◌, ◌≤◌, List, [], ◌∷◌, Bool, true, false, refl, sym, ap, ◌∙◌, arith}
use Rattle.std.specs.Prelude.{Option, Some, None, is_some, nat_lt, if◌then◌else◌}
use Rattle.std.proofs.lemmas.Bool.{eq-eqb, ne_eqb, ltb-true, ltb-false, le-ltb}
use Rattle.vf_base.specs.Lists.{AllHold}
use Rattle.copy_laws.specs.Differences.{own_of, Ascend}
use Rattle.copy_state.specs.Entries.{first_from}

some-number : (one other : ℕ) → Some one ≡ Some other → one ≡ other
some-number one other e = cc

-- nothing is kept under a number that isn't an entry's
none-other : {A : Type 0} (entry : ℕ × A) (entries : List (ℕ × A)) (number : ℕ) → (entry.0 ≡ number → ⊥) → own_of (entry ∷ entries) number ≡ own_of entries number
none-other {A} entry entries number other = ap (λ (b : Bool). elim b as (λ _. Option A) [ true ↦ Some entry.1 | false ↦ own_of entries number ]) (ne_eqb entry.0 number other)

-- before all entries nothing is kept
none-before : {A : Type 0} (entries : List (ℕ × A)) (low number : ℕ) → AllHold (λ (entry : ℕ × A). low < entry.0) entries → number ≤ low → own_of entries number ≡ None
none-before [] low number all h = refl
none-before (entry ∷ entries) low number all h = none-other entry entries number (λ e. omega (arith, all.0, e, h)) ∙ none-before entries low number all.1 h

-- where no number from one on is kept
pub none-from : {A : Type 0} (from : ℕ) (entries : List (ℕ × A)) → first_from from entries ≡ None → (number : ℕ) → from ≤ number → own_of entries number ≡ None
none-from from [] e number low = refl
none-from {A} from (entry ∷ entries) e number low = go (nat_lt entry.0 from) refl e (λ f. none-from from entries f number low)
  where
    go : (b : Bool) → nat_lt entry.0 from ≡ b → (if b then first_from from entries else Some entry.0) ≡ None → (first_from from entries ≡ None → own_of entries number ≡ None) →
        own_of (entry ∷ entries) number ≡ None
    go true at f rest = let less : entry.0 < from = ltb-true entry.0 from at in none-other entry entries number (λ same. omega (arith, less, same, low)) ∙ rest f
    go false at f rest = cc

-- the first number from one on is kept, and none between
pub record IsNextKept {A : Type 0} (from next : ℕ) (entries : List (ℕ × A)) : Type 0 where
  pub low : from ≤ next
  pub kept : is_some (own_of entries next) ≡ true
  pub none : (number : ℕ) → from ≤ number → number < next → own_of entries number ≡ None

pub next-kept : {A : Type 0} (from next : ℕ) (entries : List (ℕ × A)) → Ascend entries → first_from from entries ≡ Some next → IsNextKept from next entries
next-kept from next [] up e = cc
next-kept {A} from next (entry ∷ entries) up e = go (nat_lt entry.0 from) refl e (λ f. next-kept from next entries up.1 f)
  where
    go : (b : Bool) → nat_lt entry.0 from ≡ b → (if b then first_from from entries else Some entry.0) ≡ Some next → (first_from from entries ≡ Some next → IsNextKept from next entries) →
        IsNextKept from next (entry ∷ entries)
    go true at f rest =
        let less : entry.0 < from = ltb-true entry.0 from at in
        let more = rest f in
        let low : from ≤ next = more.low in
        record {
          low = low;
          kept = ap is_some (none-other entry entries next (λ same. omega (arith, less, same, low))) ∙ more.kept;
          none = λ number since before. none-other entry entries number (λ same. omega (arith, less, same, since)) ∙ more.none number since before;
        }
    go false at f rest =
        let same : entry.0 ≡ next = some-number entry.0 next f in
        let late : from ≤ entry.0 = ltb-false entry.0 from at in
        record {
          low = omega (arith, late, same);
          kept = ap (λ (b : Bool). is_some (elim b as (λ _. Option A) [ true ↦ Some entry.1 | false ↦ own_of entries next ])) (eq-eqb entry.0 next same);
          none = λ number since before.
              none-other entry entries number (λ is. omega (arith, is, same, before)) ∙ none-before entries entry.0 number up.0 (omega (arith, same, before));
        }

-- a list without a first number is empty
pub none-empty : {A : Type 0} (entries : List (ℕ × A)) → first_from 0 entries ≡ None → entries ≡ []
none-empty [] e = refl
none-empty {A} (entry ∷ entries) e =
    absurd
    (let no : Some entry.0 ≡ None = sym (ap (λ (b : Bool). if b then first_from 0 entries else Some entry.0) (le-ltb entry.0 0 (omega arith))) ∙ e in
    cc)
