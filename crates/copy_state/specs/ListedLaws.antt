-- What holds of entries as they are listed, one after the other (nothing of the language).
use Rattle.std.proofs.Common.{◌≡◌, ℕ, zero, suc, ◌+◌, ◌<◌, Bool, true, false, List, [], ◌∷◌, length, get_or, map, take, refl, ap, subst, ◌∙◌, arith}
use Rattle.std.specs.Prelude.{nat_eq, Option, Some}
use Rattle.std.proofs.lemmas.Bool.{eq-eqb, ne_eqb}
use Rattle.copy_laws.specs.Differences.{own_of, Ascend}
use Rattle.copy_state.specs.EntryLaws.{all-own}
use Rattle.copy_state.specs.Listed.{entry_of}
use Rattle.copy_state.specs.declared.entry.Entry.{Entry}

module _ {T : Type 0} where
  own-first : (first : Entry T) (rest : List (ℕ × T)) → own_of (entry_of first ∷ rest) first.number ≡ Some first.kept
  own-first first rest = ap (λ (b : Bool). elim b [ true ↦ Some first.kept | false ↦ own_of rest first.number ]) (eq-eqb first.number first.number refl)

  own-later : (first : Entry T) (rest : List (ℕ × T)) (number : ℕ) → (first.number ≡ number → ⊥) → own_of (entry_of first ∷ rest) number ≡ own_of rest number
  own-later first rest number other = ap (λ (b : Bool). elim b [ true ↦ Some first.kept | false ↦ own_of rest number ]) (ne_eqb first.number number other)

  -- under the number of an entry its own is kept, where they ascend
  pub listed-own : (listed : List (Entry T)) (place : ℕ) (own : Entry T) → Ascend (map entry_of listed) → place < length listed → own ≡ get_or listed place own →
      own_of (map entry_of listed) own.number ≡ Some own.kept
  listed-own [] place own up low is = absurd (omega (arith, low))
  listed-own (first ∷ rest) zero own up low is =
      subst (λ (e : Entry T). own_of (entry_of e ∷ map entry_of rest) own.number ≡ Some own.kept) is (own-first own (map entry_of rest))
  listed-own (first ∷ rest) (suc place) own up low is =
      let more = listed-own rest place own up.1 (omega (arith, low)) is in
      own-later first (map entry_of rest) own.number
      (λ same. let less : first.number < own.number = all-own (λ (later : ℕ × T). first.number < later.0) own.number own.kept (map entry_of rest) up.0 more in omega (arith, less, same))
      ∙ more

  taken-own : (listed : List (Entry T)) (place : ℕ) (own : Entry T) → Ascend (map entry_of listed) → place < length listed → own ≡ get_or listed place own →
      own_of (map entry_of (take (suc place) listed)) own.number ≡ Some own.kept
  taken-own [] place own up low is = absurd (omega (arith, low))
  taken-own (first ∷ rest) zero own up low is =
      subst (λ (e : Entry T). own_of (entry_of e ∷ map entry_of (take zero rest)) own.number ≡ Some own.kept) is (own-first own (map entry_of (take zero rest)))
  taken-own (first ∷ rest) (suc place) own up low is =
      let more = listed-own rest place own up.1 (omega (arith, low)) is in
      own-later first (map entry_of (take (suc place) rest)) own.number
      (λ same. let less : first.number < own.number = all-own (λ (later : ℕ × T). first.number < later.0) own.number own.kept (map entry_of rest) up.0 more in omega (arith, less, same))
      ∙ taken-own rest place own up.1 (omega (arith, low)) is

  taken-other : (listed : List (Entry T)) (place : ℕ) (own : Entry T) (other : ℕ) → place < length listed → own ≡ get_or listed place own → (own.number ≡ other → ⊥) →
      own_of (map entry_of (take (suc place) listed)) other ≡ own_of (map entry_of (take place listed)) other
  taken-other [] place own other low is differ = absurd (omega (arith, low))
  taken-other (first ∷ rest) zero own other low is differ = own-later first (map entry_of (take zero rest)) other (λ same. differ (ap (λ (e : Entry T). e.number) is ∙ same))
  taken-other (first ∷ rest) (suc place) own other low is differ =
      ap (λ (found : Option T). elim (nat_eq first.number other) [ true ↦ Some first.kept | false ↦ found ]) (taken-other rest place own other (omega (arith, low)) is differ)

  -- so it is among the first ones up to it
  pub listed-here : (listed : List (Entry T)) (place : ℕ) (own : Entry T) → Ascend (map entry_of listed) → place < length listed → own ≡ get_or listed place own →
      own_of (map entry_of (take (place + 1) listed)) own.number ≡ Some own.kept
  listed-here listed place own up low is =
      let on : place + 1 ≡ suc place = omega arith in ap (λ n. own_of (map entry_of (take n listed)) own.number) on ∙ taken-own listed place own up low is

  -- and under another number it is as without it
  pub listed-other : (listed : List (Entry T)) (place : ℕ) (own : Entry T) (other : ℕ) → place < length listed → own ≡ get_or listed place own → (own.number ≡ other → ⊥) →
      own_of (map entry_of (take (place + 1) listed)) other ≡ own_of (map entry_of (take place listed)) other
  listed-other listed place own other low is differ =
      let on : place + 1 ≡ suc place = omega arith in ap (λ n. own_of (map entry_of (take n listed)) other) on ∙ taken-other listed place own other low is differ
