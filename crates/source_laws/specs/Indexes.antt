-- Declared indexes tell the bits of a net or a variable apart (IEEE 1364-2001, clause 3.3.1).
use Rattle.std.proofs.Common.{◌≡◌, ℕ, ◌+◌, ◌-◌, ◌<◌, ◌≤◌, ◌^◌, Bool, true, false, sym, ap, ◌∙◌, inl, inr, arith}
use Rattle.std.specs.Prelude.{if◌then◌else◌, nat_le}
use Rattle.std.proofs.lemmas.Bool.{cases_lt, cases_Bool, le-leb, leb-true}
use Rattle.v_design.specs.Sites.{index_of_bit}
use Rattle.v_names.specs.Scopes.{DeclaredRange, range_width}
use Rattle.v_names.specs.Names.{most_kept}
use Rattle.v_elab.specs.Objects.{index_at}

-- bounds are kept as numbers of 32 bits, and what has no range has one bit
pub record IsDeclaredRange (range : DeclaredRange) : Type 0 where
  pub high : range.high ≤ most_kept
  pub low : range.low ≤ most_kept
  pub single : range.ranged ≡ false → range_width range ≤ 1

not-below : (high low : ℕ) → high < low → nat_le low high ≡ false
not-below high low less =
    elim (cases_Bool (nat_le low high)) [
      | inl holds ↦ absurd (omega (arith, leb-true low high holds, less))
      | inr fails ↦ fails
    ]

index-up : (range : DeclaredRange) (place : ℕ) → range.low ≤ range.high → index_at range place ≡ range.low + place
index-up range place low = ap (λ b. if b then range.low + place else range.low - place) (le-leb range.low range.high low)

index-down : (range : DeclaredRange) (place : ℕ) → range.high < range.low → index_at range place ≡ range.low - place
index-down range place high = ap (λ b. if b then range.low + place else range.low - place) (not-below range.high range.low high)

bit-up : (high low bit : ℕ) → low ≤ high → index_of_bit high low bit ≡ low + bit
bit-up high low bit h = ap (λ (b : Bool). elim b as (λ c. ℕ) [ true ↦ low + bit | false ↦ low - bit ]) (le-leb low high h)

bit-down : (high low bit : ℕ) → high < low → index_of_bit high low bit ≡ low - bit
bit-down high low bit h = ap (λ (b : Bool). elim b as (λ c. ℕ) [ true ↦ low + bit | false ↦ low - bit ]) (not-below high low h)

-- an index is a number of few bits
pub index-small : (range : DeclaredRange) → IsDeclaredRange range → (place : ℕ) → place < range_width range → index_at range place < 2 ^ 64
index-small range is place within =
    elim (cases_lt range.high range.low) [
      | inl down ↦ omega (arith, index-down range place down, is.low)
      | inr up ↦ omega (arith, index-up range place up, is.high, within)
    ]

-- two places have two indexes
pub index-apart : (range : DeclaredRange) (place other : ℕ) → place < other → other < range_width range → index_at range place ≡ index_at range other → ⊥
index-apart range place other less within e =
    elim (cases_lt range.high range.low) [
      | inl down ↦ omega (arith, index-down range place down, index-down range other down, e, less, within, down)
      | inr up ↦ omega (arith, index-up range place up, index-up range other up, e, less)
    ]

-- the index of a bit of a variable is that of its place
pub variable-index : (range : DeclaredRange) (bit : ℕ) → index_of_bit range.high range.low bit ≡ index_at range bit
variable-index range bit =
    elim (cases_lt range.high range.low) [
      | inl down ↦ bit-down range.high range.low bit down ∙ sym (index-down range bit down)
      | inr up ↦ bit-up range.high range.low bit up ∙ sym (index-up range bit up)
    ]

same-bounds : (high low first last bit : ℕ) → high ≡ first → low ≡ last → index_of_bit high low bit ≡ index_of_bit first last bit
same-bounds high low first last bit h l = ap (λ n. index_of_bit n low bit) h ∙ ap (λ n. index_of_bit first n bit) l

-- and that of a bit of a piece is that of its place in the whole
pub piece-index : (range : DeclaredRange) (low width bit : ℕ) → low + width ≤ range_width range → bit < width →
    index_of_bit (index_at range (low + width - 1)) (index_at range low) bit ≡ index_at range (low + bit)
piece-index range low width bit within few =
    elim (cases_lt range.high range.low) [
      | inl down ↦ downwards down
      | inr up ↦
          same-bounds (index_at range (low + width - 1)) (index_at range low) (range.low + (low + width - 1)) (range.low + low) bit (index-up range (low + width - 1) up) (index-up range low up)
          ∙ bit-up (range.low + (low + width - 1)) (range.low + low) bit (omega (arith, few))
          ∙ (let same : (range.low + low) + bit ≡ range.low + (low + bit) = omega arith in same)
          ∙ sym (index-up range (low + bit) up)
    ]
  where
    downwards : range.high < range.low → index_of_bit (index_at range (low + width - 1)) (index_at range low) bit ≡ index_at range (low + bit)
    downwards down =
        let bounds = same-bounds (index_at range (low + width - 1)) (index_at range low) (range.low - (low + width - 1)) (range.low - low) bit (index-down range (low + width - 1) down)
        (index-down range low down) in
        let last = index-down range (low + bit) down in
        elim (cases_lt 1 width) [
          | inl more ↦
              let is = bit-down (range.low - (low + width - 1)) (range.low - low) bit (omega (arith, more, within, down)) in
              bounds ∙ is ∙ (let same : (range.low - low) - bit ≡ range.low - (low + bit) = omega arith in same) ∙ sym last
          | inr one ↦
              let is = bit-up (range.low - (low + width - 1)) (range.low - low) bit (omega (arith, one, few)) in
              bounds ∙ is ∙ (let same : (range.low - low) + bit ≡ range.low - (low + bit) = omega (arith, one, few) in same) ∙ sym last
        ]
