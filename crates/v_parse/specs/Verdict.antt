-- Where and why tokens are no unit (IEEE 1364-2001, annex A): the first token at which no unit goes on, or none within the levels does.
use Rattle.std.specs.Prelude.{◌≡◌, ℕ, ◌≤◌, List, [], ◌∷◌, ◌++◌}
use Rattle.v_tree.specs.Tokens.{SourceToken}
use Rattle.v_tree.specs.Trees.{SourceUnit}
use Rattle.v_parse.specs.Spelling.{SpellsUnit}
use Rattle.v_parse.specs.Heights.{unit_height}

-- some unit's spelling begins with these tokens
abbrev pub Begins : List SourceToken → Type 0
Begins front = (u : SourceUnit) × (more : List SourceToken) × SpellsUnit u (front ++ more)

-- and one with no more than so many levels below its outermost ones does
abbrev pub BeginsWithin : ℕ → List SourceToken → Type 0
BeginsWithin levels front = (u : SourceUnit) × (more : List SourceToken) × SpellsUnit u (front ++ more) × (unit_height u ≤ levels)

-- The tokens from this one on: no unit's spelling begins with what stands through it. Where there is none, the tokens spell no unit.
abbrev pub NoneThrough : List SourceToken → List SourceToken → Type 0
NoneThrough front [] = (u : SourceUnit) → SpellsUnit u front → ⊥
NoneThrough front (token ∷ rest) = Begins (front ++ token ∷ []) → ⊥

-- the tokens from the first one at which no unit goes on
pub record IsFirstWrong (levels : ℕ) (tokens rest : List SourceToken) : Type 0 where
  pub front : List SourceToken
  pub whole : tokens ≡ front ++ rest
  pub goes : BeginsWithin levels front
  pub stops : NoneThrough front rest

-- the tokens from the first one at which units go on, but none within the levels does
pub record IsFirstDeep (levels : ℕ) (tokens rest : List SourceToken) : Type 0 where
  pub front : List SourceToken
  pub token : SourceToken
  pub after : List SourceToken
  pub next : rest ≡ token ∷ after
  pub whole : tokens ≡ front ++ rest
  pub before : BeginsWithin levels front
  pub goes : Begins (front ++ token ∷ [])
  pub stops : BeginsWithin levels (front ++ token ∷ []) → ⊥
