-- The tokens of a text as plain data (IEEE 1364-2001, clause 2.1).
use Rattle.vf_base.specs.declared.ids.Place.{Place}
use Rattle.v_tree.specs.declared.token.TokenKind.{TokenKind}

-- a token with the place of its first byte
pub record SourceToken : Type 0 where
  pub kind : TokenKind
  pub place : Place
