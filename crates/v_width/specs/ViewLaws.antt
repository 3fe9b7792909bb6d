-- What a sized expression that is built of a list is seen as.
use Rattle.std.proofs.Common.{◌≡◌, ℕ, List, [], ◌∷◌, ◌++◌, refl, ap, ◌∙◌, Global}
use Rattle.std.specs.declared.vec.Vec.{Vec}
use Rattle.v_names.specs.declared.size.Size.{Size}
use Rattle.v_names.specs.SizedTrees.{SizedExpressions, no_sized, more_sized, SizedConcatenation, SizedReplication}
use Rattle.v_width.specs.declared.expression.SizedExpr.{SizedExpr, Row_of-SizedExpr, end_of-SizedExpr, more_of-SizedExpr, items-the_row-SizedExpr, items_hidden-the_row-SizedExpr-0}
use Rattle.v_width.specs.declared.expression.SizedExpr.TheBlock.{hidden-the_row-SizedExpr-0}
use Rattle.v_width.specs.declared.expression.SizedExpr.TheVariants as code
use Rattle.v_width.specs.SizedViews.{sized_of, sized_of_row, all_sized_of}

sized-row : {n : _} (row : Row_of-SizedExpr n) → sized_of_row row ≡ all_sized_of (items-the_row-SizedExpr n row)
sized-row end_of-SizedExpr = refl
sized-row (more_of-SizedExpr first rest) = ap (more_sized (sized_of first)) (sized-row rest)

-- the parts that a vector holds
pub sized-hidden : (parts : Vec SizedExpr Global) → sized_of_row (hidden-the_row-SizedExpr-0 parts) ≡ all_sized_of parts.items
sized-hidden parts = sized-row (hidden-the_row-SizedExpr-0 parts) ∙ ap all_sized_of (items_hidden-the_row-SizedExpr-0 parts)

pub sized-concatenation : (size : Size) (parts : Vec SizedExpr Global) → sized_of (code.Concatenation size parts) ≡ SizedConcatenation size.width size.signed (all_sized_of parts.items)
sized-concatenation size parts = ap (SizedConcatenation size.width size.signed) (sized-hidden parts)

pub sized-replication : (size : Size) (count : ℕ) (parts : Vec SizedExpr Global)
    → sized_of (code.Replication size count parts) ≡ SizedReplication size.width size.signed count (all_sized_of parts.items)
sized-replication size count parts = ap (SizedReplication size.width size.signed count) (sized-hidden parts)

-- expressions with others behind them
abbrev pub sized_append : SizedExpressions → SizedExpressions → SizedExpressions
sized_append no_sized rest = rest
sized_append (more_sized first parts) rest = more_sized first (sized_append parts rest)

pub sized-one-more : (parts : List SizedExpr) (one : SizedExpr) (rest : SizedExpressions) →
    sized_append (all_sized_of (parts ++ one ∷ [])) rest ≡ sized_append (all_sized_of parts) (more_sized (sized_of one) rest)
sized-one-more [] one rest = refl
sized-one-more (first ∷ parts) one rest = ap (more_sized (sized_of first)) (sized-one-more parts one rest)

pub sized-end : (parts : SizedExpressions) → sized_append parts no_sized ≡ parts
sized-end no_sized = refl
sized-end (more_sized first parts) = ap (more_sized first) (sized-end parts)
