use Rattle.std.proofs.Common.{refl, ap}
use Rattle.v_width.specs.Resized.{with_size}
use Rattle.expr_sizes.proofs.reading.refused.Goals as goal

pub returns : goal.returns
returns c here inside h = record { size_is = refl; faults_are = h; tree_is = λ w s. ap (λ t. with_size t w s) c.bit_zero.ensures }
