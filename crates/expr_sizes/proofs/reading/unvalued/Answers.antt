use Rattle.std.proofs.Common.{Some, ap}
use Rattle.v_names.specs.Readings.{Size}
use Rattle.v_width.specs.Resized.{with_size}
use Rattle.expr_sizes.proofs.reading.unvalued.Goals as goal

pub returns : goal.returns
returns c = record { size_is = ap (λ (z : Size). Some z) c.one_bit.ensures; faults_are = c.no_faults.ensures; tree_is = λ w s. ap (λ t. with_size t w s) c.bit_zero.ensures }
