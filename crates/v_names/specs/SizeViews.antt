-- The code's sizes, constants and places of constants as plain data.
use Rattle.v_names.specs.declared.size.Size.{Size}
use Rattle.v_names.specs.declared.constant.Constant.{Constant}
use Rattle.v_names.specs.declared.constant_place.ConstantPlace.{ConstantPlace}
use Rattle.v_names.specs.declared.constant_place.ConstantPlace.TheVariants as places
use Rattle.v_names.specs.declared.sizing.UnarySizing.{UnarySizing}
use Rattle.v_names.specs.declared.sizing.UnarySizing.TheVariants as unary
use Rattle.v_names.specs.declared.sizing.BinarySizing.{BinarySizing}
use Rattle.v_names.specs.declared.sizing.BinarySizing.TheVariants as binary
use Rattle.v_design.specs.Sized as operators
use Rattle.v_names.specs.Scopes.{SignedValue}
use Rattle.v_names.specs.Readings as plain
use Rattle.v_names.specs.Constants as kinds

abbrev pub size_of : Size → plain.Size
size_of size = record { width = size.width; signed = size.signed }

abbrev pub signed_value : Constant → SignedValue
signed_value constant = record { value = constant.value; signed = constant.signed }

abbrev pub kind_of : ConstantPlace → kinds.ConstantPlace
kind_of places.AnyValue = kinds.AnyValue
kind_of places.ParameterValue = kinds.ParameterValue
kind_of places.IndexOrCount = kinds.IndexOrCount
kind_of (places.BoundUpTo limit) = kinds.BoundUpTo limit
kind_of places.DelayValue = kinds.DelayValue

abbrev pub unary_sizing_of : UnarySizing → operators.UnarySizing
unary_sizing_of unary.OperandWithWhole = operators.OperandWithWhole
unary_sizing_of unary.OperandAlone = operators.OperandAlone

abbrev pub binary_sizing_of : BinarySizing → operators.BinarySizing
binary_sizing_of binary.BothWithWhole = operators.BothWithWhole
binary_sizing_of binary.LeftWithWhole = operators.LeftWithWhole
binary_sizing_of binary.BothTogether = operators.BothTogether
binary_sizing_of binary.EachAlone = operators.EachAlone
