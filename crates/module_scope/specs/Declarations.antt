-- The code's declarations as plain data.
use Rattle.std.specs.Prelude.{Bool, true, false, ◌||◌, List, [], ◌∷◌, map, Option, Some, None}
use Rattle.std.specs.Borrow.{Bor}
use Rattle.vf_base.specs.Base.{source_place}
use Rattle.v_tree.specs.Trees.{SourceExpression, SourceParameter, NamedPlace, SourceWire, SourceInstance}
use Rattle.v_tree.specs.Views.{expression_of, range_of}
use Rattle.v_tree.specs.declared.expression.Expr.{Expr}
use Rattle.v_names.specs.Names as plain
use Rattle.name_checks.specs.BoundViews.{bounds_seen}
use Rattle.module_scope.specs.declared.declaration.Declared.{Declared}
use Rattle.module_scope.specs.declared.declaration.Declared.TheVariants as declared
use Rattle.module_scope.specs.declared.declaration.Declaration.{Declaration}

abbrev pub first_seen : Option (Bor Expr) → Option SourceExpression
first_seen None = None
first_seen (Some value) = Some (expression_of value.now)

abbrev pub declared_seen : Declared → plain.Declared
declared_seen (declared.Param is_local signed bounds value) = plain.DeclaredParameter is_local signed (bounds_seen bounds.bounds) (expression_of value.now)
declared_seen (declared.Port direction is_reg signed bounds first) = plain.DeclaredPort direction is_reg signed (bounds_seen bounds.bounds) (first_seen first)
declared_seen (declared.Net signed bounds) = plain.DeclaredNet signed (bounds_seen bounds.bounds)
declared_seen (declared.Reg signed bounds first) = plain.DeclaredReg signed (bounds_seen bounds.bounds) (first_seen first)
declared_seen (declared.Memory signed bounds addresses) = plain.DeclaredMemory signed (bounds_seen bounds.bounds) (range_of addresses.now)
declared_seen declared.Gate = plain.DeclaredGate
declared_seen declared.Instance = plain.DeclaredInstance

abbrev pub declaration_seen : Declaration → plain.Declaration
declaration_seen d = record { name = d.name.now; place = source_place d.place; declared = declared_seen d.declared }

abbrev pub declarations_seen : List Declaration → List plain.Declaration
declarations_seen declarations = map declaration_seen declarations

-- nets that are declared together
abbrev pub wire_declarations : Bool → plain.Bounds → List SourceWire → List plain.Declaration
wire_declarations signed bounds wires = map (λ (w : SourceWire). record { name = w.name; place = w.place; declared = plain.DeclaredNet signed bounds }) wires

abbrev pub instance_declarations : List SourceInstance → List plain.Declaration
instance_declarations instances = map (λ (i : SourceInstance). record { name = i.name; place = i.place; declared = plain.DeclaredInstance }) instances

-- what a declaration is with a second one of its name
abbrev pub joined_with : plain.Declared → plain.Declared → plain.Declared
joined_with (plain.DeclaredPort direction is_reg signed bounds first) (plain.DeclaredNet signed' bounds') = plain.DeclaredPort direction is_reg (signed || signed') bounds first
joined_with (plain.DeclaredPort direction is_reg signed bounds first) (plain.DeclaredReg signed' bounds' first') = plain.DeclaredPort direction true (signed || signed') bounds first'
joined_with d again = d

-- a declaration with a second one of its name, if there is one
abbrev pub joined_by : plain.Declaration → Option plain.Declaration → plain.Declaration
joined_by d None = d
joined_by d (Some again) = record { name = d.name; place = d.place; declared = joined_with d.declared again.declared }

-- the first of a list
abbrev pub first_in : {A : Type 0} → List A → Option A
first_in [] = None
first_in (x ∷ xs) = Some x

-- what is there, as a list
abbrev pub listed : {A : Type 0} → Option A → List A
listed None = []
listed (Some x) = x ∷ []

-- what was there before, else the first of a list
abbrev pub or_first : {A : Type 0} → Option A → List A → Option A
or_first None xs = first_in xs
or_first (Some x) xs = Some x

-- a declaration, unless its name was there before
abbrev pub unless_there : Bool → plain.Declaration → List plain.Declaration
unless_there true d = []
unless_there false d = d ∷ []

-- a parameter, declared with others
abbrev pub param_declared : Bool → Bool → plain.Bounds → SourceParameter → plain.Declaration
param_declared is_local signed bounds p = record { name = p.name; place = p.place; declared = plain.DeclaredParameter is_local signed bounds p.value }

-- a name that is declared as something
abbrev pub name_declared : plain.Declared → NamedPlace → plain.Declaration
name_declared declared n = record { name = n.name; place = n.place; declared = declared }
