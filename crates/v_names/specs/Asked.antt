-- What is asked of each name in an expression.
use Rattle.std.specs.Prelude.{Bool, not, List, Option}
use Rattle.std.specs.List.{list_all}
use Rattle.v_tree.specs.Trees.{NamedPlace}
use Rattle.v_names.specs.declared.constant_place.Asked.{Asked}
use Rattle.v_names.specs.declared.constant_place.Asked.TheVariants.{Parameter, NotWaiting}
use Rattle.v_names.specs.Scopes.{ScopeEntry, Scope, looked_up, is_parameter, is_waiting}

abbrev pub passes : Asked → Option ScopeEntry → Bool
passes Parameter entry = is_parameter entry
passes NotWaiting entry = not (is_waiting entry)

-- whether each of some names is what is asked
abbrev pub all_pass : Asked → Scope → List NamedPlace → Bool
all_pass asked scope named = list_all (λ (n : NamedPlace). passes asked (looked_up scope n.name)) named
