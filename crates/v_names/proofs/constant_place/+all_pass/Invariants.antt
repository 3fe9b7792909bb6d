use Rattle.std.proofs.Common.{◌≡◌, drop}
use Rattle.v_tree.specs.Trees.{named_in_parts}
use Rattle.v_tree.specs.Views.{expressions_of}
use Rattle.v_names.specs.Asked.{all_pass}
use Rattle.v_names.proofs.constant_place.+all_pass.Given as goal

abbrev pub invariant-all_parts_pass-parts : goal.invariant-all_parts_pass-parts
invariant-all_parts_pass-parts l =
    all_pass l.asked l.scope (named_in_parts (expressions_of l.parts)) ≡ all_pass l.asked l.scope (named_in_parts (expressions_of (drop l.part-index l.parts)))
