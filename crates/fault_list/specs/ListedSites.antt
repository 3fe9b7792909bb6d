-- What a word spells is a site of the design (the forms of names are this program's own).
use Rattle.std.proofs.Common.{◌≡◌, ℕ, zero, suc, ◌+◌, ◌<◌, ◌≤◌, Bool, true, false, List, [], ◌∷◌, ◌++◌, length, map, filter, Option, Some, None, refl, ap, sym, ◌∙◌, subst, arith, ⊎_elim, find}
use Rattle.std.specs.Prelude.{slice_get, nat_eq, nat_lt, if◌then◌else◌}
use Rattle.std.specs.List.{Contains}
use Rattle.std.specs.Option.{option_and_then, option_map}
use Rattle.std.specs.Str.{bytes_eq}
use Rattle.std.proofs.lemmas.Bool.{or_cases, or_left, or_right, eqb-true, eq-eqb, false≢true}
use borrow.Author.Tests.{ltb-true}
use Rattle.vf_base.specs.Lists.{joined, map_numbered, has}
use Rattle.v_design.specs.Expressions.{up_from}
use Rattle.v_design.specs.Paths.{is_net, net_pieces}
use Rattle.v_design.specs.Designs.{FlatObject, NameJoined, FlatNode, FlatDesign, FaultSite, VariableBit, OutputBit, GateTerminal, width_in}
use Rattle.v_design.specs.Sites.{is_variable, bits_if, bit_name, terminal_name, variable_sites, output_sites, terminal_sites, terminal_count, sites_of}
use Rattle.v_design.specs.declared.logic.ObjectKind.{ObjectKind}
use Rattle.v_design.specs.declared.logic.ObjectKind.TheVariants.{Var, Word, Net}
use Rattle.fault_list.specs.Members.{In, here, there, in-left, in-right, in-map, in-cons, in-joined, in-numbered, contains-in, up-in, in-up, find-sound, answer-sound, filter-has, numbers-has}
use Rattle.fault_list.specs.Members.{width-at, driver-sound, in-has}
use Rattle.fault_list.specs.Spelled.{or_else, first_answer, driver_of, site_by_kind, site_if, site_at, bit_spelled, object_spelled, numbered_terminals, terminal_spelled, node_spelled, piece_bit}
use Rattle.fault_list.specs.Spelled.{place_spelled, place_site, name_spelled, site_spelled}

-- Sites of bits and of terminals

module _ (design : FlatDesign) where
  pub variable-in : (number bit : ℕ) (object : FlatObject) → slice_get design.objects number ≡ Some object → object.kind ≡ Var → bit < object.width → In (VariableBit number bit) (sites_of design)
  variable-in number bit object at kind low =
      let inside : In (VariableBit number bit) (variable_sites number object) =
      subst (λ b. In (VariableBit number bit) (bits_if b (VariableBit number) object.width)) (sym (ap is_variable kind))
      (in-map (VariableBit number) bit (up_from 0 object.width) (in-up 0 object.width bit (omega arith) (omega arith))) in
      let zero_on : number ≡ 0 + number = omega arith in
      in-left (VariableBit number bit) (joined (map_numbered variable_sites 0 design.objects))
      (joined (map_numbered (output_sites design) 0 design.nodes) ++ joined (map_numbered terminal_sites 0 design.nodes))
      (in-numbered variable_sites (VariableBit number bit) 0 number object design.objects at (subst (λ k. In (VariableBit number bit) (variable_sites k object)) zero_on inside))

  pub output-in : (node number bit : ℕ) (found : FlatNode) (object : FlatObject) → slice_get design.nodes node ≡ Some found → has found.outputs number ≡ true →
      slice_get design.objects number ≡ Some object →
      object.kind ≡ Net → bit < object.width → In (OutputBit node number bit) (sites_of design)
  output-in node number bit found object at drives there_at kind low =
      let zero_on : number ≡ 0 + number = omega arith in
      let is_piece : has (net_pieces design) number ≡ true =
      subst (λ k. has (net_pieces design) k ≡ true) (sym zero_on) (numbers-has (λ (o : FlatObject). is_net o.kind) 0 number object design.objects there_at (ap is_net kind)) in
      let width : width_in design number ≡ object.width = width-at design.objects number object there_at in
      let kept : In number (filter (has found.outputs) (net_pieces design)) = in-has (filter (has found.outputs) (net_pieces design)) number
      (filter-has (has found.outputs) (net_pieces design) number is_piece drives) in
      let bits : In (OutputBit node number bit) (map (OutputBit node number) (up_from 0 (width_in design number))) =
      in-map (OutputBit node number) bit (up_from 0 (width_in design number)) (in-up 0 (width_in design number) bit (omega arith) (omega (arith, width))) in
      let inside : In (OutputBit node number bit) (output_sites design node found) =
      in-joined (OutputBit node number bit) (map (OutputBit node number) (up_from 0 (width_in design number)))
      (map (λ object. map (OutputBit node object) (up_from 0 (width_in design object))) (filter (has found.outputs) (net_pieces design))) bits
      (in-map (λ object. map (OutputBit node object) (up_from 0 (width_in design object))) number (filter (has found.outputs) (net_pieces design)) kept) in
      let node_on : node ≡ 0 + node = omega arith in
      in-right (OutputBit node number bit) (joined (map_numbered variable_sites 0 design.objects))
      (joined (map_numbered (output_sites design) 0 design.nodes) ++ joined (map_numbered terminal_sites 0 design.nodes))
      (in-left (OutputBit node number bit) (joined (map_numbered (output_sites design) 0 design.nodes)) (joined (map_numbered terminal_sites 0 design.nodes))
      (in-numbered (output_sites design) (OutputBit node number bit) 0 node found design.nodes at (subst (λ k. In (OutputBit node number bit) (output_sites design k found)) node_on inside)))

  pub terminal-in : (node terminal : ℕ) (found : FlatNode) → slice_get design.nodes node ≡ Some found → 1 ≤ terminal → terminal < 1 + terminal_count found.kind →
      In (GateTerminal node terminal) (sites_of design)
  terminal-in node terminal found at low high =
      let node_on : node ≡ 0 + node = omega arith in
      let inside : In (GateTerminal node terminal) (terminal_sites node found) = in-map (GateTerminal node) terminal (up_from 1 (terminal_count found.kind))
      (in-up 1 (terminal_count found.kind) terminal low high) in
      in-right (GateTerminal node terminal) (joined (map_numbered variable_sites 0 design.objects))
      (joined (map_numbered (output_sites design) 0 design.nodes) ++ joined (map_numbered terminal_sites 0 design.nodes))
      (in-right (GateTerminal node terminal) (joined (map_numbered (output_sites design) 0 design.nodes)) (joined (map_numbered terminal_sites 0 design.nodes))
      (in-numbered terminal_sites (GateTerminal node terminal) 0 node found design.nodes at (subst (λ k. In (GateTerminal node terminal) (terminal_sites k found)) node_on inside)))

  -- the site of a bit of an object, by the object's kind
  pub kind-in : (kind : ObjectKind) (number bit : ℕ) (object : FlatObject) (site : FaultSite) → slice_get design.objects number ≡ Some object → object.kind ≡ kind → bit < object.width →
      site_by_kind design kind number bit ≡ Some site → In site (sites_of design)
  kind-in Var number bit object site at is low e = let same : VariableBit number bit ≡ site = cc in subst (λ s. In s (sites_of design)) same (variable-in number bit object at is low)
  kind-in Word number bit object site at is low e = absurd (cc)
  kind-in Net number bit object site at is low e = driven (driver_of design number) refl e
    where
      driven : (o : Option ℕ) → driver_of design number ≡ o → option_map (λ node. OutputBit node number bit) o ≡ Some site → In site (sites_of design)
      driven None found h = absurd (cc)
      driven (Some node) found h =
          let same : OutputBit node number bit ≡ site = cc in
          let r = driver-sound number design.nodes node found in
          subst (λ s. In s (sites_of design)) same (output-in node number bit r.0 object r.1 r.2 at is low)

  -- the site that a word spells by an object's own name
  pub object-in : (word : List ℕ) (number : ℕ) (object : FlatObject) (site : FaultSite) → slice_get design.objects number ≡ Some object → object_spelled design word number object ≡ Some site →
      In site (sites_of design)
  object-in word number object site at e = by (bit_spelled object word) refl e
    where
      by : (o : Option ℕ) → bit_spelled object word ≡ o → option_and_then (site_by_kind design object.kind number) o ≡ Some site → In site (sites_of design)
      by None found h = absurd (cc)
      by (Some bit) found h =
          let r = find-sound (λ b. bytes_eq (bit_name (Some object) b) word) (up_from 0 object.width) bit found in
          let range = up-in 0 object.width bit r.0 in
          kind-in object.kind number bit object site at refl (omega (arith, range.1)) h

  -- the terminal that a word spells
  pub node-in : (word : List ℕ) (number : ℕ) (node : FlatNode) (site : FaultSite) → slice_get design.nodes number ≡ Some node → node_spelled word number node ≡ Some site → In site (sites_of design)
  node-in word number node site at e = by (terminal_spelled node word) refl e
    where
      by : (o : Option ℕ) → terminal_spelled node word ≡ o → option_map (GateTerminal number) o ≡ Some site → In site (sites_of design)
      by None found h = absurd (cc)
      by (Some terminal) found h =
          let same : GateTerminal number terminal ≡ site = cc in
          let r = find-sound (λ t. bytes_eq (terminal_name (Some node) t) word) (up_from 1 (numbered_terminals node)) terminal found in
          let range = up-in 1 (numbered_terminals node) terminal r.0 in
          subst (λ s. In s (sites_of design)) same (terminal-in number terminal node at range.0 (omega (arith, range.1)))

  -- the site of a bit of the object of a number
  pub place-in : (object bit : ℕ) (site : FaultSite) (found : Option FlatObject) → slice_get design.objects object ≡ found → site_if design found object bit ≡ Some site → In site (sites_of design)
  place-in object bit site None at h = absurd (cc)
  place-in object bit site (Some found) at h =
      elim (nat_lt bit found.width) as (λ b. nat_lt bit found.width ≡ b → (if b then site_by_kind design found.kind object bit else None) ≡ Some site → In site (sites_of design)) [
        | true ↦ λ low e. kind-in found.kind object bit found site at refl (ltb-true bit found.width low) e
        | false ↦ λ high e. absurd (cc)
      ] refl h

  -- the site that a word spells by a joined name
  pub name-in : (word : List ℕ) (number : ℕ) (name : NameJoined) (site : FaultSite) → name_spelled design word number name ≡ Some site → In site (sites_of design)
  name-in word number name site e = by (place_spelled name word) e
    where
      held : (o : Option (ℕ × ℕ)) → option_and_then (λ (held : ℕ × ℕ). site_at design held.0 held.1) o ≡ Some site → In site (sites_of design)
      held None h = absurd (cc)
      held (Some pair) h = place-in pair.0 pair.1 site (slice_get design.objects pair.0) refl h

      by : (o : Option ℕ) → option_and_then (place_site design name) o ≡ Some site → In site (sites_of design)
      by None h = absurd (cc)
      by (Some place) h = held (piece_bit name.vector.pieces place) h

  -- the first answer of one kind of names, else of the others
  pub first-in : (word : List ℕ) (site : FaultSite) → site_spelled design word ≡ Some site → In site (sites_of design)
  first-in word site e = by (first_answer (object_spelled design word) 0 design.objects) refl (first_answer (node_spelled word) 0 design.nodes) refl e
    where
      by : (one : Option FaultSite) → first_answer (object_spelled design word) 0 design.objects ≡ one → (two : Option FaultSite) → first_answer (node_spelled word) 0 design.nodes ≡ two →
          or_else one (or_else two (first_answer (name_spelled design word) 0 design.joined)) ≡ Some site → In site (sites_of design)
      by (Some other) first two second h =
          let same : other ≡ site = cc in
          let r = answer-sound (object_spelled design word) 0 design.objects other first in
          let zero_on : 0 + r.0 ≡ r.0 = omega arith in
          subst (λ s. In s (sites_of design)) same (object-in word r.0 r.1 other r.2 (subst (λ k. object_spelled design word k r.1 ≡ Some other) zero_on r.3))
      by None first (Some other) second h =
          let same : other ≡ site = cc in
          let r = answer-sound (node_spelled word) 0 design.nodes other second in
          let zero_on : 0 + r.0 ≡ r.0 = omega arith in
          subst (λ s. In s (sites_of design)) same (node-in word r.0 r.1 other r.2 (subst (λ k. node_spelled word k r.1 ≡ Some other) zero_on r.3))
      by None first None second h =
          let r = answer-sound (name_spelled design word) 0 design.joined site h in
          name-in word (0 + r.0) r.1 site r.3

-- a word that spells a site spells one that the design has
pub spelled-listed : (design : FlatDesign) (word : List ℕ) (site : FaultSite) → site_spelled design word ≡ Some site → Contains (sites_of design) site
spelled-listed design word site e = contains-in site (sites_of design) (first-in design word site e)
