use Rattle.std.proofs.Common.{◌≡◌, suc, ◌-◌, List, get_or, arith, rules, ap}
use Rattle.std.specs.List.{slice_get}
use Rattle.topologies.specs.declared.spot.PortUse.TheVariants.{Unused}
use Rattle.topologies.specs.declared.spot.Spot.{Spot}
use Rattle.topologies.specs.Ports.{spot_at, is_edge}
use Rattle.topologies.proofs.Counts.{from_first, from_next, from_last}
use Rattle.topologies.proofs.topology.Topology.edge_port.Goals as goal
use Rattle.topologies.proofs.topology.Topology.edge_port.Goals.{then-is_edge+else-left-eq0, else-is_edge}

pub loop-index-init : goal.loop-index-init
loop-index-init c =
    let t = c.args.self.now in
    ap (λ (xs : List Spot). slice_get xs c.args.place) (from_first is_edge t.switches t.ports)

pub returns-then-left-eq0-clause-value : goal.returns-then-left-eq0-clause-value
returns-then-left-eq0-clause-value c =
    let t = c.args.self.now in
    let uses = c.uses-port_use-items in
    let i = c.loop-index.index in
    let turn : c.is_edge.result ≡ is_edge (spot_at i) (get_or uses.result.now i Unused) = rw (← c.spot_at-at.ensures) c.is_edge.ensures in
    let next = from_next is_edge t.switches t.ports uses.result.now uses.ensures t.few.1 (search rules) i c.is_edge.result c.loop-index-test.true turn in
    grind (arith, next, c.loop-index.invariant, c.spot_at-at.ensures)

pub loop-index-preserved : goal.loop-index-preserved
loop-index-preserved c =
    let t = c.args.self.now in
    let uses = c.uses-port_use-items in
    let i = c.loop-index.index in
    let left = c.loop-index.left in
    let turn : c.is_edge.result ≡ is_edge (spot_at i) (get_or uses.result.now i Unused) = rw (← c.spot_at-at.ensures) c.is_edge.ensures in
    let next = from_next is_edge t.switches t.ports uses.result.now uses.ensures t.few.1 (search rules) i c.is_edge.result c.loop-index-test.true turn in
    elim c.if-is_edge.branch [
      | then-is_edge+else-left-eq0 w ↦
          let more : left ≡ suc (left - 1) = omega (arith, w.if-left-eq0.false) in
          grind (arith, next, more, c.loop-index.invariant, w.left-is, w.if-is_edge)
      | else-is_edge w ↦ grind (arith, next, c.loop-index.invariant, w.left-is, w.if-is_edge)
    ]

pub returns-clause-value : goal.returns-clause-value
returns-clause-value c =
    let t = c.args.self.now in
    let uses = c.uses-port_use-items in
    let none = from_last is_edge t.switches t.ports uses.result.now uses.ensures t.few.1 (search rules) c.loop-index.index c.loop-index-test.false in
    grind (arith, none, c.loop-index.invariant)
