use Rattle.std.proofs.Common.{◌≡◌, length, get_or, arith, rules, ap, ◌∙◌, zero-add}
use Rattle.topologies.specs.declared.spot.PortUse.TheVariants.{Unused}
use Rattle.topologies.specs.Ports.{spot_at}
use Rattle.topologies.proofs.Counts.{from_first, from_next, from_last}
use Rattle.topologies.proofs.topology.Topology.count.Goals as goal
use Rattle.topologies.proofs.topology.Topology.count.Goals.{then-test, else-test}

pub loop-index-init : goal.loop-index-init
loop-index-init g c =
    let t = c.args.self.now in
    record {
      bound = omega arith;
      value = λ passes answers. zero-add _ ∙ ap length (from_first passes t.switches t.ports);
    }

pub loop-index-preserved : goal.loop-index-preserved
loop-index-preserved g c =
    let t = c.args.self.now in
    let uses = c.uses-port_use-items in
    let i = c.loop-index.index in
    record {
      bound = search rules;
      value = λ passes answers.
          let turn : c.test.result ≡ passes (spot_at i) (get_or uses.result.now i Unused) = rw (← c.spot_at.ensures) (answers _ _ _ c.test.ensures) in
          let next = from_next passes t.switches t.ports uses.result.now uses.ensures t.few.1 (search rules) i c.test.result c.loop-index-test.true turn in
          let before = c.loop-index.invariant.value passes answers in
          elim c.if-test.branch [
            | then-test w ↦ grind (arith, next, before, w.count-is, w.if-test)
            | else-test w ↦ grind (arith, next, before, w.count-is, w.if-test)
          ];
    }

pub returns-clause-value : goal.returns-clause-value
returns-clause-value g c passes answers =
    let t = c.args.self.now in
    let uses = c.uses-port_use-items in
    let none = ap length (from_last passes t.switches t.ports uses.result.now uses.ensures t.few.1 (search rules) c.loop-index.index c.loop-index-test.false) in
    omega (arith, none, c.loop-index.invariant.value passes answers)
