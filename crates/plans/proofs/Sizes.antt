-- The lengths of the parts of a series.
use Rattle.std.proofs.Common.{◌≡◌, ℕ, ◌+◌, ◌*◌, List, ◌++◌, length, ◌∙◌, arith, length-append}
use lib.ListN.{length-map}
use Rattle.std.proofs.lemmas.List.FromFn.{length-map-range_with_len}
use Rattle.rules.specs.declared.row.Row.{Row}
use Rattle.topologies.specs.declared.spot.PortUse.{PortUse}
use Rattle.topologies.specs.Ports.{edge_ports_of}
use Rattle.messages.specs.Sent.{barrier}
use Rattle.plans.specs.Series.{add_of, adds, barriers, removes, stamps, installing, flipping, collecting, series, stamp_of, remove_of}

pub length-barriers : (n : ℕ) → length (barriers n) ≡ n
length-barriers n = length-map-range_with_len barrier 0 n

pub length-removes : (n tag : ℕ) → length (removes n tag) ≡ n
length-removes n tag = length-map-range_with_len (remove_of tag) 0 n

module _ (n : ℕ) (ports : List PortUse) (rules : List Row) (old new : ℕ) where
  pub length-adds : length (adds n ports rules new) ≡ length rules
  length-adds = length-map rules (add_of n ports new)

  pub length-stamps : length (stamps n ports new) ≡ length (edge_ports_of n ports)
  length-stamps = length-map (edge_ports_of n ports) (stamp_of new)

  pub length-installing : length (installing n ports rules new) ≡ length rules + n
  length-installing = length-append (adds n ports rules new) (barriers n) ∙ omega (arith, length-adds, length-barriers n)

  pub length-flipping : length (flipping n ports new) ≡ length (edge_ports_of n ports) + n
  length-flipping = length-append (stamps n ports new) (barriers n) ∙ omega (arith, length-stamps, length-barriers n)

  length-collecting : length (collecting n old) ≡ 2 * n
  length-collecting = length-append (removes n old) (barriers n) ∙ omega (arith, length-removes n old, length-barriers n)

  pub length-series : length (series n ports rules old new) ≡ length rules + length (edge_ports_of n ports) + 4 * n
  length-series =
      length-append (installing n ports rules new) (flipping n ports new ++ collecting n old)
      ∙ omega (arith, length-append (flipping n ports new) (collecting n old), length-installing, length-flipping, length-collecting)
