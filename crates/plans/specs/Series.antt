-- The series of an update: every message, in the order of posting. A message's xid is its place, counted from 1.
use Rattle.std.specs.Prelude.{ℕ, zero, suc, Bool, false, ◌&&◌, List, ◌++◌, map, None, Option}
use Rattle.std.specs.List.{range_with_len, slice_get}
use Rattle.rules.specs.declared.row.Action.{Action}
use Rattle.rules.specs.declared.row.Action.TheVariants.{Drop, Out}
use Rattle.rules.specs.declared.row.Row.{Row}
use Rattle.topologies.specs.declared.spot.PortUse.{PortUse}
use Rattle.topologies.specs.declared.spot.Spot.{Spot}
use Rattle.topologies.specs.Ports.{within, use_of, is_edge, edge_ports_of}
use Rattle.messages.specs.Sent.{Sent, add, stamp, remove, barrier}

-- Here n is the number of switches, and `ports` says what each port is used for.

-- An action of a switch sends to an edge port.
abbrev pub to_edge_port : ℕ → List PortUse → ℕ → Action → Bool
to_edge_port n ports switch Drop = false
to_edge_port n ports switch (Out p) = let s : Spot = record { switch = switch; port = p } in within n s && is_edge s (use_of ports s)

-- An add per rule, in configuration order, marked strip exactly when its out port is an edge port.
abbrev pub add_of : ℕ → List PortUse → ℕ → Row → Sent
add_of n ports tag r = add tag r (to_edge_port n ports r.switch r.action)

abbrev pub adds : ℕ → List PortUse → List Row → ℕ → List Sent
adds n ports rules tag = map (add_of n ports tag) rules

-- One message to each switch, in rising order.
abbrev pub barriers : ℕ → List Sent
barriers n = map barrier (range_with_len 0 n)

abbrev pub remove_of : ℕ → ℕ → Sent
remove_of tag switch = remove switch tag

abbrev pub removes : ℕ → ℕ → List Sent
removes n tag = map (remove_of tag) (range_with_len 0 n)

-- A stamp per edge port, by switch and port.
abbrev pub stamp_of : ℕ → Spot → Sent
stamp_of tag s = stamp s.switch s.port tag

abbrev pub stamps : ℕ → List PortUse → ℕ → List Sent
stamps n ports tag = map (stamp_of tag) (edge_ports_of n ports)

-- What the stages post. Draining, between flipping and collecting, posts nothing.
abbrev pub installing : ℕ → List PortUse → List Row → ℕ → List Sent
installing n ports rules new = adds n ports rules new ++ barriers n

abbrev pub flipping : ℕ → List PortUse → ℕ → List Sent
flipping n ports new = stamps n ports new ++ barriers n

abbrev pub collecting : ℕ → ℕ → List Sent
collecting n old = removes n old ++ barriers n

-- The whole series, from the tag in force to the new one.
abbrev pub series : ℕ → List PortUse → List Row → ℕ → ℕ → List Sent
series n ports rules old new = installing n ports rules new ++ (flipping n ports new ++ collecting n old)

-- The message with an xid.
abbrev pub with_xid : List Sent → ℕ → Option Sent
with_xid messages zero = None
with_xid messages (suc k) = slice_get messages k
