-- The ports of a topology of n switches, and what each is used for.
use Rattle.std.specs.Prelude.{◌≡◌, ℕ, ◌+◌, ◌-◌, ◌*◌, ◌/◌, ◌%◌, Bool, true, false, not, ◌&&◌, ◌||◌, List, map, filter, ◌==◌, nat_lt, slice_index_or}
use Rattle.std.specs.List.{range_with_len, flat_map}
use Rattle.topologies.specs.declared.spot.Spot.{Spot}
use Rattle.patterns.specs.Limits.{is_port}
use Rattle.topologies.specs.declared.spot.PortUse.{PortUse}
use Rattle.topologies.specs.declared.spot.PortUse.TheVariants.{Unused, Edge, Linked}

abbrev pub same : Spot → Spot → Bool
same a b = a.switch == b.switch && a.port == b.port

-- A port of one of the n switches: the switch below n, the port 1 to 16.
abbrev pub within : ℕ → Spot → Bool
within n s = nat_lt s.switch n && is_port s.port

-- The ports lie in one list, 16 to a switch, by switch and port.
abbrev pub index : Spot → ℕ
index s = s.switch * 16 + (s.port - 1)

-- The port whose use lies at a place of that list.
abbrev pub spot_at : ℕ → Spot
spot_at i = record { switch = i / 16; port = i % 16 + 1 }

abbrev pub use_of : List PortUse → Spot → PortUse
use_of ports s = slice_index_or ports (index s) Unused

abbrev pub is_unused : PortUse → Bool
is_unused Unused = true
is_unused Edge = false
is_unused (Linked o) = false

abbrev pub is_linked_with : Spot → PortUse → Bool
is_linked_with s Unused = false
is_linked_with s Edge = false
is_linked_with s (Linked o) = same o s

-- A port that is linked is linked with one other port of the topology, which is linked with it.
abbrev pub links_back : ℕ → List PortUse → Spot → PortUse → Bool
links_back n ports s Unused = true
links_back n ports s Edge = true
links_back n ports s (Linked o) = within n o && (not (same o s) && is_linked_with s (use_of ports o))

abbrev pub Paired : ℕ → List PortUse → Type 0
Paired n ports = (s : Spot) → within n s ≡ true → links_back n ports s (use_of ports s) ≡ true

-- All ports of n switches: for each switch in rising order its ports 1 to 16.
abbrev pub spots : ℕ → List Spot
spots n = flat_map (λ s. map (λ p. record { switch = s; port = p }) (range_with_len 1 16)) (range_with_len 0 n)

-- By switch and port.
abbrev pub comes_before : Spot → Spot → Bool
comes_before a b = nat_lt a.switch b.switch || (a.switch == b.switch && nat_lt a.port b.port)

abbrev pub is_edge : Spot → PortUse → Bool
is_edge s Unused = false
is_edge s Edge = true
is_edge s (Linked o) = false

-- The first of the two ends of a link.
abbrev pub is_first_end : Spot → PortUse → Bool
is_first_end s Unused = false
is_first_end s Edge = false
is_first_end s (Linked o) = comes_before s o

-- Whatever a closure answers at a port and its use is what the test says.
abbrev pub AnswersAs : (Spot → PortUse → Bool → Type 0) → (Spot → PortUse → Bool) → Type 0
AnswersAs gives passes = (s : Spot) (u : PortUse) (r : Bool) → gives s u r → r ≡ passes s u

-- The ports that pass a test, by switch and port.
abbrev pub ports_that : (Spot → PortUse → Bool) → ℕ → List PortUse → List Spot
ports_that passes n ports = filter (λ s. passes s (use_of ports s)) (spots n)

abbrev pub edge_ports_of : ℕ → List PortUse → List Spot
edge_ports_of = ports_that is_edge

-- Each link, by its first end.
abbrev pub links : ℕ → List PortUse → List Spot
links = ports_that is_first_end
