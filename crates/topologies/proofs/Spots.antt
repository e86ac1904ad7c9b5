-- All ports by switch and port are the ports in the order in which their uses lie.
use Rattle.std.proofs.Common.{◌≡◌, ℕ, zero, suc, ◌+◌, ◌*◌, ◌/◌, ◌%◌, ◌≤◌, ◌++◌, map, refl, ap, ◌∙◌, arith}
use Rattle.std.specs.List.{range_with_len, flat_map}
use Rattle.topologies.specs.declared.spot.Spot.{Spot}
use Rattle.topologies.specs.Ports.{spot_at, spots}

abbrev at : ℕ → ℕ → Spot
at s p = record { switch = s; port = p }

here : (s k : ℕ) → k + 1 ≤ 16 → at s (k + 1) ≡ spot_at (s * 16 + k)
here s k h =
    let p : s ≡ (s * 16 + k) / 16 = omega arith in
    let q : k + 1 ≡ (s * 16 + k) % 16 + 1 = omega arith in
    λ i. record { switch = p i; port = q i }

-- The last m ports of a switch, from the one after k on, and r more.
of_switch : (s m k r : ℕ) → k + m ≡ 16 → map (at s) (range_with_len (k + 1) m) ++ map spot_at (range_with_len ((s + 1) * 16) r) ≡ map spot_at (range_with_len (s * 16 + k) (m + r))
of_switch s zero k r h =
    let next : (s + 1) * 16 ≡ s * 16 + k = omega arith in
    let all : zero + r ≡ r = omega arith in
    rw (next, all)
of_switch s (suc m) k r h =
    let next : s * 16 + (k + 1) ≡ s * 16 + k + 1 = omega arith in
    let all : suc m + r ≡ suc (m + r) = omega arith in
    rw (all, here s k (omega arith), of_switch s m (k + 1) r (omega arith), next)

from_switch : (n a : ℕ) → flat_map (λ s. map (at s) (range_with_len 1 16)) (range_with_len a n) ≡ map spot_at (range_with_len (a * 16) (n * 16))
from_switch zero a = refl
from_switch (suc n) a =
    let first : a * 16 + 0 ≡ a * 16 = omega arith in
    let all : suc n * 16 ≡ 16 + n * 16 = omega arith in
    ap (λ xs. map (at a) (range_with_len 1 16) ++ xs) (from_switch n (a + 1)) ∙ of_switch a 16 0 (n * 16) refl ∙ rw (first, all)

pub spots_flat : (n : ℕ) → spots n ≡ map spot_at (range_with_len 0 (n * 16))
spots_flat n = from_switch n 0
