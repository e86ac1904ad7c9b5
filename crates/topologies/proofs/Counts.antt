-- The ports that pass a test, found by going through their uses one place at a time.
use Rattle.std.proofs.Common.{◌≡◌, ℕ, suc, ◌+◌, ◌-◌, ◌*◌, ◌<◌, ◌≤◌, Bool, cond, List, [], ◌∷◌, map, length, get_or, take, filter, sym, ap, ◌∙◌, arith, length-take-le}
use Rattle.std.proofs.lemmas.List.{get_or-take}
use Rattle.std.specs.List.{range_with_len}
use Rattle.topologies.specs.declared.spot.PortUse.{PortUse}
use Rattle.topologies.specs.declared.spot.PortUse.TheVariants.{Unused}
use Rattle.topologies.specs.declared.spot.Spot.{Spot}
use Rattle.topologies.specs.Ports.{spot_at, index, use_of, ports_that}
use Rattle.topologies.proofs.Spots.{spots_flat}

index_spot : (i : ℕ) → index (spot_at i) ≡ i
index_spot i = omega arith

module _ (passes : Spot → PortUse → Bool) (n : ℕ) (ports : List PortUse) where
  -- Those of m ports from place i on.
  abbrev kept : ℕ → ℕ → List Spot
  kept i m = filter (λ s. passes s (use_of ports s)) (map spot_at (range_with_len i m))

  abbrev pub from : ℕ → List Spot
  from i = kept i (n * 16 - i)

  pub from_first : from 0 ≡ ports_that passes n ports
  from_first =
      let all : n * 16 - 0 ≡ n * 16 = omega arith in
      rw (all, spots_flat n)

  module _ (uses : List PortUse) (are : uses ≡ take (n * 16) ports) (few : n ≤ 16) (all : length ports ≡ 256) where
    long : length uses ≡ n * 16
    long = ap length are ∙ length-take-le (n * 16) ports (omega arith)

    pub from_next : (i : ℕ) (b : Bool) → i < length uses → b ≡ passes (spot_at i) (get_or uses i Unused) → from i ≡ cond b (spot_at i ∷ from (i + 1)) (from (i + 1))
    from_next i b h e =
        let here : i < n * 16 = omega (arith, long) in
        let more : n * 16 - i ≡ suc (n * 16 - (i + 1)) = omega arith in
        let place : use_of ports (spot_at i) ≡ get_or ports i Unused = ap (λ k. get_or ports k Unused) (index_spot i) in
        let at : get_or uses i Unused ≡ get_or ports i Unused = ap (λ us. get_or us i Unused) are ∙ get_or-take (n * 16) ports i Unused here in
        ap (kept i) more ∙ ap (λ t. cond t (spot_at i ∷ from (i + 1)) (from (i + 1))) (ap (passes (spot_at i)) (place ∙ sym at) ∙ sym e)

    pub from_last : (i : ℕ) → length uses ≤ i → from i ≡ []
    from_last i h =
        let none : n * 16 - i ≡ 0 = omega (arith, long) in
        ap (kept i) none
