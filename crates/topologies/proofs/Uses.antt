-- What a port is used for after a write at another port, or at itself.
use Rattle.std.proofs.Common.{◌≡◌, ℕ, ◌<◌, ◌≤◌, true, false, ◌≢◌, cond, List, length, set, ap, ◌∙◌, inl, inr, arith, get_or-set_other, get_or-set_same}
use Rattle.std.proofs.lemmas.Bool.{cases_Bool}
use Rattle.std.proofs.lemmas.Bool.Decides.{nat_tests}
use Rattle.topologies.specs.declared.spot.Spot.{Spot}
use Rattle.topologies.specs.declared.spot.PortUse.{PortUse}
use Rattle.topologies.specs.declared.spot.PortUse.TheVariants.{Unused}
use Rattle.topologies.specs.Ports.{same, within, index, use_of}
use Rattle.topologies.specs.Building.{Uses}

pub same_self : (s : Spot) → same s s ≡ true
same_self s = grind (arith, nat_tests)

pub same_is : (a b : Spot) → same a b ≡ true → a ≡ b
same_is a b e =
    let s : a.switch ≡ b.switch = grind (arith, nat_tests) in
    let t : a.port ≡ b.port = grind (arith, nat_tests) in
    λ i. record { switch = s i; port = t i }

pub same_swap : (a b : Spot) → same a b ≡ false → same b a ≡ false
same_swap a b ne = grind (arith, nat_tests)

-- The numbers of a port of the topology.
pub within_numbers : (n : ℕ) (s : Spot) → within n s ≡ true → (s.switch < n) × (1 ≤ s.port) × (s.port ≤ 16)
within_numbers n s e = grind (arith, nat_tests)

pub index_below : (n : ℕ) (s : Spot) → n ≤ 16 → within n s ≡ true → index s < 256
index_below n s few w = let numbers = within_numbers n s w in omega arith

apart : (n : ℕ) (a b : Spot) → within n a ≡ true → within n b ≡ true → same a b ≡ false → index a ≢ index b
apart n a b v w ne e =
    let p = within_numbers n a v in
    let q = within_numbers n b w in
    grind (arith, nat_tests)

-- What each port is used for once one of them is put to a use, which lies at place i.
pub put_uses : (n : ℕ) (ports : List PortUse) (s : Spot) (u : PortUse) (i : ℕ) → n ≤ 16 → length ports ≡ 256 → within n s ≡ true → i ≡ index s → Uses n (set ports i u) (λ q. cond (same q s) u (use_of ports q))
put_uses n ports s u i few all w is q v =
    rw is
    (elim (cases_Bool (same q s)) [
      | inl e ↦ rw e (ap (use_of (set ports (index s) u)) (same_is q s e) ∙ get_or-set_same ports (index s) u Unused (rw all (index_below n s few w)))
      | inr e ↦ rw e (get_or-set_other ports (index s) (index q) u Unused (apart n q s v w e))
    ])
