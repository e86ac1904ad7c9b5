-- Links stay mutual where ports that were unused become edge ports or the two ends of a link.
use Rattle.std.proofs.Common.{◌≡◌, ℕ, ◌≤◌, true, false, not, cond, ◌&&◌, List, length, set, refl, ap, ◌∙◌, inl, inr, length-set, arith}
use Rattle.std.proofs.lemmas.Bool.{and_parts, and_from, not_from_false, cond-true, cond-false, cases_Bool}
use Rattle.std.proofs.lemmas.Bool.Decides.{nat_tests}
use Rattle.topologies.specs.declared.spot.Spot.{Spot}
use Rattle.topologies.specs.declared.spot.PortUse.{PortUse}
use Rattle.topologies.specs.declared.spot.PortUse.TheVariants.{Unused, Edge, Linked}
use Rattle.topologies.specs.Ports.{same, within, index, use_of, is_unused, is_linked_with, links_back, Paired}
use Rattle.topologies.specs.Building.{with_link, link_use, Uses}
use Rattle.topologies.proofs.Uses.{same_self, same_is, same_swap, put_uses}

linked_used : (s : Spot) (u : PortUse) → is_linked_with s u ≡ true → is_unused u ≡ false
linked_used s Unused e = cc
linked_used s Edge e = refl
linked_used s (Linked o) e = refl

module _ (n : ℕ) (ports : List PortUse) where
  -- Ports that are used are used for the same afterwards.
  abbrev Keeps : List PortUse → Type 0
  Keeps after = (o : Spot) → within n o ≡ true → is_unused (use_of ports o) ≡ false → use_of after o ≡ use_of ports o

  still_back : (after : List PortUse) → Keeps after → (q : Spot) (u : PortUse) → links_back n ports q u ≡ true → links_back n after q u ≡ true
  still_back after keeps q Unused e = refl
  still_back after keeps q Edge e = refl
  still_back after keeps q (Linked o) e =
      let (w, rest) = and_parts (within n o) (not (same o q) && is_linked_with q (use_of ports o)) e in
      let (ne, back) = and_parts (not (same o q)) (is_linked_with q (use_of ports o)) rest in
      rw (keeps o w (linked_used q (use_of ports o) back)) e

  -- The two ends of a link.
  ends : (after : List PortUse) (s o : Spot) → within n o ≡ true → same o s ≡ false → use_of after o ≡ Linked s → links_back n after s (Linked o) ≡ true
  ends after s o w ne at = and_from _ _ w (and_from _ _ (not_from_false _ ne) (ap (is_linked_with s) at ∙ same_self s))

  unlike : (s o : Spot) → is_unused (use_of ports s) ≡ true → is_unused (use_of ports o) ≡ false → same o s ≡ false
  unlike s o free used =
      elim (cases_Bool (same o s)) [
        | inl e ↦ cc (same_is o s e)
        | inr e ↦ e
      ]

  module _ (few : n ≤ 16) (all : length ports ≡ 256) where
    pub link_uses : (a b : Spot) → within n a ≡ true → within n b ≡ true → same a b ≡ false → (after : List PortUse) → after ≡ with_link ports a b → Uses n after (link_use ports a b)
    link_uses a b wa wb ne after is q v =
        let one = set ports (index a) (Linked b) in
        let first = put_uses n ports a (Linked b) (index a) few all wa refl q v in
        let both : use_of (with_link ports a b) q ≡ cond (same q b) (Linked a) (use_of one q) = put_uses n one b (Linked a) (index b) few (length-set ports (index a) (Linked b) ∙ all) wb refl q v in
        rw is (grind (arith, nat_tests, first, both))

    module _ (paired : Paired n ports) where
      -- A port that is unused, and is put to a use that is no link.
      pub edge_paired : (s : Spot) (u : PortUse) (i : ℕ) → ((after : List PortUse) → links_back n after s u ≡ true) → within n s ≡ true → is_unused (use_of ports s) ≡ true → i ≡ index s → Paired n (set ports i u)
      edge_paired s u i alone w free is q v =
          let after = set ports i u in
          let uses = put_uses n ports s u i few all w is in
          let keeps : Keeps after = λ o x used. uses o x ∙ cond-false _ _ _ (unlike s o free used) in
          elim (cases_Bool (same q s)) [
            | inl e ↦ rw (uses q v, e, same_is q s e) (alone after)
            | inr e ↦ rw (uses q v, e) (still_back after keeps q (use_of ports q) (paired q v))
          ]

      pub link_paired : (a b : Spot) → within n a ≡ true → within n b ≡ true → is_unused (use_of ports a) ≡ true → is_unused (use_of ports b) ≡ true → same a b ≡ false → (after : List PortUse) → after ≡ with_link ports a b → Paired n after
      link_paired a b wa wb fa fb ne after is q v =
          let uses = link_uses a b wa wb ne after is in
          let at_a : use_of after a ≡ Linked b = uses a wa ∙ cond-true _ _ _ (same_self a) in
          let at_b : use_of after b ≡ Linked a = uses b wb ∙ cond-false _ _ _ (same_swap a b ne) ∙ cond-true _ _ _ (same_self b) in
          let keeps : Keeps after = λ o x used. uses o x ∙ cond-false _ _ _ (unlike a o fa used) ∙ cond-false _ _ _ (unlike b o fb used) in
          elim (cases_Bool (same q a)) [
            | inl e ↦ rw (same_is q a e, at_a) (ends after a b wb (same_swap a b ne) at_b)
            | inr na ↦ elim (cases_Bool (same q b)) [
              | inl e ↦ rw (same_is q b e, at_b) (ends after b a wa ne at_a)
              | inr nb ↦ rw (uses q v, na, nb) (still_back after keeps q (use_of ports q) (paired q v))
            ]
          ]
