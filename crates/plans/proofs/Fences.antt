-- A series is in order: each kind of message has its part of the series, and barriers stand between the parts.
use Rattle.std.proofs.Common.{◌≡◌, ℕ, ◌+◌, ◌-◌, ◌*◌, ◌<◌, ◌≤◌, List, [], ◌++◌, map, length, Some, sym, refl, ap, ◌∙◌, subst, inl, inr, arith, length-append}
use Rattle.std.proofs.ByRecursion.{All-append, All-map, all_kept_by, All-weaker}
use Rattle.std.proofs.lemmas.List.{append_assoc, append-nil}
use Rattle.std.proofs.lemmas.Bool.{cases_lt, ltb-true}
use Rattle.std.specs.List.{range_with_len, AllByRecursion, slice_get}
use Rattle.std.specs.Option.{option_map}
use Rattle.std.proofs.lemmas.Option.{slice_get-map, slice_get_within}
use Rattle.patterns.proofs.Lists.{slice_get_front, slice_get_back, slice_get-range_with_len, All-slice_get, All_any, All_from_slice_get, All-range_with_len}
use Rattle.rules.specs.declared.row.Row.{Row}
use Rattle.topologies.proofs.Spots.{spots_flat}
use Rattle.topologies.specs.Ports.{spot_at, spots, edge_ports_of}
use Rattle.topologies.specs.declared.spot.PortUse.{PortUse}
use Rattle.topologies.specs.declared.spot.Spot.{Spot}
use Rattle.messages.specs.Lines.{kind_of, tag_of}
use Rattle.messages.specs.Sent.{Sent, barrier, switch_of}
use Rattle.messages.specs.declared.line.Kind.{Kind}
use Rattle.messages.specs.declared.line.Kind.TheVariants as kind
use Rattle.plans.specs.Fences.{Posted, Tagged, BarrierBetween, Fenced, InOrder}
use Rattle.plans.specs.Series.{add_of, adds, barriers, removes, stamps, installing, flipping, collecting, series, stamp_of, remove_of}
use Rattle.plans.specs.Switches.{on_switch, OnSwitches}
use Rattle.plans.proofs.Sizes.{length-barriers}

barrier_at : (n s : ℕ) → s < n → slice_get (barriers n) s ≡ Some (barrier s)
barrier_at n s h = slice_get-map barrier (range_with_len 0 n) s ∙ ap (option_map barrier) (slice_get-range_with_len n s h)

-- No message of a list is of a kind; those of a kind go to switches below n, or carry a tag.
abbrev Free : Kind → Sent → Type 0
Free k m = kind_of m ≡ k → ⊥

abbrev Below : ℕ → Kind → Sent → Type 0
Below n k m = kind_of m ≡ k → switch_of m < n

abbrev Carries : ℕ → Kind → Sent → Type 0
Carries t k m = kind_of m ≡ k → tag_of m ≡ t

-- A front with all messages of a kind, barriers to n switches, and the rest.
module _ (front back : List Sent) (n : ℕ) (k : Kind) (low : AllByRecursion (Below n k) front) (rest : AllByRecursion (Free k) (barriers n ++ back)) where
  abbrev whole : List Sent
  whole = front ++ (barriers n ++ back)

  -- Such a message lies in the front, and a barrier to its switch follows before the rest.
  followed : (i : ℕ) (a : Sent) → Posted whole i k a → (j : ℕ) → length front + n ≤ j → BarrierBetween whole i j a
  followed i a st j after =
      elim (cases_lt i (length front)) [
        | inl h ↦
            let s = switch_of a in
            let below : s < n = All-slice_get (Below n k) front i a low (sym (slice_get_front front (barriers n ++ back) i h) ∙ st.here) st.kind in
            let in_barriers : s < length (barriers n) = rw (length-barriers n) below in
            let gap : (length front + s) - length front ≡ s = omega arith in
            let at : slice_get whole (length front + s) ≡ Some (barrier s) =
            slice_get_back front (barriers n ++ back) (length front + s) (omega arith)
            ∙ ap (slice_get (barriers n ++ back)) gap ∙ slice_get_front (barriers n) back s in_barriers ∙ barrier_at n s below in
            (length front + s, omega arith, omega arith, at)
        | inr h ↦ absurd (All-slice_get (Free k) (barriers n ++ back) (i - length front) a rest (sym (slice_get_back front (barriers n ++ back) i h) ∙ st.here) st.kind)
      ]

  fenced : (l : Kind) → AllByRecursion (Free l) (front ++ barriers n) → Fenced whole k l
  fenced l early i j a b sa sb =
      let long : length (front ++ barriers n) ≡ length front + n = length-append front (barriers n) ∙ ap (λ m. length front + m) (length-barriers n) in
      elim (cases_lt j (length front + n)) [
        | inl h ↦
            let within_front : j < length (front ++ barriers n) = rw long h in
            let here : slice_get (front ++ barriers n) j ≡ Some b = sym (slice_get_front (front ++ barriers n) back j within_front) ∙ ap (λ xs. slice_get xs j) (append_assoc front (barriers n) back) ∙ sb.here in
            absurd (All-slice_get (Free l) (front ++ barriers n) j b early here sb.kind)
        | inr h ↦ followed i a sa j h
      ]

module _ (n : ℕ) (ports : List PortUse) (rules : List Row) (old new : ℕ) where
  -- A list made from any other has no message of another kind.
  none_made : {X : Type 0} (k : Kind) (f : X → Sent) → ((x : X) → Free k (f x)) → (xs : List X) → AllByRecursion (Free k) (map f xs)
  none_made k f free xs = All-map (Free k) f xs (All_any (λ x. Free k (f x)) free xs)

  low_made : {X : Type 0} (k : Kind) (f : X → Sent) → (xs : List X) → AllByRecursion (λ x. switch_of (f x) < n) xs → AllByRecursion (Below n k) (map f xs)
  low_made k f xs low = All-map (Below n k) f xs (All-weaker (λ x. switch_of (f x) < n) (λ x. Below n k (f x)) (λ x h e. h) xs low)

  free_adds : (k : Kind) → (kind.Add ≡ k → ⊥) → AllByRecursion (Free k) (adds n ports rules new)
  free_adds k ne = none_made k (add_of n ports new) (λ r. ne) rules

  free_stamps : (k : Kind) → (kind.Stamp ≡ k → ⊥) → AllByRecursion (Free k) (stamps n ports new)
  free_stamps k ne = none_made k (stamp_of new) (λ s. ne) (edge_ports_of n ports)

  free_removes : (k : Kind) → (kind.Remove ≡ k → ⊥) → AllByRecursion (Free k) (removes n old)
  free_removes k ne = none_made k (remove_of old) (λ s. ne) (range_with_len 0 n)

  free_barriers : (k : Kind) → (kind.Barrier ≡ k → ⊥) → AllByRecursion (Free k) (barriers n)
  free_barriers k ne = none_made k barrier (λ s. ne) (range_with_len 0 n)

  -- What has no message of a kind has none of it that goes astray.
  low_free : (k : Kind) (xs : List Sent) → AllByRecursion (Free k) xs → AllByRecursion (Below n k) xs
  low_free k xs free = All-weaker (Free k) (Below n k) (λ m f e. absurd (f e)) xs free

  low_adds : OnSwitches n rules (length rules) → AllByRecursion (Below n kind.Add) (adds n ports rules new)
  low_adds on =
      low_made kind.Add (add_of n ports new) rules
      (All_from_slice_get (λ (r : Row). r.switch < n) rules (λ k r e. ltb-true r.switch n (ap (on_switch n) (sym e) ∙ on k (slice_get_within rules k r e))))

  edges_within : AllByRecursion (λ (s : Spot). s.switch < n) (edge_ports_of n ports)
  edges_within =
      let flat = All-map (λ (s : Spot). s.switch < n) spot_at (range_with_len 0 (n * 16))
      (All-weaker (λ i. i < n * 16) (λ i. (spot_at i).switch < n) (λ i h. omega arith) (range_with_len 0 (n * 16)) (All-range_with_len 0 (n * 16) (n * 16) (omega arith))) in
      all_kept_by _ (λ (s : Spot). s.switch < n) (spots n) (subst (AllByRecursion (λ (s : Spot). s.switch < n)) (sym (spots_flat n)) flat)

  low_stamps : AllByRecursion (Below n kind.Stamp) (stamps n ports new)
  low_stamps = low_made kind.Stamp (stamp_of new) (edge_ports_of n ports) edges_within

  low_removes : AllByRecursion (Below n kind.Remove) (removes n old)
  low_removes = low_made kind.Remove (remove_of old) (range_with_len 0 n) (All-range_with_len 0 n n (omega arith))

  abbrev installs : List Sent
  installs = installing n ports rules new

  abbrev flips : List Sent
  flips = flipping n ports new

  abbrev collects : List Sent
  collects = collecting n old

  free_installing : (k : Kind) → (kind.Add ≡ k → ⊥) → (kind.Barrier ≡ k → ⊥) → AllByRecursion (Free k) installs
  free_installing k a b = All-append (Free k) (adds n ports rules new) (barriers n) (free_adds k a) (free_barriers k b)

  free_flipping : (k : Kind) → (kind.Stamp ≡ k → ⊥) → (kind.Barrier ≡ k → ⊥) → AllByRecursion (Free k) flips
  free_flipping k s b = All-append (Free k) (stamps n ports new) (barriers n) (free_stamps k s) (free_barriers k b)

  free_collecting : (k : Kind) → (kind.Remove ≡ k → ⊥) → (kind.Barrier ≡ k → ⊥) → AllByRecursion (Free k) collects
  free_collecting k r b = All-append (Free k) (removes n old) (barriers n) (free_removes k r) (free_barriers k b)

  adds_first : OnSwitches n rules (length rules) → (l : Kind) → (kind.Add ≡ l → ⊥) → (kind.Barrier ≡ l → ⊥) → Fenced (series n ports rules old new) kind.Add l
  adds_first on l a b =
      let no_barrier = free_barriers kind.Add (λ e. cc) in
      let later = All-append (Free kind.Add) flips collects
      (free_flipping kind.Add (λ e. cc) (λ e. cc))
      (free_collecting kind.Add (λ e. cc) (λ e. cc)) in
      subst (λ xs. Fenced xs kind.Add l) (sym (append_assoc (adds n ports rules new) (barriers n) (flips ++ collects)))
      (fenced (adds n ports rules new) (flips ++ collects) n kind.Add (low_adds on)
      (All-append (Free kind.Add) (barriers n) (flips ++ collects) no_barrier later) l (free_installing l a b))

  stamps_removes : Fenced (series n ports rules old new) kind.Stamp kind.Remove
  stamps_removes =
      let front = installs ++ stamps n ports new in
      let parts : front ++ (barriers n ++ collects) ≡ series n ports rules old new =
      append_assoc installs (stamps n ports new) (barriers n ++ collects) ∙ ap (λ xs. installs ++ xs) (sym (append_assoc (stamps n ports new) (barriers n) collects)) in
      let low = All-append (Below n kind.Stamp) installs (stamps n ports new) (low_free kind.Stamp installs (free_installing kind.Stamp (λ e. cc) (λ e. cc))) low_stamps in
      let early = All-append (Free kind.Remove) front (barriers n)
      (All-append (Free kind.Remove) installs (stamps n ports new) (free_installing kind.Remove (λ e. cc) (λ e. cc)) (free_stamps kind.Remove (λ e. cc)))
      (free_barriers kind.Remove (λ e. cc)) in
      subst (λ xs. Fenced xs kind.Stamp kind.Remove) parts
      (fenced front collects n kind.Stamp low
      (All-append (Free kind.Stamp) (barriers n) collects (free_barriers kind.Stamp (λ e. cc)) (free_collecting kind.Stamp (λ e. cc) (λ e. cc)))
      kind.Remove early)

  abbrev Ends : List Sent → Type 0
  Ends xs = (i : ℕ) (a : Sent) → Posted xs i kind.Remove a → BarrierBetween xs i (length xs) a

  removes_end : Ends (series n ports rules old new)
  removes_end =
      let front = installs ++ (flips ++ removes n old) in
      let parts : front ++ (barriers n ++ []) ≡ series n ports rules old new =
      append_assoc installs (flips ++ removes n old) (barriers n ++ [])
      ∙ ap (λ xs. installs ++ xs) (append_assoc flips (removes n old) (barriers n ++ []) ∙ ap (λ xs. flips ++ (removes n old ++ xs)) (append-nil (barriers n))) in
      let low = All-append (Below n kind.Remove) installs (flips ++ removes n old) (low_free kind.Remove installs (free_installing kind.Remove (λ e. cc) (λ e. cc)))
      (All-append (Below n kind.Remove) flips (removes n old) (low_free kind.Remove flips (free_flipping kind.Remove (λ e. cc) (λ e. cc))) low_removes) in
      let rest = All-append (Free kind.Remove) (barriers n) [] (free_barriers kind.Remove (λ e. cc)) tt in
      let long : length (front ++ (barriers n ++ [])) ≡ length front + n = length-append front (barriers n ++ []) ∙ ap (λ m. length front + m) (ap length (append-nil (barriers n)) ∙ length-barriers n) in
      subst Ends parts (λ i a st. followed front [] n kind.Remove low rest i a st (length (front ++ (barriers n ++ []))) (omega arith))

  free_carries : (t : ℕ) (k : Kind) (xs : List Sent) → AllByRecursion (Free k) xs → AllByRecursion (Carries t k) xs
  free_carries t k xs free = All-weaker (Free k) (Carries t k) (λ m f e. absurd (f e)) xs free

  tagged : (t : ℕ) (k : Kind) → (kind.Barrier ≡ k → ⊥) → AllByRecursion (Carries t k) (adds n ports rules new) → AllByRecursion (Carries t k) (stamps n ports new) → AllByRecursion (Carries t k) (removes n old) → Tagged (series n ports rules old new) k t
  tagged t k b xs ys zs i m posted =
      let with_barriers = λ (part : List Sent) (all : AllByRecursion (Carries t k) part). All-append (Carries t k) part (barriers n) all (free_carries t k (barriers n) (free_barriers k b)) in
      All-slice_get (Carries t k) (series n ports rules old new) i m
      (All-append (Carries t k) installs (flips ++ collects) (with_barriers (adds n ports rules new) xs)
      (All-append (Carries t k) flips collects (with_barriers (stamps n ports new) ys) (with_barriers (removes n old) zs)))
      posted.here posted.kind

  made_carries : {X : Type 0} (t : ℕ) (k : Kind) (f : X → Sent) → ((x : X) → tag_of (f x) ≡ t) → (xs : List X) → AllByRecursion (Carries t k) (map f xs)
  made_carries t k f is xs = All-map (Carries t k) f xs (All_any (λ x. Carries t k (f x)) (λ x e. is x) xs)

  adds_tagged : Tagged (series n ports rules old new) kind.Add new
  adds_tagged =
      tagged new kind.Add (λ e. cc) (made_carries new kind.Add (add_of n ports new) (λ r. refl) rules)
      (free_carries new kind.Add (stamps n ports new) (free_stamps kind.Add (λ e. cc)))
      (free_carries new kind.Add (removes n old) (free_removes kind.Add (λ e. cc)))

  stamps_tagged : Tagged (series n ports rules old new) kind.Stamp new
  stamps_tagged =
      tagged new kind.Stamp (λ e. cc) (free_carries new kind.Stamp (adds n ports rules new) (free_adds kind.Stamp (λ e. cc)))
      (made_carries new kind.Stamp (stamp_of new) (λ s. refl) (edge_ports_of n ports))
      (free_carries new kind.Stamp (removes n old) (free_removes kind.Stamp (λ e. cc)))

  removes_tagged : Tagged (series n ports rules old new) kind.Remove old
  removes_tagged =
      tagged old kind.Remove (λ e. cc) (free_carries old kind.Remove (adds n ports rules new) (free_adds kind.Remove (λ e. cc)))
      (free_carries old kind.Remove (stamps n ports new) (free_stamps kind.Remove (λ e. cc)))
      (made_carries old kind.Remove (remove_of old) (λ s. refl) (range_with_len 0 n))

  pub in_order : OnSwitches n rules (length rules) → InOrder (series n ports rules old new) old new
  in_order on = record {
    adds_new = adds_tagged;
    stamps_new = stamps_tagged;
    removes_old = removes_tagged;
    adds_then_stamps = adds_first on kind.Stamp (λ e. cc) (λ e. cc);
    adds_then_removes = adds_first on kind.Remove (λ e. cc) (λ e. cc);
    stamps_then_removes = stamps_removes;
    removes_then_end = removes_end;
  }
