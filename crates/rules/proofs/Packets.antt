-- What rule patterns admit, as laws on packets.
use Rattle.std.proofs.Common.{◌≡◌, ℕ, ◌^◌, ◌<◌, ◌≤◌, Bool, true, false, ◌&&◌, eqb, MatchBool, sym, refl, ◌∙◌, Some, None, Option}
use Rattle.std.proofs.lemmas.Bool.{true≢false}
use Rattle.patterns.specs.Numbers.{admits_number, fixed_fits}
use Rattle.patterns.specs.declared.port.Port.{Port}
use Rattle.rules.specs.declared.header.Header.{Header}
use Rattle.rules.specs.Admits.{in_block, admits, Meeting}
use Rattle.rules.specs.Written.{RulePattern, port_numbers, block_of, numbers_of}

abbrev same_port : Port → Port → Bool
same_port a b = eqb a.number b.number

abbrev Subject : Type 0
Subject = Port × (ℕ × (ℕ × (ℕ × ℕ)))

abbrev header_of : Subject → Header
header_of x = record { source = x.1.0; destination = x.1.1.0; protocol = x.1.1.1.0; destination_port = x.1.1.1.1 }

abbrev Fitting : Subject → Type 0
Fitting x = ((1 ≤ x.0.number) × (x.0.number ≤ 16)) × ((x.1.0 < 2 ^ 32) × ((x.1.1.0 < 2 ^ 32) × ((x.1.1.1.0 < 2 ^ 8) × (x.1.1.1.1 < 2 ^ 16))))

-- What the pattern's own parts admit.
abbrev covers : RulePattern → Subject → Bool
covers q x =
    admits_number same_port q.0 x.0
    && (in_block (block_of q.1.0) x.1.0
    && (in_block (block_of q.1.1.0) x.1.1.0
    && (admits_number eqb q.1.1.1.0 x.1.1.1.0
    && admits_number eqb q.1.1.1.1 x.1.1.1.1)))

port_admits : (n : Option Port) (x : Port) → admits_number same_port n x ≡ admits_number eqb (port_numbers n) x.number
port_admits None x = refl
port_admits (Some p) x = refl

covers-admits : (q : RulePattern) (x : Subject) → covers q x ≡ admits (numbers_of q) x.0.number (header_of x)
covers-admits q x = rw (port_admits q.0 x.0)

pub port_sound : (n : Option Port) → fixed_fits (λ (p : Port). (1 ≤ p.number) × (p.number ≤ 16)) n
port_sound None = tt
port_sound (Some p) = p.ok

-- An answer on subjects is one on packets; A and B are that the patterns' own numbers fit.
pub on_packets : (r : Bool) (a b : RulePattern) {A B : Type 0} → A → B → MatchBool r (A → B → (x : Subject) × (Fitting x × ((covers a x && covers b x) ≡ true))) ((x : Subject) → (covers a x && covers b x) ≡ false) → MatchBool r (Meeting (numbers_of a) (numbers_of b)) (Meeting (numbers_of a) (numbers_of b) → ⊥)
on_packets true a b u v some =
    let (x, (f, e)) = some u v in
    (x.0.number, header_of x, ((f.0, f.1.0, f.1.1.0, f.1.1.1.0, f.1.1.1.1), rw (← covers-admits a x, ← covers-admits b x) e))
on_packets false a b u v none = λ (port, h, (p, e)).
    let x : Subject = (record { number = port; ok = p.0 }, (h.source, (h.destination, (h.protocol, h.destination_port)))) in
    true≢false (sym e ∙ rw (← covers-admits a x, ← covers-admits b x) (none x))
