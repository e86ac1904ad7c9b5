use Rattle.std.proofs.Common.{◌^◌, ◌<◌, rules}
use Rattle.patterns.specs.Numbers.{fixed_fits}
use Rattle.rules.proofs.Packets.{on_packets, port_sound}
use Rattle.rules.proofs.rule.matching.meet_somewhere.Goals as goal

pub returns : goal.returns
returns c =
    let a = c.args.a in
    let b = c.args.b in
    let protocol_a : fixed_fits (λ n. n < 2 ^ 8) a.1.1.1.0 = search rules in
    let port_a : fixed_fits (λ n. n < 2 ^ 16) a.1.1.1.1 = search rules in
    let protocol_b : fixed_fits (λ n. n < 2 ^ 8) b.1.1.1.0 = search rules in
    let port_b : fixed_fits (λ n. n < 2 ^ 16) b.1.1.1.1 = search rules in
    on_packets c.overlap.result a b (port_sound a.0, (tt, (tt, (protocol_a, port_a)))) (port_sound b.0, (tt, (tt, (protocol_b, port_b)))) c.overlap.ensures.cases
