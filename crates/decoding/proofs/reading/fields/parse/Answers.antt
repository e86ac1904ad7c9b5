use Rattle.std.proofs.Common.{get_or}
use Rattle.decoding.specs.Offsets.{fields_at}
use Rattle.decoding.proofs.reading.fields.parse.Goals as goal

pub returns : goal.returns
unfolding fields_at
returns c = λ j. record {
  wildcards = c.u32_at.ensures j;
  in_port = c.u16_at.ensures j;
  vlan = c.u16_at-2.ensures j;
  ethernet_type = c.u16_at-3.ensures j;
  protocol = get_or c.args.bytes.now 33 0;
  source = c.u32_at-2.ensures j;
  destination = c.u32_at-3.ensures j;
  destination_port = c.u16_at-4.ensures j;
  command = c.u16_at-5.ensures j;
  priority = c.u16_at-6.ensures j;
  flags = c.u16_at-7.ensures j;
  actions = c.actions.ensures j;
}
