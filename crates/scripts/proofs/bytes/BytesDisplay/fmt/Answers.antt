use Rattle.std.proofs.Common.{[], ◌++◌, get_or, take, sym, ap, ◌∙◌, rules}
use Rattle.std.proofs.Output.{has_written_append, has_written_of_eq}
use Rattle.std.proofs.lemmas.List.{flat_map_more, take_more}
use Rattle.std.specs.List.{flat_map}
use Rattle.scripts.specs.Texts.{byte_text}
use Rattle.scripts.proofs.Spelled.{byte_spelled}
use Rattle.scripts.proofs.bytes.BytesDisplay.fmt.Goals as goal

pub loop-byte-preserved : goal.loop-byte-preserved
loop-byte-preserved g c plain =
    let bytes = c.args.self.now.0.now in
    let i = c.loop-byte.byte-index in
    let byte = get_or bytes i 0 in
    let more = ap (λ t. flat_map byte_text (take i bytes) ++ t) (byte_spelled byte _ _ (search rules) c.digit-high.ensures c.digit-low.ensures)
    ∙ flat_map_more byte_text [] (take i bytes) byte ∙ ap (flat_map byte_text) (sym (take_more bytes i 0 c.loop-byte-test.true)) in
    has_written_of_eq _ _ _ _ _ more (has_written_append _ _ _ _ _ _ (c.loop-byte.invariant plain) (search rules))
