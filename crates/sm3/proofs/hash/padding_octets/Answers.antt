use Rattle.std.proofs.Common.{refl, ◌∙◌}
use Rattle.sm3.proofs.Updating.{padding_is}
use Rattle.sm3.proofs.hash.padding_octets.Goals as goal

pub returns : goal.returns
returns c =
    padding_is 71 c.args.count c.padding_len-end.result c.copy_from_slice.new.self refl c.padding_len-end.ensures
    (c.copy_from_slice.ensures.after ∙ c.bit_count-bits.ensures)
