use Rattle.std.proofs.Common.{◌≤◌, length, sym, ◌∙◌, rules}
use Rattle.handshake_reader.proofs.Cuts.{part2_at}
use Rattle.handshake_reader.proofs.parts.part2.Goals as goal

pub returns-in-len2-up : goal.returns-in-len2-up
returns-in-len2-up c =
    let h : 2 ≤ length c.args.octets.now = search rules in
    c.part.ensures ∙ sym (part2_at c.args.octets.now h)
