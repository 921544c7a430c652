use Rattle.std.proofs.Common.{◌≤◌, length, sym, ◌∙◌, rules}
use Rattle.handshake_reader.proofs.Cuts.{part1_at}
use Rattle.handshake_reader.proofs.parts.part1.Goals as goal

pub returns-in-len1-up : goal.returns-in-len1-up
returns-in-len1-up c =
    let h : 1 ≤ length c.args.octets.now = search rules in
    c.part.ensures ∙ sym (part1_at c.args.octets.now h)
