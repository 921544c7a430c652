use Rattle.std.proofs.Common.{◌≤◌, length, sym, ◌∙◌, rules}
use Rattle.handshake_reader.proofs.Cuts.{part3_at}
use Rattle.handshake_reader.proofs.parts.part3.Goals as goal

pub returns-in-len3-up : goal.returns-in-len3-up
returns-in-len3-up c =
    let h : 3 ≤ length c.args.octets.now = search rules in
    c.part.ensures ∙ sym (part3_at c.args.octets.now h)
