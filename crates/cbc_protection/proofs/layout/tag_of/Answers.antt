use Rattle.std.proofs.Common.{◌≡◌, ◌+◌, ◌-◌, take, drop}
use Rattle.cbc_protection.specs.Layout.{mac_key_of}
use Rattle.cbc_protection.specs.Pads.{client_mac, server_mac, tag_mac}
use Rattle.cbc_protection.proofs.layout.tag_of.Goals as goal
use Rattle.cbc_protection.proofs.layout.tag_of.Goals.{in-Client, in-Server}

pub returns : goal.returns
returns c =
    let m = c.args.material.now in
    let at = c.match-sender.at in
    let k : take (at + 32 - at) (drop at m) ≡ mac_key_of c.args.sender m = elim c.match-sender.branch [
      | in-Client w ↦ client_mac _ m at w.in-Client.is w.at-is
      | in-Server w ↦ server_mac _ m at w.in-Server.is w.at-is
    ] in
    tag_mac c.args.sender m c.args.number c.args.kind c.args.content.now k c.heading.ensures c.new-whole.ensures c.update.ensures c.update-2.ensures c.tag.ensures
