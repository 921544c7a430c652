use Rattle.std.proofs.Common.{◌-◌, ◌<◌, length, sym, ◌∙◌, arith}
use Rattle.octets.specs.Roles.{peer}
use Rattle.cbc_protection.specs.Padding.{told_pad}
use Rattle.cbc_protection.specs.Checked.{check_short, check_padding, check_mac, check_right, well_from, same_pad, same_mac}
use Rattle.cbc_protection.proofs.keys.CbcKeys.check.Goals as goal

pub returns-then-n-p : goal.returns-then-n-p
returns-then-n-p c =
    let k = c.args.self.now in
    check_short (peer k.role) k.material c.args.number c.args.kind c.args.text.now c.if-n-p.true

pub returns-then-not-same : goal.returns-then-not-same
returns-then-not-same c =
    let k = c.args.self.now in
    let x = c.args.text.now in
    let q = c.type_inv.text (length x - 1) in
    let p : told_pad x < 256 = omega arith in
    check_padding (peer k.role) k.material c.args.number c.args.kind x c.if-n-p.false
    (sym (same_pad x c.repeated-octets.result p c.repeated-octets.ensures c.same.ensures) ∙ c.if-not-same.true)

pub returns-then-not-same-2 : goal.returns-then-not-same-2
returns-then-not-same-2 c =
    let k = c.args.self.now in
    let x = c.args.text.now in
    let q = c.type_inv.text (length x - 1) in
    let p : told_pad x < 256 = omega arith in
    let w = well_from (peer k.role) k.material c.args.number c.args.kind x c.if-n-p.false
    (sym (same_pad x c.repeated-octets.result p c.repeated-octets.ensures c.same.ensures) ∙ c.if-not-same.false) in
    check_mac (peer k.role) k.material c.args.number c.args.kind x w
    (sym (same_mac (peer k.role) k.material c.args.number c.args.kind x c.peer.ensures c.tag_of-mac.ensures c.same-2.ensures) ∙ c.if-not-same-2.true)

pub returns : goal.returns
returns c =
    let k = c.args.self.now in
    let x = c.args.text.now in
    let q = c.type_inv.text (length x - 1) in
    let p : told_pad x < 256 = omega arith in
    let w = well_from (peer k.role) k.material c.args.number c.args.kind x c.if-n-p.false
    (sym (same_pad x c.repeated-octets.result p c.repeated-octets.ensures c.same.ensures) ∙ c.if-not-same.false) in
    check_right (peer k.role) k.material c.args.number c.args.kind x w
    (sym (same_mac (peer k.role) k.material c.args.number c.args.kind x c.peer.ensures c.tag_of-mac.ensures c.same-2.ensures) ∙ c.if-not-same-2.false)
