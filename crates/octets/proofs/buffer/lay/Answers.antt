use Rattle.std.proofs.Common.{◌≡◌, ◌-◌, ◌≤◌, min, length, arith, rules}
use Rattle.octets.proofs.Lays.{put_laid, none_laid}
use Rattle.octets.proofs.buffer.lay.Goals as goal

pub returns-then-n-eq0 : goal.returns-then-n-eq0
returns-then-n-eq0 c =
    let e : min (length c.args.list.now) (length c.args.out.now - c.args.from) ≡ 0 = search rules in
    record { end = omega arith; after = none_laid _ _ _ e }

pub returns : goal.returns
returns c =
    let e : c.min-n.result ≡ min (length c.args.list.now) (length c.args.out.now - c.args.from) = search rules in
    let h : c.args.from ≤ length c.args.out.now = omega arith in
    record { end = omega arith; after = put_laid _ _ _ _ _ e h c.copy_from_slice.ensures.after }
