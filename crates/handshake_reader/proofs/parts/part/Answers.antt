use Rattle.std.proofs.Common.{◌≡◌, true, leb, length, arith}
use Rattle.std.proofs.lemmas.List.{take_rest}
use Rattle.std.proofs.lemmas.Bool.{le-leb}
use Rattle.handshake_reader.proofs.parts.part.Goals as goal

pub returns : goal.returns
returns c =
    let e : leb c.args.n (length c.args.octets.now) ≡ true = le-leb _ _ (omega arith) in
    rw (e, take_rest)
