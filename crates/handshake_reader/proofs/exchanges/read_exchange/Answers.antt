use Rattle.std.proofs.Common.{◌≤◌, length, rules}
use Rattle.handshake_reader.proofs.Cuts.{exchange_at}
use Rattle.handshake_reader.proofs.exchanges.read_exchange.Goals as goal

pub returns : goal.returns
returns c =
    let h : 2 ≤ length c.args.body.now = search rules in
    exchange_at c.args.body.now h c.if-length-lt-CARRIED_LEAST.false c.if-carried-length.false
