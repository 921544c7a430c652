use Rattle.std.proofs.Common.{sym}
use Rattle.handshake.proofs.Lengths.{words-length}
use Rattle.handshake_reader.proofs.suites.SuiteList.len.Goals as goal

pub returns : goal.returns
returns c = sym (words-length c.args.self.now.octets.now)
