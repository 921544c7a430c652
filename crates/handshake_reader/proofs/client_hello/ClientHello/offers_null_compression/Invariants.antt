use Rattle.std.proofs.Common.{◌≡◌, drop}
use Rattle.handshake.specs.Parts.{among}
use Rattle.handshake_reader.proofs.client_hello.ClientHello.offers_null_compression.Given as goal

abbrev pub invariant-loop-compression : goal.invariant-loop-compression
invariant-loop-compression l = among 0 (drop l.compression-index l.compressions) ≡ among 0 l.compressions
