use Rattle.std.proofs.Common.{refl}
use Rattle.handshake_reader.proofs.Listed.{among_found, among_more, among_all}
use Rattle.handshake_reader.proofs.client_hello.ClientHello.offers_null_compression.Goals as goal

pub returns-then-is_null : goal.returns-then-is_null
returns-then-is_null c =
    among_found 0 c.args.self.now.compressions.now c.loop-compression.compression-index _ c.loop-compression.invariant c.loop-compression-test.true refl
    c.if-is_null.true

pub loop-compression-preserved : goal.loop-compression-preserved
loop-compression-preserved c =
    among_more 0 c.args.self.now.compressions.now c.loop-compression.compression-index _ c.loop-compression.invariant c.loop-compression-test.true refl
    c.if-is_null.false

pub returns : goal.returns
returns c = among_all 0 c.args.self.now.compressions.now c.loop-compression.compression-index c.loop-compression.invariant c.loop-compression-test.false
