use Rattle.std.proofs.Common.{Some, sym, ap, ◌∙◌, arith}
use Rattle.std.proofs.lemmas.Option.{slice_get-get_or, slice_get_past}
use Rattle.handshake.specs.Parts.{words}
use Rattle.handshake.proofs.Lengths.{words-length}
use Rattle.handshake_reader.proofs.Listed.{word_at}
use Rattle.handshake_reader.proofs.suites.SuiteList.get.Goals as goal

pub returns-then-index-octets : goal.returns-then-index-octets
returns-then-index-octets c =
    let xs = c.args.self.now.octets.now in
    let l = words-length xs in
    sym (slice_get_past (words xs) c.args.index (omega arith))

pub returns : goal.returns
returns c =
    let xs = c.args.self.now.octets.now in
    let l = words-length xs in
    ap Some (sym (word_at xs c.args.index (omega arith))) ∙ sym (slice_get-get_or (words xs) c.args.index 0 (omega arith))
