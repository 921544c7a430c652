use Rattle.std.proofs.Common.{take, sym, ap, ◌∙◌}
use Rattle.std.proofs.lemmas.List.{take_more, take_all}
use Rattle.handshake.specs.Parts.{from_words}
use Rattle.handshake_writer.proofs.Layings.{start, laying, then}
use Rattle.handshake_writer.proofs.Sizes.{from_words-++}
use Rattle.handshake_writer.proofs.suites.lay_suites.Goals as goal

pub loop-suite-init : goal.loop-suite-init
loop-suite-init c = start c.args.out.now c.args.at

pub loop-suite-preserved : goal.loop-suite-preserved
loop-suite-preserved c =
    let ss = c.args.suites.now in
    let i = c.loop-suite.suite-index in
    let r = then c.loop-suite.invariant (laying c.two_octets.ensures c.lay-end.ensures.end c.lay-end.ensures.after) in
    laying (sym (ap from_words (take_more ss i 0 c.loop-suite-test.true) ∙ from_words-++ (take i ss) _)) r.end r.after

pub returns : goal.returns
returns c =
    let r = laying (ap from_words (take_all c.loop-suite.suite-index c.args.suites.now c.loop-suite-test.false)) c.loop-suite.invariant.end c.loop-suite.invariant.after in
    record { end = r.end; after = r.after }
