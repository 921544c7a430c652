use Rattle.std.proofs.Common.{◌<◌, ◌≤◌, length, sym, ◌∙◌, arith}
use Rattle.handshake.specs.Parts.{words}
use Rattle.end_rules.proofs.Hellos.{shared, not_shared, none_shared, some_there}
use Rattle.end_rules.proofs.message.first_shared.Goals as goal

pub returns-in_err-suite : goal.returns-in_err-suite
returns-in_err-suite c =
    let h : c.loop-i.i < length (words c.args.suites.octets.now) = omega arith in
    some_there (words c.args.suites.octets.now) c.loop-i.i h c.in_err-suite.ensures

pub returns-then-is_among : goal.returns-then-is_among
returns-then-is_among c =
    let h : c.loop-i.i < length (words c.args.suites.octets.now) = omega arith in
    shared c.args.allowed.now (words c.args.suites.octets.now) c.loop-i.i c.in_ok-suite.suite c.loop-i.invariant h
    c.in_ok-suite.ensures (sym c.is_among.ensures ∙ c.if-is_among.true)

pub loop-i-preserved : goal.loop-i-preserved
loop-i-preserved c =
    let h : c.loop-i.i < length (words c.args.suites.octets.now) = omega arith in
    not_shared c.args.allowed.now (words c.args.suites.octets.now) c.loop-i.i c.in_ok-suite.suite c.loop-i.invariant h
    c.in_ok-suite.ensures (sym c.is_among.ensures ∙ c.if-is_among.false)

pub returns : goal.returns
returns c =
    let h : length (words c.args.suites.octets.now) ≤ c.loop-i.i = omega arith in
    none_shared c.args.allowed.now (words c.args.suites.octets.now) c.loop-i.i c.loop-i.invariant h
