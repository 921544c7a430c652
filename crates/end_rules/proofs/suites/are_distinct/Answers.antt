use Rattle.std.proofs.Common.{◌+◌, get_or, sym, ap, ◌∙◌}
use Rattle.std.proofs.lemmas.List.{take_rest}
use Rattle.handshake.specs.Parts.{among}
use Rattle.end_rules.proofs.Passed.{repeated, distinct_more, distinct_all}
use Rattle.end_rules.proofs.suites.are_distinct.Goals as goal

pub returns-then-is_among : goal.returns-then-is_among
returns-then-is_among c =
    let e = c.is_among.ensures ∙ ap (among (get_or c.args.suites.now c.loop-i.i 0)) (take_rest c.args.suites.now (c.loop-i.i + 1)) in
    repeated c.args.suites.now c.loop-i.i c.loop-i.invariant c.loop-i-test.true (sym e ∙ c.if-is_among.true)

pub loop-i-preserved : goal.loop-i-preserved
loop-i-preserved c =
    let e = c.is_among.ensures ∙ ap (among (get_or c.args.suites.now c.loop-i.i 0)) (take_rest c.args.suites.now (c.loop-i.i + 1)) in
    distinct_more c.args.suites.now c.loop-i.i c.loop-i.invariant c.loop-i-test.true (sym e ∙ c.if-is_among.false)

pub returns : goal.returns
returns c = distinct_all c.args.suites.now c.loop-i.i c.loop-i.invariant c.loop-i-test.false
