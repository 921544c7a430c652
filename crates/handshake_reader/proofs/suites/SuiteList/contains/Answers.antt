use Rattle.std.proofs.Common.{◌<◌, ◌≤◌, length, arith}
use Rattle.handshake.specs.Parts.{words}
use Rattle.handshake.proofs.Lengths.{words-length}
use Rattle.handshake_reader.proofs.Listed.{word_at, among_found, among_more, among_all}
use Rattle.handshake_reader.proofs.suites.SuiteList.contains.Goals as goal

pub loop-i-preserved : goal.loop-i-preserved
loop-i-preserved c =
    let xs = c.args.self.now.octets.now in
    let l = words-length xs in
    let h : c.loop-i.i < length (words xs) = omega arith in
    among_more c.args.suite (words xs) c.loop-i.i _ c.loop-i.invariant h (word_at xs c.loop-i.i c.loop-i-test.true) c.if-octets-i.false

pub returns-then-octets-i : goal.returns-then-octets-i
returns-then-octets-i c =
    let xs = c.args.self.now.octets.now in
    let l = words-length xs in
    let h : c.loop-i.i < length (words xs) = omega arith in
    among_found c.args.suite (words xs) c.loop-i.i _ c.loop-i.invariant h (word_at xs c.loop-i.i c.loop-i-test.true) c.if-octets-i.true

pub returns : goal.returns
returns c =
    let xs = c.args.self.now.octets.now in
    let l = words-length xs in
    let h : length (words xs) ≤ c.loop-i.i = omega arith in
    among_all c.args.suite (words xs) c.loop-i.i c.loop-i.invariant h
