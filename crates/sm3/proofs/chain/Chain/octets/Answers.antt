use Rattle.std.proofs.Common.{◌<◌, length, arith, rules}
use Rattle.std.proofs.lemmas.List.{take_more_set, length-set, take_all}
use Rattle.std.proofs.lemmas.List.FromFn.{map-range_with_len_more}
use Rattle.sm3.specs.Hash.{octet, output}
use Rattle.sm3.proofs.chain.Chain.octets.Goals as goal

pub loop-i-preserved : goal.loop-i-preserved
loop-i-preserved c =
    let lt : c.loop-i.i < length c.loop-i.out = omega arith in
    let a = take_more_set c.loop-i.out c.loop-i.i (octet c.args.self.now.words c.loop-i.i) lt in
    let b = map-range_with_len_more (octet c.args.self.now.words) 0 c.loop-i.i c.loop-i.i (omega arith) in
    (simp length-set c.loop-i.invariant.0, cc)

pub returns : goal.returns
unfolding output
returns c = search (rules, take_all)
