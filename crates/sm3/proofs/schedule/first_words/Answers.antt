use Rattle.std.proofs.Common.{◌<◌, map, arith, rules}
use Rattle.std.specs.List.{range_with_len}
use Rattle.std.proofs.lemmas.List.{length-set}
use Rattle.std.proofs.lemmas.List.FromFn.{map-range_with_len_more, length-map-range_with_len}
use Rattle.sm3.specs.Compress.{word, words}
use Rattle.sm3.proofs.Stepping.{word_more}
use Rattle.sm3.proofs.schedule.first_words.Goals as goal

pub loop-i-preserved : goal.loop-i-preserved
loop-i-preserved c =
    let i = c.loop-i.i in
    let p = map (word c.args.block.now) (range_with_len 0 i) in
    let h : c.loop-i.i < 68 = omega arith in
    let a = word_more p c.word_at.result i (length-map-range_with_len (word c.args.block.now) 0 i) h in
    let b = map-range_with_len_more (word c.args.block.now) 0 i i (omega arith) in
    (simp length-set c.loop-i.invariant.0, cc)

pub returns : goal.returns
unfolding words
returns c = search rules
