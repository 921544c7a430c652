use Rattle.std.proofs.Common.{sym, ◌∙◌, arith}
use Rattle.sm3.specs.Compress.{words}
use Rattle.sm3.proofs.Stepping.{Reached, length-words, filled_first, rounds_none, rounds_filled, reached_more}
use Rattle.sm3.proofs.rounds.all_rounds.Goals as goal

-- three groups on the block's own words, then thirteen with four words more each
pub returns : goal.returns
returns c =
    let f = words c.args.block.now in
    let u = c.args.start in
    let ws = c.first_words-ws.result in
    let l = length-words c.args.block.now in
    let s = filled_first f ws l c.first_words-ws.ensures in
    let r4 = c.four_rounds-v4.ensures ∙ rounds_filled 0 0 f ws u _ l (omega arith) (omega arith) s (sym (rounds_none _ u)) in
    let r8 = c.four_rounds-v8.ensures ∙ rounds_filled 4 0 f ws u _ l (omega arith) (omega arith) s r4 in
    let r12 = c.four_rounds-v12.ensures ∙ rounds_filled 8 0 f ws u _ l (omega arith) (omega arith) s r8 in
    let s0 : Reached 0 f u ws c.four_rounds-v12.result = (s, r12) in
    let s4 = reached_more 0 f u _ _ _ _ l (omega arith) s0 c.advance-v16.ensures.table c.advance-v16.ensures.registers in
    let s8 = reached_more 4 f u _ _ _ _ l (omega arith) s4 c.advance-v20.ensures.table c.advance-v20.ensures.registers in
    let s12 = reached_more 8 f u _ _ _ _ l (omega arith) s8 c.advance-v24.ensures.table c.advance-v24.ensures.registers in
    let s16 = reached_more 12 f u _ _ _ _ l (omega arith) s12 c.advance-v28.ensures.table c.advance-v28.ensures.registers in
    let s20 = reached_more 16 f u _ _ _ _ l (omega arith) s16 c.advance-v32.ensures.table c.advance-v32.ensures.registers in
    let s24 = reached_more 20 f u _ _ _ _ l (omega arith) s20 c.advance-v36.ensures.table c.advance-v36.ensures.registers in
    let s28 = reached_more 24 f u _ _ _ _ l (omega arith) s24 c.advance-v40.ensures.table c.advance-v40.ensures.registers in
    let s32 = reached_more 28 f u _ _ _ _ l (omega arith) s28 c.advance-v44.ensures.table c.advance-v44.ensures.registers in
    let s36 = reached_more 32 f u _ _ _ _ l (omega arith) s32 c.advance-v48.ensures.table c.advance-v48.ensures.registers in
    let s40 = reached_more 36 f u _ _ _ _ l (omega arith) s36 c.advance-v52.ensures.table c.advance-v52.ensures.registers in
    let s44 = reached_more 40 f u _ _ _ _ l (omega arith) s40 c.advance-v56.ensures.table c.advance-v56.ensures.registers in
    let s48 = reached_more 44 f u _ _ _ _ l (omega arith) s44 c.advance-v60.ensures.table c.advance-v60.ensures.registers in
    let s52 = reached_more 48 f u _ _ _ _ l (omega arith) s48 c.advance.ensures.table c.advance.ensures.registers in
    s52.1
