use Rattle.std.proofs.Common.{◌++◌, sym, ap, ◌∙◌}
use Rattle.sm3.specs.Hash.{finished, start}
use Rattle.sm3.specs.Laws.{joined}
use Rattle.sm3.proofs.Running.{absorb-++, absorb_all_is, finished_is}
use Rattle.sm3.proofs.laws.pieces_join.Goals as goal

pub returns : goal.returns
returns c =
    record {
      any = λ ps. ap finished (absorb_all_is start ps) ∙ finished_is (joined ps);
      two = λ a b. ap finished (sym (absorb-++ start a b)) ∙ finished_is (a ++ b);
    }
