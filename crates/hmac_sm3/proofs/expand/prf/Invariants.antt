use Rattle.std.proofs.Common.{◌≡◌, ◌<◌, ◌++◌, length}
use Rattle.hmac_sm3.specs.Pieces.{pieced}
use Rattle.octets.specs.Laid.{laid}
use Rattle.hmac_sm3.specs.Prf.{link, expansion}
use Rattle.hmac_sm3.proofs.expand.prf.Given as goal

-- the last A(i), and the blocks so far at the front of the buffer
abbrev pub invariant-loop-i : goal.invariant-loop-i
invariant-loop-i l =
    (length l.link ≡ 32)
    × (0 < l.i → l.link ≡ link l.i l.secret (l.label ++ pieced (λ x. x.now) l.seed))
    × (l.out ≡ laid l.initial.out 0 (expansion l.i l.secret (l.label ++ pieced (λ x. x.now) l.seed)))
