use Rattle.std.proofs.Common.{◌≡◌, drop}
use Rattle.hmac_sm3.specs.Pieces.{pieced}
use Rattle.hmac_sm3.specs.Keyed.{fed}
use Rattle.hmac_sm3.specs.View.{seen}
use Rattle.hmac_sm3.proofs.mac.Hmac.update_all.Given as goal

-- what is left gives the same
abbrev pub invariant-loop-piece : goal.invariant-loop-piece
invariant-loop-piece l = fed (seen l.self) (pieced (λ x. x.now) (drop l.piece-index l.pieces)) ≡ fed (seen l.initial.self) (pieced (λ x. x.now) l.pieces)
