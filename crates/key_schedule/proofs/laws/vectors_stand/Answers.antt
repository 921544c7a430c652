use Rattle.std.proofs.Common.{◌≡◌, ℕ, get_or, refl, ap, arith}
use Rattle.sm3.specs.Compress.{rounds, words, expand, compress}
use Rattle.sm3.specs.Hash.{sm3, pad, padding, blocks, output}
use Rattle.hmac_sm3.specs.Hmac.{hmac, filled, xored}
use Rattle.hmac_sm3.specs.Prf.{link, expansion, p_hash, prf}
use Rattle.key_schedule.proofs.laws.vectors_stand.Goals as goal

pub returns : goal.returns
unfolding sm3 pad padding blocks output rounds words expand compress hmac filled xored link expansion p_hash prf
returns c = record {
  master = refl;
  material = refl;
  order = λ e. let h : ◌≡◌ {A = ℕ} 214 64 = ap (λ l. get_or l 0 0) e in omega arith;
  client = refl;
  server = refl;
}
