use Rattle.std.proofs.Common.{◌≡◌, ◌*◌, drop, vec_items}
use Rattle.hex_text.specs.Hex.{decoded}
use Rattle.hex_text.proofs.Decodes.{joined}
use Rattle.hex_text.proofs.decode.Given as goal

abbrev pub invariant-loop-i : goal.invariant-loop-i
invariant-loop-i l = joined (vec_items l.octets) (decoded (drop (2 * l.i) l.text)) ≡ decoded l.text
