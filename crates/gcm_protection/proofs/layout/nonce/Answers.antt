use Rattle.std.proofs.Common.{◌≡◌, ◌+◌, ◌-◌, ◌≤◌, ◌++◌, length, take, drop, ap, ◌∙◌, arith}
use Rattle.std.proofs.lemmas.List.{length-drop, length-take-le}
use Rattle.gcm_protection.specs.Layout.{iv_of}
use Rattle.gcm_protection.specs.Parts.{laid_two, client_iv, server_iv}
use Rattle.gcm_protection.proofs.layout.nonce.Goals as goal
use Rattle.gcm_protection.proofs.layout.nonce.Goals.{in-Client, in-Server}

pub returns : goal.returns
returns c =
    let m = c.args.material.now in
    let e = c.args.explicit.now in
    let at = c.match-sender.at in
    let u = take (at + 4 - at) (drop at m) in
    let iv : u ≡ iv_of c.args.sender m = elim c.match-sender.branch [
      | in-Client w ↦ client_iv _ m at w.in-Client.is w.at-is
      | in-Server w ↦ server_iv _ m at w.in-Server.is w.at-is
    ] in
    let b : at ≤ 36 = elim c.match-sender.branch [ in-Client w ↦ omega (arith, w.at-is) | in-Server w ↦ omega (arith, w.at-is) ] in
    let d : length (drop at m) ≡ length m - at = length-drop at m in
    let h : at + 4 - at ≤ length (drop at m) = omega arith in
    let n : length u ≡ at + 4 - at = length-take-le (at + 4 - at) (drop at m) h in
    laid_two _ u e c.lay-end.new.out c.lay.new.out c.lay-end.result (omega arith) c.lay-end.ensures.after (omega arith) c.lay.ensures.after
    ∙ ap (λ x. x ++ e) iv
