use Rattle.std.proofs.Common.{sym, ap, ◌∙◌, arith}
use Rattle.handshake.specs.Frames.{next, is_ready}
use Rattle.model.proofs.Limits.{unready_short}
use Rattle.end_state.proofs.state.State.is_message_ready.Goals as goal

pub returns : goal.returns
returns c =
    let e = c.is_message_ready.ensures ∙ ap (λ u. is_ready (next u)) c.as_slice.ensures.octets in
    record {
      ready = e;
      short = λ q.
          let h = unready_short c.as_slice.result.now (sym c.is_message_ready.ensures ∙ q) in
          omega (arith, h, c.as_slice.ensures.len);
    }
