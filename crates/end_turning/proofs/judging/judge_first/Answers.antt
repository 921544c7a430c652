use Rattle.std.proofs.Common.{◌≡◌, Ok, Err, ap, ◌∙◌, rules}
use Rattle.end_state.specs.View.{state_view, buffer_view}
use Rattle.end_turning.specs.Turns.{first_deed}
use Rattle.end_turning.proofs.Fronts.{front_judged, front_within}
use Rattle.end_turning.proofs.judging.judge_first.Goals as goal

pub returns-in_err-effect-in-Ready : goal.returns-in_err-effect-in-Ready
returns-in_err-effect-in-Ready c =
    let t = c.in_err-effect-in-Ready.field-0.0 in
    let q : c.from_residual.result ≡ Err t = search rules in
    let xs = buffer_view c.args.state.now.buffer in
    record {
      deed = λ held.
          ap (first_deed xs) q
          ∙ front_judged xs c.as_slice-buffered.result.now (state_view held c.args.state.now) c.in-Ready.kind c.in-Ready.length (Err t) c.as_slice-buffered.ensures.octets c.in-Ready.ensures (c.in_err-effect-in-Ready.ensures held);
      within = rw q tt;
    }

pub returns-in_ok-effect-in-Ready : goal.returns-in_ok-effect-in-Ready
returns-in_ok-effect-in-Ready c =
    let xs = buffer_view c.args.state.now.buffer in
    record {
      deed = λ held.
          front_judged xs c.as_slice-buffered.result.now (state_view held c.args.state.now) c.in-Ready.kind c.in-Ready.length (Ok c.in_ok-effect-in-Ready.effect) c.as_slice-buffered.ensures.octets c.in-Ready.ensures (c.in_ok-effect-in-Ready.ensures held);
      within = front_within c.args.state.now.buffer.len c.in-Ready.kind c.in-Ready.length c.args.state.now.buffer.octets c.as_slice-buffered.result.now c.as_slice-buffered.ensures.octets c.in-Ready.ensures;
    }
