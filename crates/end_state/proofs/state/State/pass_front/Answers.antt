use Rattle.std.proofs.Common.{ap, ◌∙◌, arith}
use Rattle.std.proofs.lemmas.List.{length-take}
use Rattle.handshake.specs.Frames.{next}
use Rattle.handshake_reader.specs.Views.{first_of}
use Rattle.end_state.specs.View.{state_view, buffer_view}
use Rattle.end_state.proofs.Fronts.{front_whole, front_there, front_passed}
use Rattle.end_state.proofs.state.State.pass_front.Goals as goal

pub take_message-requires : goal.take_message-requires
take_message-requires c =
    let h = c.in-Ready.ensures ∙ ap (λ x. first_of (next x)) c.as_slice.ensures.octets in
    let w = front_whole (buffer_view c.args.self.now.buffer) c.in-Ready.kind c.in-Ready.length h in
    let l = length-take c.args.self.now.buffer.len c.args.self.now.buffer.octets in
    omega arith

pub returns-in-Ready : goal.returns-in-Ready
returns-in-Ready c =
    let xs = buffer_view c.args.self.now.buffer in
    let h = c.in-Ready.ensures ∙ ap (λ x. first_of (next x)) c.as_slice.ensures.octets in
    record {
      whole = front_there xs c.in-Ready.kind c.in-Ready.length h;
      after = λ held. front_passed xs c.in-Ready.kind c.in-Ready.length c.args.stage (state_view held c.args.self.now) h (c.take_message.ensures held);
    }
