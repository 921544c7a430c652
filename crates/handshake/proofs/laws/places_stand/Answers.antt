use Rattle.handshake.proofs.Places.{spans_counted, certificate_placed, signature_placed, wrapped_placed}
use Rattle.handshake.proofs.laws.places_stand.Goals as goal

pub returns : goal.returns
returns c =
    record {
      certificates_counted = spans_counted 7;
      certificate_placed = certificate_placed;
      signature_placed = signature_placed;
      wrapped_placed = wrapped_placed;
    }
