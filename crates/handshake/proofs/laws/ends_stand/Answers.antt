use Rattle.handshake.proofs.Fits.{client_fits, server_fits, certificates_fit, signature_fits, done_fits, wrapped_fits, finished_fits}
use Rattle.handshake.proofs.laws.ends_stand.Goals as goal

pub returns : goal.returns
returns c =
    record {
      client_hello = client_fits;
      server_hello = server_fits;
      certificates = certificates_fit;
      signature = signature_fits;
      done = done_fits;
      wrapped = wrapped_fits;
      finished = finished_fits;
    }
