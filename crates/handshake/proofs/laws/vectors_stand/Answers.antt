use Rattle.std.proofs.Common.{refl}
use Rattle.handshake.specs.Hellos.{read_client_hello, read_server_hello}
use Rattle.handshake.specs.Certificates.{certificate_body, read_certificate}
use Rattle.handshake.specs.Exchanges.{exchange_body}
use Rattle.handshake.proofs.laws.vectors_stand.Goals as goal

pub returns : goal.returns
unfolding read_client_hello read_server_hello certificate_body read_certificate exchange_body
returns c =
    record {
      client_hello = refl;
      client_hello_read = refl;
      server_hello = refl;
      certificates = refl;
      signature = refl;
      done = refl;
      wrapped = refl;
      finished = refl;
      no_certificates = refl;
      empty_certificate = refl;
      too_long_first = refl;
      type_second = refl;
      version_third = refl;
      short_version = refl;
      long_id = refl;
      odd_suites = refl;
      no_compression = refl;
      octet_behind = refl;
      at_limit = refl;
      over_limit = refl;
    }
