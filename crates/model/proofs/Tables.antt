-- Every move of the table of stages is made by some call.
use Rattle.std.proofs.Common.{◌≡◌, ℕ, false, List, [], ◌∷◌, ◌++◌, drop, None, refl, ap, ◌∙◌, arith}
use Rattle.octets.specs.declared.role.Role.{Role}
use Rattle.octets.specs.declared.role.Role.TheVariants.{Client, Server}
use Rattle.octets.proofs.Alike.{same_self}
use Rattle.records.specs.Records.{framed}
use Rattle.handshake.specs.Frames.{ready}
use Rattle.handshake.specs.Hellos.{client_hello_body, server_hello_body, read_client_hello, read_server_hello}
use Rattle.handshake.specs.Certificates.{certificate_body, read_certificate}
use Rattle.handshake.specs.Exchanges.{exchange_body}
use Rattle.model.specs.declared.stage.Stage.{Stage}
use Rattle.model.specs.declared.stage.Stage.TheVariants.{AskClientRandom, AwaitServerHello, AwaitCertificate, AskCertificates, AwaitServerKeyExchange, AskSignature, AwaitServerHelloDone, AskWrapping, ClientAwaitChange, ClientAwaitFinished, AwaitClientHello, AskServerFlight, AwaitClientKeyExchange, AskUnwrapping, ServerAwaitChange, ServerAwaitFinished, Open, Closed, Dead}
use Rattle.model.specs.declared.question.Question.{Question}
use Rattle.model.specs.declared.question.Question.TheVariants.{ClientRandom, ServerFlight, CheckCertificates, CheckSignature, WrapPremaster, UnwrapPremaster}
use Rattle.model.specs.Stages.{stage_number, asking, awaits, over}
use Rattle.model.specs.Messages.{client_hello, server_hello, certificate, server_key_exchange, server_hello_done, client_key_exchange, finished}
use Rattle.model.specs.Schedule.{Schedule, ScheduleLaws}
use Rattle.model.specs.Protections.{Protection}
use Rattle.model.specs.Endpoint.{End, new_end, Parts, yes, no, hand_in, turn, answer, close, no_master, with_stage, with_buffer}
use Rattle.model.specs.Outcomes.{Outcome, consuming}
use Rattle.model.specs.Deeds.{Deed, client_opens, server_opens, perform}
use Rattle.model.specs.Turns.{turned}
use Rattle.model.specs.Steps.{step}
use Rattle.model.specs.EndLaws.{leads_to, MadeBy, AllMade}
use Rattle.model.proofs.ReadBack.{next-message}
use Rattle.model.proofs.Fronts.{never}
use Rattle.model.proofs.Accepting.{acted_as}

abbrev f16 : List ℕ
f16 = 0 ∷ (0 ∷ (0 ∷ (0 ∷ (0 ∷ (0 ∷ (0 ∷ (0 ∷ (0 ∷ (0 ∷ (0 ∷ (0 ∷ (0 ∷ (0 ∷ (0 ∷ (0 ∷ [])))))))))))))))

abbrev f32 : List ℕ
f32 = f16 ++ f16

-- what answers of every question may bring
abbrev some_parts : Parts
some_parts = record { random = f32; session = f32; certificates = (0 ∷ []) ∷ ((0 ∷ []) ∷ []); signature = 0 ∷ []; premaster = 1 ∷ (1 ∷ drop 2 (f16 ++ f32)); wrapped = 0 ∷ [] }

module _ {H : Type 0} (K : Schedule H) (P : Protection) where
  -- an end at a stage with a buffer
  abbrev with_it : Stage → List ℕ → End H
  with_it s x = with_buffer x (with_stage s (new_end K Client None (57363 ∷ [])))

  stays : (s : Stage) → MadeBy (step K P) s (stage_number s)
  unfolding step
  stays s = (with_it s [], close [] 0, refl, ap stage_number (at s))
    where
      at : (t : Stage) → (step K P (with_it t []) (close [] 0)).end.stage ≡ t
      at AskClientRandom = refl
      at AwaitServerHello = refl
      at AwaitCertificate = refl
      at AskCertificates = refl
      at AwaitServerKeyExchange = refl
      at AskSignature = refl
      at AwaitServerHelloDone = refl
      at AskWrapping = refl
      at ClientAwaitChange = refl
      at ClientAwaitFinished = refl
      at AwaitClientHello = refl
      at AskServerFlight = refl
      at AwaitClientKeyExchange = refl
      at AskUnwrapping = refl
      at ServerAwaitChange = refl
      at ServerAwaitFinished = refl
      at Open = refl
      at Closed = refl
      at Dead = refl

  closes_at : (s : Stage) → over s ≡ false → MadeBy (step K P) s 12
  unfolding step
  closes_at s q = (with_it s [], close f16 4096, refl, ap stage_number (at s q))
    where
      at : (t : Stage) → over t ≡ false → (step K P (with_it t []) (close f16 4096)).end.stage ≡ Closed
      at AskClientRandom q = refl
      at AwaitServerHello q = refl
      at AwaitCertificate q = refl
      at AskCertificates q = refl
      at AwaitServerKeyExchange q = refl
      at AskSignature q = refl
      at AwaitServerHelloDone q = refl
      at AskWrapping q = refl
      at ClientAwaitChange q = refl
      at ClientAwaitFinished q = refl
      at AwaitClientHello q = refl
      at AskServerFlight q = refl
      at AwaitClientKeyExchange q = refl
      at AskUnwrapping q = refl
      at ServerAwaitChange q = refl
      at ServerAwaitFinished q = refl
      at Open q = refl
      at Closed q = never q
      at Dead q = never q

  -- a header of another version kills an end that takes records
  dies_at : (s : Stage) → over s ≡ false → asking s ≡ false → MadeBy (step K P) s 13
  unfolding step
  dies_at s q r = (with_it s [], hand_in (22 ∷ (3 ∷ (1 ∷ (0 ∷ (1 ∷ []))))) f16 4096 18432, refl, ap stage_number (at s q r))
    where
      at : (t : Stage) → over t ≡ false → asking t ≡ false → (step K P (with_it t []) (hand_in (22 ∷ (3 ∷ (1 ∷ (0 ∷ (1 ∷ []))))) f16 4096 18432)).end.stage ≡ Dead
      at AskClientRandom q r = never r
      at AwaitServerHello q r = refl
      at AwaitCertificate q r = refl
      at AskCertificates q r = never r
      at AwaitServerKeyExchange q r = refl
      at AskSignature q r = never r
      at AwaitServerHelloDone q r = refl
      at AskWrapping q r = never r
      at ClientAwaitChange q r = refl
      at ClientAwaitFinished q r = refl
      at AwaitClientHello q r = refl
      at AskServerFlight q r = never r
      at AwaitClientKeyExchange q r = refl
      at AskUnwrapping q r = never r
      at ServerAwaitChange q r = refl
      at ServerAwaitFinished q r = refl
      at Open q r = refl
      at Closed q r = never q
      at Dead q r = never q

  -- a no that is taken
  refuses_at : (s : Stage) (q : Question) (n : ℕ) → (step K P (with_it s []) (answer q (no n) f16 4096)).end.stage ≡ Dead → MadeBy (step K P) s 13
  refuses_at s q n h = (with_it s [], answer q (no n) f16 4096, refl, ap stage_number h)

  turns_at : (s : Stage) (x : List ℕ) (t : Stage) → (step K P (with_it s x) (turn f16 4096)).end.stage ≡ t → MadeBy (step K P) s (stage_number t)
  turns_at s x t h = (with_it s x, turn f16 4096, refl, ap stage_number h)

  says_at : (s : Stage) (x : List ℕ) (q : Question) (t : Stage) → (step K P (with_it s x) (answer q (yes some_parts) f16 4096)).end.stage ≡ t → MadeBy (step K P) s (stage_number t)
  says_at s x q t h = (with_it s x, answer q (yes some_parts) f16 4096, refl, ap stage_number h)

  changes_at : (s t : Stage) → (step K P (with_it s []) (hand_in (framed 20 (1 ∷ [])) f16 4096 18432)).end.stage ≡ t → MadeBy (step K P) s (stage_number t)
  changes_at s t h = (with_it s [], hand_in (framed 20 (1 ∷ [])) f16 4096 18432, refl, ap stage_number h)

  -- the Finished that is expected
  module _ (kl : ScheduleLaws K) where
    expects : Role → Stage → End H
    expects X s = with_it s (finished (K.verify_data X no_master K.blank))

    turned_as : (X : Role) (s : Stage) (d : Deed) → over s ≡ false → asking s ≡ false → awaits s ≡ 20
        → turned K (expects X s) (ready 20 (finished (K.verify_data X no_master K.blank)) (K.verify_data X no_master K.blank) []) ≡ d
        → step K P (expects X s) (turn f16 4096) ≡ consuming 0 (perform K P f16 (expects X s) d)
    unfolding expects
    turned_as X s d l a w h =
        let v = K.verify_data X no_master K.blank in
        let n = next-message 20 v (let z = kl.verify_length X no_master K.blank in omega arith) in
        acted_as K P (expects X s) (turn f16 4096) (rw (l, a, n) refl) ∙ ap (λ m. consuming 0 (perform K P f16 (expects X s) (turned K (expects X s) m))) n ∙ ap (λ m. consuming 0 (perform K P f16 (expects X s) m)) h

    client_opened : MadeBy (step K P) ClientAwaitFinished 11
    unfolding expects
    client_opened =
        let v = K.verify_data Server no_master K.blank in
        (expects Server ClientAwaitFinished, turn f16 4096, refl, ap (λ (o : Outcome H). stage_number o.end.stage) (turned_as Server ClientAwaitFinished (client_opens (finished v)) refl refl refl (rw (kl.verify_length Server no_master K.blank, same_self v) refl)))

    server_opened : MadeBy (step K P) ServerAwaitFinished 11
    unfolding expects
    server_opened =
        let v = K.verify_data Client no_master K.blank in
        (expects Client ServerAwaitFinished, turn f16 4096, refl, ap (λ (o : Outcome H). stage_number o.end.stage) (turned_as Client ServerAwaitFinished (server_opens (finished v)) refl refl refl (rw (kl.verify_length Client no_master K.blank, same_self v) refl)))

    pub every_move : (s : Stage) → AllMade (step K P) s (leads_to s)
    unfolding step read_server_hello server_hello_body read_client_hello client_hello_body read_certificate certificate_body exchange_body
    every_move AskClientRandom = (stays AskClientRandom, (says_at AskClientRandom [] ClientRandom AwaitServerHello refl, (closes_at AskClientRandom refl, tt)))
    every_move AwaitServerHello = (stays AwaitServerHello, (turns_at AwaitServerHello (server_hello f32 [] 57363) AwaitCertificate refl, (closes_at AwaitServerHello refl, (dies_at AwaitServerHello refl refl, tt))))
    every_move AwaitCertificate = (stays AwaitCertificate, (turns_at AwaitCertificate (certificate ((0 ∷ []) ∷ ((0 ∷ []) ∷ []))) AskCertificates refl, (closes_at AwaitCertificate refl, (dies_at AwaitCertificate refl refl, tt))))
    every_move AskCertificates = (stays AskCertificates, (says_at AskCertificates (certificate ((0 ∷ []) ∷ ((0 ∷ []) ∷ []))) CheckCertificates AwaitServerKeyExchange refl, (closes_at AskCertificates refl, (refuses_at AskCertificates CheckCertificates 42 refl, tt))))
    every_move AwaitServerKeyExchange = (stays AwaitServerKeyExchange, (turns_at AwaitServerKeyExchange (server_key_exchange (0 ∷ [])) AskSignature refl, (closes_at AwaitServerKeyExchange refl, (dies_at AwaitServerKeyExchange refl refl, tt))))
    every_move AskSignature = (stays AskSignature, (says_at AskSignature (server_key_exchange (0 ∷ [])) CheckSignature AwaitServerHelloDone refl, (closes_at AskSignature refl, (refuses_at AskSignature CheckSignature 51 refl, tt))))
    every_move AwaitServerHelloDone = (stays AwaitServerHelloDone, (turns_at AwaitServerHelloDone server_hello_done AskWrapping refl, (closes_at AwaitServerHelloDone refl, (dies_at AwaitServerHelloDone refl refl, tt))))
    every_move AskWrapping = (stays AskWrapping, (says_at AskWrapping [] WrapPremaster ClientAwaitChange refl, (closes_at AskWrapping refl, (refuses_at AskWrapping WrapPremaster 0 refl, tt))))
    every_move ClientAwaitChange = (stays ClientAwaitChange, (changes_at ClientAwaitChange ClientAwaitFinished refl, (closes_at ClientAwaitChange refl, (dies_at ClientAwaitChange refl refl, tt))))
    every_move ClientAwaitFinished = (stays ClientAwaitFinished, (client_opened, (closes_at ClientAwaitFinished refl, (dies_at ClientAwaitFinished refl refl, tt))))
    every_move AwaitClientHello = (stays AwaitClientHello, (turns_at AwaitClientHello (client_hello f32 (57363 ∷ [])) AskServerFlight refl, (closes_at AwaitClientHello refl, (dies_at AwaitClientHello refl refl, tt))))
    every_move AskServerFlight = (stays AskServerFlight, (says_at AskServerFlight [] ServerFlight AwaitClientKeyExchange refl, (closes_at AskServerFlight refl, (refuses_at AskServerFlight ServerFlight 0 refl, tt))))
    every_move AwaitClientKeyExchange = (stays AwaitClientKeyExchange, (turns_at AwaitClientKeyExchange (client_key_exchange (0 ∷ [])) AskUnwrapping refl, (closes_at AwaitClientKeyExchange refl, (dies_at AwaitClientKeyExchange refl refl, tt))))
    every_move AskUnwrapping = (stays AskUnwrapping, (says_at AskUnwrapping (client_key_exchange (0 ∷ [])) UnwrapPremaster ServerAwaitChange refl, (closes_at AskUnwrapping refl, (refuses_at AskUnwrapping UnwrapPremaster 0 refl, tt))))
    every_move ServerAwaitChange = (stays ServerAwaitChange, (changes_at ServerAwaitChange ServerAwaitFinished refl, (closes_at ServerAwaitChange refl, (dies_at ServerAwaitChange refl refl, tt))))
    every_move ServerAwaitFinished = (stays ServerAwaitFinished, (server_opened, (closes_at ServerAwaitFinished refl, (dies_at ServerAwaitFinished refl refl, tt))))
    every_move Open = (stays Open, (closes_at Open refl, (dies_at Open refl refl, tt)))
    every_move Closed = (stays Closed, tt)
    every_move Dead = (stays Dead, tt)
