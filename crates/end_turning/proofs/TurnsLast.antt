-- The last message turned: the ends open.
use Rattle.std.proofs.Common.{◌≡◌, ℕ, ◌+◌, true, List, [], ◌∷◌, length, None, refl, ap, ◌∙◌}
use Rattle.octets.specs.declared.role.Role.TheVariants.{Server}
use Rattle.octets.specs.Laid.{laid}
use Rattle.records.specs.Kinds.{change_kind, handshake_kind}
use Rattle.records.specs.Records.{framed}
use Rattle.sm3.specs.Hash.{Running}
use Rattle.model.specs.declared.stage.Stage.TheVariants.{Open}
use Rattle.model.specs.Protections.{Protection}
use Rattle.model.specs.Endpoint.{End, with_transcript, with_out, opened_end}
use Rattle.model.specs.Outcomes.{flat}
use Rattle.model.specs.Messages.{finished}
use Rattle.model.specs.Deeds.{perform, client_opens, server_opens, changing, first_sealed}
use Rattle.model.specs.Tlcp.{tlcp}
use Rattle.end_writer.specs.Written.{record_octets}
use Rattle.end_writer.proofs.Following.{Placed, placed, then, last, first_end}
use Rattle.end_reports.specs.declared.report.Report.{Report}
use Rattle.end_reports.specs.Reports.{Done, done, done_by, quiet}
use Rattle.end_reports.proofs.Yields.{quiet_done}

-- the client: the message has joined the transcript, which opened it
pub client_opened : (P : Protection) (f out : List ℕ) (e : End Running) (m : List ℕ) (h : Running) {e1 : End Running} {r : Report}
    → h ≡ tlcp.absorb e.transcript m → e1 ≡ opened_end (with_transcript h e) → r ≡ quiet e1.stage
    → done_by r e1 out ≡ done P (perform tlcp P f e (client_opens m)) out
client_opened P f out e m h {e1} {r} i j k =
    quiet_done P (perform tlcp P f e (client_opens m)) out r e1 k (j ∙ ap (λ z. opened_end (with_transcript z e)) i) refl refl

-- what an end that has opened tells
abbrev opened_with : ℕ → End Running → List ℕ → Done
opened_with w e o = done_by (record { stage = Open; written = w; fault = None }) e o

-- the server: the message joins, its own Finished is made of all that joined, is written behind the change and joins
module _ (P : Protection) (f out : List ℕ) (e : End Running) (m v : List ℕ) (h h1 : Running) (at w : ℕ) (o1 o2 : List ℕ) where
  abbrev written : List ℕ → List ℕ
  written x = flat P e.protection (changing ∷ first_sealed (finished x) f ∷ [])

  pub server_opened : {e1 : End Running} → h ≡ tlcp.absorb e.transcript m → v ≡ tlcp.verify_data Server e.master h
      → at ≡ 0 + length (framed change_kind (1 ∷ [])) → o1 ≡ laid out 0 (framed change_kind (1 ∷ []))
      → w ≡ at + length (record_octets P e.protection true 0 handshake_kind (finished v) f) → o2 ≡ laid o1 at (record_octets P e.protection true 0 handshake_kind (finished v) f)
      → h1 ≡ tlcp.absorb h (finished v) → e1 ≡ with_out true 1 (opened_end (with_transcript h1 e))
      → opened_with w e1 o2 ≡ done P (perform tlcp P f e (server_opens m)) out
  server_opened {e1} i iv ca cb sa sb j k =
      let p : Placed out 0 (written v) o2 w = then (placed ca cb) (last (placed sa sb)) in
      let h0 = tlcp.absorb e.transcript m in
      let u : v ≡ tlcp.verify_data Server e.master h0 = iv ∙ ap (tlcp.verify_data Server e.master) i in
      let z : e1 ≡ with_out true 1 (opened_end (with_transcript (tlcp.absorb h0 (finished v)) e)) = k ∙ ap (λ x. with_out true 1 (opened_end (with_transcript x e))) (j ∙ ap (λ x. tlcp.absorb x (finished v)) i) in
      ap (λ x. opened_with x e1 o2) (first_end p) ∙ ap (λ x. opened_with (length (written v)) e1 x) p.after ∙ ap (λ x. opened_with (length (written v)) x (laid out 0 (written v))) z
      ∙ ap (λ x. opened_with (length (written x)) (with_out true 1 (opened_end (with_transcript (tlcp.absorb h0 (finished x)) e))) (laid out 0 (written x))) u
