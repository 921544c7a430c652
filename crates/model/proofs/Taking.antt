-- What a record that is taken does.
use Rattle.std.proofs.Common.{◌≡◌, ℕ, ◌+◌, ◌<◌, ◌≤◌, true, false, cond, leb, ◌⊎◌, List, [], ◌∷◌, ◌++◌, length, Ok, refl, ap, ◌∙◌, inl, inr, ⊎_elim, arith}
use Rattle.records.specs.declared.fault.Layer.TheVariants.{Record as AtRecord}
use Rattle.records.specs.Kinds.{handshake_kind, data_kind}
use Rattle.records.specs.Records.{framed, limit_of}
use Rattle.protection.specs.Limits.{content_limit, sealed_limit}
use Rattle.handshake.specs.Parts.{is_none}
use Rattle.model.specs.Stages.{is_open}
use Rattle.model.specs.Limits.{read_limit}
use Rattle.model.specs.Schedule.{Schedule}
use Rattle.model.specs.Protections.{Protection, opened_with}
use Rattle.model.specs.Endpoint.{End, Call, with_in}
use Rattle.model.specs.Outcomes.{Outcome, consuming, noting}
use Rattle.model.specs.Deeds.{raises, buffers, releases, perform}
use Rattle.model.specs.Refusals.{message_ready}
use Rattle.model.specs.Contents.{on_content}
use Rattle.model.specs.Steps.{on_opening, on_record, step}
use Rattle.model.specs.EndLaws.{BringsOctets}
use Rattle.model.specs.Law.{counts, CalmAs}
use Rattle.model.proofs.ReadBack.{leb_is, leb_not}
use Rattle.model.proofs.Accepting.{Still}
use Rattle.model.proofs.Stances.{Plain, Sends, open_takes, takes}

module _ {H : Type 0} (K : Schedule H) (P : Protection) where
  -- ---- what a record that is taken does
  pub kept : (f : List ℕ) (e : End H) (m : List ℕ) → is_none m ≡ false → length m ≤ content_limit → is_open e.stage ≡ false → perform K P f e (on_content e handshake_kind m) ≡ perform K P f e (buffers m)
  kept f e m q l o = let h : leb (length m) content_limit ≡ true = leb_is _ _ l in rw (q, h, o) refl

  -- a handshake record, bare
  pub takes_bare : (e : End H) (c : Call) (m rest : List ℕ) → (Plain K P) e → message_ready e ≡ false → is_open e.stage ≡ false → e.reads_protected ≡ false → is_none m ≡ false → length m ≤ content_limit → CalmAs (step K P e c).refused c (framed handshake_kind m ++ rest)
      → (Still K P) e c (step K P e c) ⊎ ((f : List ℕ) × (step K P e c ≡ consuming (length m + 5) (perform K P f e (buffers m))) × (counts c (step K P e c) ≡ 1))
  takes_bare e c m rest p d o r q l h =
      let i : length m ≤ limit_of e.reads_protected = rw r l in
      ⊎_elim (λ z. inl z) (λ z. inr (z.0, z.1 ∙ ap (λ b. consuming (length m + 5) (on_record K P z.0 e b handshake_kind m)) r ∙ ap (consuming (length m + 5)) (kept z.0 e m q l o), z.2)) ((takes K P) e c handshake_kind m rest p d o i h)

  -- a handshake record, sealed
  pub takes_sealed : (e : End H) (c : Call) (y m rest : List ℕ) → (Plain K P) e → message_ready e ≡ false → is_open e.stage ≡ false → e.reads_protected ≡ true → e.reads < read_limit → length y ≤ sealed_limit
      → opened_with P e.protection e.reads handshake_kind y ≡ Ok m → is_none m ≡ false → length m ≤ content_limit → CalmAs (step K P e c).refused c (framed handshake_kind y ++ rest)
      → (Still K P) e c (step K P e c) ⊎ ((f : List ℕ) × (step K P e c ≡ consuming (length y + 5) (noting (record { number = e.reads; kind = handshake_kind; content = m }) (perform K P f (with_in true (e.reads + 1) e) (buffers m)))) × (counts c (step K P e c) ≡ 1))
  takes_sealed e c y m rest p d o r n l s q k h =
      let i : length y ≤ limit_of e.reads_protected = rw r l in
      let b : leb read_limit e.reads ≡ false = leb_not _ _ n in
      ⊎_elim (λ z. inl z) (λ z. inr (
        z.0,
        z.1 ∙ ap (λ b. consuming (length y + 5) (on_record K P z.0 e b handshake_kind y)) r
            ∙ ap (λ b. consuming (length y + 5) (cond b (perform K P z.0 e (raises AtRecord 10)) (on_opening K P z.0 e handshake_kind (opened_with P e.protection e.reads handshake_kind y)))) b
            ∙ ap (λ w. consuming (length y + 5) (on_opening K P z.0 e handshake_kind w)) s
            ∙ ap (λ w. consuming (length y + 5) (noting (record { number = e.reads; kind = handshake_kind; content = m }) w)) (kept z.0 (with_in true (e.reads + 1) e) m q k o),
        z.2,
      )) ((takes K P) e c handshake_kind y rest p d o i h)

  pub freed : (f : List ℕ) (e : End H) (x : List ℕ) → 1 ≤ length x → length x ≤ content_limit → is_open e.stage ≡ true → perform K P f e (on_content e data_kind x) ≡ perform K P f e (releases x)
  freed f e [] n l o = absurd (omega arith)
  freed f e (a ∷ x) n l o = let h : leb (length (a ∷ x)) content_limit ≡ true = leb_is _ _ l in rw (h, o) refl

  -- application data at an open end
  abbrev pub Frees : End H → Call → List ℕ → List ℕ → Outcome H → Type 0
  Frees e c y x o = (f : List ℕ) × (o ≡ consuming (length y + 5) (noting (record { number = e.reads; kind = data_kind; content = x }) (perform K P f (with_in true (e.reads + 1) e) (releases x)))) × (counts c o ≡ 1)

  pub takes_data : (e : End H) (c : Call) (y x rest : List ℕ) → (Plain K P) e → message_ready e ≡ false → is_open e.stage ≡ true → e.reads_protected ≡ true → e.reads < read_limit → length y ≤ sealed_limit
      → opened_with P e.protection e.reads data_kind y ≡ Ok x → 1 ≤ length x → length x ≤ content_limit → CalmAs (step K P e c).refused c (framed data_kind y ++ rest) → BringsOctets c
      → ((Still K P) e c (step K P e c) ⊎ (Sends K P) e c (step K P e c)) ⊎ Frees e c y x (step K P e c)
  takes_data e c y x rest p d o r n l s q k h oc =
      let i : length y ≤ limit_of e.reads_protected = rw r l in
      let b : leb read_limit e.reads ≡ false = leb_not _ _ n in
      ⊎_elim (λ z. inl z) (λ z. inr (
        z.0,
        z.1 ∙ ap (λ b. consuming (length y + 5) (on_record K P z.0 e b data_kind y)) r
            ∙ ap (λ b. consuming (length y + 5) (cond b (perform K P z.0 e (raises AtRecord 10)) (on_opening K P z.0 e data_kind (opened_with P e.protection e.reads data_kind y)))) b
            ∙ ap (λ w. consuming (length y + 5) (on_opening K P z.0 e data_kind w)) s
            ∙ ap (λ w. consuming (length y + 5) (noting (record { number = e.reads; kind = data_kind; content = x }) w)) (freed z.0 (with_in true (e.reads + 1) e) x q k o),
        z.2,
      )) ((open_takes K P) e c data_kind y rest p d i h oc)
