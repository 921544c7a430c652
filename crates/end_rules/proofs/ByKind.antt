-- What a content does by its kind, as a match on the kind and as tests of its octet.
use Rattle.std.proofs.Common.{◌≡◌, ℕ, Bool, cond, eqb, List, Some, None, Option, sym, refl, ap, ◌∙◌, inl, inr}
use Rattle.std.proofs.lemmas.Bool.{cases_Bool}
use Rattle.records.specs.Kinds.{kind_of}
use Rattle.records.specs.declared.kind.ContentKind.{ContentKind}
use Rattle.records.specs.declared.kind.ContentKind.TheVariants.{ChangeCipherSpec, Alert, Handshake, ApplicationData}
use Rattle.records.specs.declared.fault.Layer.TheVariants.{Content as AtContent}
use Rattle.model.specs.declared.stage.Stage.{Stage}
use Rattle.model.specs.Stages.{is_open}
use Rattle.model.specs.Deeds.{Deed, waits, raises, buffers, releases}
use Rattle.model.specs.Contents.{is_one, on_change, on_alert, on_kind_at}

module _ {A : Type 0} (change alert handshake application none : A) where
  abbrev pub chosen : Option ContentKind → A
  chosen None = none
  chosen (Some ChangeCipherSpec) = change
  chosen (Some Alert) = alert
  chosen (Some Handshake) = handshake
  chosen (Some ApplicationData) = application

  same_choice : (k : ℕ) → chosen (kind_of k)
      ≡ cond (eqb k 20) change (cond (eqb k 21) alert (cond (eqb k 22) handshake (cond (eqb k 23) application none)))
  same_choice k = elim (cases_Bool (eqb k 20)) [
    | inl p ↦ rw p refl
    | inr p ↦ elim (cases_Bool (eqb k 21)) [
      | inl q ↦ rw (p, q) refl
      | inr q ↦ elim (cases_Bool (eqb k 22)) [
        | inl r ↦ rw (p, q, r) refl
        | inr r ↦ elim (cases_Bool (eqb k 23)) [
          | inl s ↦ rw (p, q, r, s) refl
          | inr s ↦ rw (p, q, r, s) refl
        ]
      ]
    ]
  ]

-- what a content does, by the kind that its octet tells
abbrev pub kind_deed : Stage → Bool → List ℕ → Option ContentKind → Deed
kind_deed s b x =
    chosen (cond (is_one x) (cond b (on_change s) (raises AtContent 10)) (raises AtContent 50)) (on_alert x)
    (cond (is_open s) (raises AtContent 10) (buffers x)) (cond (is_open s) (releases x) (raises AtContent 10)) waits

module _ (s : Stage) (b : Bool) (k : ℕ) (x : List ℕ) {d : Deed} where
  pub by_kind : {v : ContentKind} (w : ContentKind) → Some v ≡ kind_of k → v ≡ w → d ≡ kind_deed s b x (Some w) → d ≡ on_kind_at s b k x
  by_kind w e i h = h ∙ ap (λ u. kind_deed s b x (Some u)) (sym i) ∙ ap (kind_deed s b x) e ∙ same_choice _ _ _ _ _ k

  pub by_no_kind : None ≡ kind_of k → d ≡ waits → d ≡ on_kind_at s b k x
  by_no_kind e h = h ∙ ap (kind_deed s b x) e ∙ same_choice _ _ _ _ _ k
