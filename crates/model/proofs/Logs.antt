-- What an end has told, and checks that are each one of two.
use Rattle.std.proofs.Common.{◌≡◌, ℕ, Bool, true, false, ◌⊎◌, List, [], ◌∷◌, ◌++◌, sym, ap, ◌∙◌, inl, inr, ⊎_elim, append-nil}
use mathlib.Core.List.Memᴰ
use mathlib.Core.List.{Memᴰ}
use Rattle.octets.specs.declared.role.Role.{Role}
use Rattle.octets.specs.declared.role.Role.TheVariants.{Client, Server}
use Rattle.octets.specs.Roles.{peer}
use Rattle.model.specs.Schedule.{Schedule}
use Rattle.model.specs.Outcomes.{Outcome}
use Rattle.model.specs.Runs.{Check, secret, Past, checks_of}
use Rattle.model.proofs.Fronts.{never}

-- ---- what an end has told: its messages, the premasters answered, check values made and compared
pub record Log : Type 0 where
  pub messages : List (List ℕ)
  pub premasters : List (List ℕ)
  pub finished : List Check
  pub compared : List Check

abbrev pub log_of : Past → Log
log_of p = record { messages = p.messages; premasters = p.premasters; finished = p.finished; compared = p.compared }

abbrev pub grown : {H : Type 0} → Schedule H → Role → Log → Outcome H → Log
grown K X l o =
    let m = secret K (l.premasters ++ o.premasters) (l.messages ++ o.joined) in
    record { messages = l.messages ++ o.joined; premasters = l.premasters ++ o.premasters; finished = l.finished ++ checks_of X m l.messages o.finished; compared = l.compared ++ checks_of (peer X) m l.messages o.compared }

abbrev pub AddsNone : {H : Type 0} → Outcome H → Type 0
AddsNone o = (o.joined ≡ []) × (o.premasters ≡ []) × (o.finished ≡ []) × (o.compared ≡ [])

pub grown_none : {H : Type 0} (K : Schedule H) (X : Role) (l : Log) (o : Outcome H) → AddsNone o → grown K X l o ≡ l
grown_none K X l o h =
    let m = secret K (l.premasters ++ o.premasters) (l.messages ++ o.joined) in
    let e1 : l.messages ++ o.joined ≡ l.messages = ap (λ z. l.messages ++ z) h.0 ∙ append-nil l.messages in
    let e2 : l.premasters ++ o.premasters ≡ l.premasters = ap (λ z. l.premasters ++ z) h.1 ∙ append-nil l.premasters in
    let e3 : l.finished ++ checks_of X m l.messages o.finished ≡ l.finished = ap (λ z. l.finished ++ checks_of X m l.messages z) h.2 ∙ append-nil l.finished in
    let e4 : l.compared ++ checks_of (peer X) m l.messages o.compared ≡ l.compared = ap (λ z. l.compared ++ checks_of (peer X) m l.messages z) h.3 ∙ append-nil l.compared in
    λ i. record { messages = e1 i; premasters = e2 i; finished = e3 i; compared = e4 i }

-- ---- checks that are each one of two, of unlike labels
abbrev pub Each : Check → Check → List Check → Type 0
Each a b [] = Unit {0}
Each a b (x ∷ xs) = ((x ≡ a) ⊎ (x ≡ b)) × Each a b xs

pub each_in : (a b : Check) (xs : List Check) (x : Check) → Each a b xs → Memᴰ x xs → (x ≡ a) ⊎ (x ≡ b)
each_in a b [] x h m = elim m [ ]
each_in a b (y ∷ ys) x h m = ⊎_elim (λ (e : x ≡ y). ⊎_elim (λ (p : y ≡ a). inl (e ∙ p)) (λ (p : y ≡ b). inr (e ∙ p)) h.0) (λ (t : Memᴰ x ys). each_in a b ys x h.1 t) (Memᴰ.cases_cons m)

pub is_client : Role → Bool
is_client Client = true
is_client Server = false

pub unlike : {A : Type 0} (a b x y : Check) → a.label ≡ Client → b.label ≡ Server → x ≡ a → y ≡ b → x.label ≡ y.label → A
unfolding is_client
unlike a b x y p q e f l = never (ap is_client (sym p ∙ ap (λ (c : Check). c.label) (sym e) ∙ l ∙ ap (λ (c : Check). c.label) f ∙ q))

pub alike : (a x y : Check) → x ≡ a → y ≡ a → (x.master ≡ y.master) × (x.messages ≡ y.messages)
alike a x y e f = (ap (λ (c : Check). c.master) (e ∙ sym f), ap (λ (c : Check). c.messages) (e ∙ sym f))

-- checks of one label in a list have the same behind them
abbrev pub OneEach : List Check → Type 0
OneEach xs = (x y : Check) → Memᴰ x xs → Memᴰ y xs → x.label ≡ y.label → (x.master ≡ y.master) × (x.messages ≡ y.messages)

pub each_alike : (a b : Check) (xs : List Check) → a.label ≡ Client → b.label ≡ Server → Each a b xs → (x y : Check) → Memᴰ x xs → Memᴰ y xs → x.label ≡ y.label → (x.master ≡ y.master) × (x.messages ≡ y.messages)
each_alike a b xs p q h x y m n l =
    ⊎_elim (λ (e : x ≡ a). ⊎_elim (λ (f : y ≡ a). alike a x y e f) (λ (f : y ≡ b). unlike a b x y p q e f l) (each_in a b xs y h n))
    (λ (e : x ≡ b). ⊎_elim (λ (f : y ≡ a). unlike a b y x p q f e (sym l)) (λ (f : y ≡ b). alike b x y e f) (each_in a b xs y h n)) (each_in a b xs x h m)
