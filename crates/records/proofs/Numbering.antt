-- Numbers and what they stand for undo each other; the ranges of listed numbers are the numbers of the alerts.
use Rattle.std.proofs.Common.{◌≡◌, ℕ, zero, suc, ◌<◌, ◌≤◌, Bool, true, false, cond, not, ◌&&◌, eqb, ltb, List, [], ◌∷◌, is_some, Some, None, sym, refl, ap, ◌∙◌, inl, inr, arith}
use Rattle.std.proofs.lemmas.Bool.{eqb-true, ltb-true, ne_eqb, cases_Bool, cases_eq, cases_lt, and_parts}
use Rattle.records.specs.Faults.{numbered, alerts, alert_number, alert_of, level_number, level_of, listed}
use Rattle.records.specs.Kinds.{kind_number, kind_of, known_kind}
use Rattle.records.specs.declared.fault.Alert.{Alert}
use Rattle.records.specs.declared.fault.Alert.TheVariants.{CloseNotify, UnexpectedMessage, BadRecordMac, DecryptionFailed, RecordOverflow, DecompressionFailure, HandshakeFailure, BadCertificate, UnsupportedCertificate, CertificateRevoked, CertificateExpired, CertificateUnknown, IllegalParameter, UnknownCa, AccessDenied, DecodeError, DecryptError, ProtocolVersion, InsufficientSecurity, InternalError, UserCanceled, NoRenegotiation, UnsupportedSite2site, NoArea, UnsupportedAreatype, BadIbcparam, UnsupportedIbcparam, IdentityNeed}
use Rattle.records.specs.declared.fault.AlertLevel.{AlertLevel}
use Rattle.records.specs.declared.fault.AlertLevel.TheVariants.{Warning, Fatal}
use Rattle.records.specs.declared.kind.ContentKind.{ContentKind}
use Rattle.records.specs.declared.kind.ContentKind.TheVariants.{ChangeCipherSpec, Alert as AlertKind, Handshake, ApplicationData}

-- what is found has the number that was looked for
pub numbered_has : {A : Type 0} (f : A → ℕ) (xs : List A) (n : ℕ) (a : A) → numbered f xs n ≡ Some a → f a ≡ n
numbered_has f [] n a e = let z : ◌≡◌ {A = ℕ} 0 1 = cc in absurd (omega arith)
numbered_has f (x ∷ xs) n a e = elim (cases_Bool (eqb n (f x))) [
  | inl t ↦ (let g : Some x ≡ Some a = rw t at e in let h : x ≡ a = cc in sym (eqb-true n (f x) t ∙ ap f h))
  | inr t ↦ numbered_has f xs n a (rw t at e)
]

-- a test that passes at every number below a bound
abbrev below : (ℕ → Bool) → ℕ → Bool
below p zero = true
below p (suc n) = p n && below p n

below_at : (p : ℕ → Bool) (n k : ℕ) → below p n ≡ true → k < n → p k ≡ true
below_at p zero k e h = absurd (omega arith)
below_at p (suc n) k e h = elim (cases_eq k n) [
  | inl q ↦ ap p q ∙ (and_parts (p n) (below p n) e).0
  | inr q ↦ below_at p n k (and_parts (p n) (below p n) e).1 (omega arith)
]

alike : Bool → Bool → Bool
alike a b = cond a b (not b)

alike_true : (a b : Bool) → alike a b ≡ true → a ≡ b
unfolding alike
alike_true true true e = refl
alike_true true false e = sym e
alike_true false true e = e
alike_true false false e = refl

-- past the octets nothing is found
abbrev all_octets : {A : Type 0} → (A → ℕ) → List A → Bool
all_octets f [] = true
all_octets f (x ∷ xs) = ltb (f x) 256 && all_octets f xs

past : {A : Type 0} (f : A → ℕ) (xs : List A) (n : ℕ) → all_octets f xs ≡ true → 256 ≤ n → numbered f xs n ≡ None
past f [] n e h = refl
past f (x ∷ xs) n e h =
    let q = and_parts (ltb (f x) 256) (all_octets f xs) e in
    let l = ltb-true (f x) 256 q.0 in
    let d : eqb n (f x) ≡ false = ne_eqb n (f x) (λ k. omega arith) in
    rw d (past f xs n q.1 h)

-- every octet is looked at; past them no test passes
pub listed_is : (n : ℕ) → listed n ≡ is_some (alert_of n)
unfolding alike
listed_is n = elim (cases_lt n 256) [
  | inl h ↦ alike_true _ _ (below_at (λ k. alike (listed k) (is_some (alert_of k))) 256 n refl h)
  | inr h ↦ (let p : listed n ≡ false = grind arith in p ∙ sym (ap is_some (past alert_number alerts n refl h)))
]

pub known_is : (k : ℕ) → known_kind k ≡ is_some (kind_of k)
known_is k = grind arith

-- a name is found by its number
pub alert_back : (a : Alert) → alert_of (alert_number a) ≡ Some a
alert_back CloseNotify = refl
alert_back UnexpectedMessage = refl
alert_back BadRecordMac = refl
alert_back DecryptionFailed = refl
alert_back RecordOverflow = refl
alert_back DecompressionFailure = refl
alert_back HandshakeFailure = refl
alert_back BadCertificate = refl
alert_back UnsupportedCertificate = refl
alert_back CertificateRevoked = refl
alert_back CertificateExpired = refl
alert_back CertificateUnknown = refl
alert_back IllegalParameter = refl
alert_back UnknownCa = refl
alert_back AccessDenied = refl
alert_back DecodeError = refl
alert_back DecryptError = refl
alert_back ProtocolVersion = refl
alert_back InsufficientSecurity = refl
alert_back InternalError = refl
alert_back UserCanceled = refl
alert_back NoRenegotiation = refl
alert_back UnsupportedSite2site = refl
alert_back NoArea = refl
alert_back UnsupportedAreatype = refl
alert_back BadIbcparam = refl
alert_back UnsupportedIbcparam = refl
alert_back IdentityNeed = refl

pub level_back : (l : AlertLevel) → level_of (level_number l) ≡ Some l
level_back Warning = refl
level_back Fatal = refl

pub kind_back : (k : ContentKind) → kind_of (kind_number k) ≡ Some k
kind_back ChangeCipherSpec = refl
kind_back AlertKind = refl
kind_back Handshake = refl
kind_back ApplicationData = refl

-- the numbers of alerts and levels are octets
pub alert_octet : (a : Alert) → alert_number a < 256
alert_octet a = elim (cases_lt (alert_number a) 256) [
  | inl h ↦ h
  | inr h ↦ (let p = alert_back a in let q = past alert_number alerts (alert_number a) refl h in
      let z : ◌≡◌ {A = ℕ} 0 1 = cc in absurd (omega arith))
]

pub level_octet : (l : AlertLevel) → level_number l < 256
level_octet Warning = omega arith
level_octet Fatal = omega arith
