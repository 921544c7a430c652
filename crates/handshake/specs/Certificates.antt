-- Certificate: a list of certificates behind its length, each behind its own; the signing certificate comes before that for encryption.
use Rattle.std.specs.Prelude.{ℕ, Bool, true, cond, ◌&&◌, List, [], ◌∷◌, ◌++◌, length, Some, None, Option, nat_le}
use Rattle.handshake.specs.Parts.{is_none, sized3, Cut, uncut, cut, part3, after_cut}

-- certificates one after another, each behind its length
abbrev pub from_certificates : List (List ℕ) → List ℕ
from_certificates [] = []
from_certificates (c ∷ cs) = sized3 c ++ from_certificates cs

unfoldable pub certificate_body : List (List ℕ) → List ℕ
certificate_body cs = sized3 (from_certificates cs)

-- every certificate has one octet or more
abbrev pub some_each : List (List ℕ) → Bool
some_each [] = true
some_each (c ∷ cs) = nat_le 1 (length c) && some_each cs

-- the layout's own lengths: no empty certificate, and a list whose length three octets can tell
abbrev pub certificate_sound : List (List ℕ) → Bool
certificate_sound cs = some_each cs && nat_le (length (from_certificates cs)) 16777215

abbrev pub put_first : List ℕ → Option (List (List ℕ)) → Option (List (List ℕ))
put_first c None = None
put_first c (Some cs) = Some (c ∷ cs)

-- certificates one after another, each of one octet or more; there are at most as many as octets, which the first argument counts off
abbrev pub certificates_in : List ℕ → List ℕ → Option (List (List ℕ))
certificates_in [] xs = cond (is_none xs) (Some []) None
certificates_in (o ∷ os) xs =
    cond (is_none xs) (Some [])
    (after_cut (part3 xs) (λ c rest. cond (nat_le 1 (length c)) (put_first c (certificates_in os rest)) None))

unfoldable pub read_certificate : List ℕ → Option (List (List ℕ))
read_certificate xs = after_cut (part3 xs) (λ cs rest. cond (is_none rest) (certificates_in cs cs) None)

abbrev pub seen_first : Cut → (List ℕ → List (List ℕ)) → List (List ℕ)
seen_first uncut more = []
seen_first (cut c rest) more = c ∷ more rest

-- the certificates at the front of a list, as far as they can be cut off; in a list that is sound these are all
abbrev pub certificates_seen : List ℕ → List ℕ → List (List ℕ)
certificates_seen [] xs = []
certificates_seen (o ∷ os) xs = seen_first (part3 xs) (certificates_seen os)
