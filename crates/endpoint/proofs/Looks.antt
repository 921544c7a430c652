-- The parts of a Certificate: how many there are, and each by its place.
use Rattle.std.proofs.Common.{◌≡◌, ℕ, zero, suc, ◌+◌, List, [], ◌∷◌, length, Some, None, refl, ap, ◌∙◌, arith}
use Rattle.std.specs.List.{slice_get}
use Rattle.handshake.specs.declared.spans.Span.{Span}
use Rattle.handshake.specs.Places.{spans}
use Rattle.model.specs.Results.{parts_from}

pub parts_counted : (at : ℕ) (cs : List (List ℕ)) → length (parts_from at cs) ≡ length cs
parts_counted at [] = refl
parts_counted at (c ∷ cs) = ap suc (parts_counted (at + 3 + length c) cs)

-- the next certificate stands behind this one
behind : (at n : ℕ) → at + (3 + n) ≡ at + 3 + n
behind at n = omega arith

pub part_at : (at : ℕ) (cs : List (List ℕ)) (i : ℕ) (s : Span) (c : List ℕ) → slice_get (spans at cs) i ≡ Some s → slice_get cs i ≡ Some c
    → Some (record { offset = s.offset; octets = c }) ≡ slice_get (parts_from at cs) i
part_at at [] i s c e f = let z : ◌≡◌ {A = ℕ} 0 1 = cc in absurd (omega arith)
part_at at (d ∷ cs) zero s c e f =
    let si : record { offset = at + 3; len = length d } ≡ s = cc in
    let di : d ≡ c = cc in
    rw (← si, ← di) refl
part_at at (d ∷ cs) (suc i) s c e f =
    part_at (at + (3 + length d)) cs i s c e f ∙ ap (λ n. slice_get (parts_from n cs) i) (behind at (length d))

-- where there is no certificate there is no part
pub no_part_at : (at : ℕ) (cs : List (List ℕ)) (i : ℕ) → slice_get cs i ≡ None → None ≡ slice_get (parts_from at cs) i
no_part_at at [] i f = refl
no_part_at at (d ∷ cs) zero f = let z : ◌≡◌ {A = ℕ} 0 1 = cc in absurd (omega arith)
no_part_at at (d ∷ cs) (suc i) f = no_part_at (at + 3 + length d) cs i f

pub no_span_at : (at : ℕ) (cs : List (List ℕ)) (i : ℕ) → slice_get (spans at cs) i ≡ None → slice_get cs i ≡ None
no_span_at at [] i f = refl
no_span_at at (d ∷ cs) zero f = let z : ◌≡◌ {A = ℕ} 0 1 = cc in absurd (omega arith)
no_span_at at (d ∷ cs) (suc i) f = no_span_at (at + (3 + length d)) cs i f
