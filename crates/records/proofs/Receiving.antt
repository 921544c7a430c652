-- The laws of records, from the ways that reading can go.
use Rattle.std.proofs.Common.{◌≡◌, ℕ, suc, ◌+◌, ◌-◌, ◌*◌, ◌/◌, ◌%◌, ◌<◌, ◌≤◌, cond, ◌&&◌, eqb, leb, List, [], ◌∷◌, ◌++◌, length, get_or, take, replicate, sym, refl, ap, ◌∙◌, inl, inr, arith}
use Rattle.std.proofs.lemmas.List.{take_at, length-append, length-take-le, length-replicate, same_lists, places}
use Rattle.std.proofs.lemmas.Bool.{eq-eqb, eqb-true, le-leb, lt-leb, leb-true, leb-false, cases_Bool, cases_lt, and_parts}
use Rattle.octets.specs.Laid.{laid}
use Rattle.octets.proofs.Lays.{length-laid}
use Rattle.records.specs.Records.{header, framed, Received, more, faulty, whole, bounded}
use Rattle.records.specs.Laws.{ReadsBack, WritesAgain, PartsFix, MakesOctets, Begins, MoreOnly, MoreAlways, Completes}

pub reads_back : ReadsBack
reads_back limit k x rest h = go _ (omega arith)
  where
    go : (n : ℕ) → n ≡ length x → bounded limit k n (x ++ rest) ≡ whole k x
    go n e =
        let l = length-append x rest in
        rw (le-leb n limit (omega arith), le-leb n (length (x ++ rest)) (omega arith), take_at x rest n (sym e))

-- the ways that reading goes once there is a header
data Way (limit k v w n : ℕ) (r : List ℕ) (got : Received) : Type 0 where
  version : got ≡ faulty 70 → Way limit k v w n r got
  long : got ≡ faulty 22 → Way limit k v w n r got
  lacking : v ≡ 1 → w ≡ 1 → n ≤ limit → length r < n → got ≡ more → Way limit k v w n r got
  ready : v ≡ 1 → w ≡ 1 → n ≤ limit → n ≤ length r → got ≡ whole k (take n r) → Way limit k v w n r got

way : (limit k v w n : ℕ) (r : List ℕ) → Way limit k v w n r (cond (eqb v 1 && eqb w 1) (bounded limit k n r) (faulty 70))
way limit k v w n r = elim (cases_Bool (eqb v 1 && eqb w 1)) [
  | inr f ↦ version (rw f refl)
  | inl t ↦ elim (cases_Bool (leb n limit)) [
    | inr f ↦ long (rw (t, f) refl)
    | inl l ↦ elim (cases_Bool (leb n (length r))) [
      | inr f ↦ lacking (eqb-true v 1 (and_parts _ _ t).0) (eqb-true w 1 (and_parts (eqb v 1) _ t).1) (leb-true n limit l) (leb-false n _ f) (rw (t, l, f) refl)
      | inl m ↦ ready (eqb-true v 1 (and_parts _ _ t).0) (eqb-true w 1 (and_parts (eqb v 1) _ t).1) (leb-true n limit l) (leb-true n _ m) (rw (t, l, m) refl)
    ]
  ]
]

-- the octets of a length that was read
take_header : (k v w a b n : ℕ) (r : List ℕ) → take (5 + n) (k ∷ (v ∷ (w ∷ (a ∷ (b ∷ r))))) ≡ k ∷ (v ∷ (w ∷ (a ∷ (b ∷ take n r))))
take_header k v w a b n r = let e : 5 + n ≡ suc (suc (suc (suc (suc n)))) = omega arith in rw e

again : (k v w a b n : ℕ) (r x : List ℕ) → v ≡ 1 → w ≡ 1 → b < 256 → n ≡ a * 256 + b → n ≤ length r → take n r ≡ x
    → framed k x ≡ take (5 + length x) (k ∷ (v ∷ (w ∷ (a ∷ (b ∷ r)))))
again k v w a b n r x ev ew hb en h ex =
    let l : length x ≡ n = ap length (sym ex) ∙ length-take-le n r h in
    let p : length x / 256 ≡ a = omega arith in
    let q : length x % 256 ≡ b = omega arith in
    let t = take_header k v w a b (length x) r in
    cc

pub writes_again : WritesAgain
writes_again limit k [] x o e = let z : ◌≡◌ {A = ℕ} 0 1 = cc in absurd (omega arith)
writes_again limit k (h ∷ []) x o e = let z : ◌≡◌ {A = ℕ} 0 1 = cc in absurd (omega arith)
writes_again limit k (h ∷ (v ∷ [])) x o e = let z : ◌≡◌ {A = ℕ} 0 1 = cc in absurd (omega arith)
writes_again limit k (h ∷ (v ∷ (w ∷ []))) x o e = let z : ◌≡◌ {A = ℕ} 0 1 = cc in absurd (omega arith)
writes_again limit k (h ∷ (v ∷ (w ∷ (a ∷ [])))) x o e = let z : ◌≡◌ {A = ℕ} 0 1 = cc in absurd (omega arith)
writes_again limit k (h ∷ (v ∷ (w ∷ (a ∷ (b ∷ r))))) x o e = elim (way limit h v w (a * 256 + b) r) [
  | version f ↦ (let z : ◌≡◌ {A = ℕ} 0 1 = cc in absurd (omega arith))
  | long f ↦ (let z : ◌≡◌ {A = ℕ} 0 1 = cc in absurd (omega arith))
  | lacking p q l m f ↦ (let z : ◌≡◌ {A = ℕ} 0 1 = cc in absurd (omega arith))
  | ready p q l m f ↦ (let ek : h ≡ k = cc in let ex : take (a * 256 + b) r ≡ x = cc in
      rw (← ek) (again h v w a b (a * 256 + b) r x p q o.1.1.1.1.0 refl m ex))
]

pub parts_fix : PartsFix
parts_fix limit other k xs ys x ox oy ex ey = sym (writes_again limit k xs x ox ex) ∙ writes_again other k ys x oy ey

pub makes_octets : MakesOctets
makes_octets k x hk o h = (hk, (omega arith, (omega arith, (omega arith, (omega arith, o)))))

pub more_only : MoreOnly
more_only limit [] o e = inl (omega arith)
more_only limit (h ∷ []) o e = inl (omega arith)
more_only limit (h ∷ (v ∷ [])) o e = inl (omega arith)
more_only limit (h ∷ (v ∷ (w ∷ []))) o e = inl (omega arith)
more_only limit (h ∷ (v ∷ (w ∷ (a ∷ [])))) o e = inl (omega arith)
more_only limit (h ∷ (v ∷ (w ∷ (a ∷ (b ∷ r))))) o e = elim (way limit h v w (a * 256 + b) r) [
  | version f ↦ (let z : ◌≡◌ {A = ℕ} 0 1 = cc in absurd (omega arith))
  | long f ↦ (let z : ◌≡◌ {A = ℕ} 0 1 = cc in absurd (omega arith))
  | lacking p q l m f ↦ inr (begins limit h v w a b (a * 256 + b) r p q o.1.1.1.1.0 refl l m)
  | ready p q l m f ↦ (let z : ◌≡◌ {A = ℕ} 0 1 = cc in absurd (omega arith))
]
  where
    begins : (limit k v w a b n : ℕ) (r : List ℕ) → v ≡ 1 → w ≡ 1 → b < 256 → n ≡ a * 256 + b → n ≤ limit → length r < n
        → Begins limit (k ∷ (v ∷ (w ∷ (a ∷ (b ∷ r)))))
    begins limit k v w a b n r p q hb en l m =
        let ys : List ℕ = replicate (n - length r) 0 in
        let ly : length ys ≡ n - length r = length-replicate (n - length r) 0 in
        let lx : length (r ++ ys) ≡ n = length-append r ys ∙ omega arith in
        let ea : a ≡ length (r ++ ys) / 256 = omega arith in
        let eb : b ≡ length (r ++ ys) % 256 = omega arith in
        record { kind = k; content = r ++ ys; lacking = ys; bound = omega arith; some = omega arith; joins = cc }

pub more_always : MoreAlways
more_always limit [] h = refl
more_always limit (k ∷ []) h = refl
more_always limit (k ∷ (v ∷ [])) h = refl
more_always limit (k ∷ (v ∷ (w ∷ []))) h = refl
more_always limit (k ∷ (v ∷ (w ∷ (a ∷ [])))) h = refl
more_always limit (k ∷ (v ∷ (w ∷ (a ∷ (b ∷ r))))) (inl h) = absurd (omega arith)
more_always limit (k ∷ (v ∷ (w ∷ (a ∷ (b ∷ r))))) (inr s) =
    let j : k ∷ (v ∷ (w ∷ (a ∷ (b ∷ (r ++ s.lacking))))) ≡ framed s.kind s.content = s.joins in
    let ev : v ≡ 1 = cc in
    let ew : w ≡ 1 = cc in
    let ea : a ≡ length s.content / 256 = cc in
    let eb : b ≡ length s.content % 256 = cc in
    let er : r ++ s.lacking ≡ s.content = cc in
    let l : length r + length s.lacking ≡ length s.content = sym (length-append r s.lacking) ∙ ap length er in
    rw (eq-eqb v 1 ev, eq-eqb w 1 ew, le-leb (a * 256 + b) limit (omega arith), lt-leb (a * 256 + b) (length r) (omega arith))

-- a list laid before another that stands in place, octet by octet
before_at : (o h x : List ℕ) (at i d : ℕ) → i < length o → get_or (laid (laid o (at + length h) x) at h) i d ≡ get_or (laid o at (h ++ x)) i d
unfolding laid
before_at o h x at i d l = elim (cases_lt i at) [
  | inl p ↦ grind (arith, places)
  | inr p ↦ elim (cases_lt i (at + length h)) [
    | inl q ↦ grind (arith, places)
    | inr q ↦ elim (cases_lt i (at + length h + length x)) [
      | inl r ↦ grind (arith, places)
      | inr r ↦ grind (arith, places)
    ]
  ]
]

before : (o h x : List ℕ) (at : ℕ) → laid (laid o (at + length h) x) at h ≡ laid o at (h ++ x)
before o h x at = same_lists _ _ (simp length-laid) (λ i d l. before_at o h x at i d (simp length-laid at l))

pub completes : Completes
completes out x at k = before out (header k (length x)) x at
