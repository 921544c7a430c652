-- The laws of `laid`.
use Rattle.std.proofs.Common.{◌≡◌, ℕ, ◌+◌, ◌-◌, ◌<◌, ◌≤◌, min, List, ◌++◌, length, get_or, take, drop, sym, ap, ◌∙◌, inl, inr, arith, rules}
use Rattle.std.proofs.lemmas.List.{same_lists, places, length-append}
use Rattle.std.proofs.lemmas.Bool.{cases_lt}
use borrow.Rule.Slice.PartMut.{put_mid}
use Rattle.octets.specs.Laid.{laid}

pub length-laid : (o l : List ℕ) (at : ℕ) → length (laid o at l) ≡ length o
unfolding laid
length-laid o l at = search (rules, places)

-- the octet at a place before the list, in it, and behind it
module _ (o l : List ℕ) (at k d : ℕ) (h : k < length o) where
  laid_before : k < at → get_or (laid o at l) k d ≡ get_or o k d
  unfolding laid
  laid_before b = grind (arith, places)

  laid_within : at ≤ k → k < at + length l → get_or (laid o at l) k d ≡ get_or l (k - at) d
  unfolding laid
  laid_within a b = grind (arith, places)

  laid_behind : at + length l ≤ k → get_or (laid o at l) k d ≡ get_or o k d
  unfolding laid
  laid_behind a = grind (arith, places)

laid-laid_at : (o a b : List ℕ) (at k d : ℕ) → k < length o → get_or (laid (laid o at a) (at + length a) b) k d ≡ get_or (laid o at (a ++ b)) k d
laid-laid_at o a b at k d h =
    let l1 : k < length (laid o at a) = rw length-laid h in
    let lab = length-append a b in
    elim (cases_lt k at) [
      | inl p ↦ (let q : k < at + length a = omega arith in
          laid_before (laid o at a) b (at + length a) k d l1 q ∙ laid_before o a at k d h p ∙ sym (laid_before o (a ++ b) at k d h p))
      | inr p ↦ elim (cases_lt k (at + length a)) [
        | inl q ↦ (let r : k < at + length (a ++ b) = omega arith in
            let s : k - at < length a = omega arith in
            laid_before (laid o at a) b (at + length a) k d l1 q ∙ laid_within o a at k d h p q ∙ sym (laid_within o (a ++ b) at k d h p r ∙ grind (arith, places)))
        | inr q ↦ elim (cases_lt k (at + length a + length b)) [
          | inl r ↦ (let t : k < at + length (a ++ b) = omega arith in
              laid_within (laid o at a) b (at + length a) k d l1 q r ∙ sym (laid_within o (a ++ b) at k d h p t ∙ grind (arith, places)))
          | inr r ↦ (let t : at + length (a ++ b) ≤ k = omega arith in
              laid_behind (laid o at a) b (at + length a) k d l1 r ∙ laid_behind o a at k d h q ∙ sym (laid_behind o (a ++ b) at k d h t))
        ]
      ]
    ]

-- one list after the other
pub laid-laid : (o a b : List ℕ) (at to : ℕ) → to ≡ at + length a → laid (laid o at a) to b ≡ laid o at (a ++ b)
laid-laid o a b at to e =
    ap (λ n. laid (laid o at a) n b) e
    ∙ same_lists _ _ (simp length-laid) (λ k d l. laid-laid_at o a b at k d (simp length-laid at l))

-- what a reader of the front then finds
pub take-laid : (o l : List ℕ) (at to : ℕ) → to ≡ at + length l → to ≤ length o → take to (laid o at l) ≡ take at o ++ l
unfolding laid
take-laid o l at to e h = same_lists _ _ (search (rules, places)) (λ k d l. grind (arith, places))

-- a list that finds room
pub laid_fits : (o l : List ℕ) (at : ℕ) → at + length l ≤ length o → laid o at l ≡ take at o ++ (l ++ drop (at + length l) o)
unfolding laid
laid_fits o l at h = same_lists _ _ (search (rules, places)) (λ k d l. grind (arith, places))

-- a list that finds room at the front
pub laid_first : (o l : List ℕ) → length l ≤ length o → laid o 0 l ≡ l ++ drop (length l) o
unfolding laid
laid_first o l h = same_lists _ _ (search (rules, places)) (λ k d l. grind (arith, places))

-- what a write of the first n octets to `out[at..at + n]` leaves
pub put_laid : (o l w : List ℕ) (at n : ℕ) → n ≡ min (length l) (length o - at) → at ≤ length o → w ≡ take (n - 0) l
    → put_mid at (at + n - at) o w ≡ laid o at l
unfolding laid
put_laid o l w at n e h f = same_lists _ _ (search (rules, places)) (λ k d l. grind (arith, places))

-- where nothing finds room
pub none_laid : (o l : List ℕ) (at : ℕ) → min (length l) (length o - at) ≡ 0 → o ≡ laid o at l
unfolding laid
none_laid o l at e = same_lists _ _ (search (rules, places)) (λ k d l. grind (arith, places))

laid_under_at : (o h l : List ℕ) (at k d : ℕ) → k < length o → get_or (laid (laid o (at + length h) l) at h) k d ≡ get_or (laid o at (h ++ l)) k d
laid_under_at o h l at k d lt =
    let l1 : k < length (laid o (at + length h) l) = rw length-laid lt in
    let lab = length-append h l in
    elim (cases_lt k at) [
      | inl p ↦ (let q : k < at + length h = omega arith in
          laid_before (laid o (at + length h) l) h at k d l1 p ∙ laid_before o l (at + length h) k d lt q ∙ sym (laid_before o (h ++ l) at k d lt p))
      | inr p ↦ elim (cases_lt k (at + length h)) [
        | inl q ↦ (let r : k < at + length (h ++ l) = omega arith in
            let s : k - at < length h = omega arith in
            laid_within (laid o (at + length h) l) h at k d l1 p q ∙ sym (laid_within o (h ++ l) at k d lt p r ∙ grind (arith, places)))
        | inr q ↦ elim (cases_lt k (at + length h + length l)) [
          | inl r ↦ (let t : k < at + length (h ++ l) = omega arith in
              laid_behind (laid o (at + length h) l) h at k d l1 q ∙ laid_within o l (at + length h) k d lt q r ∙ sym (laid_within o (h ++ l) at k d lt p t ∙ grind (arith, places)))
          | inr r ↦ (let t : at + length (h ++ l) ≤ k = omega arith in
              laid_behind (laid o (at + length h) l) h at k d l1 q ∙ laid_behind o l (at + length h) k d lt r ∙ sym (laid_behind o (h ++ l) at k d lt t))
        ]
      ]
    ]

-- a list before one that stands already
pub laid_under : (o h l : List ℕ) (at from : ℕ) → from ≡ at + length h → laid (laid o from l) at h ≡ laid o at (h ++ l)
laid_under o h l at from e =
    ap (λ n. laid (laid o n l) at h) e
    ∙ same_lists _ _ (simp length-laid) (λ k d l'. laid_under_at o h l at k d (simp length-laid at l'))

-- what a write of a list to the first places of `out[from..to]` leaves
pub part_laid : (o l w : List ℕ) (from m : ℕ) → from + m ≤ length o → length l ≤ m → w ≡ l ++ drop (length l) (take m (drop from o))
    → put_mid from m o w ≡ laid o from l
unfolding laid
part_laid o l w from m h f e = same_lists _ _ (search (rules, places)) (λ k d l'. grind (arith, places))

-- what was laid is read again
pub read_laid : (o l : List ℕ) (at end : ℕ) → end ≡ at + length l → end ≤ length o → take (end - at) (drop at (laid o at l)) ≡ l
unfolding laid
read_laid o l at end e h = same_lists _ _ (search (rules, places)) (λ k d l. grind (arith, places))

-- what was laid is written over by a list of the same length
pub over_laid : (o l w : List ℕ) (at end : ℕ) → end ≡ at + length l → end ≤ length o → length w ≡ length l → put_mid at (end - at) (laid o at l) w ≡ laid o at w
unfolding laid
over_laid o l w at end e h n = same_lists _ _ (search (rules, places)) (λ k d l. grind (arith, places))
