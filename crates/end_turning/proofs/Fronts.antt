-- The first message of the buffer, as it is judged and as it is defined.
use Rattle.std.proofs.Common.{◌≡◌, ℕ, ◌+◌, ◌-◌, ◌≤◌, min, List, ◌++◌, length, take, drop, Result, sym, ap, ◌∙◌, arith, length-drop, length-take, drop-drop, take-add}
use Rattle.records.specs.declared.fault.Fault.{Fault}
use Rattle.sm3.specs.Hash.{Running}
use Rattle.handshake.specs.Frames.{next, ready}
use Rattle.handshake_reader.specs.declared.frames.FirstMessage.TheVariants.{Ready}
use Rattle.handshake_reader.specs.Views.{first_of}
use Rattle.handshake_reader.proofs.Framing.{ready_stands}
use Rattle.model.specs.Endpoint.{End}
use Rattle.model.specs.Turns.{turned}
use Rattle.model.specs.Tlcp.{tlcp}
use Rattle.end_turning.specs.declared.judging.TurnEffect.{TurnEffect}
use Rattle.end_turning.specs.Turns.{plain, judged_deed}

-- a ready message is the front of the buffer, and its body stands behind the header
module _ (xs : List ℕ) (k n : ℕ) (h : Ready k n ≡ first_of (next xs)) where
  pub front_is : next xs ≡ ready k (take (4 + n) xs) (take (4 + n - 4) (drop 4 xs)) (drop (4 + n) xs)
  front_is =
      let s = ready_stands xs k n h in
      let a : take 4 xs ++ take n (drop 4 xs) ≡ take (4 + n) xs = sym (take-add 4 n xs) in
      let b : drop n (drop 4 xs) ≡ drop (4 + n) xs = simp drop-drop in
      let c : n ≡ 4 + n - 4 = omega arith in
      s.is ∙ ap (λ z. ready k z (take n (drop 4 xs)) (drop n (drop 4 xs))) a ∙ ap (λ z. ready k (take (4 + n) xs) (take n (drop 4 xs)) z) b
      ∙ ap (λ z. ready k (take (4 + n) xs) (take z (drop 4 xs)) (drop (4 + n) xs)) c

-- it is in the buffer, the first octets of a longer list
pub front_within : (len k n : ℕ) (os bs : List ℕ) → bs ≡ take len os → Ready k n ≡ first_of (next bs) → 4 + n ≤ len
front_within len k n os bs q h =
    let w = (ready_stands bs k n h).whole in
    let l : length bs ≡ min len (length os) = ap length q ∙ length-take len os in
    omega arith

-- what is judged of a ready message is judged of the buffer
pub front_judged : (xs bs : List ℕ) (e : End Running) (k n : ℕ) (r : Result TurnEffect Fault) → bs ≡ xs → Ready k n ≡ first_of (next bs)
    → ((m rest : List ℕ) → length rest ≡ length bs - (4 + n) → judged_deed m rest r ≡ plain (turned tlcp e (ready k m (take (4 + n - 4) (drop 4 bs)) rest)))
    → judged_deed (take (4 + n) xs) (drop (4 + n) xs) r ≡ plain (turned tlcp e (next xs))
front_judged xs bs e k n r q h j =
    ap (λ z. judged_deed (take (4 + n) z) (drop (4 + n) z) r) (sym q) ∙ j (take (4 + n) bs) (drop (4 + n) bs) (length-drop (4 + n) bs)
    ∙ ap (λ z. plain (turned tlcp e z)) (sym (front_is bs k n h)) ∙ ap (λ z. plain (turned tlcp e (next z))) q
