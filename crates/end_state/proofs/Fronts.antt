-- The message at the front of a buffer, as it is found there and as it leaves.
use Rattle.std.proofs.Common.{◌≡◌, ℕ, ◌+◌, ◌≤◌, true, List, [], ◌∷◌, ◌++◌, length, take, drop, sym, ap, ◌∙◌, arith, rules}
use Rattle.std.proofs.lemmas.List.{drop-drop, same_lists, places}
use Rattle.sm3.specs.Hash.{Running}
use Rattle.handshake.specs.Frames.{next}
use Rattle.handshake_reader.specs.declared.frames.FirstMessage.TheVariants.{Ready}
use Rattle.handshake_reader.specs.Views.{first_of}
use Rattle.handshake_reader.proofs.Framing.{ready_stands}
use Rattle.model.specs.declared.stage.Stage.{Stage}
use Rattle.model.specs.Endpoint.{End, with_stage, with_buffer}
use Rattle.model.specs.Deeds.{hearing}
use Rattle.model.specs.Tlcp.{tlcp}
use Rattle.end_state.specs.Fronts.{is_whole, passed_front}

-- a message that is ready begins the buffer
pub front_whole : (xs : List ℕ) (t n : ℕ) → Ready t n ≡ first_of (next xs) → 4 + n ≤ length xs
front_whole xs t n e = (ready_stands xs t n e).whole

pub front_there : (xs : List ℕ) (t n : ℕ) → Ready t n ≡ first_of (next xs) → true ≡ is_whole (next xs)
front_there xs t n e = ap is_whole (sym (ready_stands xs t n e).is)

-- it leaves the buffer
pub front_passed : (xs : List ℕ) (t n : ℕ) (s : Stage) (e : End Running) {after : End Running} → Ready t n ≡ first_of (next xs)
    → after ≡ with_buffer (drop (4 + n) xs) (hearing tlcp (take (4 + n) xs ∷ []) (with_stage s e)) → after ≡ passed_front s (next xs) e
front_passed xs t n s e {after} h q =
    let m : take (4 + n) xs ≡ take 4 xs ++ take n (drop 4 xs) = take_two xs 4 n in
    let d : drop (4 + n) xs ≡ drop n (drop 4 xs) = sym (drop-drop n 4 xs) in
    q ∙ ap (λ x. with_buffer x (hearing tlcp (take (4 + n) xs ∷ []) (with_stage s e))) d
    ∙ ap (λ x. with_buffer (drop n (drop 4 xs)) (hearing tlcp (x ∷ []) (with_stage s e))) m
    ∙ ap (λ w. passed_front s w e) (sym (ready_stands xs t n h).is)
  where
    take_two : (xs : List ℕ) (a b : ℕ) → take (a + b) xs ≡ take a xs ++ take b (drop a xs)
    take_two xs a b = same_lists _ _ (search (rules, places)) (λ k d l. grind (arith, places))
