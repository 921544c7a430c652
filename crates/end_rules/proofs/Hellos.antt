-- Hellos that were read: their randoms, and what they lead to.
use Rattle.std.proofs.Common.{◌≡◌, ℕ, ◌+◌, ◌<◌, ◌≤◌, Bool, true, false, cond, leb, List, [], ◌∷◌, ◌++◌, length, get_or, drop, Some, None, Ok, Err, Option, sym, ap, ◌∙◌, arith}
use Rattle.std.specs.Option.{option_map}
use Rattle.std.specs.List.{slice_get}
use Rattle.std.proofs.lemmas.List.{at_drop_more, at_drop_all, drop_all, append-nil}
use Rattle.std.proofs.lemmas.Option.{slice_get-get_or}
use Rattle.octets.specs.Laid.{laid}
use Rattle.octets.proofs.Lays.{laid_first}
use Rattle.records.specs.declared.fault.Fault.{Fault}
use Rattle.records.specs.declared.fault.Layer.TheVariants.{Message as AtMessage}
use Rattle.records.specs.Faults.{alert_number}
use Rattle.handshake.specs.Parts.{among, words, versioned, part, part1, part2}
use Rattle.handshake.specs.Hellos.{ClientHello, ServerHello, client_hello_fits, server_choice, read_client_hello, read_server_hello}
use Rattle.handshake.specs.Kinds.{Parts}
use Rattle.handshake.specs.Faults.{version_fault, layout_fault, or_fault}
use Rattle.handshake.proofs.Cutting.{part_lengths}
use Rattle.handshake.proofs.WriteBack.{went, passed}
use Rattle.model.specs.Messages.{first_shared}
use Rattle.model.specs.Deeds.{Deed, raises}

-- ---- a random has 32 octets
client_random : (r i s k : List ℕ) (b : Bool) (h : ClientHello) → cond b (Some (record { random = r; session = i; suites = s; compressions = k })) None ≡ Some h
    → length r ≡ 32 → length h.random ≡ 32
client_random r i s k true h e l = let n : r ≡ h.random = cc in ap length (sym n) ∙ l
client_random r i s k false h e l = let z : ◌≡◌ {A = ℕ} 0 1 = cc in absurd (omega arith)

pub client_random_32 : (xs : List ℕ) (h : ClientHello) → read_client_hello xs ≡ Some h → length h.random ≡ 32
unfolding read_client_hello
client_random_32 xs h e =
    went (part 2 xs) _ h e (λ v a p e1.
    went (part 32 a) _ h e1 (λ r b q e2.
    went (part1 b) _ h e2 (λ i c t e3.
    went (part2 c) _ h e3 (λ s d u e4.
    went (part1 d) _ h e4 (λ k f w e5. client_random r i (words s) k (client_hello_fits v i s k f) h e5 (part_lengths 32 a r b q).0)))))

server_random : (r i c : List ℕ) (h : ServerHello) → server_choice r i c ≡ Some h → length r ≡ 32 → length h.random ≡ 32
server_random r i [] h e l = let z : ◌≡◌ {A = ℕ} 0 1 = cc in absurd (omega arith)
server_random r i (a ∷ []) h e l = let z : ◌≡◌ {A = ℕ} 0 1 = cc in absurd (omega arith)
server_random r i (a ∷ b ∷ []) h e l = let z : ◌≡◌ {A = ℕ} 0 1 = cc in absurd (omega arith)
server_random r i (a ∷ b ∷ c ∷ []) h e l =
    let y = (passed (leb (length i) 32) _ h e).1 in
    let n : r ≡ h.random = cc in
    ap length (sym n) ∙ l
server_random r i (a ∷ b ∷ c ∷ x ∷ xs) h e l = let z : ◌≡◌ {A = ℕ} 0 1 = cc in absurd (omega arith)

pub server_random_32 : (xs : List ℕ) (h : ServerHello) → read_server_hello xs ≡ Some h → length h.random ≡ 32
unfolding read_server_hello
server_random_32 xs h e =
    went (part 2 xs) _ h e (λ v a p e1.
    went (part 32 a) _ h e1 (λ r b q e2.
    went (part1 b) _ h e2 (λ i c t e3. server_random r i c h (passed (versioned v) (server_choice r i c) h e3).1 (part_lengths 32 a r b q).0)))

-- 32 octets laid over as many are themselves
pub whole_laid : (o l : List ℕ) → length o ≡ 32 → length l ≡ 32 → laid o 0 l ≡ l
whole_laid o l p q =
    laid_first o l (omega arith) ∙ ap (λ x. l ++ x) (drop_all (length l) o (omega arith)) ∙ append-nil l

-- ---- the first suite that is allowed, place by place
module _ (allowed ws : List ℕ) (i w : ℕ) {t : Option ℕ} (inv : first_shared (drop i ws) allowed ≡ t) (h : i < length ws) where
  first_is : first_shared (drop i ws) allowed ≡ cond (among (get_or ws i 0) allowed) (Some (get_or ws i 0)) (first_shared (drop (i + 1) ws) allowed)
  first_is = at_drop_more (λ xs. first_shared xs allowed) ws i 0 h

  is_there : Some w ≡ slice_get ws i → w ≡ get_or ws i 0
  is_there e = let n = slice_get-get_or ws i 0 h in cc

  pub shared : Some w ≡ slice_get ws i → among w allowed ≡ true → Some w ≡ t
  shared e a =
      let s = is_there e in
      let b : among (get_or ws i 0) allowed ≡ true = ap (λ x. among x allowed) (sym s) ∙ a in
      ap Some s ∙ sym (first_is ∙ ap (λ x. cond x (Some (get_or ws i 0)) (first_shared (drop (i + 1) ws) allowed)) b) ∙ inv

  pub not_shared : Some w ≡ slice_get ws i → among w allowed ≡ false → first_shared (drop (i + 1) ws) allowed ≡ t
  not_shared e a =
      let s = is_there e in
      let b : among (get_or ws i 0) allowed ≡ false = ap (λ x. among x allowed) (sym s) ∙ a in
      sym (first_is ∙ ap (λ x. cond x (Some (get_or ws i 0)) (first_shared (drop (i + 1) ws) allowed)) b) ∙ inv

pub none_shared : (allowed ws : List ℕ) (i : ℕ) {t : Option ℕ} → first_shared (drop i ws) allowed ≡ t → length ws ≤ i → None ≡ t
none_shared allowed ws i inv h = sym (at_drop_all (λ xs. first_shared xs allowed) ws i h) ∙ inv

pub some_there : (ws : List ℕ) (i : ℕ) {A : Type 0} → i < length ws → None ≡ slice_get ws i → A
some_there ws i h e = let n = slice_get-get_or ws i 0 h in let z : ◌≡◌ {A = ℕ} 0 1 = cc in absurd (omega arith)

-- ---- reading a hello: its version first, then its layout
module _ {H : Type 0} (wrap : H → Parts) (inj : (a b : H) → wrap a ≡ wrap b → a ≡ b) (next : Option H → Deed) (none : next None ≡ raises AtMessage 50) where
  -- a fault is that of the version or of the layout
  pub stopped : (b : Bool) (o : Option H) (t : Fault) → Err t ≡ cond b (Err version_fault) (or_fault (option_map wrap o) layout_fault)
      → raises t.layer (alert_number t.alert) ≡ cond b (raises AtMessage 70) (next o)
  stopped true o t e = let s : t ≡ version_fault = cc in ap (λ x. raises x.layer (alert_number x.alert)) s
  stopped false None t e = let s : t ≡ layout_fault = cc in ap (λ x. raises x.layer (alert_number x.alert)) s ∙ sym none
  stopped false (Some h) t e = let z : ◌≡◌ {A = ℕ} 0 1 = cc in absurd (omega arith)

  -- what was read is what is there
  pub came : (b : Bool) (o : Option H) (h : H) → Ok (wrap h) ≡ cond b (Err version_fault) (or_fault (option_map wrap o) layout_fault)
      → (o ≡ Some h) × (cond b (raises AtMessage 70) (next o) ≡ next (Some h))
  came true o h e = let z : ◌≡◌ {A = ℕ} 0 1 = cc in absurd (omega arith)
  came false None h e = let z : ◌≡◌ {A = ℕ} 0 1 = cc in absurd (omega arith)
  came false (Some k) h e =
      let w : wrap k ≡ wrap h = cc in
      let s = inj k h w in
      (ap Some s, ap (λ x. next (Some x)) s)
