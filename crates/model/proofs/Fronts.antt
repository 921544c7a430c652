-- The message at the front of the buffer, and what small tests say.
use Rattle.std.proofs.Common.{◌≡◌, ℕ, ◌+◌, ◌*◌, ◌≤◌, Bool, true, false, cond, leb, List, [], ◌∷◌, ◌++◌, length, take, drop, sym, refl, ap, ◌∙◌, true≢false, arith, take-append-drop, length-take-le, leb-true}
use Rattle.handshake.specs.Parts.{is_none}
use Rattle.handshake.specs.Frames.{message_limit, Next, not_ready, too_long, ready, next, next_of}
use Rattle.model.specs.declared.stage.Stage.{Stage}
use Rattle.model.specs.declared.stage.Stage.TheVariants.{AskClientRandom, AwaitServerHello, AwaitCertificate, AskCertificates, AwaitServerKeyExchange, AskSignature, AwaitServerHelloDone, AskWrapping, ClientAwaitChange, ClientAwaitFinished, AwaitClientHello, AskServerFlight, AwaitClientKeyExchange, AskUnwrapping, ServerAwaitChange, ServerAwaitFinished, Open, Closed, Dead}
use Rattle.model.specs.Stages.{asking, is_open}

pub never : {A : Type 0} → true ≡ false → A
never q = absurd (true≢false q)

abbrev got : Next → Bool
got not_ready = false
got too_long = false
got (ready t m x rest) = true

-- ---- the message at the front of the buffer
pub record Front (xs : List ℕ) (t : ℕ) (m x rest : List ℕ) : Type 0 where
  pub a : ℕ
  pub b : ℕ
  pub c : ℕ
  pub message_is : m ≡ t ∷ (a ∷ (b ∷ (c ∷ x)))
  pub all_is : xs ≡ m ++ rest
  pub length_is : length x ≡ a * 65536 + b * 256 + c
  pub not_long : length x ≤ message_limit

next_of_is : (t a b c n : ℕ) (xs : List ℕ) (t' : ℕ) (m x rest : List ℕ) → n ≡ a * 65536 + b * 256 + c → next_of t a b c n xs ≡ ready t' m x rest → Front (t ∷ (a ∷ (b ∷ (c ∷ xs)))) t' m x rest
next_of_is t a b c n xs t' m x rest e q = go (leb n message_limit) (leb n (length xs)) refl refl q
  where
    go : (u v : Bool) → leb n message_limit ≡ u → leb n (length xs) ≡ v → cond u (cond v (ready t (t ∷ (a ∷ (b ∷ (c ∷ take n xs)))) (take n xs) (drop n xs)) not_ready) too_long ≡ ready t' m x rest → Front (t ∷ (a ∷ (b ∷ (c ∷ xs)))) t' m x rest
    go true true u v p =
        let h = leb-true n (length xs) v in let k = leb-true n message_limit u in
        let i : t ≡ t' = cc in let xi : take n xs ≡ x = cc in let ri : drop n xs ≡ rest = cc in
        let mi : t ∷ (a ∷ (b ∷ (c ∷ take n xs))) ≡ m = cc in
        let l : length x ≡ n = rw (← xi) (length-take-le n xs h) in
        record {
          a = a;
          b = b;
          c = c;
          message_is = sym mi ∙ ap (λ z. z ∷ (a ∷ (b ∷ (c ∷ take n xs)))) i ∙ ap (λ z. t' ∷ (a ∷ (b ∷ (c ∷ z)))) xi;
          all_is = rw (← mi, ← ri) (ap (λ z. t ∷ (a ∷ (b ∷ (c ∷ z)))) (sym (take-append-drop n xs)));
          length_is = l ∙ e;
          not_long = rw l k;
        }
    go true false u v p = never (sym (ap got p))
    go false v' u v p = never (sym (ap got p))

pub next_is : (xs : List ℕ) (t : ℕ) (m x rest : List ℕ) → next xs ≡ ready t m x rest → Front xs t m x rest
next_is [] t m x rest q = never (sym (ap got q))
next_is (t' ∷ []) t m x rest q = never (sym (ap got q))
next_is (t' ∷ (a ∷ [])) t m x rest q = never (sym (ap got q))
next_is (t' ∷ (a ∷ (b ∷ []))) t m x rest q = never (sym (ap got q))
next_is (t' ∷ (a ∷ (b ∷ (c ∷ xs)))) t m x rest q = next_of_is t' a b c _ xs t m x rest refl q

pub none_is : (xs : List ℕ) → is_none xs ≡ true → xs ≡ []
none_is [] q = refl
none_is (x ∷ xs) q = never (sym q)

pub open_is : (t : Stage) → is_open t ≡ true → t ≡ Open
open_is t q = grind arith

-- ---- only question 1 leads to no death
abbrev pub can_die : Stage → Bool
can_die AskClientRandom = false
can_die AwaitServerHello = true
can_die AwaitCertificate = true
can_die AskCertificates = true
can_die AwaitServerKeyExchange = true
can_die AskSignature = true
can_die AwaitServerHelloDone = true
can_die AskWrapping = true
can_die ClientAwaitChange = true
can_die ClientAwaitFinished = true
can_die AwaitClientHello = true
can_die AskServerFlight = true
can_die AwaitClientKeyExchange = true
can_die AskUnwrapping = true
can_die ServerAwaitChange = true
can_die ServerAwaitFinished = true
can_die Open = true
can_die Closed = true
can_die Dead = true

pub not_asking_dies : (t : Stage) → asking t ≡ false → can_die t ≡ true
not_asking_dies t q = grind arith
