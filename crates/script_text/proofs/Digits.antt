-- Reading digits one by one.
use Rattle.std.proofs.Common.{◌≡◌, ℕ, ◌+◌, ◌<◌, ◌≤◌, List, [], ◌∷◌, length, get_or, drop, Some, None, Option, sym, refl, ap, ◌∙◌}
use Rattle.std.proofs.lemmas.List.{at_drop_more, at_drop_all}
use Rattle.script_text.specs.Numbers.{with_digit, digits_after}

digits_none : (xs : List ℕ) → digits_after None xs ≡ None
digits_none [] = refl
digits_none (c ∷ rest) = refl

step : (text : List ℕ) (i n : ℕ) → i < length text
    → digits_after (Some n) (drop i text) ≡ digits_after (with_digit n (get_or text i 0)) (drop (i + 1) text)
step text i n h = at_drop_more (digits_after (Some n)) text i 0 h

pub digits_more : (text : List ℕ) (i n m : ℕ) {t : Option ℕ} → i < length text
    → with_digit n (get_or text i 0) ≡ Some m → digits_after (Some n) (drop i text) ≡ t → digits_after (Some m) (drop (i + 1) text) ≡ t
digits_more text i n m {t} h e inv =
    ap (λ o. digits_after o (drop (i + 1) text)) (sym e) ∙ sym (step text i n h) ∙ inv

pub digits_stop : (text : List ℕ) (i n : ℕ) {t : Option ℕ} → i < length text
    → with_digit n (get_or text i 0) ≡ None → digits_after (Some n) (drop i text) ≡ t → None ≡ t
digits_stop text i n {t} h e inv =
    sym (sym inv ∙ step text i n h ∙ ap (λ o. digits_after o (drop (i + 1) text)) e ∙ digits_none (drop (i + 1) text))

pub digits_all : (text : List ℕ) (i n : ℕ) {t : Option ℕ} → length text ≤ i
    → digits_after (Some n) (drop i text) ≡ t → Some n ≡ t
digits_all text i n {t} h inv = sym (sym inv ∙ at_drop_all (digits_after (Some n)) text i h)
