-- A look at the suites of a list, place by place.
use Rattle.std.proofs.Common.{◌≡◌, ℕ, ◌+◌, ◌<◌, ◌≤◌, Bool, true, false, not, ◌&&◌, List, length, get_or, drop, sym, ap, ◌∙◌}
use Rattle.std.proofs.lemmas.List.{at_drop_more, at_drop_all}
use Rattle.handshake.specs.Parts.{among}
use Rattle.model.specs.Refusals.{distinct, all_served}

-- ---- every suite served
module _ (serves : ℕ → Bool) (ss : List ℕ) (i : ℕ) {t : Bool} (inv : all_served serves (drop i ss) ≡ t) where
  module _ (h : i < length ss) where
    here : all_served serves (drop i ss) ≡ serves (get_or ss i 0) && all_served serves (drop (i + 1) ss)
    here = at_drop_more (all_served serves) ss i 0 h

    pub unserved : serves (get_or ss i 0) ≡ false → false ≡ t
    unserved e = sym (here ∙ ap (λ b. b && all_served serves (drop (i + 1) ss)) e) ∙ inv

    pub served_more : serves (get_or ss i 0) ≡ true → all_served serves (drop (i + 1) ss) ≡ t
    served_more e = sym (here ∙ ap (λ b. b && all_served serves (drop (i + 1) ss)) e) ∙ inv

  pub served_all : length ss ≤ i → true ≡ t
  served_all h = sym (at_drop_all (all_served serves) ss i h) ∙ inv

-- ---- every suite once
module _ (ss : List ℕ) (i : ℕ) {t : Bool} (inv : distinct (drop i ss) ≡ t) where
  module _ (h : i < length ss) where
    first_is : distinct (drop i ss) ≡ not (among (get_or ss i 0) (drop (i + 1) ss)) && distinct (drop (i + 1) ss)
    first_is = at_drop_more distinct ss i 0 h

    pub repeated : among (get_or ss i 0) (drop (i + 1) ss) ≡ true → false ≡ t
    repeated e = sym (first_is ∙ ap (λ b. not b && distinct (drop (i + 1) ss)) e) ∙ inv

    pub distinct_more : among (get_or ss i 0) (drop (i + 1) ss) ≡ false → distinct (drop (i + 1) ss) ≡ t
    distinct_more e = sym (first_is ∙ ap (λ b. not b && distinct (drop (i + 1) ss)) e) ∙ inv

  pub distinct_all : length ss ≤ i → true ≡ t
  distinct_all h = sym (at_drop_all distinct ss i h) ∙ inv
