-- The questions of the key card by their numbers.
use Rattle.std.specs.Prelude.{◌≡◌, ℕ, cond, Some, None, Option, ◌==◌, refl}
use Rattle.model.specs.declared.question.Question.{Question}
use Rattle.model.specs.declared.question.Question.TheVariants.{ClientRandom, ServerFlight, CheckCertificates, CheckSignature, WrapPremaster, UnwrapPremaster}
use Rattle.model.specs.Stages.{question_number}

-- the question that has a number, if one has
abbrev pub question_of : ℕ → Option Question
question_of n =
    cond (n == 1) (Some ClientRandom)
    (cond (n == 2) (Some ServerFlight)
    (cond (n == 3) (Some CheckCertificates)
    (cond (n == 4) (Some CheckSignature)
    (cond (n == 5) (Some WrapPremaster) (cond (n == 6) (Some UnwrapPremaster) None)))))

-- each question is found by its own number
pub found_by_number : (q : Question) → question_of (question_number q) ≡ Some q
found_by_number ClientRandom = refl
found_by_number ServerFlight = refl
found_by_number CheckCertificates = refl
found_by_number CheckSignature = refl
found_by_number WrapPremaster = refl
found_by_number UnwrapPremaster = refl
