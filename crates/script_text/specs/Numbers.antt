-- The numbers of scripts: decimal ones, and suites of four hexadecimal digits.
use Rattle.std.specs.Prelude.{ℕ, ◌+◌, ◌-◌, ◌*◌, cond, ◌||◌, List, [], ◌∷◌, length, Some, None, Option, ◌==◌, nat_lt, slice_index}
use Rattle.hex_text.specs.Hex.{digit, pair}

-- the greatest number that a script may hold
abbrev pub limit : ℕ
limit = 1048576

-- a number with one digit more; none at a character that is no digit, and none above the limit
abbrev pub with_digit : ℕ → ℕ → Option ℕ
with_digit n c =
    cond (nat_lt c 48 || nat_lt 57 c) None (cond (nat_lt limit (10 * n + (c - 48))) None (Some (10 * n + (c - 48))))

-- the number that digits stand for behind those that were read
abbrev pub digits_after : Option ℕ → List ℕ → Option ℕ
digits_after o [] = o
digits_after None (c ∷ rest) = None
digits_after (Some n) (c ∷ rest) = digits_after (with_digit n c) rest

-- the number that a text stands for, which has at least one digit
abbrev pub number_of : List ℕ → Option ℕ
number_of text = cond (length text == 0) None (digits_after (Some 0) text)

-- two octets as one number, the higher first
abbrev pub two_octets : Option ℕ → Option ℕ → Option ℕ
two_octets None low = None
two_octets (Some high) None = None
two_octets (Some high) (Some low) = Some (256 * high + low)

-- the suite that four hexadecimal digits stand for
abbrev pub suite_of : List ℕ → Option ℕ
suite_of text =
    cond (length text == 4)
    (two_octets (pair (digit (slice_index text 0)) (digit (slice_index text 1))) (pair (digit (slice_index text 2)) (digit (slice_index text 3))))
    None
