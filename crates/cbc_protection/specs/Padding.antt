-- Padding to whole blocks of 16 octets: an octet p, and p octets of value p before it.
use Rattle.std.specs.Prelude.{ℕ, ◌+◌, ◌-◌, ◌%◌, Bool, ◌&&◌, List, ◌++◌, length, take, drop, replicate, nat_le, slice_index}
use Rattle.octets.specs.Octets.{same}

-- p + 1 octets of value p
abbrev pub pad : ℕ → List ℕ
pad p = replicate (p + 1) p

-- the smallest p that fills a block behind n octets
abbrev pub least_pad : ℕ → ℕ
least_pad n = 15 - n % 16

-- what a writer encrypts
unfoldable pub padded : List ℕ → List ℕ
padded xs = xs ++ pad (least_pad (length xs))

-- the last octet of a text tells p
abbrev pub told_pad : List ℕ → ℕ
told_pad text = slice_index text (length text - 1)

-- a reader takes any p up to 255, if the text has room for it and a MAC, and every one of the last p + 1 octets is p
abbrev pub well_padded : List ℕ → Bool
well_padded text = nat_le (told_pad text + 33) (length text) && same (drop (length text - (told_pad text + 1)) text) (pad (told_pad text))

-- the content and the MAC of 32 octets, before the padding
abbrev pub content_size : List ℕ → ℕ
content_size text = length text - (told_pad text + 33)

abbrev pub content_of : List ℕ → List ℕ
content_of text = take (content_size text) text

abbrev pub mac_of : List ℕ → List ℕ
mac_of text = take 32 (drop (content_size text) text)
