-- Bytes and big-endian numbers. `s` is the list of the bytes lent, and a place counts from 0.
-- Past the end a byte counts as 0; no rule looks there.
use Rattle.std.specs.Prelude.{◌≡◌, ℕ, ◌+◌, ◌*◌, ◌/◌, ◌%◌, List, [], ◌∷◌, slice_index}

abbrev pub byte_at : List ℕ → ℕ → ℕ
byte_at s i = slice_index s i

-- the number of two, three and four bytes, the first the highest
abbrev pub two_bytes : ℕ → ℕ → ℕ
two_bytes a b = a * 256 + b

abbrev pub three_bytes : ℕ → ℕ → ℕ → ℕ
three_bytes a b c = a * 65536 + b * 256 + c

abbrev pub four_bytes : ℕ → ℕ → ℕ → ℕ → ℕ
four_bytes a b c d = a * 16777216 + b * 65536 + c * 256 + d

-- the number that begins at a place
unfoldable pub two_at : List ℕ → ℕ → ℕ
two_at s i = two_bytes (byte_at s i) (byte_at s (i + 1))

unfoldable pub three_at : List ℕ → ℕ → ℕ
three_at s i = three_bytes (byte_at s i) (byte_at s (i + 1)) (byte_at s (i + 2))

unfoldable pub four_at : List ℕ → ℕ → ℕ
four_at s i = four_bytes (byte_at s i) (byte_at s (i + 1)) (byte_at s (i + 2)) (byte_at s (i + 3))

-- a number's two, three and four bytes, the highest first
abbrev pub in_two : ℕ → List ℕ
in_two n = n / 256 ∷ n % 256 ∷ []

abbrev pub in_three : ℕ → List ℕ
in_three n = n / 65536 ∷ n / 256 % 256 ∷ n % 256 ∷ []

abbrev pub in_four : ℕ → List ℕ
in_four n = n / 16777216 ∷ n / 65536 % 256 ∷ n / 256 % 256 ∷ n % 256 ∷ []

-- what the three readers by value promise
abbrev pub TwoBytes : ℕ → ℕ → ℕ → Type 0
TwoBytes a b r = r ≡ two_bytes a b

abbrev pub ThreeBytes : ℕ → ℕ → ℕ → ℕ → Type 0
ThreeBytes a b c r = r ≡ three_bytes a b c

abbrev pub FourBytes : ℕ → ℕ → ℕ → ℕ → ℕ → Type 0
FourBytes a b c d r = r ≡ four_bytes a b c d

-- what the two public writers promise
abbrev pub TwoDigits : ℕ → List ℕ → Type 0
TwoDigits n r = r ≡ in_two n

abbrev pub FourDigits : ℕ → List ℕ → Type 0
FourDigits n r = r ≡ in_four n
