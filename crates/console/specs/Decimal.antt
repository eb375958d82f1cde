-- A number as an operator types it: 1 to 20 decimal digits and nothing else, and no more than the largest that its argument takes.
-- Laws in proofs/DecimalLaws: std reads digits, and their value, as these do.
use Rattle.std.specs.List.{list_all}
use Rattle.std.specs.Prelude.{◌≡◌, ℕ, ◌+◌, ◌-◌, ◌*◌, Bool, cond, ◌&&◌, List, [], ◌∷◌, length, nat_le, Option, Some, None}

-- ASCII 0 to 9
abbrev pub is_digit : ℕ → Bool
is_digit b = nat_le 48 b && nat_le b 57

abbrev pub all_digits : List ℕ → Bool
all_digits s = list_all is_digit s

abbrev pub well_formed : List ℕ → Bool
well_formed s = nat_le 1 (length s) && (nat_le (length s) 20 && all_digits s)

-- the number that n is continued to by further digits
unfoldable pub continued : ℕ → List ℕ → ℕ
continued n [] = n
continued n (b ∷ s) = continued (n * 10 + (b - 48)) s

abbrev pub value_of : List ℕ → ℕ
value_of s = continued 0 s

pub data Parsed : Type 0 where
  parsed : ℕ → Parsed
  refused : Parsed

-- a number that is no more than the largest
abbrev pub up_to : ℕ → ℕ → Parsed
up_to most n = cond (nat_le n most) (parsed n) refused

abbrev pub decimal : ℕ → List ℕ → Parsed
decimal most s = cond (well_formed s) (up_to most (value_of s)) refused

-- the code's answer, told in these
abbrev pub told_decimal : Option ℕ → Parsed
told_decimal (Some n) = parsed n
told_decimal None = refused

-- what `decimal_of` promises
abbrev pub Parses : ℕ → List ℕ → Option ℕ → Type 0
Parses most s r = told_decimal r ≡ decimal most s
