-- The seven rules of reading, each by itself and with its place, as far as the bytes reach; the rules are the first reader's own, its order is not here. RULES 2.
-- `s` is the list of the bytes lent. Past the end a byte counts as 0, and no rule that looks there is judged.
use Rattle.std.specs.Prelude.{ℕ, ◌+◌, Bool, cond, ◌&&◌, List, [], ◌∷◌, leb, length}
use Rattle.envelope.specs.Addresses.{bad_addresses}
use Rattle.envelope.specs.Fields.{Refusal, refusal_by}
use Rattle.envelope.specs.Flags.{kind_of, bad_flags}
use Rattle.envelope.specs.Heading.{flags_of, variable_size, field_place, announced, wrong_version, bad_variable_size}
use Rattle.envelope.specs.IntegrityField.{bad_integrity}
use Rattle.envelope.specs.Layout.{version_place, flags_place, data_length_place, variable_size_place, header_size, addresses_place, smallest_variable, largest_variable}
use Rattle.envelope.specs.Reading.{too_short, wrong_length}

-- what became of a rule; a broken one has its place
pub data RuleAnswer : Type 0 where
  kept : RuleAnswer
  broken : (place : ℕ) → RuleAnswer
  not_judged : RuleAnswer

abbrev pub judged : (place : ℕ) → Bool → RuleAnswer
judged place bad = cond bad (broken place) kept

-- judged only where its bytes are there
abbrev pub judged_if : Bool → (place : ℕ) → Bool → RuleAnswer
judged_if there place bad = cond there (judged place bad) not_judged

-- the first n bytes are there
abbrev pub reaches : List ℕ → ℕ → Bool
reaches s n = leb n (length s)

-- 1: always judged
unfoldable pub least_rule : List ℕ → RuleAnswer
least_rule s = judged (length s) (too_short s)

-- 2: byte 0
unfoldable pub version_rule : List ℕ → RuleAnswer
version_rule s = judged_if (reaches s (version_place + 1)) version_place (wrong_version s)

-- 3: byte 4
unfoldable pub flags_rule : List ℕ → RuleAnswer
flags_rule s = judged_if (reaches s (flags_place + 1)) flags_place (bad_flags (flags_of s))

-- 4: byte 16
unfoldable pub variable_size_rule : List ℕ → RuleAnswer
variable_size_rule s = judged_if (reaches s header_size) variable_size_place (bad_variable_size (variable_size s))

-- 5: bytes 5 to 7 and 16
unfoldable pub length_rule : List ℕ → RuleAnswer
length_rule s = judged_if (reaches s header_size) data_length_place (wrong_length s)

-- 6: bytes 21 to 16 + V, for V from 6 to 132
unfoldable pub addresses_rule : List ℕ → RuleAnswer
addresses_rule s =
    judged_if (leb smallest_variable (variable_size s) && (leb (variable_size s) largest_variable && reaches s (header_size + variable_size s)))
    addresses_place (bad_addresses s (variable_size s))

-- 7: the four bytes from place 17 + V + D, and all before them
unfoldable pub integrity_rule : List ℕ → RuleAnswer
integrity_rule s = judged_if (reaches s (announced s)) (field_place s) (bad_integrity s (kind_of (flags_of s)) (field_place s))

-- the whole answer
pub record RuleAnswers : Type 0 where
  pub least : RuleAnswer
  pub version : RuleAnswer
  pub flags : RuleAnswer
  pub variable_size : RuleAnswer
  pub length : RuleAnswer
  pub addresses : RuleAnswer
  pub integrity : RuleAnswer

abbrev pub judging : List ℕ → RuleAnswers
judging s =
    record {
      least = least_rule s;
      version = version_rule s;
      flags = flags_rule s;
      variable_size = variable_size_rule s;
      length = length_rule s;
      addresses = addresses_rule s;
      integrity = integrity_rule s;
    }

-- ---- what is broken

-- a broken rule, as the refusal that reading would give, in front of the others
abbrev pub listed : RuleAnswer → (number : ℕ) → List Refusal → List Refusal
listed kept number rest = rest
listed (broken place) number rest = refusal_by number place ∷ rest
listed not_judged number rest = rest

-- the broken rules, their numbers ascending
abbrev pub broken_rules : RuleAnswers → List Refusal
broken_rules j =
    listed j.least 1
    (listed j.version 2
    (listed j.flags 3
    (listed j.variable_size 4
    (listed j.length 5
    (listed j.addresses 6
    (listed j.integrity 7
    []))))))

-- the first of them, which has the lowest number
pub data LowestAnswer : Type 0 where
  none_broken : LowestAnswer
  lowest : Refusal → LowestAnswer

abbrev pub lowest_of : List Refusal → LowestAnswer
lowest_of [] = none_broken
lowest_of (r ∷ rest) = lowest r
