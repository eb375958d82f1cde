-- Live records and their names: two live records pair up by type and message number. RULES 5 (K4, K7).
-- A live record is good and not retired.
use Rattle.std.specs.Prelude.{ℕ, zero, suc, Bool, false, not, ◌&&◌, ◌||◌}
use Rattle.golden.specs.Finding.{NameFields, has_name, name_of}
use Rattle.golden.specs.Record.{Judged, good, bad}

-- a live record of that name
abbrev pub is_named : NameFields → Judged → Bool
is_named name (good retired fields) = not retired && has_name name fields
is_named name (bad r) = false

-- two live records of one name
abbrev pub pairs : Judged → Judged → Bool
pairs (good retired fields) other = not retired && is_named (name_of fields) other
pairs (bad r) other = false

-- one of the numbers below n passes
unfoldable pub any_below : (ℕ → Bool) → ℕ → Bool
any_below passes zero = false
any_below passes (suc n) = passes n || any_below passes n
