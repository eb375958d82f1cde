-- Rule 7: what the integrity field may hold, by its kind. RULES 2.
-- The kind and the field's place are parameters, so that a second reader can cite the rule by itself.
use Rattle.std.specs.Prelude.{ℕ, Bool, false, cond, not, List, take, ◌==◌}
use Rattle.sum.specs.Crc.{crc32}
use Rattle.envelope.specs.Flags.{kind_none, kind_crc}
use Rattle.envelope.specs.Numbers.{four_at}

-- kind none with a field that is not 0, or kind CRC with a field that is not the sum of all bytes before it
unfoldable pub bad_integrity : List ℕ → ℕ → ℕ → Bool
bad_integrity s kind place =
    cond (kind == kind_none) (not (four_at s place == 0))
    (cond (kind == kind_crc) (not (four_at s place == crc32 (take place s))) false)
