-- Rule 6: source and destination, each with its closing zero, are exactly the region, the V - 4 bytes after TTL and QoS. RULES 1 and 2.
-- Laws in proofs/AddressLaws: a scan for zeros decides it, and a region splits at one place at most.
use Rattle.std.specs.Prelude.{ℕ, zero, suc, ◌+◌, ◌-◌, Bool, false, cond, not, ◌&&◌, ◌||◌, List, [], ◌∷◌, length, take, drop, ◌==◌, nat_le}
use Rattle.envelope.specs.Layout.{largest_address, routing_size, addresses_place}

-- the last byte is a zero, and no other is
unfoldable pub ends_in_its_only_zero : List ℕ → Bool
ends_in_its_only_zero [] = false
ends_in_its_only_zero (b ∷ []) = b == 0
ends_in_its_only_zero (b ∷ c ∷ rest) = not (b == 0) && ends_in_its_only_zero (c ∷ rest)

-- an address: at most 64 bytes with its closing zero, and no other zero
unfoldable pub is_address : List ℕ → Bool
is_address a = nat_le (length a) largest_address && ends_in_its_only_zero a

-- the first n bytes are an address, and so are the others
unfoldable pub splits_at : List ℕ → ℕ → Bool
splits_at region n = is_address (take n region) && is_address (drop n region)

unfoldable pub splits_up_to : List ℕ → ℕ → Bool
splits_up_to region zero = splits_at region zero
splits_up_to region (suc n) = splits_at region (suc n) || splits_up_to region n

-- two addresses, end to end
abbrev pub two_addresses : List ℕ → Bool
two_addresses region = splits_up_to region (length region)

abbrev pub region_of : List ℕ → ℕ → List ℕ
region_of s v = take (v - routing_size) (drop addresses_place s)

-- rule 6, of the bytes and V
unfoldable pub bad_addresses : List ℕ → ℕ → Bool
bad_addresses s v = not (v == 0) && not (two_addresses (region_of s v))

-- how many bytes stand before the first zero: all, where there is none
unfoldable pub first_zero : List ℕ → ℕ
first_zero [] = 0
first_zero (b ∷ bs) = cond (b == 0) 0 (suc (first_zero bs))

-- the sizes of the two ends of a region, without their zeros
abbrev pub source_size : List ℕ → ℕ
source_size region = first_zero region

unfoldable pub destination_size : List ℕ → ℕ
destination_size region = first_zero (drop (source_size region + 1) region)
