-- Sequence: what std reads from the bits of the wrapped difference is the signed distance of the definition.
use Rattle.std.proofs.Common.{◌≡◌, ℕ, ◌^◌, ◌<◌, Bool, true, false, ltb, refl, w32, to_z, lt-ltb}
use Rattle.envelope.specs.Sequence.{signed}

pub signed_is : (d : ℕ) → d < 2 ^ 32 → to_z w32 d ≡ signed d
signed_is d h = go (ltb d (2 ^ 31)) refl
  where
    go : (c : Bool) → ltb d (2 ^ 31) ≡ c → to_z w32 d ≡ signed d
    go true e = rw e
    go false e = rw (e, lt-ltb d (2 ^ 32) h)
