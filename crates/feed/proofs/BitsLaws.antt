-- K11 for the feed: what a feed finds in a stream of bytes is bytes, at most 510 of them, so the envelope's laws of few bits hold of it.
-- The bytes kept stay bytes, from the zeros of a new feed on.
use mathlib.Core.List.{List, [], ◌∷◌, ◌++◌}
use mathlib.Core.Path.{refl, ap, sym, subst}
use Prim.Native.Nat.{ℕ, zero, suc, ◌<◌}
use native.Mathlib.Omega.{arith}
use lib.ListN.{set, replicate}
use Rattle.envelope.proofs.DemandLaws.{bytes_take}
use Rattle.envelope.proofs.TwoBitsLaws.{two_bits_anywhere, three_bits_anywhere}
use Rattle.envelope.specs.Promise.{Bytes}
use Rattle.feed.specs.Feeding.{Stand, inside, whole, refused, State, begun, closing, standing, byte_in}
use Rattle.feed.specs.Messages.{Fits, All, none, also}
use Rattle.feed.specs.Stream.{found_by, found_in, Course, streaming}
use Rattle.feed.specs.Told.{told_feed}
use Rattle.feed.specs.TwoBits.{FoundSomewhere, FeedTwoBits, FeedThreeBits}
use Rattle.feed.specs.Verdict.{room, Verdict, more, complete, refused}
use Rattle.feed.proofs.FoundLaws.{all_append, found_are_accepted}
use Rattle.feed.proofs.RunLaws.{Byte, repeats, goes_in, byte, streaming_nil, streaming_cons, as_defined}
use Rattle.feed.proofs.SettlingLaws.{new_is_between}

-- ---- bytes

bytes-set : (k : List ℕ) (n x : ℕ) → x < 256 → Bytes k → Bytes (set k n x)
bytes-set [] n x h b i = b i
bytes-set (y ∷ k) zero x h b zero = h
bytes-set (y ∷ k) zero x h b (suc i) = b (suc i)
bytes-set (y ∷ k) (suc n) x h b zero = b zero
bytes-set (y ∷ k) (suc n) x h b (suc i) = bytes-set k n x h (λ j. b (suc j)) i

bytes_zeros : (n : ℕ) → Bytes (replicate n 0)
bytes_zeros zero i = omega arith
bytes_zeros (suc n) zero = omega arith
bytes_zeros (suc n) (suc i) = bytes_zeros n i

found_bytes : (v : Verdict) (k : List ℕ) (n : ℕ) → Bytes k → All Bytes (found_in (closing v k n 1))
found_bytes more k n b = none
found_bytes (complete f) k n b = also (bytes_take n k b) none
found_bytes (refused f) k n b = none

byte_found : (s : State) (x : ℕ) → x < 256 → Bytes s.kept → All Bytes (found_in (byte_in s x)) × Bytes (byte_in s x).state.kept
byte_found s x h k = go (byte s x)
  where
    still_bytes : (t : Stand) → All Bytes (found_by (standing t) s.kept)
    still_bytes inside = none
    still_bytes whole = none
    still_bytes (refused f) = none

    go : Byte s x → All Bytes (found_in (byte_in s x)) × Bytes (byte_in s x).state.kept
    go (repeats f e b) = rw b (still_bytes s.stand, k)
    go (goes_in v q b o) =
        let after = bytes-set s.kept (begun s) x h k in
        rw b (found_bytes v (set s.kept (begun s) x) (suc (begun s)) after, after)

stream_bytes : (bytes : List ℕ) (s : State) → Bytes bytes → Bytes s.kept → All Bytes (streaming s bytes).found
stream_bytes [] s h k = rw (streaming_nil s) none
stream_bytes (x ∷ l) s h k =
    let b = byte_found s x (h zero) k in
    rw (streaming_cons s x l _ refl)
    (all_append (found_in (byte_in s x)) (streaming (byte_in s x).state l).found b.0 (stream_bytes l (byte_in s x).state (λ i. h (suc i)) b.1))

-- ---- what was found

all_at : {P : List ℕ → Type 0} (before : List (List ℕ)) (m : List ℕ) (behind : List (List ℕ)) → All P (before ++ (m ∷ behind)) → P m
all_at [] m behind (also p ps) = p
all_at (n ∷ before) m behind (also p ps) = all_at before m behind ps

found_fits : (m : List ℕ) → FoundSomewhere m → Fits m
found_fits m w =
    all_at w.before m w.behind
    (subst (All Fits) w.found (found_are_accepted w.feed w.stream w.came (new_is_between w.feed w.new).roomy w.calls))

found_is_bytes : (m : List ℕ) → FoundSomewhere m → Bytes m
found_is_bytes m w =
    let kept : Bytes w.feed.kept = rw (ap (λ (s : State). s.kept) w.new) (bytes_zeros room) in
    let d = as_defined w.feed w.stream w.came w.calls in
    let all : All Bytes w.came.found = subst (All Bytes) (sym (ap (λ (c : Course). c.found) d)) (stream_bytes w.stream (told_feed w.feed) w.bytes kept) in
    all_at w.before m w.behind (subst (All Bytes) w.found all)

pub feed_two_bits : FeedTwoBits
feed_two_bits s t fs ft l ds dt =
    two_bits_anywhere s t (found_is_bytes s fs) (found_is_bytes t ft) l (found_fits s fs).short ds dt

pub feed_three_bits : FeedThreeBits
feed_three_bits s t fs ft l ds dt =
    three_bits_anywhere s t (found_is_bytes s fs) (found_is_bytes t ft) l (found_fits s fs).short ds dt
