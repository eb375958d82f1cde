-- A frame at the front of a capture is found whole, and something is found in any.
-- A data length of a frame lies in its first twelve bytes, so that what follows it does not change it.
use mathlib.Core.Bool.{Bool, true, false, cond}
use mathlib.Core.List.{List, [], ◌∷◌, ◌++◌}
use mathlib.Core.Path.{◌≡◌, refl, ap, ap₂, sym, ◌∙◌}
use Prim.Native.Nat.{ℕ, ◌+◌, ◌≤◌, ◌<◌}
use native.Mathlib.Omega.{arith}
use borrow.Author.Tests.{le-ltb, ltb-false}
use lib.Dec.{ltb}
use lib.ListN.{length, length-append, get_or-append}
use lib.Seq.{take-append_seam, drop-append_seam}
use Rattle.envelope.proofs.RuleLaws.{four_at_is}
use Rattle.envelope.specs.Numbers.{byte_at, four_bytes}
use Rattle.frame.specs.Capturing.{smaller, first_size, is_frame, end_to_end, taken_apart, FirstIsTheFrame, CaptureComesApart, MissingIsRefused, FirstIsThere}
use Rattle.frame.specs.Layout.{length_place, least_size}
use Rattle.frame.specs.Unwrapping.{type_of, data_length, unwrapping}
use Rattle.frame.proofs.UnwrapLaws.{length_whole, opened}

front_byte : (s rest : List ℕ) (i : ℕ) → i < length s → byte_at (s ++ rest) i ≡ byte_at s i
front_byte s rest i h = get_or-append s rest 0 i h

same_length : (s rest : List ℕ) → least_size ≤ length s → data_length (s ++ rest) ≡ data_length s
same_length s rest h =
    four_at_is (s ++ rest) length_place
    ∙ (λ i. four_bytes (front_byte s rest 8 (omega arith) i) (front_byte s rest 9 (omega arith) i) (front_byte s rest 10 (omega arith) i) (front_byte s rest 11 (omega arith) i))
    ∙ sym (four_at_is s length_place)

smaller_second : (a b : ℕ) → b ≤ a → smaller a b ≡ b
smaller_second a b h = rw (le-ltb a b h)

-- ---- what is found

pub first_is_the_frame : FirstIsTheFrame
unfolding first_size
first_is_the_frame s rest e =
    let whole = (opened s e).frame in
    let long = whole.long in
    let size : least_size + data_length s ≡ length s = length_whole (type_of s) (data_length s) (length s) whole.whole_length in
    let more : length (s ++ rest) ≡ length s + length rest = length-append s rest in
    rw (le-ltb (length (s ++ rest)) least_size (omega arith), same_length s rest long, size)
    (smaller_second (length (s ++ rest)) (length s) (omega arith))

first_of : (short less : Bool) (n stated : ℕ) → ltb n least_size ≡ short → ltb n stated ≡ less → least_size ≤ stated
    → (cond short n (cond less n stated) ≤ n) × (1 ≤ n → 1 ≤ cond short n (cond less n stated))
first_of true less n stated es el h = (omega arith, λ k. k)
first_of false true n stated es el h = (omega arith, λ k. k)
first_of false false n stated es el h = (ltb-false n stated el, λ k. omega arith)

pub first_is_there : FirstIsThere
unfolding first_size
first_is_there s = first_of (ltb (length s) least_size) (ltb (length s) (least_size + data_length s)) (length s) (least_size + data_length s) refl refl (omega arith)

-- ---- many frames, and too few bytes for one

pub capture_comes_apart : CaptureComesApart
capture_comes_apart [] all = refl
capture_comes_apart (frame ∷ rest) all =
    let size = first_is_the_frame frame (end_to_end rest) all.0 in
    rw size
    (ap₂ ◌∷◌ (take-append_seam frame (end_to_end rest))
    (ap (taken_apart (length rest)) (drop-append_seam frame (end_to_end rest)) ∙ capture_comes_apart rest all.1))

pub missing_is_refused : MissingIsRefused
missing_is_refused s h = go (is_frame (unwrapping s)) refl
  where
    go : (b : Bool) → is_frame (unwrapping s) ≡ b → b ≡ false
    go false e = refl
    go true e =
        let size : least_size + data_length s ≡ length s = length_whole (type_of s) (data_length s) (length s) (opened s e).frame.whole_length in
        absurd (omega arith)
