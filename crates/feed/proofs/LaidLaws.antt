-- What a copy into the room leaves, and the bytes that are in after it.
-- Laid in byte by byte is `sets` of the library.
use mathlib.Core.List.{List, ◌++◌, append_assoc}
use mathlib.Core.Path.{◌≡◌, ap, sym, ◌∙◌}
use Prim.Native.Nat.{ℕ, suc, ◌≤◌, ◌<◌, ◌+◌, ◌-◌}
use native.Mathlib.Omega.{arith}
use lib.ListN.{length, take, drop, set, length-set, length-append}
use lib.Seq.{drop-drop, sets, sets-eq, length-take-le, take_at}

-- what a copy of the part over the places from n up to m leaves is the part laid in byte by byte
pub laid_copy : (k l last : List ℕ) (n m : ℕ) → n + length l ≤ length k → m ≡ n + length l → last ≡ l
    → take n k ++ (last ++ drop (m - n) (drop n k)) ≡ sets k n l
laid_copy k l last n m h e c =
    let end : n + (m - n) ≡ n + length l = omega arith in
    ap (λ (z : List ℕ). take n k ++ (z ++ drop (m - n) (drop n k))) c
    ∙ ap (λ (z : List ℕ). take n k ++ (l ++ z)) (drop-drop (m - n) n k ∙ ap (λ (i : ℕ). drop i k) end)
    ∙ sym (append_assoc (take n k) l (drop (n + length l) k))
    ∙ sym (sets-eq l k n h)

-- the bytes that are in, after one more
pub in_length : (k : List ℕ) (n x : ℕ) → n < length k → length (take (suc n) (set k n x)) ≡ suc n
in_length k n x h = length-take-le (suc n) (set k n x) (omega (arith, length-set k n x))

pub laid_front : (k l : List ℕ) (n : ℕ) → n + length l ≤ length k → take (n + length l) (sets k n l) ≡ take n k ++ l
laid_front k l n h =
    let size : length (take n k ++ l) ≡ n + length l = omega (arith, length-append (take n k) l, length-take-le n k (omega arith)) in
    ap (λ (z : List ℕ). take (n + length l) z) (sets-eq l k n h) ∙ take_at (take n k ++ l) (drop (n + length l) k) (n + length l) size
