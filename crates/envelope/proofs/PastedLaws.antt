-- A list with parts put into it, one after the other: what was put in front stays, and what stands behind is as it was.
-- `pasted` of specs/Helpers is what the writer's steps promise.
use Rattle.std.proofs.Common.{◌≡◌, ℕ, suc, ◌+◌, ◌<◌, ◌≤◌, List, [], ◌∷◌, ◌++◌, length, get_or, take, drop, set, ap, append_assoc, add_assoc, arith, length-append, length-take-le, drop-cons, drop-drop, take_at}
use lib.Seq.{drop-append-add, set_at, append_snoc, paste-zero}
use Rattle.envelope.specs.Helpers.{pasted}

-- what stands up to the end of the part
front_length : (d : List ℕ) (place : ℕ) (p : List ℕ) → place ≤ length d → length (take place d ++ p) ≡ place + length p
front_length d place p h = rw (length-append, length-take-le place d h)

pub pasted_more : (d : List ℕ) (place : ℕ) (p q : List ℕ) → place + length p ≤ length d
    → pasted (pasted d place p) (place + length p) q ≡ pasted d place (p ++ q)
unfolding pasted
pasted_more d place p q h =
    let f = take place d ++ p in
    let r = drop (place + length p) d in
    let l = front_length d place p (omega arith) in
    let e : place + length p + length q ≡ length f + length q = omega arith in
    rw (take_at f r (place + length p) l, e, drop-append-add f r (length q), drop-drop (length q) (place + length p) d, append_assoc (take place d) p q, length-append p q, add_assoc place (length p) (length q))

pub pasted-set : (d : List ℕ) (place : ℕ) (p : List ℕ) (x : ℕ) → place + length p < length d
    → set (pasted d place p) (place + length p) x ≡ pasted d place (p ++ x ∷ [])
unfolding pasted
pasted-set d place p x h =
    let f = take place d ++ p in
    let e : place + (length p + 1) ≡ suc (place + length p) = omega arith in
    rw (drop-cons d (place + length p) 0 h, set_at f (get_or d (place + length p) 0) (drop (suc (place + length p)) d) x (place + length p) (front_length d place p (omega arith)))
    (rw (length-append p (x ∷ []), e, ← append_assoc (take place d) p (x ∷ []), append_snoc f x (drop (suc (place + length p)) d)))

-- nothing put in
pub pasted_none : (d : List ℕ) (place : ℕ) → d ≡ pasted d place []
unfolding pasted
pasted_none d place = paste-zero d place []

-- a part, and two addresses with their zeros after it
pub pasted_ends : (buffer : List ℕ) (place : ℕ) (f s d : List ℕ) → place + length f + (length s + 1) + (length d + 1) ≤ length buffer
    → pasted (pasted (pasted buffer place f) (place + length f) (s ++ 0 ∷ [])) (place + length f + (length s + 1)) (d ++ 0 ∷ [])
    ≡ pasted buffer place (f ++ (s ++ 0 ∷ (d ++ 0 ∷ [])))
pasted_ends buffer place f s d h =
    let l : length (f ++ (s ++ 0 ∷ [])) ≡ length f + (length s + 1) = rw (length-append f (s ++ 0 ∷ []), length-append s (0 ∷ [])) in
    let e : place + length f + (length s + 1) ≡ place + length (f ++ (s ++ 0 ∷ [])) = omega arith in
    rw (pasted_more buffer place f (s ++ 0 ∷ []) (omega arith), e, pasted_more buffer place (f ++ (s ++ 0 ∷ [])) (d ++ 0 ∷ []) (omega arith))
    (ap (λ (x : List ℕ). pasted buffer place x) (simp append_assoc))
