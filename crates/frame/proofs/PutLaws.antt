-- A frame as the three writes leave it: header, body, ETX, and behind them the buffer as it was.
-- `b` is the buffer, `h` the header's bytes.
use mathlib.Core.List.{List, [], ◌∷◌, ◌++◌, append_assoc}
use mathlib.Core.Path.{◌≡◌, ap, ap₂, sym, ◌∙◌}
use Prim.Native.Nat.{ℕ, suc, ◌+◌, ◌-◌, ◌≤◌}
use native.Mathlib.Omega.{arith}
use borrow.Rule.Slice.PartMut.{put_mid}
use lib.ListN.{length, drop, set, get_or, length-append, length-drop}
use lib.Seq.{take_at, drop_at, drop-cons, drop-drop, set_at}
use Rattle.frame.specs.Wrapping.{put_down}
use Rattle.frame.specs.Frames.{header_bytes, frame}
use Rattle.frame.specs.Layout.{etx, body_place, least_size}

pub frame-length : (t commid : ℕ) (body : List ℕ) → length (frame t commid body) ≡ least_size + length body
unfolding frame
frame-length t commid body = omega (arith, length-append body (etx ∷ []))

-- what the three parts are, put one behind the other
joined : (t commid : ℕ) (body b : List ℕ)
    → header_bytes t commid (length body) ++ (body ++ etx ∷ drop (least_size + length body) b) ≡ put_down (frame t commid body) b
unfolding frame
joined t commid body b =
    ap (λ (n : ℕ). header_bytes t commid (length body) ++ (body ++ etx ∷ drop n b)) (sym (frame-length t commid body))
    ∙ ap (λ (l : List ℕ). header_bytes t commid (length body) ++ l) (sym (append_assoc body (etx ∷ []) (drop (length (frame t commid body)) b)))

module _ (h body b : List ℕ) (hh : length h ≡ body_place) (room : least_size + length body ≤ length b) where
  abbrev r : List ℕ
  r = drop body_place b

  abbrev rest : List ℕ
  rest = drop (suc (length body)) r

  r-length : length r ≡ length b - body_place
  r-length = length-drop body_place b

  -- behind the header the buffer is as it was, and the body is put over the front of that
  post : drop (body_place + length body - body_place) (drop body_place (h ++ r)) ≡ get_or r (length body) 0 ∷ rest
  post =
      let n : body_place + length body - body_place ≡ length body = omega arith in
      ap₂ (λ (k : ℕ) (l : List ℕ). drop k l) n (drop_at h r body_place hh) ∙ drop-cons r (length body) 0 (omega (arith, r-length))

  -- the buffer before its last write
  whole : put_mid body_place (body_place + length body - body_place) (h ++ r) body ≡ (h ++ body) ++ get_or r (length body) 0 ∷ rest
  whole =
      ap₂ (λ (x y : List ℕ). x ++ y) (take_at h r body_place hh) (ap (λ (l : List ℕ). body ++ l) post)
      ∙ sym (append_assoc h body (get_or r (length body) 0 ∷ rest))

  rest_is : rest ≡ drop (least_size + length body) b
  rest_is =
      let e : body_place + suc (length body) ≡ least_size + length body = omega arith in
      drop-drop (suc (length body)) body_place b ∙ ap (λ (n : ℕ). drop n b) e

  pub put_down_lem : (t commid : ℕ) → h ≡ header_bytes t commid (length body)
      → set (put_mid body_place (body_place + length body - body_place) (h ++ r) body) (body_place + length body) etx ≡ put_down (frame t commid body) b
  put_down_lem t commid eh =
      let l : length (h ++ body) ≡ body_place + length body = length-append h body ∙ ap (λ (n : ℕ). n + length body) hh in
      ap (λ (x : List ℕ). set x (body_place + length body) etx) whole
      ∙ set_at (h ++ body) (get_or r (length body) 0) rest etx (body_place + length body) l
      ∙ append_assoc h body (etx ∷ rest)
      ∙ ap₂ (λ (x y : List ℕ). x ++ (body ++ etx ∷ y)) eh rest_is
      ∙ joined t commid body b
