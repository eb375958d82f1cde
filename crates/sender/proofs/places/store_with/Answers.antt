-- `places::store_with`: one more behind those stored.
use mathlib.Core.List.{List, [], ◌∷◌, ◌++◌}
use mathlib.Core.Path.{◌≡◌, sym, ap, ◌∙◌}
use Prim.Native.Nat.{ℕ, suc, ◌-◌, ◌<◌}
use lib.ListN.{length, set, replicate}
use lib.Seq.{set-append_seam, append_snoc}
use Rattle.std.proofs.Common.{add-one, arith, length-append}
use Rattle.sender.specs.Told.{stored}
use Rattle.sender.proofs.places.store_with.Goals as goal

stored_more : (l : List ℕ) (x : ℕ) → length l < 16 → set (stored l) (length l) x ≡ stored (l ++ (x ∷ []))
stored_more l x h =
    let zeros : 16 - length l ≡ suc (16 - suc (length l)) = omega arith in
    let more : suc (length l) ≡ length (l ++ (x ∷ [])) = sym (length-append l (x ∷ []) ∙ add-one (length l)) in
    ap (λ (n : ℕ). set (l ++ replicate {A = ℕ} n 0) (length l) x) zeros
    ∙ set-append_seam l 0 (replicate (16 - suc (length l)) 0) x
    ∙ sym (append_snoc l x (replicate (16 - suc (length l)) 0))
    ∙ ap (λ (n : ℕ). (l ++ (x ∷ [])) ++ replicate (16 - n) 0) more

pub returns : goal.returns
returns c = rw c.store-places.ensures (stored_more c.args.waiting.now c.args.commid c.requires)
