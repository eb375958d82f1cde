-- Numbers put into a lent list from its front on, as far as it has room; the places beyond keep what they had. RULES 5.
-- A short list is no refusal.
use Rattle.std.specs.Prelude.{ℕ, zero, suc, ◌+◌, Bool, cond, List, [], ◌∷◌}

unfoldable pub noted : List ℕ → List ℕ → List ℕ
noted [] entry = entry
noted (n ∷ ns) [] = []
noted (n ∷ ns) (x ∷ rest) = n ∷ noted ns rest

-- of the numbers from k on, of which there are so many, those that pass, ascending
unfoldable pub select : (ℕ → Bool) → ℕ → ℕ → List ℕ
select passes k zero = []
select passes k (suc left) = cond (passes k) (k ∷ select passes (k + 1) left) (select passes (k + 1) left)
