-- Each answer of the code's stretches, as the byte-by-byte outcome has it.
-- The first goes up to the 17th byte, the second up to the announced length.
use mathlib.Core.List.{List, [], ◌∷◌, ◌++◌, append-nil}
use mathlib.Core.Logic.{◌⊎◌, inl, inr}
use mathlib.Core.Path.{◌≡◌, refl, ap, ap₂, sym, ◌∙◌}
use Prim.Native.Nat.{ℕ, ◌≤◌, ◌<◌, ◌+◌, ◌-◌}
use native.Mathlib.Omega.{arith}
use native.Mathlib.Nat.{eq-or-lt_of_le}
use lib.ListN.{length, take, drop, take-append-drop}
use lib.Seq.{sets, length-take-le, length-sets, drop-length}
use Rattle.envelope.proofs.AnnouncingLaws.{announces_says}
use Rattle.envelope.specs.Announcing.{announces, announcing}
use Rattle.envelope.specs.Fields.{Answer, accepted, refused as refusedMessage}
use Rattle.envelope.specs.Layout.{header_size}
use Rattle.envelope.specs.Reading.{reading}
use Rattle.feed.specs.Feeding.{FeedOutcome, closing, further_by, nothing, taking}
use Rattle.feed.specs.Helpers.{opened, outcome_at, Stretch, Announced}
use Rattle.feed.specs.Verdict.{room, FeedRefusal, Verdict, more, refused, settled, verdict}
use Rattle.feed.proofs.TakingLaws.{on_from, Known, up_to_heading, up_to_announced, up_to_one}
use Rattle.feed.proofs.VerdictLaws.{verdict_more, verdict_whole, announcing_laid}

-- ---- the outcome by the verdict

outcome_by : (k : List ℕ) (n used : ℕ) (rest : List ℕ) (v : Verdict) → verdict (take n k) ≡ v
    → outcome_at k n used rest ≡ on_from v k n used (taking (opened k n) rest)
outcome_by k n used rest v e = ap (λ (u : Verdict). on_from u k n used (taking (opened k n) rest)) e

pub bad_at : (k : List ℕ) (n used : ℕ) (rest : List ℕ) (f : FeedRefusal) → verdict (take n k) ≡ refused f
    → closing (refused f) k n used ≡ outcome_at k n used rest
bad_at k n used rest f e = sym (outcome_by k n used rest (refused f) e)

still_open : (k : List ℕ) (n used : ℕ) → on_from more k n used (taking (opened k n) []) ≡ closing more k n used
unfolding taking
still_open k n used = let e : used + 0 ≡ used = omega arith in ap (closing more k n) e

pub more_at : (k : List ℕ) (n used : ℕ) (rest : List ℕ) → verdict (take n k) ≡ more → rest ≡ []
    → closing more k n used ≡ outcome_at k n used rest
more_at k n used rest e r =
    sym (outcome_by k n used rest more e ∙ ap (λ (l : List ℕ). on_from more k n used (taking (opened k n) l)) r ∙ still_open k n used)

settled_closes : (a : Answer) (k : List ℕ) (n used : ℕ) (later : FeedOutcome) → on_from (settled a) k n used later ≡ closing (settled a) k n used
settled_closes (accepted f) k n used later = refl
settled_closes (refusedMessage r) k n used later = refl

whole_at : (k : List ℕ) (n used : ℕ) (rest : List ℕ) (w : ℕ) → announcing (take n k) ≡ announces w → w ≤ room → w ≤ n → n ≤ length k
    → closing (settled (reading (take n k))) k n used ≡ outcome_at k n used rest
whole_at k n used rest w e hw h b =
    let long : w ≤ length (take n k) = omega (arith, length-take-le n k b) in
    sym (outcome_by k n used rest (settled (reading (take n k))) (verdict_whole (take n k) w e hw long)
    ∙ settled_closes (reading (take n k)) k n used (taking (opened k n) rest))

-- ---- the first stretch

pub stretch_fits : (n offered r : ℕ) → n < room → Stretch n offered r → n + r ≤ room
stretch_fits n offered r h s = go s.below
  where
    go : (n + r ≤ header_size) ⊎ (r ≡ 1) → n + r ≤ room
    go (inl b) = omega arith
    go (inr b) = omega arith

pub first_stretch : (k piece : List ℕ) (n r : ℕ) → length k ≡ room → n < room → Stretch n (length piece) r
    → taking (opened k n) piece ≡ outcome_at (sets k n (take r piece)) (n + r) r (drop r piece)
first_stretch k piece n r hk h s =
    ap (taking (opened k n)) (sym (take-append-drop r piece))
    ∙ go s.below
    ∙ ap₂ (λ (a b : ℕ). outcome_at (sets k n (take r piece)) (n + a) b (drop r piece)) size size
  where
    size : length (take r piece) ≡ r
    size = length-take-le r piece s.offers

    go : (n + r ≤ header_size) ⊎ (r ≡ 1)
        → taking (opened k n) (take r piece ++ drop r piece) ≡ outcome_at (sets k n (take r piece)) (n + length (take r piece)) (length (take r piece)) (drop r piece)
    go (inl b) = up_to_heading k (take r piece) (drop r piece) n hk (omega (arith, size, s.some)) (omega (arith, size))
    go (inr b) = up_to_one k (take r piece) (drop r piece) n h (size ∙ b)

-- all that was offered is in, where the heading is not
pub none_left : (piece : List ℕ) (n r : ℕ) → Stretch n (length piece) r → n + r < header_size → drop r piece ≡ []
none_left piece n r s h = ap (λ (m : ℕ). drop m piece) (s.all h) ∙ drop-length piece

-- ---- the second stretch

pub known : (k : List ℕ) (n w used : ℕ) → length k ≡ room → Announced k n w used → Known w k n
known k n w used hk a =
    let b : n ≤ length k = omega (arith, a.fits) in
    record { roomy = hk; long = omega (arith, (announces_says (take n k) w a.says).long, length-take-le n k b); says = a.says }

short_front : (k : List ℕ) (n w : ℕ) → Known w k n → w ≤ room → n < w → verdict (take n k) ≡ more
short_front k n w ok hw h = verdict_more (take n k) w ok.says hw (omega (arith, length-take-le n k (omega (arith, ok.roomy))))

-- the rest of the piece does not reach
pub fill_short : (k rest : List ℕ) (n w used : ℕ) → Known w k n → w ≤ room → n + length rest < w
    → closing more (sets k n rest) (n + length rest) (used + length rest) ≡ outcome_at k n used rest
fill_short k [] n w used ok hw h =
    let a : n + 0 ≡ n = omega arith in
    let b : used + 0 ≡ used = omega arith in
    ap₂ (λ (m u : ℕ). closing more k m u) a b ∙ more_at k n used [] (short_front k n w ok hw (omega arith)) refl
fill_short k (x ∷ l) n w used ok hw h =
    let rest = x ∷ l in
    let g = sets k n rest in
    let m = n + length rest in
    let all : rest ≡ rest ++ [] = sym (append-nil rest) in
    let big : m ≤ length k = omega (arith, ok.roomy) in
    let says = announcing_laid k rest n w big ok.long ok.says in
    let quiet : verdict (take m g) ≡ more = verdict_more (take m g) w says hw (omega (arith, length-take-le m g (omega (arith, length-sets k n rest)))) in
    let end : taking (opened k n) rest ≡ closing more g m (length rest) =
    ap (taking (opened k n)) all ∙ up_to_announced k rest [] n w ok hw (omega arith) (omega arith) ∙ sym (more_at g m (length rest) [] quiet refl) in
    ap (further_by nothing (closing more k n used)) (sym end)
    ∙ sym (outcome_by k n used rest more (short_front k n w ok hw (omega arith)))

-- it does
fill_whole : (k rest : List ℕ) (n w used : ℕ) → Known w k n → w ≤ room → n < w → w - n ≤ length rest
    → closing (settled (reading (take w (sets k n (take (w - n) rest))))) (sets k n (take (w - n) rest)) w (used + (w - n)) ≡ outcome_at k n used rest
fill_whole k rest n w used ok hw h b =
    let part = take (w - n) rest in
    let g = sets k n part in
    let left = drop (w - n) rest in
    let size : length part ≡ w - n = length-take-le (w - n) rest b in
    let end : n + length part ≡ w = omega arith in
    let big : n + length part ≤ length k = omega (arith, ok.roomy) in
    let says : announcing (take w g) ≡ announces w = ap (λ (m : ℕ). announcing (take m g)) (sym end) ∙ announcing_laid k part n w big ok.long ok.says in
    let taken : taking (opened k n) rest ≡ outcome_at g w (w - n) left =
    ap (taking (opened k n)) (sym (take-append-drop (w - n) rest))
    ∙ up_to_announced k part left n w ok hw (omega arith) (omega arith)
    ∙ ap₂ (λ (m u : ℕ). outcome_at g m u left) end size in
    ap (further_by nothing (closing more k n used)) (whole_at g w (w - n) left w says hw (omega arith) (omega (arith, length-sets k n part, ok.roomy)) ∙ sym taken)
    ∙ sym (outcome_by k n used rest more (short_front k n w ok hw h))

-- it does, or nothing is missing: d bytes more
pub fill_all : (k rest : List ℕ) (n w d used : ℕ) → Known w k n → w ≤ room → n ≤ length k → d ≡ w - n → d ≤ length rest
    → closing (settled (reading (take (n + d) (sets k n (take d rest))))) (sets k n (take d rest)) (n + d) (used + d) ≡ outcome_at k n used rest
fill_all k rest n w d used ok hw fits h b = go (eq-or-lt_of_le (omega arith))
  where
    at : ℕ → ℕ → ℕ → FeedOutcome
    at x m u = closing (settled (reading (take m (sets k n (take x rest))))) (sets k n (take x rest)) m u

    go : (0 ≡ d) ⊎ (0 < d) → at d (n + d) (used + d) ≡ outcome_at k n used rest
    go (inl e) =
        let here : n + d ≡ n = omega arith in
        let now : used + d ≡ used = omega arith in
        ap₂ (λ (m u : ℕ). at d m u) here now
        ∙ ap (λ (x : ℕ). at x n used) (sym e)
        ∙ whole_at k n used rest w ok.says hw (omega arith) fits
    go (inr e) =
        let end : n + d ≡ w = omega arith in
        ap (λ (m : ℕ). at d m (used + d)) end
        ∙ ap (λ (x : ℕ). at x w (used + x)) h
        ∙ fill_whole k rest n w used ok hw (omega arith) (omega arith)

-- ---- past the heading

-- nothing was used yet, and what is in settles nothing
pub none_used : (k piece : List ℕ) (n w : ℕ) → length k ≡ room → n < room → announcing (take n k) ≡ announces w → w ≤ room → n < w
    → outcome_at k n 0 piece ≡ taking (opened k n) piece
none_used k piece n w hk h says short m =
    let fits : n ≤ length k = omega arith in
    let quiet = verdict_more (take n k) w says short (omega (arith, length-take-le n k fits)) in
    let o = taking (opened k n) piece in
    let all : 0 + o.used ≡ o.used = omega arith in
    outcome_by k n 0 piece more quiet ∙ (λ i. record { state = o.state; used = all i; finding = o.finding })
