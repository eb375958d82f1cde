-- Where nothing is used, and that only the bytes kept and how many are in matter to the next byte.
-- What the end does in each state stands last.
use mathlib.Core.Bool.{Bool, true, false, cond}
use mathlib.Core.List.{List, [], ◌∷◌}
use mathlib.Core.Path.{◌≡◌, refl, ap, sym, ◌∙◌}
use Prim.Native.Nat.{ℕ, zero, suc, ◌<◌}
use native.Mathlib.Omega.{arith}
use borrow.Author.Tests.{lt-ltb, ltb-true}
use lib.Dec.{ltb}
use lib.ListN.{length}
use Rattle.feed.specs.Feeding.{Stand, inside, whole, refused, State, begun_by, begun, FeedOutcome, with_byte, standing, still, by_stand, byte_in, further_by, taking, ending, end_by}
use Rattle.feed.specs.Helpers.{opened, goes_on}
use Rattle.feed.specs.Verdict.{room, FeedRefusal, cut}

-- ---- nothing is used

pub still_as : (s : State) (t : Stand) → s.stand ≡ t → still s ≡ record { state = s; used = 0; finding = standing t }
still_as s t e = ap (λ (u : Stand). record { state = s; used = 0; finding = standing u }) e

-- an empty piece
pub nothing_offered : (s : State) (piece : List ℕ) → length piece ≡ 0 → still s ≡ taking s piece
unfolding taking
nothing_offered s [] h = refl
nothing_offered s (x ∷ l) h = absurd (omega arith)

-- a refusal that stands
pub refused_byte : (s : State) (f : FeedRefusal) (x : ℕ) → s.stand ≡ refused f → byte_in s x ≡ still s
unfolding byte_in
refused_byte s f x e = ap (λ (t : Stand). by_stand t (with_byte s.kept (begun s) x) (still s)) e

refused_further : (s : State) (f : FeedRefusal) (later : FeedOutcome) → s.stand ≡ refused f → further_by (still s).finding (still s) later ≡ still s
refused_further s f later e = ap (λ (t : Stand). further_by (standing t) (still s) later) e

pub refused_takes : (s : State) (f : FeedRefusal) (piece : List ℕ) → s.stand ≡ refused f → still s ≡ taking s piece
unfolding taking
refused_takes s f [] e = refl
refused_takes s f (x ∷ l) e =
    sym (ap (λ (o : FeedOutcome). further_by o.finding o (taking o.state l)) (refused_byte s f x e) ∙ refused_further s f (taking s l) e)

-- ---- the next byte

pub begun_room : (t : Stand) (n : ℕ) → begun_by t n < room
begun_room inside n = go (ltb n room) refl
  where
    go : (b : Bool) → ltb n room ≡ b → cond b n 0 < room
    go true q = ltb-true n room q
    go false q = omega arith
begun_room whole n = omega arith
begun_room (refused f) n = omega arith

open_byte : (k : List ℕ) (n x : ℕ) → n < room → byte_in (opened k n) x ≡ with_byte k n x
unfolding byte_in
open_byte k n x h = ap (λ (b : Bool). with_byte k (cond b n 0) x) (lt-ltb n room h)

-- a state in which the next byte goes in
pub data Open : Stand → Type 0 where
  going_on : Open inside
  anew : Open whole

pub byte_goes_in : (s : State) (t : Stand) (x : ℕ) → s.stand ≡ t → Open t → byte_in s x ≡ with_byte s.kept (begun_by t s.count) x
unfolding byte_in
byte_goes_in s t x e going_on = ap (λ (u : Stand). by_stand u (with_byte s.kept (begun_by u s.count) x) (still s)) e
byte_goes_in s t x e anew = ap (λ (u : Stand). by_stand u (with_byte s.kept (begun_by u s.count) x) (still s)) e

pub same_begun : (s : State) (t : Stand) (piece : List ℕ) → s.stand ≡ t → Open t → 0 < length piece
    → taking (opened s.kept (begun_by t s.count)) piece ≡ taking s piece
unfolding taking
same_begun s t [] e k h = absurd (omega arith)
same_begun s t (x ∷ l) e k h =
    ap (λ (o : FeedOutcome). further_by o.finding o (taking o.state l))
    (open_byte s.kept (begun_by t s.count) x (begun_room t s.count) ∙ sym (byte_goes_in s t x e k))

-- by whether the next byte goes in
pub shut_takes : (s : State) (piece : List ℕ) → goes_on s.stand ≡ false → still s ≡ taking s piece
shut_takes s piece e = go s.stand refl e
  where
    go : (t : Stand) → s.stand ≡ t → goes_on t ≡ false → still s ≡ taking s piece
    go inside q b = absurd (cc)
    go whole q b = absurd (cc)
    go (refused f) q b = refused_takes s f piece q

pub open_takes : (s : State) (piece : List ℕ) → goes_on s.stand ≡ true → 0 < length piece → taking (opened s.kept (begun s)) piece ≡ taking s piece
open_takes s piece e h = go s.stand refl e
  where
    go : (t : Stand) → s.stand ≡ t → goes_on t ≡ true → taking (opened s.kept (begun_by s.stand s.count)) piece ≡ taking s piece
    go inside q b = ap (λ (t : Stand). taking (opened s.kept (begun_by t s.count)) piece) q ∙ same_begun s inside piece q going_on h
    go whole q b = ap (λ (t : Stand). taking (opened s.kept (begun_by t s.count)) piece) q ∙ same_begun s whole piece q anew h
    go (refused f) q b = absurd (cc)

-- ---- the end

end_none_by : (t : Stand) (m : ℕ) (s : State) → m ≡ 0 → end_by t m s ≡ still s
end_none_by inside zero s e = refl
end_none_by inside (suc n) s e = absurd (omega arith)
end_none_by whole m s e = refl
end_none_by (refused f) m s e = refl

-- no byte of the next message is in
pub end_none : (s : State) → begun s ≡ 0 → ending s ≡ still s
unfolding ending
end_none s e = end_none_by s.stand (begun s) s e

-- the state with 52
abbrev pub cut_short : State → FeedOutcome
cut_short s = record { state = record { kept = s.kept; count = s.count; stand = refused cut }; used = 0; finding = refused cut }

end_some_by : (t : Stand) (n : ℕ) (s : State) → (begun_by t n ≡ 0 → ⊥) → end_by t (begun_by t n) s ≡ cut_short s
end_some_by inside n s h = go (begun_by inside n) h
  where
    go : (m : ℕ) → (m ≡ 0 → ⊥) → end_by inside m s ≡ cut_short s
    go zero h = absurd (h refl)
    go (suc m) h = refl
end_some_by whole n s h = absurd (h refl)
end_some_by (refused f) n s h = absurd (h refl)

pub end_some : (s : State) → (begun s ≡ 0 → ⊥) → ending s ≡ cut_short s
unfolding ending
end_some s h = end_some_by s.stand s.count s h

-- no byte is used by an end
abbrev unused : FeedOutcome → FeedOutcome
unused o = record { state = o.state; used = 0; finding = o.finding }

unused_by : (t : Stand) (m : ℕ) (s : State) → unused (end_by t m s) ≡ end_by t m s
unused_by inside zero s = refl
unused_by inside (suc n) s = refl
unused_by whole m s = refl
unused_by (refused f) m s = refl

pub end_uses_none : (s : State) (o : FeedOutcome) → o ≡ ending s → unused o ≡ ending s
unfolding ending
end_uses_none s o e = ap unused e ∙ unused_by s.stand (begun s) s
