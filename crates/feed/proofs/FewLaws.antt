-- No call uses more bytes than the longest message has, and none finds a longer one: with 510 bytes in, a verdict is settled.
-- Counted from the message's first byte, so that what is in and what is used together stay within the room.
use mathlib.Core.Bool.{Bool, true, false, cond}
use mathlib.Core.List.{List, [], ◌∷◌}
use mathlib.Core.Path.{◌≡◌, refl, ap, ◌∙◌, subst}
use Prim.Native.Nat.{ℕ, zero, suc, ◌+◌, ◌≤◌, ◌<◌}
use native.Mathlib.Omega.{arith}
use borrow.Author.Tests.{lt-ltb, ltb-true, ltb-false}
use lib.Dec.{ltb}
use lib.ListN.{length, take, set, length-set}
use Rattle.envelope.specs.Layout.{header_size}
use Rattle.feed.specs.Feeding.{Stand, inside, whole, refused, State, begun_by, begun, FeedOutcome, closing, finding_by, stand_by, standing, further_by, taking, ending, end_by}
use Rattle.feed.specs.Messages.{Roomy, found_size, UsesFew, EndFindsNoMessage}
use Rattle.feed.specs.Verdict.{room, Verdict, more, complete, refused, verdict}
use Rattle.feed.proofs.LaidLaws.{in_length}
use Rattle.feed.proofs.RefusedLaws.{Expects, expects}
use Rattle.feed.proofs.RunLaws.{Byte, repeats, goes_in, byte}
use Rattle.feed.proofs.StandLaws.{begun_room, refused_takes}
use Rattle.feed.proofs.TakingLaws.{taking_nil, taking_cons}

more_is_short : (m : List ℕ) → verdict m ≡ more → length m < room
more_is_short m v = go (ltb (length m) header_size) refl
  where
    go : (b : Bool) → ltb (length m) header_size ≡ b → length m < room
    go true q = omega (arith, ltb-true (length m) header_size q)
    go false q = let e : Expects m = expects m v (ltb-false (length m) header_size q) in omega (arith, e.fits, e.missing)

-- n bytes are in before it
record Fewer (n : ℕ) (o : FeedOutcome) : Type 0 where
  used : n + o.used ≤ room
  size : found_size o.finding ≤ room

still_size : (t : Stand) → found_size (standing t) ≡ 0
still_size inside = refl
still_size whole = refl
still_size (refused f) = refl

-- a byte that gave this verdict, and what follows where it settles nothing
few_by : (v : Verdict) (k : List ℕ) (n : ℕ) (later : FeedOutcome) → n < room → (v ≡ more → Fewer (suc n) later)
    → Fewer n (further_by (finding_by v (suc n)) (closing v k (suc n) 1) later)
few_by more k n later h f = let r = f refl in record { used = omega (arith, r.used); size = r.size }
few_by (complete g) k n later h f = record { used = omega arith; size = omega arith }
few_by (refused g) k n later h f = record { used = omega arith; size = omega arith }

-- where it settles nothing, one byte more is in
one_more : (v : Verdict) (n : ℕ) → v ≡ more → suc n < room → begun_by (stand_by v) (suc n) ≡ suc n
one_more v n e h = ap (λ (w : Verdict). begun_by (stand_by w) (suc n)) e ∙ ap (λ (b : Bool). cond b (suc n) 0) (lt-ltb (suc n) room h)

fewer : (piece : List ℕ) (s : State) → Roomy s → Fewer (begun s) (taking s piece)
fewer [] s r =
    let small = begun_room s.stand s.count in
    rw (taking_nil s) (record { used = omega (arith, small); size = omega (arith, still_size s.stand) })
fewer (x ∷ l) s r = go (λ t q. fewer l t q) (byte s x)
  where
    small : begun s < room
    small = begun_room s.stand s.count

    same : length (set s.kept (begun s) x) ≡ room
    same = length-set s.kept (begun s) x ∙ r

    later_in : ((t : State) → Roomy t → Fewer (begun t) (taking t l)) → (v : Verdict) → verdict (take (suc (begun s)) (set s.kept (begun s) x)) ≡ v
        → v ≡ more → Fewer (suc (begun s)) (taking (closing v (set s.kept (begun s) x) (suc (begun s)) 1).state l)
    later_in later v q e =
        let in_all = in_length s.kept (begun s) x (omega (arith, small, r)) in
        let short = more_is_short (take (suc (begun s)) (set s.kept (begun s) x)) (q ∙ e) in
        subst (λ (n : ℕ). Fewer n (taking (closing v (set s.kept (begun s) x) (suc (begun s)) 1).state l))
        (one_more v (begun s) e (omega (arith, in_all, short)))
        (later (closing v (set s.kept (begun s) x) (suc (begun s)) 1).state same)

    go : ((t : State) → Roomy t → Fewer (begun t) (taking t l)) → Byte s x → Fewer (begun s) (taking s (x ∷ l))
    go later (repeats f e b) =
        rw (← refused_takes s f (x ∷ l) e) (record { used = omega (arith, small); size = omega (arith, still_size s.stand) })
    go later (goes_in v q b o) = rw (taking_cons s x l _ b) (few_by v _ (begun s) _ small (later_in later v q))

pub uses_few : UsesFew
uses_few s piece o r e =
    let f = fewer piece s r in
    rw e (record { used = omega (arith, f.used); size = f.size })

end_by_lem : (t : Stand) (m : ℕ) (s : State) → found_size (end_by t m s).finding ≡ 0
end_by_lem inside zero s = still_size s.stand
end_by_lem inside (suc n) s = refl
end_by_lem whole m s = still_size s.stand
end_by_lem (refused f) m s = still_size s.stand

pub end_finds_no_message : EndFindsNoMessage
unfolding ending
end_finds_no_message s = end_by_lem s.stand (begun s) s
