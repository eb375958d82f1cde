-- The place of a refusal that stands. A refusal comes from a verdict on the bytes that are in, and a verdict's place is that of K2's table.
-- What holds of each refusal that a verdict gives holds of every one that stands, byte after byte.
use mathlib.Core.Bool.{Bool, true, false, cond}
use mathlib.Core.List.{List, [], ◌∷◌}
use mathlib.Core.Path.{◌≡◌, refl, ap, sym, subst, ◌∙◌}
use Prim.Native.Nat.{ℕ, zero, suc, ◌≤◌}
use native.Mathlib.Omega.{arith}
use borrow.Author.Tests.{le-ltb, ltb-false}
use lib.Dec.{ltb}
use lib.ListN.{length, take, set, length-set, length-replicate}
use lib.Seq.{length-take-le}
use Rattle.envelope.proofs.PlaceLaws.{places_by_table, by_length, heading_placed, place_for_most}
use Rattle.envelope.specs.Announcing.{AnnouncementAnswer, unfinished, refused as refusedHeading, announces, announcing}
use Rattle.envelope.specs.Fields.{Refusal, Answer, accepted, refused as refusedMessage}
use Rattle.envelope.specs.Places.{PlaceOf, place_for}
use Rattle.envelope.specs.Reading.{reading}
use Rattle.envelope.specs.Told.{told_refusal}
use Rattle.feed.specs.Feeding.{Stand, inside, whole, refused, State, fresh, begun, Finding, nothing, message, FeedOutcome, closing, byte_in, further_by, taking, end_by, ending}
use Rattle.feed.specs.Messages.{Roomy}
use Rattle.feed.specs.Places.{PlaceWhereRefused, in_room, CountTellsPlace, TakeKeepsPlace, EndKeepsPlace, found_place, PointsShort, TakePointsShort, EndPointsShort}
use Rattle.feed.specs.Stream.{Course, streaming}
use Rattle.feed.specs.Told.{told_standing, told_feed}
use Rattle.feed.specs.Verdict.{room, FeedRefusal, reads, too_long, cut, Verdict, more, complete, refused, settled, verdict}
use Rattle.feed.proofs.RunLaws.{Byte, repeats, goes_in, byte, streaming_nil, streaming_cons, as_defined}
use Rattle.feed.proofs.StandLaws.{begun_room}
use Rattle.feed.proofs.StopLaws.{taking_stands, ending_stands}
use Rattle.feed.proofs.VerdictLaws.{verdict_by}
use Rattle.feed.proofs.WeighedLaws.{Weighed, is_too_long, not_yet, all_in, weigh}

-- ---- a verdict's place

pub same_reading : (a b : Refusal) → reads a ≡ reads b → a ≡ b
same_reading a b e = cc

pub too_long_not_read : (r : Refusal) → too_long ≡ reads r → ⊥
too_long_not_read r e = cc

pub cut_not_read : (r : Refusal) → cut ≡ reads r → ⊥
cut_not_read r e = cc

settled_refused : (a : Answer) (r : Refusal) → settled a ≡ refused (reads r) → a ≡ refusedMessage r
settled_refused (accepted f) r e = cc
settled_refused (refusedMessage q) r e = cc

verdict_placed : (m : List ℕ) (r : Refusal) → verdict m ≡ refused (reads r) → PlaceOf m r
verdict_placed m r v = go (announcing m) refl
  where
    by : (w : ℕ) → Weighed m w → PlaceOf m r
    by w (is_too_long l e) = absurd (cc)
    by w (not_yet l k e) = absurd (cc)
    by w (all_in l k e) = places_by_table m r (settled_refused (reading m) r (sym e ∙ v))

    go : (a : AnnouncementAnswer) → announcing m ≡ a → PlaceOf m r
    go unfinished e = absurd (cc (verdict_by m unfinished e))
    go (refusedHeading q) e =
        let same : q ≡ r = cc (verdict_by m (refusedHeading q) e) in
        heading_placed m m r (e ∙ ap refusedHeading same)
    go (announces w) e = by w (weigh m w e)

-- ---- what a verdict's refusal keeps, every refusal that stands keeps

-- of the bytes kept, how many of them are in, and the refusal of reading
abbrev Fact : Type 1
Fact = (kept : List ℕ) (count : ℕ) → Refusal → Type 0

module _ (P : Fact) (new : (k : List ℕ) (n : ℕ) (r : Refusal) → length k ≡ room → n ≤ room → verdict (take n k) ≡ refused (reads r) → P k n r) where
  record Stands (s : State) : Type 0 where
    roomy : Roomy s
    told : (r : Refusal) → s.stand ≡ refused (reads r) → P s.kept s.count r

  stands_closing : (v : Verdict) (k : List ℕ) (n : ℕ) → verdict (take n k) ≡ v → length k ≡ room → n ≤ room → Stands (closing v k n 1).state
  stands_closing more k n e l h = record { roomy = l; told = λ r q. absurd (cc) }
  stands_closing (complete f) k n e l h = record { roomy = l; told = λ r q. absurd (cc) }
  stands_closing (refused f) k n e l h = record { roomy = l; told = λ r q. new k n r l h (cc) }

  stands_byte : (s : State) (x : ℕ) → Stands s → Stands (byte_in s x).state
  stands_byte s x w = go (byte s x)
    where
      go : Byte s x → Stands (byte_in s x).state
      go (repeats f e b) = rw b w
      go (goes_in v q b o) =
          let h = begun_room s.stand s.count in
          rw b (stands_closing v (set s.kept (begun s) x) (suc (begun s)) q (length-set s.kept (begun s) x ∙ w.roomy) (omega (arith, h)))

  stands_further : (d : Finding) (now later : FeedOutcome) → Stands now.state → Stands later.state → Stands (further_by d now later).state
  stands_further nothing now later a b = b
  stands_further (message n f) now later a b = a
  stands_further (refused f) now later a b = a

  stands_taking : (piece : List ℕ) (s : State) → Stands s → Stands (taking s piece).state
  unfolding taking
  stands_taking [] s w = w
  stands_taking (x ∷ l) s w =
      let here = stands_byte s x w in
      stands_further (byte_in s x).finding (byte_in s x) (taking (byte_in s x).state l) here (stands_taking l (byte_in s x).state here)

  stands_stream : (bytes : List ℕ) (s : State) → Stands s → Stands (streaming s bytes).state
  stands_stream [] s w = rw (streaming_nil s) w
  stands_stream (x ∷ l) s w = rw (streaming_cons s x l _ refl) (stands_stream l (byte_in s x).state (stands_byte s x w))

  fresh_stands : (s : State) → s ≡ fresh → Stands s
  fresh_stands s e =
      subst Stands (sym e)
      (record { roomy = length-replicate {A = ℕ} room 0; told = λ r q. absurd (cc) })

-- ---- the table, of the bytes that are in

abbrev TableFact : Fact
TableFact k n r = PlaceOf (take n k) r

of_table : (k : List ℕ) (n : ℕ) (r : Refusal) → length k ≡ room → n ≤ room → verdict (take n k) ≡ refused (reads r) → TableFact k n r
of_table k n r l h v = verdict_placed (take n k) r v

pub place_where_refused : PlaceWhereRefused
place_where_refused f bytes c refusal n calls e =
    let w = stands_stream TableFact of_table bytes (told_feed f) (fresh_stands TableFact of_table (told_feed f) n) in
    let at = subst (Stands TableFact of_table) (sym (ap (λ (x : Course). x.state) (as_defined f bytes c calls))) w in
    at.told (told_refusal refusal) (ap told_standing e)

-- ---- the count

abbrev CountFact : Fact
CountFact k n r = r.place ≡ place_for r.number (in_room n)

of_count : (k : List ℕ) (n : ℕ) (r : Refusal) → length k ≡ room → n ≤ room → verdict (take n k) ≡ refused (reads r) → CountFact k n r
of_count k n r l h v =
    by_length (take n k) r (verdict_placed (take n k) r v)
    ∙ ap (place_for r.number) (length-take-le n k (omega (arith, l, h)) ∙ sym (ap (λ (b : Bool). cond b room n) (le-ltb room n h)))

pub take_keeps_place : TakeKeepsPlace
take_keeps_place f piece t roomy told takes =
    let w = stands_taking CountFact of_count piece (told_feed f) (record { roomy = roomy; told = told }) in
    let at = subst (Stands CountFact of_count) (sym (ap (λ (o : FeedOutcome). o.state) takes)) w in
    at.told

kept_by_end : (t : Stand) (n : ℕ) (s : State) → CountTellsPlace s → CountTellsPlace (end_by t n s).state
kept_by_end inside zero s h = h
kept_by_end inside (suc n) s h = λ r q. absurd (cc)
kept_by_end whole n s h = h
kept_by_end (refused f) n s h = h

end_keeps : (s : State) → CountTellsPlace s → CountTellsPlace (ending s).state
unfolding ending
end_keeps s h = kept_by_end s.stand (begun s) s h

pub end_keeps_place : EndKeepsPlace
end_keeps_place f e told ends =
    subst CountTellsPlace (sym (ap (λ (o : FeedOutcome). o.state) ends)) (end_keeps (told_feed f) told)

-- ---- no place that is told is past the room

in_room_short : (n : ℕ) → in_room n ≤ room
in_room_short n = go (ltb room n) refl
  where
    go : (b : Bool) → ltb room n ≡ b → cond b room n ≤ room
    go true e = omega arith
    go false e = ltb-false room n e

-- a refusal that is told stands, and one that stands points by its number and the count
told_short : (o : FeedOutcome) → ((f : FeedRefusal) → o.finding ≡ refused f → o.state.stand ≡ refused f) → CountTellsPlace o.state
    → (d : Finding) → o.finding ≡ d → found_place d ≤ room
told_short o stands told nothing e = omega arith
told_short o stands told (message n f) e = omega arith
told_short o stands told (refused (reads r)) e =
    omega (arith, told r (stands (reads r) e), place_for_most r.number (in_room o.state.count) room (in_room_short o.state.count) (omega arith))
told_short o stands told (refused too_long) e = omega arith
told_short o stands told (refused cut) e = omega arith

as_told : (s : State) (o p : FeedOutcome) → o ≡ p → PointsShort s p → PointsShort s o
as_told s o p e h = subst (PointsShort s) (sym e) h

pub take_points_short : TakePointsShort
take_points_short s piece o roomy e =
    as_told s o (taking s piece) e
    (λ told.
    let w = stands_taking CountFact of_count piece s (record { roomy = roomy; told = told }) in
    told_short (taking s piece) (λ f. taking_stands piece s f) w.told (taking s piece).finding refl)

pub end_points_short : EndPointsShort
end_points_short s o e =
    as_told s o (ending s) e (λ told. told_short (ending s) (λ f. ending_stands s f) (end_keeps s told) (ending s).finding refl)
