-- The state that is lent, in the parts that the code takes it in; and that calls from C are the feed's own calls.
-- Number and count tell a refusal with its place, so that the storage keeps the state.
use mathlib.Core.Bool.{Bool, true, false, cond}
use mathlib.Core.List.{List, [], ◌∷◌}
use mathlib.Core.Path.{◌≡◌, refl, ap, sym, subst, ◌∙◌}
use Prim.Native.Nat.{ℕ, zero, suc, ◌≤◌}
use native.Mathlib.Omega.{arith}
use lib.Dec.{eqb, ltb}
use lib.ListN.{length, get_or, take, drop, take-append-drop, length-append}
use Rattle.envelope.specs.Fields.{Refusal, refusal_by}
use Rattle.envelope.specs.Places.{place_for}
use Rattle.envelope.specs.Told.{told_fault, told_refusal}
use Rattle.envelope.specs.declared.reader.Fault.{Fault}
use Rattle.envelope.specs.declared.reader.Fault.TheVariants.{TooShort, WrongVersion, BadFlags, BadVariableSize, WrongLength, BadAddresses, BadIntegrity}
use Rattle.feed.specs.Feeding.{State, inside, whole, refused, FeedOutcome, taking, ending, size_by, holding}
use Rattle.feed.specs.Told.{told_standing, state_of}
use Rattle.feed.specs.Places.{in_room, CountTellsPlace}
use Rattle.feed.specs.Verdict.{reads, too_long, cut}
use Rattle.feed.proofs.PlaceLaws.{same_reading, too_long_not_read, cut_not_read, take_keeps_place, end_keeps_place}
use Rattle.feed.proofs.RefusedLaws.{inside_not_refused, whole_not_refused, same_refused}
use Rattle.feed.specs.declared.refusal.Refusal.TheVariants.{MessageRefused, TooLong, Cut}
use Rattle.feed.specs.declared.step.Beside.{Beside}
use Rattle.feed.specs.declared.step.Standing.{Standing}
use Rattle.feed.specs.declared.step.Standing.TheVariants.{Inside, Whole, Refused}
use Rattle.exports.specs.Feeds.{standing_number, refusal_for, standing_for, state_numbers, state_for, found_slots, lent_after, StorageTellsPlace, StorageKeepsTheState, TakeLeavesTheState, EndLeavesTheState, TakeForCIsTake, EndForCIsEnd, RestartForCIsNew, MessageForCIsHeld}
use Rattle.exports.specs.Word.{word, sized}

length-take_most : (n : ℕ) (l : List ℕ) → length (take n l) ≤ length l
length-take_most n l = omega (arith, ap length (take-append-drop n l), length-append (take n l) (drop n l))

-- a message that is held is no longer than what is kept
pub held_short : (kept : List ℕ) (beside : Beside) → length (holding (state_of kept beside)) ≤ length kept
held_short kept beside = length-take_most (size_by (told_standing beside.standing) beside.count) kept

-- ---- the storage keeps the state, its place too

reading_kept : (f : Fault) (count : ℕ) → standing_for (told_fault f) count ≡ refused (reads (refusal_for (told_fault f) count))
reading_kept TooShort count = refl
reading_kept WrongVersion count = refl
reading_kept BadFlags count = refl
reading_kept BadVariableSize count = refl
reading_kept WrongLength count = refl
reading_kept BadAddresses count = refl
reading_kept BadIntegrity count = refl

standing_kept : (s : Standing) (count : ℕ) → ((r : Refusal) → told_standing s ≡ refused (reads r) → r.place ≡ place_for r.number (in_room count))
    → standing_for (standing_number (told_standing s)) count ≡ told_standing s
standing_kept Inside count h = refl
standing_kept Whole count h = refl
standing_kept (Refused (MessageRefused r)) count h =
    reading_kept r.fault count ∙ sym (ap (λ (p : ℕ). refused (reads (refusal_by (told_fault r.fault) p))) (h (told_refusal r) refl))
standing_kept (Refused TooLong) count h = refl
standing_kept (Refused Cut) count h = refl

pub storage_keeps_the_state : StorageKeepsTheState
storage_keeps_the_state f told = λ i. record { kept = f.kept; count = f.beside.count; stand = standing_kept f.beside.standing f.beside.count told i }

-- whatever the two numbers are, they tell the place by the count
stored_place : (number count : ℕ) (r : Refusal) → standing_for number count ≡ refused (reads r) → r.place ≡ place_for r.number (in_room count)
stored_place number count r = go (eqb number 0) (ltb number 8) (eqb number 51) (eqb number 52)
  where
    go : (a b c d : Bool)
        → cond a inside (cond b (refused (reads (refusal_for number count))) (cond c (refused too_long) (cond d (refused cut) whole))) ≡ refused (reads r)
        → r.place ≡ place_for r.number (in_room count)
    go true b c d e = absurd (inside_not_refused (reads r) e)
    go false true c d e =
        subst (λ (x : Refusal). x.place ≡ place_for x.number (in_room count))
        (same_reading (refusal_for number count) r (same_refused (reads (refusal_for number count)) (reads r) e)) refl
    go false false true d e = absurd (too_long_not_read r (same_refused too_long (reads r) e))
    go false false false true e = absurd (cut_not_read r (same_refused cut (reads r) e))
    go false false false false e = absurd (whole_not_refused (reads r) e)

pub stored_tells_place : (kept numbers : List ℕ) → CountTellsPlace (state_for kept numbers)
stored_tells_place kept numbers = stored_place (get_or numbers 1 0) (get_or numbers 0 0)

pub storage_tells_place : StorageTellsPlace
storage_tells_place kept numbers f stores = subst CountTellsPlace stores (stored_tells_place kept numbers)

pub take_leaves_the_state : TakeLeavesTheState
take_leaves_the_state f kept numbers piece t size stores takes =
    let roomy = sym (ap (λ (s : State). length s.kept) stores) ∙ size in
    storage_keeps_the_state t.feed (take_keeps_place f piece t roomy (storage_tells_place kept numbers f stores) takes)

pub end_leaves_the_state : EndLeavesTheState
end_leaves_the_state f kept numbers e stores ends =
    storage_keeps_the_state e.feed (end_keeps_place f e (storage_tells_place kept numbers f stores) ends)

-- ---- calls from C are the feed's own

pub take_for_c_is_take : TakeForCIsTake
take_for_c_is_take f entry piece r exit t stores kept p =
    let takes = ap (λ (s : State). taking s piece) stores ∙ sym p in (
      kept.0 ∙ ap (λ (o : FeedOutcome). word (found_slots o.finding o.used)) takes,
      kept.1 ∙ ap (λ (o : FeedOutcome). lent_after o entry.fields) takes,
    )

pub end_for_c_is_end : EndForCIsEnd
end_for_c_is_end f kept entry r exit e stores promise p =
    let ends = ap ending stores ∙ sym p in (
      (promise kept).0 ∙ ap (λ (o : FeedOutcome). word (found_slots o.finding 0)) ends,
      (promise kept).1 ∙ ap (λ (o : FeedOutcome). state_numbers o.state) ends,
    )

pub restart_for_c_is_new : RestartForCIsNew
restart_for_c_is_new f kept numbers p q =
    (q.0 ∙ sym (ap (λ (s : State). s.kept) p), q.1 ∙ sym (ap state_numbers p))

take_again : (n : ℕ) (l : List ℕ) → take n l ≡ take (length (take n l)) l
take_again zero l = refl
take_again (suc n) [] = refl
take_again (suc n) (x ∷ l) = ap (λ (m : List ℕ). x ∷ m) (take_again n l)

pub message_for_c_is_held : MessageForCIsHeld
message_for_c_is_held f kept numbers r m stores promise h =
    let holds = ap holding stores ∙ sym h in
    let same = ap (λ (s : State). s.kept) stores in (
      promise ∙ ap (λ (x : List ℕ). word (sized (length x))) holds,
      h
          ∙ take_again (size_by (told_standing f.beside.standing) f.beside.count) f.kept
          ∙ ap (λ (x : List ℕ). take (length x) f.kept) (sym h)
          ∙ ap (λ (x : List ℕ). take (length m) x) (sym same),
    )
