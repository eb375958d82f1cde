-- What a feed finds is accepted by reading and has at most 510 bytes; and what a call found is held, with its fields.
-- Each is kept by one byte more, and so by any run.
use mathlib.Core.List.{List, [], ◌∷◌, ◌++◌}
use mathlib.Core.Path.{◌≡◌, refl, ap, sym, ◌∙◌, subst}
use Prim.Native.Nat.{ℕ, suc, ◌≤◌, ◌<◌}
use native.Mathlib.Omega.{arith}
use lib.ListN.{length, take, set, length-set}
use lib.Seq.{length-take-le}
use Rattle.envelope.specs.Fields.{Fields, accepted}
use Rattle.envelope.specs.Reading.{reading}
use Rattle.envelope.specs.Told.{told_envelope}
use Rattle.feed.specs.Feeding.{Stand, inside, whole, refused, State, begun, Finding, message, FeedOutcome, closing, finding_by, standing, byte_in, further_by, taking, size_by}
use Rattle.feed.specs.Messages.{All, none, also, AllFit, Roomy, FoundAreAccepted, FoundIsHeld}
use Rattle.feed.specs.Stream.{found_by, found_in, Course, streaming}
use Rattle.feed.specs.Told.{told_standing, told_feed, told_found, told_taken}
use Rattle.feed.specs.Verdict.{room, Verdict, more, complete, refused, verdict}
use Rattle.feed.proofs.RunLaws.{Byte, repeats, goes_in, byte, streaming_nil, streaming_cons, as_defined}
use Rattle.feed.proofs.StandLaws.{begun_room, refused_takes}
use Rattle.feed.proofs.TakingLaws.{taking_nil, taking_cons}
use Rattle.feed.proofs.WeighedLaws.{complete_accepts}

-- ---- found: accepted, and of at most 510 bytes

pub all_append : {P : List ℕ → Type 0} (a b : List (List ℕ)) → All P a → All P b → All P (a ++ b)
all_append [] b none g = g
all_append (m ∷ a) b (also f fs) g = also f (all_append a b fs g)

found_fits : (v : Verdict) (k : List ℕ) (n : ℕ) → verdict (take n k) ≡ v → n ≤ room → n ≤ length k → AllFit (found_in (closing v k n 1))
found_fits more k n e h b = none
found_fits (complete f) k n e h b =
    also (record { fields = f; accepts = complete_accepts (take n k) f e; short = omega (arith, length-take-le n k b) }) none
found_fits (refused f) k n e h b = none

byte_found : (s : State) (x : ℕ) → Roomy s → AllFit (found_in (byte_in s x)) × Roomy (byte_in s x).state
byte_found s x r = go (byte s x)
  where
    small : begun s < room
    small = begun_room s.stand s.count

    still_fits : (t : Stand) → AllFit (found_by (standing t) s.kept)
    still_fits inside = none
    still_fits whole = none
    still_fits (refused f) = none

    go : Byte s x → AllFit (found_in (byte_in s x)) × Roomy (byte_in s x).state
    go (repeats f e b) = rw b (still_fits s.stand, r)
    go (goes_in v q b o) =
        let same = length-set s.kept (begun s) x in
        rw b (found_fits v (set s.kept (begun s) x) (suc (begun s)) q (omega (arith, small)) (omega (arith, small, same)), same ∙ r)

stream_fits : (bytes : List ℕ) (s : State) → Roomy s → AllFit (streaming s bytes).found
stream_fits [] s r = rw (streaming_nil s) none
stream_fits (x ∷ l) s r =
    let b = byte_found s x r in
    rw (streaming_cons s x l _ refl) (all_append (found_in (byte_in s x)) (streaming (byte_in s x).state l).found b.0 (stream_fits l (byte_in s x).state b.1))

pub found_are_accepted : FoundAreAccepted
found_are_accepted f bytes c r calls =
    subst AllFit (sym (ap (λ (x : Course). x.found) (as_defined f bytes c calls))) (stream_fits bytes (told_feed f) r)

-- ---- a message that a call found is held, with its fields

record Kept (o : FeedOutcome) (n : ℕ) (f : Fields) : Type 0 where
  stand : o.state.stand ≡ whole
  count : o.state.count ≡ n
  accepts : reading (take n o.state.kept) ≡ accepted f
  size : length (take n o.state.kept) ≡ n

still_no_message : (t : Stand) (n : ℕ) (f : Fields) → standing t ≡ message n f → ⊥
still_no_message inside n f e = cc
still_no_message whole n f e = cc
still_no_message (refused g) n f e = cc

kept_by : (v : Verdict) (k : List ℕ) (m n : ℕ) (f : Fields) (later : FeedOutcome) → verdict (take m k) ≡ v → m ≤ length k
    → (later.finding ≡ message n f → Kept later n f)
    → (further_by (finding_by v m) (closing v k m 1) later).finding ≡ message n f → Kept (further_by (finding_by v m) (closing v k m 1) later) n f
kept_by more k m n f later v b h e =
    let r = h e in
    record { stand = r.stand; count = r.count; accepts = r.accepts; size = r.size }
kept_by (complete g) k m n f later v b h e =
    let sizes : m ≡ n = cc in
    let fields : g ≡ f = cc in
    record {
      stand = refl;
      count = sizes;
      accepts = rw (← sizes) (complete_accepts (take m k) f (v ∙ ap complete fields));
      size = rw (← sizes) (length-take-le m k b);
    }
kept_by (refused g) k m n f later v b h e = absurd (cc)

message_kept : (piece : List ℕ) (s : State) (n : ℕ) (f : Fields) → Roomy s → (taking s piece).finding ≡ message n f → Kept (taking s piece) n f
message_kept [] s n f r e = absurd (still_no_message s.stand n f (ap (λ (o : FeedOutcome). o.finding) (sym (taking_nil s)) ∙ e))
message_kept (x ∷ l) s n f r e = go (λ t q h. message_kept l t n f q h) (byte s x)
  where
    small : begun s < room
    small = begun_room s.stand s.count

    same : length (set s.kept (begun s) x) ≡ room
    same = length-set s.kept (begun s) x ∙ r

    go : ((t : State) → Roomy t → (taking t l).finding ≡ message n f → Kept (taking t l) n f) → Byte s x → Kept (taking s (x ∷ l)) n f
    go later (repeats g q b) = absurd (still_no_message s.stand n f (ap (λ (o : FeedOutcome). o.finding) (refused_takes s g (x ∷ l) q) ∙ e))
    go later (goes_in v q b o) =
        let eq = taking_cons s x l _ b in
        rw eq (kept_by v _ _ n f _ q (omega (arith, small, same)) (later _ same) (ap (λ (p : FeedOutcome). p.finding) (sym eq) ∙ e))

pub found_is_held : FoundIsHeld
found_is_held f piece t n e m r p found h =
    let finding : (told_taken t).finding ≡ message n (told_envelope e) = ap told_found found in
    let k : Kept (told_taken t) n (told_envelope e) =
    subst (λ (o : FeedOutcome). Kept o n (told_envelope e)) (sym p) (message_kept piece (told_feed f) n (told_envelope e) r (ap (λ (o : FeedOutcome). o.finding) (sym p) ∙ finding)) in
    let size : size_by (told_standing t.feed.beside.standing) t.feed.beside.count ≡ n = ap (λ (s : Stand). size_by s t.feed.beside.count) k.stand ∙ k.count in
    let same : take n t.feed.kept ≡ m = sym (h ∙ ap (λ (j : ℕ). take j t.feed.kept) size) in (
      ap (λ (g : Finding). found_by g t.feed.kept) finding ∙ ap (λ (x : List ℕ). x ∷ []) same,
      ap reading (sym same) ∙ k.accepts,
      ap length (sym same) ∙ k.size,
    )
