-- A call takes the front of the stream off, so any run of calls is the stream byte by byte, wherever it is cut.
-- First the stream: byte by byte, in two parts, and after a refusal.
use mathlib.Core.List.{List, [], ◌∷◌, ◌++◌, append_assoc}
use mathlib.Core.Path.{◌≡◌, refl, ap, sym, ◌∙◌}
use Prim.Native.Nat.{ℕ, suc, ◌+◌}
use native.Mathlib.Omega.{arith}
use lib.ListN.{take, drop, set}
use Rattle.feed.specs.Cutting.{Came, over, stopped, call, told_came, CutAnywhere, EndAnywhere, AsDefined, AdvanceIsTake, CloseIsEnd}
use Rattle.feed.specs.Feeding.{Stand, inside, whole, refused, State, begun, nothing, FeedOutcome, closing, finding_by, standing, still, byte_in, further_by, taking}
use Rattle.feed.specs.Stream.{found_by, found_in, Course, no_bytes, onward, streaming}
use Rattle.feed.specs.Told.{told_feed_refusal, told_standing, told_feed, told_taken}
use Rattle.feed.specs.Verdict.{FeedRefusal, Verdict, more, complete, refused, verdict}
use Rattle.feed.proofs.OnlyLaws.{untold_feed, untold_feed_lem, only_ends}
use Rattle.feed.proofs.StandLaws.{refused_byte, refused_takes, byte_goes_in, going_on, anew, end_uses_none}
use Rattle.feed.proofs.TakingLaws.{taking_nil, taking_cons}

-- ---- the stream, a byte at a time

pub streaming_nil : (s : State) → streaming s [] ≡ no_bytes s
unfolding streaming
streaming_nil s = refl

pub streaming_cons : (s : State) (x : ℕ) (l : List ℕ) (o : FeedOutcome) → byte_in s x ≡ o → streaming s (x ∷ l) ≡ onward o (streaming o.state l)
unfolding streaming
streaming_cons s x l o e = ap (λ (p : FeedOutcome). onward p (streaming p.state l)) e

-- what a byte does: a refusal that stands is repeated, or the byte goes in and gives a verdict
pub data Byte (s : State) (x : ℕ) : Type 0 where
  repeats : (f : FeedRefusal) → s.stand ≡ refused f → byte_in s x ≡ still s → Byte s x
  goes_in : (v : Verdict) → verdict (take (suc (begun s)) (set s.kept (begun s) x)) ≡ v
      → byte_in s x ≡ closing v (set s.kept (begun s) x) (suc (begun s)) 1 → standing s.stand ≡ nothing → Byte s x

pub byte : (s : State) (x : ℕ) → Byte s x
byte s x = go s.stand refl
  where
    go : (t : Stand) → s.stand ≡ t → Byte s x
    go inside e = goes_in _ refl (byte_goes_in s s.stand x refl (rw e going_on)) (ap standing e)
    go whole e = goes_in _ refl (byte_goes_in s s.stand x refl (rw e anew)) (ap standing e)
    go (refused f) e = repeats f e (refused_byte s f x e)

-- where nothing is used the stream is as it was
still_finds : (t : Stand) (k : List ℕ) → found_by (standing t) k ≡ []
still_finds inside k = refl
still_finds whole k = refl
still_finds (refused f) k = refl

pub still_first : (s : State) (c : Course) → c ≡ onward (still s) c
still_first s c =
    let none : c.used ≡ 0 + c.used = omega arith in λ i.
    record { found = sym (still_finds s.stand s.kept) i ++ c.found; used = none i; state = c.state }

pub refused_stream : (bytes : List ℕ) (s : State) (f : FeedRefusal) → s.stand ≡ refused f → streaming s bytes ≡ no_bytes s
refused_stream [] s f e = streaming_nil s
refused_stream (x ∷ l) s f e = streaming_cons s x l _ (refused_byte s f x e) ∙ sym (still_first s (streaming s l)) ∙ refused_stream l s f e

-- ---- in two parts

abbrev pub followed : Course → Course → Course
followed a b = record { found = a.found ++ b.found; used = a.used + b.used; state = b.state }

none_followed : (s : State) (c : Course) → c ≡ followed (no_bytes s) c
none_followed s c = let none : c.used ≡ 0 + c.used = omega arith in λ i. record { found = c.found; used = none i; state = c.state }

onward_followed : (o : FeedOutcome) (a b : Course) → onward o (followed a b) ≡ followed (onward o a) b
onward_followed o a b =
    let sum : o.used + (a.used + b.used) ≡ o.used + a.used + b.used = omega arith in λ i.
    record { found = sym (append_assoc (found_in o) a.found b.found) i; used = sum i; state = b.state }

pub in_parts : (s : State) (a b : List ℕ) → streaming s (a ++ b) ≡ followed (streaming s a) (streaming (streaming s a).state b)
in_parts s [] b = none_followed s (streaming s b) ∙ ap (λ (c : Course). followed c (streaming c.state b)) (sym (streaming_nil s))
in_parts s (x ∷ a) b =
    let o = byte_in s x in
    let front = streaming o.state a in
    streaming_cons s x (a ++ b) o refl
    ∙ ap (onward o) (in_parts o.state a b)
    ∙ onward_followed o front (streaming front.state b)
    ∙ ap (λ (c : Course). followed c (streaming c.state b)) (sym (streaming_cons s x a o refl))

-- ---- a call takes the front off

abbrev Front : State → List ℕ → FeedOutcome → Type 0
Front s l o = streaming s l ≡ onward o (streaming o.state (drop o.used l))

onward_onward : (k : List ℕ) (n : ℕ) (o : FeedOutcome) (c : Course)
    → onward (closing more k n 1) (onward o c) ≡ onward (further_by nothing (closing more k n 1) o) c
onward_onward k n o c =
    let sum : 1 + (o.used + c.used) ≡ 1 + o.used + c.used = omega arith in λ i.
    record { found = found_in o ++ c.found; used = sum i; state = c.state }

front_byte : (v : Verdict) (s : State) (x : ℕ) (l k : List ℕ) (n : ℕ) → byte_in s x ≡ closing v k n 1
    → Front (closing v k n 1).state l (taking (closing v k n 1).state l)
    → Front s (x ∷ l) (further_by (finding_by v n) (closing v k n 1) (taking (closing v k n 1).state l))
front_byte more s x l k n e h =
    let later = taking (closing more k n 1).state l in
    let one : suc later.used ≡ 1 + later.used = omega arith in
    streaming_cons s x l _ e
    ∙ ap (onward (closing more k n 1)) h
    ∙ onward_onward k n later (streaming later.state (drop later.used l))
    ∙ ap (λ (m : ℕ). onward (further_by nothing (closing more k n 1) later) (streaming later.state (drop m (x ∷ l)))) one
front_byte (complete f) s x l k n e h = streaming_cons s x l _ e
front_byte (refused f) s x l k n e h = streaming_cons s x l _ e

pub front : (l : List ℕ) (s : State) → Front s l (taking s l)
front [] s = rw (taking_nil s) (still_first s (streaming s []))
front (x ∷ l) s = go (λ t. front l t) (byte s x)
  where
    go : ((t : State) → Front t l (taking t l)) → Byte s x → Front s (x ∷ l) (taking s (x ∷ l))
    go later (repeats f e b) = rw (← refused_takes s f (x ∷ l) e) (still_first s (streaming s (x ∷ l)))
    go later (goes_in v q b o) = rw (taking_cons s x l _ b) (front_byte v s x l _ _ b (later _))

-- ---- any run of calls

-- one call, and the rest of the stream
front_and_rest : (s : State) (piece rest : List ℕ) (o : FeedOutcome) → o ≡ taking s piece
    → onward o (streaming o.state (drop o.used piece ++ rest)) ≡ streaming s (piece ++ rest)
front_and_rest s piece rest o e =
    let left = drop o.used piece in
    let behind = streaming o.state left in
    let f : Front s piece o = rw e (front piece s) in
    ap (onward o) (in_parts o.state left rest)
    ∙ onward_followed o behind (streaming behind.state rest)
    ∙ ap (λ (c : Course). followed c (streaming c.state rest)) (sym f)
    ∙ sym (in_parts s piece rest)

pub as_defined : AsDefined
as_defined f bytes c over = sym (streaming_nil (told_feed f))
as_defined f bytes c (stopped fault e) = sym (refused_stream bytes (told_feed f) (told_feed_refusal fault) (ap told_standing e))
as_defined f bytes c (call piece rest t e p more-calls) =
    ap (onward (told_taken t)) (as_defined t.feed (drop t.used piece ++ rest) _ more-calls)
    ∙ front_and_rest (told_feed f) piece rest (told_taken t) p
    ∙ ap (streaming (told_feed f)) (sym e)

abbrev untold_came : Course → Came
untold_came c = record { found = c.found; used = c.used; feed = untold_feed c.state }

untold_came_lem : (c : Came) → untold_came (told_came c) ≡ c
untold_came_lem c = λ i. record { found = c.found; used = c.used; feed = untold_feed_lem c.feed i }

pub cut_anywhere : CutAnywhere
cut_anywhere f bytes a b ra rb =
    sym (untold_came_lem a) ∙ ap untold_came (as_defined f bytes a ra ∙ sym (as_defined f bytes b rb)) ∙ untold_came_lem b

pub end_anywhere : EndAnywhere
end_anywhere f bytes a b d e ra rb ed ee =
    only_ends b.feed d e (rw (← ap (λ (c : Came). c.feed) (cut_anywhere f bytes a b ra rb)) ed) ee

-- ---- a feed that is lent in parts

pub advance_is_take : AdvanceIsTake
advance_is_take f piece exit r p = p

pub close_is_end : CloseIsEnd
close_is_end f r p = end_uses_none (told_feed f) _ (p f.kept)
