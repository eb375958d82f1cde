-- A call by itself: how many bytes it uses, and that the last of them settled what it found. So a run of calls comes to an end.
-- Both go byte by byte, as the definition does.
use mathlib.Core.List.{List, [], ◌∷◌, ◌++◌, append-nil}
use mathlib.Core.Path.{◌≡◌, refl, ap, sym, ◌∙◌, subst}
use Prim.Native.Nat.{ℕ, zero, suc, ◌≤◌, ◌<◌, ◌-◌}
use native.Mathlib.Omega.{arith}
use lib.ListN.{length, drop, length-drop}
use Rattle.feed.specs.Cutting.{over, stopped, call, no_calls, call_then, Uses, UsesBytes, SettledBy, LastUsedSettles, Answered, Run, RunsEnd}
use Rattle.feed.specs.Feeding.{Stand, refused, State, nothing, FeedOutcome, closing, finding_by, standing, still, byte_in, further_by, taking}
use Rattle.feed.specs.Stream.{Course, streaming}
use Rattle.feed.specs.Told.{told_standing, told_feed}
use Rattle.feed.specs.Verdict.{FeedRefusal, Verdict, more, complete, refused}
use Rattle.feed.specs.declared.feeder.Feed.{Feed}
use Rattle.feed.specs.declared.step.Standing.{Standing}
use Rattle.feed.specs.declared.step.Standing.TheVariants.{Inside, Whole, Refused}
use Rattle.feed.proofs.RunLaws.{Byte, repeats, goes_in, byte, streaming_nil, streaming_cons}
use Rattle.feed.proofs.TakingLaws.{taking_nil, taking_cons}

-- ---- findings differ

pub refusal_not_nothing : (f : FeedRefusal) → refused f ≡ nothing → ⊥
refusal_not_nothing f e = cc

pub refused_not_going : (t : Stand) (f : FeedRefusal) → t ≡ refused f → standing t ≡ nothing → ⊥
refused_not_going t f e o = refusal_not_nothing f (ap standing (sym e) ∙ o)

-- ---- how many bytes

uses_by : (v : Verdict) (s : State) (x : ℕ) (l k : List ℕ) (n : ℕ) → Uses (closing v k n 1).state l (taking (closing v k n 1).state l)
    → Uses s (x ∷ l) (further_by (finding_by v n) (closing v k n 1) (taking (closing v k n 1).state l))
uses_by more s x l k n u =
    record { within = omega (arith, u.within); some = λ g h. omega arith; all = λ e. let q = u.all e in omega arith }
uses_by (complete f) s x l k n u = record { within = omega arith; some = λ g h. omega arith; all = λ e. absurd (cc) }
uses_by (refused f) s x l k n u = record { within = omega arith; some = λ g h. omega arith; all = λ e. absurd (cc) }

repeats_finding : (s : State) (x : ℕ) (l : List ℕ) (f : FeedRefusal) → s.stand ≡ refused f → byte_in s x ≡ still s
    → taking s (x ∷ l) ≡ record { state = s; used = 0; finding = refused f }
repeats_finding s x l f e b =
    taking_cons s x l _ b ∙ ap (λ (t : Stand). further_by (standing t) (record { state = s; used = 0; finding = standing t }) (taking s l)) e

uses : (piece : List ℕ) (s : State) → Uses s piece (taking s piece)
uses [] s = rw (taking_nil s) (record { within = omega arith; some = λ g h. absurd (omega arith); all = λ e. refl })
uses (x ∷ l) s = go (λ t. uses l t) (byte s x)
  where
    go : ((t : State) → Uses t l (taking t l)) → Byte s x → Uses s (x ∷ l) (taking s (x ∷ l))
    go later (repeats f e b) =
        rw (repeats_finding s x l f e b)
        (record { within = omega arith; some = λ g h. absurd (refused_not_going s.stand f e g); all = λ z. absurd (cc) })
    go later (goes_in v q b o) = rw (taking_cons s x l _ b) (uses_by v s x l _ _ (later _))

pub uses_bytes : UsesBytes
uses_bytes f piece t p = subst (Uses (told_feed f) piece) (sym p) (uses piece (told_feed f))

-- ---- the last byte used

-- it is the first of what is left
settled_first : (s : State) (x : ℕ) (l : List ℕ) (o : FeedOutcome) → byte_in s x ≡ o → o.used ≡ 1 → standing s.stand ≡ nothing → SettledBy s (x ∷ l) o
settled_first s x l o b one g =
    let none = streaming_nil s in
    let e : byte_in (streaming s []).state x ≡ o = ap (λ (c : Course). byte_in c.state x) none ∙ b in
    record {
      before = [];
      last = x;
      left = l;
      cut_there = refl;
      used_up_to = one;
      none_found = ap (λ (c : Course). c.found) none;
      none_refused = ap (λ (c : Course). standing c.state.stand) none ∙ g;
      settles = (ap (λ (p : FeedOutcome). p.finding) e, ap (λ (p : FeedOutcome). p.state) e);
    }

-- it comes later
settled_later : (s : State) (x : ℕ) (l k : List ℕ) (n : ℕ) (later : FeedOutcome) → byte_in s x ≡ closing more k n 1
    → SettledBy (closing more k n 1).state l later → SettledBy s (x ∷ l) (further_by nothing (closing more k n 1) later)
settled_later s x l k n later b r =
    let e = streaming_cons s x r.before _ b in
    let to : (streaming s (x ∷ r.before)).state ≡ (streaming (closing more k n 1).state r.before).state = ap (λ (c : Course). c.state) e in
    record {
      before = x ∷ r.before;
      last = r.last;
      left = r.left;
      cut_there = ap (λ (z : List ℕ). x ∷ z) r.cut_there;
      used_up_to = omega (arith, r.used_up_to);
      none_found = ap (λ (c : Course). c.found) e ∙ r.none_found;
      none_refused = ap (λ (t : State). standing t.stand) to ∙ r.none_refused;
      settles = (ap (λ (t : State). (byte_in t r.last).finding) to ∙ r.settles.0, ap (λ (t : State). (byte_in t r.last).state) to ∙ r.settles.1);
    }

abbrev SettledWhere : State → List ℕ → Type 0
SettledWhere s piece = standing s.stand ≡ nothing → ((taking s piece).finding ≡ nothing → ⊥) → SettledBy s piece (taking s piece)

settled_by_lem : (v : Verdict) (s : State) (x : ℕ) (l k : List ℕ) (n : ℕ) → byte_in s x ≡ closing v k n 1 → standing s.stand ≡ nothing
    → SettledWhere (closing v k n 1).state l
    → ((further_by (finding_by v n) (closing v k n 1) (taking (closing v k n 1).state l)).finding ≡ nothing → ⊥)
    → SettledBy s (x ∷ l) (further_by (finding_by v n) (closing v k n 1) (taking (closing v k n 1).state l))
settled_by_lem more s x l k n b g later d = settled_later s x l k n _ b (later refl d)
settled_by_lem (complete f) s x l k n b g later d = settled_first s x l _ b refl g
settled_by_lem (refused f) s x l k n b g later d = settled_first s x l _ b refl g

settled : (piece : List ℕ) (s : State) → SettledWhere s piece
settled [] s g d = absurd (d (ap (λ (o : FeedOutcome). o.finding) (taking_nil s) ∙ g))
settled (x ∷ l) s g d = go (λ t. settled l t) (byte s x)
  where
    go : ((t : State) → SettledWhere t l) → Byte s x → SettledBy s (x ∷ l) (taking s (x ∷ l))
    go later (repeats f e b) = absurd (refused_not_going s.stand f e g)
    go later (goes_in v q b o) =
        let eq = taking_cons s x l _ b in
        rw eq (settled_by_lem v s x l _ _ b g (later _) (λ z. d (ap (λ (p : FeedOutcome). p.finding) eq ∙ z)))

pub last_used_settles : LastUsedSettles
last_used_settles f piece t p g d =
    subst (SettledBy (told_feed f) piece) (sym p) (settled piece (told_feed f) g (λ z. d (ap (λ (o : FeedOutcome). o.finding) p ∙ z)))

-- ---- there is a run

abbrev Answers : Type 0
Answers = (f : Feed) (piece : List ℕ) → Answered f piece

abbrev RunsBelow : ℕ → Type 0
RunsBelow most = (f : Feed) (bytes : List ℕ) → length bytes ≤ most → Run f bytes

run_none : RunsBelow 0
run_none f [] h = record { came = no_calls f; calls = over }
run_none f (x ∷ l) h = absurd (omega arith)

-- one call more: it uses a byte at least
run_more : Answers → (most : ℕ) → RunsBelow most → RunsBelow (suc most)
run_more answer most later f [] h = record { came = no_calls f; calls = over }
run_more answer most later f (x ∷ l) h = go f.beside.standing refl
  where
    one : standing (told_feed f).stand ≡ nothing → Run f (x ∷ l)
    one g =
        let a = answer f (x ∷ l) in
        let some : 0 < a.taken.used = (uses_bytes f (x ∷ l) a.taken a.promised).some g (omega arith) in
        let left = drop a.taken.used (x ∷ l) ++ [] in
        let size : length left ≡ length (x ∷ l) - a.taken.used = ap length (append-nil (drop a.taken.used (x ∷ l))) ∙ length-drop a.taken.used (x ∷ l) in
        let r = later a.taken.feed left (omega arith) in
        record {
          came = call_then a.taken r.came;
          calls = call (x ∷ l) [] a.taken (sym (append-nil (x ∷ l))) a.promised r.calls;
        }

    go : (s : Standing) → f.beside.standing ≡ s → Run f (x ∷ l)
    go Inside e = one (ap (λ (s : Standing). standing (told_standing s)) e)
    go Whole e = one (ap (λ (s : Standing). standing (told_standing s)) e)
    go (Refused fault) e = record { came = no_calls f; calls = stopped fault e }

run_on : Answers → (most : ℕ) → RunsBelow most
run_on answer zero = run_none
run_on answer (suc most) = run_more answer most (run_on answer most)

pub runs_end : RunsEnd
runs_end answer f bytes = run_on answer (length bytes) f bytes (omega arith)
