-- The bytes of one message, from a feed between messages: silent up to the byte that settles them, and then what the verdict on them says.
-- A message that fits, a heading of 17 bytes and an announced length that is in are three cases of it.
use mathlib.Core.Bool.{Bool, true, false}
use mathlib.Core.List.{List, [], ◌∷◌, ◌++◌, append-nil}
use mathlib.Core.Path.{◌≡◌, refl, ap, ap₂, sym, ◌∙◌, subst}
use Prim.Native.Nat.{ℕ, suc, ◌≤◌, ◌<◌, ◌+◌}
use native.Mathlib.Omega.{arith}
use borrow.Author.Tests.{ltb-true, ltb-false}
use lib.Dec.{ltb}
use lib.ListN.{length, take, drop, set, length-set, length-append, length-replicate}
use lib.Seq.{sets, take-suc-set, length-sets, append_snoc, drop-append_seam}
use Rattle.envelope.proofs.AnnouncingLaws.{announcing_more, announcing_accepted, announces_least}
use Rattle.envelope.specs.Announcing.{announces, announcing}
use Rattle.envelope.specs.Layout.{header_size}
use Rattle.envelope.specs.Told.{told_envelope}
use Rattle.feed.specs.Cutting.{Came, Calls}
use Rattle.feed.specs.Feeding.{whole, State, fresh, begun, nothing, FeedOutcome, finding_by, closing, standing, byte_in, further_by, taking}
use Rattle.feed.specs.Helpers.{opened}
use Rattle.feed.specs.Messages.{FoundInOnePiece, Fits, AllFit, none, also, joined, Between, NewIsBetween, AllAreFound, Silent, FoundAtItsLastByte, RefusedWith, RefusedInOnePiece, OfThe17th, RefusedAtThe17th, Complete, RefusedWhenComplete}
use Rattle.feed.specs.Stream.{found_in, Course, no_bytes, onward, streaming}
use Rattle.feed.specs.Told.{told_feed_refusal, told_feed}
use Rattle.feed.specs.Verdict.{room, FeedRefusal, Verdict, more, complete, refused, settled, verdict}
use Rattle.feed.specs.declared.feeder.Feed.{Feed}
use Rattle.feed.proofs.LaidLaws.{in_length, laid_front}
use Rattle.feed.proofs.RunLaws.{Byte, repeats, goes_in, byte, streaming_nil, streaming_cons, refused_stream, followed, front, as_defined}
use Rattle.feed.proofs.TakingLaws.{byte_in_lem, taking_cons}
use Rattle.feed.proofs.UseLaws.{refused_not_going}
use Rattle.feed.proofs.VerdictLaws.{verdict_short, verdict_more, verdict_whole}

-- ---- bytes that nothing settles before their last

record Settling (m : List ℕ) : Type 0 where
  short : length m ≤ room
  quiet : (p q : List ℕ) → p ++ q ≡ m → 0 < length q → verdict p ≡ more

heading_settles : (m : List ℕ) → length m ≡ header_size → Settling m
heading_settles m h = record { short = omega arith; quiet = before }
  where
    before : (p q : List ℕ) → p ++ q ≡ m → 0 < length q → verdict p ≡ more
    before p q e some = verdict_short p (omega (arith, length-append p q, ap length e))

announced_settles : (m : List ℕ) → announcing m ≡ announces (length m) → length m ≤ room → Settling m
announced_settles m a h = record { short = h; quiet = before }
  where
    before : (p q : List ℕ) → p ++ q ≡ m → 0 < length q → verdict p ≡ more
    before p q e some = go (ltb (length p) header_size) refl
      where
        go : (b : Bool) → ltb (length p) header_size ≡ b → verdict p ≡ more
        go true t = verdict_short p (ltb-true (length p) header_size t)
        go false t =
            let says = sym (announcing_more p q (ltb-false (length p) header_size t)) ∙ ap announcing e ∙ a in
            verdict_more p (length m) says h (omega (arith, length-append p q, ap length e))

fits_announces : (m : List ℕ) → Fits m → announcing m ≡ announces (length m)
fits_announces m f = announcing_accepted m f.fields f.accepts

fits_settles : (m : List ℕ) → Fits m → Settling m
fits_settles m f = announced_settles m (fits_announces m f) f.short

fits_verdict : (m : List ℕ) (f : Fits m) → verdict m ≡ complete f.fields
fits_verdict m f = verdict_whole m (length m) (fits_announces m f) f.short (omega arith) ∙ ap settled f.accepts

-- ---- byte after byte, from n bytes that are in

abbrev closed : Verdict → List ℕ → ℕ → ℕ → Course
closed v k n used = record { found = found_in (closing v k n used); used = used; state = (closing v k n used).state }

snoc_in : (k : List ℕ) (n x : ℕ) (l : List ℕ) → n < length k → take (suc n) (set k n x) ++ l ≡ take n k ++ (x ∷ l)
snoc_in k n x l h = ap (λ (z : List ℕ). z ++ l) (take-suc-set k n x h) ∙ append_snoc (take n k) x l

-- one byte of which nothing comes yet
quiet_byte : (k : List ℕ) (n x : ℕ) (l : List ℕ) → length k ≡ room → n < room → 0 < length l → Settling (take n k ++ (x ∷ l))
    → (byte_in (opened k n) x ≡ closing more (set k n x) (suc n) 1) × Settling (take (suc n) (set k n x) ++ l) × (suc n < room)
quiet_byte k n x l hk h some s =
    let here : n < length k = omega arith in
    let e = snoc_in k n x l here in
    let s' : Settling (take (suc n) (set k n x) ++ l) = subst Settling (sym e) s in
    let v = s.quiet (take (suc n) (set k n x)) l e some in (
      byte_in_lem k n x h ∙ ap (λ (u : Verdict). closing u (set k n x) (suc n) 1) v,
      s',
      omega (arith, s'.short, length-append (take (suc n) (set k n x)) l, in_length k n x here),
    )

-- while a byte is missing
waits : (p : List ℕ) (k : List ℕ) (n : ℕ) (q : List ℕ) → length k ≡ room → n < room → 0 < length q → Settling (take n k ++ (p ++ q))
    → streaming (opened k n) p ≡ closed more (sets k n p) (n + length p) (length p)
waits [] k n q hk h some s = let e : n ≡ n + 0 = omega arith in streaming_nil (opened k n) ∙ ap (λ (m : ℕ). no_bytes (opened k m)) e
waits (x ∷ p) k n q hk h some s =
    let b = quiet_byte k n x (p ++ q) hk h (omega (arith, length-append p q)) s in
    let in_all : suc n + length p ≡ n + length (x ∷ p) = omega arith in
    let used : 1 + length p ≡ length (x ∷ p) = omega arith in
    streaming_cons (opened k n) x p _ b.0
    ∙ ap (onward (closing more (set k n x) (suc n) 1)) (waits p (set k n x) (suc n) q (length-set k n x ∙ hk) b.2 some b.1)
    ∙ ap₂ (λ (m u : ℕ). closed more (sets k n (x ∷ p)) m u) in_all used

-- what a call then finds, whatever follows
abbrev Final : Verdict → Type 0
Final v = (k : List ℕ) (n used : ℕ) (later : FeedOutcome) → further_by (finding_by v n) (closing v k n used) later ≡ closing v k n used

-- with the last byte
settles : (l : List ℕ) (x : ℕ) (rest k : List ℕ) (n : ℕ) (v : Verdict) → Final v → length k ≡ room → n < room
    → Settling (take n k ++ (x ∷ l)) → verdict (take n k ++ (x ∷ l)) ≡ v
    → taking (opened k n) (x ∷ (l ++ rest)) ≡ closing v (sets k n (x ∷ l)) (n + length (x ∷ l)) (length (x ∷ l))
settles [] x rest k n v last hk h s e =
    let all : take (suc n) (set k n x) ≡ take n k ++ (x ∷ []) = take-suc-set k n x (omega arith) in
    let b = byte_in_lem k n x h ∙ ap (λ (u : Verdict). closing u (set k n x) (suc n) 1) (ap verdict all ∙ e) in
    let in_all : suc n ≡ n + 1 = omega arith in
    taking_cons (opened k n) x rest _ b
    ∙ last (set k n x) (suc n) 1 _
    ∙ ap (λ (m : ℕ). closing v (set k n x) m 1) in_all
settles (y ∷ l) x rest k n v last hk h s e =
    let b = quiet_byte k n x (y ∷ l) hk h (omega arith) s in
    let in_all : suc n + length (y ∷ l) ≡ n + length (x ∷ y ∷ l) = omega arith in
    let used : 1 + length (y ∷ l) ≡ length (x ∷ y ∷ l) = omega arith in
    let e' = ap verdict (snoc_in k n x (y ∷ l) (omega arith)) ∙ e in
    taking_cons (opened k n) x (y ∷ (l ++ rest)) _ b.0
    ∙ ap (further_by nothing (closing more (set k n x) (suc n) 1)) (settles l y rest (set k n x) (suc n) v last (length-set k n x ∙ hk) b.2 b.1 e')
    ∙ ap₂ (λ (m u : ℕ). closing v (sets k n (x ∷ y ∷ l)) m u) in_all used

-- ---- from a feed between messages

between_byte : (s : State) (x : ℕ) → Between s → byte_in s x ≡ byte_in (opened s.kept 0) x
between_byte s x w = go (byte s x)
  where
    go : Byte s x → byte_in s x ≡ byte_in (opened s.kept 0) x
    go (repeats f e b) = absurd (refused_not_going s.stand f e w.going)
    go (goes_in v q b o) =
        b
        ∙ ap (λ (u : Verdict). closing u (set s.kept (begun s) x) (suc (begun s)) 1) (sym q)
        ∙ ap (λ (n : ℕ). closing (verdict (take (suc n) (set s.kept n x))) (set s.kept n x) (suc n) 1) w.none
        ∙ sym (byte_in_lem s.kept 0 x (omega arith))

between_same : (s : State) (x : ℕ) (l : List ℕ) → Between s → streaming s (x ∷ l) ≡ streaming (opened s.kept 0) (x ∷ l)
between_same s x l w = streaming_cons s x l _ (between_byte s x w) ∙ sym (streaming_cons (opened s.kept 0) x l _ refl)

silent_front : (s : State) (p q : List ℕ) → Between s → Settling (p ++ q) → 0 < length q
    → ((streaming s p).found ≡ []) × ((streaming s p).used ≡ length p) × (standing (streaming s p).state.stand ≡ nothing)
silent_front s [] q w m some = rw (streaming_nil s) (refl, refl, w.going)
silent_front s (x ∷ p) q w m some =
    let e = between_same s x p w ∙ waits (x ∷ p) s.kept 0 q w.roomy (omega arith) some m in
    (ap (λ (c : Course). c.found) e, ap (λ (c : Course). c.used) e, ap (λ (c : Course). standing c.state.stand) e)

between_takes : (s : State) (x : ℕ) (l : List ℕ) → Between s → taking s (x ∷ l) ≡ taking (opened s.kept 0) (x ∷ l)
between_takes s x l w = taking_cons s x l _ (between_byte s x w) ∙ sym (taking_cons (opened s.kept 0) x l _ refl)

-- m stands at the front of the room, and this verdict was given on it
abbrev settled_as : Verdict → State → List ℕ → FeedOutcome
settled_as v s m = closing v (sets s.kept 0 m) (length m) (length m)

piece_settles : (s : State) (m rest : List ℕ) (v : Verdict) → Between s → Settling m → 0 < length m → verdict m ≡ v → Final v
    → taking s (m ++ rest) ≡ settled_as v s m
piece_settles s [] rest v w st some e last = absurd (omega arith)
piece_settles s (x ∷ l) rest v w st some e last =
    let in_all : 0 + length (x ∷ l) ≡ length (x ∷ l) = omega arith in
    between_takes s x (l ++ rest) w
    ∙ settles l x rest s.kept 0 v last w.roomy (omega arith) st e
    ∙ ap (λ (n : ℕ). closing v (sets s.kept 0 (x ∷ l)) n (length (x ∷ l))) in_all

stream_settles : (s : State) (m rest : List ℕ) (v : Verdict) → Between s → Settling m → 0 < length m → verdict m ≡ v → Final v
    → streaming s (m ++ rest) ≡ onward (settled_as v s m) (streaming (settled_as v s m).state rest)
stream_settles s m rest v w st some e last =
    front (m ++ rest) s
    ∙ ap (λ (o : FeedOutcome). onward o (streaming o.state (drop o.used (m ++ rest)))) (piece_settles s m rest v w st some e last)
    ∙ ap (λ (l : List ℕ). onward (settled_as v s m) (streaming (settled_as v s m).state l)) (drop-append_seam m rest)

-- ---- a message

fits_some : (m : List ℕ) → Fits m → 0 < length m
fits_some m f = omega (arith, announces_least m (length m) (fits_announces m f))

at_the_front : (k m : List ℕ) → length k ≡ room → length m ≤ room → take (length m) (sets k 0 m) ≡ m
at_the_front k m hk h =
    let none : length m ≡ 0 + length m = omega arith in
    ap (λ (n : ℕ). take n (sets k 0 m)) none ∙ laid_front k m 0 (omega arith)

abbrev holds : State → List ℕ → State
holds s m = record { kept = sets s.kept 0 m; count = length m; stand = whole }

-- its fields come along
message_in_piece : (s : State) (m rest : List ℕ) (f : Fits m) → Between s → taking s (m ++ rest) ≡ settled_as (complete f.fields) s m
message_in_piece s m rest f w =
    piece_settles s m rest (complete f.fields) w (fits_settles m f) (fits_some m f) (fits_verdict m f) (λ k n used later. refl)

message_in_stream : (s : State) (m rest : List ℕ) → Between s → Fits m
    → streaming s (m ++ rest) ≡ followed (record { found = m ∷ []; used = length m; state = holds s m }) (streaming (holds s m) rest)
message_in_stream s m rest w f =
    stream_settles s m rest (complete f.fields) w (fits_settles m f) (fits_some m f) (fits_verdict m f) (λ k n used later. refl)
    ∙ ap (λ (x : List ℕ). followed (record { found = x ∷ []; used = length m; state = holds s m }) (streaming (holds s m) rest))
    (at_the_front s.kept m w.roomy f.short)

one_message : (s : State) (m : List ℕ) → Between s → Fits m → streaming s m ≡ record { found = m ∷ []; used = length m; state = holds s m }
one_message s m w f =
    let none : length m + 0 ≡ length m = omega arith in
    ap (streaming s) (sym (append-nil m))
    ∙ message_in_stream s m [] w f
    ∙ ap (followed (record { found = m ∷ []; used = length m; state = holds s m })) (streaming_nil (holds s m))
    ∙ ap (λ (n : ℕ). record { found = m ∷ []; used = n; state = holds s m }) none

holds_between : (s : State) (m : List ℕ) → Between s → Between (holds s m)
holds_between s m w = record { roomy = length-sets s.kept 0 m ∙ w.roomy; going = refl; none = refl }

all_found : (s : State) (ms : List (List ℕ)) → Between s → AllFit ms
    → ((streaming s (joined ms)).found ≡ ms) × ((streaming s (joined ms)).used ≡ length (joined ms)) × Between (streaming s (joined ms)).state
all_found s [] w none = rw (streaming_nil s) (refl, refl, w)
all_found s (m ∷ ms) w (also f fs) =
    let rest = all_found (holds s m) ms (holds_between s m w) fs in
    let e = message_in_stream s m (joined ms) w f in (
      ap (λ (c : Course). c.found) e ∙ ap (λ (a : List (List ℕ)). m ∷ a) rest.0,
      ap (λ (c : Course). c.used) e ∙ omega (arith, rest.1, length-append m (joined ms)),
      subst Between (sym (ap (λ (c : Course). c.state) e)) rest.2,
    )

-- ---- of any run

new_between : (s : State) → s ≡ fresh → Between s
new_between s e = subst Between (sym e) (record { roomy = length-replicate {A = ℕ} room 0; going = refl; none = refl })

pub new_is_between : NewIsBetween
new_is_between f n = new_between (told_feed f) n

-- a piece that begins with a message: the call finds it, and nothing behind it is used
pub found_in_one_piece : FoundInOnePiece
found_in_one_piece f m rest e w short accepts =
    sym (message_in_piece (told_feed f) m rest (record { fields = told_envelope e; accepts = accepts; short = short }) w)

pub all_are_found : AllAreFound
all_are_found f ms c w fits calls =
    let d = as_defined f (joined ms) c calls in
    let a = all_found (told_feed f) ms w fits in (
      ap (λ (x : Course). x.found) d ∙ a.0,
      ap (λ (x : Course). x.used) d ∙ a.1,
      subst Between (sym (ap (λ (x : Course). x.state) d)) a.2,
    )

silent : (f : Feed) (p q : List ℕ) (c : Came) → Between (told_feed f) → Settling (p ++ q) → Calls f p c → 0 < length q → Silent p c
silent f p q c w m calls some =
    let d = as_defined f p c calls in
    let a = silent_front (told_feed f) p q w m some in
    record {
      none_found = ap (λ (x : Course). x.found) d ∙ a.0;
      all_used = ap (λ (x : Course). x.used) d ∙ a.1;
      none_refused = ap (λ (x : Course). standing x.state.stand) d ∙ a.2;
    }

pub found_at_its_last_byte : FoundAtItsLastByte
found_at_its_last_byte f p q c d w m before all =
    let e = as_defined f (p ++ q) d all ∙ one_message (told_feed f) (p ++ q) w m in (
      λ some. silent f p q c w (fits_settles (p ++ q) m) before some,
      ap (λ (x : Course). x.found) e,
      record { last_used = ap (λ (x : Course). x.used) e; leaves = ap (λ (x : Course). x.state) e },
    )

-- a refusal is the end of it, whatever follows
refused_there : (s : State) (m rest : List ℕ) (fault : FeedRefusal) → Between s → Settling m → 0 < length m → verdict m ≡ refused fault
    → streaming s (m ++ rest) ≡ record { found = []; used = length m; state = (settled_as (refused fault) s m).state }
refused_there s m rest fault w st some e =
    let at = (settled_as (refused fault) s m).state in
    let none : length m + 0 ≡ length m = omega arith in
    stream_settles s m rest (refused fault) w st some e (λ k n used later. refl)
    ∙ ap (onward (settled_as (refused fault) s m)) (refused_stream rest at fault refl)
    ∙ ap (λ (n : ℕ). record { found = []; used = n; state = at }) none

-- bytes of a kind that settles
abbrev AllSettle : (List ℕ → Type 0) → Type 0
AllSettle Case = (m : List ℕ) → Case m → Settling m × (0 < length m)

refused_with_lem : (Case : List ℕ → Type 0) → AllSettle Case → RefusedWith Case
refused_with_lem Case settling f p q rest fault c d w m e before all =
    let st = settling (p ++ q) m in
    let to = as_defined f ((p ++ q) ++ rest) d all ∙ refused_there (told_feed f) (p ++ q) rest fault w st.0 st.1 e in (
      λ some. silent f p q c w st.0 before some,
      ap (λ (x : Course). x.found) to,
      record { last_used = ap (λ (x : Course). x.used) to; leaves = ap (λ (x : Course). x.state) to },
    )

refused_in_one_piece : (Case : List ℕ → Type 0) → AllSettle Case → RefusedInOnePiece Case
refused_in_one_piece Case settling f m rest fault w h e =
    let st = settling m h in
    sym (piece_settles (told_feed f) m rest (refused (told_feed_refusal fault)) w st.0 st.1 e (λ k n used later. refl))

headings_settle : AllSettle OfThe17th
headings_settle m h = (heading_settles m h, omega arith)

complete_settle : AllSettle Complete
complete_settle m h = (announced_settles m h.0 h.1, omega (arith, announces_least m (length m) h.0))

pub refused_at_the_17th : RefusedAtThe17th
refused_at_the_17th = (refused_with_lem OfThe17th headings_settle, refused_in_one_piece OfThe17th headings_settle)

pub refused_when_complete : RefusedWhenComplete
refused_when_complete = (refused_with_lem Complete complete_settle, refused_in_one_piece Complete complete_settle)
