-- Where a refusal is told: with the 17th byte, as 2, 3, 4 or 51, or with the last announced byte, as 6 or 7.
-- A state that a feed comes to has settled nothing before, and one byte more keeps that.
use mathlib.Core.Bool.{Bool, true, false, cond}
use mathlib.Core.List.{List, [], ◌∷◌}
use mathlib.Core.Path.{◌≡◌, refl, ap, sym, ◌∙◌, subst}
use Prim.Native.Nat.{ℕ, suc, ◌≤◌, ◌<◌}
use native.Mathlib.Omega.{arith}
use borrow.Author.Tests.{ltb-true, ltb-false}
use lib.Dec.{ltb}
use lib.ListN.{length, take, set, length-set, length-replicate}
use lib.Seq.{length-take-le}
use Rattle.envelope.proofs.AnnouncingLaws as announced
use Rattle.envelope.proofs.ReadingLaws.{Completed, accepts_it, refuses_6, refuses_7}
use Rattle.envelope.specs.Announcing.{AnnouncementAnswer, unfinished, refused as refusedHeading, announces, announcing}
use Rattle.envelope.specs.Fields.{Refusal}
use Rattle.envelope.specs.Layout.{header_size}
use Rattle.envelope.specs.Reading.{reading}
use Rattle.feed.specs.Feeding.{Stand, inside, whole, refused, State, fresh, begun, closing, byte_in}
use Rattle.feed.specs.Messages.{Roomy, HeadingNumber, is_2, is_3, is_4, is_51, WholeNumber, is_6, is_7, Settles, at_17, at_announced, WhereRefused}
use Rattle.feed.specs.Stream.{Course, streaming}
use Rattle.feed.specs.Told.{told_feed_refusal, told_standing, told_feed}
use Rattle.feed.specs.Verdict.{room, FeedRefusal, reads, too_long, number_of, Verdict, more, complete, refused, settled, verdict}
use Rattle.feed.proofs.LaidLaws.{in_length}
use Rattle.feed.proofs.RunLaws.{Byte, repeats, goes_in, byte, streaming_nil, streaming_cons, as_defined}
use Rattle.feed.proofs.StandLaws.{begun_room}
use Rattle.feed.proofs.VerdictLaws.{verdict_by, verdict_short, verdict_whole, announcing_grown}
use Rattle.feed.proofs.WeighedLaws.{settled_not_more, Weighed, is_too_long, not_yet, all_in, weigh}

-- ---- where a refusal is told

-- what was expected when nothing was settled yet
pub record Expects (p : List ℕ) : Type 0 where
  pub whole : ℕ
  pub says : announcing p ≡ announces whole
  pub fits : whole ≤ room
  pub missing : length p < whole

pub expects : (p : List ℕ) → verdict p ≡ more → header_size ≤ length p → Expects p
expects p v h = go (announcing p) refl
  where
    by : (w : ℕ) → announcing p ≡ announces w → Weighed p w → Expects p
    by w a (is_too_long l e) = absurd (cc)
    by w a (not_yet l k e) = record { whole = w; says = a; fits = l; missing = k }
    by w a (all_in l k e) = absurd (settled_not_more (reading p) (sym e ∙ v))

    go : (a : AnnouncementAnswer) → announcing p ≡ a → Expects p
    go unfinished e = absurd (omega (arith, announced.unfinished_short p e))
    go (refusedHeading r) e = absurd (cc (verdict_by p (refusedHeading r) e))
    go (announces w) e = by w e (weigh p w e)

heading_number : (r : Refusal) → announced.HeadingRefusal r → HeadingNumber r.number
heading_number r (announced.as_2 e) = is_2 (ap (λ (q : Refusal). q.number) e)
heading_number r (announced.as_3 e) = is_3 (ap (λ (q : Refusal). q.number) e)
heading_number r (announced.as_4 e) = is_4 (ap (λ (q : Refusal). q.number) e)

bad_heading : (m : List ℕ) (f : FeedRefusal) → verdict m ≡ refused f → length m ≡ header_size → HeadingNumber (number_of f)
bad_heading m f v h = go (announcing m) refl
  where
    by : (w : ℕ) → announcing m ≡ announces w → Weighed m w → HeadingNumber (number_of f)
    by w a (is_too_long l e) = let same : f ≡ too_long = cc in is_51 (ap number_of same)
    by w a (not_yet l k e) = absurd (cc)
    by w a (all_in l k e) = absurd (omega (arith, announced.announces_least m w a))

    go : (a : AnnouncementAnswer) → announcing m ≡ a → HeadingNumber (number_of f)
    go unfinished e = absurd (cc (verdict_by m unfinished e))
    go (refusedHeading r) e =
        let same : f ≡ reads r = cc (verdict_by m (refusedHeading r) e) in
        rw same (heading_number r (announced.refused_heading m r e))
    go (announces w) e = by w e (weigh m w e)

bad_whole : (m : List ℕ) (f : FeedRefusal) → verdict m ≡ refused f → length m ≤ room → announcing m ≡ announces (length m) → WholeNumber (number_of f)
bad_whole m f v h a = go (announced.announced_completed m a)
  where
    at : verdict m ≡ settled (reading m)
    at = verdict_whole m (length m) a h (omega arith)

    again : {g : FeedRefusal} → ◌≡◌ {A = Verdict} (refused f) (refused g) → f ≡ g
    again e = cc

    go : Completed m → WholeNumber (number_of f)
    go (accepts_it g e) = absurd (cc (at, ap settled e))
    go (refuses_6 e) = is_6 (ap number_of (again (sym v ∙ at ∙ ap settled e)))
    go (refuses_7 e) = is_7 (ap number_of (again (sym v ∙ at ∙ ap settled e)))

-- the byte that brought a refusal, where nothing was settled before it
settles_at : (k : List ℕ) (n x : ℕ) (f : FeedRefusal) → length k ≡ room → n < room → (0 < n → verdict (take n k) ≡ more)
    → verdict (take (suc n) (set k n x)) ≡ refused f → Settles (take (suc n) (set k n x)) (number_of f)
settles_at k n x f hk h quiet v = go (ltb n header_size) refl (ltb (suc n) header_size) refl
  where
    size : length (take (suc n) (set k n x)) ≡ suc n
    size = in_length k n x (omega arith)

    by : (e : Expects (take n k)) → length (take n k) ≡ n → announcing (take (suc n) (set k n x)) ≡ announces e.whole
        → Weighed (take (suc n) (set k n x)) e.whole → Settles (take (suc n) (set k n x)) (number_of f)
    by e front a (is_too_long l q) = absurd (omega (arith, e.fits))
    by e front a (not_yet l j q) = absurd (cc)
    by e front a (all_in l j q) =
        let end : e.whole ≡ length (take (suc n) (set k n x)) = omega (arith, size, e.missing) in
        let a' = a ∙ ap announces end in
        at_announced a' (bad_whole (take (suc n) (set k n x)) f v (omega (arith, size)) a')

    behind_heading : header_size ≤ n → Settles (take (suc n) (set k n x)) (number_of f)
    behind_heading l =
        let front : length (take n k) ≡ n = length-take-le n k (omega arith) in
        let e = expects (take n k) (quiet (omega arith)) (omega arith) in
        let a = announcing_grown k n x e.whole (omega arith) l e.says in
        by e front a (weigh (take (suc n) (set k n x)) e.whole a)

    go : (b : Bool) → ltb n header_size ≡ b → (d : Bool) → ltb (suc n) header_size ≡ d → Settles (take (suc n) (set k n x)) (number_of f)
    go b eb true ed = absurd (cc (verdict_short (take (suc n) (set k n x)) (omega (arith, size, ltb-true (suc n) header_size ed))))
    go true eb false ed =
        let end : length (take (suc n) (set k n x)) ≡ header_size = omega (arith, size, ltb-true n header_size eb, ltb-false (suc n) header_size ed) in
        at_17 end (bad_heading (take (suc n) (set k n x)) f v end)
    go false eb false ed = behind_heading (ltb-false n header_size eb)

-- a state that a feed comes to: what is in of a message settled nothing, and what is refused was settled by its last byte
record Sound (s : State) : Type 0 where
  roomy : Roomy s
  quiet : 0 < begun s → verdict (take (begun s) s.kept) ≡ more
  told : (f : FeedRefusal) → s.stand ≡ refused f → Settles (take s.count s.kept) (number_of f)

pub inside_not_refused : (f : FeedRefusal) → inside ≡ refused f → ⊥
inside_not_refused f e = cc

pub whole_not_refused : (f : FeedRefusal) → whole ≡ refused f → ⊥
whole_not_refused f e = cc

pub same_refused : (f g : FeedRefusal) → ◌≡◌ {A = Stand} (refused f) (refused g) → f ≡ g
same_refused f g e = cc

sound_after : (v : Verdict) (k : List ℕ) (n : ℕ) → verdict (take n k) ≡ v → length k ≡ room
    → ((f : FeedRefusal) → v ≡ refused f → Settles (take n k) (number_of f)) → Sound (closing v k n 1).state
sound_after more k n e r s = record { roomy = r; quiet = go (ltb n room) refl; told = λ f q. absurd (cc) }
  where
    go : (b : Bool) → ltb n room ≡ b → 0 < cond (ltb n room) n 0 → verdict (take (cond (ltb n room) n 0) k) ≡ more
    go true q = rw q (λ h. e)
    go false q = rw q (λ h. absurd (omega arith))
sound_after (complete f) k n e r s = record { roomy = r; quiet = λ h. absurd (omega arith); told = λ g q. absurd (cc) }
sound_after (refused f) k n e r s = record { roomy = r; quiet = λ h. absurd (omega arith); told = λ g q. let same : f ≡ g = cc in rw (← same) (s f refl) }

sound_byte : (s : State) (x : ℕ) → Sound s → Sound (byte_in s x).state
sound_byte s x w = go (byte s x)
  where
    go : Byte s x → Sound (byte_in s x).state
    go (repeats f e b) = rw b w
    go (goes_in v q b o) =
        rw b
        (sound_after v (set s.kept (begun s) x) (suc (begun s)) q (length-set s.kept (begun s) x ∙ w.roomy)
        (λ f e. settles_at s.kept (begun s) x f w.roomy (begun_room s.stand s.count) w.quiet (q ∙ e)))

sound_stream : (bytes : List ℕ) (s : State) → Sound s → Sound (streaming s bytes).state
sound_stream [] s w = rw (streaming_nil s) w
sound_stream (x ∷ l) s w = rw (streaming_cons s x l _ refl) (sound_stream l (byte_in s x).state (sound_byte s x w))

fresh_sound : (s : State) → s ≡ fresh → Sound s
fresh_sound s e =
    subst Sound (sym e)
    (record { roomy = length-replicate {A = ℕ} room 0; quiet = λ h. absurd (omega arith); told = λ f q. absurd (cc) })

pub where_refused : WhereRefused
where_refused f bytes c fault n calls e =
    let w = subst Sound (sym (ap (λ (x : Course). x.state) (as_defined f bytes c calls))) (sound_stream bytes (told_feed f) (fresh_sound (told_feed f) n)) in
    w.told (told_feed_refusal fault) (ap told_standing e)
