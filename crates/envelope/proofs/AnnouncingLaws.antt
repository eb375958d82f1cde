-- What an announcement says of its message: it rests on the first 17 bytes alone, and an accepted message announces its own length.
-- What announces its own length is accepted, or refused as 6 or 7. The layer that takes messages in parts cites these laws.
use Rattle.std.proofs.Common.{◌≡◌, ℕ, ◌<◌, ◌≤◌, Bool, true, false, cond, ltb, List, ◌++◌, length, take, Option, Some, None, Result, Ok, Err, sym, refl, ap, ◌∙◌, ap₂, arith, length-append, ltb-false, ltb-true, le-ltb, lt-ltb}
use lib.Seq.{take-append-le}
use Rattle.sum.specs.Promise.{Only₁}
use Rattle.envelope.specs.Announcing.{AnnouncementAnswer, unfinished, refused, announces, announced_by, announcing, told_announcement, Announces}
use Rattle.envelope.specs.Fields.{Fields, Refusal, accepted, refusal_by}
use Rattle.envelope.specs.Flags.{bad_flags}
use Rattle.envelope.specs.Heading.{flags_of, variable_size, announced, wrong_version, bad_variable_size, HeadingAnswer, passed, heading}
use Rattle.envelope.specs.Heading as judged
use Rattle.envelope.specs.Layout.{version_place, flags_place, variable_size_place, header_size, least_size}
use Rattle.envelope.specs.Reading.{reading}
use Rattle.envelope.specs.declared.reader.Refusal.{Refusal as CodeRefusal}
use Rattle.envelope.proofs.HeadingLaws.{announced_is, announced_by_heading, heading_by_heading, passed_heading}
use Rattle.envelope.proofs.OnlyLaws.{only_by_telling, untold_refusal, untold_refusal_lem}
use Rattle.envelope.proofs.ReadingLaws.{good, Completed, completed}

pub announcing_short : (s : List ℕ) → length s < header_size → announcing s ≡ unfinished
unfolding announcing
announcing_short s h = rw (lt-ltb (length s) header_size h)

pub announcing_long : (s : List ℕ) → header_size ≤ length s → announcing s ≡ announced_by (heading s) (announced s)
unfolding announcing
announcing_long s h = rw (le-ltb (length s) header_size h)

-- ---- the first 17 bytes alone

same_front : (s t : List ℕ) → take header_size s ≡ take header_size t → (heading s ≡ heading t) × (announced s ≡ announced t)
same_front s t e = (
  sym (heading_by_heading s) ∙ ap heading e ∙ heading_by_heading t,
  sym (announced_by_heading s) ∙ ap announced e ∙ announced_by_heading t,
)

pub announcing_more : (s t : List ℕ) → header_size ≤ length s → announcing (s ++ t) ≡ announcing s
announcing_more s t h =
    let e = same_front (s ++ t) s (take-append-le header_size s t h) in
    let long : header_size ≤ length (s ++ t) = omega (arith, length-append s t) in
    announcing_long (s ++ t) long ∙ ap₂ announced_by e.0 e.1 ∙ sym (announcing_long s h)

-- ---- by cases

judged_not_unfinished : (j : HeadingAnswer) (n : ℕ) → announced_by j n ≡ unfinished → ⊥
judged_not_unfinished passed n e = let z : ◌≡◌ {A = ℕ} 0 1 = cc in omega arith
judged_not_unfinished (judged.refused r) n e = let z : ◌≡◌ {A = ℕ} 0 1 = cc in omega arith

judged_announces : (j : HeadingAnswer) (n m : ℕ) → announced_by j n ≡ announces m → (j ≡ passed) × (n ≡ m)
judged_announces passed n m e = (refl, cc)
judged_announces (judged.refused r) n m e = (cc, cc)

pub unfinished_short : (s : List ℕ) → announcing s ≡ unfinished → length s < header_size
unfinished_short s e = go (ltb (length s) header_size) refl
  where
    go : (b : Bool) → ltb (length s) header_size ≡ b → length s < header_size
    go true q = ltb-true (length s) header_size q
    go false q = absurd (judged_not_unfinished (heading s) (announced s) (sym (announcing_long s (ltb-false (length s) header_size q)) ∙ e))

-- a whole header that passes and announces n bytes
pub record Says (s : List ℕ) (n : ℕ) : Type 0 where
  pub long : header_size ≤ length s
  pub heading : heading s ≡ passed
  pub length : announced s ≡ n

pub announces_says : (s : List ℕ) (n : ℕ) → announcing s ≡ announces n → Says s n
announces_says s n e = go (ltb (length s) header_size) refl
  where
    go : (b : Bool) → ltb (length s) header_size ≡ b → Says s n
    go true q =
        let no : unfinished ≡ announces n = sym (announcing_short s (ltb-true (length s) header_size q)) ∙ e in
        let z : ◌≡◌ {A = ℕ} 0 1 = cc in
        absurd (omega arith)
    go false q =
        let l = ltb-false (length s) header_size q in
        let p = judged_announces (heading s) (announced s) n (sym (announcing_long s l) ∙ e) in
        record { long = l; heading = p.0; length = p.1 }

-- ---- lengths

pub announces_least : (s : List ℕ) (n : ℕ) → announcing s ≡ announces n → least_size ≤ n
announces_least s n e = omega (arith, (announces_says s n e).length, announced_is s)

pub announcing_accepted : (s : List ℕ) (f : Fields) → reading s ≡ accepted f → announcing s ≡ announces (length s)
announcing_accepted s f e =
    let g = good s f e in
    let l : header_size ≤ length s = omega (arith, g.long) in
    announcing_long s l ∙ ap₂ announced_by (passed_heading s g.heading) g.size

-- all that was announced is there: accepted, or refused as 6 or 7
pub announced_completed : (s : List ℕ) → announcing s ≡ announces (length s) → Completed s
announced_completed s e =
    let t = announces_says s (length s) e in
    completed s t.heading t.length

-- ---- a heading is refused as 2, 3 or 4, each with its place

pub data HeadingRefusal (r : Refusal) : Type 0 where
  as_2 : r ≡ refusal_by 2 version_place → HeadingRefusal r
  as_3 : r ≡ refusal_by 3 flags_place → HeadingRefusal r
  as_4 : r ≡ refusal_by 4 variable_size_place → HeadingRefusal r

judged_refused : (a b c : Bool) (n : ℕ) (r : Refusal)
    → announced_by (cond a (judged.refused (refusal_by 2 version_place)) (cond b (judged.refused (refusal_by 3 flags_place)) (cond c (judged.refused (refusal_by 4 variable_size_place)) passed))) n ≡ refused r
    → HeadingRefusal r
judged_refused true b c n r e = as_2 (cc)
judged_refused false true c n r e = as_3 (cc)
judged_refused false false true n r e = as_4 (cc)
judged_refused false false false n r e = let z : ◌≡◌ {A = ℕ} 0 1 = cc in absurd (omega arith)

pub refused_heading : (s : List ℕ) (r : Refusal) → announcing s ≡ refused r → HeadingRefusal r
unfolding heading
refused_heading s r e = go (ltb (length s) header_size) refl
  where
    go : (b : Bool) → ltb (length s) header_size ≡ b → HeadingRefusal r
    go true q =
        let no : unfinished ≡ refused r = sym (announcing_short s (ltb-true (length s) header_size q)) ∙ e in
        let z : ◌≡◌ {A = ℕ} 0 1 = cc in
        absurd (omega arith)
    go false q =
        judged_refused (wrong_version s) (bad_flags (flags_of s)) (bad_variable_size (variable_size s)) (announced s) r
        (sym (announcing_long s (ltb-false (length s) header_size q)) ∙ e)

-- ---- one answer alone keeps the promise

abbrev untold_announcement : AnnouncementAnswer → Result (Option ℕ) CodeRefusal
untold_announcement unfinished = Ok None
untold_announcement (refused r) = Err (untold_refusal r)
untold_announcement (announces n) = Ok (Some n)

untold_announcement_lem : (r : Result (Option ℕ) CodeRefusal) → untold_announcement (told_announcement r) ≡ r
untold_announcement_lem (Ok None) = refl
untold_announcement_lem (Ok (Some n)) = refl
untold_announcement_lem (Err r) = ap Err (untold_refusal_lem r)

pub only_announces : (bytes : List ℕ) → Only₁ (Announces bytes)
only_announces bytes = only_by_telling told_announcement untold_announcement untold_announcement_lem (announcing bytes)
