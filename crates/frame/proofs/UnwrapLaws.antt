-- What the rules of unwrapping say when they are kept, what a whole frame carries, and that bytes opened are whole.
-- `s` is the list of the bytes lent.
use mathlib.Core.Bool.{Bool, true, false, cond, not, ◌&&◌}
use mathlib.Core.List.{List, [], ◌∷◌}
use mathlib.Core.Path.{◌≡◌, refl, ap, ◌∙◌, subst}
use Prim.Native.Nat.{ℕ, ◌+◌, ◌-◌, ◌≤◌}
use native.Mathlib.Omega.{arith}
use borrow.Author.Tests.{eqb-true, ltb-false, not-false, le-ltb, eq-eqb}
use lib.Dec.{eqb}
use lib.ListN.{length, take, drop}
use Rattle.envelope.proofs.BoolLaws.{neither}
use Rattle.envelope.specs.Fields.{Fields, Answer, accepted, refused, part_of}
use Rattle.envelope.specs.Fields as fields
use Rattle.envelope.specs.Numbers.{byte_at}
use Rattle.envelope.specs.Reading.{reading}
use Rattle.envelope.specs.Refusals.{plainly, among, Gives}
use Rattle.frame.specs.Unwrapping.{type_of, commid_of, data_length, acknowledged_of, body_span, too_short, no_stx, wrong_version, other_type, wrong_length, no_etx, UnwrapAnswer, message, acknowledgment, refused, unwrapping_read, carrying, unwrapping, UnwrapGives}
use Rattle.frame.specs.Capturing.{is_frame}
use Rattle.frame.specs.Layout.{stx, etx, protocol_version, message_version, data_type, acknowledgment_type, stx_place, protocol_version_place, message_version_place, body_place, least_size, commid_size}

-- ---- rules that are kept

pub length_whole : (t n given : ℕ) → wrong_length t n given ≡ false → least_size + n ≡ given
unfolding wrong_length
length_whole t n given e =
    eqb-true (least_size + n) given (not-false _ (neither (not (eqb (least_size + n) given)) (eqb t acknowledgment_type && not (eqb n commid_size)) e).0)

pub acknowledgment_whole : (t n given : ℕ) → wrong_length t n given ≡ false → t ≡ acknowledgment_type → n ≡ commid_size
unfolding wrong_length
acknowledgment_whole t n given e a =
    let both = (neither (not (eqb (least_size + n) given)) (eqb t acknowledgment_type && not (eqb n commid_size)) e).1 in
    eqb-true n commid_size (not-false _ (rw (eq-eqb t acknowledgment_type a) at both))

-- ---- what a whole frame carries

module _ (s : List ℕ) (t commid : ℕ) (ec : commid ≡ commid_of s) where
  pub carries_acknowledgment : (acknowledged : ℕ) → t ≡ acknowledgment_type → acknowledged ≡ acknowledged_of s
      → acknowledgment commid acknowledged ≡ carrying s t
  unfolding carrying
  carries_acknowledgment acknowledged a ea = rw (eq-eqb _ _ a, ec, ea)

  module _ (end : ℕ) (ee : end ≡ body_place + data_length s) (a : t ≡ data_type) where
    size : end - body_place ≡ data_length s
    size = omega arith

    body : take (end - body_place) (drop body_place s) ≡ part_of s (body_span s)
    body = ap (λ (n : ℕ). take n (drop body_place s)) size

    pub carries_message : (f : Fields) → reading (take (end - body_place) (drop body_place s)) ≡ accepted f
        → message commid (record { place = body_place; size = end - body_place }) f ≡ carrying s t
    unfolding carrying
    carries_message f e = rw (a, ← body, e, ec, size)

-- ---- what is opened is whole

pub record Whole (s : List ℕ) : Type 0 where
  pub long : least_size ≤ length s
  pub start : byte_at s stx_place ≡ stx
  pub protocol : byte_at s protocol_version_place ≡ protocol_version
  pub version : byte_at s message_version_place ≡ message_version
  pub known_type : other_type (type_of s) ≡ false
  pub whole_length : wrong_length (type_of s) (data_length s) (length s) ≡ false
  pub last : byte_at s (body_place + data_length s) ≡ etx

past : (b : Bool) (n : ℕ) (rest : UnwrapAnswer) → is_frame (cond b (refused (plainly n)) rest) ≡ true
    → (b ≡ false) × (is_frame rest ≡ true) × (cond b (refused (plainly n)) rest ≡ rest)
past true n rest e = (cc, cc, cc)
past false n rest e = (refl, e, refl)

pub record Opened (s : List ℕ) : Type 0 where
  pub frame : Whole s
  pub carries : unwrapping s ≡ carrying s (type_of s)

pub opened : (s : List ℕ) → is_frame (unwrapping s) ≡ true → Opened s
unfolding unwrapping wrong_version
opened s e =
    let p1 = past (too_short s) 61 _ e in
    let p2 = past (no_stx s) 62 _ p1.1 in
    let p3 = past (wrong_version (byte_at s protocol_version_place) (byte_at s message_version_place)) 63 _ p2.1 in
    let p4 = past (other_type (type_of s)) 64 _ p3.1 in
    let p5 = past (wrong_length (type_of s) (data_length s) (length s)) 65 _ p4.1 in
    let p6 = past (no_etx s) 66 _ p5.1 in
    let versions = neither (not (eqb (byte_at s protocol_version_place) protocol_version)) (not (eqb (byte_at s message_version_place) message_version)) p3.0 in
    record {
      frame =
          record {
            long = ltb-false _ _ p1.0;
            start = eqb-true _ _ (not-false _ p2.0);
            protocol = eqb-true _ _ (not-false _ versions.0);
            version = eqb-true _ _ (not-false _ versions.1);
            known_type = p4.0;
            whole_length = p5.0;
            last = eqb-true _ _ (not-false _ p6.0);
          };
      carries = p1.2 ∙ p2.2 ∙ p3.2 ∙ p4.2 ∙ p5.2 ∙ p6.2;
    }

-- and whole bytes are opened as what they carry
pub unwraps_whole : (s : List ℕ) → Whole s → unwrapping s ≡ carrying s (type_of s)
unfolding unwrapping wrong_version
unwraps_whole s w =
    rw (le-ltb _ _ w.long, eq-eqb _ _ w.start, eq-eqb _ _ w.protocol, eq-eqb _ _ w.version, w.known_type, w.whole_length, eq-eqb _ _ w.last)

-- ---- the refusals that unwrapping can give

abbrev Within : UnwrapAnswer → Type 0
Within (message commid p f) = Unit
Within (acknowledgment commid acknowledged) = Unit
Within (refused r) = Gives (61 ∷ 62 ∷ 63 ∷ 64 ∷ 65 ∷ 66 ∷ []) (67 ∷ []) r

within_past : (b : Bool) (n : ℕ) (rest : UnwrapAnswer) → among (61 ∷ 62 ∷ 63 ∷ 64 ∷ 65 ∷ 66 ∷ []) n ≡ true → Within rest → Within (cond b (refused (plainly n)) rest)
within_past true n rest h w = h
within_past false n rest h w = w

within_read : (a : Answer) (s : List ℕ) → Within (unwrapping_read a s)
within_read (fields.refused r) s = refl
within_read (accepted f) s = tt

within_carried : (b : Bool) (commid acknowledged : ℕ) (rest : UnwrapAnswer) → Within rest → Within (cond b (acknowledgment commid acknowledged) rest)
within_carried true commid acknowledged rest w = tt
within_carried false commid acknowledged rest w = w

within : (s : List ℕ) → Within (unwrapping s)
unfolding unwrapping carrying
within s =
    within_past (too_short s) 61 _ refl
    (within_past (no_stx s) 62 _ refl
    (within_past (wrong_version (byte_at s protocol_version_place) (byte_at s message_version_place)) 63 _ refl
    (within_past (other_type (type_of s)) 64 _ refl
    (within_past (wrong_length (type_of s) (data_length s) (length s)) 65 _ refl
    (within_past (no_etx s) 66 _ refl
    (within_carried (eqb (type_of s) acknowledgment_type) (commid_of s) (acknowledged_of s) _ (within_read (reading (part_of s (body_span s))) s)))))))

pub unwrap_gives : UnwrapGives
unwrap_gives s r e = subst Within e (within s)
