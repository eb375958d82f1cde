-- Splitting and joining a QoS field are inverse, both ways round.
-- Each is a fact about division by the place of a number's lowest bit.
use Rattle.std.proofs.Common.{◌≡◌, ℕ, ◌+◌, ◌*◌, ◌/◌, ◌%◌, ◌^◌, ◌<◌, Bool, true, false, cond, ltb, bit_or, refl, ap, ◌∙◌, arith, ltb-true, lt-ltb}
use Rattle.std.proofs.lemmas.Nat.{or_shifted}
use Rattle.envelope.specs.Qos.{splitting, fits_its_bits, joined, refused, joining, JoinsWhatWasSplit, SplitsWhatWasJoined}
use Rattle.envelope.proofs.BoolLaws.{both}

pub joins_what_was_split : JoinsWhatWasSplit
unfolding joining splitting
joins_what_was_split q h =
    rw (lt-ltb (q / 8192 % 8) 8 (omega arith), lt-ltb (q / 512 % 16) 16 (omega arith), lt-ltb (q / 64 % 8) 8 (omega arith), lt-ltb (q / 8 % 8) 8 (omega arith), lt-ltb (q % 8) 8 (omega arith))
    (ap joined whole)
  where
    whole : q / 8192 % 8 * 8192 + q / 512 % 16 * 512 + q / 64 % 8 * 64 + q / 8 % 8 * 8 + q % 8 ≡ q
    whole = rw (service, special, network, priority, class)
      where
        service : q / 8192 % 8 ≡ q / 8192
        service = omega arith

        special : q / 8192 * 8192 + q / 512 % 16 * 512 ≡ q / 512 * 512
        special = omega arith

        network : q / 512 * 512 + q / 64 % 8 * 64 ≡ q / 64 * 64
        network = omega arith

        priority : q / 64 * 64 + q / 8 % 8 * 8 ≡ q / 8 * 8
        priority = omega arith

        class : q / 8 * 8 + q % 8 ≡ q
        class = omega arith

-- five numbers that fit are told apart again
module _ (a b c d e : ℕ) (ha : a < 8) (hb : b < 16) (hc : c < 8) (hd : d < 8) (he : e < 8) where
  abbrev sum : ℕ
  sum = a * 8192 + b * 512 + c * 64 + d * 8 + e

  pub apart : (splitting sum ≡ record { service_request = a; special_handling = b; network_preference = c; priority = d; class = e })
  unfolding splitting
  apart =
      let p : sum / 8192 % 8 ≡ a = omega arith in
      let q : sum / 512 % 16 ≡ b = omega arith in
      let r : sum / 64 % 8 ≡ c = omega arith in
      let s : sum / 8 % 8 ≡ d = omega arith in
      let t : sum % 8 ≡ e = omega arith in
      λ i. record { service_request = p i; special_handling = q i; network_preference = r i; priority = s i; class = t i }

made : (b : Bool) (n q : ℕ) → cond b (joined n) (refused 41) ≡ joined q → (b ≡ true) × (q ≡ n)
made true n q e = (refl, cc)
made false n q e = (cc, cc)

pub splits_what_was_joined : SplitsWhatWasJoined
unfolding joining
splits_what_was_joined f q e =
    let m = made (fits_its_bits f) _ q e in
    let p = both (ltb f.service_request 8) _ m.0 in
    let r = both (ltb f.special_handling 16) _ p.1 in
    let s = both (ltb f.network_preference 8) _ r.1 in
    let t = both (ltb f.priority 8) (ltb f.class 8) s.1 in
    ap splitting m.1
    ∙ apart f.service_request f.special_handling f.network_preference f.priority f.class (ltb-true _ _ p.0) (ltb-true _ _ r.0) (ltb-true _ _ s.0) (ltb-true _ _ t.0) (ltb-true _ _ t.1)

-- ---- the five numbers, each moved to its bits: none of them meets another

or_above : (a k x y : ℕ) → x ≡ a * 2 ^ k → y < 2 ^ k → bit_or x y ≡ x + y
or_above a k x y e h = rw e (or_shifted a k y h)

pub in_their_bits : (s h n p c : ℕ) → s < 8 → h < 16 → n < 8 → p < 8 → c < 8
    → bit_or (bit_or (bit_or (bit_or (s * 8192 % 65536) (h * 512 % 65536)) (n * 64 % 65536)) (p * 8 % 65536)) c
    ≡ s * 8192 + h * 512 + n * 64 + p * 8 + c
in_their_bits s h n p c ls lh ln lp lc =
    let ms : s * 8192 % 65536 ≡ s * 8192 = omega arith in
    let mh : h * 512 % 65536 ≡ h * 512 = omega arith in
    let mn : n * 64 % 65536 ≡ n * 64 = omega arith in
    let mp : p * 8 % 65536 ≡ p * 8 = omega arith in
    rw (
      ms,
      mh,
      mn,
      mp,
      or_above s 13 (s * 8192) (h * 512) refl (omega arith),
      or_above (s * 16 + h) 9 (s * 8192 + h * 512) (n * 64) (omega arith) (omega arith),
      or_above (s * 128 + h * 8 + n) 6 (s * 8192 + h * 512 + n * 64) (p * 8) (omega arith) (omega arith),
      or_above (s * 1024 + h * 64 + n * 8 + p) 3 (s * 8192 + h * 512 + n * 64 + p * 8) c (omega arith) (omega arith),
    )
