-- What decides lateness, and how it goes on with the clock, as specs/Lateness states it; and the sum compared by subtraction.
-- The first by the "only" theorem, the others by the two tests of the definition.
use Rattle.std.proofs.Common.{◌≡◌, ℕ, ◌+◌, ◌-◌, ◌≤◌, Bool, true, false, cond, eqb, ltb, Option, sym, refl, ap, ◌∙◌, arith, ltb-false, ltb-true, le-ltb, lt-ltb, ne_eqb}
use Rattle.envelope.specs.Fields.{AddressingFields, absent, present}
use Rattle.envelope.specs.Lateness.{no_clock, late, in_time, late_after, lateness_of, told_lateness, AddressingDecides, LateStaysLate, InTimeUpToEntryAndTtl}
use Rattle.envelope.specs.Told.{told_addressing}
use Rattle.envelope.specs.declared.fields.Addressing.{Addressing}
use Rattle.envelope.specs.declared.lateness.Lateness.TheVariants.{Late, InTime}
use Rattle.envelope.proofs.OnlyLaws.{only_judges_lateness}

-- a clock is past entry and TTL together exactly where what it is past the entry is more than the TTL
pub by_subtraction : (entry ttl clock : ℕ) → ltb ttl (clock - entry) ≡ late_after entry ttl clock
by_subtraction entry ttl clock = from_test (late_after entry ttl clock) refl
  where
    from_test : (past : Bool) → late_after entry ttl clock ≡ past → ltb ttl (clock - entry) ≡ past
    from_test true e = lt-ltb ttl (clock - entry) (omega (arith, ltb-true (entry + ttl) clock e))
    from_test false e = le-ltb ttl (clock - entry) (omega (arith, ltb-false (entry + ttl) clock e))

pub addressing_decides : AddressingDecides
addressing_decides d e entry clock r s same first second =
    only_judges_lateness e entry clock r s (first ∙ ap (λ (a : Option Addressing). lateness_of (told_addressing a) entry clock) same) second

-- what the two tests say where the answer is late, and where it is in time
late_means : (blank past : Bool) → cond blank no_clock (cond past late in_time) ≡ late → (blank ≡ false) × (past ≡ true)
late_means true past e = absurd (let z : ◌≡◌ {A = ℕ} 0 1 = cc in omega arith)
late_means false true e = (refl, refl)
late_means false false e = absurd (let z : ◌≡◌ {A = ℕ} 0 1 = cc in omega arith)

in_time_means : (blank past : Bool) → cond blank no_clock (cond past late in_time) ≡ in_time → past ≡ false
in_time_means true past e = absurd (let z : ◌≡◌ {A = ℕ} 0 1 = cc in omega arith)
in_time_means false true e = absurd (let z : ◌≡◌ {A = ℕ} 0 1 = cc in omega arith)
in_time_means false false e = refl

stays_late : (a : AddressingFields) (entry clock later : ℕ) → lateness_of a entry clock ≡ late → clock ≤ later → lateness_of a entry later ≡ late
unfolding lateness_of
stays_late absent entry clock later e h = e
stays_late (present ttl qos source destination) entry clock later e h =
    let means = late_means (eqb ttl 0) (late_after entry ttl clock) e in
    rw (means.0, lt-ltb (entry + ttl) later (omega (arith, ltb-true (entry + ttl) clock means.1, h)))

pub late_stays_late : LateStaysLate
late_stays_late e entry clock later s first h second =
    only_judges_lateness e entry later s Late second (sym (stays_late (told_addressing e.addressing) entry clock later (sym first) h))

pub in_time_up_to_entry_and_ttl : InTimeUpToEntryAndTtl
unfolding lateness_of
in_time_up_to_entry_and_ttl e a entry clock r held some kept =
    let there = ap (λ (x : Option Addressing). lateness_of (told_addressing x) entry clock) held in (
      λ h. only_judges_lateness e entry clock r InTime kept (sym (there ∙ rw (ne_eqb a.ttl 0 (λ z. omega (arith, z, some)), le-ltb (entry + a.ttl) clock h))),
      λ i. ltb-false (entry + a.ttl) clock (in_time_means (eqb a.ttl 0) (late_after entry a.ttl clock) (sym there ∙ sym kept ∙ ap told_lateness i)),
    )
