-- K3: lateness counted from a message's entry into the messaging infrastructure: what decides it, and how it goes on with the clock.
-- Behind each theorem that has hypotheses, a case in which they hold, computed, and what it then says.
use Rattle.std.specs.Prelude.{Some, None}
use Prim.Native.Nat.{ℕ, ◌+◌, ◌≤◌}
use mathlib.Core.Path.{◌≡◌, refl}
use native.Mathlib.Omega.{arith}
use Rattle.envelope.specs.Lateness.{lateness_of, AddressingDecides, LateStaysLate, InTimeUpToEntryAndTtl}
use Rattle.envelope.specs.declared.fields.Envelope.{Envelope}
use Rattle.envelope.specs.declared.fields.Integrity.TheVariants.{None}
use Rattle.envelope.specs.declared.fields.Addressing.{Addressing}
use Rattle.envelope.specs.declared.fields.Part.{Part}
use Rattle.envelope.specs.declared.lateness.Lateness.{Lateness}
use Rattle.envelope.specs.declared.lateness.Lateness.TheVariants.{Late, InTime}
use Rattle.envelope.proofs.LatenessLaws as laws

-- an empty end
abbrev end : ℕ → Part
end place = record { place = place; size = 0 }

-- TTL 20
abbrev timed_to_live : Addressing
timed_to_live = record { ttl = 20; qos = 0; source = end 21; destination = end 22 }

-- a message of TTL 20 with such flags and such a time of its own
abbrev timed : (flags time : ℕ) → Envelope
timed flags time =
    record {
      header = record { message_type = 6000; version = 1; flags = flags; number = 1; time = time };
      addressing = Some timed_to_live;
      body = record { place = 23; size = 0 };
      integrity = None;
    }

pub addressing_decides : AddressingDecides
addressing_decides = laws.addressing_decides

-- an absolute time long past, and a relative one
pub time_and_format_do_not_matter : ◌≡◌ {A = Lateness} InTime InTime
unfolding lateness_of
time_and_format_do_not_matter = addressing_decides (timed 1 1) (timed 0 7) 100 120 InTime InTime refl refl refl

pub late_stays_late : LateStaysLate
late_stays_late = laws.late_stays_late

pub late_at_121_and_at_500 : ◌≡◌ {A = Lateness} Late Late
unfolding lateness_of
late_at_121_and_at_500 = late_stays_late (timed 1 1) 100 121 500 Late refl (omega arith) refl

pub in_time_up_to_entry_and_ttl : InTimeUpToEntryAndTtl
in_time_up_to_entry_and_ttl = laws.in_time_up_to_entry_and_ttl

pub in_time_at_120 : ◌≡◌ {A = Lateness} InTime InTime
unfolding lateness_of
in_time_at_120 = (in_time_up_to_entry_and_ttl (timed 1 1) timed_to_live 100 120 InTime refl (omega arith) refl).0 (omega arith)

pub no_later_than_120 : 120 ≤ 100 + 20
unfolding lateness_of
no_later_than_120 = (in_time_up_to_entry_and_ttl (timed 1 1) timed_to_live 100 120 InTime refl (omega arith) refl).1 refl
