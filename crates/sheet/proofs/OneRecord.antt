-- The golden file of one record that holds a CRC message: it checks, and its record's message is the one put in.
-- What instances and refutations about golden files start from.
use mathlib.Core.List.{List}
use mathlib.Core.Path.{◌≡◌}
use Prim.Native.Nat.{ℕ, ◌≤◌}
use lib.ListN.{length}
use Rattle.envelope.specs.Demand3.{DeclaresCrc}
use Rattle.golden.specs.Checking.{counted, checking}
use Rattle.golden.specs.File.{record_at}
use Rattle.golden.specs.Making.{record_of}
use Rattle.golden.specs.Record.{message_room, message_of}
use Rattle.golden.proofs.MadeLaws.{checks, message_made}

module _ (m : List ℕ) (d : DeclaresCrc m) (short : length m ≤ message_room) where
  pub one_checks : checking (record_of m) ≡ counted 1
  one_checks = checks m d.fields short d.accepts

  pub one_holds : message_of (record_at (record_of m) 0) ≡ m
  one_holds = message_made m d.fields short d.accepts

  pub one_declares : DeclaresCrc (message_of (record_at (record_of m) 0))
  one_declares = rw one_holds d
