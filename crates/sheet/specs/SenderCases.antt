-- K14 in cases about the definition: one history in which all four fates occur, and the benches at which a careless sender goes wrong.
-- The checker computes every line, in proofs/SenderCases.
use Rattle.std.specs.Prelude.{ℕ, List, [], ◌∷◌, ◌++◌, map, ◌≡◌}
use Rattle.std.proofs.Math.Option.{none, some}
use Rattle.envelope.specs.Refusals.{plainly}
use Rattle.sender.specs.History.{Line, waiting, in_flight, acknowledged, failed, submission, submissions, history, final}
use Rattle.sender.specs.Order.{went_out, ended}
use Rattle.sender.specs.Queue.{empty, holds, Queue, queue, empty_bench, Event, submit, ack, nak, time_out, Reply, sent, waits, settles, again, fails, refused, answering}
use Rattle.sender.specs.Told.{ready, no_bench, beside, starting}

-- ---- a history: 7 fails after two resends, 8 is acknowledged, 7 is used again and is in flight, 9 waits

abbrev pub asked : List Event
asked = submit 7 ∷ submit 7 ∷ submit 8 ∷ nak 8 ∷ nak 7 ∷ time_out 7 ∷ nak 7 ∷ submit 7 ∷ ack 8 ∷ submit 9 ∷ ack 9 ∷ []

abbrev pub told : List Line
told = history (empty_bench 2) asked

-- ---- a full bench: 16 wait, and 0 is in flight

abbrev pub one_to15 : List ℕ
one_to15 = 1 ∷ 2 ∷ 3 ∷ 4 ∷ 5 ∷ 6 ∷ 7 ∷ 8 ∷ 9 ∷ 10 ∷ 11 ∷ 12 ∷ 13 ∷ 14 ∷ 15 ∷ []

abbrev pub nearly_full : Queue
nearly_full = queue 2 (holds 0 2) one_to15

abbrev pub full : Queue
full = queue 2 (holds 0 2) (one_to15 ++ (16 ∷ []))

abbrev pub refused_by : ℕ → Reply
refused_by n = refused (plainly n)

pub record SenderCases : Type 0 where
  -- the history, line by line, and what it tells
  pub answered : map (λ (l : Line). l.reply) told
      ≡ sent ∷ refused_by 71 ∷ waits ∷ refused_by 72 ∷ again ∷ again ∷ fails (some 8) ∷ waits ∷ settles (some 7) ∷ waits ∷ refused_by 72 ∷ []
  pub became : submissions told ≡ submission 7 failed ∷ submission 8 acknowledged ∷ submission 7 in_flight ∷ submission 9 waiting ∷ []
  pub held : final (empty_bench 2) asked ≡ queue 2 (holds 7 2) (9 ∷ [])
  pub out : went_out told ≡ 7 ∷ 8 ∷ 7 ∷ []
  pub over : ended told ≡ 7 ∷ 8 ∷ []
  -- the 16th waits, for the one in flight does not count; the 17th is 70, and so is a COMMID that is known
  pub sixteenth : answering (submit 16) nearly_full ≡ record { reply = waits; after = full }
  pub seventeenth : answering (submit 17) full ≡ record { reply = refused_by 70; after = full }
  pub known_and_full : (answering (submit 3) full).reply ≡ refused_by 70
  pub in_flight_and_full : (answering (submit 0) full).reply ≡ refused_by 70
  pub known : (answering (submit 3) nearly_full).reply ≡ refused_by 71
  pub in_flight_lem : (answering (submit 0) nearly_full).reply ≡ refused_by 71
  -- a place falls free with the ACK, and the next goes out with all its resends
  pub place_again : answering (ack 0) full ≡ record { reply = settles (some 1); after = queue 2 (holds 1 2) (2 ∷ 3 ∷ 4 ∷ 5 ∷ 6 ∷ 7 ∷ 8 ∷ 9 ∷ 10 ∷ 11 ∷ 12 ∷ 13 ∷ 14 ∷ 15 ∷ 16 ∷ []) }
  -- with no resends the first NAK, or time-out, is the end; nothing waits, so nothing goes out
  pub no_resends : answering (time_out 7) (queue 0 (holds 7 0) []) ≡ record { reply = fails none; after = empty_bench 0 }
  -- nothing is in flight: 72, also for a COMMID that was settled just now
  pub nothing_in_flight : (answering (ack 7) (empty_bench 2)).reply ≡ refused_by 72
  pub settled_once : (answering (ack 7) (answering (ack 7) (queue 2 (holds 7 2) [])).after).reply ≡ refused_by 72
  -- 10 resends may be set, 11 not
  pub ten : starting 10 ≡ ready (beside 10 empty 0)
  pub eleven : starting 11 ≡ no_bench (plainly 73)
