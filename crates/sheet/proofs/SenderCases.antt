-- The cases of K14, by computing.
use mathlib.Core.Path.{refl}
use Rattle.sender.specs.History.{fate, submissions, history, final}
use Rattle.sender.specs.Order.{went_out, ended}
use Rattle.sender.specs.Queue.{among, submitting, acking, naking}
use Rattle.sheet.specs.SenderCases.{SenderCases}

pub sender_cases : SenderCases
unfolding history final submitting acking naking among submissions fate went_out ended
sender_cases =
    record {
      answered = refl;
      became = refl;
      held = refl;
      out = refl;
      over = refl;
      sixteenth = refl;
      seventeenth = refl;
      known_and_full = refl;
      in_flight_and_full = refl;
      known = refl;
      in_flight_lem = refl;
      place_again = refl;
      no_resends = refl;
      nothing_in_flight = refl;
      settled_once = refl;
      ten = refl;
      eleven = refl;
    }
