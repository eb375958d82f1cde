-- K14: what became of each message sent, of the functions' own answers and of the places that are lent to them.
-- Each event first, then any history, then a COMMID used again, then refusals, then any run of calls.
use Rattle.sender.specs.Accounts.{Accounts}
use Rattle.sender.specs.Order.{OldestFirst}
use Rattle.sender.specs.Refusing.{RefusalKeeps, EventGives, FullFirst, ThenKnown, NotInFlight, StartRefuses, StartTakes}
use Rattle.sender.specs.Reuse.{UsableAtOnce, UsableLater, IsNew, FatesStay}
use Rattle.sender.specs.Runs.{AnswersAsQueue, StartsEmpty, RunIsHistory, UsableInRun, WhatBecame}
use Rattle.sender.specs.Sends.{SendsAreCounted}
use Rattle.sender.proofs.AccountLaws as account
use Rattle.sender.proofs.OrderLaws as order
use Rattle.sender.proofs.RefusingLaws as refusing
use Rattle.sender.proofs.ReuseLaws as reuse
use Rattle.sender.proofs.RunLaws as run
use Rattle.sender.proofs.SendLaws as send
use Rattle.exports.specs.Senders.{StorageKeepsTheBench, EventForCIsEvent, EventLeavesTheBench, StartLeavesTheBench, RunForCIsHistory, WhatBecameForC, WhoForC}
use Rattle.exports.proofs.SenderLaws as c
use Rattle.exports.proofs.SenderRunLaws as crun

-- ---- each event answers as a plain queue with one slot would

pub answers_as_queue : AnswersAsQueue
answers_as_queue = run.answers_as_queue

pub starts_empty : StartsEmpty
starts_empty = run.starts_empty

-- ---- over any sequence of events from an empty bench

pub accounts : Accounts
accounts = account.accounts

pub oldest_first : OldestFirst
oldest_first = order.oldest_first

pub sends_are_counted : SendsAreCounted
sends_are_counted = send.sends_are_counted

-- ---- a place and a COMMID used again

pub usable_at_once : UsableAtOnce
usable_at_once = reuse.usable_at_once

pub usable_later : UsableLater
usable_later = reuse.usable_later

pub is_new : IsNew
is_new = reuse.is_new

pub fates_stay : FatesStay
fates_stay = reuse.fates_stay

-- ---- refusals

pub refusal_keeps : RefusalKeeps
refusal_keeps = refusing.refusal_keeps

pub event_gives : EventGives
event_gives = refusing.event_gives

pub full_first : FullFirst
full_first = refusing.full_first

pub then_known : ThenKnown
then_known = refusing.then_known

pub not_in_flight : NotInFlight
not_in_flight = refusing.not_in_flight

pub start_refuses : StartRefuses
start_refuses = refusing.start_refuses

pub start_takes : StartTakes
start_takes = refusing.start_takes

-- ---- any run of the code's own calls

pub run_is_history : RunIsHistory
run_is_history = run.run_is_history

pub usable_in_run : UsableInRun
usable_in_run = run.usable_in_run

pub what_became : WhatBecame
what_became = run.what_became

-- ---- calls from C are the sender's own calls

pub event_for_c_is_event : EventForCIsEvent
event_for_c_is_event = c.event_for_c_is_event

pub event_leaves_the_bench : EventLeavesTheBench
event_leaves_the_bench = c.event_leaves_the_bench

pub start_leaves_the_bench : StartLeavesTheBench
start_leaves_the_bench = c.start_leaves_the_bench

pub storage_keeps_the_bench : StorageKeepsTheBench
storage_keeps_the_bench = c.storage_keeps_the_bench

-- ---- any run of calls from C, over storage that held anything

pub run_for_c_is_history : RunForCIsHistory
run_for_c_is_history = crun.run_for_c_is_history

pub what_became_for_c : WhatBecameForC
what_became_for_c = crun.what_became_for_c

pub who_for_c : WhoForC
who_for_c = crun.who_for_c
