-- K1: messages as they arrive, of any run of the functions' own calls, each with its promise as evidence.
-- Cutting first, then what is found and when, then what stops a feed, then K11.
use Rattle.feed.specs.Cutting.{CutAnywhere, EndAnywhere, AsDefined, AdvanceIsTake, CloseIsEnd, UsesBytes, LastUsedSettles, RunsEnd}
use Rattle.feed.specs.Messages.{NewIsBetween, FoundAreAccepted, AllAreFound, FoundInOnePiece, FoundIsHeld, UsesFew, FoundAtItsLastByte, RefusedAtThe17th, RefusedWhenComplete, WhereRefused}
use Rattle.feed.specs.Stopping.{RefusalIsKept, RefusalIsTold, EndIsKept, RefusalStands, RestartIsNew, EmptyPiece, EndBetween, EndInside}
use Rattle.feed.specs.TwoBits.{FeedTwoBits, FeedThreeBits}
use Rattle.feed.proofs.BitsLaws as bits
use Rattle.feed.proofs.FewLaws as few
use Rattle.feed.proofs.FoundLaws as found
use Rattle.feed.proofs.RefusedLaws as refused
use Rattle.feed.proofs.RunLaws as run
use Rattle.feed.proofs.SettlingLaws as settling
use Rattle.feed.proofs.StopLaws as stop
use Rattle.feed.proofs.UseLaws as uses
use Rattle.exports.specs.Feeds.{StorageKeepsTheState, TakeForCIsTake, EndForCIsEnd, RestartForCIsNew, MessageForCIsHeld}
use Rattle.exports.proofs.FeedLaws as for-c

-- ---- (a) cutting

-- the same bytes, cut anywhere: the same messages in order, the same place of the first refusal, the same feed
pub cut_anywhere : CutAnywhere
cut_anywhere = run.cut_anywhere

pub end_anywhere : EndAnywhere
end_anywhere = run.end_anywhere

-- and that is the definition, byte by byte
pub as_defined : AsDefined
as_defined = run.as_defined

-- a feed that is lent in parts is the same feed
pub advance_is_take : AdvanceIsTake
advance_is_take = run.advance_is_take

pub close_is_end : CloseIsEnd
close_is_end = run.close_is_end

-- a call uses no more than it is lent, a byte at least unless a refusal stands, and all where it finds nothing
pub uses_bytes : UsesBytes
uses_bytes = uses.uses_bytes

pub last_used_settles : LastUsedSettles
last_used_settles = uses.last_used_settles

pub runs_end : RunsEnd
runs_end = uses.runs_end

-- from C, with the feed in storage that is lent: the same calls, so that each theorem here speaks of them too
pub storage_keeps_the_state : StorageKeepsTheState
storage_keeps_the_state = for-c.storage_keeps_the_state

pub take_for_c_is_take : TakeForCIsTake
take_for_c_is_take = for-c.take_for_c_is_take

pub end_for_c_is_end : EndForCIsEnd
end_for_c_is_end = for-c.end_for_c_is_end

pub restart_for_c_is_new : RestartForCIsNew
restart_for_c_is_new = for-c.restart_for_c_is_new

pub message_for_c_is_held : MessageForCIsHeld
message_for_c_is_held = for-c.message_for_c_is_held

-- ---- (b) what is found

-- no call uses more than 510 bytes, or finds a longer message
pub uses_few : UsesFew
uses_few = few.uses_few

pub new_is_between : NewIsBetween
new_is_between = settling.new_is_between

pub found_are_accepted : FoundAreAccepted
found_are_accepted = found.found_are_accepted

pub all_are_found : AllAreFound
all_are_found = settling.all_are_found

pub found_in_one_piece : FoundInOnePiece
found_in_one_piece = settling.found_in_one_piece

pub found_is_held : FoundIsHeld
found_is_held = found.found_is_held

-- ---- (c) when

pub found_at_its_last_byte : FoundAtItsLastByte
found_at_its_last_byte = settling.found_at_its_last_byte

pub refused_at_the_17th : RefusedAtThe17th
refused_at_the_17th = settling.refused_at_the_17th

pub refused_when_complete : RefusedWhenComplete
refused_when_complete = settling.refused_when_complete

-- and nowhere else: 2, 3, 4 and 51 with the 17th byte, 6 and 7 with the last announced
pub where_refused : WhereRefused
where_refused = refused.where_refused

-- ---- (d) what stops a feed

pub refusal_is_kept : RefusalIsKept
refusal_is_kept = stop.refusal_is_kept

pub refusal_is_told : RefusalIsTold
refusal_is_told = stop.refusal_is_told

pub end_is_kept : EndIsKept
end_is_kept = stop.end_is_kept

pub refusal_stands : RefusalStands
refusal_stands = stop.refusal_stands

pub restart_is_new : RestartIsNew
restart_is_new = stop.restart_is_new

pub empty_piece : EmptyPiece
empty_piece = stop.empty_piece

pub end_between : EndBetween
end_between = stop.ends_between

pub end_inside : EndInside
end_inside = stop.ends_inside

-- ---- K11 for the feed: one or two bits before the field, and beyond it three bits anywhere

pub feed_two_bits : FeedTwoBits
feed_two_bits = bits.feed_two_bits

pub feed_three_bits : FeedThreeBits
feed_three_bits = bits.feed_three_bits
