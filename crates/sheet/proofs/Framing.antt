-- K12: Class D frames out and in, of the functions' own answers and buffers.
-- Round trips first, then what a frame is, then captures, then demand 3 and K11 through frames.
use Rattle.frame.specs.Capturing.{FirstIsTheFrame, CaptureComesApart, MissingIsRefused, FirstIsThere}
use Rattle.frame.specs.Detecting.{FrameDemand3, FrameTwoBits, FrameThreeBits}
use Rattle.frame.specs.RoundTrips.{WrappedThenUnwrapped, WrappedBufferThenUnwrapped, UnwrappedThenWrapped, UnwrappedThenWrappedBuffer, AcknowledgedThenUnwrapped, AcknowledgedBufferThenUnwrapped, UnwrappedThenAcknowledged, UnwrappedThenAcknowledgedBuffer, OneOrTheOther, NeverBoth}
use Rattle.frame.specs.Sizes.{WrapTellsItsLength, AcknowledgeTellsItsLength, UnwrapsNoLonger, WrapsNoLonger, AcknowledgesNoLonger}
use Rattle.frame.specs.Unwrapping.{UnwrapGives}
use Rattle.frame.specs.Wrapping.{Never69, RefusalWritesNothing, WrapGives, AcknowledgeGives}
use Rattle.frame.proofs.CaptureLaws as capture
use Rattle.frame.proofs.DetectLaws as detect
use Rattle.frame.proofs.RoundTripLaws as round
use Rattle.frame.proofs.SizeLaws as size
use Rattle.frame.proofs.UnwrapLaws as unwrap
use Rattle.frame.proofs.WrapLaws as wrap

-- ---- out and in again

pub wrapped_then_unwrapped : WrappedThenUnwrapped
wrapped_then_unwrapped = round.wrapped_then_unwrapped

pub wrapped_buffer_then_unwrapped : WrappedBufferThenUnwrapped
wrapped_buffer_then_unwrapped = round.wrapped_buffer_then_unwrapped

pub acknowledged_then_unwrapped : AcknowledgedThenUnwrapped
acknowledged_then_unwrapped = round.acknowledged_then_unwrapped

pub acknowledged_buffer_then_unwrapped : AcknowledgedBufferThenUnwrapped
acknowledged_buffer_then_unwrapped = round.acknowledged_buffer_then_unwrapped

-- ---- in and out again

pub unwrapped_then_wrapped : UnwrappedThenWrapped
unwrapped_then_wrapped = round.unwrapped_then_wrapped

pub unwrapped_then_wrapped_buffer : UnwrappedThenWrappedBuffer
unwrapped_then_wrapped_buffer = round.unwrapped_then_wrapped_buffer

pub unwrapped_then_acknowledged : UnwrappedThenAcknowledged
unwrapped_then_acknowledged = round.unwrapped_then_acknowledged

pub unwrapped_then_acknowledged_buffer : UnwrappedThenAcknowledgedBuffer
unwrapped_then_acknowledged_buffer = round.unwrapped_then_acknowledged_buffer

-- ---- a frame is one or the other, which numbers there are, and what a refusal leaves

pub one_or_the_other : OneOrTheOther
one_or_the_other = round.one_or_the_other

pub never_both : NeverBoth
never_both = round.never_both

pub unwrap_gives : UnwrapGives
unwrap_gives = unwrap.unwrap_gives

pub wrap_gives : WrapGives
wrap_gives = wrap.wrap_gives

pub acknowledge_gives : AcknowledgeGives
acknowledge_gives = wrap.acknowledge_gives

-- no message is longer than a data length can state
pub never_69 : Never69
never_69 = wrap.never_69

pub a_refused_frame_writes_nothing : RefusalWritesNothing
a_refused_frame_writes_nothing = wrap.refusal_writes_nothing

pub wrap_tells_its_length : WrapTellsItsLength
wrap_tells_its_length = size.wrap_tells_its_length

pub acknowledge_tells_its_length : AcknowledgeTellsItsLength
acknowledge_tells_its_length = size.acknowledge_tells_its_length

pub unwraps_no_longer : UnwrapsNoLonger
unwraps_no_longer = size.unwraps_no_longer

pub wraps_no_longer : WrapsNoLonger
wraps_no_longer = size.wraps_no_longer

pub acknowledges_no_longer : AcknowledgesNoLonger
acknowledges_no_longer = size.acknowledges_no_longer

-- ---- captures

pub first_is_the_frame : FirstIsTheFrame
first_is_the_frame = capture.first_is_the_frame

pub capture_comes_apart : CaptureComesApart
capture_comes_apart = capture.capture_comes_apart

pub missing_is_refused : MissingIsRefused
missing_is_refused = capture.missing_is_refused

pub first_is_there : FirstIsThere
first_is_there = capture.first_is_there

-- ---- demand 3 and K11

pub frame_demand_3 : FrameDemand3
frame_demand_3 = detect.frame_demand_3

pub frame_two_bits : FrameTwoBits
frame_two_bits = detect.frame_two_bits

pub frame_three_bits : FrameThreeBits
frame_three_bits = detect.frame_three_bits
