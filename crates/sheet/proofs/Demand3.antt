-- Demand 3: accepted CRC messages of one length that differ at most inside four neighbouring bytes are equal. Beside it K11: one or two bits anywhere.
-- The sum's own laws stand first, then the demand, then K11, then what lies beyond them.
use Rattle.sum.specs.Detection.{DetectsFourBytes, DetectsBits}
use Rattle.sum.specs.Edge.{DetectsAtEdge, DetectsTwoAndTwo}
use Rattle.sum.specs.Flips.{DetectsFlips}
use Rattle.sum.proofs.Bursts.{detects_four_bytes, detects_bits}
use Rattle.sum.proofs.Edge.{detects_at_edge, detects_two_and_two}
use Rattle.sum.proofs.Flips.{detects_three_flips}
use Rattle.envelope.specs.AnyWindow.{AnyWindow, MiddleWindow}
use Rattle.envelope.specs.Demand3.{Demand3, Demand3Bits}
use Rattle.envelope.specs.TwoBits.{TwoBitsAnywhere, ThreeBitsAnywhere}
use Rattle.envelope.proofs.DemandLaws as laws
use Rattle.envelope.proofs.TwoBitsLaws as bits
use Rattle.envelope.proofs.WindowLaws as windows
use Rattle.golden.specs.Theorems.{GoldenDemand3, GoldenTwoBits, GoldenThreeBitsAnywhere, GoldenAnyWindow, GoldenMiddleWindow}
use Rattle.golden.proofs.DemandLaws as golden

-- a change inside four neighbouring bytes changes the sum
pub four_bytes_show : DetectsFourBytes
four_bytes_show = detects_four_bytes

-- so does a change inside 32 bits in a row, the lowest bit of each byte first
pub thirty_two_bits_show : DetectsBits
thirty_two_bits_show = detects_bits

-- so do up to three bits, wherever they are, of up to 506 bytes and of their sum
pub three_bits_show : DetectsFlips 3
three_bits_show = detects_three_flips

-- so do the last bytes with the first of the sum, up to four of both, unless they are two and two
pub bytes_at_the_edge_show : DetectsAtEdge
bytes_at_the_edge_show = detects_at_edge

-- of two and two, all differences but one
pub two_and_two_show : DetectsTwoAndTwo
two_and_two_show = detects_two_and_two

pub demand_3 : Demand3
demand_3 = laws.demand_3

-- beyond it: 32 bits in a row before the field
pub demand_3_bits : Demand3Bits
demand_3_bits = laws.demand_3_bits

-- the same of golden files: of two that check, changed inside four neighbouring bytes of one record's message
pub golden_demand_3 : GoldenDemand3
golden_demand_3 = golden.golden_demand_3

-- ---- K11: one or two bits before the field

pub two_bits_anywhere : TwoBitsAnywhere
two_bits_anywhere = bits.two_bits_anywhere

pub golden_two_bits : GoldenTwoBits
golden_two_bits = golden.golden_two_bits

-- ---- beyond both: up to three bits in the whole message, and a window anywhere but two before and two in the field

pub three_bits_anywhere : ThreeBitsAnywhere
three_bits_anywhere = bits.three_bits_anywhere

pub golden_three_bits_anywhere : GoldenThreeBitsAnywhere
golden_three_bits_anywhere = golden.golden_three_bits_anywhere

pub any_window : AnyWindow
any_window = windows.any_window

-- demand 3 is a case of it
pub any_window_gives_demand_3 : AnyWindow → Demand3
any_window_gives_demand_3 = windows.gives_demand_3

-- of golden files, the zeros behind a message included
pub golden_any_window : GoldenAnyWindow
golden_any_window = golden.golden_any_window

-- in that window, one difference and no other
pub middle_window : MiddleWindow
middle_window = windows.middle_window

pub golden_middle_window : GoldenMiddleWindow
golden_middle_window = golden.golden_middle_window
