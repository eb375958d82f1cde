-- A capture: frames end to end, with nothing between them. Its first frame is as long as its header states. RULES 8.
-- Where fewer bytes are there than that, or too few for any frame, it is all that there is, and unwrapping refuses it.
use Rattle.std.specs.Prelude.{ℕ, zero, suc, ◌+◌, ◌≤◌, ◌<◌, Bool, true, false, cond, List, [], ◌∷◌, ◌++◌, ◌≡◌, ltb, length, take, drop}
use Rattle.frame.specs.Layout.{least_size}
use Rattle.frame.specs.Unwrapping.{data_length, UnwrapAnswer, message, acknowledgment, refused, unwrapping}

abbrev pub smaller : ℕ → ℕ → ℕ
smaller a b = cond (ltb a b) a b

unfoldable pub first_size : List ℕ → ℕ
first_size s = cond (ltb (length s) least_size) (length s) (smaller (length s) (least_size + data_length s))

-- what `first` promises
abbrev pub MeasuresFirst : List ℕ → ℕ → Type 0
MeasuresFirst s r = r ≡ first_size s

-- ---- what follows; proved in proofs/CaptureLaws

abbrev pub is_frame : UnwrapAnswer → Bool
is_frame (message commid p f) = true
is_frame (acknowledgment commid acknowledged) = true
is_frame (refused r) = false

-- whatever comes behind it, a frame at the front is found as long as it is
abbrev pub FirstIsTheFrame : Type 0
FirstIsTheFrame = (s rest : List ℕ) → is_frame (unwrapping s) ≡ true → first_size (s ++ rest) ≡ length s

-- frames end to end, and n of them taken off the front one after another
abbrev pub end_to_end : List (List ℕ) → List ℕ
end_to_end [] = []
end_to_end (frame ∷ rest) = frame ++ end_to_end rest

abbrev pub taken_apart : ℕ → List ℕ → List (List ℕ)
taken_apart zero s = []
taken_apart (suc n) s = take (first_size s) s ∷ taken_apart n (drop (first_size s) s)

abbrev pub AllFrames : List (List ℕ) → Type 0
AllFrames [] = Unit
AllFrames (frame ∷ rest) = (is_frame (unwrapping frame) ≡ true) × AllFrames rest

-- so a capture comes apart into the frames that it was put together of
abbrev pub CaptureComesApart : Type 0
CaptureComesApart = (frames : List (List ℕ)) → AllFrames frames → taken_apart (length frames) (end_to_end frames) ≡ frames

-- fewer bytes than the data length states are no frame
abbrev pub MissingIsRefused : Type 0
MissingIsRefused = (s : List ℕ) → length s < least_size + data_length s → is_frame (unwrapping s) ≡ false

-- of any bytes at least one is taken, and none that is not there: so going through a capture comes to its end
abbrev pub FirstIsThere : Type 0
FirstIsThere = (s : List ℕ) → (first_size s ≤ length s) × (1 ≤ length s → 1 ≤ first_size s)
