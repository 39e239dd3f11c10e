-- The definitions at small lists of reported events; the values were computed by a model in another language.
use Rattle.std.proofs.Common.{◌≡◌, [], ◌∷◌, Some, None, true, false, refl}
use Rattle.frame_build.specs.FrameEvent.{run, line, word_fault, other}
use Rattle.frame_build.specs.Group.{frame_at, line_at}

-- three columns of the other value end a frame
frame-at-third-column : frame_at (run 0 3 ∷ run 2 3 ∷ line 4 ∷ line 4 ∷ []) (run 0 3) ≡ Some (record { width = 4; height = 2 })
frame-at-third-column = refl

-- two do not
no_frame-at-second-column : frame_at (run 0 3 ∷ run 2 3 ∷ line 4 ∷ line 4 ∷ []) (run 0 2) ≡ None
no_frame-at-second-column = refl

-- the first value heard is no change
no_frame-first-value : frame_at (line 4 ∷ line 4 ∷ []) (run 0 3) ≡ None
no_frame-first-value = refl

-- lines before the first change are no frame
no_frame-before-change : frame_at (line 4 ∷ run 2 3 ∷ line 5 ∷ line 6 ∷ []) (run 0 3) ≡ None
no_frame-before-change = refl

-- a fault of one word does not part columns
frame-across-word-faults : frame_at (run 0 3 ∷ run 2 1 ∷ word_fault ∷ run 2 1 ∷ word_fault ∷ run 2 1 ∷ line 3 ∷ run 0 1 ∷ word_fault ∷ word_fault ∷ []) (run 0 2) ≡ Some (record { width = 3; height = 1 })
frame-across-word-faults = refl

-- any other event does
no_frame-across-other : frame_at (run 0 3 ∷ run 2 3 ∷ line 5 ∷ run 0 2 ∷ other ∷ []) (run 0 1) ≡ None
no_frame-across-other = refl

-- and a line does
no_frame-across-line : frame_at (run 0 3 ∷ run 2 3 ∷ line 5 ∷ run 0 2 ∷ line 6 ∷ []) (run 0 1) ≡ None
no_frame-across-line = refl

-- a column with another value does
no_frame-across-other-value : frame_at (run 0 3 ∷ run 2 3 ∷ line 4 ∷ run 0 2 ∷ run 2 1 ∷ []) (run 0 2) ≡ None
no_frame-across-other-value = refl

-- a group without a line is no frame
no_frame-no-lines : frame_at (run 0 3 ∷ run 2 3 ∷ []) (run 0 3) ≡ None
no_frame-no-lines = refl

-- the width is the first line's
frame-first-width : frame_at (run 0 3 ∷ run 2 3 ∷ line 4 ∷ line 5 ∷ line 6 ∷ []) (run 1 3) ≡ Some (record { width = 4; height = 3 })
frame-first-width = refl

-- a line of a group that does not count
line-does-not-count : line_at (line 4 ∷ []) 5 ≡ record { counts = false; ragged = false; row = 1 }
line-does-not-count = refl

-- a first line
line-first : line_at (run 0 3 ∷ run 2 3 ∷ []) 4 ≡ record { counts = true; ragged = false; row = 0 }
line-first = refl

-- a ragged line
line-ragged : line_at (run 0 3 ∷ run 2 3 ∷ line 4 ∷ line 4 ∷ []) 5 ≡ record { counts = true; ragged = true; row = 2 }
line-ragged = refl

-- a line after a frame
line-after-frame : line_at (run 0 3 ∷ run 2 3 ∷ line 4 ∷ line 4 ∷ run 0 3 ∷ []) 5 ≡ record { counts = true; ragged = false; row = 0 }
line-after-frame = refl
