-- The lines of a request to an RPMB region, written one after another.
use Rattle.std.proofs.Common.{◌≡◌, ℕ, List, ◌++◌, ap, length, subst, sym}
use Rattle.std.specs.Prelude.{Option, Some}
use Rattle.std.specs.Io.KnownBytes.{Appends, Keeps}
use Rattle.ufstool.specs.HostMessages.{asked_lines, data_spelled, line_of}
use Rattle.ufstool.specs.RpmbLines.{fetched_lines, in_spelled, out_spelled, reply_line, sent_lines, settled_lines}
use Rattle.ufstool.proofs.Written.{both_written, then_written}

-- the lines that send frames
pub sent_written : (a b c d : Option (List ℕ)) (task region : ℕ) (frames asked sent : List ℕ)
    → Appends a b (asked_lines asked) → Appends b c (line_of sent)
    → Appends c d settled_lines
    → asked ≡ out_spelled task region (length frames) → sent ≡ data_spelled 0xC4 task frames
    → Appends a d (sent_lines task region frames)
sent_written a b c d task region frames asked sent one two three is also =
    then_written a b d (asked_lines asked) (asked_lines (out_spelled task region (length frames)))
    (line_of (data_spelled 0xC4 task frames) ++ settled_lines) one
    (then_written b c d (line_of sent) (line_of (data_spelled 0xC4 task frames))
    settled_lines two three (ap line_of also))
    (ap asked_lines is)

-- the lines that fetch a response
pub fetched_written : (a b c : Option (List ℕ)) (task region : ℕ) (wanted : Option ℕ) (size : ℕ) (asked : List ℕ)
    → Appends a b (asked_lines asked) → Appends b c reply_line → asked ≡ in_spelled task region size
    → wanted ≡ Some size → Appends a c (fetched_lines task region wanted)
fetched_written a b c task region wanted size asked one two is some =
    subst (λ (w : Option ℕ). Appends a c (fetched_lines task region w)) (sym some)
    (then_written a b c (asked_lines asked) (asked_lines (in_spelled task region size)) reply_line one two
    (ap asked_lines is))

-- both, one after the other
pub request_written : (a b c d : Option (List ℕ)) (task region : ℕ) (frames sent : List ℕ) (size wanted : Option ℕ)
    → Appends a b (sent_lines task region frames) → Appends b c (fetched_lines task region size) → Keeps c d
    → frames ≡ sent → size ≡ wanted → Appends a d (sent_lines task region sent ++ fetched_lines task region wanted)
request_written a b c d task region frames sent size wanted one two kept is also =
    both_written a b c d (sent_lines task region frames) (fetched_lines task region size) (sent_lines task region sent)
    (fetched_lines task region wanted) one two kept (ap (sent_lines task region) is) (ap (fetched_lines task region) also)
