-- What each number that an export answers says in English, and how a C program gets the words.
use Rattle.std.specs.Prelude.{◌≡◌, ◌+◌, ◌-◌, ◌<◌, ◌==◌, ◌∷◌, ◌++◌, ℕ, List, codes, drop, if◌then◌else◌, length, min, take}

-- what the number of a message that was not taken says
abbrev pub host_words : ℕ → List ℕ
host_words number =
    if number == 21 then codes "the message has fewer than 32 bytes"
    else if number == 22
    then codes "the data segment's length is wrong for the message's kind or for its bytes"
    else if number == 23 then codes "a digest is asked for, which this device does not have"
    else if number == 24 then codes "the message has an extra header segment, which this device does not have"
    else if number == 25 then codes "no message of a host has this transaction code"
    else if number == 26 then codes "a reserved byte or bit is set, or a field is outside its set"
    else if number == 27 then codes "the task tag is in use"
    else if number == 28 then codes "no data with this tag, LUN, offset and count were asked for"
    else if number == 29 then codes "32 short exchanges are open"
    else codes "no fault has this number"

-- what a number says
abbrev pub fault_words : ℕ → List ℕ
fault_words number =
    if number == 0 then codes "it went well"
    else if number == 1 then codes "the handle holds no device"
    else if number == 2 then codes "the handle holds a device already"
    else if number == 3 then codes "memory was refused"
    else if number == 4 then codes "a number of the configuration is out of its range"
    else if number == 5
    then codes "the units, the RPMB areas and the slots need more blocks than the dies have beside the spare ones"
    else if number == 6 then codes "two units have the same boot number"
    else if number == 7 then codes "the dies hold another configuration"
    else if number == 8 then codes "the bytes are no image of dies of these sizes"
    else if number == 9 then codes "nothing is due"
    else if number == 10 then codes "the die has no job in flight that ends so"
    else if number == 11 then codes "the buffer has too little room"
    else if number == 12 then codes "a number is none that the call knows"
    else if number == 13 then codes "the dies are the program's own"
    else host_words number

-- the words stand at the front of the room, cut off where it ends, with a zero byte behind them, and what stood behind
-- that is as before. The count is that of the bytes before the zero byte. Without room nothing is written
pub record IsText (words before : List ℕ) (count : ℕ) (after : List ℕ) : Type 0 where
  pub count_is : count ≡ min (length words) (length before - 1)
  pub written : 0 < length before → after ≡ take count words ++ (0 ∷ drop (count + 1) before)
