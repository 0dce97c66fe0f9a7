-- Each message is spelled in at most 4128 bytes, and each reply of a task that fits is a message.
use Rattle.ufs_laws.proofs.Common.{Comparing}
use Rattle.ufs_spec.specs.Exchanges.{ready_for_block}
use Rattle.ufs_spec.specs.Replies.{compare_reply, is_ended, next_compare_reply, reads_reply}
use Rattle.ufs_laws.proofs.Common.{Answering, AreBytes, Awaiting, Bool, Deed, Gathering, Good, IsAmong, List, Message}
use Rattle.ufs_laws.proofs.Common.{None, NotRead, Option, ReadBlock, ReadState, ReadingArea, Sending, SendingBytes}
use Rattle.ufs_laws.proofs.Common.{Some, State, Status, Task, Unread, WasRead, [], arith, block_reply, count_at}
use Rattle.ufs_laws.proofs.Common.{deed_reply, durable, false, if◌then◌else◌, is_at_hand, length, length-append}
use Rattle.ufs_laws.proofs.Common.{length-replicate, length-take-le, nat_le, nat_lt, next_block_reply, pin_of, refl}
use Rattle.ufs_laws.proofs.Common.{response, same_Some, slice_get, spelling, subst, suc, take, true, zero, zeros, ℕ}
use Rattle.ufs_laws.proofs.Common.{◌*◌, ◌++◌, ◌+◌, ◌-◌, ◌<◌, ◌^◌, ◌∷◌, ◌≡◌, ◌≤◌}
use Rattle.ufs_laws.specs.Replies.{DeedSpeaks, IsStatus, TaskSpeaks}
use Rattle.ufs_spec.proofs.SpellingParts.{header_size, segment_size}
use Rattle.ufs_spec.specs.Cdbs.{Residual, fixed_sense, residual_of}
use Rattle.ufs_spec.specs.declared.exchanges.Status.TheVariants.{CheckCondition}
use Rattle.ufs_spec.specs.Exchanges.{block_message, bytes_sent, data_message, read_error, ready_message, response_byte}
use Rattle.ufs_spec.specs.Exchanges.{sense_data, status_byte, to_gather}
use Rattle.ufs_spec.specs.Messages.{AreFlags, IsByte, IsMessage, IsSense, header_of, padding, segment_of}
use Rattle.ufs_spec.specs.Replies.{is_area_read}
use Rattle.ufs_laws.proofs.pages.ByteLists.{bytes-take}

-- ## The size of a spelling

padded : (n : ℕ) → n ≤ 4096 → n + padding n ≤ 4096
padded n low = omega arith

summed : (all front fill header segment rest : ℕ) → all ≡ front + fill → front ≡ header + segment → fill ≡ rest →
    header ≡ 32 → segment + rest ≤ 4096 → all ≤ 4128
summed all front fill header segment rest a b c d e = omega arith

pub size : (m : Message) → IsMessage m → length (spelling m) ≤ 4128
size m h =
    let segment : length (segment_of m) ≤ 4096 = segment_size m h in
    let header : length (header_of m) ≡ 32 = header_size m h in
    let fill : length (zeros (padding (length (segment_of m)))) ≡ padding (length (segment_of m)) = length-replicate
    (padding (length (segment_of m))) 0 in
    let front : length (header_of m ++ segment_of m) ≡ length (header_of m) + length (segment_of m) = length-append
    (header_of m) (segment_of m) in
    let whole : length (spelling m) ≡ length (header_of m ++ segment_of m) + length
    (zeros (padding (length (segment_of m)))) =
    length-append (header_of m ++ segment_of m) (zeros (padding (length (segment_of m)))) in
    let fits : length (segment_of m) + padding (length (segment_of m)) ≤ 4096 = padded (length (segment_of m))
    segment in
    summed (length (spelling m)) (length (header_of m ++ segment_of m))
    (length (zeros (padding (length (segment_of m))))) (length (header_of m)) (length (segment_of m))
    (padding (length (segment_of m)))
    whole front fill header fits

-- ## A RESPONSE

abbrev residual_by : Bool → Bool → ℕ → ℕ → Residual
residual_by b c expected n =
    if b then record { flags = 0x20; count = expected - n } else if c then record { flags = 0x40; count = n - expected }
    else record { flags = 0x00; count = 0 }

residual_fits : (expected n : ℕ) → expected < 2 ^ 32 → n < 2 ^ 32 →
    AreFlags (residual_of expected n).flags × ((residual_of expected n).count < 2 ^ 32)
residual_fits expected n low few = by (nat_lt n expected) (nat_lt expected n)
  where
    by : (b c : Bool) → AreFlags (residual_by b c expected n).flags × ((residual_by b c expected n).count < 2 ^ 32)
    by true c = (refl, omega arith)
    by false true = (refl, omega arith)
    by false false = (refl, omega arith)

abbrev EachByte : List ℕ → Type 0
EachByte [] = Unit {0}
EachByte (x ∷ xs) = IsByte x × EachByte xs

each_byte : (xs : List ℕ) → EachByte xs → AreBytes xs
each_byte [] h place = omega arith
each_byte (x ∷ xs) h zero = h.0
each_byte (x ∷ xs) h (suc place) = each_byte xs h.1 place

zero_byte : IsByte 0
zero_byte = omega arith

-- 20 bytes of sense data
sense_bytes : (key asc ascq : ℕ) → IsByte key → IsByte asc → IsByte ascq →
    AreBytes (0 ∷ 0x12 ∷ fixed_sense (record { key = key; asc = asc; ascq = ascq }))
sense_bytes key asc ascq k a q =
    each_byte (0 ∷ 0x12 ∷ fixed_sense (record { key = key; asc = asc; ascq = ascq })) (
      zero_byte,
      (
        omega arith,
        (
          omega arith,
          (
            zero_byte,
            (
              k,
              (
                zero_byte,
                (
                  zero_byte,
                  (
                    zero_byte,
                    (
                      zero_byte,
                      (
                        omega arith,
                        (
                          zero_byte,
                          (
                            zero_byte,
                            (
                              zero_byte,
                              (
                                zero_byte,
                                (a, (q, (zero_byte, (zero_byte, (zero_byte, (zero_byte, tt)))))),
                              ),
                            ),
                          ),
                        ),
                      ),
                    ),
                  ),
                ),
              ),
            ),
          ),
        ),
      ),
    )

status_fits : (status : Status) → IsStatus status →
    IsAmong (0x00 ∷ 0x01 ∷ []) (response_byte status) × IsAmong (0x00 ∷ 0x02 ∷ 0x08 ∷ 0x28 ∷ []) (status_byte status)
    × IsSense (status_byte status) (sense_data status)
status_fits (CheckCondition sense) h =
    (refl, refl, (refl, refl, sense_bytes sense.key sense.asc sense.ascq h.0 h.1 h.2))
status_fits status h = (refl, refl, λ e. omega arith)

pub response_fits : (lun tag expected n : ℕ) (status : Status) → IsByte lun → IsByte tag → expected < 2 ^ 32 →
    n < 2 ^ 32 → IsStatus status → IsMessage (response lun tag expected n status)
response_fits lun tag expected n status l t low few is =
    let residual = residual_fits expected n low few in
    let told = status_fits status is in
    (residual.0, l, t, told.0, told.1, residual.1, told.2)

-- ## Data

block_fits : (task : Task) (sent : ℕ) (body : List ℕ) → TaskSpeaks task → 4096 * sent < bytes_sent task →
    length body ≡ 4096 → AreBytes body → IsMessage (block_message task sent body)
block_fits task sent body h more long are =
    let total : bytes_sent task ≤ task.expected = grind arith in
    let low = h.expected in
    let count : ℕ = count_at (bytes_sent task) (4096 * sent) in
    let some : 1 ≤ count = grind arith in
    let few : count ≤ 4096 = grind arith in
    let size : length (take count body) ≡ count = length-take-le count body (omega arith) in
    let first : 1 ≤ length (take count body) = omega arith in
    let last : length (take count body) ≤ 4096 = omega arith in
    (h.lun, h.tag, omega arith, (first, last, bytes-take count body are))

-- ## A reply of a task

read_error_is : IsStatus read_error
read_error_is = (omega arith, omega arith, omega arith)

module _ (s : State) (task : Task) (h : TaskSpeaks task) (m : Message) where
  block_speaks : (sent : ℕ) (body : List ℕ) (state : ReadState) (at_hand : Bool) → 4096 * sent < bytes_sent task →
      length body ≡ 4096 → AreBytes body →
      block_reply task sent body state at_hand ≡ Some m → IsMessage m
  block_speaks sent body WasRead at_hand more long are e =
      subst IsMessage (same_Some _ m e) (block_fits task sent body h more long are)
  block_speaks sent body NotRead at_hand more long are e =
      let total : bytes_sent task ≤ task.expected = grind arith in
      let low = h.expected in
      subst IsMessage (same_Some _ m e) (response_fits task.lun task.tag task.expected (4096 * sent) read_error h.lun
      h.tag h.expected (omega arith) read_error_is)
  block_speaks sent body Unread true more long are e =
      subst IsMessage (same_Some _ m e) (block_fits task sent body h more long are)
  block_speaks sent body Unread false more long are e = let none : None ≡ Some m = e in cc

  next_speaks : (blocks : List ReadBlock) (sent : ℕ) (o : Option ReadBlock) → slice_get blocks sent ≡ o →
      DeedSpeaks task.length (bytes_sent task) (Sending blocks sent) →
      next_block_reply s task sent o ≡ Some m → IsMessage m
  next_speaks blocks sent None there d e = let none : None ≡ Some m = e in cc
  next_speaks blocks sent (Some block) there d e =
      let is = d.2 sent block there in
      let inside = d.0 in
      let bound = d.1 in
      block_speaks sent block.body block.state (is_at_hand s.translation.work.rests (pin_of s task sent)) (omega arith)
      is.0 is.1 e

  asks_speaks : (compared : ℕ) → 4096 * compared + 4096 ≤ task.length → ready_for_block task compared ≡ m → IsMessage m
  asks_speaks compared within e =
      let low = h.length in
      let here : IsMessage (ready_for_block task compared) = (h.lun, h.tag, omega arith, omega arith) in
      subst IsMessage e here

  compared_speaks : (compared : ℕ) (state : ReadState) (at_hand : Bool) → 4096 * compared + 4096 ≤ task.length →
      compare_reply task compared state at_hand ≡ Some m → IsMessage m
  compared_speaks compared NotRead at_hand within e =
      let low = h.length in
      subst IsMessage (same_Some _ m e) (response_fits task.lun task.tag task.expected (4096 * compared) read_error h.lun
      h.tag h.expected (omega arith) read_error_is)
  compared_speaks compared Unread false within e = let none : None ≡ Some m = e in cc
  compared_speaks compared Unread true within e = asks_speaks compared within (same_Some _ m e)
  compared_speaks compared WasRead at_hand within e = asks_speaks compared within (same_Some _ m e)

  next_compared_speaks : (compared : ℕ) (o : Option ReadBlock) → 4096 * compared + 4096 ≤ task.length →
      next_compare_reply s task compared o ≡ Some m → IsMessage m
  next_compared_speaks compared None within e = let none : None ≡ Some m = e in cc
  next_compared_speaks compared (Some block) within e =
      compared_speaks compared block.state (is_at_hand s.translation.work.rests (pin_of s task compared)) within e

  deed_speaks : (deed : Deed) → DeedSpeaks task.length (bytes_sent task) deed → deed_reply s task deed ≡ Some m →
      IsMessage m
  deed_speaks (Gathering purpose gathered true) d e = let none : None ≡ Some m = e in cc
  deed_speaks (Gathering purpose gathered false) d e =
      let low = h.length in
      let less = d.0 in
      let part = d.1 in
      let few : count_at (to_gather purpose task.length) (length gathered) ≤ 4096 = grind arith in
      let here : IsMessage (ready_message task purpose gathered) = (h.lun, h.tag, omega arith, omega arith) in
      subst IsMessage (same_Some _ m e) here
  deed_speaks (Sending blocks sent) d e = next_speaks blocks sent (slice_get blocks sent) refl d e
  deed_speaks (SendingBytes bytes) d e =
      let here : IsMessage (data_message task 0 (take (bytes_sent task) bytes)) = (h.lun, h.tag, omega arith, d) in
      subst IsMessage (same_Some _ m e) here
  deed_speaks (Awaiting commands) d e = by (nat_le commands (durable s)) e
    where
      by : (b : Bool) →
          (if b then Some (response task.lun task.tag task.expected task.length Good) else None) ≡ Some m → IsMessage m
      by true k =
          subst IsMessage (same_Some _ m k)
          (response_fits task.lun task.tag task.expected task.length Good h.lun h.tag h.expected h.length tt)
      by false k = let none : None ≡ Some m = k in cc
  deed_speaks (ReadingArea pages) d e = by (is_ended task.request pages) (is_area_read s task pages) e
    where
      by : (ended read : Bool) → reads_reply task ended read ≡ Some m → IsMessage m
      by true read k =
          subst IsMessage (same_Some _ m k)
          (response_fits task.lun task.tag task.expected task.length read_error h.lun h.tag h.expected h.length
          read_error_is)
      by false true k =
          subst IsMessage (same_Some _ m k)
          (response_fits task.lun task.tag task.expected task.length Good h.lun h.tag h.expected h.length tt)
      by false false k = let none : None ≡ Some m = k in cc
  deed_speaks (Comparing blocks compared true) d e = let none : None ≡ Some m = e in cc
  deed_speaks (Comparing blocks compared false) d e =
      let inside = d.0 in
      let within = d.1 in
      next_compared_speaks compared (slice_get blocks compared) (omega arith) e
  deed_speaks (Answering status carried) d e =
      subst IsMessage (same_Some _ m e)
      (response_fits task.lun task.tag task.expected carried status h.lun h.tag h.expected d.1 d.0)

pub reply_speaks : (s : State) (task : Task) (m : Message) → TaskSpeaks task → deed_reply s task task.deed ≡ Some m →
    IsMessage m
reply_speaks s task m h e = deed_speaks s task h m task.deed h.deed e
