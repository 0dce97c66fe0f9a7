-- What was read for a request whose GOOD is due is what it asks for: of a request for data the blocks of the area as it
-- is now, unless a page of them could not be read, and of any other request nothing.
use Rattle.device.proofs.Common.{Answering, AreaReading, AreaReads, Awaiting, Deed, Frame, Frames, FramesFit}
use Rattle.device.proofs.Common.{FramesWait, Gathering, IsAsked, IsDoing, IsFor, IsRead, IsTied, List, None, OpenTask}
use Rattle.device.proofs.Common.{Option, PartsStand, Phase, ReadBlock, ReadState, ReadingArea, ReadsAsked, ReadsFor}
use Rattle.device.proofs.Common.{Region, Registers, RpmbRequest, Sending, SendingBytes, Shape, ShowsReads, Some, State}
use Rattle.device.proofs.Common.{TaskKept, [], and_parts, ap, area_page, area_part, area_there, arith, before_accepted}
use Rattle.device.proofs.Common.{false, false≢true, filled_with, frame_in, frames_of, is_due_in, is_page_there}
use Rattle.device.proofs.Common.{is_success, is_task_of, is_unfilled, length, length-take, map, not, numbers_of}
use Rattle.device.proofs.Common.{part_of_page, plain_now, read_data, reads_area, refl, region_of, second_read}
use Rattle.device.proofs.Common.{shape_of_numbers, slice_get, slice_index_or, subst, sym, take, take-take, task_of}
use Rattle.device.proofs.Common.{true, with_reads, ℕ, ◌&&◌, ◌*◌, ◌++◌, ◌+◌, ◌-◌, ◌/◌, ◌==◌, ◌∙◌, ◌∷◌, ◌≡◌, ◌≤◌}
use Rattle.std.specs.Prelude.{drop}
use Rattle.ufs_spec.specs.Exchanges as exchange
use Rattle.ufs_spec.specs.Exchanges.{Comparing}
use Rattle.ufs_spec.specs.FrameRequests.{result_now}
use Rattle.ufs_spec.specs.Frames.{frames_in}
use Rattle.power_loss.specs.AreaReads.{ArePagesOf}
use Rattle.power_loss.specs.WaitingFrames.{AsksInside, AsksRightly, FramesAsk, RequestAsks}
use Rattle.power_loss.proofs.area_reads.PagesRead.{pages_found}
use Rattle.power_loss.proofs.host_commands.AcceptedCommands.{shape_tied}
use Rattle.power_loss.proofs.open_tasks.TaggedLists.{each_found}
use Rattle.rpmb.specs.Answers.{HasAskedData}
use Rattle.task_set.specs.declared.frames.Frames.TheVariants as frames
use Rattle.task_set.specs.declared.tasks.Phase.TheVariants as phase
use Rattle.device.specs.Describes.{IsFirstFrame, asks_of}
use Rattle.device.specs.Frames.{data_for, is_second_there, joined, part_read, second_part}
use Rattle.device.proofs.described.AreaParts.{AreAsked, one_part, part, two_parts}
use Rattle.device.proofs.described.GoodDue.{same_first, same_rest, some_left}
use Rattle.device.proofs.described.PagesThere.{one_read, page_part, two_read}
use Rattle.device.proofs.open_tasks.KeptByTag.{WantedForAll}

-- The first frame

-- the bytes of the first frame are one frame
one_frame : (bytes : List ℕ) → length bytes ≡ 4096 → frames_of (take 512 bytes) ≡ frame_in (take 512 bytes) ∷ []
one_frame bytes long =
    let size = length-take 512 bytes in
    ap (λ (n : ℕ). frames_in n (take 512 bytes)) (one (length (take 512 bytes)) (omega arith))
    ∙ ap (λ (x : List ℕ). frame_in x ∷ []) (take-take 512 512 bytes (omega arith))
  where
    one : (n : ℕ) → n ≡ 512 → n / 512 ≡ 1
    one n e = omega arith

-- it decides alone
pub filled_by_first : (region : Region) (bytes : List ℕ) (result : ℕ) (fs : List Frame) (r : Registers) →
    length bytes ≡ 4096 → IsFirstFrame bytes fs →
    filled_with region fs result r ≡ filled_with region (frames_of (take 512 bytes)) result r
filled_by_first region bytes result [] r long h = absurd h
filled_by_first region bytes result (f ∷ fs) r long h =
    ap (λ (g : Frame). filled_with region (g ∷ fs) result r) h
    ∙ ap (λ (xs : List Frame). filled_with region xs result r) (sym (one_frame bytes long))

frames_are : (bytes : List ℕ) (fs : List Frame) → IsFirstFrame bytes fs →
    (rest : List Frame) × (fs ≡ frame_in (take 512 bytes) ∷ rest)
frames_are bytes [] h = absurd h
frames_are bytes (f ∷ fs) h = (fs, ap (λ (g : Frame). g ∷ fs) h)

-- How the reads ended

-- those of the pages that a task reads for its request
abbrev pub reads_of : Deed → List ReadState
reads_of (ReadingArea pages) = map (λ (page : ReadBlock). page.state) pages
reads_of deed = []

pub result_is : (deed : Deed) (result : ℕ) → result_now deed result ≡ with_reads (reads_of deed) result
result_is (Gathering purpose gathered asked) result = refl
result_is (Sending blocks sent) result = refl
result_is (SendingBytes bytes) result = refl
result_is (Awaiting commands) result = refl
result_is (ReadingArea pages) result = refl
result_is (Comparing blocks compared asked) result = refl
result_is (Answering status carried) result = refl

-- Nothing is read

nothing_asked : (region : Region) (g : Frame) (code : ℕ) → reads_area g code ≡ false →
    IsRead region (g ∷ []) code [] (Some [])
nothing_asked region g code none =
    (refl, λ kind good. absurd (false≢true (sym none ∙ (λ i. (kind i == read_data) && good i))))

-- Pages are read

-- the blocks that the reading asks for are those that the frame asks for
data_asked : (region : Region) (g : Frame) (code : ℕ) (r : AreaReading) (bytes : List ℕ) → r.address ≡ g.address →
    r.count ≡ g.count → (g.kind ≡ read_data → is_success code ≡ true → AreAsked r region.area bytes) →
    HasAskedData region (g ∷ []) code bytes
data_asked region g code r bytes address count are = λ kind good.
    let its = are kind good in (
      its.0 ∙ ap (λ (n : ℕ). 256 * n) count,
      its.1 ∙ (λ i. take (256 * count i) (drop (256 * address i) region.area)),
    )

-- the request that a task has is for data, and passed its checks
module _ (v : State) (a : OpenTask) (b : exchange.Task) (pages : List ReadBlock) (r : AreaReading) (g : Frame)
    (code : ℕ) (shows : ShowsReads v) (wanted : WantedForAll v.translation.pins v.tasks) (tag_is : b.tag ≡ a.tag)
    (found : task_of b.tag v.tasks ≡ Some b) (deed : b.deed ≡ ReadingArea pages)
    (unfilled : is_unfilled b.request ≡ true) (stand : PartsStand r a.held (ReadingArea pages))
    (address : r.address ≡ g.address) (count : r.count ≡ g.count)
    (number : ℕ) (their : ArePagesOf (plain_now v) number g pages)
    (inside : g.kind ≡ read_data → is_success code ≡ true →
    AsksInside (length (region_of (plain_now v) number).area) g) where
  abbrev region : Region
  region = region_of (plain_now v) number

  body_is : (i : ℕ) (block : ReadBlock) → slice_get pages i ≡ Some block →
      block.body ≡ area_page (r.address / 16 + i) region.area
  body_is i block at = their.each i block at ∙ ap (λ (n : ℕ). area_page (n / 16 + i) region.area) (sym address)

  many : (n : ℕ) → length pages ≡ n → n ≡ (r.address + r.count - 1) / 16 + 1 - r.address / 16
  many n is = sym is ∙ (their.count ∙ sym (λ i. (address i + count i - 1) / 16 + 1 - address i / 16))

  within : AsksInside (length region.area) g →
      (1 ≤ r.count) × (r.count ≤ 8) × (256 * (r.address + r.count) ≤ length region.area)
  within h =
      let low = h.some in
      let high = h.few in
      let end = h.within in
      let from = address in
      let so = count in
      (omega arith, omega arith, omega arith)

  one_asked : (x : List ℕ) → x ≡ part r region.area 0 → 1 ≡ (r.address + r.count - 1) / 16 + 1 - r.address / 16 →
      HasAskedData region (g ∷ []) code (x ++ [])
  one_asked x is one =
      data_asked region g code r (x ++ []) address count
      (λ kind good. let its = within (inside kind good) in
      subst (λ (y : List ℕ). AreAsked r region.area (y ++ [])) (sym is)
      (one_part r region.area its.0 its.1 its.2 one))

  two_asked : (x y : List ℕ) → x ≡ part r region.area 0 → y ≡ part r region.area 1 →
      2 ≡ (r.address + r.count - 1) / 16 + 1 - r.address / 16 → HasAskedData region (g ∷ []) code (x ++ y)
  two_asked x y is next two =
      data_asked region g code r (x ++ y) address count
      (λ kind good. let its = within (inside kind good) in
      subst (AreAsked r region.area) (sym (λ i. is i ++ next i))
      (two_parts r region.area its.0 its.1 its.2 two))

  its_part : (i : ℕ) (block : ReadBlock) → slice_get pages i ≡ Some block →
      part_of_page (area_part r i) block.body ≡ part r region.area i
  its_part i block at = ap (part_of_page (area_part r i)) (body_is i block at)

  data_read : (ps : List ReadBlock) → pages ≡ ps → (first : ReadState) (second : Option ReadState) →
      map (λ (page : ReadBlock). page.state) ps ≡ first ∷ second_read second →
      is_page_there v.translation a.tag 0 first ≡ true → is_second_there v.translation a.tag second ≡ true →
      IsRead region (g ∷ []) code (map (λ (page : ReadBlock). page.state) ps)
      (joined (part_read v.translation a r 0 first) (second_part v.translation a r second))
  data_read [] same first second e one two = absurd (some_left (sym e))
  data_read (p ∷ []) same first None e one two =
      let at = ap (λ (qs : List ReadBlock). slice_get qs 0) same in
      one_read region (g ∷ []) code p.state (part_of_page (area_part r 0) p.body) (part_read v.translation a r 0 first)
      (page_part v a b pages r shows wanted tag_is found deed unfilled stand 0 first p at (same_first e) one)
      (one_asked (part_of_page (area_part r 0) p.body) (its_part 0 p at) (many 1 (ap length same)))
  data_read (p ∷ []) same first (Some how) e one two = absurd (some_left (sym (same_rest e)))
  data_read (p ∷ q ∷ []) same first (Some how) e one two =
      let at = ap (λ (qs : List ReadBlock). slice_get qs 0) same in
      let next = ap (λ (qs : List ReadBlock). slice_get qs 1) same in
      two_read region (g ∷ []) code p.state q.state (part_of_page (area_part r 0) p.body)
      (part_of_page (area_part r 1) q.body) (part_read v.translation a r 0 first) (part_read v.translation a r 1 how)
      (page_part v a b pages r shows wanted tag_is found deed unfilled stand 0 first p at (same_first e) one)
      (page_part v a b pages r shows wanted tag_is found deed unfilled stand 1 how q next
      (same_first (same_rest e)) two)
      (two_asked (part_of_page (area_part r 0) p.body) (part_of_page (area_part r 1) q.body) (its_part 0 p at)
      (its_part 1 q next) (many 2 (ap length same)))
  data_read (p ∷ q ∷ ps) same first None e one two = absurd (some_left (same_rest e))
  data_read (p ∷ q ∷ w ∷ ps) same first (Some how) e one two = absurd (some_left (same_rest (same_rest e)))

-- What a task reads for its request

module _ (v : State) (tied : IsTied v) (shows : ShowsReads v) (waits : FramesWait v) (reads : AreaReads v)
    (wanted : WantedForAll v.translation.pins v.tasks) (a : OpenTask) (b : exchange.Task)
    (kept : TaskKept (before_accepted v.translation.ledger) a b) (found : task_of b.tag v.tasks ≡ Some b) (code : ℕ)
    (decided : a.frames ≡ frames.Decided code) (x : IsAsked code a.held b.request) where
  abbrev region_now : Region
  region_now = region_of (plain_now v) a.region

  -- the request is to the region to which the task brings frames
  region_is : x.asked.region ≡ a.region
  region_is = subst (λ (request : Option RpmbRequest). IsFor a.region (asks_of request)) x.is kept.asked_of

  abbrev first : Frame
  first = frame_in (take 512 x.bytes)

  rest : (fs : List Frame) × (x.asked.frames ≡ first ∷ fs)
  rest = frames_are x.bytes x.asked.frames x.first

  unfilled : is_unfilled b.request ≡ true
  unfilled = ap is_unfilled x.is ∙ ap not x.unfilled

  asks : ReadsFor a.phase first code
  asks =
      subst (ReadsAsked a.phase (frames.Decided code)) x.is_held
      (subst (λ (f : Frames). ReadsAsked a.phase f a.held) decided kept.asks)

  abbrev areas : List ℕ
  areas = (shape_of_numbers (numbers_of v)).areas

  -- it asks rightly
  rightly : AsksRightly (slice_index_or areas a.region 0) first code
  rightly =
      subst (FramesAsk (slice_index_or areas a.region 0) (first ∷ rest.0)) x.result
      (subst (λ (fs : List Frame). FramesAsk (slice_index_or areas a.region 0) fs x.asked.result) rest.1
      (subst (λ (n : ℕ). FramesAsk (slice_index_or areas n 0) x.asked.frames x.asked.result) region_is
      (subst (RequestAsks areas) x.is
      (each_found (λ (task : exchange.Task). RequestAsks areas task.request) (is_task_of b.tag) v.tasks b waits.requests
      found))))

  area_long : slice_index_or areas a.region 0 ≡ length region_now.area
  area_long =
      sym (ap (λ (s : Shape). slice_index_or s.areas a.region 0) (shape_tied tied)) ∙ area_there (plain_now v) a.region

  inside : first.kind ≡ read_data → is_success code ≡ true → AsksInside (length region_now.area) first
  inside kind good = subst (λ (n : ℕ). AsksInside n first) area_long (rightly.inside kind good)

  their : (pages : List ReadBlock) → b.deed ≡ ReadingArea pages → ArePagesOf (plain_now v) a.region first pages
  their pages deed =
      subst (λ (n : ℕ). ArePagesOf (plain_now v) n first pages) region_is
      (pages_found v b.tag b pages x.asked first rest.0 reads found deed x.is rest.1)

  by_phase : (p : Phase) (deed : Deed) → b.deed ≡ deed →
      IsDoing (before_accepted v.translation.ledger) a.expected b.length p deed → FramesFit p a.frames a.held deed →
      ReadsFor p first code → is_due_in v.translation a.tag p ≡ true →
      IsRead region_now (first ∷ []) code (reads_of deed) (data_for v.translation a p)
  by_phase (phase.ReadArea r) (ReadingArea pages) deed doing fits asked due =
      let there = and_parts _ _ due in
      data_read v a b pages r first code shows wanted kept.tag found deed unfilled fits.1 asked.1 asked.2
      a.region (their pages deed) inside pages refl r.first r.second doing.reads there.0 there.1
  by_phase (phase.Verify y) (ReadingArea pages) deed doing fits asked due = absurd (false≢true due)
  by_phase (phase.AwaitFrontier n size) (Awaiting commands) deed doing fits asked due =
      nothing_asked region_now first code asked
  by_phase (phase.Answer told n) (Answering status carried) deed doing fits asked due =
      nothing_asked region_now first code asked
  by_phase (phase.Answer told n) (Sending blocks sent) deed doing fits asked due =
      nothing_asked region_now first code asked
  by_phase (phase.Answer status n) (Comparing blocks compared told) deed doing fits asked due =
      nothing_asked region_now first code asked
  by_phase (phase.AskBlock y) (Comparing blocks compared told) deed doing fits asked due =
      absurd (false≢true due)
  by_phase (phase.AwaitBlock y) (Comparing blocks compared told) deed doing fits asked due =
      absurd (false≢true due)
  by_phase (phase.Ask w) (Gathering purpose gathered told) deed doing fits asked due =
      nothing_asked region_now first code asked
  by_phase (phase.Await w) (Gathering purpose gathered told) deed doing fits asked due =
      nothing_asked region_now first code asked
  by_phase (phase.SendBlocks y) (Sending blocks sent) deed doing fits asked due =
      nothing_asked region_now first code asked
  by_phase (phase.SendHeld y) (SendingBytes bytes) deed doing fits asked due =
      nothing_asked region_now first code asked
  by_phase p deed is doing fits asked due = absurd doing

  pub read_right : is_due_in v.translation a.tag a.phase ≡ true →
      IsRead region_now (frames_of (take 512 x.bytes)) code (reads_of b.deed) (data_for v.translation a a.phase)
  read_right due =
      subst (λ (fs : List Frame). IsRead region_now fs code (reads_of b.deed) (data_for v.translation a a.phase))
      (sym (one_frame x.bytes x.long))
      (by_phase a.phase b.deed refl kept.doing kept.fits asks due)
