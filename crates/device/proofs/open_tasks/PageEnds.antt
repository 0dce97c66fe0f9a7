-- What the end of a read leaves of a task that reads pages of the RPMB area: the part that is asked for of the page
-- stands in its block, or the page is known to be lost.
use Rattle.device.specs.Describes.{BringsFor}
use Rattle.device.proofs.Common.{AreFramesKept, AreaReading, Bool, Frame, Frames, FramesFit, IsAsked, IsDoing}
use Rattle.device.proofs.Common.{IsReadingArea, List, None, NotRead, OpenTask, Option, PartsStand, Phase, ReadBlock}
use Rattle.device.proofs.Common.{ReadState, ReadingArea, ReadsAsked, ReadsFor, RpmbRequest, Some, TaskKept, WasRead, []}
use Rattle.device.proofs.Common.{ap, area_part, arith, block_after, brings_frames, deed_read, eq_self, eqb-true, false}
use Rattle.device.proofs.Common.{false≢true, frame_in, frames_after, if◌then◌else◌, is_unfilled, length, length-map}
use Rattle.device.proofs.Common.{map, option_map, part_held, part_of_page, phase_after, read_for, read_in, refl}
use Rattle.device.proofs.Common.{same_Some, second_read, set_other, set_state, set_there, slice_get_within, subst, suc}
use Rattle.device.proofs.Common.{sym, task_after, true, zero, ℕ, ◌<◌, ◌==◌, ◌∙◌, ◌∷◌, ◌≡◌, ◌≤◌}
use Rattle.std.proofs.Common.{slice_get, slice_set, take}
use Rattle.ufs_spec.specs.Exchanges as exchange
use Rattle.ufs_spec.specs.Machine.{with_block}
use Rattle.task_set.specs.Frames.{page_ended, page_put, pages_read}
use Rattle.task_set.specs.declared.frames.AreaPart.{AreaPart}
use Rattle.task_set.specs.declared.frames.Frames.TheVariants as frames
use Rattle.ufs_spec.specs.declared.exchanges.ReadState.TheVariants as ended
use Rattle.task_set.specs.declared.tasks.Phase.TheVariants as phase
use Rattle.task_set.specs.declared.tasks.TaskEvent.TheVariants as event
use Rattle.device.specs.Describes.{IsFirstFrame, StandsIn}
use Rattle.device.proofs.open_tasks.BlockEnds.{blocks_ended, set_read}
use Rattle.device.proofs.open_tasks.PartsPut.{first_part_stays, frame_stays, page_put_long, part_put_there}
use Rattle.device.proofs.open_tasks.PartsPut.{second_part_stays}
use Rattle.device.proofs.open_tasks.VerifyEnds.{filled_off}

-- How the reads ended

-- the state of each block
abbrev states : List ReadBlock → List ReadState
states pages = map (λ (page : ReadBlock). page.state) pages

states_set : (pages : List ReadBlock) (index : ℕ) (new : ReadBlock) →
    states (slice_set pages index new) ≡ slice_set (states pages) index new.state
states_set [] index new = refl
states_set (x ∷ xs) zero new = refl
states_set (x ∷ xs) (suc index) new = ap (λ ys. x.state ∷ ys) (states_set xs index new)

-- one page, or two
pub few_read : (r : AreaReading) → length (pages_read r) ≤ 2
few_read r = by r.second
  where
    by : (o : Option ReadState) → suc (length (second_read o)) ≤ 2
    by None = omega arith
    by (Some how) = omega arith

read_set : (r : AreaReading) (index : ℕ) (how : ReadState) → index < length (pages_read r) →
    slice_set (pages_read r) index how ≡ pages_read (page_ended r index how)
read_set r zero how low = refl
read_set r (suc zero) how low = by r.second low
  where
    by : (o : Option ReadState) → 1 < suc (length (second_read o)) →
        r.first ∷ slice_set (second_read o) 0 how
        ≡ r.first ∷ second_read (option_map (λ old. how) o)
    by None few = absurd (omega arith)
    by (Some old) few = refl
read_set r (suc (suc index)) how low = let few = few_read r in absurd (omega arith)

-- an ending changes nothing of what is asked for
record AsksSame (r s : AreaReading) : Type 0 where
  address : s.address ≡ r.address
  count : s.count ≡ r.count
  total : s.length ≡ r.length
  parts : (i : ℕ) → area_part s i ≡ area_part r i

asks_same : (r : AreaReading) (index : ℕ) (how : ReadState) → AsksSame r (page_ended r index how)
asks_same r index how = by (index == 0)
  where
    by : (b : Bool) →
        AsksSame r (if b then record r { first = how } else record r { second = option_map (λ old. how) r.second })
    by true = record { address = refl; count = refl; total = refl; parts = λ i. refl }
    by false = record { address = refl; count = refl; total = refl; parts = λ i. refl }

reading_ended : (r : AreaReading) (total : ℕ) (pages : List ReadBlock) (index : ℕ) (page : ReadBlock) (how : ReadState) →
    slice_get pages index ≡ Some page → IsReadingArea r total pages →
    IsReadingArea (page_ended r index how) total (blocks_ended pages index how page)
reading_ended r total pages index page how there h = record {
  total_is = h.total_is ∙ sym (asks_same r index how).total;
  reads =
      states_set pages index (set_state how page)
      ∙ (ap (λ (xs : List ReadState). slice_set xs index how) h.reads ∙ read_set r index how low);
}
  where
    low : index < length (pages_read r)
    low =
        let within = slice_get_within pages index page there in
        let same = length-map pages (λ (x : ReadBlock). x.state) in
        let reads = ap length h.reads in
        omega arith

-- The parts of the pages

within_two : (r : AreaReading) (total : ℕ) (pages : List ReadBlock) (i : ℕ) (page : ReadBlock) →
    slice_get pages i ≡ Some page → IsReadingArea r total pages → i < 2
within_two r total pages i page there h =
    let within = slice_get_within pages i page there in
    let same = length-map pages (λ (x : ReadBlock). x.state) in
    let reads = ap length h.reads in
    let few = few_read r in
    omega arith

-- that of the other page stays where one is put
other_stays : (r : AreaReading) (body row : List ℕ) → length row ≡ 4096 → (i index : ℕ) → i < 2 → index < 2 →
    (i == index) ≡ false → part_held (area_part r i) (page_put r index body row) ≡ part_held (area_part r i) row
other_stays r body row long zero zero low high other = absurd (false≢true (sym other))
other_stays r body row long zero (suc zero) low high other = first_part_stays r body row long
other_stays r body row long (suc zero) zero low high other = second_part_stays r body row long
other_stays r body row long (suc zero) (suc zero) low high other = absurd (false≢true (sym other))
other_stays r body row long (suc (suc i)) index low high other = absurd (omega arith)
other_stays r body row long i (suc (suc index)) low high other = absurd (omega arith)

module _ (r : AreaReading) (total : ℕ) (pages : List ReadBlock) (index : ℕ) (page : ReadBlock)
    (there : slice_get pages index ≡ Some page) (h : IsReadingArea r total pages) where
  -- each block is the one whose read ended, or stays
  block_now : (state : ReadState) (i : ℕ) (block : ReadBlock) →
      slice_get (blocks_ended pages index state page) i ≡ Some block → (i == index) ≡ true →
      block ≡ set_state state page
  block_now state i block at same =
      same_Some block (set_state state page)
      (sym at ∙ (ap (slice_get (blocks_ended pages index state page)) (eqb-true i index same)
      ∙ set_there pages index page (set_state state page) there))

  block_then : (state : ReadState) (i : ℕ) (block : ReadBlock) →
      slice_get (blocks_ended pages index state page) i ≡ Some block → (i == index) ≡ false →
      slice_get pages i ≡ Some block
  block_then state i block at other =
      sym (set_other pages index i (set_state state page)
      (λ same. false≢true (sym other ∙ (ap (λ (n : ℕ). n == index) same ∙ eq_self index)))) ∙ at

  -- and each part stands that was read
  parts_read : (body row : List ℕ) → length row ≡ 4096 → length body ≡ 4096 → body ≡ page.body →
      PartsStand r (Some row) (ReadingArea pages) →
      PartsStand (page_ended r index ended.WasRead) (Some (page_put r index body row))
      (ReadingArea (blocks_ended pages index WasRead page))
  parts_read body row long whole content parts i block at is =
      record {
        bytes = page_put r index body row;
        is_held = refl;
        long = page_put_long r body row long index;
        same =
            subst (λ (p : AreaPart). part_held p (page_put r index body row) ≡ part_of_page p block.body)
            (sym ((asks_same r index ended.WasRead).parts i)) (by (i == index) refl);
      }
    where
      by : (b : Bool) → (i == index) ≡ b →
          part_held (area_part r i) (page_put r index body row) ≡ part_of_page (area_part r i) block.body
      by true e =
          subst
          (λ (n : ℕ). part_held (area_part r n) (page_put r index body row) ≡ part_of_page (area_part r n) block.body)
          (sym (eqb-true i index e))
          (part_put_there r body row long index whole
          ∙ ap (part_of_page (area_part r index))
          (content ∙ sym (ap (λ (x : ReadBlock). x.body) (block_now WasRead i block at e))))
      by false e =
          let stands = parts i block (block_then WasRead i block at e) is in
          other_stays r body row long i index
          (within_two r total pages i block (block_then WasRead i block at e) h)
          (within_two r total pages index page there h) e
          ∙ (ap (part_held (area_part r i)) (same_Some row stands.bytes stands.is_held) ∙ stands.same)

  -- of a page that could not be read none stands
  parts_lost : (held : Option (List ℕ)) → PartsStand r held (ReadingArea pages) →
      PartsStand (page_ended r index ended.NotRead) held (ReadingArea (blocks_ended pages index NotRead page))
  parts_lost held parts i block at is =
      subst (λ (p : AreaPart). StandsIn held p block.body) (sym ((asks_same r index ended.NotRead).parts i))
      (by (i == index) refl)
    where
      lost : NotRead ≡ WasRead → ⊥
      lost e = cc

      by : (b : Bool) → (i == index) ≡ b → StandsIn held (area_part r i) block.body
      by true e = absurd (lost (sym (ap (λ (x : ReadBlock). x.state) (block_now NotRead i block at e)) ∙ is))
      by false e = parts i block (block_then NotRead i block at e) is

-- The request

same_first : (xs ys : List ℕ) (fs : List Frame) → take 512 ys ≡ take 512 xs → IsFirstFrame xs fs → IsFirstFrame ys fs
same_first xs ys [] same h = h
same_first xs ys (f ∷ fs) same h = h ∙ ap frame_in (sym same)

-- a block that is as long and has the same first frame keeps the same request
asked_same : (code : ℕ) (xs ys : List ℕ) (request : Option RpmbRequest) → length ys ≡ 4096 →
    take 512 ys ≡ take 512 xs → (h : IsAsked code (Some xs) request) → IsAsked code (Some ys) request
asked_same code xs ys request long same h = record {
  bytes = ys;
  is_held = refl;
  long = long;
  asked = h.asked;
  is = h.is;
  result = h.result;
  unfilled = h.unfilled;
  first = same_first xs ys h.asked.frames same
      (subst (λ (zs : List ℕ). IsFirstFrame zs h.asked.frames) (sym (same_Some xs h.bytes h.is_held)) h.first);
}

-- and a task that reads the blocks that it asks for does so once the read of one of its pages ended
reads_same : (r : AreaReading) (index code : ℕ) (how : ReadState) (xs ys : List ℕ) → take 512 ys ≡ take 512 xs →
    ReadsAsked (phase.ReadArea r) (frames.Decided code) (Some xs) →
    ReadsAsked (phase.ReadArea (page_ended r index how)) (frames.Decided code) (Some ys)
reads_same r index code how xs ys same h =
    let asks = asks_same r index how in
    let its : ReadsFor (phase.ReadArea r) (frame_in (take 512 ys)) code =
    subst (λ (zs : List ℕ). ReadsFor (phase.ReadArea r) (frame_in zs) code) (sym same) h in
    (its.0, asks.address ∙ its.1, asks.count ∙ its.2)

-- The task

-- a task whose request is yet to fill its register has one that is decided
record HasDecision (f : Frames) : Type 0 where
  code : ℕ
  is : f ≡ frames.Decided code

decided : (f : Frames) (held : Option (List ℕ)) (request : Option RpmbRequest) → AreFramesKept f held request →
    is_unfilled request ≡ true → HasDecision f
decided (frames.Decided code) held request h asks = record { code = code; is = refl }
decided frames.NotBrought held request h asks = absurd (false≢true (sym (ap is_unfilled h) ∙ asks))
decided frames.Undecided held request h asks = absurd (false≢true (sym (ap is_unfilled h) ∙ asks))
decided frames.Answered held request h asks = absurd (false≢true (sym (filled_off request h) ∙ asks))

record IsReadingIn (before expected total : ℕ) (p : Phase) (pages : List ReadBlock) : Type 0 where
  r : AreaReading
  is : p ≡ phase.ReadArea r
  reading : IsReadingArea r total pages

brings_some : (code : ℕ) → frames.Decided code ≡ frames.NotBrought → ⊥
brings_some code e = cc

-- so it is no VERIFY
reads_in : (before expected total code : ℕ) (p : Phase) (held : Option (List ℕ)) (pages : List ReadBlock) →
    IsDoing before expected total p (ReadingArea pages) →
    FramesFit p (frames.Decided code) held (ReadingArea pages) → IsReadingIn before expected total p pages
reads_in before expected total code (phase.ReadArea r) held pages h fits = record { r = r; is = refl; reading = h }
reads_in before expected total code (phase.Verify x) held pages h fits = absurd (brings_some code fits)
reads_in before expected total code p held pages h fits = absurd h

module _ (before index : ℕ) (a : OpenTask) (b : exchange.Task) (pages : List ReadBlock) (page : ReadBlock)
    (h : TaskKept before a b) (deed : b.deed ≡ ReadingArea pages) (unfilled : is_unfilled b.request ≡ true)
    (there : slice_get pages index ≡ Some page) where
  decision : HasDecision a.frames
  decision = decided a.frames a.held b.request h.request unfilled

  its : IsReadingIn before a.expected b.length a.phase pages
  its = reads_in before a.expected b.length decision.code a.phase a.held pages
      (subst (IsDoing before a.expected b.length a.phase) deed h.doing)
      (subst (λ (f : Frames). FramesFit a.phase f a.held (ReadingArea pages)) decision.is
      (subst (FramesFit a.phase a.frames a.held) deed h.fits))

  asked : IsAsked decision.code a.held b.request
  asked = subst (λ (f : Frames). AreFramesKept f a.held b.request) decision.is h.request

  abbrev row : List ℕ
  row = asked.bytes

  asked_row : IsAsked decision.code (Some row) b.request
  asked_row = subst (λ o. IsAsked decision.code o b.request) asked.is_held asked

  asks : ReadsAsked (phase.ReadArea its.r) (frames.Decided decision.code) (Some row)
  asks =
      subst (λ o. ReadsAsked (phase.ReadArea its.r) (frames.Decided decision.code) o) asked.is_held
      (subst (λ f. ReadsAsked (phase.ReadArea its.r) f a.held) decision.is
      (subst (λ p. ReadsAsked p a.frames a.held) its.is h.asks))

  parts : PartsStand its.r (Some row) (ReadingArea pages)
  parts =
      subst (λ o. PartsStand its.r o (ReadingArea pages)) asked.is_held
      (subst (PartsStand its.r a.held) deed (subst (λ p. FramesFit p a.frames a.held b.deed) its.is h.fits).1)

  theirs : (state : ReadState) →
      record b { deed = ReadingArea (blocks_ended pages index state page) } ≡ set_read index state b
  theirs state =
      ap (λ x. record b { deed = x })
      (ap (λ o. ReadingArea (with_block pages index state o)) (sym there) ∙ ap (deed_read index state) (sym deed))

  -- the task behind the read of its page
  then_kept : (how : ReadState) (new : List ℕ) → length new ≡ 4096 → take 512 new ≡ take 512 row →
      PartsStand (page_ended its.r index how) (Some new)
      (ReadingArea (blocks_ended pages index how page)) →
      TaskKept before
      (record a {
        phase = phase.ReadArea (page_ended its.r index how);
        frames = frames.Decided decision.code;
        held = Some new;
      })
      (record b { deed = ReadingArea (blocks_ended pages index how page) })
  then_kept how new long same stand = record {
    lun = h.lun;
    tag = h.tag;
    expected = h.expected;
    brings = subst (λ (x : Bool). BringsFor a.region x b.command) (ap brings_frames decision.is) h.brings;
    gathers = tt;
    asked_of = h.asked_of;
    request = asked_same decision.code row new b.request long same asked_row;
    asks = reads_same its.r index decision.code how row new same asks;
    fits = (tt, stand);
    doing = reading_ended its.r b.length pages index page how there its.reading;
    read = h.read ∙ ap read_in deed;
  }

  pub page_read : (body : List ℕ) → length body ≡ 4096 → body ≡ page.body →
      TaskKept before (read_for index body a a.phase) (set_read index WasRead b)
  page_read body whole content =
      subst (TaskKept before (read_for index body a a.phase)) (theirs WasRead)
      (subst (λ (x : OpenTask). TaskKept before x
      (record b { deed = ReadingArea (blocks_ended pages index WasRead page) })) ours
      (then_kept ended.WasRead (page_put its.r index body row) (page_put_long its.r body row asked.long index)
      (frame_stays its.r body row asked.long index)
      (parts_read its.r b.length pages index page there its.reading body row asked.long whole content parts)))
    where
      ours : record a {
        phase = phase.ReadArea (page_ended its.r index ended.WasRead);
        frames = frames.Decided decision.code;
        held = Some (page_put its.r index body row);
      } ≡ read_for index body a a.phase
      ours =
          (λ i. record a {
            phase = phase_after (sym its.is i) (event.PageLoaded index);
            frames = frames_after (sym decision.is i) (event.PageLoaded index);
            block = block_after (event.PageLoaded index) (sym its.is i) a.block;
            held = option_map (page_put its.r index body) (sym asked.is_held i);
          })
          ∙ ap (read_for index body a) (sym its.is)

  pub page_lost : TaskKept before (task_after (event.BlockLost index) a) (set_read index NotRead b)
  page_lost =
      subst (TaskKept before (task_after (event.BlockLost index) a)) (theirs NotRead)
      (subst (λ (x : OpenTask). TaskKept before x
      (record b { deed = ReadingArea (blocks_ended pages index NotRead page) })) ours
      (then_kept ended.NotRead row asked.long refl
      (parts_lost its.r b.length pages index page there its.reading (Some row) parts)))
    where
      ours : record a {
        phase = phase.ReadArea (page_ended its.r index ended.NotRead);
        frames = frames.Decided decision.code;
        held = Some row;
      } ≡ task_after (event.BlockLost index) a
      ours = λ i. record a {
        phase = phase_after (sym its.is i) (event.BlockLost index);
        frames = frames_after (sym decision.is i) (event.BlockLost index);
        block = block_after (event.BlockLost index) (sym its.is i) a.block;
        held = sym asked.is_held i;
      }
