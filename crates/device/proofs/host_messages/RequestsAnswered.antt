-- The frames are a request that accepts nothing: one for data that passed its checks keeps its pages of the area, and
-- any other is answered at once.
use Rattle.device.proofs.Common.{Answering, Bool, Deed, DeviceCore, Frame, Good, HasRequested, IsKept, IsKey}
use Rattle.device.proofs.Common.{IsLayerWith, Keeps, List, Machine, Move, None, Pin, ReadBlock, ReadingArea, Release}
use Rattle.device.proofs.Common.{Results, Some, State, Translation, Unread, [], accepts_nothing, and_parts, ap}
use Rattle.device.proofs.Common.{area_key, arith, before_accepted, below, claim_of, claims_of, cond, content, eqb-true}
use Rattle.device.proofs.Common.{false, fold, if◌then◌else◌, is_success, length, machine_at, map, moved, numbers_of}
use Rattle.device.proofs.Common.{plain_now, read_data, reads_area, refl, region_of, request_decided, requested}
use Rattle.device.proofs.Common.{rpmb_outcome, shape_of_numbers, subst, sym, true, true≢false, wanted_kept}
use Rattle.device.proofs.Common.{with_claimed, with_zeros, ℕ, ◌++◌, ◌+◌, ◌<◌, ◌==◌, ◌∙◌, ◌≡◌}
use Rattle.ufs_spec.specs.Changes.{given_back, with_moves}
use Rattle.ufs_spec.specs.FrameRequests.{area_read, first_page, keeps_area, page_kept, pages_named}
use Rattle.ufs_laws.proofs.plain_contents.ListParts.{get_or-below, length-below}
use Rattle.power_loss.specs.WaitingFrames.{AsksInside}
use Rattle.power_loss.proofs.commands.RequestedCommands.{asks_inside}
use Rattle.power_loss.proofs.host_commands.ListsAndFrames.{keys_of_area}
use Rattle.rpmb.specs.declared.outcomes.Accepted.TheVariants as accepted
use Rattle.task_set.specs.Frames.{reading_of}
use Rattle.task_set.specs.declared.tasks.Phase.TheVariants as phase
use Rattle.ufs_spec.specs.declared.exchanges.Status.TheVariants as status
use Rattle.task_set.specs.declared.tasks.TaskEvent.TheVariants as event
use Rattle.device.specs.Frames.{MayAnswer, MayKeepArea, answer_event, answer_moves, area_keeps}
use Rattle.device.proofs.host_messages.BlocksKept.{kept_are, others_wanted}
use Rattle.device.proofs.host_messages.FramesGathered.{AllCame, all_frames, first_frame, fits, frames_are, given_up}
use Rattle.device.proofs.host_messages.FramesGathered.{not_wanted, released, requested_keeps, to}
use Rattle.device.proofs.host_messages.PagesAsked.{all_wanted, none_read, none_stands}
use Rattle.device.proofs.open_tasks.FewPins.{area_has_room, none_kept}

-- what may be kept, whatever the list of frames is written as
may_answer : (t : Translation) (tag region : ℕ) (fs gs : List Frame) (code : ℕ) → fs ≡ gs →
    MayAnswer t tag region gs code → MayAnswer t tag region fs code
may_answer t tag region fs gs code same = subst (λ (xs : List Frame). MayAnswer t tag region xs code) (sym same)

module _ {d : DeviceCore} {s : State} {tag : ℕ} {bytes : List ℕ} (c : AllCame d s tag bytes)
    (come : DeviceCore) (code : ℕ) (did : HasRequested d come tag c.stands.k (to c) bytes code accepted.Nothing) where
  abbrev first : Frame
  first = first_frame bytes

  -- the layer, once the slots are given back
  abbrev given : Translation
  given = moved s.translation (Release (claim_of (numbers_of s) c.stands.b))

  -- key and counter stay
  region_stays : (number : ℕ) → IsKept (machine_at did.rpmb number).region (region_of (plain_now s) number)
  region_stays number =
      subst (λ (ms : List Machine). IsKept (machine_at ms number).region (region_of (plain_now s) number))
      (sym did.decided.1) (c.described.kept.region number)

  -- this happened, by whether the request reads pages of the area
  event_is : (b : Bool) → reads_area first code ≡ b →
      did.event ≡ (if b then event.AreaAsked code first.address first.count else event.RequestAnswered code)
  event_is b e =
      did.decided.0.event_is
      ∙ (ap (λ (fs : List Frame). answer_event fs code) (frames_are c)
      ∙ ap (λ (x : Bool). cond x (event.AreaAsked code first.address first.count) (event.RequestAnswered code)) e)

  -- and these moves were made
  layer_is : (b : Bool) → reads_area first code ≡ b → MayAnswer s.translation tag (to c) (all_frames bytes) code →
      IsLayerWith did.layer (fold moved given (if b then area_keeps s.translation c.stands.b.tag (to c) first else []))
      (given_up c)
  layer_is b e may =
      released c did.layer (λ n. if b then area_keeps s.translation n (to c) first else [])
      (subst (λ (ms : List Move). IsLayerWith did.layer
      (fold moved (moved s.translation (Release (length (claims_of (numbers_of s) s.tasks tag)))) ms)
      (with_claimed (claims_of (numbers_of s) s.tasks) tag []))
      (ap (λ (fs : List Frame). answer_moves s.translation tag (to c) fs code) (frames_are c)
      ∙ ap (λ (x : Bool). cond x (area_keeps s.translation tag (to c) first) []) e)
      (did.decided.0.layer s.translation (claims_of (numbers_of s) s.tasks) (c.described.kept.layer_kept, c.described.kept.claims)
      (may_answer s.translation tag (to c) _ (all_frames bytes) code (frames_are c) may)))

  -- A request that is answered at once

  quiet_keeps : reads_area first code ≡ false →
      Keeps come
      (requested (given_back s c.stands.b) c.stands.b (to c) (all_frames bytes) code (Answering Good c.stands.b.length))
  quiet_keeps none =
      requested_keeps c come code accepted.Nothing did (event.RequestAnswered code) (phase.Answer status.Good c.wanted.length)
      (Answering Good c.stands.b.length) given s.accepted (event_is false none)
      (record {
        phase_is = refl;
        frames_are_kept = refl;
        no_block = refl;
        asks = none;
        fits_in = tt;
        doing = (refl, c.gathers.total_is);
        none_sent = refl;
        none_gathered = refl;
      })
      (record {
        boot = refl;
        permanent = refl;
        each = ap length did.decided.1 ∙ c.described.kept.each;
        region = region_stays;
        registers = λ number. ap (λ (ms : List Machine). (machine_at ms number).registers) did.decided.1;
        layer_is = layer_is false none (λ reads. absurd (true≢false (sym reads ∙ none)));
        none_claimed = refl;
        numbers = refl;
        before = refl;
        wanted = not_wanted c;
        others_wanted = λ n other index. refl;
      })

  -- A request for data

  -- its pages, and what is kept of them
  abbrev page_read : ℕ → ReadBlock
  page_read i = record { body = content (plain_now s) (area_key (to c) (first_page first + i)); state = Unread }

  abbrev page_pin : ℕ → Pin
  page_pin = page_kept s c.stands.b.tag (to c) first

  abbrev reading : Deed
  reading = ReadingArea (area_read s (to c) first)

  -- the layer once they are kept
  abbrev area_kept : Translation
  area_kept = fold moved given (area_keeps s.translation c.stands.b.tag (to c) first)

  kept_is : area_kept ≡ record given { pins = s.translation.pins ++ map page_pin (below (pages_named first)) }
  kept_is = kept_are (λ i. area_key (to c) (first_page first + i)) page_pin (below (pages_named first)) given

  module _ (reads : reads_area first code ≡ true)
      (passed : rpmb_outcome (to c) (region_of (plain_now s) (to c)) (s.registers (to c)) (accepts_nothing s) (all_frames bytes)
      ≡ Results code None) where
    inside : AsksInside (length (region_of (plain_now s) (to c)).area) first
    inside =
        let both = and_parts (first.kind == read_data) (is_success code) reads in
        asks_inside (plain_now s) (to c) (s.registers (to c)) (accepts_nothing s) first _ code None passed
        (eqb-true first.kind read_data both.0) both.1

    key_there : (i : ℕ) → i < pages_named first →
        IsKey (shape_of_numbers (numbers_of s)) (area_key (to c) (first_page first + i))
    key_there i low =
        subst (λ (j : ℕ). IsKey (shape_of_numbers (numbers_of s)) (area_key (to c) (first_page first + j)))
        (get_or-below (pages_named first) i 0 low)
        (keys_of_area (to c) first c.described.tied (fits c).region_in.0 inside i 0 (there (pages_named first) i low))
      where
        there : (n i : ℕ) → i < n → i < length (below n)
        there n i low = let long = length-below n in omega arith

    none_for_tag : (index : ℕ) → wanted_kept s.translation.pins tag index ≡ None
    none_for_tag =
        subst (λ (n : ℕ). (index : ℕ) → wanted_kept s.translation.pins n index ≡ None) c.stands.tag_is (not_wanted c)

    may_keep : MayKeepArea s.translation tag (to c) first
    may_keep = record {
      some = inside.some;
      few = inside.few;
      keys = key_there;
      none = none_kept tag s.translation.pins none_for_tag;
      room = λ differ. area_has_room d s tag c.stands.b c.described.kept differ c.stands.found none_for_tag;
    }

    reading_keeps : Keeps come
        (requested (with_moves (given_back s c.stands.b) (keeps_area s c.stands.b.tag (to c) first)) c.stands.b (to c)
        (all_frames bytes) code reading)
    reading_keeps =
        requested_keeps c come code accepted.Nothing did (event.AreaAsked code first.address first.count)
        (phase.ReadArea (reading_of first.address first.count c.wanted.length)) reading area_kept s.accepted
        (event_is true reads)
        (record {
          phase_is = refl;
          frames_are_kept = refl;
          no_block = refl;
          asks = (reads, refl, refl);
          fits_in = (
            tt,
            none_stands first.address first.count c.wanted.length (pages_named first) (Some (with_zeros bytes)) page_read
                (λ j. refl),
          );
          doing = record {
            total_is = c.gathers.total_is;
            reads = none_read first.address first.count c.wanted.length page_read inside.some inside.few (λ j. refl);
          };
          none_sent = refl;
          none_gathered = refl;
        })
        (record {
          boot = refl;
          permanent = refl;
          each = ap length did.decided.1 ∙ c.described.kept.each;
          region = region_stays;
          registers = λ number. ap (λ (ms : List Machine). (machine_at ms number).registers) did.decided.1;
          layer_is = layer_is true reads (λ e. may_keep);
          none_claimed = refl;
          numbers = ap (λ (t : Translation). t.numbers) kept_is;
          before = ap (λ (t : Translation). before_accepted t.ledger) kept_is;
          wanted =
              λ index. ap (λ (t : Translation). wanted_kept t.pins c.stands.b.tag index) kept_is
              ∙ all_wanted s.translation.pins c.stands.b.tag (pages_named first) page_pin page_read (λ j. refl)
              (λ j. refl) (λ j. refl) (not_wanted c) (λ j. refl) index;
          others_wanted =
              λ n other index. ap (λ (t : Translation). wanted_kept t.pins n index) kept_is
              ∙ others_wanted s.translation.pins c.stands.b.tag (pages_named first) page_pin (λ j. refl) (λ j. refl)
              (not_wanted c) n index other;
        })

  pub answered_keeps : rpmb_outcome (to c) (region_of (plain_now s) (to c)) (s.registers (to c)) (accepts_nothing s)
      (all_frames bytes) ≡ Results code None → Keeps come (request_decided s c.stands.b (to c) (all_frames bytes) (Results code None))
  answered_keeps passed = by (reads_area first code) refl
    where
      by : (b : Bool) → reads_area first code ≡ b →
          Keeps come
          (if b
          then
          requested (with_moves (given_back s c.stands.b) (keeps_area s c.stands.b.tag (to c) first)) c.stands.b (to c)
          (all_frames bytes) code (ReadingArea (area_read s (to c) first))
          else
          requested (given_back s c.stands.b) c.stands.b (to c) (all_frames bytes) code (Answering Good c.stands.b.length))
      by true reads = reading_keeps reads passed
      by false none = quiet_keeps none
