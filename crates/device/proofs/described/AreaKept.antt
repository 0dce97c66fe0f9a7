-- The pages of the area that a request for data keeps, and what a request without a command does.
use Rattle.device.proofs.Common.{Bool, Claims, Core, Frame, IsKey, IsLayerWith, Key, List, Move, None, PinsDiffer}
use Rattle.device.proofs.Common.{Release, Some, TaskEvent, Translation, [], ap, area_key, arith, false, fold}
use Rattle.device.proofs.Common.{greatest_command, if◌then◌else◌, keeps_for, key_behind, length, list_any, most_tasks}
use Rattle.device.proofs.Common.{moved, nat_le, none-some, reads_area, refl, same_Some, shape_of_numbers, subst, sym}
use Rattle.device.proofs.Common.{true, with_claimed, ℕ, ◌*◌, ◌+◌, ◌-◌, ◌/◌, ◌<◌, ◌∙◌, ◌∷◌, ◌≡◌, ◌≤◌}
use Rattle.ufs_spec.proofs.Facts.{le-leb}
use Rattle.ufs_spec.specs.FrameRequests.{pages_named}
use Rattle.ftl_core.specs.Public.{Describes, keeps_area_of}
use Rattle.rpmb.specs.Requests.{area_asked}
use Rattle.rpmb.specs.declared.requests.AreaBlocks.{AreaBlocks}
use Rattle.task_set.specs.declared.tasks.TaskEvent.TheVariants as event
use Rattle.device.specs.Frames.{HasAnswered, HasKeptArea, MayAnswer, MayKeepArea, answer_event, answer_moves}
use Rattle.device.specs.Frames.{area_keeps}

-- the layer was asked to keep so many pages, from this key on, for the blocks that were asked for
module _ (after : Core) (t : Translation) (tag region pages : ℕ) (key : Key) (asked : AreaBlocks) (kept : Bool)
    (key_is : key ≡ area_key region (asked.address / 16))
    (named : 1 ≤ asked.count → asked.count ≤ 8 →
    pages ≡ (asked.address + asked.count - 1) / 16 + 1 - asked.address / 16)
    (few : pages ≤ 2) (differ : PinsDiffer t.pins) (found : kept ≡ nat_le (length t.pins + pages) (most_tasks * greatest_command))
    (described :
    ((i : ℕ) → i < pages → IsKey (shape_of_numbers t.numbers) (key_behind key i)) →
    list_any (keeps_for tag) t.pins ≡ false →
    Describes after (if kept then fold moved t (keeps_area_of t tag key pages) else t))
    (f : Frame) (at : f.address ≡ asked.address) (many : f.count ≡ asked.count) (may : MayKeepArea t tag region f) where
  many_named : pages ≡ pages_named f
  many_named =
      named (subst (λ (n : ℕ). 1 ≤ n) many may.some) (subst (λ (n : ℕ). n ≤ 8) many may.few)
      ∙ (λ i. (sym at i + sym many i - 1) / 16 + 1 - sym at i / 16)

  from_there : key ≡ area_key region (f.address / 16)
  from_there = key_is ∙ ap (λ (n : ℕ). area_key region (n / 16)) (sym at)

  all_kept : kept ≡ true
  all_kept =
      let room = may.room differ in
      found ∙ le-leb (length t.pins + pages) (most_tasks * greatest_command) (omega arith)

  are_keys : (i : ℕ) → i < pages → IsKey (shape_of_numbers t.numbers) (key_behind key i)
  are_keys i h =
      subst (λ (k : Key). IsKey (shape_of_numbers t.numbers) (key_behind k i)) (sym from_there)
      (may.keys i (subst (λ (n : ℕ). i < n) many_named h))

  pub pages_kept : Describes after (fold moved t (area_keeps t tag region f))
  pages_kept =
      subst (λ (ms : List Move). Describes after (fold moved t ms))
      (λ i. keeps_area_of t tag (from_there i) (many_named i))
      (subst (λ (b : Bool). Describes after (if b then fold moved t (keeps_area_of t tag key pages) else t)) all_kept
      (described are_keys may.none))

-- the blocks that were asked for, and the moves by which their pages are kept
pub record ReadsFor (fs : List Frame) (code : ℕ) (asked : AreaBlocks) : Type 0 where
  pub first : Frame
  pub address : first.address ≡ asked.address
  pub count : first.count ≡ asked.count
  pub event_is : event.AreaAsked code asked.address asked.count ≡ answer_event fs code
  pub moves_are : (t : Translation) (tag region : ℕ) →
      area_keeps t tag region first ≡ answer_moves t tag region fs code
  pub may : (t : Translation) (tag region : ℕ) → MayAnswer t tag region fs code → MayKeepArea t tag region first

-- the blocks that a frame asks for
abbrev blocks_of : Frame → AreaBlocks
blocks_of f = record { address = f.address; count = f.count }

pub reads_for : (fs : List Frame) (code : ℕ) (asked : AreaBlocks) → area_asked fs code ≡ Some asked →
    ReadsFor fs code asked
reads_for [] code asked e = absurd (none-some asked e)
reads_for (f ∷ fs) code asked e = by (reads_area f code) refl e
  where
    by : (b : Bool) → reads_area f code ≡ b → (if b then Some (blocks_of f) else None) ≡ Some asked →
        ReadsFor (f ∷ fs) code asked
    by false reads is = absurd (none-some asked is)
    by true reads is =
        let same : blocks_of f ≡ asked = same_Some (blocks_of f) asked is in
        record {
          first = f;
          address = ap (λ (x : AreaBlocks). x.address) same;
          count = ap (λ (x : AreaBlocks). x.count) same;
          event_is =
              ap (λ (x : AreaBlocks). event.AreaAsked code x.address x.count) (sym same)
              ∙ ap (λ (b : Bool). if b then event.AreaAsked code f.address f.count else event.RequestAnswered code)
              (sym reads);
          moves_are = λ t tag region. ap (λ (b : Bool). if b then area_keeps t tag region f else []) (sym reads);
          may = λ t tag region h. h reads;
        }

-- a request that asks for no blocks
pub record ReadsNone (fs : List Frame) (code : ℕ) : Type 0 where
  pub event_is : event.RequestAnswered code ≡ answer_event fs code
  pub moves_are : (t : Translation) (tag region : ℕ) → [] ≡ answer_moves t tag region fs code

pub reads_none : (fs : List Frame) (code : ℕ) → area_asked fs code ≡ None → ReadsNone fs code
reads_none [] code e = record { event_is = refl; moves_are = λ t tag region. refl }
reads_none (f ∷ fs) code e = by (reads_area f code) refl e
  where
    by : (b : Bool) → reads_area f code ≡ b →
        (if b then Some (blocks_of f) else None) ≡ None → ReadsNone (f ∷ fs) code
    by true reads is = absurd (none-some (blocks_of f) (sym is))
    by false reads is = record {
      event_is =
          ap (λ (b : Bool). if b then event.AreaAsked code f.address f.count else event.RequestAnswered code)
          (sym reads);
      moves_are = λ t tag region. ap (λ (b : Bool). if b then area_keeps t tag region f else []) (sym reads);
    }

-- the layer, where the reader gave back what it had claimed
abbrev IsReleased : Core → Core → ℕ → Type 0
IsReleased before after tag =
    (t : Translation) (claims : Claims) → IsLayerWith before t claims →
    IsLayerWith after (moved t (Release (length (claims tag)))) (with_claimed claims tag [])

-- a request that asks for no blocks gives its slots back
pub answered_at_once : (before after : Core) (tag region : ℕ) (fs : List Frame) (code : ℕ) → area_asked fs code ≡ None →
    IsReleased before after tag → HasAnswered before after tag region fs code (event.RequestAnswered code)
answered_at_once before after tag region fs code e released = record {
  event_is = none.event_is;
  layer =
      λ t claims h may.
      subst
      (λ (ms : List Move). IsLayerWith after (fold moved (moved t (Release (length (claims tag)))) ms)
      (with_claimed claims tag [])) (none.moves_are t tag region) (released t claims h);
}
  where
    none : ReadsNone fs code
    none = reads_none fs code e

-- one that asks for blocks keeps their pages then
pub asked_then : (before between after : Core) (tag region : ℕ) (fs : List Frame) (code : ℕ) (asked : AreaBlocks)
    (told : TaskEvent) → area_asked fs code ≡ Some asked → IsReleased before between tag →
    told ≡ event.AreaAsked code asked.address asked.count →
    ((t : Translation) (claims : Claims) → IsLayerWith between t claims → HasKeptArea after t claims tag region asked) →
    HasAnswered before after tag region fs code told
asked_then before between after tag region fs code asked told e released told_is keeps = record {
  event_is = told_is ∙ reads.event_is;
  layer =
      λ t claims h may.
      subst
      (λ (ms : List Move). IsLayerWith after (fold moved (moved t (Release (length (claims tag)))) ms)
      (with_claimed claims tag [])) (reads.moves_are t tag region)
      (keeps (moved t (Release (length (claims tag)))) (with_claimed claims tag []) (released t claims h) reads.first
      reads.address reads.count (still t (length (claims tag)) (reads.may t tag region may)));
}
  where
    reads : ReadsFor fs code asked
    reads = reads_for fs code asked e

    still : (t : Translation) (n : ℕ) → MayKeepArea t tag region reads.first →
        MayKeepArea (moved t (Release n)) tag region reads.first
    still t n may = record {
      some = may.some;
      few = may.few;
      keys = may.keys;
      none = may.none;
      room = may.room;
    }
