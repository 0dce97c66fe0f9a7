-- A request fills its register once, when its GOOD becomes due.
use Rattle.ufs_laws.proofs.Common.{Answer, Bool, Call, Deed, Frame, List, Message, None, Option, Registers, RpmbRequest}
use Rattle.ufs_laws.proofs.Common.{Short, Some, State, Task, [], ap, behind, cond, deed_after, false, filled, fills}
use Rattle.ufs_laws.proofs.Common.{fold, if_both, if◌then◌else◌, inl, inr, is_good_due, is_short_of, is_to_fill}
use Rattle.ufs_laws.proofs.Common.{is_unfilled, list_any, locked, map, moves_after, observe, or_parts, plain_now, refl}
use Rattle.ufs_laws.proofs.Common.{replied, replied_by, result_now, short_replied, slice_get, tag_in, task_filled}
use Rattle.ufs_laws.proofs.Common.{task_goes_on, task_of, true, with_moves, ℕ, ◌&&◌, ◌++◌, ◌==◌, ◌∙◌, ◌∷◌, ◌≡◌, ◌≢◌}
use Rattle.ufs_laws.proofs.Common.{◌⊎◌}
use Rattle.std.proofs.Math.Bool.{and-false}
use Rattle.std.specs.Prelude.{filter, find}
use Rattle.ufs_laws.proofs.frame_laws.RegistersEmptied.{at_another, at_own}
use Rattle.ufs_laws.specs.FrameLaws.{IsKeyOrWrite}
use Rattle.ufs_spec.specs.FrameRequests.{filled_by, filled_registers}
use Rattle.ufs_spec.specs.Frames.{frame_bytes}
use Rattle.ufs_spec.specs.Rpmb.{Region, read_result, region_of}
use Rattle.ufs_spec.specs.RpmbResponses.{filled_with, frames_of, has_result_register, response_frames}

-- ## When

pub not_before : (s : State) (task : Task) → is_good_due s task task.deed ≡ false → is_to_fill s task ≡ false
not_before s task e = ap (λ (b : Bool). is_unfilled task.request && b) e ∙ and-false (is_unfilled task.request)

abbrev fill_all : State → List Task → ℕ → Registers
fill_all s due =
    fold (λ (registers : ℕ → Registers) (task : Task). filled_registers s task registers) s.registers due

none_among : (p : Task → Bool) (tasks : List Task) → list_any p tasks ≡ false → filter p tasks ≡ []
none_among p [] none = refl
none_among p (t ∷ ts) none =
    let both = or_parts (p t) (list_any p ts) none in
    ap (λ (b : Bool). cond b (t ∷ filter p ts) (filter p ts)) both.0 ∙ none_among p ts both.1

one_among : (p : Task → Bool) (front back : List Task) (task : Task) → list_any p front ≡ false → p task ≡ true →
    list_any p back ≡ false → filter p (front ++ task ∷ back) ≡ task ∷ []
one_among p [] back task none is rest =
    ap (λ (b : Bool). cond b (task ∷ filter p back) (filter p back)) is
    ∙ ap (λ (tasks : List Task). task ∷ tasks) (none_among p back rest)
one_among p (t ∷ ts) back task none is rest =
    let both = or_parts (p t) (list_any p ts) none in
    ap (λ (b : Bool). cond b (t ∷ filter p (ts ++ task ∷ back)) (filter p (ts ++ task ∷ back))) both.0
    ∙ one_among p ts back task both.1 is rest

pub due : (s : State) (front back : List Task) (task : Task) → s.tasks ≡ front ++ task ∷ back →
    list_any (is_to_fill s) front ≡ false → is_to_fill s task ≡ true → list_any (is_to_fill s) back ≡ false →
    (fills s).registers ≡ filled_registers s task s.registers
due s front back task one none is rest =
    ap (λ (tasks : List Task). fill_all s (filter (is_to_fill s) tasks)) one
    ∙ ap (fill_all s) (one_among (is_to_fill s) front back task none is rest)

pub filled_done : (o : Option RpmbRequest) → is_unfilled (filled o) ≡ false
filled_done None = refl
filled_done (Some request) = refl

pub never_again : (s later : State) (task : Task) → is_to_fill s task ≡ true →
    is_to_fill later (task_filled s task) ≡ false
never_again s later task due =
    ap (λ (b : Bool). is_to_fill later (if b then record task { request = filled task.request } else task)) due
    ∙ ap (λ (b : Bool). b && is_good_due later (record task { request = filled task.request }) task.deed)
    (filled_done task.request)

-- ## Not by a reply, nor by the lock

goes_same : (s : State) (task : Task) (o : Option Deed) → (task_goes_on s task o).registers ≡ s.registers
goes_same s task None = refl
goes_same s task (Some deed) = refl

short_same : (s : State) (o : Option Short) → (short_replied s o).registers ≡ s.registers
short_same s None = refl
short_same s (Some short) = refl

replied_same : (s : State) (tag : ℕ) (o : Option Task) → (replied_by s tag o).registers ≡ s.registers
replied_same s tag None = short_same s (find (is_short_of tag) s.shorts)
replied_same s tag (Some task) = goes_same (with_moves s (moves_after task task.deed)) task (deed_after task task.deed)

pub handed_out : (s : State) (m : Message) → (replied s m).registers ≡ s.registers
handed_out s m = replied_same s (tag_in m) (task_of (tag_in m) s.tasks)

pub lock : (s : State) (call : Call) (answer : Answer) →
    (observe s call answer).registers ≡ (fills (behind s call answer)).registers
lock s call answer =
    let u = fills (behind s call answer) in
    if_both (λ (t : State). t.registers ≡ u.registers) (locked u) refl refl

-- ## Which

abbrev response_of : Region → Frame → ℕ → Option (List ℕ)
response_of region f result = slice_get (map frame_bytes (response_frames region f result)) 0

abbrev fill_as : Region → Frame → ℕ → Registers → ℕ → Registers
fill_as region f result r kind =
    if has_result_register kind then record r { result = response_of region f result }
    else if kind == read_result then record r { response = frames_of r.result }
    else record r { response = map frame_bytes (response_frames region f result) }

-- the registers of the request's region
own_region : (s : State) (task : Task) (request : RpmbRequest) (r : ℕ → Registers) → task.request ≡ Some request →
    filled_registers s task r request.region
    ≡ filled_with (region_of (plain_now s) request.region) request.frames (result_now task.deed request.result) (r request.region)
own_region s task request r e =
    ap (λ (o : Option RpmbRequest). filled_by (plain_now s) task.deed o r request.region) e
    ∙ at_own r request.region
    (filled_with (region_of (plain_now s) request.region) request.frames (result_now task.deed request.result) (r request.region))

of_frames : (s : State) (task : Task) (request : RpmbRequest) (f : Frame) (fs : List Frame) (r : ℕ → Registers) →
    task.request ≡ Some request → request.frames ≡ f ∷ fs →
    filled_registers s task r request.region
    ≡ fill_as (region_of (plain_now s) request.region) f (result_now task.deed request.result) (r request.region) f.kind
of_frames s task request f fs r e are =
    own_region s task request r e
    ∙ ap (λ (frames : List Frame). filled_with (region_of (plain_now s) request.region) frames (result_now task.deed request.result)
    (r request.region)) are

-- by its kind
of_kind : (s : State) (task : Task) (request : RpmbRequest) (f : Frame) (fs : List Frame) (r : ℕ → Registers)
    (kind : ℕ) → task.request ≡ Some request → request.frames ≡ f ∷ fs → f.kind ≡ kind →
    filled_registers s task r request.region
    ≡ fill_as (region_of (plain_now s) request.region) f (result_now task.deed request.result) (r request.region) kind
of_kind s task request f fs r kind e are is =
    of_frames s task request f fs r e are
    ∙ ap (fill_as (region_of (plain_now s) request.region) f (result_now task.deed request.result) (r request.region)) is

pub key_or_write : (s : State) (task : Task) (request : RpmbRequest) (f : Frame) (fs : List Frame)
    (r : ℕ → Registers) → task.request ≡ Some request → request.frames ≡ f ∷ fs → IsKeyOrWrite f →
    filled_registers s task r request.region ≡ record (r request.region) {
      result = response_of (region_of (plain_now s) request.region) f (result_now task.deed request.result);
    }
key_or_write s task request f fs r e are (inl is) = of_kind s task request f fs r 1 e are is
key_or_write s task request f fs r e are (inr is) = of_kind s task request f fs r 3 e are is

pub counter_or_data : (s : State) (task : Task) (request : RpmbRequest) (f : Frame) (fs : List Frame)
    (r : ℕ → Registers) → task.request ≡ Some request → request.frames ≡ f ∷ fs → (f.kind ≡ 2) ⊎ (f.kind ≡ 4) →
    filled_registers s task r request.region ≡ record (r request.region) {
      response = map frame_bytes (response_frames (region_of (plain_now s) request.region) f (result_now task.deed request.result));
    }
counter_or_data s task request f fs r e are (inl is) = of_kind s task request f fs r 2 e are is
counter_or_data s task request f fs r e are (inr is) = of_kind s task request f fs r 4 e are is

pub result : (s : State) (task : Task) (request : RpmbRequest) (f : Frame) (fs : List Frame) (r : ℕ → Registers) →
    task.request ≡ Some request → request.frames ≡ f ∷ fs → f.kind ≡ 5 →
    filled_registers s task r request.region
    ≡ record (r request.region) { response = frames_of (r request.region).result }
result s task request f fs r e are is = of_kind s task request f fs r 5 e are is

pub other_regions : (s : State) (task : Task) (request : RpmbRequest) (r : ℕ → Registers) (other : ℕ) →
    task.request ≡ Some request → other ≢ request.region → filled_registers s task r other ≡ r other
other_regions s task request r other e differ =
    ap (λ (o : Option RpmbRequest). filled_by (plain_now s) task.deed o r other) e
    ∙ at_another r request.region
    (filled_with (region_of (plain_now s) request.region) request.frames (result_now task.deed request.result) (r request.region))
    other differ
