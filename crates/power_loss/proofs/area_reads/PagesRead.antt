-- For use: what a request for data reads are the pages that its first frame names, with their content now.
use Rattle.power_loss.proofs.Common.{◌≡◌, ℕ, ◌+◌, ◌<◌, List, ◌∷◌, Option, Some, length, map, slice_get, sym, ap, ◌∙◌}
use Rattle.power_loss.proofs.Common.{subst, arith, length-map, Plain, below, same_Some, slice_get_within}
use Rattle.power_loss.proofs.MachineWords.{ReadBlock, ReadingArea, RpmbRequest, State, Task, is_task_of, plain_now}
use Rattle.power_loss.proofs.MachineWords.{task_of}
use Rattle.std.proofs.lemmas.Option.{slice_get-map}
use Rattle.std.specs.Prelude.{option_map}
use Rattle.ufs_spec.proofs.Lists.{below_at, length-below}
use Rattle.ufs_spec.specs.FrameRequests.{first_page, pages_named}
use Rattle.ufs_spec.specs.Frames.{Frame}
use Rattle.ufs_spec.specs.Keys.{area_key, content}
use Rattle.power_loss.proofs.open_tasks.TaggedLists.{each_at, each_found}
use Rattle.power_loss.specs.AreaReads.{ArePagesOf, AreaReads, DeedShows, FramesShow, PagesShow, ShowsArea}
use Rattle.power_loss.specs.AreaReads.{area_bodies}

module _ (p : Plain) (region : ℕ) (f : Frame) (pages : List ReadBlock) where
  -- the content of a page, by its index
  abbrev content_at : ℕ → List ℕ
  content_at i = content p (area_key region (first_page f + i))

  as_many : map (λ (page : ReadBlock). page.body) pages ≡ area_bodies p region f → length pages ≡ pages_named f
  as_many same =
      sym (length-map pages (λ (page : ReadBlock). page.body))
      ∙ (ap (λ (bodies : List (List ℕ)). length bodies) same
      ∙ (length-map (below (pages_named f)) content_at ∙ length-below (pages_named f)))

  body_at : map (λ (page : ReadBlock). page.body) pages ≡ area_bodies p region f → (i : ℕ) (page : ReadBlock) →
      slice_get pages i ≡ Some page → page.body ≡ content_at i
  body_at same i page at =
      let within = slice_get_within pages i page at in
      let many = as_many same in
      let low : i < pages_named f = omega arith in
      same_Some page.body (content_at i)
      (sym (slice_get-map (λ (x : ReadBlock). x.body) pages i ∙ ap (option_map (λ (x : ReadBlock). x.body)) at)
      ∙ (ap (λ (bodies : List (List ℕ)). slice_get bodies i) same
      ∙ (slice_get-map content_at (below (pages_named f)) i
      ∙ ap (option_map content_at) (below_at (pages_named f) i low))))

  are_pages : map (λ (page : ReadBlock). page.body) pages ≡ area_bodies p region f → ArePagesOf p region f pages
  are_pages same = record { bodies = same; count = as_many same; each = body_at same }

-- of a task that reads the area
pub task_pages : (p : Plain) (task : Task) (pages : List ReadBlock) (request : RpmbRequest) (f : Frame)
    (fs : List Frame) → ShowsArea p task → task.deed ≡ ReadingArea pages → task.request ≡ Some request →
    request.frames ≡ f ∷ fs → ArePagesOf p request.region f pages
task_pages p task pages request f fs h deed asked frames =
    are_pages p request.region f pages
    (subst (λ (gs : List Frame). FramesShow p request.region gs pages) frames
    (subst (λ (o : Option RpmbRequest). PagesShow p task.command o pages) asked
    (subst (DeedShows p task.command task.length task.request) deed h)).1)

-- of such a task of a state, found by its index
pub pages_read : (s : State) (k : ℕ) (task : Task) (pages : List ReadBlock) (request : RpmbRequest) (f : Frame)
    (fs : List Frame) → AreaReads s → slice_get s.tasks k ≡ Some task → task.deed ≡ ReadingArea pages →
    task.request ≡ Some request → request.frames ≡ f ∷ fs →
    ArePagesOf (plain_now s) request.region f pages
pages_read s k task pages request f fs h at =
    task_pages (plain_now s) task pages request f fs (each_at (ShowsArea (plain_now s)) s.tasks k task h.shows at)

-- or by its tag
pub pages_found : (s : State) (tag : ℕ) (task : Task) (pages : List ReadBlock) (request : RpmbRequest) (f : Frame)
    (fs : List Frame) → AreaReads s → task_of tag s.tasks ≡ Some task → task.deed ≡ ReadingArea pages →
    task.request ≡ Some request → request.frames ≡ f ∷ fs →
    ArePagesOf (plain_now s) request.region f pages
pages_found s tag task pages request f fs h found =
    task_pages (plain_now s) task pages request f fs
    (each_found (ShowsArea (plain_now s)) (is_task_of tag) s.tasks task h.shows found)
