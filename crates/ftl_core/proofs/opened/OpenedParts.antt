-- What is kept when the layer is opened, from what its parts are then.
use Rattle.ftl_core.proofs.Common.{BlockState, Collection, Core, DieRow, Found, Key, List, Lives, None, Numbers, Option}
use Rattle.ftl_core.proofs.Common.{Pin, Sizes, Stored, UnitMap, WriteCache, [], ap, greatest_number, key_total, map}
use Rattle.ftl_core.proofs.Common.{min, none_live, option_map, shape_of_numbers, sizes_of, take, without_pins, ℕ, ◌∙◌}
use Rattle.ftl_core.proofs.Common.{◌≡◌}
use Rattle.std.proofs.Common.{replicate}
use Rattle.ufs_spec.specs.Plain.{zero_block}
use Rattle.block_table.specs.Blocks.{Blocks}
use Rattle.ftl_core.specs.declared.books.Mending.{Mending}
use Rattle.ftl_core.specs.KnownLive.{lives_of_places}
use Rattle.ftl_core.specs.Moves.{first_mending, idle_row, mark_number_behind, opened, state_of_found, stored_of_found}
use Rattle.ftl_core.proofs.live_pages.PinsCounted.{stored_bare}

-- the parts together
abbrev pub core_with : Numbers → Blocks → UnitMap → Lives → WriteCache → List Pin →
    Option Collection → Mending → List Key → List ℕ → ℕ → Core
core_with n blocks places live cache pins plan mending lost content next = record {
  numbers = n;
  states = blocks.states;
  rows = blocks.rows;
  places = places.places;
  live = live;
  pages = cache.pages;
  claims = cache.claims;
  frontier = cache.frontier;
  last = cache.last;
  pins = pins;
  plan = plan;
  mending = mending;
  lost = lost;
  repaired = 0;
  step = None;
  content = content;
  next_mark = next;
}

-- what the lists of blocks and places give
abbrev with_lists : Numbers → Found → List BlockState → List DieRow → List (Option Stored) → ℕ → Core
with_lists n f states rows places last = record {
  numbers = n;
  states = states;
  rows = rows;
  places = places;
  live = lives_of_places n places;
  pages = [];
  claims = [];
  frontier = last;
  last = last;
  pins = [];
  plan = None;
  mending = first_mending n f;
  lost = f.lost.items;
  repaired = 0;
  step = None;
  content = zero_block;
  next_mark = mark_number_behind f;
}

pub opened_as : (n : Numbers) (f : Found) (blocks : Blocks) (map_is : UnitMap) (live : Lives) (cache : WriteCache)
    (pins : List Pin) (plan : Option Collection) (mending : Mending) (content : List ℕ) (next : ℕ)
    (sizes : Sizes) (states : List BlockState) (places : List (Option Stored)) (last : ℕ) →
    blocks ≡ record {
      sizes = sizes;
      states = states;
      rows = replicate n.dies idle_row;
    } →
    map_is ≡ record { numbers = n; places = places } →
    live ≡ lives_of_places n places →
    cache ≡ record { slots = n.slots; pages = []; claims = []; frontier = last; last = last } →
    states ≡ map state_of_found f.blocks.items → places ≡ map (option_map stored_of_found) f.contents.items →
    last ≡ min f.greatest_seen greatest_number → pins ≡ [] → mending ≡ first_mending n f → content ≡ zero_block →
    next ≡ mark_number_behind f → plan ≡ None →
    core_with n blocks map_is (without_pins live) cache pins plan mending f.lost.items content next
    ≡ opened n f
opened_as n f blocks map_is live cache pins plan mending content next sizes states places last
    eb em eq ec es ep el en ed ez ek en_plan =
    (λ i. core_with n (eb i) (em i) (bare i) (ec i) (en i) (en_plan i) (ed i) f.lost.items (ez i) (ek i))
    ∙ (λ i. with_lists n f (es i) (replicate n.dies idle_row) (ep i) (el i))
  where
    bare : without_pins live ≡ lives_of_places n places
    bare =
        ap without_pins eq
        ∙ stored_bare (take (key_total (shape_of_numbers n)) places) (none_live (sizes_of n))
