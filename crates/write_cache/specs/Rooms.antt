-- How the cache's fields are seen, and the room that they keep.
use Rattle.std.specs.Prelude.{◌≡◌, ◌≤◌, ◌<◌, ◌+◌, ◌^◌, length, vec_capacity}
use Rattle.ufs_spec.specs.Pages.{greatest_number}
use Rattle.write_cache.specs.declared.cache.Cache.TheInside.{Inside}
use Rattle.write_cache.specs.Kept.{WriteCache}

-- what contracts see of the cache: its pending pages and its claims; blocks without use are not seen
abbrev pub cache_of : Inside → WriteCache
cache_of f = record {
  slots = f.slots;
  pages = f.pages.items;
  claims = f.claims.items;
  frontier = f.frontier;
  last = f.last;
}

-- each slot is free, claimed, or that of a page; the numbers of pending groups were given
pub record IsRoomy (f : Inside) : Type 0 where
  pub slots : length f.free.items + length f.pages.items + length f.claims.items ≡ f.slots
  pub fits : f.slots < 2 ^ 16
  pub room : f.pages.room ≡ f.slots
  pub claim_room : f.claims.room ≡ f.slots
  pub free_room : f.slots ≤ vec_capacity f.free
  pub frontier : f.frontier ≤ f.last
  pub numbers : f.last ≤ greatest_number
  pub given : f.pages.newest ≤ f.last
