-- What the block table finds with its pin counts is what is said of the core, which has none.
use Rattle.ftl_core.proofs.Common.{All, Collection, Inside, IsRoomy, None, Option, Some, Spot, UnitMap, and_parts, ap}
use Rattle.ftl_core.proofs.Common.{core_of, has_block, has_few_free, is_bad, is_bad_with_live, is_some, list_any}
use Rattle.ftl_core.proofs.Common.{ltb-true, nat_lt, option_map, refl, slice_get, spots_in, state_of, subst, sym, true}
use Rattle.ftl_core.proofs.Common.{unwrap_or, victim, ℕ, ◌*◌, ◌+◌, ◌∙◌, ◌≡◌}
use Rattle.std.proofs.Common.{not, ◌&&◌}
use Rattle.std.specs.Prelude.{IfSome}
use Rattle.block_table.specs.Blocks as table
use Rattle.block_table.specs.Lives as lives
use Rattle.block_table.specs.Lives.{gains, live_count}
use Rattle.block_table.specs.declared.BlockState.TheVariants as state
use Rattle.block_table.proofs.Relations.{any_same, victim_same}
use Rattle.collector.specs.Plans.{IsCollected, IsNamed, IsPlanned, Plans, live_below, victim_of}
use Rattle.ftl_core.specs.Collects.{is_pinned, may_be_victim}
use Rattle.ftl_core.specs.Turns.{IsBegunIf}
use Rattle.ftl_core.proofs.live_pages.PinsCounted.{pinned_is}

module _ (f : Inside) (r : IsRoomy f) where
  -- the table and the core have the same state of each block
  state_found : (s : Spot) → table.state_of f.blocks s.die s.block ≡ state_of (core_of f) s.die s.block
  state_found s =
      ap (λ (blocks : ℕ). unwrap_or (slice_get f.blocks.states (s.die * blocks + s.block)) state.Bad) r.blocks

  -- a block of the dies has pins in the table exactly if a reader keeps a page of it, or a rest is to be read from it
  pinned_found : (s : Spot) → has_block f.live.sizes s ≡ true →
      lives.is_pinned f.live s ≡ is_pinned (core_of f) s
  pinned_found s there =
      let u : (nat_lt s.die f.live.sizes.dies ≡ true) × (nat_lt s.block f.live.sizes.blocks ≡ true) =
      and_parts _ _ there in
      pinned_is f.live f.pins f.cache.pages s.die s.block r.pinned (ltb-true s.die f.live.sizes.dies u.0)
      (ltb-true s.block f.live.sizes.blocks u.1)

  -- so the same blocks may be collected
  may_found : (s : Spot) → has_block f.live.sizes s ≡ true →
      lives.may_be_victim f.live f.blocks (has_few_free (core_of f)) s ≡ may_be_victim (core_of f) s
  may_found s there =
      λ i. not (pinned_found s there i) && gains f.live (has_few_free (core_of f)) s (state_found s i)

  -- and the same bad blocks hold live pages
  bad_found_at : (s : Spot) → has_block f.live.sizes s ≡ true →
      lives.is_bad_with_live f.live f.blocks s ≡ is_bad_with_live (core_of f) s
  bad_found_at s there =
      λ i. is_bad (state_found s i) && not (pinned_found s there i) && nat_lt 0 (live_count f.live s)

-- the table and the core find the same block to be collected
pub victim_found : (f : Inside) → IsRoomy f →
    lives.victim f.live f.blocks (has_few_free (core_of f)) ≡ victim (core_of f)
victim_found f r =
    victim_same f.live.sizes (live_count f.live) (live_count f.live)
    (lives.may_be_victim f.live f.blocks (has_few_free (core_of f))) (may_be_victim (core_of f)) (λ s there. refl)
    (may_found f r)

-- and a bad block that holds live pages in both of them or in none
pub bad_found : (f : Inside) → IsRoomy f →
    list_any (lives.is_bad_with_live f.live f.blocks) (spots_in f.live.sizes)
    ≡ list_any (is_bad_with_live (core_of f)) (spots_in f.live.sizes)
bad_found f r =
    any_same f.live.sizes (lives.is_bad_with_live f.live f.blocks) (is_bad_with_live (core_of f)) (bad_found_at f r)

-- a plan has a block exactly if there is one to be collected
some_mapped : (o : Option Collection) → is_some o ≡ is_some (option_map victim_of o)
some_mapped None = refl
some_mapped (Some x) = refl

module _ (f : Inside) (p : Plans) (r : IsRoomy f)
    (h : IsPlanned f.plan f.live f.blocks (has_few_free (core_of f)) f.places f.cache.pages p) where
  pub planned_if : is_some p.plan ≡ is_some (victim (core_of f))
  planned_if = some_mapped p.plan ∙ ap is_some (h.victim ∙ victim_found f r)

  -- what is planned is what is said of the core: the collection of the victim, if there is one
  pub begun_if : f.plan.plan ≡ None → IsBegunIf (core_of f) (is_some p.plan) (core_of (record f { plan = p }))
  begun_if none = by p.plan refl
    where
      named_as : f.places ≡ record { numbers = f.config; places = f.places.places }
      named_as = λ i. record { numbers = r.keys i; places = f.places.places }

      collected : (x : Collection) → p.plan ≡ Some x → IsCollected f.live f.places f.cache.pages f.plan.pages x
      collected x e = subst (λ (o : Option Collection). IfSome o
          (IsCollected f.live f.places f.cache.pages f.plan.pages)) e h.collected

      by : (o : Option Collection) → p.plan ≡ o →
          IsBegunIf (core_of f) (is_some o) (record (core_of f) { plan = p.plan })
      by None e = ap (λ (o : Option Collection). record (core_of f) { plan = o }) (e ∙ sym none)
      by (Some x) e = record {
        plan = x;
        is = ap (λ (o : Option Collection). record (core_of f) { plan = o }) e;
        victim_is = sym (victim_found f r) ∙ sym h.victim ∙ ap (option_map victim_of) e;
        collected = record {
          places = (collected x e).places ∙ ap (λ (n : ℕ). live_below f.live n x.victim) r.plan_pages;
          names = subst (λ (m : UnitMap). All (IsNamed m f.cache.pages) x.copies) named_as (collected x e).names;
        };
      }
