-- Which pages are live once the groups at the front are durable.
use Rattle.ftl_core.proofs.Common.{Cells, Core, IsKey, IsWrittenAt, Kept, Key, KnowsLive, List, Lives, None, Numbers}
use Rattle.ftl_core.proofs.Common.{Option, Pending, Place, Some, Stored, Translation, [], ap, arith, fold}
use Rattle.ftl_core.proofs.Common.{front_written, group_durable, inl, inr, key_total, length, none-some, page_at}
use Rattle.ftl_core.proofs.Common.{page_durable, page_durable_at, position_of, refl, same_Some, settled}
use Rattle.ftl_core.proofs.Common.{shape_of_numbers, slice_get, stored_in, subst, suc, sym, zero, ℕ, ⊎_elim, ◌++◌, ◌<◌}
use Rattle.ftl_core.proofs.Common.{◌∙◌, ◌∷◌, ◌≡◌, ◌≢◌, ◌≤◌, ◌⊎◌}
use Rattle.ftl_core.proofs.group_settled.FrontDurable.{MayClimb, climbs_on, front_kept_on, raised_to, whole_behind}
use Rattle.ftl_core.proofs.group_settled.FrontLedger.{made, made_is}
use Rattle.ftl_core.proofs.group_settled.NotedPlaces.{places_length}
use Rattle.ftl_core.proofs.group_settled.Settling.{fewer, only_places, settled_end, settled_step, written_or_not}
use Rattle.ftl_core.proofs.live_pages.NotedLive.{IsPageOf, noted_knows, noted_owned, one_owner, stored_now}

-- Pages that are pending

-- if it is written, then at a page of its key and its number
abbrev pub IsWrittenRight : Numbers → Cells → Pending → Type 0
IsWrittenRight n cells p =
    (place : Place) → p.written ≡ Some place → IsKey (shape_of_numbers n) p.key × IsPageOf n cells p.key p.number place

abbrev pub AreWrittenRight : Numbers → Cells → List Pending → Type 0
AreWrittenRight n cells [] = Unit {0}
AreWrittenRight n cells (p ∷ ps) = IsWrittenRight n cells p × AreWrittenRight n cells ps

pub written_right : (n : Numbers) (cells : Cells) (ps : List Pending) →
    ((j : ℕ) (p : Pending) → slice_get ps j ≡ Some p → IsWrittenRight n cells p) → AreWrittenRight n cells ps
written_right n cells [] each = tt
written_right n cells (p ∷ ps) each = (each 0 p refl, written_right n cells ps (λ j q at. each (suc j) q at))

-- it has another number than the durable content of its key
abbrev pub IsNew : Numbers → List (Option Stored) → Pending → Type 0
IsNew n places p = (s : Stored) → stored_in n places p.key ≡ Some s → p.number ≢ s.name.number

abbrev pub AreNew : Numbers → List (Option Stored) → List Pending → Type 0
AreNew n places [] = Unit {0}
AreNew n places (p ∷ ps) = IsNew n places p × AreNew n places ps

-- no two of them have one key and one number
abbrev pub AreOthers : Key → ℕ → List Pending → Type 0
AreOthers k number [] = Unit {0}
AreOthers k number (q ∷ qs) = (q.key ≡ k → q.number ≢ number) × AreOthers k number qs

abbrev pub AreApart : List Pending → Type 0
AreApart [] = Unit {0}
AreApart (p ∷ ps) = AreOthers p.key p.number ps × AreApart ps

-- What is known of places, live pages and pending pages

pub record AreKnown (cells : Cells) (n : Numbers) (places : List (Option Stored)) (live : Lives)
    (pages : List Pending) : Type 0 where
  pub long : key_total (shape_of_numbers n) ≤ length places
  pub owned : (k : Key) (s : Stored) → stored_in n places k ≡ Some s → IsPageOf n cells k s.name.number s.place
  pub live_is : KnowsLive n places pages live
  pub right : AreWrittenRight n cells pages
  pub new : AreNew n places pages
  pub apart : AreApart pages

abbrev pub KnownWith : Cells → Core → List Pending → Type 0
KnownWith cells c pages = AreKnown cells c.numbers c.places c.live pages

-- One page after another

-- where the durable content of a key stands no pending page is written
pub old_apart : (cells : Cells) (n : Numbers) (places : List (Option Stored)) (k : Key) (s : Stored) →
    stored_in n places k ≡ Some s → IsPageOf n cells k s.name.number s.place → (ps : List Pending) →
    AreWrittenRight n cells ps → AreNew n places ps → IsWrittenAt ps s.place → ⊥
old_apart cells n places k s is own [] right new w = absurd w
old_apart cells n places k s is own (r ∷ rs) right new (inl w) =
    let o = one_owner n cells r.key k r.number s.name.number s.place s.place (right.0 s.place w).1 own refl in
    new.0 s (ap (stored_in n places) o.0 ∙ is) o.1
old_apart cells n places k s is own (r ∷ rs) right new (inr w) =
    old_apart cells n places k s is own rs right.1 new.1 w

-- a page that is not written is left out
left_out : (n : Numbers) (places : List (Option Stored)) (live : Lives) (p : Pending) (ps : List Pending) →
    p.written ≡ None → KnowsLive n places (p ∷ ps) live → KnowsLive n places ps live
left_out n places live p ps none h = record {
  sizes = h.sizes;
  marks = h.marks;
  held = λ q e. ⊎_elim (λ at. inl at)
      (λ (w : (p.written ≡ Some q) ⊎ IsWrittenAt ps q).
      ⊎_elim (λ x. absurd (none-some q (sym none ∙ x))) (λ x. inr x) w)
      (h.held q e);
  lives = λ q at. h.lives q (⊎_elim (λ x. inl x) (λ x. inr (inr x)) at);
}

pub new_on : (cells : Cells) (c : Core) (p : Pending) (place : Place)
    (h : key_total (shape_of_numbers c.numbers) ≤ length c.places) (isk : IsKey (shape_of_numbers c.numbers) p.key)
    (own : (k : Key) (s : Stored) → stored_in c.numbers c.places k ≡ Some s →
    IsPageOf c.numbers cells k s.name.number s.place)
    (page : IsPageOf c.numbers cells p.key p.number place) (ps : List Pending) → AreNew c.numbers c.places ps →
    AreOthers p.key p.number ps → AreNew c.numbers (page_durable_at c p (Some place)).places ps
new_on cells c p place h isk own page [] new others = tt
new_on cells c p place h isk own page (r ∷ rs) new others = (
  λ s e same. ⊎_elim
      (λ f. others.0 f.0 (same ∙ ap (λ (z : Stored). z.name.number) f.1))
      (λ f. new.0 s f.1 same)
      (stored_now cells c p.key (page_at p.number p.index place) h isk own page r.key s e),
  new_on cells c p place h isk own page rs new.1 others.1,
)

one_durable : (cells : Cells) (c : Core) (p : Pending) (ps : List Pending) (o : Option Place) → p.written ≡ o →
    KnownWith cells c (p ∷ ps) → KnownWith cells (page_durable_at c p o) ps
one_durable cells c p ps None is h = record {
  long = h.long;
  owned = h.owned;
  live_is = left_out c.numbers c.places c.live p ps is h.live_is;
  right = h.right.1;
  new = h.new.1;
  apart = h.apart.1;
}
one_durable cells c p ps (Some place) is h =
    let r = h.right.0 place is in
    let s : Stored = page_at p.number p.index place in
    let same = places_length c.places s (position_of c.numbers p.key) in
    let long = h.long in
    record {
      long = omega (arith, same, long);
      owned = noted_owned cells c p.key s h.long r.0 h.owned r.1;
      live_is = noted_knows cells c p.key s h.long r.0 h.owned r.1 (p ∷ ps) ps h.live_is
          (λ q w. ⊎_elim (λ x. inl (same_Some q place (sym x ∙ is))) (λ x. inr x) w)
          (λ q w. inr w)
          (λ old e w. old_apart cells c.numbers c.places p.key old e (h.owned p.key old e) ps h.right.1 h.new.1 w);
      right = h.right.1;
      new = new_on cells c p place h.long r.0 h.owned r.1 ps h.new.1 h.apart.0;
      apart = h.apart.1;
    }

all_durable : (cells : Cells) (front more : List Pending) (c : Core) → KnownWith cells c (front ++ more) →
    KnownWith cells (fold page_durable c front) more
all_durable cells [] more c h = h
all_durable cells (p ∷ ps) more c h =
    all_durable cells ps more (page_durable c p) (one_durable cells c p (ps ++ more) p.written refl h)

-- One group after another

abbrev pub AllKnown : Cells → Core → Type 0
AllKnown cells c = KnownWith cells c c.pages

group_known : (cells : Cells) (c : Core) (u : Translation) (number : ℕ) → Kept c u → MayClimb u →
    front_written c ≡ Some number → AllKnown cells c → AllKnown cells (group_durable c number)
group_known cells c u number h m e known =
    let w = whole_behind c u number h m e in
    let split = subst (KnownWith cells c) w.pages.is known in
    let through = all_durable cells w.pages.front w.pages.rest c split in
    let now : AllKnown cells (made c w.pages.front w.pages.rest) =
    subst (λ (n : Numbers). AreKnown cells n (fold page_durable c w.pages.front).places
    (fold page_durable c w.pages.front).live w.pages.rest)
    (ap (λ (z : Core). z.numbers) (only_places c w.pages.front)) through in
    subst (AllKnown cells) (sym (made_is c u.ledger number h.ledger_kept w)) now

settles : (cells : Cells) (n : ℕ) (c : Core) (u : Translation) → length c.pages ≤ n → Kept c u → MayClimb u →
    AllKnown cells c → AllKnown cells (settled c)
settles cells zero c u long h m known =
    ⊎_elim (λ e. subst (AllKnown cells) (sym (settled_end (length c.pages) c e)) known)
    (λ (e : (number : ℕ) × (front_written c ≡ Some number)).
    let l = fewer c e.0 e.1 in absurd (none (length (group_durable c e.0).pages) (length c.pages) l long))
    (written_or_not (front_written c))
  where
    none : (a b : ℕ) → a < b → b ≤ 0 → ⊥
    none a b l e = omega arith
settles cells (suc n) c u long h m known =
    ⊎_elim (λ e. subst (AllKnown cells) (sym (settled_end (length c.pages) c e)) known)
    (λ (e : (number : ℕ) × (front_written c ≡ Some number)).
    subst (AllKnown cells) (settled_step c e.0 e.1)
    (settles cells n (group_durable c e.0) (raised_to u (suc u.ledger.frontier))
    (less (length (group_durable c e.0).pages) (length c.pages) n (fewer c e.0 e.1) long)
    (front_kept_on c u e.0 h m e.1) (climbs_on u m) (group_known cells c u e.0 h m e.1 known)))
    (written_or_not (front_written c))
  where
    less : (a b n : ℕ) → a < b → b ≤ suc n → a ≤ n
    less a b n e l = omega arith

pub settled_known : (cells : Cells) (c : Core) (u : Translation) → Kept c u → MayClimb u → AllKnown cells c →
    AllKnown cells (settled c)
settled_known cells c u h m known = settles cells (length c.pages) c u (omega arith) h m known
