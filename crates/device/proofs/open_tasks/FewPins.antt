-- There is room for what a READ keeps: each pin is of a block of an open task, no two are of the same, and a task has
-- at most as many blocks as a command may have.
use Rattle.device.proofs.Common.{Answering, AreaReading, Awaiting, Bool, Deed, Describes, DeviceCore, Gathering}
use Rattle.device.proofs.Common.{IsDoing, IsReadingArea, Keeps, List, None, Option, Phase, Pin, PinsDiffer, ReadBlock}
use Rattle.device.proofs.Common.{ReadingArea, RpmbRequest, Sending, SendingBytes, Some, State, [], and_parts, ap, arith}
use Rattle.device.proofs.Common.{before_accepted, cond, eq_self, eqb-true, false, false≢true, filter, find}
use Rattle.device.proofs.Common.{greatest_command, has_room, inl, inr, is_pin_of, is_task_of, keeps_for}
use Rattle.device.proofs.Common.{le-leb, length, length-filter_both, length-map, list_any, map, most_tasks, nat_lt}
use Rattle.device.proofs.Common.{nat_tests, none-some, not, option_map, or_parts, other_way, refl, same_Some, slice_get}
use Rattle.device.proofs.Common.{slice_get_within, subst, suc, sym, task_of, true, wanted_by, wanted_in, wanted_kept}
use Rattle.device.proofs.Common.{wanted_of, ℕ, ◌*◌, ◌+◌, ◌<◌, ◌==◌, ◌||◌, ◌∙◌, ◌∷◌, ◌≡◌, ◌≤◌}
use Rattle.std.specs.Prelude.{◌&&◌}
use Rattle.std.specs.List.{AllByRecursion, IsDistinct}
use Rattle.std.proofs.Math.Dec.{eqb}
use Rattle.std.proofs.lemmas.Map.Steps.{length-le_from_distinct_below}
use Rattle.std.proofs.lemmas.Map.Views.{any-filter_same}
use Rattle.ufs_spec.specs.Exchanges as exchange
use Rattle.ufs_spec.specs.Exchanges.{Comparing}
use Rattle.power_loss.proofs.open_tasks.TaggedLists.{any_fewer}
use Rattle.task_set.specs.declared.tasks.Phase.TheVariants as phase
use Rattle.device.proofs.open_tasks.OpenTasks.{StandsOrNot, tag_stands}
use Rattle.device.specs.Describes.{keeps_pages}
use Rattle.device.proofs.open_tasks.PageEnds.{few_read}

any_found : {X : Type 0} (p : X → Bool) (xs : List X) (x : X) → find p xs ≡ Some x → list_any p xs ≡ true
any_found p [] x e = cc
any_found p (y ∷ ys) x e = by (p y) e (λ k. any_found p ys x k)
  where
    by : (b : Bool) → cond b (Some y) (find p ys) ≡ Some x → (find p ys ≡ Some x → list_any p ys ≡ true) →
        (b || list_any p ys) ≡ true
    by true k rest = refl
    by false k rest = rest k

-- Pins of one tag

abbrev of_tag : ℕ → Pin → Bool
of_tag tag pin = pin.tag == tag

abbrev indexes : ℕ → List Pin → List ℕ
indexes tag pins = map (λ (pin : Pin). pin.index) (filter (of_tag tag) pins)

-- where no pin of the tag has this index
none_of : (tag index : ℕ) (pins : List Pin) → list_any (is_pin_of tag index) pins ≡ false →
    AllByRecursion (λ y. eqb index y ≡ false) (indexes tag pins)
none_of tag index [] h = tt
none_of tag index (p ∷ pins) h =
    let both = or_parts (is_pin_of tag index p) (list_any (is_pin_of tag index) pins) h in
    by (p.tag == tag) both.0 (none_of tag index pins both.1)
  where
    by : (b : Bool) → (b && (p.index == index)) ≡ false → AllByRecursion (λ y. eqb index y ≡ false) (indexes tag pins) →
        AllByRecursion (λ y. eqb index y ≡ false)
        (map (λ (pin : Pin). pin.index) (cond b (p ∷ filter (of_tag tag) pins) (filter (of_tag tag) pins)))
    by true e rest = (other_way p.index index e, rest)
    by false e rest = rest

indexes_differ : (tag : ℕ) (pins : List Pin) → PinsDiffer pins → IsDistinct eqb (indexes tag pins)
unfolding IsDistinct
indexes_differ tag [] h = tt
indexes_differ tag (p ∷ pins) h = by (p.tag == tag) refl (indexes_differ tag pins h.1)
  where
    by : (b : Bool) → (p.tag == tag) ≡ b → IsDistinct eqb (indexes tag pins) →
        IsDistinct eqb
        (map (λ (pin : Pin). pin.index) (cond b (p ∷ filter (of_tag tag) pins) (filter (of_tag tag) pins)))
    by true e rest = (
      none_of tag p.index pins
          (subst (λ n. list_any (is_pin_of n p.index) pins ≡ false) (eqb-true p.tag tag e) h.0),
      rest,
    )
    by false e rest = rest

same_way : (m n : ℕ) → eqb m n ≡ (n == m)
same_way m n = grind (arith, nat_tests)

any_index : (tag index : ℕ) (pins : List Pin) →
    list_any (eqb index) (indexes tag pins) ≡ list_any (is_pin_of tag index) pins
any_index tag index [] = refl
any_index tag index (p ∷ pins) = by (p.tag == tag) (any_index tag index pins)
  where
    by : (b : Bool) → list_any (eqb index) (indexes tag pins) ≡ list_any (is_pin_of tag index) pins →
        list_any (eqb index)
        (map (λ (pin : Pin). pin.index) (cond b (p ∷ filter (of_tag tag) pins) (filter (of_tag tag) pins)))
        ≡ ((b && (p.index == index)) || list_any (is_pin_of tag index) pins)
    by true rest = λ i. same_way index p.index i || rest i
    by false rest = rest

-- no more than the indexes that there are
few_of : (tag : ℕ) (pins : List Pin) → PinsDiffer pins →
    ((index : ℕ) → list_any (is_pin_of tag index) pins ≡ true → index < greatest_command) →
    length (filter (of_tag tag) pins) ≤ greatest_command
few_of tag pins differ low =
    let most = length-le_from_distinct_below (indexes tag pins) greatest_command (indexes_differ tag pins differ)
    (λ q e. low q (sym (any_index tag q pins) ∙ e)) in
    let same = length-map (filter (of_tag tag) pins) (λ (pin : Pin). pin.index) in
    omega arith

-- Pins of all tasks

differ_left : (stays : Pin → Bool) (pins : List Pin) → PinsDiffer pins → PinsDiffer (filter stays pins)
differ_left stays [] h = tt
differ_left stays (p ∷ pins) h =
    by (stays p) (any_fewer (is_pin_of p.tag p.index) stays pins h.0) (differ_left stays pins h.1)
  where
    by : (b : Bool) → list_any (is_pin_of p.tag p.index) (filter stays pins) ≡ false →
        PinsDiffer (filter stays pins) → PinsDiffer (cond b (p ∷ filter stays pins) (filter stays pins))
    by true first rest = (first, rest)
    by false first rest = rest

-- each is of a task, and has an index that a command may have
abbrev AreOf : List exchange.Task → List Pin → Type 0
AreOf us pins = (tag index : ℕ) → list_any (is_pin_of tag index) pins ≡ true →
    (index < greatest_command) × (list_any (is_task_of tag) us ≡ true)

-- those that are not of the first task are of the others
are_left : (u : exchange.Task) (us : List exchange.Task) (pins : List Pin) → AreOf (u ∷ us) pins →
    AreOf us (filter (λ pin. not (of_tag u.tag pin)) pins)
are_left u us pins h tag index = by (tag == u.tag) refl
  where
    left : List Pin
    left = filter (λ pin. not (of_tag u.tag pin)) pins

    same : (b : Bool) → (tag == u.tag) ≡ b →
        list_any (is_pin_of tag index) left ≡ (not b && list_any (is_pin_of tag index) pins)
    same b e = any-filter_same (is_pin_of tag index) (λ pin. not (of_tag u.tag pin)) (not b)
        (λ pin is. ap not (ap (λ (n : ℕ). n == u.tag) (eqb-true pin.tag tag (and_parts _ _ is).0) ∙ e)) pins

    by : (b : Bool) → (tag == u.tag) ≡ b → list_any (is_pin_of tag index) left ≡ true →
        (index < greatest_command) × (list_any (is_task_of tag) us ≡ true)
    by true e there = absurd (false≢true (sym (same true e) ∙ there))
    by false e there =
        let its = h tag index (sym (same false e) ∙ there) in
        (its.0, ap (λ b. b || list_any (is_task_of tag) us) (sym (other_way tag u.tag e)) ∙ its.1)

few_pins : (us : List exchange.Task) (pins : List Pin) → PinsDiffer pins → AreOf us pins →
    length pins ≤ greatest_command * length us
few_pins [] [] differ h = omega arith
few_pins [] (p ∷ pins) differ h = absurd (false≢true (h p.tag p.index here).1)
  where
    here : list_any (is_pin_of p.tag p.index) (p ∷ pins) ≡ true
    here = ap (λ b. b || list_any (is_pin_of p.tag p.index) pins)
        (λ i. eq_self p.tag i && eq_self p.index i)
few_pins (u ∷ us) pins differ h =
    let mine = few_of u.tag pins differ (λ index e. (h u.tag index e).0) in
    let rest = few_pins us (filter (λ pin. not (of_tag u.tag pin)) pins)
    (differ_left (λ pin. not (of_tag u.tag pin)) pins differ) (are_left u us pins h) in
    let both = length-filter_both (of_tag u.tag) (λ pin. not (of_tag u.tag pin)) (λ pin. refl) pins in
    omega arith

-- What is kept

some_found : {X : Type 0} (p : X → Bool) (xs : List X) → list_any p xs ≡ true → (x : X) × (find p xs ≡ Some x)
some_found p [] h = absurd (false≢true h)
some_found p (x ∷ xs) h = by (p x) h (some_found p xs)
  where
    by : (b : Bool) → (b || list_any p xs) ≡ true → (list_any p xs ≡ true → (y : _) × (find p xs ≡ Some y)) →
        (y : _) × (cond b (Some x) (find p xs) ≡ Some y)
    by true e rest = (x, refl)
    by false e rest = rest e

-- what is wanted is of a block that is there
of_block : (index : ℕ) (wanted next : Bool) (blocks : List ReadBlock) →
    wanted_of next (slice_get blocks index) ≡ Some wanted → index < length blocks
of_block index wanted next blocks = by (slice_get blocks index) refl
  where
    by : (o : Option ReadBlock) → slice_get blocks index ≡ o → wanted_of next o ≡ Some wanted → index < length blocks
    by None at k = absurd (none-some wanted k)
    by (Some block) at k = slice_get_within blocks index block at

few_blocks : (before expected total : ℕ) (p : Phase) (blocks : List ReadBlock) (sent : ℕ) →
    IsDoing before expected total p (Sending blocks sent) → length blocks ≤ greatest_command
few_blocks before expected total (phase.SendBlocks x) blocks sent h =
    let count = h.count in let few = h.few in omega arith
few_blocks before expected total (phase.Answer told n) blocks sent h = h.few
few_blocks before expected total p blocks sent h = absurd h

few_compared : (before expected total : ℕ) (p : Phase) (blocks : List ReadBlock) (compared : ℕ) (asked : Bool) →
    IsDoing before expected total p (Comparing blocks compared asked) → length blocks ≤ greatest_command
few_compared before expected total (phase.AskBlock x) blocks compared asked h =
    let count = h.0.count in let few = h.0.few in omega (arith, count, few)
few_compared before expected total (phase.AwaitBlock x) blocks compared asked h =
    let count = h.0.count in let few = h.0.few in omega (arith, count, few)
few_compared before expected total (phase.Answer told n) blocks compared asked h = h.0.few
few_compared before expected total p blocks compared asked h = absurd h

-- a request for data reads one page or two
few_pages : (r : AreaReading) (total : ℕ) (pages : List ReadBlock) → IsReadingArea r total pages → length pages ≤ 2
few_pages r total pages h =
    let same : length (map (λ (page : ReadBlock). page.state) pages) ≡ length pages =
    length-map pages (λ (page : ReadBlock). page.state) in
    let reads = ap length h.reads in
    let few = few_read r in
    omega arith

read_page : (index : ℕ) (wanted : Bool) (pages : List ReadBlock) (b : Bool) →
    cond b (wanted_of true (slice_get pages index)) None ≡ Some wanted → index < length pages
read_page index wanted pages true k = of_block index wanted true pages k
read_page index wanted pages false k = absurd (none-some wanted k)

-- nothing is kept of a block that was handed out or compared
left_block : (index done : ℕ) (wanted : Bool) (blocks : List ReadBlock) (b : Bool) →
    cond b None (wanted_of (index == done) (slice_get blocks index)) ≡ Some wanted → index < length blocks
left_block index done wanted blocks true k = absurd (none-some wanted k)
left_block index done wanted blocks false k = of_block index wanted (index == done) blocks k

-- a task that keeps something sends or compares a command's blocks or reads pages, and this is one of them
few_doing : (before expected total index : ℕ) (wanted : Bool) (request : Option RpmbRequest) (p : Phase) (deed : Deed) →
    IsDoing before expected total p deed → wanted_in index request deed ≡ Some wanted → index < greatest_command
few_doing before expected total index wanted request p (Sending blocks sent) h e =
    let few = few_blocks before expected total p blocks sent h in
    let low = left_block index sent wanted blocks (nat_lt index sent) e in
    omega (arith, few, low)
few_doing before expected total index wanted request p (Comparing blocks compared asked) h e =
    let few = few_compared before expected total p blocks compared asked h in
    let low = left_block index compared wanted blocks (nat_lt index compared) e in
    omega (arith, few, low)
few_doing before expected total index wanted request (phase.ReadArea r) (ReadingArea pages) h e =
    let few = few_pages r total pages h in
    let low = read_page index wanted pages (keeps_pages request) e in
    omega arith
few_doing before expected total index wanted request (phase.Verify x) (ReadingArea pages) h e =
    let low = read_page index wanted pages (keeps_pages request) e in
    let count = h.count in
    let few = h.few in
    omega (arith, low, count, few)
few_doing before expected total index wanted request p (Gathering purpose gathered asked) h e =
    absurd (none-some wanted e)
few_doing before expected total index wanted request p (SendingBytes bytes) h e = absurd (none-some wanted e)
few_doing before expected total index wanted request p (Awaiting commands) h e = absurd (none-some wanted e)
few_doing before expected total index wanted request p (Answering told carried) h e = absurd (none-some wanted e)
few_doing before expected total index wanted request p (ReadingArea pages) h e = absurd h

kept_for_task : (d : DeviceCore) (s : State) → Keeps d s → AreOf s.tasks s.translation.pins
kept_for_task d s k tag index there =
    of_task (task_of tag s.tasks) refl (sym (k.wanted tag index) ∙ ap (option_map (λ (pin : Pin). pin.wanted)) found.1)
  where
    found : (pin : Pin) × (find (is_pin_of tag index) s.translation.pins ≡ Some pin)
    found = some_found (is_pin_of tag index) s.translation.pins there

    before : ℕ
    before = before_accepted s.translation.ledger

    its : (task : exchange.Task) → task_of tag s.tasks ≡ Some task →
        wanted_in index task.request task.deed ≡ Some found.0.wanted →
        StandsOrNot before tag d.tasks s.tasks → index < greatest_command
    its task is wanted (inl none) = absurd (none-some task (sym none.1 ∙ is))
    its task is wanted (inr r) =
        few_doing before r.a.expected r.b.length index found.0.wanted r.b.request r.a.phase r.b.deed
        r.opened.kept.doing
        (ap (λ (x : exchange.Task). wanted_in index x.request x.deed) (same_Some r.b task (sym r.found ∙ is)) ∙ wanted)

    of_task : (o : Option exchange.Task) → task_of tag s.tasks ≡ o → wanted_by index o ≡ Some found.0.wanted →
        (index < greatest_command) × (list_any (is_task_of tag) s.tasks ≡ true)
    of_task None is wanted = absurd (none-some found.0.wanted wanted)
    of_task (Some task) is wanted = (
      its task is wanted (tag_stands before tag d.tasks s.tasks k.tasks),
      any_found (is_task_of tag) s.tasks task is,
    )

-- some pin of the tag has an index
some_kept : (tag : ℕ) (pins : List Pin) → list_any (keeps_for tag) pins ≡ true →
    (index : ℕ) × (list_any (is_pin_of tag index) pins ≡ true)
some_kept tag [] h = absurd (false≢true h)
some_kept tag (p ∷ pins) h = by (p.tag == tag) refl h (some_kept tag pins)
  where
    by : (b : Bool) → (p.tag == tag) ≡ b → (b || list_any (keeps_for tag) pins) ≡ true →
        (list_any (keeps_for tag) pins ≡ true → (index : ℕ) × (list_any (is_pin_of tag index) pins ≡ true)) →
        (index : ℕ) × (list_any (is_pin_of tag index) (p ∷ pins) ≡ true)
    by true e k rest =
        (p.index, (λ i. (e i && eq_self p.index i) || list_any (is_pin_of tag p.index) pins))
    by false e k rest =
        let r = rest k in
        (r.0, ap (λ (b : Bool). (b && (p.index == r.0)) || list_any (is_pin_of tag r.0) pins) e ∙ r.1)

-- fewer tasks are left where one goes
one_fewer : (tag : ℕ) (us : List exchange.Task) (task : exchange.Task) → task_of tag us ≡ Some task →
    length (exchange.without_task tag us) < length us
one_fewer tag [] task found = absurd (none-some task found)
one_fewer tag (u ∷ us) task found = by (is_task_of tag u) found (one_fewer tag us task) (left us)
  where
    left : (xs : List exchange.Task) → length (exchange.without_task tag xs) ≤ length xs
    left xs =
        let both = length-filter_both (is_task_of tag) (λ x. not (is_task_of tag x)) (λ x. refl) xs in
        omega arith

    by : (b : Bool) → cond b (Some u) (task_of tag us) ≡ Some task →
        (task_of tag us ≡ Some task → length (exchange.without_task tag us) < length us) →
        length (exchange.without_task tag us) ≤ length us →
        length (cond (not b) (u ∷ exchange.without_task tag us) (exchange.without_task tag us)) < suc (length us)
    by true e rest fewer = omega arith
    by false e rest fewer = let less = rest e in omega arith

-- so a task more finds room for its blocks
pub pin_has_room : (d : DeviceCore) (s : State) (blocks : ℕ) → Describes d s → PinsDiffer s.translation.pins →
    length s.tasks < most_tasks → blocks ≤ greatest_command → has_room s.translation blocks ≡ true
pin_has_room d s blocks h differ few most =
    let pins = few_pins s.tasks s.translation.pins differ (kept_for_task d s h.kept) in
    le-leb (length s.translation.pins + blocks) (most_tasks * greatest_command) (omega arith)

-- A request for data

-- a tag for which nothing is wanted has no pins
pub none_kept : (tag : ℕ) (pins : List Pin) → ((index : ℕ) → wanted_kept pins tag index ≡ None) →
    list_any (keeps_for tag) pins ≡ false
none_kept tag pins none = by (list_any (keeps_for tag) pins) refl
  where
    by : (b : Bool) → list_any (keeps_for tag) pins ≡ b → list_any (keeps_for tag) pins ≡ false
    by false e = e
    by true e = absurd (not_none (some_kept tag pins e))
      where
        not_none : (index : ℕ) × (list_any (is_pin_of tag index) pins ≡ true) → ⊥
        not_none k =
            let found = some_found (is_pin_of tag k.0) pins k.1 in
            none-some found.0.wanted (sym (none k.0) ∙ ap (option_map (λ (pin : Pin). pin.wanted)) found.1)

-- so its task, which stands among all tasks, leaves room for two pages
pub area_has_room : (d : DeviceCore) (s : State) (tag : ℕ) (task : exchange.Task) → Keeps d s →
    PinsDiffer s.translation.pins → task_of tag s.tasks ≡ Some task →
    ((index : ℕ) → wanted_kept s.translation.pins tag index ≡ None) → length s.translation.pins + 2 ≤ (most_tasks * greatest_command)
area_has_room d s tag task k differ found none =
    let pins = few_pins (exchange.without_task tag s.tasks) s.translation.pins differ others in
    let fewer = one_fewer tag s.tasks task found in
    let few = k.few in
    omega arith
  where
    others : AreOf (exchange.without_task tag s.tasks) s.translation.pins
    others n index there = by (n == tag) refl (kept_for_task d s k n index there)
      where
        by : (b : Bool) → (n == tag) ≡ b → (index < greatest_command) × (list_any (is_task_of n) s.tasks ≡ true) →
            (index < greatest_command) × (list_any (is_task_of n) (exchange.without_task tag s.tasks) ≡ true)
        by true e its =
            let pin = some_found (is_pin_of n index) s.translation.pins there in
            absurd (none-some pin.0.wanted
            (sym (none index) ∙ (ap (λ (m : ℕ). wanted_kept s.translation.pins m index) (sym (eqb-true n tag e))
            ∙ ap (option_map (λ (x : Pin). x.wanted)) pin.1)))
        by false e its = (
          its.0,
          any-filter_same (is_task_of n) (λ task. not (is_task_of tag task)) true
              (λ (x : exchange.Task) is. ap not (ap (λ (m : ℕ). m == tag) (eqb-true x.tag n is) ∙ e)) s.tasks ∙ its.1,
        )
