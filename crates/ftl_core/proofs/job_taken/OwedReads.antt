-- Which reads are owed to a die: those that readers, the step under way and pages that wait for their rests want of its
-- pages, where no die reads for them.
use Rattle.ftl_core.proofs.Common.{Bool, Core, Describes, Entry, Flight, ForRest, ForStep, ForTask, InSlot, Kept}
use Rattle.ftl_core.proofs.Common.{Ledger, List, Looked, Name, None, OnPage, Option, OwedSource, Pending, Pin, PinKept}
use Rattle.ftl_core.proofs.Common.{PinsKept, Place, Reader, Some, Step, StepKept, Translation, Unwritten, Want, []}
use Rattle.ftl_core.proofs.Common.{and_true, ap, append_assoc, arith, cons_option, entry_of, false, false≢true, filter}
use Rattle.ftl_core.proofs.Common.{filter-append, filter_map, find, find_some, if_false, if_true, if◌then◌else◌}
use Rattle.ftl_core.proofs.Common.{is_owed_by, list_any, look_of_source, looks_on, none_some, not, option_and_then}
use Rattle.ftl_core.proofs.Common.{option_map, owes_rest, own_name, reads_for, refl, rest_kept, rest_look, rest_of_name}
use Rattle.ftl_core.proofs.Common.{rest_read, rest_read_of, slice_get, some_flight, some_is, source_kept, step_read}
use Rattle.ftl_core.proofs.Common.{step_wants, subst, suc, sym, true, two_ways, want_at, wants_of_step, wants_on, zero}
use Rattle.ftl_core.proofs.Common.{ℕ, ⊎_elim, ◌&&◌, ◌++◌, ◌==◌, ◌||◌, ◌∙◌, ◌∷◌, ◌≡◌}
use Rattle.std.specs.Prelude.{Contains}
use Rattle.ufs_spec.specs.Translation as layer
use Rattle.ufs_spec.specs.Translation.{flies_reader, is_of_die, is_unread}
use Rattle.ufs_spec.specs.Translation.{want_from, want_of_look, want_of_pin, want_of_rest, want_of_source}
use Rattle.ftl_core.proofs.rests_owed.RestsNamed.{all_rests}
use Rattle.write_cache.specs.declared.rests.OwedSource.TheVariants as owed
use Rattle.write_cache.specs.declared.rests.Rest as cache
use Rattle.ftl_core.proofs.job_taken.Flown.{reads_agree}
use Rattle.block_table.specs.declared.rows.Flight.TheVariants as flight
use Rattle.ftl_core.specs.declared.books.Step.TheVariants as steps
use Rattle.ftl_core.specs.Takes as takes
use Rattle.ftl_core.specs.Takes.{step_read_at}
use Rattle.ftl_core.proofs.pins.FoundPins.{found_passes}

-- What a pin wants

-- the want is one that is still to be begun on the die
abbrev pub passes : (Want → Bool) → (Want → Bool) → Option Want → Bool
passes g h None = false
passes g h (Some w) = g w && h w

-- what a pin wants passes if its reader is owed the read of a page of the die
want_passes : (unread : Reader → Bool) (die : ℕ) (reader : Reader) (w u : Bool) (look : Looked) → u ≡ unread reader →
    (w && looks_on die look && u)
    ≡ passes (λ (x : Want). unread x.reader) (is_of_die die) (if w then want_of_look reader look else None)
want_passes unread die reader false u look same = refl
want_passes unread die reader true u Unwritten same = refl
want_passes unread die reader true u (InSlot name) same = refl
want_passes unread die reader true u (OnPage name place) same =
    turned (place.die == die) u ∙ (λ i. same i && (place.die == die))
  where
    turned : (a b : Bool) → (true && a && b) ≡ (b && a)
    turned true true = refl
    turned true false = refl
    turned false true = refl
    turned false false = refl

-- no die reads for the reader
abbrev is_free : Translation → Reader → Bool
is_free t reader = not (some_flight t (flies_reader reader))

pub owed_passes : (c : Core) (t : Translation) (die : ℕ) (p : Pin) (q : layer.Pin) → Kept c t →
    PinKept t.ledger.frontier (entry_of t.ledger) p q →
    is_owed_by c.rows die p ≡ passes (is_unread t) (is_of_die die) (want_of_pin q)
owed_passes c t die p q k h =
    want_passes (is_free t) die (ForTask p.reader p.index) p.wanted
    (not (list_any (reads_for (ForTask p.reader p.index)) c.rows)) p.looked (ap not (reads_agree c t (ForTask p.reader p.index) k))
    ∙ (λ i. passes (is_unread t) (is_of_die die)
    (if sym h.wanted i then want_of_look (ForTask (sym h.tag i) (sym h.index i)) (sym h.looked i) else None))

-- Lists of wants

module _ (g h : Want → Bool) where
  -- one that does not pass is not among those that do
  dropped : (o : Option Want) (ws : List Want) → passes g h o ≡ false →
      filter h (filter g (cons_option o ws)) ≡ filter h (filter g ws)
  dropped None ws fails = refl
  dropped (Some w) ws fails = by (g w) (h w) refl refl fails
    where
      by : (a b : Bool) → g w ≡ a → h w ≡ b → (a && b) ≡ false → filter h (filter g (w ∷ ws)) ≡ filter h (filter g ws)
      by true true e f clash = cc
      by true false e f clash =
          ap (filter h) (if_true (g w) (w ∷ filter g ws) (filter g ws) e)
          ∙ if_false (h w) (w ∷ filter h (filter g ws)) _ f
      by false b e f clash = ap (filter h) (if_false (g w) (w ∷ filter g ws) (filter g ws) e)

  -- where none passes, none is left
  none_left : (frontier : ℕ) (entries : Name → Option Entry) (owed : Pin → Bool) (ps : List Pin) (qs : List layer.Pin) →
      ((p : Pin) (q : layer.Pin) → PinKept frontier entries p q → owed p ≡ passes g h (want_of_pin q)) →
      PinsKept frontier entries ps qs → ((j : ℕ) (p : Pin) → slice_get ps j ≡ Some p → owed p ≡ false) →
      filter h (filter g (filter_map want_of_pin qs)) ≡ []
  none_left frontier entries owed [] [] same kept none = refl
  none_left frontier entries owed [] (q ∷ qs) same kept none = absurd kept
  none_left frontier entries owed (p ∷ ps) [] same kept none = absurd kept
  none_left frontier entries owed (p ∷ ps) (q ∷ qs) same kept none =
      dropped (want_of_pin q) (filter_map want_of_pin qs) (sym (same p q kept.0) ∙ none 0 p refl)
      ∙ none_left frontier entries owed ps qs same kept.1 (λ j x e. none (suc j) x e)

  -- what passes is among them
  pub kept_here : (w : Want) (ws : List Want) → passes g h (Some w) ≡ true → Contains (filter h (filter g (w ∷ ws))) w
  kept_here w ws does =
      let r = and_true (g w) (h w) does in
      subst (λ (xs : List Want). Contains xs w)
      (sym (ap (filter h) (if_true (g w) (w ∷ filter g ws) (filter g ws) r.0)
      ∙ if_true (h w) (w ∷ filter h (filter g ws)) _ r.1))
      (0, omega arith, refl)

  kept_behind : (o : Option Want) (ws : List Want) (w : Want) → Contains (filter h (filter g ws)) w →
      Contains (filter h (filter g (cons_option o ws))) w
  kept_behind None ws w has = has
  kept_behind (Some x) ws w has = by (g x) (h x) refl refl
    where
      by : (a b : Bool) → g x ≡ a → h x ≡ b → Contains (filter h (filter g (x ∷ ws))) w
      by true true e f =
          subst (λ (xs : List Want). Contains xs w)
          (sym (ap (filter h) (if_true (g x) (x ∷ filter g ws) (filter g ws) e)
          ∙ if_true (h x) (x ∷ filter h (filter g ws)) _ f))
          (let l = has.1 in (suc has.0, omega (arith, l), has.2))
      by true false e f = subst (λ (xs : List Want). Contains xs w) (sym (dropped (Some x) ws (λ i. e i && f i))) has
      by false b e f = subst (λ (xs : List Want). Contains xs w) (sym (dropped (Some x) ws (λ i. e i && h x))) has

  pub one_left : (qs : List layer.Pin) (k : ℕ) (q : layer.Pin) (w : Want) →
      slice_get qs k ≡ Some q → want_of_pin q ≡ Some w → passes g h (Some w) ≡ true →
      Contains (filter h (filter g (filter_map want_of_pin qs))) w
  one_left [] k q w at is does = absurd (none_some q at)
  one_left (x ∷ qs) zero q w at is does =
      subst (λ (o : Option Want). Contains (filter h (filter g (cons_option o (filter_map want_of_pin qs)))) w)
      (sym (ap want_of_pin (some_is x q at) ∙ is)) (kept_here w (filter_map want_of_pin qs) does)
  one_left (x ∷ qs) (suc k) q w at is does =
      kept_behind (want_of_pin x) (filter_map want_of_pin qs) w (one_left qs k q w at is does)

-- What a die is owed

-- the step under way wants one page or none
step_want : (l : Ledger) (kept : Option Step) (content : List ℕ) (step : Option layer.Step) →
    StepKept l kept content step → wants_of_step step ≡ cons_option (want_from (step_wants kept)) []
step_want l None content None h = refl
step_want l None content (Some s) h = absurd h
step_want l (Some (steps.Mark n fence)) content None h = absurd h
step_want l (Some (steps.Mark n fence)) content (Some s) h = ap (λ (x : layer.Step). wants_of_step (Some x)) h
step_want l (Some (steps.Repair n k from there)) content None h = absurd h
step_want l (Some (steps.Copy n k from read)) content None h = absurd h
step_want l (Some (steps.Copy n k from None)) content (Some s) h =
    ap (λ (x : layer.Step). wants_of_step (Some x)) h.1
step_want l (Some (steps.Copy n k from (Some read))) content (Some s) h =
    ap (λ (x : layer.Step). wants_of_step (Some x)) h.1
step_want l (Some (steps.Repair n k None true)) content (Some s) h =
    ap (λ (x : layer.Step). wants_of_step (Some x)) h.0
step_want l (Some (steps.Repair n k None false)) content (Some s) h =
    ap (λ (x : layer.Step). wants_of_step (Some x)) h.0
step_want l (Some (steps.Repair n k (Some at) true)) content (Some s) h =
    ap (λ (x : layer.Step). wants_of_step (Some x)) h.0
step_want l (Some (steps.Repair n k (Some at) false)) content (Some s) h =
    ap (λ (x : layer.Step). wants_of_step (Some x)) h.0

-- those of the wants that are still to be begun on the die
abbrev pub left : Translation → ℕ → List Want → List Want
left t die ws = filter (is_of_die die) (filter (is_unread t) ws)

left_joined : (t : Translation) (die : ℕ) (xs ys : List Want) → left t die (xs ++ ys) ≡ left t die xs ++ left t die ys
left_joined t die xs ys =
    ap (filter (is_of_die die)) (filter-append (is_unread t) xs ys)
    ∙ filter-append (is_of_die die) (filter (is_unread t) xs) (filter (is_unread t) ys)

-- what is left of what the step under way wants, and of what rests want
abbrev pub own_left : Core → Translation → ℕ → List Want
own_left c t die = left t die (cons_option (want_from (step_wants c.step)) [])
    ++ left t die (filter_map want_of_rest t.work.rests)

-- a die is owed what pins want of it, what the step under way wants, and what rests want
pub all_want : (c : Core) (t : Translation) (die : ℕ) → Kept c t →
    wants_on t die ≡ left t die (filter_map want_of_pin t.pins) ++ own_left c t die
all_want c t die k =
    ap (λ (ws : List Want). left t die (filter_map want_of_pin t.pins ++ ws ++ filter_map want_of_rest t.work.rests))
    (step_want t.ledger c.step c.content t.work.step k.work.step_is)
    ∙ left_joined t die (filter_map want_of_pin t.pins ++ cons_option (want_from (step_wants c.step)) [])
    (filter_map want_of_rest t.work.rests)
    ∙ ap (λ (ws : List Want). ws ++ left t die (filter_map want_of_rest t.work.rests))
    (left_joined t die (filter_map want_of_pin t.pins) (cons_option (want_from (step_wants c.step)) []))
    ∙ append_assoc (left t die (filter_map want_of_pin t.pins))
    (left t die (cons_option (want_from (step_wants c.step)) []))
    (left t die (filter_map want_of_rest t.work.rests))

-- where no reader is owed one, those of the step and of rests are left
pub step_left : (c : Core) (t : Translation) (die : ℕ) → Kept c t →
    ((j : ℕ) (p : Pin) → slice_get c.pins j ≡ Some p → is_owed_by c.rows die p ≡ false) →
    wants_on t die ≡ own_left c t die
step_left c t die k none =
    all_want c t die k
    ∙ ap (λ (ws : List Want). ws ++ own_left c t die)
    (none_left (is_unread t) (is_of_die die) t.ledger.frontier (entry_of t.ledger)
    (is_owed_by c.rows die) c.pins t.pins
    (λ p q h. owed_passes c t die p q k h) k.pins none)

-- whether the step's read is still to be begun on the die
pub step_free : (c : Core) (t : Translation) (die : ℕ) (place : Place) → Kept c t →
    passes (is_unread t) (is_of_die die) (Some (want_at ForStep place))
    ≡ (not (list_any (reads_for ForStep) c.rows) && (place.die == die))
step_free c t die place k = ap (λ (b : Bool). not b && (place.die == die)) (sym (reads_agree c t ForStep k))

-- where the step is owed none, none of it is left
pub no_step_left : (c : Core) (t : Translation) (die : ℕ) → Kept c t → step_read c die ≡ None →
    left t die (cons_option (want_from (step_wants c.step)) []) ≡ []
no_step_left c t die k unread = by (step_wants c.step) unread
  where
    passed : (a r : Bool) (f : Flight) → (if not a || r then None else Some f) ≡ None → (not r && a) ≡ false
    passed true true f e = refl
    passed true false f e = absurd (none_some f (sym e))
    passed false true f e = refl
    passed false false f e = refl

    by : (o : Option Place) → step_read_at c die o ≡ None → left t die (cons_option (want_from o) []) ≡ []
    by None e = refl
    by (Some place) e = dropped (is_unread t) (is_of_die die) (Some (want_at ForStep place)) []
        (step_free c t die place k
        ∙ passed (place.die == die) (list_any (reads_for ForStep) c.rows) (flight.Read place ForStep) e)

-- What rests want

-- what a page wants for its rest
rest_wanted : (own : Name) (rest : cache.Rest) →
    want_of_source (ForRest own.number own.index) (source_kept rest.source)
    ≡ option_map (want_at (ForRest own.number own.index)) (takes.place_in (rest_look (Some rest)))
rest_wanted own rest = by rest.source
  where
    by : (s : OwedSource) → want_of_source (ForRest own.number own.index) (source_kept s)
        ≡ option_map (want_at (ForRest own.number own.index)) (takes.place_in (look_of_source s))
    by (owed.Page name place) = refl
    by (owed.Slot name) = refl

-- what each pending page wants, if it wants anything
abbrev pub page_want : Pending → Option Want
page_want p = option_map (want_at (ForRest p.number p.index)) (takes.place_in (rest_look p.rest))

pages_want : (ps : List Pending) → filter_map want_of_rest (filter_map rest_kept ps) ≡ filter_map page_want ps
pages_want [] = refl
pages_want (p ∷ ps) = by p.rest refl (pages_want ps)
  where
    by : (o : Option cache.Rest) → p.rest ≡ o →
        filter_map want_of_rest (filter_map rest_kept ps) ≡ filter_map page_want ps →
        filter_map want_of_rest (cons_option (rest_kept p) (filter_map rest_kept ps))
        ≡ cons_option (page_want p) (filter_map page_want ps)
    by None e behind =
        ap (λ (o : Option cache.Rest). filter_map want_of_rest
        (cons_option (rest_of_name (own_name p) o) (filter_map rest_kept ps))) e
        ∙ behind
        ∙ sym (ap (λ (o : Option cache.Rest). cons_option
        (option_map (want_at (ForRest p.number p.index)) (takes.place_in (rest_look o))) (filter_map page_want ps)) e)
    by (Some rest) e behind =
        ap (λ (o : Option cache.Rest). filter_map want_of_rest
        (cons_option (rest_of_name (own_name p) o) (filter_map rest_kept ps))) e
        ∙ (λ i. cons_option (rest_wanted (own_name p) rest i) (behind i))
        ∙ sym (ap (λ (o : Option cache.Rest). cons_option
        (option_map (want_at (ForRest p.number p.index)) (takes.place_in (rest_look o))) (filter_map page_want ps)) e)

pub rests_want : (c : Core) (t : Translation) → Describes c t →
    filter_map want_of_rest t.work.rests ≡ filter_map page_want c.pages
rests_want c t h = ap (filter_map want_of_rest) (all_rests c t h) ∙ pages_want c.pages

-- it passes if the page is owed the read of a page of the die
pub page_passes : (c : Core) (t : Translation) (die : ℕ) (p : Pending) → Kept c t →
    owes_rest c.rows die p ≡ passes (is_unread t) (is_of_die die) (page_want p)
page_passes c t die p k = by (rest_look p.rest)
  where
    by : (l : Looked) → (looks_on die l && not (list_any (reads_for (ForRest p.number p.index)) c.rows))
        ≡ passes (is_unread t) (is_of_die die) (option_map (want_at (ForRest p.number p.index)) (takes.place_in l))
    by Unwritten = refl
    by (InSlot name) = refl
    by (OnPage name place) =
        turned (place.die == die) (not (list_any (reads_for (ForRest p.number p.index)) c.rows))
        ∙ ap (λ (b : Bool). not b && (place.die == die)) (reads_agree c t (ForRest p.number p.index) k)
      where
        turned : (a b : Bool) → (a && b) ≡ (b && a)
        turned true true = refl
        turned true false = refl
        turned false true = refl
        turned false false = refl

module _ (g h : Want → Bool) where
  none_wanted : (ps : List Pending) → ((j : ℕ) (p : Pending) → slice_get ps j ≡ Some p →
      passes g h (page_want p) ≡ false) → filter h (filter g (filter_map page_want ps)) ≡ []
  none_wanted [] none = refl
  none_wanted (p ∷ ps) none =
      dropped g h (page_want p) (filter_map page_want ps) (none 0 p refl)
      ∙ none_wanted ps (λ j q e. none (suc j) q e)

  pub one_wanted : (ps : List Pending) (k : ℕ) (p : Pending) (w : Want) → slice_get ps k ≡ Some p →
      page_want p ≡ Some w → passes g h (Some w) ≡ true → Contains (filter h (filter g (filter_map page_want ps))) w
  one_wanted [] k p w at is does = absurd (none_some p at)
  one_wanted (x ∷ ps) zero p w at is does =
      subst (λ (o : Option Want). Contains (filter h (filter g (cons_option o (filter_map page_want ps)))) w)
      (sym (ap page_want (some_is x p at) ∙ is)) (kept_here g h w (filter_map page_want ps) does)
  one_wanted (x ∷ ps) (suc k) p w at is does =
      kept_behind g h (page_want x) (filter_map page_want ps) w (one_wanted ps k p w at is does)

-- where no page is owed the read of its rest, none of these is left
no_rest_left : (c : Core) (t : Translation) (die : ℕ) → Describes c t → rest_read c die ≡ None →
    left t die (filter_map want_of_rest t.work.rests) ≡ []
no_rest_left c t die h unread =
    ap (left t die) (rests_want c t h)
    ∙ none_wanted (is_unread t) (is_of_die die) c.pages
    (λ j p at. sym (page_passes c t die p h.kept) ∙ not_owed j p at)
  where
    -- a page that is owed a read has one
    has_read : (p : Pending) → owes_rest c.rows die p ≡ true → rest_read_of p ≡ None → ⊥
    has_read p owes = by (rest_look p.rest) (and_true (looks_on die (rest_look p.rest)) _ owes).0
      where
        by : (l : Looked) → looks_on die l ≡ true →
            option_map (λ place. flight.Read place (ForRest p.number p.index)) (takes.place_in l) ≡ None → ⊥
        by (OnPage name place) e is = none_some _ (sym is)
        by Unwritten e is = false≢true e
        by (InSlot name) e is = false≢true e

    found : (o : Option Pending) → find (owes_rest c.rows die) c.pages ≡ o → option_and_then rest_read_of o ≡ None →
        o ≡ None
    found None e is = refl
    found (Some p) e is = absurd (has_read p (found_passes (owes_rest c.rows die) c.pages p e) is)

    none : find (owes_rest c.rows die) c.pages ≡ None
    none = found (find (owes_rest c.rows die) c.pages) refl unread

    not_owed : (j : ℕ) (p : Pending) → slice_get c.pages j ≡ Some p → owes_rest c.rows die p ≡ false
    not_owed j p at = ⊎_elim
        (λ is. let r = find_some (owes_rest c.rows die) c.pages j p at is in
        absurd (none_some r.0 (sym none ∙ r.1)))
        (λ no. no)
        (two_ways (owes_rest c.rows die p))

-- where neither a reader nor the device itself is owed one, none is owed to the die
pub none_read : (c : Core) (t : Translation) (die : ℕ) → Describes c t →
    ((j : ℕ) (p : Pin) → slice_get c.pins j ≡ Some p → is_owed_by c.rows die p ≡ false) → step_read c die ≡ None →
    rest_read c die ≡ None → wants_on t die ≡ []
none_read c t die h none unread unowed =
    step_left c t die h.kept none
    ∙ (λ i. no_step_left c t die h.kept unread i ++ no_rest_left c t die h unowed i)
