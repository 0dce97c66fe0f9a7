use Rattle.recovery.proofs.Common.{AreWithin, Cells, DieState, IsFound, IsTable, List, Numbers, Shows, Table, array_of}
use Rattle.recovery.proofs.Common.{bad_of, false≢true, map, newest_in, refl, subst, sym, ◌∙◌, ◌≡◌}
use Rattle.ufs_spec.specs.Sound.{CellsSuit}
use Rattle.power_loss.proofs.die_pages.BlankOutsideDies.{fit_inside}
use Rattle.recovery.proofs.settings_pages.SettingsPages.{has_settings, still_found}
use Rattle.recovery.proofs.table_facts.TableFacts.{bads_of, frontiers_fit, records_fit, shown_in_range}
use Rattle.recovery.proofs.tables.Whole.{shown_within}
use Rattle.recovery.specs.Scanned.{IsTableOver}
use Rattle.recovery.specs.Stood.{AreReadSettings}
use Rattle.recovery.proofs.standing_for.FoundStands.{found_stands}
use Rattle.recovery.proofs.found.found_over.Goals as goal

pub returns-then-not-is_of_config-clause-fault : goal.returns-then-not-is_of_config-clause-fault
returns-then-not-is_of_config-clause-fault g c = λ cells shown.
    let over = subst (λ n. IsTableOver n (map g.D.Die.state c.args.dies.now) c.args.table)
    (sym c.numbers-numbers.ensures.value) c.requires.read in
    let table = over cells shown in (
      newest_in c.args.table,
      table.newest,
      λ suit.
          false≢true (sym c.if-not-is_of_config.true ∙ (c.is_of_config.ensures cells table).1
          (subst (λ n. CellsSuit n cells (newest_in c.args.table)) (sym c.numbers-numbers.ensures.value) suit)),
    )

pub found_in-requires-clause-pages : goal.found_in-requires-clause-pages
found_in-requires-clause-pages g c =
    let over = subst (λ n. IsTableOver n (map g.D.Die.state c.args.dies.now) c.args.table)
    (sym c.numbers-numbers.ensures.value) c.requires.read in
    frontiers_fit c.numbers-numbers.result.now (array_of (map g.D.Die.state c.args.dies.now)) c.args.table
    over

pub found_in-requires-clause-marks : goal.found_in-requires-clause-marks
found_in-requires-clause-marks g c =
    let over = subst (λ n. IsTableOver n (map g.D.Die.state c.args.dies.now) c.args.table)
    (sym c.numbers-numbers.ensures.value) c.requires.read in
    records_fit c.numbers-numbers.result.now (array_of (map g.D.Die.state c.args.dies.now)) c.args.table
    over

pub found_settings-requires-clause-settings : goal.found_settings-requires-clause-settings
found_settings-requires-clause-settings g c = λ cells now.
    let dies = map g.D.Die.state c.args.dies.now in
    let over = subst (λ n. IsTableOver n (map g.D.Die.state c.args.dies.now) c.args.table)
    (sym c.numbers-numbers.ensures.value) c.requires.read in
    let table = over cells now in
    let is = c.numbers-numbers.ensures.value in
    has_settings c.numbers-numbers.result.now cells (bad_of dies) c.in-Ok-found_in.found
    (c.in-Ok-found_in.ensures cells (bad_of dies) table (shown_in_range (array_of dies) cells now)
    (subst (λ n. AreWithin n cells) (sym is) (shown_within c.args.config.now dies cells c.requires.fit now))
    ((c.is_of_config.ensures cells table).0 c.if-not-is_of_config.false)
    (c.as_slice.ensures.value
    ∙ bads_of g.D.Die.state c.numbers-numbers.result.now c.args.config.now c.args.dies.now c.args.dies.now
    c.in-Ok.bad.items is c.requires.fit refl c.in-Ok.ensures.in_order))

-- behind the check the cells suit
does_suit : (n m : Numbers) (dies : List DieState) (t : Table) → m ≡ n → IsTableOver n dies t →
    ((c : Cells) → IsTable m c t → CellsSuit m c (newest_in t)) → (c : Cells) → Shows (array_of dies) c →
    CellsSuit n c (newest_in t)
does_suit n m dies t is over suits c shown =
    subst (λ (k : Numbers). CellsSuit k c (newest_in t)) is
    (suits c (subst (λ (k : Numbers). IsTable k c t) (sym is) (over c shown)))

pub returns-clause-told : goal.returns-clause-told
returns-clause-told g c =
    let found : (cells : Cells) → Shows (array_of (map g.D.Die.state c.args.dies.now)) cells →
    IsFound c.args.config.now cells (bad_of (map g.D.Die.state c.args.dies.now)) _ = λ cells shown.
    let dies = map g.D.Die.state c.args.dies.now in
    let over = subst (λ n. IsTableOver n (map g.D.Die.state c.args.dies.now) c.args.table)
    (sym c.numbers-numbers.ensures.value) c.requires.read in
    let table = over cells shown in
    let is = c.numbers-numbers.ensures.value in
    still_found c.args.config.now cells (bad_of dies) c.in-Ok-found_in.found c.in-Ok-found_settings.settings
    (subst (λ n. IsFound n cells (bad_of dies) c.in-Ok-found_in.found) is
    (c.in-Ok-found_in.ensures cells (bad_of dies) table (shown_in_range (array_of dies) cells shown)
    (subst (λ n. AreWithin n cells) (sym is) (shown_within c.args.config.now dies cells c.requires.fit shown))
    ((c.is_of_config.ensures cells table).0 c.if-not-is_of_config.false)
    (c.as_slice.ensures.value
    ∙ bads_of g.D.Die.state c.numbers-numbers.result.now c.args.config.now c.args.dies.now c.args.dies.now
    c.in-Ok.bad.items is c.requires.fit refl c.in-Ok.ensures.in_order))) in
    let dies = map g.D.Die.state c.args.dies.now in
    record {
      found = found;
      stands =
          found_stands c.args.config.now (array_of dies) (bad_of dies) _
          (fit_inside c.args.config.now dies c.requires.fit) found;
      read_settings =
          subst
          (λ (n : Numbers). AreReadSettings n (array_of dies) c.in-Ok-found_in.found.contents.items
          c.in-Ok-found_settings.settings) c.numbers-numbers.ensures.value c.in-Ok-found_settings.ensures.read;
      settings = c.in-Ok-found_settings.ensures.told;
    }

-- so where they do not, no later end is reached
pub returns-clause-unsuited : goal.returns-clause-unsuited
returns-clause-unsuited g c = λ cells shown no.
    absurd (no (does_suit c.args.config.now c.numbers-numbers.result.now (map g.D.Die.state c.args.dies.now) c.args.table
    c.numbers-numbers.ensures.value c.requires.read
    (λ cs table. (c.is_of_config.ensures cs table).0 c.if-not-is_of_config.false) cells shown))
