use Rattle.recovery.proofs.Common.{IfOk-weaker, None, Some, arith, array_of, bad_of, length-map, map, subst}
use Rattle.recovery.proofs.settings_pages.SettingsPages.{IsSettingsPage, lies_there, none_says, page_says}
use Rattle.recovery.proofs.settings_pages.SettingsPages.{none_read, page_read, settings_there}
use Rattle.recovery.proofs.settings_found.found_settings.Goals as goal

pub settings_at-requires-clause-die : goal.settings_at-requires-clause-die
settings_at-requires-clause-die g c =
    let dies = map g.D.Die.state c.args.dies.now in
    let page : IsSettingsPage c.args.numbers.now (bad_of dies) (array_of dies) c.args.found.now
    (Some c.in-Some.content) =
    subst (IsSettingsPage c.args.numbers.now (bad_of dies) (array_of dies) c.args.found.now) c.in-Some.is
    (settings_there c.args.numbers.now (bad_of dies) (array_of dies) c.args.found.now c.as_slice.result.now
    c.settings_page.result c.requires.settings c.as_slice.ensures.value c.settings_page.ensures) in
    omega (
      arith,
      (lies_there c.args.numbers.now (bad_of dies) dies c.args.found.now c.requires.fit c.in-Some.content page).0,
      length-map c.args.dies.now g.D.Die.state,
    )

pub settings_at-requires-clause-there : goal.settings_at-requires-clause-there
settings_at-requires-clause-there g c =
    let dies = map g.D.Die.state c.args.dies.now in
    let page : IsSettingsPage c.args.numbers.now (bad_of dies) (array_of dies) c.args.found.now
    (Some c.in-Some.content) =
    subst (IsSettingsPage c.args.numbers.now (bad_of dies) (array_of dies) c.args.found.now) c.in-Some.is
    (settings_there c.args.numbers.now (bad_of dies) (array_of dies) c.args.found.now c.as_slice.result.now
    c.settings_page.result c.requires.settings c.as_slice.ensures.value c.settings_page.ensures) in
    (lies_there c.args.numbers.now (bad_of dies) dies c.args.found.now c.requires.fit c.in-Some.content page).1

pub returns-in-Some-clause-told : goal.returns-in-Some-clause-told
returns-in-Some-clause-told g c =
    let dies = map g.D.Die.state c.args.dies.now in
    let page : IsSettingsPage c.args.numbers.now (bad_of dies) (array_of dies) c.args.found.now
    (Some c.in-Some.content) =
    subst (IsSettingsPage c.args.numbers.now (bad_of dies) (array_of dies) c.args.found.now) c.in-Some.is
    (settings_there c.args.numbers.now (bad_of dies) (array_of dies) c.args.found.now c.as_slice.result.now
    c.settings_page.result c.requires.settings c.as_slice.ensures.value c.settings_page.ensures) in
    IfOk-weaker c.settings_at.result _ _
    (λ s told cells shown sound x holds.
    page_says c.args.numbers.now (bad_of dies) (array_of dies) c.args.found.now c.in-Some.content s told page
    cells shown sound x holds)
    c.settings_at.ensures.told

pub returns-in-None-clause-told : goal.returns-in-None-clause-told
returns-in-None-clause-told g c = λ cells shown sound x holds.
    let dies = map g.D.Die.state c.args.dies.now in
    let page : IsSettingsPage c.args.numbers.now (bad_of dies) (array_of dies) c.args.found.now None =
    subst (IsSettingsPage c.args.numbers.now (bad_of dies) (array_of dies) c.args.found.now) c.in-None.is
    (settings_there c.args.numbers.now (bad_of dies) (array_of dies) c.args.found.now c.as_slice.result.now
    c.settings_page.result c.requires.settings c.as_slice.ensures.value c.settings_page.ensures) in
    none_says c.args.numbers.now (bad_of dies) (array_of dies) c.args.found.now c.new.result c.new.ensures.zeros page
    cells shown sound x holds

pub returns-in-Some-clause-read : goal.returns-in-Some-clause-read
returns-in-Some-clause-read g c =
    let dies = map g.D.Die.state c.args.dies.now in
    IfOk-weaker c.settings_at.result _ _
    (λ s told. page_read c.args.numbers.now (array_of dies) c.as_slice.result.now c.args.found.now.contents.items
    c.settings_page.result s c.as_slice.ensures.value c.settings_page.ensures c.in-Some.content c.in-Some.is told)
    c.settings_at.ensures.told

pub returns-in-None-clause-read : goal.returns-in-None-clause-read
returns-in-None-clause-read g c =
    let dies = map g.D.Die.state c.args.dies.now in
    none_read c.args.numbers.now (array_of dies) c.as_slice.result.now c.args.found.now.contents.items
    c.settings_page.result c.new.result c.as_slice.ensures.value c.settings_page.ensures c.in-None.is c.new.ensures.zeros
