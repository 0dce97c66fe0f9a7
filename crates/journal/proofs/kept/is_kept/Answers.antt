use Rattle.std.proofs.Common.{◌≡◌, ◌<◌, ◌≤◌, ◌∙◌, ◌==◌, ℕ, length, refl, sym, subst, map, ap, arith, ⊎_elim, take, Bool}
use Rattle.std.proofs.lemmas.Bool.{cases_lt, leb-true}
use Rattle.std.proofs.lemmas.List.{get_or-map, length-map}
use Rattle.ufs_spec.specs.Plain.{Plain}
use Rattle.journal.specs.Entries.{CanCome, IsAfter, boot_shown, noted_of, permanent_shown, same_flag, surely}
use Rattle.journal.specs.Entries.{surely_after}
use Rattle.journal.proofs.EntryFacts.{come_at, fold_more}
use Rattle.journal.proofs.KeptEntries.{IsKnown, if_not_ok, made_shown, shown_made}
use Rattle.journal.proofs.kept.is_kept.Goals as goal
use Rattle.journal.proofs.kept.is_kept.Goals.{then-index-held+in-Err, else-index-held}
use Rattle.journal.proofs.kept.is_kept.Goals.{then-held-entries, else-held-entries}

pub loop-index-init : goal.loop-index-init
loop-index-init c = record {
  shape = c.requires.shape;
  now = refl;
  boot = c.over-may.ensures.boot;
  permanent = c.over-may.ensures.permanent;
  none = λ k low high. absurd (omega arith);
}

pub returns-in-Ok-clause-kept : goal.returns-in-Ok-clause-kept
returns-in-Ok-clause-kept c =
    λ _.
    let i = c.loop-index.index in
    let es = take i (map noted_of c.args.entries.now) in
    let known : IsKnown es c.args.base c.args.rest.now c.loop-index.plain c.loop-index.may =
    (c.loop-index.invariant.now, c.loop-index.invariant.boot, c.loop-index.invariant.permanent) in
    let less = c.loop-index-test.true in
    let early = c.if-index-held.true in
    let shows = shown_made es c.args.base (map (λ v. v.items) c.args.found.now) c.args.rest.now c.loop-index.plain
    c.loop-index.may known (c.in-Ok.ensures.same refl) in
    (i, omega (arith, early), omega (arith, less), shows.0, shows.1, shows.2)

pub returns-then-not-can_come-clause-lost : goal.returns-then-not-can_come-clause-lost
returns-then-not-can_come-clause-lost c =
    λ _ all k low high p after shown.
    let i = c.loop-index.index in
    let entry = c.index-entries-index.result in
    let entries = c.args.entries.now in
    let here = get_or-map noted_of entries i entry (noted_of entry) c.loop-index-test.true in
    let long = length-map entries noted_of in
    let less = c.loop-index-test.true in
    let can = come_at c.args.base (map noted_of entries) i (noted_of entry) all (omega (arith, long, less)) in
    absurd (c.can_come.ensures.cannot c.if-not-can_come.true
    (subst (λ (q : Plain). CanCome q (noted_of entry)) (sym c.loop-index.invariant.now)
    (subst (CanCome (surely_after c.args.base (take i (map noted_of entries))))
    (here ∙ ap noted_of (sym c.index-entries-index.is)) can)))

pub loop-index-preserved : goal.loop-index-preserved
loop-index-preserved c = record {
  shape = c.follow.ensures.shape;
  now =
      let i = c.loop-index.index in
      let entry = c.index-entries-index.result in
      let entries = c.args.entries.now in
      let here = get_or-map noted_of entries i entry (noted_of entry) c.loop-index-test.true in
      let long = length-map entries noted_of in
      let less = c.loop-index-test.true in
      let more = fold_more surely c.args.base (map noted_of entries) i (noted_of entry) (omega (arith, long, less)) in
      c.follow.ensures.followed
      ∙ ap (λ (q : Plain). surely q (noted_of entry)) c.loop-index.invariant.now
      ∙ ap (surely (surely_after c.args.base (take i (map noted_of entries))))
      (sym (here ∙ ap noted_of (sym c.index-entries-index.is)))
      ∙ sym more;
  boot =
      let i = c.loop-index.index in
      let entry = c.index-entries-index.result in
      let entries = c.args.entries.now in
      let b = c.args.rest.now.boot in
      let here = get_or-map noted_of entries i entry (noted_of entry) c.loop-index-test.true in
      let long = length-map entries noted_of in
      let less = c.loop-index-test.true in
      let more = fold_more (boot_shown b) (c.args.base.boot == b) (map noted_of entries) i (noted_of entry)
      (omega (arith, long, less)) in
      c.after-may.ensures.boot
      ∙ ap (λ (s : Bool). boot_shown b s (noted_of entry)) c.loop-index.invariant.boot
      ∙ ap (boot_shown b _) (sym (here ∙ ap noted_of (sym c.index-entries-index.is)))
      ∙ sym more;
  permanent =
      let i = c.loop-index.index in
      let entry = c.index-entries-index.result in
      let entries = c.args.entries.now in
      let f = c.args.rest.now.is_permanent in
      let here = get_or-map noted_of entries i entry (noted_of entry) c.loop-index-test.true in
      let long = length-map entries noted_of in
      let less = c.loop-index-test.true in
      let more = fold_more (permanent_shown f) (same_flag c.args.base.permanent f) (map noted_of entries) i
      (noted_of entry) (omega (arith, long, less)) in
      c.after-may.ensures.permanent
      ∙ ap (λ (s : Bool). permanent_shown f s (noted_of entry)) c.loop-index.invariant.permanent
      ∙ ap (permanent_shown f _) (sym (here ∙ ap noted_of (sym c.index-entries-index.is)))
      ∙ sym more;
  none =
      λ k low high.
      ⊎_elim
      (λ (less : k < c.loop-index.index). c.loop-index.invariant.none k low less)
      (λ (past : c.loop-index.index ≤ k).
      let same : c.loop-index.index ≡ k = omega (arith, past, high) in
      elim c.if-index-held.branch [
        | then-index-held+in-Err w ↦
            λ p after shown.
            let known : IsKnown (take c.loop-index.index (map noted_of c.args.entries.now)) c.args.base
            c.args.rest.now c.loop-index.plain c.loop-index.may =
            (c.loop-index.invariant.now, c.loop-index.invariant.boot, c.loop-index.invariant.permanent) in
            w.in-Err.ensures.other
            (made_shown (take c.loop-index.index (map noted_of c.args.entries.now)) c.args.base
            (map (λ v. v.items) c.args.found.now) c.args.rest.now c.loop-index.plain c.loop-index.may known p
            (subst (λ (j : ℕ). IsAfter c.args.base (take j (map noted_of c.args.entries.now)) p) (sym same) after)
            shown)
        | else-index-held w ↦ let early = w.if-index-held.false in absurd (omega (arith, early, low, past))
      ])
      (cases_lt k c.loop-index.index);
}

pub returns-clause-kept : goal.returns-clause-kept
returns-clause-kept c =
    λ told.
    let i = c.loop-index.index in
    let es = take i (map noted_of c.args.entries.now) in
    let known : IsKnown es c.args.base c.args.rest.now c.loop-index.plain c.loop-index.may =
    (c.loop-index.invariant.now, c.loop-index.invariant.boot, c.loop-index.invariant.permanent) in
    elim c.if-held-entries.branch [
      | then-held-entries w ↦
          let shows = shown_made es c.args.base (map (λ v. v.items) c.args.found.now) c.args.rest.now
          c.loop-index.plain c.loop-index.may known
          (w.compare-then-held-entries.ensures.same (sym w.is_ok.ensures.value ∙ sym w.result-is ∙ told)) in
          let few = w.if-held-entries.true in
          let end = c.loop-index.auto.index-end in
          let past = c.loop-index-test.false in
          (i, omega (arith, few, past), omega (arith, end), shows.0, shows.1, shows.2)
      | else-held-entries w ↦
          let few = leb-true c.args.held (length c.args.entries.now) (sym w.result-is ∙ told) in
          let many = w.if-held-entries.false in
          absurd (omega (arith, few, many))
    ]

pub returns-clause-lost : goal.returns-clause-lost
returns-clause-lost c =
    λ told all k low high p after shown.
    let i = c.loop-index.index in
    let es = take i (map noted_of c.args.entries.now) in
    let known : IsKnown es c.args.base c.args.rest.now c.loop-index.plain c.loop-index.may =
    (c.loop-index.invariant.now, c.loop-index.invariant.boot, c.loop-index.invariant.permanent) in
    ⊎_elim
    (λ (less : k < i). c.loop-index.invariant.none k low less p after shown)
    (λ (past : i ≤ k).
    let end = c.loop-index-test.false in
    let same : i ≡ k = omega (arith, past, high, end) in
    let shows = made_shown es c.args.base (map (λ v. v.items) c.args.found.now) c.args.rest.now c.loop-index.plain
    c.loop-index.may known p
    (subst (λ (j : ℕ). IsAfter c.args.base (take j (map noted_of c.args.entries.now)) p) (sym same) after) shown in
    elim c.if-held-entries.branch [
      | then-held-entries w ↦
          if_not_ok w.compare-then-held-entries.result _ (sym w.is_ok.ensures.value ∙ sym w.result-is ∙ told)
          w.compare-then-held-entries.ensures.other shows
      | else-held-entries w ↦ let many = w.if-held-entries.false in absurd (omega (arith, many, low, high))
    ])
    (cases_lt k i)
